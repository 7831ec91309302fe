-- Terms over one table: their words fit it, no word is the front of another, and equal words are words of one term.
use Rattle.std.proofs.Common.{◌≡◌, ℕ, zero, suc, ◌+◌, ◌<◌, ◌≤◌, true, true≢false, List, [], ◌∷◌, ◌++◌, length, take, drop, Some, slice_get, refl, sym, ap, ap₂, subst, ◌∙◌, arith}
use Rattle.std.specs.List.{flat_map}
use Rattle.std.proofs.lemmas.List.{append_cancel_left}
use Rattle.std.proofs.lemmas.Option.{slice_get_within, same_Some}
use Rattle.std.proofs.Math.Seq.{take-append_seam}
use Rattle.mg_word.specs.Table.{Symbol}
use Rattle.mg_word.specs.Words.{are_terms, fits}
use Rattle.mg_word.proofs.AppliedWords.{at_symbol, behind_symbol}
use Rattle.mg_word.proofs.Different.{number_unique}
use Rattle.mg_meaning.specs.Matching.{terms_length}
use Rattle.mg_meaning.proofs.Terms.{terms_length-append}
use Rattle.term_store.specs.Terms.{Term, word_at, IsStore, IsOver}
use Rattle.term_store.specs.Terms.IsOver.{over}
use Rattle.term_store.proofs.WordsGrow.{word_is, get_front}

module _ (table : List Symbol) where
  recount : (m n : ℕ) (word : List ℕ) → m ≡ n → are_terms table m word ≡ true → are_terms table n word ≡ true
  recount m n word same fit = subst (λ k. are_terms table k word ≡ true) same fit

  pub terms_joined : (front back : List ℕ) (first second : ℕ) → are_terms table first front ≡ true → are_terms table second back ≡ true → are_terms table (first + second) (front ++ back) ≡ true
  terms_joined [] back zero second one two = recount second (0 + second) back (omega arith) two
  terms_joined [] back (suc first) second one two = absurd (true≢false (sym one))
  terms_joined (symbol ∷ front) back zero second one two = absurd (true≢false (sym one))
  terms_joined (symbol ∷ front) back (suc first) second one two =
      let further = λ (n : ℕ) (fit : are_terms table n front ≡ true). terms_joined front back n second fit two in
      at_symbol table symbol first front one (λ held is rest.
      recount (suc (first + second)) (suc first + second) (symbol ∷ front ++ back) (omega arith)
      (behind_symbol table symbol (first + second) (front ++ back) held is (recount (held.arity + first + second) (held.arity + (first + second)) (front ++ back) (omega arith) (further (held.arity + first) rest))))

  -- a list is so many terms for one count alone
  pub count_unique : (word : List ℕ) (m n : ℕ) → are_terms table m word ≡ true → are_terms table n word ≡ true → m ≡ n
  count_unique [] zero zero one two = refl
  count_unique [] zero (suc n) one two = absurd (true≢false (sym two))
  count_unique [] (suc m) n one two = absurd (true≢false (sym one))
  count_unique (symbol ∷ word) zero n one two = absurd (true≢false (sym one))
  count_unique (symbol ∷ word) (suc m) zero one two = absurd (true≢false (sym two))
  count_unique (symbol ∷ word) (suc m) (suc n) one two =
      let further = count_unique word in
      at_symbol table symbol m word one (λ held is rest.
      at_symbol table symbol n word two (λ other at more.
      let same : held ≡ other = same_Some held other (sym is ∙ at) in
      let counts = further (held.arity + m) (held.arity + n) rest (subst (λ (one : Symbol). are_terms table (one.arity + n) word ≡ true) (sym same) more) in
      omega (arith, counts)))

  -- what is left of terms is terms again
  pub suffix_terms : (word : List ℕ) (wanted at : ℕ) → are_terms table wanted word ≡ true → at ≤ length word → (count : ℕ) × (are_terms table count (drop at word) ≡ true)
  suffix_terms word wanted zero fit within = (wanted, fit)
  suffix_terms [] wanted (suc at) fit within = absurd (omega arith)
  suffix_terms (symbol ∷ word) zero (suc at) fit within = absurd (true≢false (sym fit))
  suffix_terms (symbol ∷ word) (suc wanted) (suc at) fit within =
      let further = λ (n : ℕ) (rest : are_terms table n word ≡ true). suffix_terms word n at rest (omega arith) in
      at_symbol table symbol wanted word fit (λ held is rest. further (held.arity + wanted) rest)

  module _ (terms : List Term) where
    pub listed_fit : (numbers : List ℕ) → ((place number : ℕ) → slice_get numbers place ≡ Some number → fits table (word_at terms number) ≡ true) → are_terms table (length numbers) (flat_map (word_at terms) numbers) ≡ true
    listed_fit [] each = refl
    listed_fit (number ∷ numbers) each =
        recount (1 + length numbers) (suc (length numbers)) (flat_map (word_at terms) (number ∷ numbers)) (omega arith)
        (terms_joined (word_at terms number) (flat_map (word_at terms) numbers) 1 (length numbers) (each zero number refl) (listed_fit numbers (λ place n is. each (suc place) n is)))

    pub over_within : (number : ℕ) → IsOver table terms number → number < length terms
    over_within number (over _ term symbol is known many each) = slice_get_within terms number term is

    -- the word of a term over the table fits it
    pub over_fits : (number : ℕ) → IsStore terms → IsOver table terms number → fits table (word_at terms number) ≡ true
    over_fits number store (over _ term symbol is known many each) =
        let rest = listed_fit term.arguments (λ place argument there. over_fits argument store (each place argument there)) in
        subst (λ word. fits table word ≡ true) (sym (word_is terms number term store is))
        (behind_symbol table term.symbol 0 (flat_map (word_at terms) term.arguments) symbol known (recount (length term.arguments) (symbol.arity + 0) (flat_map (word_at terms) term.arguments) (omega (arith, many)) rest))

    -- two lists of terms with the same symbols
    lists_same : (xs ys : List ℕ) → length xs ≡ length ys → flat_map (word_at terms) xs ≡ flat_map (word_at terms) ys
        → ((place a : ℕ) → slice_get xs place ≡ Some a → fits table (word_at terms a) ≡ true)
        → ((place b : ℕ) → slice_get ys place ≡ Some b → fits table (word_at terms b) ≡ true)
        → ((place a b : ℕ) → slice_get xs place ≡ Some a → slice_get ys place ≡ Some b → word_at terms a ≡ word_at terms b → a ≡ b) → xs ≡ ys
    lists_same [] [] many same left right go = refl
    lists_same [] (b ∷ ys) many same left right go = absurd (omega (arith, many))
    lists_same (a ∷ xs) [] many same left right go = absurd (omega (arith, many))
    lists_same (a ∷ xs) (b ∷ ys) many same left right go =
        let one = terms_length-append table (word_at terms a) (flat_map (word_at terms) xs) 1 (left zero a refl) in
        let two = terms_length-append table (word_at terms b) (flat_map (word_at terms) ys) 1 (right zero b refl) in
        let sizes : length (word_at terms a) ≡ length (word_at terms b) = same_Some (length (word_at terms a)) (length (word_at terms b)) (sym one ∙ (ap (terms_length table 1) same ∙ two)) in
        let words : word_at terms a ≡ word_at terms b =
        sym (take-append_seam (word_at terms a) (flat_map (word_at terms) xs)) ∙ (ap₂ take sizes same ∙ take-append_seam (word_at terms b) (flat_map (word_at terms) ys)) in
        let rests : flat_map (word_at terms) xs ≡ flat_map (word_at terms) ys =
        append_cancel_left (word_at terms a) (flat_map (word_at terms) xs) (flat_map (word_at terms) ys) (same ∙ ap (λ word. word ++ flat_map (word_at terms) ys) (sym words)) in
        ap₂ (λ z zs. z ∷ zs) (go zero a b refl refl words)
        (lists_same xs ys (omega (arith, many)) rests (λ place x is. left (suc place) x is) (λ place x is. right (suc place) x is) (λ place x y is at. go (suc place) x y is at))

    -- two terms over the table with the same word are the same
    pub same_number : (a b : ℕ) → IsStore terms → IsOver table terms a → IsOver table terms b → word_at terms a ≡ word_at terms b → a ≡ b
    same_number a b store (over _ term symbol is known many each) (over _ other symbol' at there many' each') same =
        let words : term.symbol ∷ flat_map (word_at terms) term.arguments ≡ other.symbol ∷ flat_map (word_at terms) other.arguments =
        sym (word_is terms a term store is) ∙ (same ∙ word_is terms b other store at) in
        let symbols : term.symbol ≡ other.symbol = cc in
        let rests : flat_map (word_at terms) term.arguments ≡ flat_map (word_at terms) other.arguments = cc in
        let entries : symbol ≡ symbol' = same_Some symbol symbol' (sym known ∙ (ap (slice_get table) symbols ∙ there)) in
        let arities : length term.arguments ≡ length other.arguments = many ∙ (ap (λ (s : Symbol). s.arity) entries ∙ sym many') in
        let arguments = lists_same term.arguments other.arguments arities rests
        (λ place n here. over_fits n store (each place n here)) (λ place n here. over_fits n store (each' place n here))
        (λ place x y here hence like. same_number x y store (each place x here) (each' place y hence) like) in
        let terms_are : term ≡ other = λ i. record { symbol = symbols i; arguments = arguments i } in
        number_unique terms store.different a b other (is ∙ ap Some terms_are) at

  -- a term stays over the table where others are added
  pub over_stays : (terms more : List Term) (number : ℕ) → IsOver table terms number → IsOver table (terms ++ more) number
  over_stays terms more number (over _ term symbol is known many each) =
      over number term symbol (get_front terms more number (slice_get_within terms number term is) ∙ is) known many (λ place argument there. over_stays terms more argument (each place argument there))
