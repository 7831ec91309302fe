-- Terms read from the end of a word, and words written from a stack of terms.
use Rattle.std.proofs.Common.{◌≡◌, ℕ, zero, suc, ◌+◌, ◌-◌, ◌<◌, ◌≤◌, true, true≢false, List, [], ◌∷◌, ◌++◌, length, take, drop, get_or, get_or-take, reverse, Some, slice_get, All, inl, inr, refl, sym, ap, ap₂, subst, ◌∙◌, append_assoc, length-append, drop-cons, arith}
use Rattle.std.specs.List.{flat_map}
use Rattle.std.specs.Option.{IfSome}
use Rattle.std.proofs.lemmas.Bool.{cases_lt}
use Rattle.std.proofs.lemmas.List.{append-nil, reverse-append, reverse-reverse, length-take, length-take-le, length-drop, take-append-drop}
use Rattle.std.proofs.lemmas.List.Elements.{All-append}
use Rattle.std.proofs.lemmas.Grind.{flat_map-append}
use Rattle.std.proofs.lemmas.Option.{slice_get_within, slice_get-get_or, same_Some}
use Rattle.mg_word.specs.Table.{Symbol}
use Rattle.mg_word.specs.Words.{are_terms, fits}
use Rattle.mg_word.proofs.AppliedWords.{at_symbol}
use Rattle.mg_word.proofs.Different.{element}
use Rattle.term_store.specs.Terms.{Term, term_of, word_at, weight_together, IsStore, IsOver, AddsAtMost}
use Rattle.term_store.specs.Terms.IsOver.{over}
use Rattle.term_store.specs.Reading.{IsTermOf, IsSubterm, GrowsBy, ArePending, IsApplied}
use Rattle.term_store.proofs.Numbers.{reverse_push, all_reversed, get_or_same}
use Rattle.term_store.proofs.TableTerms.{listed_fit, count_unique, suffix_terms, over_within, over_fits, over_stays}
use Rattle.term_store.proofs.WordsGrow.{word_is, word_stays, flat_map_same, store_push, get_front, get_last}

get_take : {X : Type 0} (n : ℕ) (xs : List X) (place : ℕ) (x : X) → slice_get (take n xs) place ≡ Some x → slice_get xs place ≡ Some x
get_take n xs place x is =
    ap (λ l. slice_get l place) (sym (take-append-drop n xs)) ∙ (get_front (take n xs) (drop n xs) place (slice_get_within (take n xs) place x is) ∙ is)

get_drop : {X : Type 0} (n : ℕ) (xs : List X) (place : ℕ) (x : X) → slice_get (drop n xs) place ≡ Some x → (k : ℕ) × (slice_get xs k ≡ Some x)
get_drop zero xs place x is = (place, is)
get_drop (suc n) [] place x is = (place, is)
get_drop (suc n) (y ∷ xs) place x is = let found = get_drop n xs place x is in (suc found.0, found.1)

-- one term is taken off the stack: its symbol is written and its arguments are put on
pub word_step : (terms : List Term) (whole symbols rest arguments : List ℕ) (number symbol : ℕ) → IsStore terms → slice_get terms number ≡ Some (term_of symbol arguments)
    → whole ≡ symbols ++ flat_map (word_at terms) (reverse (rest ++ number ∷ [])) → whole ≡ (symbols ++ symbol ∷ []) ++ flat_map (word_at terms) (reverse (rest ++ reverse arguments))
word_step terms whole symbols rest arguments number symbol store is so_far =
    let words = flat_map (word_at terms) in
    let top : words (reverse (rest ++ number ∷ [])) ≡ (symbol ∷ words arguments) ++ words (reverse rest) =
    ap words (reverse_push rest number) ∙ ap (λ l. l ++ words (reverse rest)) (word_is terms number (term_of symbol arguments) store is) in
    let pushed : words (reverse (rest ++ reverse arguments)) ≡ words arguments ++ words (reverse rest) =
    ap words (reverse-append rest (reverse arguments) ∙ ap (λ l. l ++ reverse rest) (reverse-reverse arguments)) ∙ flat_map-append (word_at terms) arguments (reverse rest) in
    so_far ∙ (ap (λ l. symbols ++ l) top ∙ (sym (append_assoc symbols (symbol ∷ []) (words arguments ++ words (reverse rest))) ∙ ap (λ l. (symbols ++ symbol ∷ []) ++ l) (sym pushed)))

-- the arguments of a term that is held are held
pub arguments_held : (terms : List Term) (rest arguments : List ℕ) (number symbol : ℕ) → IsStore terms → slice_get terms number ≡ Some (term_of symbol arguments)
    → All (λ n. n < length terms) rest → All (λ n. n < length terms) (rest ++ reverse arguments)
arguments_held terms rest arguments number symbol store is held =
    let within = slice_get_within terms number (term_of symbol arguments) is in
    All-append (λ n. n < length terms) rest (reverse arguments) held
    (all_reversed (λ n. n < length terms) arguments (λ k d inside. omega (arith, store.closed number (term_of symbol arguments) is k d inside)))

-- as long as a term is on the stack, the word is longer than what was written
pub word_left : (terms : List Term) (whole symbols rest : List ℕ) (number : ℕ) → IsStore terms → number < length terms → whole ≡ symbols ++ flat_map (word_at terms) (reverse (rest ++ number ∷ [])) → length symbols < length whole
word_left terms whole symbols rest number store within so_far =
    let found = element terms number within in
    let top : flat_map (word_at terms) (reverse (rest ++ number ∷ [])) ≡ (found.0.symbol ∷ flat_map (word_at terms) found.0.arguments) ++ flat_map (word_at terms) (reverse rest) =
    ap (flat_map (word_at terms)) (reverse_push rest number) ∙ ap (λ l. l ++ flat_map (word_at terms) (reverse rest)) (word_is terms number found.0 store found.1) in
    let size : length whole ≡ length symbols + suc (length (flat_map (word_at terms) found.0.arguments ++ flat_map (word_at terms) (reverse rest))) =
    ap length (so_far ∙ ap (λ l. symbols ++ l) top) ∙ length-append symbols (found.0.symbol ∷ (flat_map (word_at terms) found.0.arguments ++ flat_map (word_at terms) (reverse rest))) in
    omega (arith, size)

-- what stands in the way of a symbol whose arguments are the first pending terms
pub record IsStep (table : List Symbol) (symbol arity : ℕ) (numbers : List ℕ) : Type 0 where
  pub entry : Symbol
  pub known : slice_get table symbol ≡ Some entry
  pub arity_is : arity ≡ entry.arity
  pub many : arity ≤ length numbers

-- a symbol of the word is reached, and the terms behind it are pending
pub record IsReached (table : List Symbol) (terms : List Term) (word : List ℕ) (at symbol arity : ℕ) (numbers : List ℕ) : Type 0 where
  pub store : IsStore terms
  pub fit : fits table word ≡ true
  pub pending : ArePending table terms word (at + 1) numbers
  pub within : at < length word
  pub is : symbol ≡ get_or word at symbol
  pub has : IfSome (slice_get table symbol) (λ entry. arity ≡ entry.arity)

pub reached : (table : List Symbol) (terms : List Term) (word read numbers : List ℕ) (place arity : ℕ) → 0 < place → place ≤ length word → read ≡ word → IsStore terms → fits table word ≡ true
    → ArePending table terms word place numbers → IfSome (slice_get table (get_or read (place - 1) 0)) (λ entry. arity ≡ entry.arity) → IsReached table terms word (place - 1) (get_or read (place - 1) 0) arity numbers
reached table terms word read numbers place arity some within same store fit pending has = record {
  store = store;
  fit = fit;
  pending = subst (λ n. ArePending table terms word n numbers) (omega arith) pending;
  within = omega arith;
  is = ap (λ l. get_or l (place - 1) 0) same ∙ get_or_same word (place - 1) 0 (get_or read (place - 1) 0) (omega arith);
  has = has;
}

module _ (table : List Symbol) (terms : List Term) (word : List ℕ) (at symbol arity : ℕ) (numbers : List ℕ) (here : IsReached table terms word at symbol arity numbers) where
  open here use {store, fit, pending, within, is, has}

  from_here : drop at word ≡ symbol ∷ drop (at + 1) word
  from_here =
      let next : suc at ≡ at + 1 = omega arith in
      drop-cons word at symbol within ∙ ap₂ (λ x n. x ∷ drop n word) (sym is) next

  pub symbol_step : IsStep table symbol arity numbers
  symbol_step =
      let suffix = suffix_terms table word 1 at fit (omega arith) in
      let behind = listed_fit table terms numbers (λ place number there. over_fits table terms number store (pending.over place number there)) in
      by suffix.0 (ap (λ l. are_terms table suffix.0 l) (sym from_here) ∙ suffix.1) (ap (are_terms table (length numbers)) (sym pending.words) ∙ behind)
    where
      by : (count : ℕ) → are_terms table count (symbol ∷ drop (at + 1) word) ≡ true → are_terms table (length numbers) (drop (at + 1) word) ≡ true → IsStep table symbol arity numbers
      by zero fit behind = absurd (true≢false (sym fit))
      by (suc count) fit behind = at_symbol table symbol count (drop (at + 1) word) fit (λ entry known rest.
          let arity_is : arity ≡ entry.arity = subst (λ found. IfSome found (λ (one : Symbol). arity ≡ one.arity)) known has in
          let counts = count_unique table (drop (at + 1) word) (length numbers) (entry.arity + count) behind rest in
          record { entry = entry; known = known; arity_is = arity_is; many = omega (arith, counts, arity_is) })

  pub arguments_within : All (λ number. number < length terms) (take arity numbers)
  arguments_within k d inside =
      let more : length (take arity numbers) ≤ length numbers = omega (arith, length-take arity numbers) in
      let below : k < arity = omega (arith, inside, length-take arity numbers) in
      let at_k : get_or (take arity numbers) k d ≡ get_or numbers k d = get_or-take arity numbers k d below in
      over_within table terms (get_or (take arity numbers) k d) (pending.over k (get_or (take arity numbers) k d) (slice_get-get_or numbers k d (omega (arith, more)) ∙ ap Some (sym at_k)))

  pub arguments_light : weight_together terms (take arity numbers) < length word
  arguments_light =
      let whole : flat_map (word_at terms) (take arity numbers) ++ flat_map (word_at terms) (drop arity numbers) ≡ drop (at + 1) word =
      sym (flat_map-append (word_at terms) (take arity numbers) (drop arity numbers)) ∙ (ap (flat_map (word_at terms)) (take-append-drop arity numbers) ∙ pending.words) in
      omega (arith, ap length whole, length-append (flat_map (word_at terms) (take arity numbers)) (flat_map (word_at terms) (drop arity numbers)), length-drop (at + 1) word)

  module _ (new : List Term) (adds : AddsAtMost terms new (term_of symbol (take arity numbers))) where
    more_terms : (more : List Term) × (new ≡ terms ++ more)
    more_terms = elim adds [ inl same ↦ ([], same ∙ sym (append-nil terms)) | inr added ↦ (term_of symbol (take arity numbers) ∷ [], added.0) ]

    pub store_after : IsStore new
    store_after = elim adds [
      | inl same ↦ subst IsStore (sym same) store
      | inr added ↦ subst IsStore (sym added.0) (store_push terms (term_of symbol (take arity numbers)) store added.1 arguments_within)
    ]

    keeps_over : (number : ℕ) → IsOver table terms number → IsOver table new number
    keeps_over number there = subst (λ all. IsOver table all number) (sym more_terms.1) (over_stays table terms more_terms.0 number there)

    keeps_word : (number : ℕ) → number < length terms → word_at new number ≡ word_at terms number
    keeps_word number inside = ap (λ all. word_at all number) more_terms.1 ∙ word_stays terms more_terms.0 number inside

    words_after : flat_map (word_at new) numbers ≡ drop (at + 1) word
    words_after = flat_map_same (word_at new) (word_at terms) numbers (λ place n there. keeps_word n (over_within table terms n (pending.over place n there))) ∙ pending.words

    over_after : (number : ℕ) → slice_get new number ≡ Some (term_of symbol (take arity numbers)) → IsOver table new number
    over_after number held =
        let step = symbol_step in
        over number (term_of symbol (take arity numbers)) step.entry held step.known (length-take-le arity numbers step.many ∙ step.arity_is)
        (λ place argument there. keeps_over argument (pending.over place argument (get_take arity numbers place argument there)))

    stands_after : (number : ℕ) → slice_get new number ≡ Some (term_of symbol (take arity numbers)) → drop at word ≡ word_at new number ++ flat_map (word_at new) (drop arity numbers)
    stands_after number held =
        let cut : drop (at + 1) word ≡ flat_map (word_at new) (take arity numbers) ++ flat_map (word_at new) (drop arity numbers) =
        sym words_after ∙ (ap (flat_map (word_at new)) (sym (take-append-drop arity numbers)) ∙ flat_map-append (word_at new) (take arity numbers) (drop arity numbers)) in
        from_here ∙ (ap (λ l. symbol ∷ l) cut ∙ ap (λ l. l ++ flat_map (word_at new) (drop arity numbers)) (sym (word_is new number (term_of symbol (take arity numbers)) store_after held)))

    pub pending_after : (left : List ℕ) → IsApplied symbol arity numbers new left → ArePending table new word at left
    pending_after left applied = subst (ArePending table new word at) (sym applied.left) (record {
      over = over_left;
      words = sym (stands_after applied.number applied.held);
    })
      where
        over_left : (place number : ℕ) → slice_get (applied.number ∷ drop arity numbers) place ≡ Some number → IsOver table new number
        over_left zero number there = subst (IsOver table new) (same_Some applied.number number there) (over_after applied.number applied.held)
        over_left (suc place) number there = let found = get_drop arity numbers place number there in keeps_over number (pending.over found.0 number found.1)

    pub grown_after : (old : List Term) → GrowsBy table word old terms → GrowsBy table word old new
    grown_after old grown = record {
      more = grown.more ++ more_terms.0;
      kept = more_terms.1 ∙ (ap (λ l. l ++ more_terms.0) grown.kept ∙ append_assoc old grown.more more_terms.0);
      subterms = λ number past inside. elim (cases_lt number (length terms)) [ inl held ↦ kept number held (grown.subterms number past held) | inr late ↦ added number late inside ];
    }
      where
        kept : (number : ℕ) → number < length terms → IsSubterm table terms word number → IsSubterm table new word number
        kept number held part = record {
          over = keeps_over number part.over;
          front = part.front;
          back = part.back;
          stands = part.stands ∙ ap (λ l. part.front ++ (l ++ part.back)) (sym (keeps_word number held));
        }

        at_last : (number : ℕ) → number ≡ length terms → new ≡ terms ++ term_of symbol (take arity numbers) ∷ [] → IsSubterm table new word number
        at_last number last is_new =
            let held : slice_get new number ≡ Some (term_of symbol (take arity numbers)) = ap₂ slice_get is_new last ∙ get_last terms (term_of symbol (take arity numbers)) in
            record {
              over = over_after number held;
              front = take at word;
              back = flat_map (word_at new) (drop arity numbers);
              stands = sym (take-append-drop at word) ∙ ap (λ l. take at word ++ l) (stands_after number held);
            }

        added : (number : ℕ) → length terms ≤ number → number < length new → IsSubterm table new word number
        added number late inside = elim adds [
          | inl same ↦ absurd (omega (arith, ap length same))
          | inr one ↦ at_last number (omega (arith, ap length one.0, length-append terms (term_of symbol (take arity numbers) ∷ []))) one.0
        ]

pub grown_none : (table : List Symbol) (word : List ℕ) (terms : List Term) → GrowsBy table word terms terms
grown_none table word terms = record { more = []; kept = sym (append-nil terms); subterms = λ number past within. absurd (omega arith) }

-- the whole word read is one term
pub read_whole : (table : List Symbol) (terms : List Term) (word rest : List ℕ) (number : ℕ) → IsStore terms → fits table word ≡ true → ArePending table terms word 0 (reverse (rest ++ number ∷ [])) → IsTermOf table terms word number
read_whole table terms word rest number store fit pending =
    let turned : ArePending table terms word 0 (number ∷ reverse rest) = subst (ArePending table terms word 0) (reverse_push rest number) pending in
    let behind = listed_fit table terms (number ∷ reverse rest) (λ place n there. over_fits table terms n store (turned.over place n there)) in
    let counts : length (number ∷ reverse rest) ≡ 1 = count_unique table word (length (number ∷ reverse rest)) 1 (ap (are_terms table (length (number ∷ reverse rest))) (sym turned.words) ∙ behind) fit in
    let none : reverse rest ≡ [] = empty (reverse rest) (omega (arith, counts)) in
    record { over = turned.over zero number refl; is = sym (append-nil (word_at terms number)) ∙ (ap (λ l. word_at terms number ++ flat_map (word_at terms) l) (sym none) ∙ turned.words) }
  where
    empty : (xs : List ℕ) → length xs ≡ 0 → xs ≡ []
    empty [] same = refl
    empty (x ∷ xs) same = absurd (omega (arith, same))
