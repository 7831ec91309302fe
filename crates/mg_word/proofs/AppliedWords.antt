-- Terms one after another, cut into the single terms and joined from them.
use Rattle.std.proofs.Common.{◌≡◌, ℕ, zero, suc, ◌+◌, true, false, true≢false, List, [], ◌∷◌, ◌++◌, length, Option, Some, None, slice_get, refl, sym, ap, subst, ◌∙◌, arith}
use Rattle.std.specs.List.{list_all, concat}
use Rattle.std.specs.Option.{option_map_or}
use Rattle.std.proofs.lemmas.Bool.{and_parts, and_from}
use Rattle.mg_word.specs.Table.{Symbol}
use Rattle.mg_word.specs.Words.{are_terms, fits}
use Rattle.mg_word.specs.WordLaws.{IsApplied, WordsAreApplied}

module _ (table : List Symbol) where
  -- the first symbol of terms that are wanted, and what follows it
  pub at_symbol : {P : Type 0} (symbol wanted : ℕ) (word : List ℕ) → are_terms table (suc wanted) (symbol ∷ word) ≡ true
      → ((held : Symbol) → slice_get table symbol ≡ Some held → are_terms table (held.arity + wanted) word ≡ true → P) → P
  at_symbol {P} symbol wanted word fit go = by (slice_get table symbol) refl fit
    where
      by : (found : Option Symbol) → slice_get table symbol ≡ found → option_map_or (λ entry. are_terms table (entry.arity + wanted) word) found false ≡ true → P
      by None is fit = absurd (true≢false (sym fit))
      by (Some held) is fit = go held is fit

  -- the count of terms may be written otherwise
  recount : (m n : ℕ) (word : List ℕ) → m ≡ n → are_terms table m word ≡ true → are_terms table n word ≡ true
  recount m n word same fit = subst (λ k. are_terms table k word ≡ true) same fit

  -- a symbol goes before its arguments and further terms
  pub behind_symbol : (symbol wanted : ℕ) (word : List ℕ) (held : Symbol) → slice_get table symbol ≡ Some held → are_terms table (held.arity + wanted) word ≡ true → are_terms table (suc wanted) (symbol ∷ word) ≡ true
  behind_symbol symbol wanted word held is fit = ap (λ found. option_map_or (λ entry. are_terms table (entry.arity + wanted) word) found false) is ∙ fit

  -- terms in two parts
  record Parts (first second : ℕ) (word : List ℕ) : Type 0 where
    front : List ℕ
    back : List ℕ
    whole : word ≡ front ++ back
    before : are_terms table first front ≡ true
    after : are_terms table second back ≡ true

  cut : (word : List ℕ) (first second : ℕ) → are_terms table (first + second) word ≡ true → Parts first second word
  cut word zero second fit = record { front = []; back = word; whole = refl; before = refl; after = recount (0 + second) second word (omega arith) fit }
  cut [] (suc first) second fit = absurd (true≢false (sym (recount (suc first + second) (suc (first + second)) [] (omega arith) fit)))
  cut (symbol ∷ word) (suc first) second fit =
      let further = λ (n : ℕ). cut word n second in
      at_symbol symbol (first + second) word (recount (suc first + second) (suc (first + second)) (symbol ∷ word) (omega arith) fit) (λ held is rest.
      let parts = further (held.arity + first) (recount (held.arity + (first + second)) (held.arity + first + second) word (omega arith) rest) in
      record { front = symbol ∷ parts.front; back = parts.back; whole = ap (λ l. symbol ∷ l) parts.whole; before = behind_symbol symbol first parts.front held is parts.before; after = parts.after })

  join : (front back : List ℕ) (first second : ℕ) → are_terms table first front ≡ true → are_terms table second back ≡ true → are_terms table (first + second) (front ++ back) ≡ true
  join [] back zero second one two = recount second (0 + second) back (omega arith) two
  join [] back (suc first) second one two = absurd (true≢false (sym one))
  join (symbol ∷ front) back zero second one two = absurd (true≢false (sym one))
  join (symbol ∷ front) back (suc first) second one two =
      let further = λ (n : ℕ) (fit : are_terms table n front ≡ true). join front back n second fit two in
      at_symbol symbol first front one (λ held is rest.
      recount (suc (first + second)) (suc first + second) (symbol ∷ front ++ back) (omega arith)
      (behind_symbol symbol (first + second) (front ++ back) held is (recount (held.arity + first + second) (held.arity + (first + second)) (front ++ back) (omega arith) (further (held.arity + first) rest))))

  -- so many terms, each by itself
  record Singles (count : ℕ) (word : List ℕ) : Type 0 where
    terms : List (List ℕ)
    many : length terms ≡ count
    each : list_all (fits table) terms ≡ true
    joined : word ≡ concat terms

  singles : (count : ℕ) (word : List ℕ) → are_terms table count word ≡ true → Singles count word
  singles zero [] fit = record { terms = []; many = refl; each = refl; joined = refl }
  singles zero (symbol ∷ word) fit = absurd (true≢false (sym fit))
  singles (suc count) word fit =
      let parts = cut word 1 count (recount (suc count) (1 + count) word (omega arith) fit) in
      let rest = singles count parts.back parts.after in
      record {
        terms = parts.front ∷ rest.terms;
        many = ap suc rest.many;
        each = and_from (fits table parts.front) (list_all (fits table) rest.terms) parts.before rest.each;
        joined = parts.whole ∙ ap (λ l. parts.front ++ l) rest.joined;
      }

  from_singles : (terms : List (List ℕ)) → list_all (fits table) terms ≡ true → are_terms table (length terms) (concat terms) ≡ true
  from_singles [] each = refl
  from_singles (term ∷ terms) each =
      let parts = and_parts (fits table term) (list_all (fits table) terms) each in
      recount (1 + length terms) (suc (length terms)) (term ++ concat terms) (omega arith) (join term (concat terms) 1 (length terms) parts.0 (from_singles terms parts.1))

  applied : (word : List ℕ) → fits table word ≡ true → IsApplied table word
  applied [] fit = absurd (true≢false (sym fit))
  applied (symbol ∷ word) fit =
      at_symbol symbol 0 word fit (λ held is rest.
      let all = singles held.arity word (recount (held.arity + 0) held.arity word (omega arith) rest) in
      record { number = symbol; symbol = held; arguments = all.terms; held = is; many = all.many; terms = all.each; joined = ap (λ l. symbol ∷ l) all.joined })

  from_applied : (word : List ℕ) → IsApplied table word → fits table word ≡ true
  from_applied word is =
      let rest = recount (length is.arguments) (is.symbol.arity + 0) (concat is.arguments) (omega (arith, is.many)) (from_singles is.arguments is.terms) in
      subst (λ l. fits table l ≡ true) (sym is.joined) (behind_symbol is.number 0 (concat is.arguments) is.symbol is.held rest)

-- a word fits exactly where it is a symbol with its arguments
pub words_applied : WordsAreApplied
words_applied table word = (applied table word, from_applied table word)
