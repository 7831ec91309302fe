-- Whether a word is one term, symbol by symbol.
use Rattle.std.proofs.Common.{◌≡◌, ℕ, zero, suc, ◌+◌, ◌-◌, ◌<◌, ◌≤◌, false, List, [], ◌∷◌, length, drop, get_or, Option, None, Some, slice_get, IfSome, refl, ap, ◌∙◌, arith}
use Rattle.std.specs.Option.{option_map_or}
use Rattle.std.proofs.lemmas.List.{at_drop_more, length-drop}
use Rattle.std.proofs.lemmas.Option.{slice_get_past}
use Rattle.mg_word.specs.Table.{Symbol}
use Rattle.mg_word.specs.Words.{are_terms}

-- a word with fewer symbols than terms are wanted
pub terms_short : (table : List Symbol) (wanted : ℕ) (word : List ℕ) → length word < wanted → are_terms table wanted word ≡ false
terms_short table zero word short = absurd (omega arith)
terms_short table (suc wanted) [] short = refl
terms_short table (suc wanted) (symbol ∷ word) short = by (slice_get table symbol) (λ arity. terms_short table (arity + wanted) word (omega arith))
  where
    by : (entry : Option Symbol) → ((arity : ℕ) → are_terms table (arity + wanted) word ≡ false) → option_map_or (λ entry. are_terms table (entry.arity + wanted) word) entry false ≡ false
    by None rest = refl
    by (Some entry) rest = rest entry.arity

module _ (table : List Symbol) (word : List ℕ) (at : ℕ) where
  -- what is left begins with the symbol at that place
  rest_is : (wanted : ℕ) → at < length word → are_terms table wanted (drop at word) ≡ are_terms table wanted (get_or word at 0 ∷ drop (at + 1) word)
  rest_is wanted within = at_drop_more (are_terms table wanted) word at 0 within

  pub terms_over : at < length word → are_terms table 0 (drop at word) ≡ false
  terms_over within = rest_is 0 within

  pub terms_few : (wanted : ℕ) → length word - at < wanted → are_terms table wanted (drop at word) ≡ false
  terms_few wanted short = terms_short table wanted (drop at word) (rw (length-drop at word) short)

  pub terms_unknown : (wanted : ℕ) → at < length word → length table ≤ get_or word at 0 → are_terms table wanted (drop at word) ≡ false
  terms_unknown zero within past = rest_is zero within
  terms_unknown (suc wanted) within past =
      rest_is (suc wanted) within ∙ ap (λ entry. option_map_or (λ (one : Symbol). are_terms table (one.arity + wanted) (drop (at + 1) word)) entry false) (slice_get_past table (get_or word at 0) past)

  pub terms_more : (wanted arity : ℕ) → at < length word → 0 < wanted → get_or word at 0 < length table → IfSome (slice_get table (get_or word at 0)) (λ (entry : Symbol). arity ≡ entry.arity)
      → are_terms table wanted (drop at word) ≡ are_terms table (wanted - 1 + arity) (drop (at + 1) word)
  terms_more zero arity within some known is = absurd (omega arith)
  terms_more (suc wanted) arity within some known is =
      rest_is (suc wanted) within ∙ by (slice_get table (get_or word at 0)) is (λ none. past none)
    where
      past : slice_get table (get_or word at 0) ≡ None → ⊥
      past none = go table (get_or word at 0) known none
        where
          go : (entries : List Symbol) (k : ℕ) → k < length entries → slice_get entries k ≡ None → ⊥
          go [] k less none = omega arith
          go (entry ∷ entries) zero less none = cc
          go (entry ∷ entries) (suc k) less none = go entries k (omega arith) none

      by : (entry : Option Symbol) → IfSome entry (λ (entry : Symbol). arity ≡ entry.arity) → (entry ≡ None → ⊥)
          → option_map_or (λ (one : Symbol). are_terms table (one.arity + wanted) (drop (at + 1) word)) entry false ≡ are_terms table (suc wanted - 1 + arity) (drop (at + 1) word)
      by None is never = absurd (never refl)
      by (Some entry) is never = let same : entry.arity + wanted ≡ suc wanted - 1 + arity = omega (arith, is) in ap (λ n. are_terms table n (drop (at + 1) word)) same
