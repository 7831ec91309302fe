-- What a store keeps where a term goes last.
use Rattle.std.proofs.Common.{◌≡◌, ℕ, ◌+◌, ◌<◌, Bool, true, false, true≢false, List, [], ◌∷◌, ◌++◌, length, map, slice_index, sum_by, All, Contains, inl, inr, refl, sym, ap, ap₂, ◌∙◌, arith}
use Rattle.std.specs.List.{list_any}
use Rattle.std.proofs.lemmas.List.{map-append}
use Rattle.indexmap.specs.IndexSet.{insert_key}
use Rattle.mg_word.proofs.Entries.{any_seen, seen_any, insert_held, insert_added}
use Rattle.term_store.specs.Terms.{Term, applied, words_of, weight_together, AddsAtMost}
use Rattle.term_store.specs.Seen.{term_seen}
use Rattle.term_store.specs.declared.store.Key.{Key}
use Rattle.term_store.specs.contracts.store.KeyPartialEq.TheImpl.{eq-value}
use Rattle.term_store.proofs.Keys.{key_same, key_equal}
use Rattle.term_store.proofs.WordsGrow.{words_push, weights_together}

-- the key is seen in no other
abbrev pub is_in : List Key → Key → Bool
is_in keys key = list_any (eq-value.it key) keys

pub is_missing : (keys : List Key) (key : Key) → is_in keys key ≡ false → Contains (map term_seen keys) (term_seen key) → ⊥
is_missing keys key none there = true≢false (sym (seen_any eq-value.it term_seen key_same key_equal keys key there) ∙ none)

pub stays : (keys new : List Key) (key : Key) → new ≡ insert_key eq-value.it keys key → Contains (map term_seen keys) (term_seen key) → map term_seen new ≡ map term_seen keys
stays keys new key is there = ap (map term_seen) is ∙ insert_held eq-value.it term_seen key_same key_equal keys key there

pub goes_last : (keys new : List Key) (key : Key) → new ≡ insert_key eq-value.it keys key → (Contains (map term_seen keys) (term_seen key) → ⊥) → map term_seen new ≡ map term_seen keys ++ term_seen key ∷ []
goes_last keys new key is missing = ap (map term_seen) is ∙ insert_added eq-value.it term_seen key_same key_equal keys key missing

pub adds_at_most : (keys new : List Key) (key : Key) → new ≡ insert_key eq-value.it keys key → AddsAtMost (map term_seen keys) (map term_seen new) (term_seen key)
adds_at_most keys new key is = by (is_in keys key) refl
  where
    by : (b : Bool) → is_in keys key ≡ b → AddsAtMost (map term_seen keys) (map term_seen new) (term_seen key)
    by true held = inl (stays keys new key is (any_seen eq-value.it term_seen key_same key_equal keys key held))
    by false none = let missing = is_missing keys key none in inr (goes_last keys new key is missing, missing)

-- the weight of a term is one more than those of its arguments
weight_of_applied : (terms : List Term) (weights : List ℕ) (symbol : ℕ) (arguments : List ℕ) (term : Term) → term.arguments ≡ arguments → weights ≡ map length (words_of terms) → All (λ argument. argument < length terms) arguments
    → sum_by (λ argument. slice_index weights argument) arguments + 1 ≡ length (applied (words_of terms) term)
weight_of_applied terms weights symbol arguments term is are held =
    let together = weights_together terms weights arguments are held in
    let same : weight_together terms arguments + 1 ≡ length (applied (words_of terms) term) = ap (λ l. weight_together terms l + 1) (sym is) ∙ omega arith in
    omega (arith, together, same)

pub weights_more : (terms new : List Term) (term : Term) (weights : List ℕ) (weight : ℕ) → new ≡ terms ++ term ∷ [] → weights ≡ map length (words_of terms) → All (λ argument. argument < length terms) term.arguments
    → weight ≡ sum_by (λ argument. slice_index weights argument) term.arguments + 1 → weights ++ weight ∷ [] ≡ map length (words_of new)
weights_more terms new term weights weight is are held heavy =
    let last = weight_of_applied terms weights term.symbol term.arguments term refl are held in
    ap₂ (λ front one. front ++ one ∷ []) are (heavy ∙ last)
    ∙ (sym (map-append length (words_of terms) (applied (words_of terms) term ∷ [])) ∙ ap (map length) (sym (ap words_of is ∙ words_push terms term)))
