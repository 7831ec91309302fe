-- Two keys are equal exactly where contracts see one term.
use Rattle.std.proofs.Common.{◌≡◌, ℕ, true, true≢false, List, map, position, Option, None, Some, is_some, slice_get, IsNone, IfSome, Contains, rules, refl, sym, ap₂, ◌∙◌}
use Rattle.std.specs.List.{list_any}
use Rattle.mg_word.proofs.Entries.{any_seen, seen_any, position_seen}
use Rattle.term_store.specs.Terms.{term_of}
use Rattle.term_store.specs.Seen.{term_seen}
use Rattle.term_store.specs.declared.store.Key.{Key}
use Rattle.term_store.specs.contracts.store.KeyPartialEq.TheImpl.{eq-value}

symbols_same : (a b : Key) → eq-value.it a b ≡ true → a.symbol ≡ b.symbol
symbols_same a b equal = search rules

arguments_same : (a b : Key) → eq-value.it a b ≡ true → a.arguments.items ≡ b.arguments.items
arguments_same a b equal = search rules

pub key_same : (a b : Key) → eq-value.it a b ≡ true → term_seen a ≡ term_seen b
key_same a b equal = ap₂ term_of (symbols_same a b equal) (arguments_same a b equal)

pub key_equal : (a b : Key) → term_seen a ≡ term_seen b → eq-value.it a b ≡ true
key_equal a b same = search rules

-- what a look-up of a key finds is the number of its term
pub found_at : (keys : List Key) (key : Key) (at : Option ℕ) → at ≡ position (eq-value.it key) keys → IfSome at (λ id. slice_get (map term_seen keys) id ≡ Some (term_seen key))
found_at keys key None is = tt
found_at keys key (Some id) is = position_seen eq-value.it term_seen key_same key_equal keys key id is

-- and it finds nothing exactly where the term is not held
pub found_where : (keys : List Key) (key : Key) (at : Option ℕ) → is_some at ≡ list_any (eq-value.it key) keys
    → (IsNone at → Contains (map term_seen keys) (term_seen key) → ⊥) × ((Contains (map term_seen keys) (term_seen key) → ⊥) → IsNone at)
found_where keys key None is = (λ none there. true≢false (sym (seen_any eq-value.it term_seen key_same key_equal keys key there) ∙ sym is), λ missing. refl)
found_where keys key (Some id) is = (
  λ none there. true≢false none,
  λ missing. absurd (missing (any_seen eq-value.it term_seen key_same key_equal keys key (sym is))),
)
