-- Two entries of a symbol table are equal exactly where contracts see one symbol, and what follows for look-ups.
use Rattle.std.proofs.Common.{◌≡◌, ℕ, suc, zero, Bool, true, false, true≢false, ◌||◌, List, [], ◌∷◌, ◌++◌, map, get_or, position, Some, slice_get, Contains, rules, refl, sym, ap, ◌∙◌, arith}
use Rattle.std.specs.List.{list_any}
use Rattle.std.specs.Option.{option_map}
use Rattle.std.proofs.lemmas.Option.{slice_get-map, slice_get-get_or}
use Rattle.std.proofs.lemmas.List.{map-append}
use Rattle.std.proofs.lemmas.List.Quantifiers.{position-Some}
use Rattle.indexmap.specs.IndexSet.{insert_key}
use Rattle.mg_word.specs.Seen.{entry_seen}
use Rattle.mg_word.specs.declared.symbol.Entry.{Entry}
use Rattle.mg_word.specs.contracts.symbol.EntryPartialEq.TheImpl.{eq-value}

names_same : (a b : Entry) → eq-value.it a b ≡ true → a.name.bytes.items ≡ b.name.bytes.items
names_same a b equal = search rules

arities_same : (a b : Entry) → eq-value.it a b ≡ true → a.arity ≡ b.arity
arities_same a b equal = search rules

kinds_same : (a b : Entry) → eq-value.it a b ≡ true → a.kind ≡ b.kind
kinds_same a b equal = search rules

pub entry_same : (a b : Entry) → eq-value.it a b ≡ true → entry_seen a ≡ entry_seen b
entry_same a b equal =
    let names = names_same a b equal in
    let arities = arities_same a b equal in
    let kinds = kinds_same a b equal in
    rw (names, arities, kinds) refl

pub entry_equal : (a b : Entry) → entry_seen a ≡ entry_seen b → eq-value.it a b ≡ true
entry_equal a b same = search rules

-- keys with a test that holds exactly where two are seen as one value
module _ {K V : Type 0} (eq : K → K → Bool) (seen : K → V) (same : (a b : K) → eq a b ≡ true → seen a ≡ seen b) (equal : (a b : K) → seen a ≡ seen b → eq a b ≡ true) where
  pub any_seen : (keys : List K) (key : K) → list_any (eq key) keys ≡ true → Contains (map seen keys) (seen key)
  any_seen [] key found = absurd (true≢false (sym found))
  any_seen (first ∷ keys) key found = by (eq key first) refl (any_seen keys key)
    where
      by : (b : Bool) → eq key first ≡ b → (list_any (eq key) keys ≡ true → Contains (map seen keys) (seen key)) → Contains (map seen (first ∷ keys)) (seen key)
      by true here go = (0, omega arith, sym (same key first here))
      by false here go =
          let there = go (sym (ap (λ b. b || list_any (eq key) keys) here) ∙ found) in
          (suc there.0, omega (arith, there.1), there.2)

  pub seen_any : (keys : List K) (key : K) → Contains (map seen keys) (seen key) → list_any (eq key) keys ≡ true
  seen_any [] key (k, within, is) = absurd (omega arith)
  seen_any (first ∷ keys) key (zero, within, is) = ap (λ b. b || list_any (eq key) keys) (equal key first (sym is))
  seen_any (first ∷ keys) key (suc k, within, is) = by (eq key first) (seen_any keys key (k, omega arith, is))
    where
      by : (b : Bool) → list_any (eq key) keys ≡ true → (b || list_any (eq key) keys) ≡ true
      by true there = refl
      by false there = there

  -- the index that a look-up finds is that of the same value
  pub position_seen : (keys : List K) (key : K) (i : ℕ) → Some i ≡ position (eq key) keys → slice_get (map seen keys) i ≡ Some (seen key)
  position_seen keys key i found =
      let at = position-Some (eq key) keys i key (sym found) in
      slice_get-map seen keys i ∙ ap (option_map seen) (slice_get-get_or keys i key at.0) ∙ ap Some (sym (same key (get_or keys i key) at.1))

  pub insert_held : (keys : List K) (key : K) → Contains (map seen keys) (seen key) → map seen (insert_key eq keys key) ≡ map seen keys
  insert_held keys key there = rw (seen_any keys key there) refl

  pub insert_added : (keys : List K) (key : K) → (Contains (map seen keys) (seen key) → ⊥) → map seen (insert_key eq keys key) ≡ map seen keys ++ seen key ∷ []
  insert_added keys key missing = by (list_any (eq key) keys) refl
    where
      by : (b : Bool) → list_any (eq key) keys ≡ b → map seen (insert_key eq keys key) ≡ map seen keys ++ seen key ∷ []
      by true found = absurd (missing (any_seen keys key found))
      by false found = rw found (map-append seen keys (key ∷ []))
