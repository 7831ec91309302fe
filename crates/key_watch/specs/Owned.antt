-- Sets of keys with their owners, and the least owner of a set that stands on a path.
use Rattle.std.specs.List.{list_any, list_all}
use Rattle.std.specs.Prelude.{◌≡◌, ℕ, Bool, true, false, List, Option, None, Some, slice_get}
use Rattle.key_watch.specs.declared.owner.Owner.{Owner}
use Rattle.key_watch.specs.Owners.{owner_lt}

-- a set of keys, and whose it is
pub record Owned (K : Type 0) : Type 0 where
  pub keys : List K
  pub owner : Owner

-- the path has the key, by this test of sameness
abbrev pub has : {K : Type 0} → (K → K → Bool) → List K → K → Bool
has same path key = list_any (λ held. same held key) path

-- the path has all keys of the set
abbrev pub stands : {K : Type 0} → (K → K → Bool) → List K → Owned K → Bool
stands same path set = list_all (has same path) set.keys

-- some set that stands on the path is this owner's
pub record IsOwnerOfOne (K : Type 0) (same : K → K → Bool) (path : List K) (sets : List (Owned K)) (owner : Owner) : Type 0 where
  pub place : ℕ
  pub set : Owned K
  pub is : slice_get sets place ≡ Some set
  pub stands : stands same path set ≡ true
  pub owned : set.owner ≡ owner

-- the least owner of the sets that stand on the path; none where no set stands
abbrev pub IsLeastOwner : (K : Type 0) → (K → K → Bool) → List K → List (Owned K) → Option Owner → Type 0
IsLeastOwner K same path sets None = (place : ℕ) (set : Owned K) → slice_get sets place ≡ Some set → stands same path set ≡ false
IsLeastOwner K same path sets (Some owner) =
    IsOwnerOfOne K same path sets owner × ((place : ℕ) (set : Owned K) → slice_get sets place ≡ Some set → stands same path set ≡ true → owner_lt set.owner owner ≡ false)
