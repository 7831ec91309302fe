-- Sets of keys by their numbers, each of which waits for the last of its keys to come. Of these, public clauses cite `WatchedNumbers` alone.
use Rattle.std.specs.List.{find}
use Rattle.std.specs.Prelude.{◌≡◌, ◌≤◌, ◌<◌, ℕ, suc, Bool, true, false, nat_eq, nat_le, not, ◌||◌, List, [], ◌∷◌, Option, None, Some, is_some, option_map, length, slice_get, take, unwrap_or, if◌then◌else◌}
use Rattle.key_watch.specs.declared.owner.Owner.{Owner}
use Rattle.key_watch.specs.Owned.{IsLeastOwner, Owned, has}
use Rattle.key_watch.specs.Owners.{least_with}

-- sets of keys, a path, and how many keys there are
pub record WatchedNumbers : Type 0 where
  pub sets : List (Owned ℕ)
  pub path : List ℕ
  pub keys : ℕ

abbrev pub Has : List ℕ → ℕ → Type 0
Has keys key = has nat_eq keys key ≡ true

-- the first index of the key on the path
abbrev pub place_on : List ℕ → ℕ → Option ℕ
place_on [] key = None
place_on (held ∷ path) key = if nat_eq held key then Some 0 else option_map suc (place_on path key)

-- the index at which the key came, where it came
abbrev pub came : List (Option ℕ) → ℕ → Option ℕ
came places key = unwrap_or (slice_get places key) None

-- the first came no later than the second; what has not come is later than all
abbrev pub is_by : Option ℕ → Option ℕ → Bool
is_by first None = true
is_by None (Some late) = false
is_by (Some early) (Some late) = nat_le early late

-- the set waits for the last of its keys to come; a set without keys waits for none
abbrev pub IsWaiting : List (Option ℕ) → List ℕ → Option ℕ → Type 0
IsWaiting places keys None = keys ≡ []
IsWaiting places keys (Some last) = Has keys last × ((key : ℕ) → Has keys key → is_by (came places key) (came places last) ≡ true)

abbrev pub chain_of : List (List ℕ) → ℕ → List ℕ
chain_of chains key = unwrap_or (slice_get chains key) []

-- the chain of the key that the set waits for has the set
abbrev pub IsChained : List (List ℕ) → ℕ → Option ℕ → Type 0
IsChained chains set None = Unit {0}
IsChained chains set (Some key) = Has (chain_of chains key) set

-- each set waits, and its keys are known
pub record AreWaiting (sets : List (Owned ℕ)) (waits : List (Option ℕ)) (chains : List (List ℕ)) (places : List (Option ℕ)) : Type 0 where
  pub each : (at : ℕ) (set : Owned ℕ) (wait : Option ℕ) → slice_get sets at ≡ Some set → slice_get waits at ≡ Some wait → IsWaiting places set.keys wait × IsChained chains at wait
  pub known : (at : ℕ) (set : Owned ℕ) → slice_get sets at ≡ Some set → (key : ℕ) → Has set.keys key → key < length chains
  pub sized : length sets ≤ length waits

-- ---- one key more

-- the key came, or comes now
abbrev pub has_arrived : List (Option ℕ) → ℕ → ℕ → Bool
has_arrived places now key = nat_eq key now || is_some (came places key)

abbrev pub HaveArrived : List (Option ℕ) → ℕ → List ℕ → Type 0
HaveArrived places now keys = (key : ℕ) → Has keys key → has_arrived places now key ≡ true

-- the first key that has not arrived
abbrev pub missing_in : List (Option ℕ) → ℕ → List ℕ → Option ℕ
missing_in places now keys = find (λ key. not (has_arrived places now key)) keys

-- ---- the fields

-- the least owner at each length of the path
abbrev pub AreLeast : List (Owned ℕ) → List ℕ → List (Option Owner) → Type 0
AreLeast sets path leasts = (count : ℕ) (least : Option Owner) → count ≤ length path → slice_get leasts count ≡ Some least → IsLeastOwner ℕ nat_eq (take count path) sets least

-- what the fields keep
pub record IsWatching (sets : List (Owned ℕ)) (waits : List (Option ℕ)) (chains : List (List ℕ)) (places : List (Option ℕ)) (path : List ℕ) (leasts : List (Option Owner)) : Type 0 where
  pub waiting : AreWaiting sets waits chains places
  pub placed : (key : ℕ) → key < length places → slice_get places key ≡ Some (place_on path key)
  pub known : (key : ℕ) → Has path key → key < length chains
  pub sized : length chains ≤ length places
  pub least : AreLeast sets path leasts
  pub counted : length path < length leasts

-- the length of the path from which on a set stands that waits for this key
abbrev pub stands_since : List (Option ℕ) → Option ℕ → Option ℕ
stands_since places None = Some 0
stands_since places (Some last) = option_map suc (came places last)

-- so much of the path is enough
abbrev pub reached : Option ℕ → ℕ → Bool
reached None count = false
reached (Some since) count = nat_le since count

-- from that length of the path on, the owner counts too
abbrev pub AreLowered : List (Option Owner) → Option ℕ → Owner → List (Option Owner) → Type 0
AreLowered leasts since owner leasts' = (count : ℕ) → slice_get leasts' count ≡ option_map (λ least. if reached since count then Some (least_with least owner) else least) (slice_get leasts count)
