-- What happens to sets that wait for a key that comes.
use Rattle.std.specs.Prelude.{◌≡◌, ◌≢◌, ◌+◌, ◌<◌, ℕ, false, List, [], ◌∷◌, ◌++◌, Option, None, Some, length, slice_get, slice_set, ◌⊎◌}
use Rattle.key_watch.specs.declared.owner.Owner.{Owner}
use Rattle.key_watch.specs.Owned.{Owned}
use Rattle.key_watch.specs.Owners.{least_with, owner_lt}
use Rattle.key_watch.specs.Watching.{AreWaiting, Has, HaveArrived, chain_of}

-- the least owner so far, with that of a set if there is one
abbrev pub owner_joined : Option Owner → Option (Owned ℕ) → Option Owner
owner_joined least None = least
owner_joined least (Some set) = Some (least_with least set.owner)

-- the least is not above the owner
abbrev pub IsUpTo : Option Owner → Owner → Type 0
IsUpTo None owner = ⊥
IsUpTo (Some least) owner = owner_lt owner least ≡ false

-- the set waits for another key
pub record IsSent (waits : List (Option ℕ)) (chains : List (List ℕ)) (key at set other : ℕ) (waits' : List (Option ℕ)) (chains' : List (List ℕ)) : Type 0 where
  pub waiting : waits' ≡ slice_set waits set (Some other)
  pub gained : chain_of chains' other ≡ chain_of chains other ++ set ∷ []
  pub shorter : length (chain_of chains' key) + 1 ≡ length (chain_of chains key)
  pub before : (k : ℕ) → k < at → slice_get (chain_of chains' key) k ≡ slice_get (chain_of chains key) k
  pub left : (one : ℕ) → slice_get (chain_of chains key) at ≢ Some one → Has (chain_of chains key) one → Has (chain_of chains' key) one
  pub others : (k : ℕ) → k ≢ key → k ≢ other → chain_of chains' k ≡ chain_of chains k
  pub sized : length chains' ≡ length chains

-- a set of this owner has arrived as a whole
pub record IsArrived (sets : List (Owned ℕ)) (places : List (Option ℕ)) (key : ℕ) (owner : Owner) : Type 0 where
  pub place : ℕ
  pub set : Owned ℕ
  pub is : slice_get sets place ≡ Some set
  pub arrived : HaveArrived places key set.keys
  pub owned : set.owner ≡ owner

-- the least so far, or the lesser owner of a set that has arrived
pub record IsLeastArrived (sets : List (Owned ℕ)) (places : List (Option ℕ)) (key : ℕ) (before after : Option Owner) : Type 0 where
  pub from : (owner : Owner) → after ≡ Some owner → (before ≡ Some owner) ⊎ IsArrived sets places key owner
  pub up_to : (owner : Owner) → before ≡ Some owner → IsUpTo after owner

-- each set that waits for the key has arrived, and its owner counts
pub record Arrives (sets : List (Owned ℕ)) (waits : List (Option ℕ)) (places : List (Option ℕ)) (key : ℕ) (before after : Option Owner) : Type 0 where
  pub least : IsLeastArrived sets places key before after
  pub each : (at : ℕ) (set : Owned ℕ) → slice_get sets at ≡ Some set → slice_get waits at ≡ Some (Some key) → HaveArrived places key set.keys × IsUpTo after set.owner

-- those at the first places of the key's chain have arrived, and their owners count
pub record HaveBeenVisited (sets : List (Owned ℕ)) (places : List (Option ℕ)) (key : ℕ) (chain : List ℕ) (count : ℕ) (least : Option Owner) : Type 0 where
  pub each : (place at : ℕ) (set : Owned ℕ) → place < count → slice_get chain place ≡ Some at → slice_get sets at ≡ Some set → HaveArrived places key set.keys × IsUpTo least set.owner

-- under way
pub record IsVisiting (sets : List (Owned ℕ)) (waits : List (Option ℕ)) (chains : List (List ℕ)) (places : List (Option ℕ)) (key count : ℕ) (before after : Option Owner) : Type 0 where
  pub waiting : AreWaiting sets waits chains places
  pub visited : HaveBeenVisited sets places key (chain_of chains key) count after
  pub least : IsLeastArrived sets places key before after
