-- Keys by their numbers. No public clause cites this module.
use Rattle.std.specs.BTreeMap.{get}
use Rattle.std.specs.Prelude.{◌≡◌, ◌≤◌, ◌<◌, ℕ, List, [], ◌∷◌, ◌++◌, map, Option, None, Some, length, slice_get}
use Rattle.mg_word.specs.Orders.{lit_cmp}
use Rattle.mg_word.specs.declared.lit.Lit.{Lit}
use Rattle.key_watch.specs.declared.key.Key.{Key}
use Rattle.key_watch.specs.declared.key_table.KeyTable.TheInside.{Inside}
use Rattle.key_watch.specs.Keys.{Watched, barred_key, held_key}
use Rattle.key_watch.specs.Owned.{Owned}
use Rattle.key_watch.specs.Watching.{Has, WatchedNumbers}

-- the function gives the number of each key of one side
pub record AreNumbers (keys : List Key) (key_of : Lit → Key) (number_of : Lit → Option ℕ) : Type 0 where
  pub there : (number : ℕ) (lit : Lit) → number_of lit ≡ Some number → slice_get keys number ≡ Some (key_of lit)
  pub all : (number : ℕ) (lit : Lit) → slice_get keys number ≡ Some (key_of lit) → number_of lit ≡ Some number

-- the maps give the number of each key
pub record IsTable (table : Inside) : Type 0 where
  pub held : AreNumbers table.keys.items held_key (get lit_cmp table.held)
  pub barred : AreNumbers table.keys.items barred_key (get lit_cmp table.barred)

-- no key stands twice
abbrev pub AreDifferent : List Key → Type 0
AreDifferent keys = (i j : ℕ) (key : Key) → slice_get keys i ≡ Some key → slice_get keys j ≡ Some key → i ≡ j

abbrev pub cons_key : Option Key → List Key → List Key
cons_key None keys = keys
cons_key (Some key) keys = key ∷ keys

-- the keys with these numbers
abbrev pub keys_named : List Key → List ℕ → List Key
keys_named keys [] = []
keys_named keys (number ∷ numbers) = cons_key (slice_get keys number) (keys_named keys numbers)

abbrev pub set_named : List Key → Owned ℕ → Owned Key
set_named keys set = record { keys = keys_named keys set.keys; owner = set.owner }

-- sets and path by their numbers
abbrev pub watched_by : List Key → WatchedNumbers → Watched
watched_by keys watched = record { sets = map (set_named keys) watched.sets; path = keys_named keys watched.path }

abbrev pub AreKnown : List Key → List ℕ → Type 0
AreKnown keys numbers = (number : ℕ) → Has numbers number → number < length keys

-- different keys, which have all numbers that are used
pub record IsNumbered (keys : List Key) (watched : WatchedNumbers) : Type 0 where
  pub different : AreDifferent keys
  pub room : length keys ≤ watched.keys
  pub path : AreKnown keys watched.path
  pub sets : (place : ℕ) (set : Owned ℕ) → slice_get watched.sets place ≡ Some set → AreKnown keys set.keys

-- some keys are added
pub record Grows (before after : List Key) : Type 0 where
  pub more : List Key
  pub is : after ≡ before ++ more
