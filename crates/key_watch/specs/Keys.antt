-- Keys, and sets of keys along a path.
use Rattle.std.specs.Prelude.{Bool, true, false, ◌&&◌, List, ◌++◌, map, Option}
use Rattle.mg_word.specs.Sets.{same_lit}
use Rattle.mg_word.specs.declared.lit.Lit.{Lit}
use Rattle.key_watch.specs.declared.key.Key.{Key}
use Rattle.key_watch.specs.declared.key.Side.{Side}
use Rattle.key_watch.specs.declared.key.Side.TheVariants.{Held, Barred}
use Rattle.key_watch.specs.declared.owner.Owner.{Owner}
use Rattle.key_watch.specs.Owned.{IsLeastOwner, Owned}

abbrev pub same_side : Side → Side → Bool
same_side Held Held = true
same_side Held Barred = false
same_side Barred Held = false
same_side Barred Barred = true

-- the two are one key
abbrev pub same_key : Key → Key → Bool
same_key a b = same_side a.side b.side && same_lit a.lit b.lit

abbrev pub key_on : Side → Lit → Key
key_on side lit = record { side = side; lit = lit }

abbrev pub held_key : Lit → Key
held_key lit = key_on Held lit

abbrev pub barred_key : Lit → Key
barred_key lit = key_on Barred lit

-- some literals held, others barred
abbrev pub keys_of : List Lit → List Lit → List Key
keys_of held barred = map held_key held ++ map barred_key barred

-- sets of keys, and a path
pub record Watched : Type 0 where
  pub sets : List (Owned Key)
  pub path : List Key

-- the least owner of the sets that stand on the path; none where no set stands
abbrev pub IsLeast : Watched → Option Owner → Type 0
IsLeast watched least = IsLeastOwner Key same_key watched.path watched.sets least
