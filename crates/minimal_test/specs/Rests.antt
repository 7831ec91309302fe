-- What is left to decide of a list of places, of which all are wanted on one side.
use Rattle.std.specs.Prelude.{◌≡◌, ℕ, Bool, true, false, ◌||◌, nat_eq, List, IsTrue, if◌then◌else◌}
use Rattle.std.specs.List.{list_all}
use Rattle.minimal_test.specs.declared.side.Side.{Side}
use Rattle.minimal_test.specs.declared.side.Side.TheVariants.{Open, In, Out}
use Rattle.minimal_test.specs.declared.rest.Rest.{Rest}
use Rattle.minimal_test.specs.declared.rest.Rest.TheVariants.{Done, Only, Free}
use Rattle.minimal_test.specs.Choices.{side_at, is_on}

-- all of the places are on that side
abbrev pub are_on : List Side → Bool → List ℕ → Bool
are_on sides is_in places = list_all (λ place. is_on is_in (side_at sides place)) places

-- all but that one are, wherever it stands among them
abbrev pub are_but : List Side → Bool → ℕ → List ℕ → Bool
are_but sides is_in other places = list_all (λ place. is_on is_in (side_at sides place) || nat_eq place other) places

-- all are; or all but one that is open; or neither
abbrev pub IsRest : List Side → Bool → List ℕ → Rest → Type 0
IsRest sides is_in places Done = IsTrue (are_on sides is_in places)
IsRest sides is_in places (Only other) = (side_at sides other ≡ Open) × (are_on sides is_in places ≡ false) × IsTrue (are_but sides is_in other places)
IsRest sides is_in places Free = (are_on sides is_in places ≡ false) × ((other : ℕ) → side_at sides other ≡ Open → are_but sides is_in other places ≡ false)

-- an open place more
abbrev pub waiting : ℕ → Rest → Rest
waiting place Done = Only place
waiting place (Only other) = if nat_eq other place then Only other else Free
waiting place Free = Free

-- a place more, on a side
abbrev pub next_rest : Bool → ℕ → Side → Rest → Rest
next_rest is_in place Open rest = waiting place rest
next_rest true place In rest = rest
next_rest true place Out rest = Free
next_rest false place In rest = Free
next_rest false place Out rest = rest
