-- Which rules use which places.
use Rattle.std.specs.Prelude.{◌≡◌, ℕ, ◌<◌, Bool, ◌||◌, nat_eq, List, [], length, Option, None, Some, slice_get, get_or, IsTrue}
use Rattle.std.specs.Global.{Global}
use Rattle.std.specs.List.{list_any}
use Rattle.std.specs.declared.vec.Vec.{Vec}
use Rattle.minimal_test.specs.declared.rule.Rule.{Rule}
use Rattle.minimal_test.specs.declared.uses.Uses.{Uses}

-- the number is one of them
abbrev pub is_among : ℕ → List ℕ → Bool
is_among number numbers = list_any (nat_eq number) numbers

-- the rule has the place among its premises or conclusions
abbrev pub uses_place : Rule → ℕ → Bool
uses_place rule place = is_among place rule.premises || is_among place rule.conclusions

-- what is listed at the place; nothing where there is no such place
abbrev pub listed : Option (Vec ℕ Global) → List ℕ
listed None = []
listed (Some numbers) = numbers.items

abbrev pub numbers_at : List (Vec ℕ Global) → ℕ → List ℕ
numbers_at lists place = listed (slice_get lists place)

-- each rule is listed at each of the places that it uses
abbrev pub AreUses : List Rule → ℕ → Uses → Type 0
AreUses rules count uses = (number : ℕ) (d : Rule) (place : ℕ) → number < length rules → place < count → IsTrue (uses_place (get_or rules number d) place) → IsTrue (is_among number (numbers_at uses.rules_at.items place))

-- the number is listed at each of the places
abbrev pub IsListed : List ℕ → ℕ → List (Vec ℕ Global) → Type 0
IsListed places number lists = (place : ℕ) → place < length lists → IsTrue (is_among place places) → IsTrue (is_among number (numbers_at lists place))

-- as many places, and all that was listed is listed
pub record IsGrown (old new : List (Vec ℕ Global)) : Type 0 where
  pub size : length new ≡ length old
  pub kept : (number place : ℕ) → IsTrue (is_among number (numbers_at old place)) → IsTrue (is_among number (numbers_at new place))
