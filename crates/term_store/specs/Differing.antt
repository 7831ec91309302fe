-- Where two lists differ first.
use Rattle.std.specs.Prelude.{◌≡◌, ◌≢◌, ◌⊎◌, ℕ, List, ◌++◌, ◌∷◌, Option, None, Some}

-- the lists go on differently behind a common front, with these two
pub record DifferAt (these those : List ℕ) (one other : ℕ) : Type 0 where
  pub front : List ℕ
  pub back : List ℕ
  pub behind : List ℕ
  pub this : these ≡ front ++ one ∷ back
  pub that : those ≡ front ++ other ∷ behind
  pub differing : one ≢ other

-- the first two that differ, and nothing where one list is a front of the other
abbrev pub IsDifference : List ℕ → List ℕ → Option (ℕ × ℕ) → Type 0
IsDifference these those None = (more : List ℕ) × ((these ≡ those ++ more) ⊎ (those ≡ these ++ more))
IsDifference these those (Some pair) = DifferAt these those pair.0 pair.1
