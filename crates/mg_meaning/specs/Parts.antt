-- All parts of a list of literals, among which a smaller satisfying set is sought.
use Rattle.std.specs.Prelude.{List, [], ◌∷◌, IsTrue}
use Rattle.std.specs.List.{flat_map}
use Rattle.mg_word.specs.Sets.{is_proper_part}
use Rattle.mg_word.specs.Facts.{ProblemData}
use Rattle.mg_word.specs.declared.lit.Lit.{Lit}
use Rattle.mg_meaning.specs.Satisfaction.{Satisfies}

-- each part with the literal and without it
abbrev pub with_and_without : Lit → List (List Lit) → List (List Lit)
with_and_without lit parts = flat_map (λ part. (lit ∷ part) ∷ part ∷ []) parts

abbrev pub parts_of : List Lit → List (List Lit)
parts_of [] = [] ∷ []
parts_of (lit ∷ lits) = with_and_without lit (parts_of lits)

-- a proper part of the set that satisfies the problem
pub record IsSmaller (problem : ProblemData) (set part : List Lit) : Type 0 where
  pub proper : IsTrue (is_proper_part part set)
  pub satisfying : Satisfies part problem
