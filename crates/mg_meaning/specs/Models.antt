-- Finite Herbrand models of a problem's clauses, as the lists of their atoms, and the minimal ones.
use Rattle.std.specs.Prelude.{◌≡◌, ℕ, Bool, false, not, ◌&&◌, List, [], map, All, IsTrue}
use Rattle.std.specs.List.{list_all}
use Rattle.mg_word.specs.Facts.{ProblemData}
use Rattle.mg_word.specs.declared.lit.Lit.{Lit}
use Rattle.mg_word.specs.declared.clause.Clause.{Clause}
use Rattle.mg_meaning.specs.Truth.{Ground, is_atom_of, makes_true}
use Rattle.mg_meaning.specs.Refuting.{IsClauseInstance}

-- the atoms make each ground instance of each clause true
abbrev pub IsModel : List (List ℕ) → ProblemData → Type 0
IsModel atoms problem = (instance : Ground) → IsClauseInstance problem instance → IsTrue (makes_true problem.clauses atoms instance)

-- each atom of the first is one of the second, and something is left
abbrev pub are_atoms_of : List (List ℕ) → List (List ℕ) → Bool
are_atoms_of part whole = list_all (is_atom_of whole) part

abbrev pub are_fewer_atoms : List (List ℕ) → List (List ℕ) → Bool
are_fewer_atoms part whole = are_atoms_of part whole && not (are_atoms_of whole part)

-- it is a model, and no proper part of it is one
pub record IsMinimalModel (atoms : List (List ℕ)) (problem : ProblemData) : Type 0 where
  pub model : IsModel atoms problem
  pub least : (part : List (List ℕ)) → IsTrue (are_fewer_atoms part atoms) → IsModel part problem → ⊥

-- no clause has an item that chooses conclusions
abbrev pub HasNoItems : ProblemData → Type 0
HasNoItems problem = All (λ (clause : Clause). clause.conclude ≡ []) problem.clauses

-- no literal is negative
abbrev pub are_positive : List Lit → Bool
are_positive lits = list_all (λ lit. not lit.negative) lits

-- the atoms as literals
abbrev pub positives_of : List (List ℕ) → List Lit
positives_of atoms = map (λ word. record { negative = false; word = word }) atoms
