-- When ground instances of clauses refute a problem, after Herbrand's theorem.
use Rattle.std.specs.Prelude.{◌≡◌, ℕ, false, List, length, All, Some, slice_get, IsTrue}
use Rattle.std.specs.List.{list_all}
use Rattle.std.specs.Option.{option_map_or}
use Rattle.mg_word.specs.Words.{fits, numbered}
use Rattle.mg_word.specs.Facts.{ProblemData}
use Rattle.mg_word.specs.declared.clause.Clause.{Clause}
use Rattle.mg_word.specs.declared.form.Inst.{Inst}
use Rattle.mg_meaning.specs.Truth.{Ground, makes_true}

-- it is an instance of one of the problem's clauses, by ground terms of the problem
pub record IsClauseInstance (problem : ProblemData) (instance : Ground) : Type 0 where
  pub clause : Clause
  pub is : slice_get problem.clauses instance.clause ≡ Some clause
  pub variables : length instance.terms ≡ length clause.variables
  pub terms : IsTrue (list_all (fits problem.symbols) instance.terms)

-- each is an instance of the problem's clauses, and no list of atoms makes all of them true
pub record Refutes (instances : List Ground) (problem : ProblemData) : Type 0 where
  pub each : All (IsClauseInstance problem) instances
  pub contradictory : (atoms : List (List ℕ)) → list_all (makes_true problem.clauses atoms) instances ≡ false

-- of an instance of a problem's form: the instance of the form's clause by the same terms
abbrev pub ground_of : ProblemData → Inst → Ground
ground_of problem inst = record { clause = option_map_or (λ form. form.clause) (numbered problem.forms inst.form) 0; terms = inst.subst }
