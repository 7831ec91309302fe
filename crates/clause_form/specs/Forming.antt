-- The problem of an input.
use Rattle.std.specs.Prelude.{◌≡◌, ℕ, true, List}
use Rattle.mg_word.specs.Facts.{InputData, ProblemData}
use Rattle.mg_word.specs.Forms.{forms_of}
use Rattle.mg_word.specs.SymbolOrder.{IsSortedTable}
use Rattle.clause_form.specs.Faults.{is_faultless}
use Rattle.clause_form.specs.Renumbering.{renumbered}

-- the input has no fault, and the problem has its symbols in order, its files, its clauses over the new numbers of the
-- symbols, and the forms of these
pub record IsFormed (input : InputData) (problem : ProblemData) : Type 0 where
  pub faultless : is_faultless input.clauses ≡ true
  pub numbers : List ℕ
  pub symbols : IsSortedTable input.symbols problem.symbols numbers
  pub files : problem.files ≡ input.files
  pub clauses : problem.clauses ≡ renumbered numbers input.clauses
  pub forms : problem.forms ≡ forms_of problem.clauses
