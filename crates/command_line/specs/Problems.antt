-- The problem of a source.
use Rattle.std.specs.Prelude.{Option}
use Rattle.mg_word.specs.Facts.{InputData, ProblemData, IsProblem}
use Rattle.mg_outside.specs.Reading.{Table}
use Rattle.clause_form.specs.Forming.{IsFormed}
use Rattle.command_line.specs.Sources.{Source, IsInputOf}

-- the source has an input of which this is the problem; where the files are told there is one such problem at most
pub record IsProblemOf (told : Option Table) (source : Source) (problem : ProblemData) : Type 0 where
  pub input : InputData
  pub is : IsInputOf told source input
  pub formed : IsFormed input problem
  pub sound : IsProblem problem
