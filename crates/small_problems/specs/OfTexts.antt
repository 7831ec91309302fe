-- The problem of a text that stands in memory.
use Rattle.std.specs.Prelude.{ℕ, List, [], ◌∷◌, codes, Some, None}
use Rattle.mg_word.specs.Facts.{InputData, ProblemData}
use Rattle.mg_outside.specs.Reading.{Table}
use Rattle.mg_outside.specs.FilesRule.{file_named}
use Rattle.cnf_reader.specs.Reading.{Reads}
use Rattle.clause_form.specs.Forming.{IsFormed}

-- the name of the file that has the text
abbrev pub file_name : List ℕ
file_name = codes "text"

-- the files: one, with this text
abbrev pub one_file : List ℕ → Table
one_file text = file_named (record { name = file_name; bytes = text } ∷ [])

-- the text reads as an input of which this is the problem
abbrev pub IsProblemOfText : List ℕ → ProblemData → Type 0
IsProblemOfText text problem = (input : InputData) × Reads (Some (one_file text)) file_name None input × IsFormed input problem
