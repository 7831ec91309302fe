-- The problem that a command is about.
use Rattle.std.specs.Prelude.{◌≡◌, ℕ, List, Option}
use Rattle.mg_word.specs.Facts.{InputData}
use Rattle.mg_outside.specs.Reading.{Table}
use Rattle.cnf_reader.specs.Reading.{Reads, IsFault}
use Rattle.cnf_reader.specs.declared.fault.ReadFault.{ReadFault}
use Rattle.sample_maker.specs.Sample.{sample_input}
use Rattle.szs_report.specs.Names.{name_of, sample_name}

-- the problem of a file, whose includes are looked for in a folder too where one is named, or the sample problem of a size
pub data Source : Type 0 where
  OfFile : (file : List ℕ) (root : Option (List ℕ)) → Source
  OfSample : (size : ℕ) → Source

-- its name in the lines that are printed
abbrev pub source_name : Source → List ℕ
source_name (OfFile file root) = name_of file
source_name (OfSample size) = sample_name size

-- this is its input
abbrev pub IsInputOf : Option Table → Source → InputData → Type 0
IsInputOf told (OfFile file root) input = Reads told file root input
IsInputOf told (OfSample size) input = input ≡ sample_input size

-- the first fault of its reading stands there; a sample is not read
abbrev pub IsFaultOf : Option Table → Source → ReadFault → Type 0
IsFaultOf told (OfFile file root) fault = IsFault told file root fault
IsFaultOf told (OfSample size) fault = ⊥
