-- What files read as, and the first fault in them, by the rules.
use Rattle.std.specs.Prelude.{◌≡◌, ℕ, List, Option, Ok, Err}
use Rattle.mg_outside.specs.Reading.{Table}
use Rattle.mg_word.specs.Facts.{InputData}
use Rattle.cnf_reader.specs.declared.fault.ReadFault.{ReadFault}
use Rattle.cnf_reader.specs.declared.kept.Kept.{Kept}
use Rattle.cnf_reader.specs.Keeping.{input_of}
use Rattle.cnf_reader.specs.Reading.{World, AreTold, NeverFails}
use Rattle.reading_laws.specs.Rules.{ReadsAs}

-- the files read as that input
pub record ReadsByRules (told : Option Table) (name : List ℕ) (root : Option (List ℕ)) (input : InputData) : Type 0 where
  pub world : World
  pub files : AreTold told world
  pub whole : NeverFails world
  pub kept : Kept
  pub reading : ReadsAs world root name (Ok kept)
  pub is : input ≡ input_of kept

-- the fault is the first in the files
pub record StandsByRules (told : Option Table) (name : List ℕ) (root : Option (List ℕ)) (fault : ReadFault) : Type 0 where
  pub world : World
  pub files : AreTold told world
  pub whole : NeverFails world
  pub reading : ReadsAs world root name (Err fault)

-- the fault is the first, where reads may fail
pub record FailsByRules (told : Option Table) (name : List ℕ) (root : Option (List ℕ)) (fault : ReadFault) : Type 0 where
  pub world : World
  pub files : AreTold told world
  pub reading : ReadsAs world root name (Err fault)
