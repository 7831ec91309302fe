-- How files are opened and taken in. No public clause cites this module.
use Rattle.std.specs.Prelude.{◌≡◌, ℕ, ◌+◌, ◌<◌, ◌≤◌, Bool, false, List, [], ◌∷◌, ◌++◌, length, Option, Err}
use Rattle.mg_outside.specs.Reading.{Table}
use Rattle.tptp_lexer.specs.Tokens.{start_cursor}
use Rattle.cnf_reader.specs.declared.fault.ReadFault.{ReadFault}
use Rattle.cnf_reader.specs.declared.fault.ReadFault.TheVariants.{At, NoMemory}
use Rattle.cnf_reader.specs.declared.fault.ReadKind.{ReadKind}
use Rattle.cnf_reader.specs.declared.fault.ReadKind.TheVariants.{Files}
use Rattle.cnf_reader.specs.declared.kept.Kept.{Kept}
use Rattle.cnf_reader.specs.declared.pending.Asked.{Asked}
use Rattle.cnf_reader.specs.Reading.{World, with_file, most_bytes, most_includes, opened, open_first, read_opened}
use Rattle.cnf_reader.specs.Openings.{Finding, FindsTwo}
use Rattle.cnf_reader.specs.Frames.{FileData, Refuses}

-- the fault of that kind there, or want of memory
abbrev pub FaultIs : ReadKind → List ℕ → ℕ → ℕ → List ℕ → ReadFault → Type 0
FaultIs wanted name at_line at_column what (At kind file line column subject) = At kind file line column subject ≡ At wanted name at_line at_column what
FaultIs wanted name at_line at_column what NoMemory = Unit {0}

-- a file that was just opened
abbrev pub new_file : List ℕ → ℕ → List ℕ → FileData
new_file name number bytes = record { name = name; number = number; bytes = bytes; cursor = start_cursor }

-- the file is taken in
abbrev pub IsAdmitted : Kept → List ℕ → List ℕ → Kept → FileData → Type 0
IsAdmitted kept name bytes now file = (now ≡ with_file name bytes kept) × (file ≡ new_file name (length kept.files) bytes)

-- a file was taken in: one more, which has the last number, and nothing else changed but the counts
pub record IsTakenIn (kept now : Kept) (file : FileData) : Type 0 where
  pub symbols : now.symbols ≡ kept.symbols
  pub clauses : now.clauses ≡ kept.clauses
  pub files : now.files ≡ kept.files ++ file.name ∷ []
  pub bytes : now.bytes ≡ kept.bytes + length file.bytes
  pub number : file.number < length now.files
  pub few_files : length now.files ≤ now.includes + 1
  pub few_includes : now.includes ≤ most_includes

-- with a fault of any kind but Files no read failed
abbrev pub IsWhole : ReadKind → Bool → Bool → Type 0
IsWhole Files first second = Unit {0}
IsWhole kind first second = (first ≡ false) × (second ≡ false)

-- a fault stands at an include, with its cause
pub record RefusesBy (told : Option Table) (root : Option (List ℕ)) (kept : Kept) (file : FileData) (depth : ℕ) (asked : Asked) (kind : ReadKind) (fault : ReadFault) : Type 0 where
  pub refuses : Refuses told root kept file depth asked fault
  pub whole : IsWhole kind refuses.first.fails refuses.second.fails

-- the same, or want of memory
abbrev pub IsNotEntered : Option Table → Option (List ℕ) → Kept → FileData → ℕ → Asked → ReadFault → Type 0
IsNotEntered told root kept file depth asked (At kind name line column subject) = RefusesBy told root kept file depth asked kind (At kind name line column subject)
IsNotEntered told root kept file depth asked NoMemory = Unit {0}

-- the problem file was opened
pub record IsBegun (told : Option Table) (name : List ℕ) (kept now : Kept) (file : FileData) : Type 0 where
  pub first : Finding told
  pub second : Finding told
  pub whole : (first.fails ≡ false) × (second.fails ≡ false)
  pub found : List ℕ
  pub bytes : List ℕ
  pub within : length bytes ≤ most_bytes
  pub gives : (world : World) → FindsTwo world 0 first second → open_first world 0 most_bytes (name ∷ []) ≡ opened found bytes
  pub now_is : now ≡ with_file found bytes kept
  pub file_is : file ≡ new_file found (length kept.files) bytes

-- a fault stands at the problem file, with its cause
pub record BeginsNotBy (told : Option Table) (name : List ℕ) (kind : ReadKind) (fault : ReadFault) : Type 0 where
  pub first : Finding told
  pub second : Finding told
  pub gives : (world : World) → FindsTwo world 0 first second → (root : Option (List ℕ)) → read_opened world root name (open_first world 0 most_bytes (name ∷ [])) ≡ Err fault
  pub whole : IsWhole kind first.fails second.fails

-- the same, or want of memory
abbrev pub IsNotBegun : Option Table → List ℕ → ReadFault → Type 0
IsNotBegun told name (At kind file line column subject) = BeginsNotBy told name kind (At kind file line column subject)
IsNotBegun told name NoMemory = Unit {0}
