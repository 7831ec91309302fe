-- What tries to read files find. No public clause cites this module.
use Rattle.std.specs.Prelude.{◌≡◌, ℕ, suc, ◌≤◌, Bool, true, false, List, ◌∷◌, map, length, Option, None, Some, Result, Ok, Err, string_bytes}
use Rattle.std.specs.Option.{option_to_list}
use Rattle.mg_word.specs.declared.memory.NoMemory.{NoMemory}
use Rattle.mg_outside.specs.Reading.{Table}
use Rattle.mg_outside.specs.declared.files.ReadAnswer.{ReadAnswer}
use Rattle.mg_outside.specs.declared.files.ReadAnswer.TheVariants.{Done as ReadDone, Absent as ReadAbsent, TooLong as ReadTooLong, Failed as ReadFailed, NoMemory as ReadNoMemory}
use Rattle.cnf_reader.specs.declared.names.Tries.{Tries}
use Rattle.cnf_reader.specs.declared.opening.Tried.{Tried}
use Rattle.cnf_reader.specs.declared.opening.Tried.TheVariants.{Opened as TriedOpened, Absent as TriedAbsent, TooLong as TriedTooLong, Failed as TriedFailed}
use Rattle.cnf_reader.specs.declared.opening.Found.{Found}
use Rattle.cnf_reader.specs.declared.opening.Found.TheVariants.{Opened, Absent, TooLong, Failed}
use Rattle.cnf_reader.specs.Reading.{World, Opening, opened, none_found, too_long, read_failed, open_first, by_read}

-- the names to try, in order
abbrev pub names_tried : Tries → List (List ℕ)
names_tried tries = string_bytes tries.first ∷ map string_bytes (option_to_list tries.second)

-- the files are those that are told, where they are told
abbrev pub IsTold : Option Table → Table → Type 0
IsTold None files = Unit {0}
IsTold (Some told) files = files ≡ told

-- what one try finds: the files, and whether the read fails
pub record Finding (told : Option Table) : Type 0 where
  pub files : Table
  pub is_told : IsTold told files
  pub fails : Bool

-- what comes of a try, and the further tries
abbrev pub tried_seen : List ℕ → Tried → Opening → Opening
tried_seen name (TriedOpened bytes) next = opened name bytes.items
tried_seen name TriedAbsent next = next
tried_seen name TriedTooLong next = too_long
tried_seen name TriedFailed next = read_failed

-- whether the read failed
abbrev pub TryWhole : Tried → Bool → Type 0
TryWhole (TriedOpened bytes) fails = fails ≡ false
TryWhole TriedAbsent fails = fails ≡ false
TryWhole TriedTooLong fails = fails ≡ false
TryWhole TriedFailed fails = fails ≡ true

-- whether a file that was opened has few enough bytes
abbrev pub TryFits : Tried → ℕ → Type 0
TryFits (TriedOpened bytes) limit = length bytes.items ≤ limit
TryFits TriedAbsent limit = Unit {0}
TryFits TriedTooLong limit = Unit {0}
TryFits TriedFailed limit = Unit {0}

-- what comes of a try to read a file
pub record IsTry (told : Option Table) (name : List ℕ) (limit : ℕ) (tried : Tried) : Type 0 where
  pub finding : Finding told
  pub gives : (next : Opening) → by_read finding.fails (finding.files name) limit name next ≡ tried_seen name tried next
  pub whole : TryWhole tried finding.fails
  pub fits : TryFits tried limit

-- what comes of tries
abbrev pub found_seen : Found → Opening
found_seen (Opened name bytes) = opened (string_bytes name) bytes.items
found_seen Absent = none_found
found_seen TooLong = too_long
found_seen Failed = read_failed

-- the reads from this number on find these
abbrev pub FindsTwo : {told : Option Table} → World → ℕ → Finding told → Finding told → Type 0
FindsTwo world number first second =
    (world.files number ≡ first.files) × (world.fails number ≡ first.fails) × (world.files (suc number) ≡ second.files) × (world.fails (suc number) ≡ second.fails)

-- no read failed, but where that is what was found
abbrev pub FoundWhole : Found → Bool → Bool → Type 0
FoundWhole (Opened name bytes) first second = (first ≡ false) × (second ≡ false)
FoundWhole Absent first second = (first ≡ false) × (second ≡ false)
FoundWhole TooLong first second = (first ≡ false) × (second ≡ false)
FoundWhole Failed first second = Unit {0}

-- whether a file that was opened has few enough bytes
abbrev pub FoundFits : Found → ℕ → Type 0
FoundFits (Opened name bytes) limit = length bytes.items ≤ limit
FoundFits Absent limit = Unit {0}
FoundFits TooLong limit = Unit {0}
FoundFits Failed limit = Unit {0}

-- what comes of tries of these names
pub record IsOpening (told : Option Table) (names : List (List ℕ)) (limit : ℕ) (found : Found) : Type 0 where
  pub first : Finding told
  pub second : Finding told
  pub gives : (number : ℕ) (world : World) → FindsTwo world number first second → open_first world number limit names ≡ found_seen found
  pub whole : FoundWhole found first.fails second.fails
  pub fits : FoundFits found limit

-- what the read of a try answered
abbrev pub tried_read : Result Tried NoMemory → ReadAnswer
tried_read (Ok (TriedOpened bytes)) = ReadDone
tried_read (Ok TriedAbsent) = ReadAbsent
tried_read (Ok TriedTooLong) = ReadTooLong
tried_read (Ok TriedFailed) = ReadFailed
tried_read (Err none) = ReadNoMemory

-- what the last read of tries answered
abbrev pub found_read : Result Found NoMemory → ReadAnswer
found_read (Ok (Opened name bytes)) = ReadDone
found_read (Ok Absent) = ReadAbsent
found_read (Ok TooLong) = ReadTooLong
found_read (Ok Failed) = ReadFailed
found_read (Err none) = ReadNoMemory
