-- Files that are open, and what is still to be read of them. No public clause cites this module.
use Rattle.std.specs.Prelude.{◌≡◌, false, true, ℕ, suc, ◌+◌, ◌-◌, ◌*◌, ◌<◌, ◌≤◌, List, [], ◌∷◌, length, drop, Option, Result, Ok, Err, string_bytes, All}
use Rattle.mg_word.specs.declared.clause.Name.{Name}
use Rattle.mg_outside.specs.Reading.{Table}
use Rattle.tptp_lexer.specs.Tokens.{left_of, IsAt}
use Rattle.tptp_lexer.specs.declared.cursor.Cursor.{Cursor}
use Rattle.cnf_reader.specs.declared.fault.ReadFault.{ReadFault}
use Rattle.cnf_reader.specs.declared.kept.Kept.{Kept}
use Rattle.cnf_reader.specs.declared.pending.Asked.{Asked}
use Rattle.cnf_reader.specs.declared.part.Part.{Part}
use Rattle.cnf_reader.specs.declared.part.Part.TheVariants.{Ended, Clause, Include, Fault}
use Rattle.cnf_reader.specs.declared.files.OpenFile.TheInside.{Inside}
use Rattle.cnf_reader.specs.Led.{count_left, Spends}
use Rattle.cnf_reader.specs.Sound.{IsSoundKept, AsksByName}
use Rattle.cnf_reader.specs.Statements.{fresh}
use Rattle.cnf_reader.specs.Reading.{Source, World, most_bytes, most_includes, and_then, fault_at, include_in, reading_of, NeverFails, AreTold}
use Rattle.cnf_reader.specs.Openings.{Finding, FindsTwo}
use Rattle.cnf_reader.specs.Parts.{is_of_text, Lower, reads_on, source_named}

-- a file that is open
pub record FileData : Type 0 where
  pub name : List ℕ
  pub number : ℕ
  pub bytes : List ℕ
  pub cursor : Cursor

abbrev pub file_seen : Inside → FileData
file_seen f = record { name = string_bytes f.name; number = f.number; bytes = f.bytes.items; cursor = f.cursor }

-- what holds of each file that is open
pub record IsFileOpen (f : Inside) : Type 0 where
  pub small : length f.bytes.items ≤ 16777216
  pub at : IsAt f.bytes.items f.cursor

-- the file under these selections
abbrev pub source_in : List (Option (List Name)) → FileData → Source
source_in selections f = source_named f.number f.bytes selections f.name

-- what the rest of the file gives
abbrev pub rest_of : Lower → List (Option (List Name)) → Kept → FileData → Result Kept ReadFault
rest_of lower selections kept f = reads_on lower (source_in selections f) fresh kept (left_of f.bytes f.cursor)

-- the two are one file
abbrev pub IsSame : FileData → FileData → Type 0
IsSame f g = (g.name ≡ f.name) × (g.number ≡ f.number) × (g.bytes ≡ f.bytes)

-- how the reading of the file goes on, whatever its includes are
abbrev pub Advances : List (Option (List Name)) → Kept → FileData → Part → Kept → FileData → Type 0
Advances selections kept f Ended after g = (lower : Lower) → rest_of lower selections kept f ≡ Ok after
Advances selections kept f Clause after g = IsSame f g × ((lower : Lower) → rest_of lower selections kept f ≡ rest_of lower selections after g)
Advances selections kept f (Include asked) after g =
    IsSame f g × ((lower : Lower) → rest_of lower selections kept f ≡ and_then (lower asked after) (λ behind. rest_of lower selections behind g))
Advances selections kept f (Fault kind line column) after g = IsSame f g × (is_of_text kind ≡ true) × ((lower : Lower) → rest_of lower selections kept f ≡ fault_at kind f.name line column)

-- how many tokens of the file are left
abbrev pub left_in : FileData → ℕ
left_in f = count_left f.bytes f.cursor

-- how many tokens of open files are left
abbrev pub left_in_all : List FileData → ℕ
left_in_all [] = 0
left_in_all (f ∷ outer) = left_in f + left_in_all outer

-- what is kept of files that are open has its facts: each new symbol was paid by a token, and each file is numbered
pub record IsSoundRun (kept : Kept) (files : List FileData) : Type 0 where
  pub sound : IsSoundKept kept
  pub room : length kept.symbols + left_in_all files ≤ kept.bytes
  pub bytes : kept.bytes ≤ most_bytes
  pub numbers : All (λ f. f.number < length kept.files) files
  pub few_files : length kept.files ≤ kept.includes + 1
  pub few_includes : kept.includes ≤ most_includes

-- how many levels are left below a file that stands in so many others
abbrev pub levels_in : List FileData → ℕ
levels_in outer = 15 - length outer

-- what is still to be read of open files, the innermost first, under these selections
abbrev pub resume : World → Option (List ℕ) → List (Option (List Name)) → Kept → List FileData → Result Kept ReadFault
resume world root selections kept [] = Ok kept
resume world root selections kept (f ∷ outer) =
    and_then (rest_of (λ asked before. include_in world root (levels_in outer) (source_in selections f) asked before) selections kept f) (λ after. resume world root (drop 1 selections) after outer)

-- the two worlds are the same at the reads below this number
abbrev pub SameBelow : ℕ → World → World → Type 0
SameBelow number world other = (k : ℕ) → k < number → (other.files k ≡ world.files k) × (other.fails k ≡ world.fails k)

-- the number of the first read of the next include
abbrev pub next_read : Kept → ℕ
next_read kept = 2 * (kept.includes + 1)

-- a world in which no read so far failed; all worlds that are the same at these reads go on with the open files
pub record Reached (told : Option Table) (root : Option (List ℕ)) (name : List ℕ) (selections : List (Option (List Name))) (kept : Kept) (open_files : List FileData) : Type 0 where
  pub world : World
  pub files : AreTold told world
  pub whole : NeverFails world
  pub reading : (other : World) → SameBelow (next_read kept) world other → reading_of other root name ≡ resume other root selections kept open_files

-- the file of an include, which stands in a file with so many others around it, was opened and is to be read
pub record Enters (told : Option Table) (root : Option (List ℕ)) (kept : Kept) (file : FileData) (depth : ℕ) (asked : Asked) (now : Kept) (inner : FileData) : Type 0 where
  pub first : Finding told
  pub second : Finding told
  pub whole : (first.fails ≡ false) × (second.fails ≡ false)
  pub includes : now.includes ≡ kept.includes + 1
  pub deep : depth < 15
  pub fits : now.bytes ≤ 16777216
  pub gives : (world : World) → FindsTwo world (next_read kept) first second → (selections : List (Option (List Name)))
      → include_in world root (15 - depth) (source_in selections file) asked kept
      ≡ rest_of (λ early before. include_in world root (15 - suc depth) (source_in (asked.names ∷ selections) inner) early before) (asked.names ∷ selections) now inner

-- a fault stands at an include
pub record Refuses (told : Option Table) (root : Option (List ℕ)) (kept : Kept) (file : FileData) (depth : ℕ) (asked : Asked) (fault : ReadFault) : Type 0 where
  pub first : Finding told
  pub second : Finding told
  pub gives : (world : World) → FindsTwo world (next_read kept) first second → (selections : List (Option (List Name))) → include_in world root (15 - depth) (source_in selections file) asked kept ≡ Err fault

-- the files of that name and root read as what is kept
pub record ReadsKept (told : Option Table) (name : List ℕ) (root : Option (List ℕ)) (kept : Kept) : Type 0 where
  pub world : World
  pub files : AreTold told world
  pub whole : NeverFails world
  pub reading : reading_of world root name ≡ Ok kept
