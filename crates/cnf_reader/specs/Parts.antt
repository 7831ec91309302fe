-- What a statement is to the reading of its file. No public clause cites this module.
use Rattle.std.specs.Prelude.{◌≡◌, ℕ, ◌+◌, ◌≤◌, Bool, true, false, List, length, Option, Result, Ok}
use Rattle.mg_word.specs.declared.clause.Name.{Name}
use Rattle.tptp_lexer.specs.Tokens.{Lexed}
use Rattle.tptp_lexer.specs.Spots.{spot_at}
use Rattle.cnf_grammar.specs.declared.position.Position.{Position}
use Rattle.cnf_grammar.specs.Table.{is_end}
use Rattle.cnf_reader.specs.declared.fault.ReadKind.{ReadKind}
use Rattle.cnf_reader.specs.declared.fault.ReadKind.TheVariants.{Expected, Files, ProblemAbsent, IncludeAbsent, TooLong}
use Rattle.cnf_reader.specs.declared.fault.ReadFault.{ReadFault}
use Rattle.cnf_reader.specs.declared.pending.Asked.{Asked}
use Rattle.cnf_reader.specs.declared.pending.Pending.{Pending}
use Rattle.cnf_reader.specs.declared.kept.Kept.{Kept}
use Rattle.cnf_reader.specs.declared.part.Part.{Part}
use Rattle.cnf_reader.specs.declared.part.Part.TheVariants.{Ended, Clause, Include, Fault}
use Rattle.cnf_reader.specs.Statements.{fresh}
use Rattle.cnf_reader.specs.Reading.{Source, read_tokens, and_then, fault_at}

-- the reading of the file of an include
abbrev pub Lower : Type 0
Lower = Asked → Kept → Result Kept ReadFault

-- a file of this name
abbrev pub source_named : ℕ → List ℕ → List (Option (List Name)) → List ℕ → Source
source_named number bytes selections name = record { name = name; number = number; bytes = bytes; selections = selections }

-- the reading of a file of this name, where these tokens are left
abbrev pub reads_on : Lower → Source → Pending → Kept → Lexed → Result Kept ReadFault
reads_on lower source pending kept left = read_tokens lower source pending kept left.tokens left.fault

-- not too many brackets are open at the place
abbrev pub IsOpen : Position → Type 0
IsOpen p = p.level + p.depth ≤ 100

-- no include and no file is new
pub record Stays (kept after : Kept) : Type 0 where
  pub includes : after.includes ≡ kept.includes
  pub bytes : after.bytes ≡ kept.bytes
  pub files : after.files ≡ kept.files

-- whether faults of this kind stand at tokens of a file, and not at its opening
abbrev pub is_of_text : ReadKind → Bool
is_of_text Files = false
is_of_text ProblemAbsent = false
is_of_text IncludeAbsent = false
is_of_text TooLong = false
is_of_text kind = true

-- how the reading of a file goes on with this part, whatever the file's name and whatever its includes are
abbrev pub PartIs : ℕ → List ℕ → List (Option (List Name)) → Pending → Kept → Lexed → Part → Kept → Lexed → Type 0
PartIs number bytes selections p kept left Ended after more =
    (lower : Lower) (name : List ℕ) → reads_on lower (source_named number bytes selections name) p kept left ≡ Ok after
PartIs number bytes selections p kept left Clause after more =
    (lower : Lower) (name : List ℕ) → reads_on lower (source_named number bytes selections name) p kept left ≡ reads_on lower (source_named number bytes selections name) fresh after more
PartIs number bytes selections p kept left (Include asked) after more =
    (lower : Lower) (name : List ℕ) → reads_on lower (source_named number bytes selections name) p kept left
    ≡ and_then (lower asked after) (λ behind. reads_on lower (source_named number bytes selections name) fresh behind more)
PartIs number bytes selections p kept left (Fault kind line column) after more =
    (is_of_text kind ≡ true) × ((lower : Lower) (name : List ℕ) → reads_on lower (source_named number bytes selections name) p kept left ≡ fault_at kind name line column)

-- the same from the start of a statement
abbrev pub IsPart : ℕ → List ℕ → List (Option (List Name)) → Kept → Lexed → Part → Kept → Lexed → Type 0
IsPart number bytes selections kept left part after more = PartIs number bytes selections fresh kept left part after more

-- what the end of the tokens is at a place
abbrev pub EndIs : Part → List ℕ → Position → Type 0
EndIs Ended bytes p = is_end p ≡ true
EndIs Clause bytes p = ⊥
EndIs (Include asked) bytes p = ⊥
EndIs (Fault kind line column) bytes p =
    (is_end p ≡ false) × (kind ≡ Expected) × (line ≡ (spot_at bytes (length bytes)).line) × (column ≡ (spot_at bytes (length bytes)).column)

abbrev pub IsEnd : List ℕ → Position → Part → Type 0
IsEnd bytes p part = EndIs part bytes p
