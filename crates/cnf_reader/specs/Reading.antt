-- The reading of a problem from its files: the input that they stand for, or the first fault.
use Rattle.std.specs.Prelude.{◌≡◌, ◌⊎◌, ℕ, zero, suc, ◌+◌, ◌-◌, ◌*◌, Bool, true, false, nat_le, List, [], ◌∷◌, ◌++◌, length, slice_range, Option, Some, None, Result, Ok, Err, if◌then◌else◌}
use Rattle.mg_word.specs.Facts.{InputData}
use Rattle.mg_word.specs.declared.clause.Name.{Name}
use Rattle.mg_outside.specs.declared.files.ReadAnswer.{ReadAnswer}
use Rattle.mg_outside.specs.declared.files.ReadAnswer.TheVariants.{Done as ReadDone, Absent as ReadAbsent, TooLong as ReadTooLong, Failed as ReadFailed, NoMemory as ReadNoMemory}
use Rattle.mg_outside.specs.Reading.{Table}
use Rattle.tptp_lexer.specs.Tokens.{tokens_of}
use Rattle.tptp_lexer.specs.Spots.{spot_at}
use Rattle.tptp_lexer.specs.declared.token.Token.{Token}
use Rattle.tptp_lexer.specs.declared.token.LexFault.{LexFault}
use Rattle.cnf_grammar.specs.declared.state.State.{State}
use Rattle.cnf_grammar.specs.declared.state.State.TheVariants.{ClauseClosed, IncludeClosed}
use Rattle.cnf_grammar.specs.Shapes.{Shape, shape_of}
use Rattle.cnf_grammar.specs.Table.{start, is_end}
use Rattle.cnf_reader.specs.declared.fault.ReadKind.{ReadKind}
use Rattle.cnf_reader.specs.declared.fault.ReadKind.TheVariants.{Lex, Expected, IncludeAbsent, IncludeDepth, TooManyIncludes, TooLong, ProblemAbsent, Files}
use Rattle.cnf_reader.specs.declared.fault.ReadFault.{ReadFault}
use Rattle.cnf_reader.specs.declared.fault.ReadFault.TheVariants.{At, NoMemory}
use Rattle.cnf_reader.specs.declared.pending.Asked.{Asked}
use Rattle.cnf_reader.specs.declared.pending.Pending.{Pending}
use Rattle.cnf_reader.specs.declared.kept.Kept.{Kept}
use Rattle.cnf_reader.specs.Statements.{fresh, take}
use Rattle.cnf_reader.specs.Keeping.{keep, is_full, input_of}
use Rattle.cnf_reader.specs.Names.{tries}

-- the most bytes of all files of a problem together
abbrev pub most_bytes : ℕ
most_bytes = 16777216

-- the most include statements
abbrev pub most_includes : ℕ
most_includes = 256

-- how many levels of files may stand below the problem file
abbrev pub most_levels : ℕ
most_levels = 15

-- a file that was read: its name, its number, its bytes, and the selections under which it is read
pub record Source : Type 0 where
  pub name : List ℕ
  pub number : ℕ
  pub bytes : List ℕ
  pub selections : List (Option (List Name))

-- what the reads find: the files as the read of each number finds them, and which reads fail. The read of the problem file has number 0, those of
-- the include of number k, from 1, have the numbers 2 * k and 2 * k + 1
pub record World : Type 0 where
  pub files : ℕ → Table
  pub fails : ℕ → Bool

-- what comes of tries to read a file
pub data Opening : Type 0 where
  opened : (name bytes : List ℕ) → Opening
  none_found : Opening
  too_long : Opening
  read_failed : Opening

-- what comes of one read, where these bytes are the file, if there is one; `next`: what comes of the further tries
abbrev pub by_read : Bool → Option (List ℕ) → ℕ → List ℕ → Opening → Opening
by_read true found limit name next = read_failed
by_read false None limit name next = next
by_read false (Some bytes) limit name next = if nat_le (length bytes) limit then opened name bytes else too_long

-- what comes of tries of these names, where the first has this number: a further name is tried after an absence alone
abbrev pub open_first : World → ℕ → ℕ → List (List ℕ) → Opening
open_first world number limit [] = none_found
open_first world number limit (name ∷ names) = by_read (world.fails number) (world.files number name) limit name (open_first world (suc number) limit names)

-- the shape of a token of these bytes
abbrev pub shape_in : List ℕ → Token → Shape
shape_in bytes token = shape_of token.kind (slice_range bytes token.start token.end) token.plain

-- what follows, unless a fault was met
abbrev pub and_then : {A B : Type 0} → Result A ReadFault → (A → Result B ReadFault) → Result B ReadFault
and_then (Err fault) next = Err fault
and_then (Ok a) next = next a

-- a fault with nothing for its subject
abbrev pub fault_at : {A : Type 0} → ReadKind → List ℕ → ℕ → ℕ → Result A ReadFault
fault_at kind file line column = Err (At kind file line column [])

-- behind a token that was read with this mode: a dot ends a clause, which is kept, or an include, which is followed. `lower` reads the file of an
-- include, and `rest` the rest of this one
abbrev pub behind : (Asked → Kept → Result Kept ReadFault) → Source → Kept → State → Pending → (Pending → Kept → Result Kept ReadFault) → Result Kept ReadFault
behind lower source kept ClauseClosed p rest = rest fresh (keep source.selections kept source.number p)
behind lower source kept IncludeClosed p rest = and_then (lower p.asked kept) (λ after. rest fresh after)
behind lower source kept state p rest = rest p kept

-- goes on behind a token of this place, if no fault stands there
abbrev pub go_on : (Asked → Kept → Result Kept ReadFault) → Source → Kept → State → Token → Result Pending ReadKind → (Pending → Kept → Result Kept ReadFault) → Result Kept ReadFault
go_on lower source kept state token (Err kind) rest = fault_at kind source.name token.line token.column
go_on lower source kept state token (Ok p) rest = behind lower source kept state p rest

-- at the end of the tokens: a lexical fault, or the end of the file, where no statement is under way
abbrev pub at_end : Source → Pending → Kept → Option LexFault → Result Kept ReadFault
at_end source p kept (Some fault) = fault_at (Lex fault.kind) source.name fault.line fault.column
at_end source p kept None =
    if is_end p.position then Ok kept else fault_at Expected source.name (spot_at source.bytes (length source.bytes)).line (spot_at source.bytes (length source.bytes)).column

-- what is kept once these tokens of a file are read, or the first fault
unfoldable pub read_tokens : (Asked → Kept → Result Kept ReadFault) → Source → Pending → Kept → List Token → Option LexFault → Result Kept ReadFault
read_tokens lower source p kept [] fault = at_end source p kept fault
read_tokens lower source p kept (token ∷ tokens) fault =
    go_on lower source kept p.position.state token (take (is_full kept) source.selections p (shape_in source.bytes token) token.line token.column)
    (λ next after. read_tokens lower source next after tokens fault)

-- the same of a whole file
abbrev pub read_source : (Asked → Kept → Result Kept ReadFault) → Source → Kept → Result Kept ReadFault
read_source lower source kept = read_tokens lower source fresh kept (tokens_of source.bytes).tokens (tokens_of source.bytes).fault

-- the file that was opened under a name
abbrev pub source_of : List ℕ → List ℕ → List (Option (List Name)) → Kept → Source
source_of name bytes selections kept = record { name = name; number = length kept.files; bytes = bytes; selections = selections }

-- with one more file
abbrev pub with_file : List ℕ → List ℕ → Kept → Kept
with_file name bytes kept = record kept { files = kept.files ++ name ∷ []; bytes = kept.bytes + length bytes }

-- with one more include
abbrev pub with_include : Kept → Kept
with_include kept = record kept { includes = kept.includes + 1 }

-- follows an include, once a file was opened; `deeper` reads it
abbrev pub follow : Opening → Source → Asked → Kept → (Source → Kept → Result Kept ReadFault) → Result Kept ReadFault
follow (opened name bytes) source asked kept deeper = deeper (source_of name bytes (asked.names ∷ source.selections) kept) (with_file name bytes (with_include kept))
follow none_found source asked kept deeper = Err (At IncludeAbsent source.name asked.line asked.column asked.file)
follow too_long source asked kept deeper = fault_at TooLong source.name asked.line asked.column
follow read_failed source asked kept deeper = fault_at Files source.name asked.line asked.column

-- an include, unless there were as many as may be
abbrev pub if_few : Source → Asked → Kept → Result Kept ReadFault → Result Kept ReadFault
if_few source asked kept next = if nat_le most_includes kept.includes then fault_at TooManyIncludes source.name asked.line asked.column else next

-- what comes of the tries for an include
abbrev pub opening_of : World → Option (List ℕ) → Source → Asked → Kept → Opening
opening_of world root source asked kept = open_first world (2 * (kept.includes + 1)) (most_bytes - kept.bytes) (tries root source.name asked.file)

-- reads the file of an include that stands in another file, with so many levels left below that
unfoldable pub include_in : World → Option (List ℕ) → ℕ → Source → Asked → Kept → Result Kept ReadFault
include_in world root zero source asked kept = if_few source asked kept (fault_at IncludeDepth source.name asked.line asked.column)
include_in world root (suc levels) source asked kept =
    if_few source asked kept
    (follow (opening_of world root source asked kept) source asked kept
    (λ deeper after. read_source (λ further more. include_in world root levels deeper further more) deeper after))

-- nothing is kept yet
abbrev pub nothing_kept : Kept
nothing_kept = record { symbols = []; files = []; clauses = []; includes = 0; bytes = 0 }

-- reads the problem file, once it was opened
abbrev pub read_opened : World → Option (List ℕ) → List ℕ → Opening → Result Kept ReadFault
read_opened world root problem (opened name bytes) =
    let source = source_of name bytes (None ∷ []) nothing_kept in
    read_source (λ asked kept. include_in world root most_levels source asked kept) source (with_file name bytes nothing_kept)
read_opened world root problem none_found = fault_at ProblemAbsent problem 1 1
read_opened world root problem too_long = fault_at TooLong problem 1 1
read_opened world root problem read_failed = fault_at Files problem 1 1

-- what is kept of the problem with this name, or the first fault
unfoldable pub reading_of : World → Option (List ℕ) → List ℕ → Result Kept ReadFault
reading_of world root name = read_opened world root name (open_first world 0 most_bytes (name ∷ []))

-- each read finds the told files, where files are told
abbrev pub AreTold : Option Table → World → Type 0
AreTold None world = Unit {0}
AreTold (Some told) world = (number : ℕ) → world.files number ≡ told

-- no read fails
abbrev pub NeverFails : World → Type 0
NeverFails world = (number : ℕ) → world.fails number ≡ false

-- the files of that name and root read as that input
pub record Reads (told : Option Table) (name : List ℕ) (root : Option (List ℕ)) (input : InputData) : Type 0 where
  pub world : World
  pub files : AreTold told world
  pub whole : NeverFails world
  pub kept : Kept
  pub reading : reading_of world root name ≡ Ok kept
  pub is : input ≡ input_of kept

-- the fault is the first that stands in the files of that name and root
pub record StandsFirst (told : Option Table) (name : List ℕ) (root : Option (List ℕ)) (fault : ReadFault) : Type 0 where
  pub world : World
  pub files : AreTold told world
  pub whole : NeverFails world
  pub reading : reading_of world root name ≡ Err fault

-- a read fails there, and no fault stands before it
pub record FailsFirst (told : Option Table) (name : List ℕ) (root : Option (List ℕ)) (fault : ReadFault) : Type 0 where
  pub world : World
  pub files : AreTold told world
  pub reading : reading_of world root name ≡ Err fault

-- what the last of the reads answered, where a fault of this kind was met
abbrev pub kind_read : ReadKind → ReadAnswer
kind_read Files = ReadFailed
kind_read ProblemAbsent = ReadAbsent
kind_read IncludeAbsent = ReadAbsent
kind_read TooLong = ReadTooLong
kind_read kind = ReadDone

-- the same of a fault
abbrev pub last_read : ReadFault → ReadAnswer
last_read (At kind file line column subject) = kind_read kind
last_read NoMemory = ReadNoMemory

-- the same of what is read, or of a fault
abbrev pub result_read : {A : Type 0} → Result A ReadFault → ReadAnswer
result_read (Ok value) = ReadDone
result_read (Err fault) = last_read fault

-- where the fault stands in the files, or that a read failed there
abbrev pub StandsBy : ReadKind → Option Table → List ℕ → Option (List ℕ) → ReadFault → Type 0
StandsBy Files told name root fault = FailsFirst told name root fault
StandsBy kind told name root fault = StandsFirst told name root fault

-- a fault stands first in the files; want of memory has no cause
abbrev pub IsFault : Option Table → List ℕ → Option (List ℕ) → ReadFault → Type 0
IsFault told name root (At kind file line column subject) = StandsBy kind told name root (At kind file line column subject)
IsFault told name root NoMemory = Unit {0}

-- told files read as some input, or some fault stands first in them
abbrev pub IsReadSome : Table → List ℕ → Option (List ℕ) → Type 0
IsReadSome told name root = ((input : InputData) × Reads (Some told) name root input) ⊎ ((fault : ReadFault) × StandsFirst (Some told) name root fault)
