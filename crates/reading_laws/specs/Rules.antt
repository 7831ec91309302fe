-- How the files of a problem read: a constructor for each rule.
use Rattle.std.specs.Prelude.{◌≡◌, ℕ, zero, suc, ◌+◌, ◌-◌, ◌*◌, ◌<◌, ◌≤◌, true, false, List, [], ◌∷◌, ◌++◌, length, Option, Some, None, Result, Ok, Err}
use Rattle.tptp_lexer.specs.Tokens.{tokens_of}
use Rattle.tptp_lexer.specs.Spots.{spot_at}
use Rattle.tptp_lexer.specs.declared.token.Token.{Token}
use Rattle.tptp_lexer.specs.declared.token.LexFault.{LexFault}
use Rattle.cnf_grammar.specs.Table.{is_end}
use Rattle.cnf_grammar.specs.declared.state.State.TheVariants.{ClauseClosed, IncludeClosed}
use Rattle.cnf_reader.specs.declared.fault.ReadKind.{ReadKind}
use Rattle.cnf_reader.specs.declared.fault.ReadKind.TheVariants.{Lex, Expected, IncludeAbsent, IncludeDepth, TooManyIncludes, TooLong, ProblemAbsent, Files}
use Rattle.cnf_reader.specs.declared.fault.ReadFault.{ReadFault}
use Rattle.cnf_reader.specs.declared.fault.ReadFault.TheVariants.{At}
use Rattle.cnf_reader.specs.declared.pending.Asked.{Asked}
use Rattle.cnf_reader.specs.declared.pending.Pending.{Pending}
use Rattle.cnf_reader.specs.declared.kept.Kept.{Kept}
use Rattle.cnf_reader.specs.Keeping.{keep, is_full}
use Rattle.cnf_reader.specs.Meanings.{ends_statement}
use Rattle.cnf_reader.specs.Folders.{IsFolder}
use Rattle.cnf_reader.specs.Names.{slash}
use Rattle.cnf_reader.specs.Statements.{fresh, take}
use Rattle.cnf_reader.specs.Reading.{World, Source, Opening, opened, none_found, too_long, read_failed, shape_in, fault_at, source_of, with_file, with_include, nothing_kept, most_bytes, most_includes, most_levels}

-- what comes of the tries of these names for a file of at most so many bytes, where the first try is the read of this number
pub data Opens (world : World) (limit : ℕ) : ℕ → List (List ℕ) → Opening → Type 0 where
  -- no name is left
  no_name : (number : ℕ) → Opens world limit number [] none_found
  -- the read fails, and no other name is tried
  read_fails : (number : ℕ) (name : List ℕ) (names : List (List ℕ)) → world.fails number ≡ true → Opens world limit number (name ∷ names) read_failed
  -- there is no such file: the next name is tried
  file_absent : (number : ℕ) (name : List ℕ) (names : List (List ℕ)) (opening : Opening) → world.fails number ≡ false → world.files number name ≡ None → Opens world limit (suc number) names opening → Opens world limit number (name ∷ names) opening
  -- the file is there, and has too many bytes
  file_long : (number : ℕ) (name : List ℕ) (names : List (List ℕ)) (bytes : List ℕ) → world.fails number ≡ false → world.files number name ≡ Some bytes → limit < length bytes → Opens world limit number (name ∷ names) too_long
  -- the file is there
  file_there : (number : ℕ) (name : List ℕ) (names : List (List ℕ)) (bytes : List ℕ) → world.fails number ≡ false → world.files number name ≡ Some bytes → length bytes ≤ limit → Opens world limit number (name ∷ names) (opened name bytes)

-- a name that begins with a slash
abbrev pub BeginsWithSlash : List ℕ → Type 0
BeginsWithSlash name = (rest : List ℕ) × (name ≡ slash ∷ rest)

-- a name that ends with one
abbrev pub EndsWithSlash : List ℕ → Type 0
EndsWithSlash name = (front : List ℕ) × (name ≡ front ++ slash ∷ [])

-- the root with one slash behind it
pub data IsRooted (root front : List ℕ) : Type 0 where
  has_slash : EndsWithSlash root → front ≡ root → IsRooted root front
  gets_slash : (EndsWithSlash root → ⊥) → front ≡ root ++ slash ∷ [] → IsRooted root front

-- the names that are tried for a file that a file includes, in order
pub data AreTries (root : Option (List ℕ)) (including file : List ℕ) (names : List (List ℕ)) : Type 0 where
  -- its own, where it begins with a slash
  as_it_is : BeginsWithSlash file → names ≡ file ∷ [] → AreTries root including file names
  -- in the folder of the including file, where no root is given
  beside : (folder : List ℕ) → (BeginsWithSlash file → ⊥) → root ≡ None → IsFolder including folder → names ≡ (folder ++ file) ∷ [] → AreTries root including file names
  -- in that folder, and then behind the root
  beside_then_root : (folder top front : List ℕ) → (BeginsWithSlash file → ⊥) → root ≡ Some top → IsFolder including folder → IsRooted top front → names ≡ (folder ++ file) ∷ ((front ++ file) ∷ []) → AreTries root including file names

-- what comes of the tries for an included file, for what is left of the bytes
pub record OpensIncluded (world : World) (root : Option (List ℕ)) (source : Source) (asked : Asked) (kept : Kept) (opening : Opening) : Type 0 where
  pub names : List (List ℕ)
  pub tries : AreTries root source.name asked.file names
  pub opens : Opens world (most_bytes - kept.bytes) (2 * (kept.includes + 1)) names opening

-- the statement under way takes the token, and is this one then
abbrev pub Takes : Source → Kept → Pending → Token → Pending → Type 0
Takes source kept p token next = take (is_full kept) source.selections p (shape_in source.bytes token) token.line token.column ≡ Ok next

mutual
  -- in a file below which so many levels are left, these tokens and what ends them read so, behind a statement under way and what is kept
  pub data Goes (world : World) (root : Option (List ℕ)) : ℕ → Source → Pending → Kept → List Token → Option LexFault → Result Kept ReadFault → Type 0 where
    -- the file ends between statements
    file_ends : (levels : ℕ) (source : Source) (p : Pending) (kept : Kept) → is_end p.position ≡ true → Goes world root levels source p kept [] None (Ok kept)
    -- it ends within one: the fault stands behind its last byte
    ends_within : (levels : ℕ) (source : Source) (p : Pending) (kept : Kept) → is_end p.position ≡ false
        → Goes world root levels source p kept [] None (fault_at Expected source.name (spot_at source.bytes (length source.bytes)).line (spot_at source.bytes (length source.bytes)).column)
    -- no token can be read: the fault stands where the text has it
    no_token : (levels : ℕ) (source : Source) (p : Pending) (kept : Kept) (fault : LexFault) → Goes world root levels source p kept [] (Some fault) (fault_at (Lex fault.kind) source.name fault.line fault.column)
    -- a fault stands at the token
    at_token : (levels : ℕ) (source : Source) (p : Pending) (kept : Kept) (token : Token) (tokens : List Token) (fault : Option LexFault) (kind : ReadKind)
        → take (is_full kept) source.selections p (shape_in source.bytes token) token.line token.column ≡ Err kind
        → Goes world root levels source p kept (token ∷ tokens) fault (fault_at kind source.name token.line token.column)
    -- the token is one of a statement
    within : (levels : ℕ) (source : Source) (p : Pending) (kept : Kept) (token : Token) (tokens : List Token) (fault : Option LexFault) (next : Pending) (result : Result Kept ReadFault) → Takes source kept p token next
        → ends_statement p.position.state ≡ false → Goes world root levels source next kept tokens fault result → Goes world root levels source p kept (token ∷ tokens) fault result
    -- it is the dot of a clause, which is kept
    clause_ends : (levels : ℕ) (source : Source) (p : Pending) (kept : Kept) (token : Token) (tokens : List Token) (fault : Option LexFault) (next : Pending) (result : Result Kept ReadFault) → Takes source kept p token next
        → p.position.state ≡ ClauseClosed → Goes world root levels source fresh (keep source.selections kept source.number next) tokens fault result → Goes world root levels source p kept (token ∷ tokens) fault result
    -- it is the dot of an include, which reads, and the file goes on
    include_ends : (levels : ℕ) (source : Source) (p : Pending) (kept : Kept) (token : Token) (tokens : List Token) (fault : Option LexFault) (next : Pending) (after : Kept) (result : Result Kept ReadFault) → Takes source kept p token next
        → p.position.state ≡ IncludeClosed → Includes world root levels source next.asked kept (Ok after) → Goes world root levels source fresh after tokens fault result → Goes world root levels source p kept (token ∷ tokens) fault result
    -- it is the dot of an include, of which there is a fault, and no more is read
    include_stops : (levels : ℕ) (source : Source) (p : Pending) (kept : Kept) (token : Token) (tokens : List Token) (fault : Option LexFault) (next : Pending) (stop : ReadFault) → Takes source kept p token next
        → p.position.state ≡ IncludeClosed → Includes world root levels source next.asked kept (Err stop) → Goes world root levels source p kept (token ∷ tokens) fault (Err stop)

  -- an include of a file below which so many levels are left reads so
  pub data Includes (world : World) (root : Option (List ℕ)) : ℕ → Source → Asked → Kept → Result Kept ReadFault → Type 0 where
    -- there were as many as may be
    one_too_many : (levels : ℕ) (source : Source) (asked : Asked) (kept : Kept) → most_includes ≤ kept.includes → Includes world root levels source asked kept (fault_at TooManyIncludes source.name asked.line asked.column)
    -- no level is left
    too_deep : (source : Source) (asked : Asked) (kept : Kept) → kept.includes < most_includes → Includes world root zero source asked kept (fault_at IncludeDepth source.name asked.line asked.column)
    -- there is no such file
    none_there : (levels : ℕ) (source : Source) (asked : Asked) (kept : Kept) → kept.includes < most_includes → OpensIncluded world root source asked kept none_found
        → Includes world root (suc levels) source asked kept (Err (At IncludeAbsent source.name asked.line asked.column asked.file))
    -- it has too many bytes
    all_too_long : (levels : ℕ) (source : Source) (asked : Asked) (kept : Kept) → kept.includes < most_includes → OpensIncluded world root source asked kept too_long
        → Includes world root (suc levels) source asked kept (fault_at TooLong source.name asked.line asked.column)
    -- its reading fails
    not_read : (levels : ℕ) (source : Source) (asked : Asked) (kept : Kept) → kept.includes < most_includes → OpensIncluded world root source asked kept read_failed
        → Includes world root (suc levels) source asked kept (fault_at Files source.name asked.line asked.column)
    -- the file reads in the place of the include, with one level less and under one selection more
    file_reads : (levels : ℕ) (source : Source) (asked : Asked) (kept : Kept) (name bytes : List ℕ) (result : Result Kept ReadFault) → kept.includes < most_includes → OpensIncluded world root source asked kept (opened name bytes)
        → Goes world root levels (source_of name bytes (asked.names ∷ source.selections) kept) fresh (with_file name bytes (with_include kept)) (tokens_of bytes).tokens (tokens_of bytes).fault result
        → Includes world root (suc levels) source asked kept result

-- the problem of this name reads so
pub data ReadsAs (world : World) (root : Option (List ℕ)) (name : List ℕ) : Result Kept ReadFault → Type 0 where
  -- there is no such file
  problem_absent : Opens world most_bytes 0 (name ∷ []) none_found → ReadsAs world root name (fault_at ProblemAbsent name 1 1)
  -- it has too many bytes
  problem_long : Opens world most_bytes 0 (name ∷ []) too_long → ReadsAs world root name (fault_at TooLong name 1 1)
  -- its reading fails
  problem_fails : Opens world most_bytes 0 (name ∷ []) read_failed → ReadsAs world root name (fault_at Files name 1 1)
  -- it reads, under no selection
  problem_reads : (found bytes : List ℕ) (result : Result Kept ReadFault) → Opens world most_bytes 0 (name ∷ []) (opened found bytes)
      → Goes world root most_levels (source_of found bytes (None ∷ []) nothing_kept) fresh (with_file found bytes nothing_kept) (tokens_of bytes).tokens (tokens_of bytes).fault result → ReadsAs world root name result
