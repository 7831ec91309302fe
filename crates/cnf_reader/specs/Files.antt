-- What is kept of a file, as the statements of a tree say it one after another.
use Rattle.std.specs.Prelude.{◌≡◌, ℕ, List, [], ◌∷◌, ◌++◌, Option, None, Result, Ok, map, length}
use Rattle.tptp_lexer.specs.Tokens.{tokens_of}
use Rattle.tptp_lexer.specs.declared.token.Token.{Token}
use Rattle.cnf_grammar.specs.Shapes.{Shape}
use Rattle.cnf_grammar.specs.Trees.{Statement}
use Rattle.cnf_grammar.specs.Spelling.{spell_statement, spell}
use Rattle.cnf_grammar.specs.Meaning.{Named, ReadClause, ReadStatement, read_clause, read_include, meaning}
use Rattle.cnf_reader.specs.declared.fault.ReadFault.{ReadFault}
use Rattle.cnf_reader.specs.declared.pending.Asked.{Asked}
use Rattle.cnf_reader.specs.declared.pending.Pending.{Pending}
use Rattle.cnf_reader.specs.declared.kept.Kept.{Kept}
use Rattle.cnf_reader.specs.Keeping.{keep}
use Rattle.cnf_reader.specs.Rows.{NoFaultAt, KeepsRules}
use Rattle.cnf_reader.specs.Meanings.{Written, shapes_of, names_seen, HoldsClause}
use Rattle.cnf_reader.specs.Reading.{Source, shape_in}

-- the shapes of tokens of these bytes
abbrev pub shapes_in : List ℕ → List Token → List Shape
shapes_in bytes tokens = map (shape_in bytes) tokens

-- a token of these bytes, with the line and column where it stands
abbrev pub written_in : List ℕ → Token → Written
written_in bytes token = record { shape = shape_in bytes token; line = token.line; column = token.column }

-- the tokens of a file
abbrev pub written_tokens : List ℕ → List Written
written_tokens bytes = map (written_in bytes) (tokens_of bytes).tokens

-- the first of the tokens stands at this line and column
abbrev pub BeginAt : List Written → ℕ → ℕ → Type 0
BeginAt [] line column = ⊥
BeginAt (first ∷ more) line column = (line ≡ first.line) × (column ≡ first.column)

-- the third of the tokens, which is an include's file name, stands at this line and column
abbrev pub NameFileAt : List Written → ℕ → ℕ → Type 0
NameFileAt (word ∷ bracket ∷ file ∷ more) line column = (line ≡ file.line) × (column ≡ file.column)
NameFileAt _ line column = ⊥

-- the clause that these tokens say keeps the rules, and is kept, with their place, where the selections have its name
pub record KeepsClause (source : Source) (kept : Kept) (tokens : List Written) (c : ReadClause) (next : Kept) : Type 0 where
  pub statement : Pending
  pub holds : HoldsClause statement c
  pub rules : KeepsRules c
  pub begins : BeginAt tokens statement.line statement.column
  pub is : next ≡ keep source.selections kept source.number statement

-- what is asked for is the file that these tokens include, under the names that they select
pub record AsksFor (tokens : List Written) (file : List ℕ) (names : Option (List Named)) (asked : Asked) : Type 0 where
  pub file_is : asked.file ≡ file
  pub names_are : names_seen asked.names ≡ names
  pub stands : NameFileAt tokens asked.line asked.column

-- the file that these tokens include is read here; `lower` reads it
pub record FollowsInclude (lower : Asked → Kept → Result Kept ReadFault) (kept : Kept) (tokens : List Written) (file : List ℕ) (names : Option (List Named)) (next : Kept) : Type 0 where
  pub asked : Asked
  pub asks : AsksFor tokens file names asked
  pub reads : lower asked kept ≡ Ok next

-- what a statement that says this makes of what is kept
abbrev pub SaysOne : (Asked → Kept → Result Kept ReadFault) → Source → Kept → List Written → ReadStatement → Kept → Type 0
SaysOne lower source kept tokens (read_clause c) next = KeepsClause source kept tokens c next
SaysOne lower source kept tokens (read_include file names) next = FollowsInclude lower kept tokens file names next

-- what statements make of it one after another, each of its own tokens, at none of which a fault stands
abbrev pub Says : (Asked → Kept → Result Kept ReadFault) → Source → Kept → List Written → List Statement → Kept → Type 0
Says lower source kept tokens [] after = (tokens ≡ []) × (after ≡ kept)
Says lower source kept tokens (statement ∷ more) after =
    (own rest : List Written) × (tokens ≡ own ++ rest) × (spell_statement statement ≡ shapes_of own) × NoFaultAt (length kept.clauses) source.selections (shapes_of own)
    × (next : Kept) × SaysOne lower source kept own (meaning statement) next × Says lower source next rest more after

-- the whole file is a tree, and what is kept once it is read is what the tree's statements say
pub record IsReadAsSaid (lower : Asked → Kept → Result Kept ReadFault) (source : Source) (kept after : Kept) : Type 0 where
  pub file : List Statement
  pub spells : spell file ≡ shapes_in source.bytes (tokens_of source.bytes).tokens
  pub whole : (tokens_of source.bytes).fault ≡ None
  pub says : Says lower source kept (written_tokens source.bytes) file after
