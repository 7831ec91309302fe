-- Where a fault stands in a file, by the grammar.
use Rattle.std.specs.Prelude.{◌≡◌, ℕ, List, [], ◌∷◌, ◌++◌, length, Option, Some, None, Result, Err}
use Rattle.tptp_lexer.specs.Spots.{spot_at}
use Rattle.tptp_lexer.specs.Tokens.{tokens_of}
use Rattle.tptp_lexer.specs.declared.token.Token.{Token}
use Rattle.tptp_lexer.specs.declared.token.LexFault.{LexFault}
use Rattle.cnf_grammar.specs.Laws.{IsFirstFault}
use Rattle.cnf_grammar.specs.Meaning.{Named, read_include, meaning}
use Rattle.cnf_grammar.specs.Shapes.{Shape}
use Rattle.cnf_grammar.specs.Spelling.{spell_statement, IsFile, IsFront}
use Rattle.cnf_grammar.specs.Trees.{Statement}
use Rattle.cnf_reader.specs.declared.fault.ReadKind.{ReadKind}
use Rattle.cnf_reader.specs.declared.fault.ReadKind.TheVariants.{Lex, Expected, Role, NotCnf, Equality, Number, Defined, BadConclude, TooManyClauses, TooManyLiterals, TooManyVariables, TooDeep}
use Rattle.cnf_reader.specs.declared.fault.ReadFault.{ReadFault}
use Rattle.cnf_reader.specs.declared.fault.ReadFault.TheVariants.{At}
use Rattle.cnf_reader.specs.declared.pending.Asked.{Asked}
use Rattle.cnf_reader.specs.declared.kept.Kept.{Kept}
use Rattle.cnf_reader.specs.Files.{shapes_in, written_tokens, AsksFor, Says}
use Rattle.cnf_reader.specs.Rows.{FaultAt, NoFaultAt}
use Rattle.cnf_reader.specs.Meanings.{Written, shapes_of}
use Rattle.cnf_reader.specs.Reading.{Source, shape_in}

-- what a fault of this kind says of the token that stands behind these: that it is the first which cannot go on, or that it goes on past a limit; a
-- broken `conclude` item may be either
abbrev pub SaysOfToken : ReadKind → List Shape → Shape → Type 0
SaysOfToken Expected before s = IsFirstFault before s
SaysOfToken NotCnf before s = IsFirstFault before s
SaysOfToken Equality before s = IsFirstFault before s
SaysOfToken Number before s = IsFirstFault before s
SaysOfToken Defined before s = IsFirstFault before s
SaysOfToken Role before s = IsFront (before ++ s ∷ [])
SaysOfToken TooManyClauses before s = IsFront (before ++ s ∷ [])
SaysOfToken TooManyLiterals before s = IsFront (before ++ s ∷ [])
SaysOfToken TooManyVariables before s = IsFront (before ++ s ∷ [])
SaysOfToken TooDeep before s = IsFront (before ++ s ∷ [])
SaysOfToken BadConclude before s = IsFront before
SaysOfToken _ before s = ⊥

-- how a fault stands in a file that is read where this is kept; `lower` reads the file of an include
pub data Stop (lower : Asked → Kept → Result Kept ReadFault) (source : Source) (kept : Kept) (fault : ReadFault) : Type 0 where
  -- at a token, by a row of the table of faults, where none stands at a token before it
  at_token : (before own more : List Written) (token : Written) (file : List Statement) (by_then : Kept) (kind : ReadKind) → written_tokens source.bytes ≡ before ++ (own ++ token ∷ more)
      → Says lower source kept before file by_then → NoFaultAt (length by_then.clauses) source.selections (shapes_of own) → FaultAt (length by_then.clauses) source.selections (shapes_of own) token.shape kind
      → SaysOfToken kind (shapes_of before ++ shapes_of own) token.shape → fault ≡ At kind source.name token.line token.column [] → Stop lower source kept fault
  -- behind the last token, where no more token can be read
  at_text : (before own : List Written) (file : List Statement) (by_then : Kept) (text : LexFault) → written_tokens source.bytes ≡ before ++ own → Says lower source kept before file by_then → NoFaultAt (length by_then.clauses) source.selections (shapes_of own)
      → (tokens_of source.bytes).fault ≡ Some text → IsFront (shapes_in source.bytes (tokens_of source.bytes).tokens) → fault ≡ At (Lex text.kind) source.name text.line text.column [] → Stop lower source kept fault
  -- at the end, where the tokens are the front of a file and no file
  at_the_end : (before own : List Written) (file : List Statement) (by_then : Kept) → written_tokens source.bytes ≡ before ++ own → Says lower source kept before file by_then → NoFaultAt (length by_then.clauses) source.selections (shapes_of own)
      → (tokens_of source.bytes).fault ≡ None → IsFront (shapes_in source.bytes (tokens_of source.bytes).tokens) → (IsFile (shapes_in source.bytes (tokens_of source.bytes).tokens) → ⊥)
      → fault ≡ At Expected source.name (spot_at source.bytes (length source.bytes)).line (spot_at source.bytes (length source.bytes)).column [] → Stop lower source kept fault
  -- in the file of an include, the statements before which say what is kept by then
  in_include : (before own more : List Written) (file : List Statement) (statement : Statement) (by_then : Kept) (text : List ℕ) (names : Option (List Named)) (asked : Asked) → written_tokens source.bytes ≡ before ++ (own ++ more)
      → Says lower source kept before file by_then → spell_statement statement ≡ shapes_of own → NoFaultAt (length by_then.clauses) source.selections (shapes_of own) → meaning statement ≡ read_include text names → AsksFor own text names asked → lower asked by_then ≡ Err fault → Stop lower source kept fault
