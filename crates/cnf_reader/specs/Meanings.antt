-- What a statement whose tokens were taken to its dot means, by the grammar.
use Rattle.std.specs.Prelude.{◌≡◌, ℕ, Bool, true, false, List, [], ◌∷◌, Option, Some, None, Ok, map}
use Rattle.mg_word.specs.declared.clause.Name.{Name}
use Rattle.cnf_grammar.specs.declared.state.State.{State}
use Rattle.cnf_grammar.specs.declared.state.State.TheVariants.{ClauseClosed, IncludeClosed}
use Rattle.cnf_grammar.specs.Shapes.{Shape}
use Rattle.cnf_grammar.specs.Trees.{Statement}
use Rattle.cnf_grammar.specs.Spelling.{spell}
use Rattle.cnf_grammar.specs.Meaning.{Named, ReadClause, ReadStatement, read_clause, read_include, meaning}
use Rattle.cnf_reader.specs.declared.pending.Pending.{Pending}
use Rattle.cnf_reader.specs.Drafts.{kind_seen}
use Rattle.cnf_reader.specs.Statements.{take}

-- a token, with the line and column where it stands
pub record Written : Type 0 where
  pub shape : Shape
  pub line : ℕ
  pub column : ℕ

-- the shapes of tokens
abbrev pub shapes_of : List Written → List Shape
shapes_of tokens = map (λ t. t.shape) tokens

-- whether the token that is read in this mode ends a statement
abbrev pub ends_statement : State → Bool
ends_statement ClauseClosed = true
ends_statement IncludeClosed = true
ends_statement _ = false

-- the tokens are taken without a fault; the last of them, read in this mode, is the first to end the statement, which then is `whole`
abbrev pub TakesStatement : Bool → List (Option (List Name)) → Pending → List Written → State → Pending → Type 0
TakesStatement is_full selections p [] state whole = ⊥
TakesStatement is_full selections p (t ∷ []) state whole =
    (state ≡ p.position.state) × (ends_statement state ≡ true) × (take is_full selections p t.shape t.line t.column ≡ Ok whole)
TakesStatement is_full selections p (t ∷ u ∷ more) state whole =
    (ends_statement p.position.state ≡ false) × (next : Pending) × (take is_full selections p t.shape t.line t.column ≡ Ok next) × TakesStatement is_full selections next (u ∷ more) state whole

-- the tokens are taken without a fault, none of them ends a statement, and they lead to `q`
abbrev pub TakesFront : Bool → List (Option (List Name)) → Pending → List Written → Pending → Type 0
TakesFront is_full selections p [] q = p ≡ q
TakesFront is_full selections p (t ∷ more) q =
    (ends_statement p.position.state ≡ false) × (next : Pending) × (take is_full selections p t.shape t.line t.column ≡ Ok next) × TakesFront is_full selections next more q

-- a name, as the grammar has it
abbrev pub name_seen : Name → Named
name_seen name = record { kind = kind_seen name.kind; text = name.text }

-- the names of a selection, as the grammar has them
abbrev pub names_seen : Option (List Name) → Option (List Named)
names_seen None = None
names_seen (Some names) = Some (map name_seen names)

-- the statement under way holds the clause: its name, literals, variables and conclusions
pub record HoldsClause (p : Pending) (c : ReadClause) : Type 0 where
  pub name : name_seen p.name ≡ c.name
  pub literals : p.draft.literals ≡ c.literals
  pub variables : p.draft.variables ≡ c.variables
  pub conclude : p.conclude ≡ c.conclude

-- the statement, which ended in this mode, holds what a statement says
abbrev pub Holds : State → Pending → ReadStatement → Type 0
Holds ClauseClosed p says = (c : ReadClause) × (says ≡ read_clause c) × HoldsClause p c
Holds IncludeClosed p says = says ≡ read_include p.asked.file (names_seen p.asked.names)
Holds _ p says = ⊥

-- one statement spells the tokens, and what it means is held
abbrev pub HoldsItsMeaning : List Written → State → Pending → Type 0
HoldsItsMeaning tokens state p = (t : Statement) × (spell (t ∷ []) ≡ shapes_of tokens) × Holds state p (meaning t)
