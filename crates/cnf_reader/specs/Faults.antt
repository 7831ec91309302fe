-- Which fault a token is, where one stands at it.
use Rattle.std.specs.Prelude.{ℕ, ◌+◌, Bool, true, false, not, ◌&&◌, ◌||◌, nat_le, nat_lt, ◌==◌, List, [], length, Option, Some, None, codes, if◌then◌else◌}
use Rattle.std.specs.List.{list_any, list_all}
use Rattle.std.specs.Str.{bytes_eq}
use Rattle.mg_word.specs.declared.symbol.Kind.{Kind}
use Rattle.mg_word.specs.declared.symbol.Kind.TheVariants.{Word as word_name, Integer as number_name, Distinct as text_name}
use Rattle.mg_word.specs.declared.clause.Name.{Name}
use Rattle.cnf_grammar.specs.declared.state.State.{State}
use Rattle.cnf_grammar.specs.declared.state.State.TheVariants.{Statement, NameStart, RoleStart, FormulaStart, LiteralStart, AtomStart, WordRead, TermStart, TermRead}
use Rattle.cnf_grammar.specs.declared.position.Position.{Position}
use Rattle.cnf_grammar.specs.Shapes.{Shape, Lower, Upper, Quoted, Distinct, Dollar, Number as Numeral, NotEqual, Punct, is_mark, comma, right_square}
use Rattle.cnf_grammar.specs.Meaning.{unquoted, ClauseLiteral, always, never, signed}
use Rattle.cnf_grammar.specs.Draft.{Draft, has_text}
use Rattle.cnf_reader.specs.declared.fault.ReadKind.{ReadKind}
use Rattle.cnf_reader.specs.declared.fault.ReadKind.TheVariants.{Expected, Role, NotCnf, Equality, Number, Defined, TooManyClauses, TooManyLiterals, TooManyVariables}

-- the most clauses that are kept
abbrev pub most_clauses : ℕ
most_clauses = 20000

-- the most literals of a clause
abbrev pub most_literals : ℕ
most_literals = 64

-- the most variables of a clause
abbrev pub most_variables : ℕ
most_variables = 32

-- the most round brackets open at once in a formula
abbrev pub most_brackets : ℕ
most_brackets = 100

-- a name or the text of a name, by kind and text
abbrev pub name_of : Shape → Name
name_of (Lower text) = record { kind = word_name; text = text }
name_of (Quoted text) = record { kind = word_name; text = unquoted text }
name_of (Numeral text plain) = record { kind = number_name; text = text }
name_of _ = record { kind = word_name; text = [] }

abbrev pub same_kind : Kind → Kind → Bool
same_kind word_name word_name = true
same_kind number_name number_name = true
same_kind text_name text_name = true
same_kind _ _ = false

-- the same name, by kind and text
abbrev pub same_name : Name → Name → Bool
same_name a b = same_kind a.kind b.kind && bytes_eq a.text b.text

-- the names of a selection have this one; without a selection every name is had
abbrev pub selects : Name → Option (List Name) → Bool
selects name None = true
selects name (Some names) = list_any (λ other. same_name other name) names

-- each of the nested selections has the name
abbrev pub is_selected : List (Option (List Name)) → Name → Bool
is_selected selections name = list_all (selects name) selections

-- a word of the TPTP that begins a statement in another language
abbrev pub is_other_language : List ℕ → Bool
is_other_language text = bytes_eq text (codes "fof") || (bytes_eq text (codes "tff") || (bytes_eq text (codes "thf") || (bytes_eq text (codes "tcf") || bytes_eq text (codes "tpi"))))

-- the roles that are accepted
abbrev pub is_role : List ℕ → Bool
is_role text =
    bytes_eq text (codes "axiom") || (bytes_eq text (codes "hypothesis") || (bytes_eq text (codes "definition") || (bytes_eq text (codes "assumption") || (bytes_eq text (codes "lemma")
    || (bytes_eq text (codes "theorem") || (bytes_eq text (codes "corollary") || (bytes_eq text (codes "negated_conjecture") || bytes_eq text (codes "plain"))))))))

-- what is wrong with a token that cannot begin a statement
abbrev pub no_statement : Shape → ReadKind
no_statement (Lower text) = if is_other_language text then NotCnf else Expected
no_statement _ = Expected

-- what is wrong with a token that cannot begin an atom
abbrev pub no_atom : Shape → ReadKind
no_atom (Upper text) = Equality
no_atom (Numeral text plain) = Equality
no_atom (Distinct text) = Equality
no_atom (Dollar text) = Defined
no_atom _ = Expected

-- what is wrong with a token that cannot begin a term
abbrev pub no_term : Shape → ReadKind
no_term (Numeral text plain) = Number
no_term (Dollar text) = Defined
no_term _ = Expected

-- what is wrong with a token that cannot follow an atom or a term
abbrev pub no_follower : Shape → ReadKind
no_follower NotEqual = Equality
no_follower (Punct byte) = if byte == 61 then Equality else Expected
no_follower _ = Expected

-- what is wrong with a token that the grammar does not have here
abbrev pub refusal : State → Shape → ReadKind
refusal Statement s = no_statement s
refusal FormulaStart s = no_atom s
refusal LiteralStart s = no_atom s
refusal AtomStart s = no_atom s
refusal WordRead s = no_follower s
refusal TermStart s = no_term s
refusal TermRead s = no_follower s
refusal _ s = Expected

-- the literal has a word for its atom, and is neither $true nor $false
abbrev pub has_word : ClauseLiteral → Bool
has_word always = false
has_word never = false
has_word (signed negative atom) = true

-- the variable is a new one, and as many as a clause may have were read
abbrev pub lacks_room : List (List ℕ) → List ℕ → Bool
lacks_room variables text = nat_le most_variables (length variables) && not (has_text variables text)

-- the name of a clause that is one more than may be kept
abbrev pub name_fault : Bool → List (Option (List Name)) → Shape → Option ReadKind
name_fault is_full selections s = if is_full && is_selected selections (name_of s) then Some TooManyClauses else None

-- a role that is not accepted
abbrev pub role_fault : Shape → Option ReadKind
role_fault (Lower text) = if is_role text then None else Some Role
role_fault _ = None

abbrev pub variable_fault : Draft → Shape → Option ReadKind
variable_fault draft (Upper text) = if lacks_room draft.variables text then Some TooManyVariables else None
variable_fault draft _ = None

-- the limit that a token passes which the grammar has here; `is_full`: as many clauses are kept as may be
abbrev pub limit_fault : Bool → List (Option (List Name)) → State → Draft → Shape → Option ReadKind
limit_fault is_full selections NameStart draft s = name_fault is_full selections s
limit_fault is_full selections RoleStart draft s = role_fault s
limit_fault is_full selections LiteralStart draft s = if nat_le most_literals (length draft.literals) then Some TooManyLiterals else None
limit_fault is_full selections TermStart draft s = variable_fault draft s
limit_fault is_full selections _ draft s = None

-- more brackets are open than a formula may have
abbrev pub is_too_deep : Position → Bool
is_too_deep p = nat_lt most_brackets (p.level + p.depth)

-- a comma or the end of the info, outside inner brackets
abbrev pub ends_item : Position → Shape → Bool
ends_item p s = is_mark comma s || is_mark right_square s
