-- The faults that stand at tokens are none of a file's opening.
use Rattle.std.proofs.Common.{◌≡◌, ℕ, Bool, true, false, List, Option, Some, None, refl, sym, subst, if◌then◌else◌, ◌==◌, ◌&&◌, nat_le, length}
use Rattle.mg_word.specs.declared.clause.Name.{Name}
use Rattle.cnf_grammar.specs.declared.state.State.{State}
use Rattle.cnf_grammar.specs.declared.state.State.TheVariants.{Statement, NameStart, RoleStart, FormulaStart, LiteralStart, AtomStart, WordRead, TermStart, TermRead}
use Rattle.cnf_grammar.specs.declared.position.Position.{Position}
use Rattle.cnf_grammar.specs.Shapes.{Shape, Lower, Upper, Distinct, Dollar, Number as Numeral, NotEqual, Punct}
use Rattle.cnf_grammar.specs.Table.{step}
use Rattle.cnf_grammar.specs.Draft.{Draft}
use Rattle.cnf_reader.specs.declared.fault.ReadKind.{ReadKind}
use Rattle.cnf_reader.specs.declared.fault.ReadKind.TheVariants.{Expected, Role, NotCnf, Equality, BadConclude, TooManyClauses, TooManyLiterals, TooManyVariables, TooDeep}
use Rattle.cnf_reader.specs.declared.pending.Pending.{Pending}
use Rattle.cnf_reader.specs.Faults.{refusal, no_statement, no_atom, no_term, no_follower, is_other_language, limit_fault, role_fault, variable_fault, lacks_room, is_role, is_too_deep, is_selected, name_of}
use Rattle.cnf_reader.specs.Statements.{take, taken, fault_here, fault_before, breaks_item, Takes}
use Rattle.cnf_reader.specs.Parts.{is_of_text}

either : (b : Bool) (first second : ReadKind) → is_of_text first ≡ true → is_of_text second ≡ true → is_of_text (if b then first else second) ≡ true
either true first second one two = one
either false first second one two = two

statement_text : (s : Shape) → is_of_text (no_statement s) ≡ true
statement_text (Lower text) = either (is_other_language text) NotCnf Expected refl refl
statement_text s = refl

atom_text : (s : Shape) → is_of_text (no_atom s) ≡ true
atom_text (Upper text) = refl
atom_text (Numeral text plain) = refl
atom_text (Distinct text) = refl
atom_text (Dollar text) = refl
atom_text s = refl

term_text : (s : Shape) → is_of_text (no_term s) ≡ true
term_text (Numeral text plain) = refl
term_text (Dollar text) = refl
term_text s = refl

follower_text : (s : Shape) → is_of_text (no_follower s) ≡ true
follower_text NotEqual = refl
follower_text (Punct byte) = either (byte == 61) Equality Expected refl refl
follower_text s = refl

refusal_text : (state : State) (s : Shape) → is_of_text (refusal state s) ≡ true
refusal_text Statement s = statement_text s
refusal_text FormulaStart s = atom_text s
refusal_text LiteralStart s = atom_text s
refusal_text AtomStart s = atom_text s
refusal_text WordRead s = follower_text s
refusal_text TermStart s = term_text s
refusal_text TermRead s = follower_text s
refusal_text state s = refl

-- the fault, if one is met, is none of a file's opening
abbrev IsTextOnly : Option ReadKind → Type 0
IsTextOnly None = Unit {0}
IsTextOnly (Some kind) = is_of_text kind ≡ true

if_text : (b : Bool) (first second : Option ReadKind) → IsTextOnly first → IsTextOnly second → IsTextOnly (if b then first else second)
if_text true first second one two = one
if_text false first second one two = two

role_text : (s : Shape) → IsTextOnly (role_fault s)
role_text (Lower text) = if_text (is_role text) None (Some Role) tt refl
role_text s = tt

variable_text : (draft : Draft) (s : Shape) → IsTextOnly (variable_fault draft s)
variable_text draft (Upper text) = if_text (lacks_room draft.variables text) (Some TooManyVariables) None refl tt
variable_text draft s = tt

limit_text : (is_full : Bool) (selections : List (Option (List Name))) (state : State) (draft : Draft) (s : Shape) → IsTextOnly (limit_fault is_full selections state draft s)
limit_text is_full selections NameStart draft s = if_text (is_full && is_selected selections (name_of s)) (Some TooManyClauses) None refl tt
limit_text is_full selections RoleStart draft s = role_text s
limit_text is_full selections LiteralStart draft s = if_text (nat_le 64 (length draft.literals)) (Some TooManyLiterals) None refl tt
limit_text is_full selections TermStart draft s = variable_text draft s
limit_text is_full selections state draft s = tt

before_text : (is_full : Bool) (selections : List (Option (List Name))) (p : Pending) (s : Shape) (next : Option Position) → IsTextOnly (fault_before is_full selections p s next)
before_text is_full selections p s None = refusal_text p.position.state s
before_text is_full selections p s (Some next) = if_text (is_too_deep next) (Some TooDeep) (limit_fault is_full selections p.position.state p.draft s) refl (limit_text is_full selections p.position.state p.draft s)

here_text : (is_full : Bool) (selections : List (Option (List Name))) (p : Pending) (s : Shape) → IsTextOnly (fault_here is_full selections p s)
here_text is_full selections p s = if_text (breaks_item p.position.state p s) (Some BadConclude) (fault_before is_full selections p s (step p.position s)) refl (before_text is_full selections p s (step p.position s))

taken_text : (fault : Option ReadKind) (p : Pending) (s : Shape) (line column : ℕ) (kind : ReadKind) (new : Pending) → IsTextOnly fault → Takes (taken fault p s line column) (Some kind) new → is_of_text kind ≡ true
taken_text None p s line column kind new only takes = absurd takes
taken_text (Some wanted) p s line column kind new only takes = subst (λ k. is_of_text k ≡ true) (sym takes) only

-- a fault at a token is none of a file's opening
pub text_kind : (is_full : Bool) (selections : List (Option (List Name))) (p : Pending) (s : Shape) (line column : ℕ) (kind : ReadKind) (new : Pending) → Takes (take is_full selections p s line column) (Some kind) new → is_of_text kind ≡ true
unfolding take
text_kind is_full selections p s line column kind new takes = taken_text (fault_here is_full selections p s) p s line column kind new (here_text is_full selections p s) takes
