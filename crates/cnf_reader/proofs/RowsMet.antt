-- A fault stands at a token exactly where a row of the table of faults does.
use Rattle.std.proofs.Common.{◌≡◌, ◌≢◌, ℕ, zero, suc, ◌+◌, ◌^◌, ◌<◌, ◌≤◌, Bool, true, false, true≢false, not, cond, ◌&&◌, ◌||◌, nat_le, nat_lt, ◌==◌, ◌⊎◌, inl, inr, if◌then◌else◌, List, [], ◌∷◌, ◌++◌, length, map, get_or, Option, Some, None, is_some, IsSome, Contains, codes, refl, sym, ap, ◌∙◌, subst, arith, bytes_eq}
use Rattle.std.proofs.lemmas.Bool.Decides.{nat_tests}
use Rattle.std.proofs.lemmas.Slice.Eq.{bytes_eq-Decides}
use Rattle.mg_word.specs.declared.clause.Name.{Name}
use Rattle.mg_word.proofs.Members.{never_true}
use Rattle.cnf_grammar.specs.declared.brackets.Bracket.{Bracket}
use Rattle.cnf_grammar.specs.declared.item.ItemState.{ItemState}
use Rattle.cnf_grammar.specs.declared.state.State.{State}
use Rattle.cnf_grammar.specs.declared.state.State.TheVariants.{Statement, ClauseWord, NameStart, NameRead, RoleStart, RoleRead, FormulaStart, LiteralStart, AtomStart, WordRead, TermStart, TermRead, FormulaClosed, Source, Info, IncludeWord}
use Rattle.cnf_grammar.specs.declared.position.Position.{Position}
use Rattle.cnf_grammar.specs.Shapes.{Shape, Lower, Upper, Quoted, Distinct, Dollar, Number as Numeral, NotEqual, Punct, left_round, right_round, comma, bar, tilde, is_mark, is_name}
use Rattle.cnf_grammar.specs.Spelling.{name_token, IsFront}
use Rattle.cnf_grammar.specs.Trees as trees
use Rattle.cnf_grammar.specs.Table.{or_else, when, step_at, step, run_from, run, start}
use Rattle.cnf_grammar.specs.Laws.{IsFirstFault}
use Rattle.cnf_grammar.specs.Conclude.{gives_conclusions, BreaksConcludeItem}
use Rattle.cnf_grammar.specs.Draft.{Draft, has_text}
use Rattle.cnf_grammar.specs.Gathering.{Gathered, gathered, gather_at, gather_item}
use Rattle.cnf_grammar.specs.declared.item.ItemState.TheVariants.{Start as item_start, WordRead as word_read, Open as item_open, ListOpen as list_open, NumberRead as number_read, NumberStart as number_start, ListClosed as list_closed, Closed as item_closed, Other as other_item}
use Rattle.cnf_grammar.specs.Items.{at_item, item_step, item_run}
use Rattle.cnf_grammar.specs.Meaning.{each_once}
use Rattle.cnf_grammar.proofs.Accepting.{position, equal_bytes, equal_numbers}
use Rattle.cnf_grammar.proofs.Edges as edges
use Rattle.cnf_grammar.proofs.Edges.{Edge, edge}
use Rattle.cnf_grammar.proofs.ItemLaws.{item_front}
use Rattle.cnf_grammar.proofs.Joined.{run-append, front_is_some, some_is_front, goes_on, run_step}
use Rattle.cnf_grammar.proofs.Once.{once_covers, once_covered}
use Rattle.cnf_reader.specs.declared.fault.ReadKind.{ReadKind}
use Rattle.cnf_reader.specs.declared.fault.ReadKind.TheVariants.{Expected, Role, NotCnf, Equality, Number, Defined, BadConclude, TooManyClauses, TooManyLiterals, TooManyVariables, TooDeep}
use Rattle.cnf_reader.specs.declared.pending.Pending.{Pending}
use Rattle.cnf_reader.specs.Faults.{name_of, is_selected, has_word, is_other_language, is_role, refusal, no_atom, no_follower, no_term, lacks_room, limit_fault, is_too_deep, ends_item}
use Rattle.cnf_reader.specs.Statements.{fault_here, fault_before, breaks_item, is_broken, is_outermost, is_outside_items}
use Rattle.cnf_reader.specs.Rows.{other_languages, accepted_roles, MayCome, IsInAnnotation, AtomBegins, TermBegins, LiteralBegins, two_arguments, TermEnds, behind_atom, behind_argument, BeginsEquation, by_variable, by_number, by_distinct, IsEquality, equal, not_equal, count_marks, variables_in, said_by, words_in, item_in, clause_front, Row, other_language, other_role, behind_term, before_equation, not_plain, dollar_term, dollar_atom, broken_item, clause_20001, literal_65, variable_33, bracket_101, FaultAt, by_row, cannot_come}
use Rattle.cnf_reader.proofs.Following.{ItemFollows}
use Rattle.cnf_reader.proofs.Stepping.{gathers_more, gathers_end}
use Rattle.cnf_reader.proofs.InItems.{InItem}
use Rattle.cnf_reader.proofs.Tallies.{Headed, Barred, Varied, Opened}
use Rattle.cnf_reader.proofs.Taking.{few_open}
use Rattle.cnf_reader.proofs.Telling.{Tells, Itemed, gather_more, item_more}

-- lists of words
any_of : List (List ℕ) → List ℕ → Bool
any_of [] text = false
any_of (word ∷ words) text = bytes_eq text word || any_of words text

listed_if : (words : List (List ℕ)) (text : List ℕ) → any_of words text ≡ true → Contains words text
unfolding any_of
listed_if [] text h = cc
listed_if (word ∷ words) text h = by (bytes_eq text word) refl (listed_if words text) h
  where
    by : (b : Bool) → bytes_eq text word ≡ b → (any_of words text ≡ true → Contains words text) → (b || any_of words text) ≡ true → Contains (word ∷ words) text
    by true e further h = (0, omega arith, sym (equal_bytes text word e))
    by false e further h = let more = further h in (suc more.0, omega (arith, more.1), more.2)

or_false : (b : Bool) → (b || false) ≡ b
or_false true = refl
or_false false = refl

pub role_listed : (text : List ℕ) → is_role text ≡ true → Contains accepted_roles text
unfolding any_of
role_listed text h =
    listed_if accepted_roles text
    (ap (λ b. bytes_eq text (codes "axiom") || (bytes_eq text (codes "hypothesis") || (bytes_eq text (codes "definition") || (bytes_eq text (codes "assumption") || (bytes_eq text (codes "lemma")
    || (bytes_eq text (codes "theorem") || (bytes_eq text (codes "corollary") || (bytes_eq text (codes "negated_conjecture") || b)))))))) (or_false (bytes_eq text (codes "plain"))) ∙ h)

language_listed : (text : List ℕ) → is_other_language text ≡ true → Contains other_languages text
unfolding any_of
language_listed text h =
    listed_if other_languages text
    (ap (λ b. bytes_eq text (codes "fof") || (bytes_eq text (codes "tff") || (bytes_eq text (codes "thf") || (bytes_eq text (codes "tcf") || b)))) (or_false (bytes_eq text (codes "tpi"))) ∙ h)

-- a language that is listed begins no statement of this one
abbrev IsForeign : List ℕ → Type 0
IsForeign text = (bytes_eq text (codes "cnf") ≡ false) × (bytes_eq text (codes "include") ≡ false) × (is_other_language text ≡ true)

foreign : (text : List ℕ) → Contains other_languages text → IsForeign text
foreign text (zero, within, is) = subst IsForeign is (refl, refl, refl)
foreign text (suc zero, within, is) = subst IsForeign is (refl, refl, refl)
foreign text (suc (suc zero), within, is) = subst IsForeign is (refl, refl, refl)
foreign text (suc (suc (suc zero)), within, is) = subst IsForeign is (refl, refl, refl)
foreign text (suc (suc (suc (suc zero))), within, is) = subst IsForeign is (refl, refl, refl)
foreign text (suc (suc (suc (suc (suc k)))), within, is) = absurd (omega arith)

-- a role that is listed is accepted
pub role_accepted : (text : List ℕ) → Contains accepted_roles text → is_role text ≡ true
role_accepted text (zero, within, is) = subst (λ u. is_role u ≡ true) is refl
role_accepted text (suc zero, within, is) = subst (λ u. is_role u ≡ true) is refl
role_accepted text (suc (suc zero), within, is) = subst (λ u. is_role u ≡ true) is refl
role_accepted text (suc (suc (suc zero)), within, is) = subst (λ u. is_role u ≡ true) is refl
role_accepted text (suc (suc (suc (suc zero))), within, is) = subst (λ u. is_role u ≡ true) is refl
role_accepted text (suc (suc (suc (suc (suc zero)))), within, is) = subst (λ u. is_role u ≡ true) is refl
role_accepted text (suc (suc (suc (suc (suc (suc zero))))), within, is) = subst (λ u. is_role u ≡ true) is refl
role_accepted text (suc (suc (suc (suc (suc (suc (suc zero)))))), within, is) = subst (λ u. is_role u ≡ true) is refl
role_accepted text (suc (suc (suc (suc (suc (suc (suc (suc zero))))))), within, is) = subst (λ u. is_role u ≡ true) is refl
role_accepted text (suc (suc (suc (suc (suc (suc (suc (suc (suc k)))))))), within, is) = absurd (omega arith)

-- a text is among texts where the test says so
there_if : (texts : List (List ℕ)) (text : List ℕ) → has_text texts text ≡ true → Contains texts text
there_if [] text h = cc
there_if (other ∷ texts) text h = by (bytes_eq other text) refl (there_if texts text) h
  where
    by : (b : Bool) → bytes_eq other text ≡ b → (has_text texts text ≡ true → Contains texts text) → cond b true (has_text texts text) ≡ true → Contains (other ∷ texts) text
    by true e further h = (0, omega arith, equal_bytes other text e)
    by false e further h = let more = further h in (suc more.0, omega (arith, more.1), more.2)

cond_true : (b c : Bool) → c ≡ true → cond b true c ≡ true
cond_true true c h = refl
cond_true false c h = h

if_there : (texts : List (List ℕ)) (text : List ℕ) → Contains texts text → has_text texts text ≡ true
if_there [] text (k, within, is) = absurd (omega arith)
if_there (other ∷ texts) text (zero, within, is) = ap (λ b. cond b true (has_text texts text)) ((bytes_eq-Decides other text).1 is)
if_there (other ∷ texts) text (suc k, within, is) = cond_true (bytes_eq other text) (has_text texts text) (if_there texts text (k, omega arith, is))

-- what a state reads, by the tokens that may come there outside of annotations
abbrev Goes : State → ℕ → ℕ → List Bracket → Shape → Position → Type 0
Goes st l d bs x q = step_at st (position st l d bs) x ≡ Some q

abbrev Stops : State → ℕ → ℕ → List Bracket → Shape → Type 0
Stops st l d bs x = step_at st (position st l d bs) x ≡ None

abbrev begins_atom : State → Bool
begins_atom FormulaStart = true
begins_atom LiteralStart = true
begins_atom AtomStart = true
begins_atom _ = false

abbrev begins_term : State → Bool
begins_term TermStart = true
begins_term _ = false

abbrev begins_literal : State → Bool
begins_literal FormulaStart = true
begins_literal LiteralStart = true
begins_literal _ = false

abbrev ends_term : State → Bool
ends_term WordRead = true
ends_term TermRead = true
ends_term _ = false

abbrev may_open : State → Bool
may_open ClauseWord = true
may_open IncludeWord = true
may_open FormulaStart = true
may_open WordRead = true
may_open _ = false

atom_state : (st : State) (l d : ℕ) (bs : List Bracket) (q : Position) → Goes st l d bs (Dollar (codes "$true")) q → Stops st l d bs NotEqual → begins_atom st ≡ true
atom_state FormulaStart l d bs q may apart = refl
atom_state LiteralStart l d bs q may apart = refl
atom_state AtomStart l d bs q may apart = refl
atom_state WordRead zero zero bs q may apart = absurd cc
atom_state WordRead (suc l) zero bs q may apart = absurd cc
atom_state WordRead l (suc d) bs q may apart = absurd cc
atom_state TermRead zero zero bs q may apart = absurd cc
atom_state TermRead (suc l) zero bs q may apart = absurd cc
atom_state TermRead l (suc d) bs q may apart = absurd cc
atom_state FormulaClosed zero d bs q may apart = absurd cc
atom_state FormulaClosed (suc l) d bs q may apart = absurd cc
atom_state Source l d [] q may apart = absurd cc
atom_state Source l d (b ∷ bs) q may apart = absurd cc
atom_state Info l d [] q may apart = absurd cc
atom_state Info l d (b ∷ bs) q may apart = absurd cc
atom_state st l d bs q may apart = absurd cc

term_state : (st : State) (l d : ℕ) (bs : List Bracket) (text : List ℕ) (q : Position) → Goes st l d bs (Upper text) q → Stops st l d bs NotEqual → begins_term st ≡ true
term_state TermStart l d bs text q may apart = refl
term_state WordRead zero zero bs text q may apart = absurd cc
term_state WordRead (suc l) zero bs text q may apart = absurd cc
term_state WordRead l (suc d) bs text q may apart = absurd cc
term_state TermRead zero zero bs text q may apart = absurd cc
term_state TermRead (suc l) zero bs text q may apart = absurd cc
term_state TermRead l (suc d) bs text q may apart = absurd cc
term_state FormulaClosed zero d bs text q may apart = absurd cc
term_state FormulaClosed (suc l) d bs text q may apart = absurd cc
term_state Source l d [] text q may apart = absurd cc
term_state Source l d (b ∷ bs) text q may apart = absurd cc
term_state Info l d [] text q may apart = absurd cc
term_state Info l d (b ∷ bs) text q may apart = absurd cc
term_state st l d bs text q may apart = absurd cc

literal_state : (st : State) (l d : ℕ) (bs : List Bracket) (q : Position) → Goes st l d bs (Punct tilde) q → Stops st l d bs NotEqual → begins_literal st ≡ true
literal_state FormulaStart l d bs q may apart = refl
literal_state LiteralStart l d bs q may apart = refl
literal_state WordRead zero zero bs q may apart = absurd cc
literal_state WordRead (suc l) zero bs q may apart = absurd cc
literal_state WordRead l (suc d) bs q may apart = absurd cc
literal_state TermRead zero zero bs q may apart = absurd cc
literal_state TermRead (suc l) zero bs q may apart = absurd cc
literal_state TermRead l (suc d) bs q may apart = absurd cc
literal_state FormulaClosed zero d bs q may apart = absurd cc
literal_state FormulaClosed (suc l) d bs q may apart = absurd cc
literal_state Source l d [] q may apart = absurd cc
literal_state Source l d (b ∷ bs) q may apart = absurd cc
literal_state Info l d [] q may apart = absurd cc
literal_state Info l d (b ∷ bs) q may apart = absurd cc
literal_state st l d bs q may apart = absurd cc

bar_state : (st : State) (l d : ℕ) (bs : List Bracket) (q : Position) → Goes st l d bs (Punct bar) q → Stops st l d bs NotEqual → ends_term st ≡ true
bar_state WordRead l d bs q may apart = refl
bar_state TermRead l d bs q may apart = refl
bar_state FormulaClosed zero d bs q may apart = absurd cc
bar_state FormulaClosed (suc l) d bs q may apart = absurd cc
bar_state Source l d [] q may apart = absurd cc
bar_state Source l d (b ∷ bs) q may apart = absurd cc
bar_state Info l d [] q may apart = absurd cc
bar_state Info l d (b ∷ bs) q may apart = absurd cc
bar_state st l d bs q may apart = absurd cc

arguments_state : (st : State) (l d : ℕ) (bs : List Bracket) (q : Position) → run_from (Some (position st l d bs)) two_arguments ≡ Some q → Stops st l d bs NotEqual → ends_term st ≡ true
arguments_state WordRead l d bs q may apart = refl
arguments_state TermRead l d bs q may apart = refl
arguments_state FormulaClosed zero d bs q may apart = absurd cc
arguments_state FormulaClosed (suc l) d bs q may apart = absurd cc
arguments_state Source l d [] q may apart = absurd cc
arguments_state Source l d (b ∷ bs) q may apart = absurd cc
arguments_state Info l d [] q may apart = absurd cc
arguments_state Info l d (b ∷ bs) q may apart = absurd cc
arguments_state st l d bs q may apart = absurd cc

open_state : (st : State) (l d : ℕ) (bs : List Bracket) (q : Position) → Goes st l d bs (Punct left_round) q → Stops st l d bs NotEqual → may_open st ≡ true
open_state ClauseWord l d bs q may apart = refl
open_state IncludeWord l d bs q may apart = refl
open_state FormulaStart l d bs q may apart = refl
open_state WordRead l d bs q may apart = refl
open_state TermRead zero zero bs q may apart = absurd cc
open_state TermRead (suc l) zero bs q may apart = absurd cc
open_state TermRead l (suc d) bs q may apart = absurd cc
open_state FormulaClosed zero d bs q may apart = absurd cc
open_state FormulaClosed (suc l) d bs q may apart = absurd cc
open_state Source l d [] q may apart = absurd cc
open_state Source l d (b ∷ bs) q may apart = absurd cc
open_state Info l d [] q may apart = absurd cc
open_state Info l d (b ∷ bs) q may apart = absurd cc
open_state st l d bs q may apart = absurd cc

-- a token that cannot come there is refused as this kind, and breaks no item
abbrev IsRefused : State → ℕ → ℕ → List Bracket → Shape → ReadKind → Type 0
IsRefused st l d bs s kind = Stops st l d bs s × (refusal st s ≡ kind) × ((p : Pending) → breaks_item st p s ≡ false)

equation_refused : (st : State) (l d : ℕ) (bs : List Bracket) (s : Shape) → begins_atom st ≡ true → BeginsEquation s → IsRefused st l d bs s Equality
equation_refused FormulaStart l d bs _ h (by_variable text) = (refl, refl, λ p. refl)
equation_refused FormulaStart l d bs _ h (by_number text plain) = (refl, refl, λ p. refl)
equation_refused FormulaStart l d bs _ h (by_distinct text) = (refl, refl, λ p. refl)
equation_refused LiteralStart l d bs _ h (by_variable text) = (refl, refl, λ p. refl)
equation_refused LiteralStart l d bs _ h (by_number text plain) = (refl, refl, λ p. refl)
equation_refused LiteralStart l d bs _ h (by_distinct text) = (refl, refl, λ p. refl)
equation_refused AtomStart l d bs _ h (by_variable text) = (refl, refl, λ p. refl)
equation_refused AtomStart l d bs _ h (by_number text plain) = (refl, refl, λ p. refl)
equation_refused AtomStart l d bs _ h (by_distinct text) = (refl, refl, λ p. refl)
equation_refused st l d bs s h e = absurd cc

equality_refused : (st : State) (l d : ℕ) (bs : List Bracket) (s : Shape) → ends_term st ≡ true → IsEquality s → IsRefused st l d bs s Equality
equality_refused WordRead zero zero bs _ h equal = (refl, refl, λ p. refl)
equality_refused WordRead (suc l) zero bs _ h equal = (refl, refl, λ p. refl)
equality_refused WordRead l (suc d) bs _ h equal = (refl, refl, λ p. refl)
equality_refused WordRead zero zero bs _ h not_equal = (refl, refl, λ p. refl)
equality_refused WordRead (suc l) zero bs _ h not_equal = (refl, refl, λ p. refl)
equality_refused WordRead l (suc d) bs _ h not_equal = (refl, refl, λ p. refl)
equality_refused TermRead zero zero bs _ h equal = (refl, refl, λ p. refl)
equality_refused TermRead (suc l) zero bs _ h equal = (refl, refl, λ p. refl)
equality_refused TermRead l (suc d) bs _ h equal = (refl, refl, λ p. refl)
equality_refused TermRead zero zero bs _ h not_equal = (refl, refl, λ p. refl)
equality_refused TermRead (suc l) zero bs _ h not_equal = (refl, refl, λ p. refl)
equality_refused TermRead l (suc d) bs _ h not_equal = (refl, refl, λ p. refl)
equality_refused st l d bs s h e = absurd cc

number_refused : (st : State) (l d : ℕ) (bs : List Bracket) (text : List ℕ) → begins_term st ≡ true → IsRefused st l d bs (Numeral text false) Number
number_refused TermStart l d bs text h = (refl, refl, λ p. refl)
number_refused st l d bs text h = absurd cc

dollar_no_term : (st : State) (l d : ℕ) (bs : List Bracket) (text : List ℕ) → begins_term st ≡ true → IsRefused st l d bs (Dollar text) Defined
dollar_no_term TermStart l d bs text h = (refl, refl, λ p. refl)
dollar_no_term st l d bs text h = absurd cc

neither_constant : (text : List ℕ) → text ≢ codes "$true" → text ≢ codes "$false" → (bytes_eq text (codes "$true") || bytes_eq text (codes "$false")) ≡ false
neither_constant text truth falsity =
    ap (λ b. b || bytes_eq text (codes "$false")) (never_true (bytes_eq text (codes "$true")) (λ e. truth (equal_bytes text (codes "$true") e)))
    ∙ never_true (bytes_eq text (codes "$false")) (λ e. falsity (equal_bytes text (codes "$false") e))

dollar_no_atom : (st : State) (l d : ℕ) (bs : List Bracket) (text : List ℕ) → begins_atom st ≡ true → text ≢ codes "$true" → text ≢ codes "$false" → IsRefused st l d bs (Dollar text) Defined
dollar_no_atom FormulaStart l d bs text h truth falsity = (ap (λ b. when b (position TermRead l 0 bs)) (neither_constant text truth falsity), refl, λ p. refl)
dollar_no_atom LiteralStart l d bs text h truth falsity = (ap (λ b. when b (position TermRead l 0 bs)) (neither_constant text truth falsity), refl, λ p. refl)
dollar_no_atom AtomStart l d bs text h truth falsity = (ap (λ b. when b (position TermRead l 0 bs)) (neither_constant text truth falsity), refl, λ p. refl)
dollar_no_atom st l d bs text h truth falsity = absurd cc

-- what may come, and what may not, at the states that these rows speak of
atom_facts : (st : State) (l d : ℕ) (bs : List Bracket) → begins_atom st ≡ true → Goes st l d bs (Dollar (codes "$true")) (position TermRead l 0 bs) × Goes st l d bs (Dollar (codes "$false")) (position TermRead l 0 bs) × Stops st l d bs NotEqual
atom_facts FormulaStart l d bs h = (refl, refl, refl)
atom_facts LiteralStart l d bs h = (refl, refl, refl)
atom_facts AtomStart l d bs h = (refl, refl, refl)
atom_facts st l d bs h = absurd cc

end_facts : (st : State) (l d : ℕ) (bs : List Bracket) → ends_term st ≡ true
    → (((q : Position) × Goes st l d bs (Punct bar) q) ⊎ ((q : Position) × (run_from (Some (position st l d bs)) two_arguments ≡ Some q))) × Stops st l d bs NotEqual
end_facts WordRead zero zero bs h = (inl (position LiteralStart 0 0 bs, refl), refl)
end_facts WordRead (suc l) zero bs h = (inl (position LiteralStart (suc l) 0 bs, refl), refl)
end_facts WordRead l (suc d) bs h = (inr (position TermRead l (suc d) bs, refl), refl)
end_facts TermRead zero zero bs h = (inl (position LiteralStart 0 0 bs, refl), refl)
end_facts TermRead (suc l) zero bs h = (inl (position LiteralStart (suc l) 0 bs, refl), refl)
end_facts TermRead l (suc d) bs h = (inr (position TermRead l (suc d) bs, refl), refl)
end_facts st l d bs h = absurd cc

-- a token opens one more bracket, or no more are open behind it than before
abbrev opens_more : State → Bool
opens_more FormulaStart = true
opens_more WordRead = true
opens_more _ = false

opens_or_not : (p : Position) (s : Shape) (q : Position) → Edge p s q → ((s ≡ Punct left_round) × (opens_more p.state ≡ true) × (q.level + q.depth ≡ suc (p.level + p.depth))) ⊎ (q.level + q.depth ≤ p.level + p.depth)
opens_or_not _ _ _ (edges.formula_opens l d bs) = inl (refl, refl, omega arith)
opens_or_not _ _ _ (edges.arguments_open l d bs) = inl (refl, refl, omega arith)
opens_or_not _ _ _ _ = inr (omega arith)

too_deep_if : (q : Position) → 100 < q.level + q.depth → is_too_deep q ≡ true
too_deep_if q many = grind (arith, nat_tests)

deep_is : (q : Position) → is_too_deep q ≡ true → 100 < q.level + q.depth
deep_is q deep = grind (arith, nat_tests)

at_most : (most count : ℕ) → most ≤ count → nat_le most count ≡ true
at_most most count many = grind (arith, nat_tests)

at_least : (most count : ℕ) → nat_le most count ≡ true → most ≤ count
at_least most count test = grind (arith, nat_tests)

no_statement_here : (text : List ℕ) → IsForeign text → IsRefused Statement 0 0 [] (Lower text) NotCnf
no_statement_here text f = (
  ap (λ b. or_else b (position ClauseWord 0 0 []) (when (bytes_eq text (codes "include")) (position IncludeWord 0 0 []))) f.0 ∙ ap (λ b. when b (position IncludeWord 0 0 [])) f.1,
  ap (λ b. if b then NotCnf else Expected) f.2,
  λ p. refl,
)

-- a fault by a test
abbrev fault_if : ReadKind → Bool → Option ReadKind
fault_if kind b = if b then Some kind else None

abbrev fault_unless : ReadKind → Bool → Option ReadKind
fault_unless kind b = if b then None else Some kind

broken_is : (o : Option ItemState) → is_broken o ≡ true → o ≡ None
broken_is None h = refl
broken_is (Some q) h = absurd cc

one_broken : (test : Bool) (q r : ItemState) → is_broken (at_item test q (Some r)) ≡ true → ⊥
one_broken true q r h = cc
one_broken false q r h = cc

-- an item that is broken gives conclusions
item_gives : (words : List Bool) (brackets : List Bracket) (q : ItemState) (chosen : List ℕ) (tokens : List Shape) (s : Shape) → InItem brackets q chosen tokens → is_broken (item_step words q s) ≡ true → gives_conclusions tokens ≡ true
item_gives words brackets item_start chosen tokens s h broken = absurd (one_broken _ word_read other_item broken)
item_gives words brackets word_read chosen tokens s h broken = absurd (one_broken _ item_open other_item broken)
item_gives words brackets item_open chosen tokens s h broken = ap gives_conclusions h.begins.1
item_gives words brackets list_open chosen tokens s h broken = ap gives_conclusions h.begins.1
item_gives words brackets (number_read last) chosen tokens s h broken = ap gives_conclusions h.begins.1
item_gives words brackets (number_start last) chosen tokens s h broken = ap gives_conclusions h.begins.1
item_gives words brackets list_closed chosen tokens s h broken = ap gives_conclusions h.begins.1
item_gives words brackets item_closed chosen tokens s h broken = ap gives_conclusions h.begins.1
item_gives words brackets other_item chosen tokens s h broken = absurd cc

-- no row is the one of other tokens
abbrev is_expected : ReadKind → Bool
is_expected Expected = true
is_expected _ = false

row_named : (clauses : ℕ) (selections : List (Option (List Name))) (own : List Shape) (s : Shape) (kind : ReadKind) → Row clauses selections own s kind → is_expected kind ≡ false
row_named clauses selections own _ _ (other_language text none listed) = refl
row_named clauses selections own _ _ _ = refl

inside : (a b : Position) → Some a ≡ Some b → a ≡ b
inside a b e = cc

when_true : (test : Bool) (p q : Position) → when test p ≡ Some q → test ≡ true
when_true true p q e = refl
when_true false p q e = absurd cc

gives_more : (tokens : List Shape) (s : Shape) → gives_conclusions tokens ≡ true → gives_conclusions (tokens ++ s ∷ []) ≡ true
gives_more [] s h = cc
gives_more (first ∷ []) s h = cc
gives_more (first ∷ second ∷ more) s h = h

not_nil : (tokens : List Shape) (s : Shape) → [] ≡ tokens ++ s ∷ [] → ⊥
not_nil [] s e = cc
not_nil (first ∷ tokens) s e = cc

some_is : (o : Option ItemState) → IsSome o → o ≡ None → ⊥
some_is None h e = cc
some_is (Some q) h e = cc

none_or_some : (o : Option ItemState) → ((q : ItemState) → o ≡ Some q → ⊥) → o ≡ None
none_or_some None h = refl
none_or_some (Some q) h = absurd (h q refl)

both_true : (a b : Bool) → a ≡ true → b ≡ true → (a && b) ≡ true
both_true true b h k = k
both_true false b h k = cc

and_parts : (a b : Bool) → (a && b) ≡ true → (a ≡ true) × (b ≡ true)
and_parts true b h = (refl, h)
and_parts false b h = cc

not_true : (a : Bool) → not a ≡ true → a ≡ false
not_true true h = cc
not_true false h = refl

role_run : (name : trees.Name) → run start (clause_front ++ (name_token name ∷ (Punct comma ∷ []))) ≡ Some (position RoleStart 0 0 [])
role_run (trees.word_name (trees.bare_word text)) = refl
role_run (trees.word_name (trees.quoted_word text)) = refl
role_run (trees.number_name text) = refl

-- the items of an info alone are broken
broken_parts : (st : State) (p : Pending) (s : Shape) → breaks_item st p s ≡ true → (st ≡ Info) × (is_outside_items p.position s ≡ false) × (is_broken (item_step p.words p.item s) ≡ true)
broken_parts Info p s h = let parts = and_parts (not (is_outside_items p.position s)) (is_broken (item_step p.words p.item s)) h in (refl, not_true (is_outside_items p.position s) parts.0, parts.1)
broken_parts st p s h = absurd cc

module _ (is_full : Bool) (selections : List (Option (List Name))) (own : List Shape) (p : Pending) (t : Tells is_full selections own p) (clauses : ℕ) (full : is_full ≡ nat_le 20000 clauses) where
  abbrev at : Position
  at = p.position

  abbrev Fault : Shape → ReadKind → Type 0
  Fault s kind = fault_here is_full selections p s ≡ Some kind

  abbrev Here : Shape → ReadKind → Type 0
  Here s kind = Row clauses selections own s kind

  may : (x : Shape) (q : Position) → step at x ≡ Some q → MayCome own x
  may x q e = some_is_front (own ++ x ∷ []) q (run_step own at x t.runs ∙ e)

  leads : (x : Shape) → MayCome own x → (q : Position) × (step at x ≡ Some q)
  leads x m = let f = front_is_some (own ++ x ∷ []) m in (f.0, sym (run_step own at x t.runs) ∙ f.1)

  stopped : (x : Shape) → (MayCome own x → ⊥) → step at x ≡ None
  stopped x = (goes_on own at x t.runs).1

  never : (x : Shape) → step at x ≡ None → MayCome own x → ⊥
  never x = (goes_on own at x t.runs).0

  arguments_run : (q : Position) → run start (own ++ two_arguments) ≡ run_from (Some at) two_arguments
  arguments_run q = run-append (Some start) own two_arguments ∙ ap (λ o. run_from o two_arguments) t.runs

  -- where the table stops
  refused : (s : Shape) (kind : ReadKind) → IsRefused at.state at.level at.depth at.brackets s kind → Fault s kind
  refused s kind r =
      ap (λ b. if b then Some BadConclude else fault_before is_full selections p s (step at s)) (r.2 p)
      ∙ (ap (fault_before is_full selections p s) r.0 ∙ ap Some r.1)

  -- where it leads on
  abbrev IsLimit : Position → Shape → ReadKind → Type 0
  IsLimit r s kind = (q : Position) × (breaks_item r.state p s ≡ false) × (step r s ≡ Some q) × (is_too_deep q ≡ false) × (limit_fault is_full selections r.state p.draft s ≡ Some kind)

  limited : (s : Shape) (kind : ReadKind) → IsLimit at s kind → Fault s kind
  limited s kind (q, unbroken, goes, shallow, limit) =
      ap (λ b. if b then Some BadConclude else fault_before is_full selections p s (step at s)) unbroken
      ∙ (ap (fault_before is_full selections p s) goes ∙ (ap (λ b. if b then Some TooDeep else limit_fault is_full selections at.state p.draft s) shallow ∙ limit))

  deep : (s : Shape) (q : Position) → breaks_item at.state p s ≡ false → step at s ≡ Some q → is_too_deep q ≡ true → Fault s TooDeep
  deep s q unbroken goes too =
      ap (λ b. if b then Some BadConclude else fault_before is_full selections p s (step at s)) unbroken
      ∙ (ap (fault_before is_full selections p s) goes ∙ ap (λ b. if b then Some TooDeep else limit_fault is_full selections at.state p.draft s) too)

  -- the words and the item of the info, by the tokens
  in_info : gives_conclusions (item_in own) ≡ true → at.state ≡ Info
  in_info gives = by t.follows.item
    where
      by : ItemFollows at.state at.brackets p.item p.chosen (item_in own) → at.state ≡ Info
      by (inl h) = h.0
      by (inr none) = absurd (true≢false (sym gives ∙ ap gives_conclusions none.1))

  itemed : at.state ≡ Info → (p.words ≡ words_in own) × (item_run p.words (Some item_start) (item_in own) ≡ Some p.item)
  itemed e = by at.state e t.itemed
    where
      by : (st : State) → st ≡ Info → Itemed st p (item_in own) → (p.words ≡ words_in own) × (item_run p.words (Some item_start) (item_in own) ≡ Some p.item)
      by Info is h = (h.0 ∙ ap (λ (d : Draft). map has_word d.literals) t.follows.draft, h.1)
      by st is h = absurd cc

  -- the item with one more token
  item_with : (s : Shape) → at.state ≡ Info → item_in (own ++ s ∷ []) ≡ (gather_item at.brackets s (said_by own)).item
  item_with s e = ap (λ (g : Gathered). g.item) (gather_more (Some start) (gathered []) own at s t.runs) ∙ ap (λ st. (gather_at st at s (said_by own)).item) e

  abbrev g : Gathered
  g = said_by own

  begins_atom_here : begins_atom at.state ≡ true → AtomBegins own
  begins_atom_here h = let f = atom_facts at.state at.level at.depth at.brackets h in record { may = may (Dollar (codes "$true")) _ f.0; apart = never NotEqual f.2 }

  ends_term_here : ends_term at.state ≡ true → TermEnds own
  ends_term_here h = by (end_facts at.state at.level at.depth at.brackets h)
    where
      by : (((q : Position) × Goes at.state at.level at.depth at.brackets (Punct bar) q) ⊎ ((q : Position) × (run_from (Some at) two_arguments ≡ Some q))) × Stops at.state at.level at.depth at.brackets NotEqual → TermEnds own
      by (inl bar_goes, apart) = behind_atom (may (Punct bar) bar_goes.0 bar_goes.1) (never NotEqual apart)
      by (inr two_go, apart) = behind_argument (some_is_front (own ++ two_arguments) two_go.0 (run-append (Some start) own two_arguments ∙ (ap (λ o. run_from o two_arguments) t.runs ∙ two_go.1))) (never NotEqual apart)

  in_state : (P : State → Type 0) (st : State) → at.state ≡ st → P at.state → P st
  in_state P st is h = subst P is h

  few_listed : at.state ≡ Info → length (words_in own) < 2 ^ 64
  few_listed e = let few = t.within.words in let same = ap (λ (w : List Bool). length w) (itemed e).0 in omega (arith, few, same)

  -- where a row stands, its fault stands
  row_met : (s : Shape) (kind : ReadKind) → Here s kind → Fault s kind
  row_met _ _ (other_language text none listed) =
      let begins : start ≡ at = inside start at (sym (ap (run start) none) ∙ t.runs) in
      refused (Lower text) NotCnf (subst (λ (r : Position). IsRefused r.state r.level r.depth r.brackets (Lower text) NotCnf) begins (no_statement_here text (foreign text listed)))
  row_met _ _ (other_role name text front other) =
      let there : position RoleStart 0 0 [] ≡ at = inside (position RoleStart 0 0 []) at (sym (role_run name) ∙ (sym (ap (run start) front) ∙ t.runs)) in
      let wrong : is_role text ≡ false = never_true (is_role text) (λ e. other (role_listed text e)) in
      limited (Lower text) Role (subst (λ (r : Position). IsLimit r (Lower text) Role) there (position RoleRead 0 0 [], refl, refl, refl, ap (fault_unless Role) wrong))
  row_met _ _ (behind_term s eq ends) = by ends
    where
      by : TermEnds own → Fault s Equality
      by (behind_atom come apart) =
          let l = leads (Punct bar) come in
          refused s Equality (equality_refused at.state at.level at.depth at.brackets s (bar_state at.state at.level at.depth at.brackets l.0 l.1 (stopped NotEqual apart)) eq)
      by (behind_argument come apart) =
          let f = front_is_some (own ++ two_arguments) come in
          refused s Equality (equality_refused at.state at.level at.depth at.brackets s
          (arguments_state at.state at.level at.depth at.brackets f.0 (sym (run-append (Some start) own two_arguments ∙ ap (λ o. run_from o two_arguments) t.runs) ∙ f.1) (stopped NotEqual apart)) eq)
  row_met _ _ (before_equation s eq begins) =
      let l = leads (Dollar (codes "$true")) begins.may in
      refused s Equality (equation_refused at.state at.level at.depth at.brackets s (atom_state at.state at.level at.depth at.brackets l.0 l.1 (stopped NotEqual begins.apart)) eq)
  row_met _ _ (not_plain text begins) =
      let l = leads (Upper (codes "X")) begins.may in
      refused (Numeral text false) Number (number_refused at.state at.level at.depth at.brackets text (term_state at.state at.level at.depth at.brackets (codes "X") l.0 l.1 (stopped NotEqual begins.apart)))
  row_met _ _ (dollar_term text begins) =
      let l = leads (Upper (codes "X")) begins.may in
      refused (Dollar text) Defined (dollar_no_term at.state at.level at.depth at.brackets text (term_state at.state at.level at.depth at.brackets (codes "X") l.0 l.1 (stopped NotEqual begins.apart)))
  row_met _ _ (dollar_atom text begins truth falsity) =
      let l = leads (Dollar (codes "$true")) begins.may in
      refused (Dollar text) Defined (dollar_no_atom at.state at.level at.depth at.brackets text (atom_state at.state at.level at.depth at.brackets l.0 l.1 (stopped NotEqual begins.apart)) truth falsity)
  row_met _ _ (broken_item s gives belongs breaks) =
      let e = in_info gives in
      let i = itemed e in
      let inner : is_outside_items at s ≡ false =
      never_true (is_outside_items at s) (λ outer. not_nil (item_in own) s (ap (λ (h : Gathered). h.item) (gathers_end at.brackets s g outer) ∙ (sym (item_with s e) ∙ belongs))) in
      let stuck : item_step p.words p.item s ≡ None =
      none_or_some (item_step p.words p.item s) (λ q same.
      let run_on : item_run (words_in own) (Some item_start) (item_in own ++ s ∷ []) ≡ Some q = subst (λ w. item_run w (Some item_start) (item_in own ++ s ∷ []) ≡ Some q) i.0 (item_more p.words (Some item_start) (item_in own) p.item s i.1 ∙ same) in
      breaks.1 ((item_front (words_in own) (few_listed e) (item_in own ++ s ∷ []) (gives_more (item_in own) s gives)).0 (ap is_some run_on))) in
      let whole : breaks_item at.state p s ≡ true = subst (λ st. breaks_item st p s ≡ true) (sym e) (both_true (not (is_outside_items at s)) (is_broken (item_step p.words p.item s)) (ap not inner) (ap is_broken stuck)) in
      ap (λ b. if b then Some BadConclude else fault_before is_full selections p s (step at s)) whole
  row_met _ _ (clause_20001 s front come many chosen) =
      let there : position NameStart 0 0 [] ≡ at = inside (position NameStart 0 0 []) at (sym (ap (run start) front) ∙ t.runs) in
      let l = leads s come in
      let name : is_name s ≡ true = when_true (is_name s) (position NameRead 0 0 []) l.0 (subst (λ (r : Position). step r s ≡ Some l.0) (sym there) l.1) in
      let test : (is_full && is_selected selections (name_of s)) ≡ true = both_true is_full (is_selected selections (name_of s)) (full ∙ at_most 20000 clauses many) chosen in
      limited s TooManyClauses (subst (λ (r : Position). IsLimit r s TooManyClauses) there (position NameRead 0 0 [], refl, ap (λ b. when b (position NameRead 0 0 [])) name, refl, ap (fault_if TooManyClauses) test))
  row_met _ _ (literal_65 s come begins many) =
      let l = leads (Punct tilde) begins.may in
      by at.state refl (literal_state at.state at.level at.depth at.brackets l.0 l.1 (stopped NotEqual begins.apart))
    where
      by : (st : State) → at.state ≡ st → begins_literal st ≡ true → Fault s TooManyLiterals
      by FormulaStart is h =
          let none = in_state (λ st. Barred st at.depth p.draft (count_marks bar own)) FormulaStart is t.barred in
          absurd (omega (arith, none.2, many))
      by LiteralStart is h =
          let count = in_state (λ st. Barred st at.depth p.draft (count_marks bar own)) LiteralStart is t.barred in
          let q = leads s come in
          let few : q.0.level + q.0.depth ≤ 100 = shallow_by q.0 (opens_or_not at s q.0 (edge at s q.0 q.1)) in
          let test : nat_le 64 (length p.draft.literals) ≡ true = at_most 64 (length p.draft.literals) (omega (arith, count.1, many)) in
          limited s TooManyLiterals (q.0, ap (λ st. breaks_item st p s) is, q.1, few_open q.0 few, ap (λ st. limit_fault is_full selections st p.draft s) is ∙ ap (fault_if TooManyLiterals) test)
        where
          shallow_by : (q : Position) → ((s ≡ Punct left_round) × (opens_more at.state ≡ true) × (q.level + q.depth ≡ suc (at.level + at.depth))) ⊎ (q.level + q.depth ≤ at.level + at.depth) → q.level + q.depth ≤ 100
          shallow_by q (inl o) = absurd (true≢false (sym o.1 ∙ ap opens_more is))
          shallow_by q (inr less) = let few = t.few in omega (arith, few, less)
      by st is h = absurd cc
  row_met _ _ (variable_33 text come apart many new) =
      let q = leads (Upper text) come in
      by at.state refl (term_state at.state at.level at.depth at.brackets text q.0 q.1 (stopped NotEqual apart)) q
    where
      by : (st : State) → at.state ≡ st → begins_term st ≡ true → (q : Position) × (step at (Upper text) ≡ Some q) → Fault (Upper text) TooManyVariables
      by TermStart is h q =
          let same = in_state (λ st. Varied st p.draft (variables_in own)) TermStart is t.varied in
          let few : q.0.level + q.0.depth ≤ 100 = shallow_by q.0 (opens_or_not at (Upper text) q.0 (edge at (Upper text) q.0 q.1)) in
          let count : 32 ≤ length p.draft.variables = subst (λ (v : List (List ℕ)). 32 ≤ length v) (sym same) many in
          let fresh_one : has_text p.draft.variables text ≡ false =
          subst (λ (v : List (List ℕ)). has_text v text ≡ false) (sym same) (never_true (has_text (each_once (variables_in own)) text) (λ e. new (there_if (variables_in own) text (once_covered (variables_in own) text e)))) in
          let test : lacks_room p.draft.variables text ≡ true = both_true (nat_le 32 (length p.draft.variables)) (not (has_text p.draft.variables text)) (at_most 32 (length p.draft.variables) count) (ap not fresh_one) in
          limited (Upper text) TooManyVariables (q.0, ap (λ st. breaks_item st p (Upper text)) is, q.1, few_open q.0 few, ap (λ st. limit_fault is_full selections st p.draft (Upper text)) is ∙ ap (fault_if TooManyVariables) test)
        where
          shallow_by : (q : Position) → ((Upper text ≡ Punct left_round) × (opens_more at.state ≡ true) × (q.level + q.depth ≡ suc (at.level + at.depth))) ⊎ (q.level + q.depth ≤ at.level + at.depth) → q.level + q.depth ≤ 100
          shallow_by q (inl o) = absurd (true≢false (sym o.1 ∙ ap opens_more is))
          shallow_by q (inr less) = let few = t.few in omega (arith, few, less)
      by st is h q = absurd cc
  row_met _ _ (bracket_101 come apart many) =
      let q = leads (Punct left_round) come in
      by at.state refl (open_state at.state at.level at.depth at.brackets q.0 q.1 (stopped NotEqual apart))
    where
      by : (st : State) → at.state ≡ st → may_open st ≡ true → Fault (Punct left_round) TooDeep
      by ClauseWord is h =
          let none = in_state (λ st. Opened st at.level at.depth (count_marks left_round own) (count_marks right_round own)) ClauseWord is t.opened in absurd (omega (arith, none.1, many))
      by IncludeWord is h =
          let none = in_state (λ st. Opened st at.level at.depth (count_marks left_round own) (count_marks right_round own)) IncludeWord is t.opened in absurd (omega (arith, none, many))
      by FormulaStart is h =
          let o = in_state (λ st. Opened st at.level at.depth (count_marks left_round own) (count_marks right_round own)) FormulaStart is t.opened in
          let q : Position = record at { level = suc at.level } in
          deep (Punct left_round) q (ap (λ st. breaks_item st p (Punct left_round)) is) (ap (λ st. step_at st at (Punct left_round)) is) (too_deep_if q (omega (arith, o.1, many)))
      by WordRead is h =
          let o = in_state (λ st. Opened st at.level at.depth (count_marks left_round own) (count_marks right_round own)) WordRead is t.opened in
          let q : Position = record at { state = TermStart; depth = suc at.depth } in
          deep (Punct left_round) q (ap (λ st. breaks_item st p (Punct left_round)) is) (ap (λ st. step_at st at (Punct left_round)) is) (too_deep_if q (omega (arith, o, many)))
      by st is h = absurd cc

  -- a broken item is a row
  row_broken : (s : Shape) → breaks_item at.state p s ≡ true → Here s BadConclude
  row_broken s h =
      let b = broken_parts at.state p s h in
      let i = itemed b.0 in
      let gives = gives_by t.follows.item b.2 b.0 in
      let stuck = broken_is (item_step p.words p.item s) b.2 in
      let run_here : item_run (words_in own) (Some item_start) (item_in own) ≡ Some p.item = subst (λ w. item_run w (Some item_start) (item_in own) ≡ Some p.item) i.0 i.1 in
      let run_none : item_run (words_in own) (Some item_start) (item_in own ++ s ∷ []) ≡ None = subst (λ w. item_run w (Some item_start) (item_in own ++ s ∷ []) ≡ None) i.0 (item_more p.words (Some item_start) (item_in own) p.item s i.1 ∙ stuck) in
      broken_item s gives (item_with s b.0 ∙ sym (ap (λ (h : Gathered). h.item) (gathers_more at.brackets s g b.1))) (
        (item_front (words_in own) (few_listed b.0) (item_in own) gives).0 (ap is_some run_here),
        λ begins. some_is (item_run (words_in own) (Some item_start) (item_in own ++ s ∷ [])) ((item_front (words_in own) (few_listed b.0) (item_in own ++ s ∷ []) (gives_more (item_in own) s gives)).1 begins) run_none,
      )
    where
      gives_by : ItemFollows at.state at.brackets p.item p.chosen (item_in own) → is_broken (item_step p.words p.item s) ≡ true → at.state ≡ Info → gives_conclusions (item_in own) ≡ true
      gives_by (inl h) broken e = item_gives p.words at.brackets p.item p.chosen (item_in own) s h.1 broken
      gives_by (inr none) broken e = absurd (one_broken _ word_read other_item (subst (λ (q : ItemState). is_broken (item_step p.words q s) ≡ true) none.0 broken))

  -- a token that cannot come is a row, or is not expected
  atoms : begins_atom at.state ≡ true → (s : Shape) → step at s ≡ None → (no_atom s ≡ Expected) ⊎ Here s (no_atom s)
  atoms h (Upper text) none = inr (before_equation (Upper text) (by_variable text) (begins_atom_here h))
  atoms h (Numeral text plain) none = inr (before_equation (Numeral text plain) (by_number text plain) (begins_atom_here h))
  atoms h (Distinct text) none = inr (before_equation (Distinct text) (by_distinct text) (begins_atom_here h))
  atoms h (Dollar text) none =
      let f = atom_facts at.state at.level at.depth at.brackets h in
      inr (dollar_atom text (begins_atom_here h) (λ e. never_none _ (sym (subst (λ u. step at (Dollar u) ≡ None) e none) ∙ f.0)) (λ e. never_none _ (sym (subst (λ u. step at (Dollar u) ≡ None) e none) ∙ f.1)))
    where
      never_none : (q : Position) → None ≡ Some q → ⊥
      never_none q e = cc
  atoms h s none = inl refl

  followers : ends_term at.state ≡ true → (s : Shape) → (no_follower s ≡ Expected) ⊎ Here s (no_follower s)
  followers h NotEqual = inr (behind_term NotEqual not_equal (ends_term_here h))
  followers h (Punct byte) = by (byte == 61) refl
    where
      by : (b : Bool) → (byte == 61) ≡ b → ((if b then Equality else Expected) ≡ Expected) ⊎ Here (Punct byte) (if b then Equality else Expected)
      by true e = inr (behind_term (Punct byte) (subst (λ n. IsEquality (Punct n)) (sym (equal_numbers byte 61 e)) equal) (ends_term_here h))
      by false e = inl refl
  followers h s = inl refl

  terms : at.state ≡ TermStart → (s : Shape) → step at s ≡ None → (no_term s ≡ Expected) ⊎ Here s (no_term s)
  terms is (Numeral text false) none = inr (not_plain text (term_here is))
    where
      term_here : at.state ≡ TermStart → TermBegins own
      term_here is = record { may = may (Upper (codes "X")) _ (ap (λ st. step_at st at (Upper (codes "X"))) is); apart = never NotEqual (ap (λ st. step_at st at NotEqual) is) }
  terms is (Numeral text true) none = absurd (no_stop _ (sym (ap (λ st. step_at st at (Numeral text true)) is) ∙ none))
    where
      no_stop : (q : Position) → Some q ≡ None → ⊥
      no_stop q e = cc
  terms is (Dollar text) none = inr (dollar_term text (record { may = may (Upper (codes "X")) _ (ap (λ st. step_at st at (Upper (codes "X"))) is); apart = never NotEqual (ap (λ st. step_at st at NotEqual) is) }))
  terms is s none = inl refl

  statements : at.state ≡ Statement → (s : Shape) → (refusal Statement s ≡ Expected) ⊎ Here s (refusal Statement s)
  statements is (Lower text) = by (is_other_language text) refl
    where
      by : (b : Bool) → is_other_language text ≡ b → ((if b then NotCnf else Expected) ≡ Expected) ⊎ Here (Lower text) (if b then NotCnf else Expected)
      by true e = inr (other_language text (in_state (λ st. Headed st own) Statement is t.headed) (language_listed text e))
      by false e = inl refl
  statements is s = inl refl

  row_refused : (s : Shape) (st : State) → at.state ≡ st → step at s ≡ None → (refusal st s ≡ Expected) ⊎ Here s (refusal st s)
  row_refused s Statement is none = statements is s
  row_refused s FormulaStart is none = atoms (ap begins_atom is) s none
  row_refused s LiteralStart is none = atoms (ap begins_atom is) s none
  row_refused s AtomStart is none = atoms (ap begins_atom is) s none
  row_refused s WordRead is none = followers (ap ends_term is) s
  row_refused s TermRead is none = followers (ap ends_term is) s
  row_refused s TermStart is none = terms is s none
  row_refused s st is none = inl refl

  -- a token past a limit is a row
  row_deep : (s : Shape) (q : Position) → step at s ≡ Some q → is_too_deep q ≡ true → Here s TooDeep
  row_deep s q goes deep_there = by (opens_or_not at s q (edge at s q goes))
    where
      row_at : (st : State) → at.state ≡ st → opens_more st ≡ true → 100 < suc (at.level + at.depth) → MayCome own (Punct left_round) → Here (Punct left_round) TooDeep
      row_at FormulaStart is h many come =
          let o = in_state (λ st. Opened st at.level at.depth (count_marks left_round own) (count_marks right_round own)) FormulaStart is t.opened in
          bracket_101 come (never NotEqual (ap (λ st. step_at st at NotEqual) is)) (omega (arith, o.0, o.1, many))
      row_at WordRead is h many come =
          let o = in_state (λ st. Opened st at.level at.depth (count_marks left_round own) (count_marks right_round own)) WordRead is t.opened in
          bracket_101 come (never NotEqual (end_facts at.state at.level at.depth at.brackets (ap ends_term is)).1) (omega (arith, o, many))
      row_at st is h many come = absurd cc

      by : ((s ≡ Punct left_round) × (opens_more at.state ≡ true) × (q.level + q.depth ≡ suc (at.level + at.depth))) ⊎ (q.level + q.depth ≤ at.level + at.depth) → Here s TooDeep
      by (inl o) =
          let many = deep_is q deep_there in
          subst (λ x. Here x TooDeep) (sym o.0) (row_at at.state refl o.1 (omega (arith, many, o.2)) (may (Punct left_round) q (subst (λ x. step at x ≡ Some q) o.0 goes)))
      by (inr less) = let many = deep_is q deep_there in let few = t.few in absurd (omega (arith, many, few, less))

  row_limit : (s : Shape) (kind : ReadKind) (q : Position) → step at s ≡ Some q → (st : State) → at.state ≡ st → limit_fault is_full selections st p.draft s ≡ Some kind → Here s kind
  row_limit s kind q goes NameStart is e = by (is_full && is_selected selections (name_of s)) refl e
    where
      by : (b : Bool) → (is_full && is_selected selections (name_of s)) ≡ b → fault_if TooManyClauses b ≡ Some kind → Here s kind
      by true test e =
          let parts = and_parts is_full (is_selected selections (name_of s)) test in
          let same : TooManyClauses ≡ kind = cc in
          subst (λ k. Here s k) same (clause_20001 s (in_state (λ st. Headed st own) NameStart is t.headed) (may s q goes) (at_least 20000 clauses (sym full ∙ parts.0)) parts.1)
      by false test e = absurd cc
  row_limit (Lower text) kind q goes RoleStart is e = by (is_role text) refl e
    where
      by : (b : Bool) → is_role text ≡ b → fault_unless Role b ≡ Some kind → Here (Lower text) kind
      by true test e = absurd cc
      by false test e =
          let front = in_state (λ st. Headed st own) RoleStart is t.headed in
          let same : Role ≡ kind = cc in
          subst (λ k. Here (Lower text) k) same (other_role front.0 text front.1 (λ listed. true≢false (sym (role_accepted text listed) ∙ test)))
  row_limit s kind q goes RoleStart is e = absurd cc
  row_limit s kind q goes LiteralStart is e = by (nat_le 64 (length p.draft.literals)) refl e
    where
      by : (b : Bool) → nat_le 64 (length p.draft.literals) ≡ b → fault_if TooManyLiterals b ≡ Some kind → Here s kind
      by true test e =
          let count = in_state (λ st. Barred st at.depth p.draft (count_marks bar own)) LiteralStart is t.barred in
          let many = at_least 64 (length p.draft.literals) test in
          let same : TooManyLiterals ≡ kind = cc in
          subst (λ k. Here s k) same
          (literal_65 s (may s q goes) (record { may = may (Punct tilde) _ (ap (λ st. step_at st at (Punct tilde)) is); apart = never NotEqual (ap (λ st. step_at st at NotEqual) is) }) (omega (arith, many, count.1)))
      by false test e = absurd cc
  row_limit (Upper text) kind q goes TermStart is e = by (lacks_room p.draft.variables text) refl e
    where
      by : (b : Bool) → lacks_room p.draft.variables text ≡ b → fault_if TooManyVariables b ≡ Some kind → Here (Upper text) kind
      by true test e =
          let same = in_state (λ st. Varied st p.draft (variables_in own)) TermStart is t.varied in
          let parts = and_parts (nat_le 32 (length p.draft.variables)) (not (has_text p.draft.variables text)) test in
          let unseen : has_text (each_once (variables_in own)) text ≡ false = subst (λ (v : List (List ℕ)). has_text v text ≡ false) same (not_true (has_text p.draft.variables text) parts.1) in
          let many : 32 ≤ length (each_once (variables_in own)) = subst (λ (v : List (List ℕ)). 32 ≤ length v) same (at_least 32 (length p.draft.variables) parts.0) in
          let is_kind : TooManyVariables ≡ kind = cc in
          subst (λ k. Here (Upper text) k) is_kind
          (variable_33 text (may (Upper text) q goes) (never NotEqual (ap (λ st. step_at st at NotEqual) is)) many (λ there. true≢false (sym (once_covers (variables_in own) text (if_there (variables_in own) text there)) ∙ unseen)))
      by false test e = absurd cc
  row_limit s kind q goes TermStart is e = absurd cc
  row_limit s kind q goes st is e = absurd cc

  first_fault : (s : Shape) → step at s ≡ None → IsFirstFault own s
  first_fault s none = (some_is_front own at t.runs, never s none)

  -- a fault that stands is told by a row, or by none
  pub fault_stands : (s : Shape) (kind : ReadKind) → Fault s kind → FaultAt clauses selections own s kind
  fault_stands s kind e = by_break (breaks_item at.state p s) refl e
    where
      by_refusal : (refusal at.state s ≡ Expected) ⊎ Here s (refusal at.state s) → step at s ≡ None → refusal at.state s ≡ kind → FaultAt clauses selections own s kind
      by_refusal (inr row) none same = by_row kind (subst (λ k. Here s k) same row)
      by_refusal (inl expected) none same =
          let is : Expected ≡ kind = sym expected ∙ same in
          subst (λ k. FaultAt clauses selections own s k) is
          (cannot_come (first_fault s none) (λ other row.
          let met = row_met s other row in
          let whole : Fault s Expected = subst (λ k. Fault s k) (sym is) e in
          let alike : other ≡ Expected = some_kind other Expected (sym met ∙ whole) in
          true≢false (sym (ap is_expected alike) ∙ row_named clauses selections own s other row)))
        where
          some_kind : (a b : ReadKind) → Some a ≡ Some b → a ≡ b
          some_kind a b e = cc

      by_deep : (b : Bool) (q : Position) → is_too_deep q ≡ b → step at s ≡ Some q → (if b then Some TooDeep else limit_fault is_full selections at.state p.draft s) ≡ Some kind → FaultAt clauses selections own s kind
      by_deep true q deep_there goes h = let same : TooDeep ≡ kind = cc in by_row kind (subst (λ k. Here s k) same (row_deep s q goes deep_there))
      by_deep false q shallow goes h = by_row kind (row_limit s kind q goes at.state refl h)

      by_step : (o : Option Position) → step at s ≡ o → fault_before is_full selections p s o ≡ Some kind → FaultAt clauses selections own s kind
      by_step None stops h = let same : refusal at.state s ≡ kind = cc in by_refusal (row_refused s at.state refl stops) stops same
      by_step (Some q) goes h = by_deep (is_too_deep q) q refl goes h

      by_break : (b : Bool) → breaks_item at.state p s ≡ b → (if b then Some BadConclude else fault_before is_full selections p s (step at s)) ≡ Some kind → FaultAt clauses selections own s kind
      by_break true broken h = let same : BadConclude ≡ kind = cc in by_row kind (subst (λ k. Here s k) same (row_broken s broken))
      by_break false whole h = by_step (step at s) refl h

  -- and the other way round
  pub fault_met : (s : Shape) (kind : ReadKind) → FaultAt clauses selections own s kind → Fault s kind
  fault_met s _ (by_row kind row) = row_met s kind row
  fault_met s _ (cannot_come first none) = by_break (breaks_item at.state p s) refl
    where
      stops : step at s ≡ None
      stops = stopped s first.1

      by_refusal : (refusal at.state s ≡ Expected) ⊎ Here s (refusal at.state s) → refusal at.state s ≡ Expected
      by_refusal (inl expected) = expected
      by_refusal (inr row) = absurd (none (refusal at.state s) row)

      by_break : (b : Bool) → breaks_item at.state p s ≡ b → Fault s Expected
      by_break true broken = absurd (none BadConclude (row_broken s broken))
      by_break false whole =
          ap (λ b. if b then Some BadConclude else fault_before is_full selections p s (step at s)) whole
          ∙ (ap (fault_before is_full selections p s) stops ∙ ap Some (by_refusal (row_refused s at.state refl stops)))
