-- A token at which a fault stands is the first that cannot go on, or passes a limit.
use Rattle.std.proofs.Common.{◌≡◌, ℕ, Bool, true, false, ◌&&◌, nat_le, ◌==◌, List, [], ◌∷◌, ◌++◌, length, Option, Some, None, Err, refl, ◌∙◌, subst, if◌then◌else◌}
use Rattle.mg_word.specs.declared.clause.Name.{Name}
use Rattle.cnf_grammar.specs.Draft.{Draft}
use Rattle.cnf_grammar.specs.Laws.{IsFirstFault}
use Rattle.cnf_grammar.specs.Shapes.{Shape, Lower as Word, Upper, Distinct as Text, Dollar, Number as Numeral, NotEqual, Punct}
use Rattle.cnf_grammar.specs.Spelling.{IsFront}
use Rattle.cnf_grammar.specs.Table.{step, run, start}
use Rattle.cnf_grammar.specs.declared.state.State.{State}
use Rattle.cnf_grammar.specs.declared.state.State.TheVariants.{Statement, NameStart, RoleStart, FormulaStart, LiteralStart, AtomStart, WordRead, TermStart, TermRead}
use Rattle.cnf_grammar.specs.declared.position.Position.{Position}
use Rattle.cnf_grammar.proofs.Joined.{some_is_front, goes_on, run_step}
use Rattle.cnf_reader.specs.declared.fault.ReadKind.{ReadKind}
use Rattle.cnf_reader.specs.declared.fault.ReadKind.TheVariants.{Expected, NotCnf, Equality, Role, BadConclude, TooManyClauses, TooManyLiterals, TooManyVariables, TooDeep}
use Rattle.cnf_reader.specs.declared.pending.Pending.{Pending}
use Rattle.cnf_reader.specs.Faults.{is_role, is_selected, is_other_language, lacks_room, name_of, role_fault, variable_fault, limit_fault, refusal, no_statement, no_atom, no_term, no_follower, is_too_deep}
use Rattle.cnf_reader.specs.Statements.{take, taken, fault_here, fault_before, breaks_item}
use Rattle.cnf_reader.specs.Stops.{SaysOfToken}

-- a fault that stands by a test
by_test : (test : Bool) (wanted kind : ReadKind) → (if test then Some wanted else None) ≡ Some kind → wanted ≡ kind
by_test true wanted kind e = cc
by_test false wanted kind e = absurd cc

unless_test : (test : Bool) (wanted kind : ReadKind) → (if test then None else Some wanted) ≡ Some kind → wanted ≡ kind
unless_test true wanted kind e = absurd cc
unless_test false wanted kind e = cc

-- the first token that cannot go on is called so, by whatever it is and wherever it stands
module _ (before : List Shape) (t : Shape) (first : IsFirstFault before t) where
  statement_says : (s : Shape) → SaysOfToken (no_statement s) before t
  statement_says (Word text) = by (is_other_language text)
    where
      by : (other : Bool) → SaysOfToken (if other then NotCnf else Expected) before t
      by true = first
      by false = first
  statement_says s = first

  atom_says : (s : Shape) → SaysOfToken (no_atom s) before t
  atom_says (Upper text) = first
  atom_says (Numeral text plain) = first
  atom_says (Text text) = first
  atom_says (Dollar text) = first
  atom_says s = first

  term_says : (s : Shape) → SaysOfToken (no_term s) before t
  term_says (Numeral text plain) = first
  term_says (Dollar text) = first
  term_says s = first

  follower_says : (s : Shape) → SaysOfToken (no_follower s) before t
  follower_says NotEqual = first
  follower_says (Punct byte) = by (byte == 61)
    where
      by : (equals : Bool) → SaysOfToken (if equals then Equality else Expected) before t
      by true = first
      by false = first
  follower_says s = first

  refusal_says : (state : State) (s : Shape) → SaysOfToken (refusal state s) before t
  refusal_says Statement s = statement_says s
  refusal_says FormulaStart s = atom_says s
  refusal_says LiteralStart s = atom_says s
  refusal_says AtomStart s = atom_says s
  refusal_says WordRead s = follower_says s
  refusal_says TermStart s = term_says s
  refusal_says TermRead s = follower_says s
  refusal_says state s = first

-- a token past a limit goes on
module _ (before : List Shape) (t : Shape) (front : IsFront (before ++ t ∷ [])) (kind : ReadKind) where
  role_says : (s : Shape) → role_fault s ≡ Some kind → SaysOfToken kind before t
  role_says (Word text) e = subst (λ k. SaysOfToken k before t) (unless_test (is_role text) Role kind e) front
  role_says s e = absurd cc

  variable_says : (draft : Draft) (s : Shape) → variable_fault draft s ≡ Some kind → SaysOfToken kind before t
  variable_says draft (Upper text) e = subst (λ k. SaysOfToken k before t) (by_test (lacks_room draft.variables text) TooManyVariables kind e) front
  variable_says draft s e = absurd cc

  limit_says : (is_full : Bool) (selections : List (Option (List Name))) (state : State) (draft : Draft) (s : Shape) → limit_fault is_full selections state draft s ≡ Some kind → SaysOfToken kind before t
  limit_says is_full selections NameStart draft s e = subst (λ k. SaysOfToken k before t) (by_test (is_full && is_selected selections (name_of s)) TooManyClauses kind e) front
  limit_says is_full selections RoleStart draft s e = role_says s e
  limit_says is_full selections LiteralStart draft s e = subst (λ k. SaysOfToken k before t) (by_test (nat_le 64 (length draft.literals)) TooManyLiterals kind e) front
  limit_says is_full selections TermStart draft s e = variable_says draft s e
  limit_says is_full selections state draft s e = absurd cc

module _ (is_full : Bool) (selections : List (Option (List Name))) (p : Pending) (s : Shape) (before : List Shape) (runs : run start before ≡ Some p.position) (kind : ReadKind) where
  by_depth : (deep : Bool) → IsFront (before ++ s ∷ []) → (if deep then Some TooDeep else limit_fault is_full selections p.position.state p.draft s) ≡ Some kind → SaysOfToken kind before s
  by_depth true front e = let same : TooDeep ≡ kind = cc in subst (λ k. SaysOfToken k before s) same front
  by_depth false front e = limit_says before s front kind is_full selections p.position.state p.draft s e

  by_step : (found : Option Position) → step p.position s ≡ found → fault_before is_full selections p s found ≡ Some kind → SaysOfToken kind before s
  by_step None leads e =
      let same : refusal p.position.state s ≡ kind = cc in
      subst (λ k. SaysOfToken k before s) same (refusal_says before s (some_is_front before p.position runs, (goes_on before p.position s runs).0 leads) p.position.state s)
  by_step (Some next) leads e = by_depth (is_too_deep next) (some_is_front (before ++ s ∷ []) next (run_step before p.position s runs ∙ leads)) e

  by_break : (breaks : Bool) → (if breaks then Some BadConclude else fault_before is_full selections p s (step p.position s)) ≡ Some kind → SaysOfToken kind before s
  by_break true e = let same : BadConclude ≡ kind = cc in subst (λ k. SaysOfToken k before s) same (some_is_front before p.position runs)
  by_break false e = by_step (step p.position s) refl e

  was_refused : (fault : Option ReadKind) (line column : ℕ) → taken fault p s line column ≡ Err kind → fault ≡ Some kind
  was_refused None line column e = absurd cc
  was_refused (Some other) line column e = cc

  -- what the kind of a fault at a token says of it
  pub token_says : (line column : ℕ) → take is_full selections p s line column ≡ Err kind → SaysOfToken kind before s
  unfolding take
  token_says line column e = by_break (breaks_item p.position.state p s) (was_refused (fault_here is_full selections p s) line column e)
