-- Satisfying and minimal sets, worked by hand.
use Rattle.std.proofs.Common.{◌≡◌, Bool, true, false, true≢false, List, [], ◌∷◌, All, refl, sym, subst, ◌∙◌, arith, ◌&&◌, ◌||◌, inl, inr}
use Rattle.std.proofs.lemmas.List.Elements.{All-nil, All-cons}
use Rattle.mg_word.specs.Facts.{ProblemData, IsProblem, IsClause}
use Rattle.mg_word.specs.declared.item.Item.TheVariants.{Sym}
use Rattle.mg_word.specs.declared.lit.Lit.{Lit}
use Rattle.mg_meaning.specs.Satisfaction.{Satisfies}
use Rattle.mg_meaning.specs.Minimality.{IsMinimal}
use Rattle.mg_meaning.specs.Listing.{violated_in}
use Rattle.mg_meaning.specs.Deciding.{is_satisfying, is_least}
use Rattle.mg_meaning.specs.Bound.{bound}
use Rattle.mg_meaning.proofs.Decided.{satisfying_decided, least_decided}
use Rattle.mg_word.specs.Sets.{holds, is_part, is_rising}
use Rattle.mg_word.proofs.Members.{either_true, and_true, clash_free_at}
use Rattle.mg_meaning.specs.Minimality.{ListsMinimal}
use Rattle.mg_meaning.proofs.Lists.{Among}
use Rattle.mg_meaning.proofs.MinimalLists.{lists_from}
use Rattle.mg_meaning.proofs.ExampleProblems.{word_symbol, plus, minus, clause_of, problem_of, positive, negative, ground_clause, problem_is_real}

-- where both tests of a set pass, it is minimal
minimal_by_tests : (problem : ProblemData) → IsProblem problem → (set : List Lit) → is_satisfying problem set ≡ true → is_least problem set ≡ true → IsMinimal set problem
minimal_by_tests problem real set satisfying least =
    let satisfied = (satisfying_decided problem real set).0 satisfying in
    (least_decided problem real set satisfied).0 least

-- the only one of one literal
only : (a : Bool) → (a || false) ≡ true → a ≡ true
only true is = refl
only false is = is

-- ---- p|q; ~p|q: of the sets {p,q}, {q} and {p} two satisfy, and {q} alone is minimal

abbrev two_sets : ProblemData
two_sets = problem_of (word_symbol 112 0 ∷ word_symbol 113 0 ∷ []) (clause_of (plus (Sym 0 ∷ []) ∷ plus (Sym 1 ∷ []) ∷ []) [] [] ∷ clause_of (minus (Sym 0 ∷ []) ∷ plus (Sym 1 ∷ []) ∷ []) [] [] ∷ [])

abbrev p : Lit
p = positive (0 ∷ [])

abbrev q : Lit
q = positive (1 ∷ [])

each_two_sets : All (IsClause two_sets.symbols 1) two_sets.clauses
each_two_sets =
    All-cons (IsClause two_sets.symbols 1) (clause_of (plus (Sym 0 ∷ []) ∷ plus (Sym 1 ∷ []) ∷ []) [] []) (clause_of (minus (Sym 0 ∷ []) ∷ plus (Sym 1 ∷ []) ∷ []) [] [] ∷ [])
    (ground_clause two_sets.symbols (plus (Sym 0 ∷ []) ∷ plus (Sym 1 ∷ []) ∷ []) [] refl refl refl refl (omega arith))
    (All-cons (IsClause two_sets.symbols 1) (clause_of (minus (Sym 0 ∷ []) ∷ plus (Sym 1 ∷ []) ∷ []) [] []) []
    (ground_clause two_sets.symbols (minus (Sym 0 ∷ []) ∷ plus (Sym 1 ∷ []) ∷ []) [] refl refl refl refl (omega arith))
    (All-nil (IsClause two_sets.symbols 1)))

two_real : IsProblem two_sets
two_real = problem_is_real two_sets.symbols two_sets.clauses refl each_two_sets (omega arith) refl refl refl (omega arith)

both_satisfy : Satisfies (p ∷ q ∷ []) two_sets
both_satisfy = (satisfying_decided two_sets two_real (p ∷ q ∷ [])).0 refl

both_not_minimal : IsMinimal (p ∷ q ∷ []) two_sets → ⊥
both_not_minimal minimal = true≢false (sym ((least_decided two_sets two_real (p ∷ q ∷ []) both_satisfy).1 minimal))

q_minimal : IsMinimal (q ∷ []) two_sets
q_minimal = minimal_by_tests two_sets two_real (q ∷ []) refl refl

p_does_not_satisfy : Satisfies (p ∷ []) two_sets → ⊥
p_does_not_satisfy satisfied = true≢false (sym ((satisfying_decided two_sets two_real (p ∷ [])).1 satisfied))

-- nor does a set with a clash
clash_does_not_satisfy : is_satisfying two_sets (q ∷ negative (1 ∷ []) ∷ []) ≡ false
clash_does_not_satisfy = refl

-- a satisfying set holds p or q, and with p it holds q by the second form
two_covers : (set : List Lit) → Satisfies set two_sets → holds set q ≡ true
two_covers set satisfies =
    elim (either_true (holds set p) (holds set q || false) (satisfies.obeying (record { form = 1; subst = []; premises = []; conclusions = p ∷ q ∷ [] }) (record { form = _; is = refl; terms = refl; made = refl }) refl)) [
      | inl there ↦ only (holds set q) (satisfies.obeying (record { form = 2; subst = []; premises = p ∷ []; conclusions = q ∷ [] }) (record { form = _; is = refl; terms = refl; made = refl }) (and_true (holds set p) true there refl))
      | inr there ↦ only (holds set q) there
    ]

-- so {q} is its one minimal set
two_minimal : ListsMinimal ((q ∷ []) ∷ []) two_sets
two_minimal = lists_from two_sets ((q ∷ []) ∷ []) refl each (λ set satisfies. (q ∷ [], inl refl, and_true (holds set q) true (two_covers set satisfies) refl))
  where
    each : (set : List Lit) → Among ((q ∷ []) ∷ []) set → (is_rising set ≡ true) × IsMinimal set two_sets
    each set (inl same) = subst (λ one. (is_rising one ≡ true) × IsMinimal one two_sets) same (refl, q_minimal)
    each set (inr other) = absurd other

-- ---- p|q; ~p|r; ~q|r: the minimal sets are {p,r} and {q,r}

abbrev ring : ProblemData
ring = problem_of (word_symbol 112 0 ∷ word_symbol 113 0 ∷ word_symbol 114 0 ∷ [])
    (clause_of (plus (Sym 0 ∷ []) ∷ plus (Sym 1 ∷ []) ∷ []) [] [] ∷ clause_of (minus (Sym 0 ∷ []) ∷ plus (Sym 2 ∷ []) ∷ []) [] [] ∷ clause_of (minus (Sym 1 ∷ []) ∷ plus (Sym 2 ∷ []) ∷ []) [] [] ∷ [])

abbrev r : Lit
r = positive (2 ∷ [])

each_ring : All (IsClause ring.symbols 1) ring.clauses
each_ring =
    All-cons (IsClause ring.symbols 1) (clause_of (plus (Sym 0 ∷ []) ∷ plus (Sym 1 ∷ []) ∷ []) [] [])
    (clause_of (minus (Sym 0 ∷ []) ∷ plus (Sym 2 ∷ []) ∷ []) [] [] ∷ clause_of (minus (Sym 1 ∷ []) ∷ plus (Sym 2 ∷ []) ∷ []) [] [] ∷ [])
    (ground_clause ring.symbols (plus (Sym 0 ∷ []) ∷ plus (Sym 1 ∷ []) ∷ []) [] refl refl refl refl (omega arith))
    (All-cons (IsClause ring.symbols 1) (clause_of (minus (Sym 0 ∷ []) ∷ plus (Sym 2 ∷ []) ∷ []) [] []) (clause_of (minus (Sym 1 ∷ []) ∷ plus (Sym 2 ∷ []) ∷ []) [] [] ∷ [])
    (ground_clause ring.symbols (minus (Sym 0 ∷ []) ∷ plus (Sym 2 ∷ []) ∷ []) [] refl refl refl refl (omega arith))
    (All-cons (IsClause ring.symbols 1) (clause_of (minus (Sym 1 ∷ []) ∷ plus (Sym 2 ∷ []) ∷ []) [] []) []
    (ground_clause ring.symbols (minus (Sym 1 ∷ []) ∷ plus (Sym 2 ∷ []) ∷ []) [] refl refl refl refl (omega arith))
    (All-nil (IsClause ring.symbols 1))))

ring_real : IsProblem ring
ring_real = problem_is_real ring.symbols ring.clauses refl each_ring (omega arith) refl refl refl (omega arith)

-- a satisfying set holds p or q by the first form, and r by one of the others
ring_covers : (set : List Lit) → Satisfies set ring → (one : List Lit) × Among ((p ∷ r ∷ []) ∷ (q ∷ r ∷ []) ∷ []) one × (is_part one set ≡ true)
ring_covers set satisfies =
    elim (either_true (holds set p) (holds set q || false) (satisfies.obeying (record { form = 1; subst = []; premises = []; conclusions = p ∷ q ∷ [] }) (record { form = _; is = refl; terms = refl; made = refl }) refl)) [
      | inl there ↦
          let other = satisfies.obeying (record { form = 2; subst = []; premises = p ∷ []; conclusions = r ∷ [] }) (record { form = _; is = refl; terms = refl; made = refl }) (and_true (holds set p) true there refl) in
          (p ∷ r ∷ [], inl refl, and_true (holds set p) (holds set r && true) there (and_true (holds set r) true (only (holds set r) other) refl))
      | inr there ↦
          let own = only (holds set q) there in
          let other = satisfies.obeying (record { form = 3; subst = []; premises = q ∷ []; conclusions = r ∷ [] }) (record { form = _; is = refl; terms = refl; made = refl }) (and_true (holds set q) true own refl) in
          (q ∷ r ∷ [], inr (inl refl), and_true (holds set q) (holds set r && true) own (and_true (holds set r) true (only (holds set r) other) refl))
    ]

-- these are all its minimal sets, and no list in another order is
ring_minimal : ListsMinimal ((p ∷ r ∷ []) ∷ (q ∷ r ∷ []) ∷ []) ring
ring_minimal = lists_from ring ((p ∷ r ∷ []) ∷ (q ∷ r ∷ []) ∷ []) refl each ring_covers
  where
    each : (set : List Lit) → Among ((p ∷ r ∷ []) ∷ (q ∷ r ∷ []) ∷ []) set → (is_rising set ≡ true) × IsMinimal set ring
    each set (inl same) = subst (λ one. (is_rising one ≡ true) × IsMinimal one ring) same (refl, minimal_by_tests ring ring_real (p ∷ r ∷ []) refl refl)
    each set (inr (inl same)) = subst (λ one. (is_rising one ≡ true) × IsMinimal one ring) same (refl, minimal_by_tests ring ring_real (q ∷ r ∷ []) refl refl)
    each set (inr (inr other)) = absurd other

ring_bound : bound ring 1 ≡ 6561
ring_bound = refl

-- ---- p(a); q(a)|r(a); ~p(a)|~q(a) with conclude([2]): the constraint ~q(a) is in the minimal set

abbrev constrained : ProblemData
constrained = problem_of (word_symbol 97 0 ∷ word_symbol 112 1 ∷ word_symbol 113 1 ∷ word_symbol 114 1 ∷ [])
    (clause_of (plus (Sym 1 ∷ Sym 0 ∷ []) ∷ []) [] [] ∷ clause_of (plus (Sym 2 ∷ Sym 0 ∷ []) ∷ plus (Sym 3 ∷ Sym 0 ∷ []) ∷ []) [] []
    ∷ clause_of (minus (Sym 1 ∷ Sym 0 ∷ []) ∷ minus (Sym 2 ∷ Sym 0 ∷ []) ∷ []) [] ((2 ∷ []) ∷ []) ∷ [])

abbrev p_a : Lit
p_a = positive (1 ∷ 0 ∷ [])

abbrev q_a : Lit
q_a = positive (2 ∷ 0 ∷ [])

abbrev not_q_a : Lit
not_q_a = negative (2 ∷ 0 ∷ [])

abbrev r_a : Lit
r_a = positive (3 ∷ 0 ∷ [])

each_constrained : All (IsClause constrained.symbols 1) constrained.clauses
each_constrained =
    All-cons (IsClause constrained.symbols 1) (clause_of (plus (Sym 1 ∷ Sym 0 ∷ []) ∷ []) [] []) ((clause_of (plus (Sym 2 ∷ Sym 0 ∷ []) ∷ plus (Sym 3 ∷ Sym 0 ∷ []) ∷ []) [] []) ∷ (clause_of (minus (Sym 1 ∷ Sym 0 ∷ []) ∷ minus (Sym 2 ∷ Sym 0 ∷ []) ∷ []) [] ((2 ∷ []) ∷ [])) ∷ [])
    (ground_clause constrained.symbols (plus (Sym 1 ∷ Sym 0 ∷ []) ∷ []) [] refl refl refl refl (omega arith))
    (All-cons (IsClause constrained.symbols 1) (clause_of (plus (Sym 2 ∷ Sym 0 ∷ []) ∷ plus (Sym 3 ∷ Sym 0 ∷ []) ∷ []) [] []) ((clause_of (minus (Sym 1 ∷ Sym 0 ∷ []) ∷ minus (Sym 2 ∷ Sym 0 ∷ []) ∷ []) [] ((2 ∷ []) ∷ [])) ∷ [])
    (ground_clause constrained.symbols (plus (Sym 2 ∷ Sym 0 ∷ []) ∷ plus (Sym 3 ∷ Sym 0 ∷ []) ∷ []) [] refl refl refl refl (omega arith))
    (All-cons (IsClause constrained.symbols 1) (clause_of (minus (Sym 1 ∷ Sym 0 ∷ []) ∷ minus (Sym 2 ∷ Sym 0 ∷ []) ∷ []) [] ((2 ∷ []) ∷ [])) []
    (ground_clause constrained.symbols (minus (Sym 1 ∷ Sym 0 ∷ []) ∷ minus (Sym 2 ∷ Sym 0 ∷ []) ∷ []) ((2 ∷ []) ∷ []) refl refl refl refl (omega arith))
    (All-nil (IsClause constrained.symbols 1))))

constrained_real : IsProblem constrained
constrained_real = problem_is_real constrained.symbols constrained.clauses refl each_constrained (omega arith) refl refl refl (omega arith)

-- a satisfying set holds p(a), hence the constraint, hence not q(a), and so r(a)
constrained_covers : (set : List Lit) → Satisfies set constrained → (one : List Lit) × Among ((p_a ∷ not_q_a ∷ r_a ∷ []) ∷ []) one × (is_part one set ≡ true)
constrained_covers set satisfies =
    let first = only (holds set p_a) (satisfies.obeying (record { form = 1; subst = []; premises = []; conclusions = p_a ∷ [] }) (record { form = _; is = refl; terms = refl; made = refl }) refl) in
    let barred = only (holds set not_q_a) (satisfies.obeying (record { form = 4; subst = []; premises = p_a ∷ []; conclusions = not_q_a ∷ [] }) (record { form = _; is = refl; terms = refl; made = refl }) (and_true (holds set p_a) true first refl)) in
    let either = satisfies.obeying (record { form = 2; subst = []; premises = []; conclusions = q_a ∷ r_a ∷ [] }) (record { form = _; is = refl; terms = refl; made = refl }) refl in
    let last : holds set r_a ≡ true = elim (either_true (holds set q_a) (holds set r_a || false) either) [
      | inl there ↦ absurd (true≢false (sym there ∙ clash_free_at set not_q_a satisfies.consistent barred))
      | inr there ↦ only (holds set r_a) there
    ] in
    (p_a ∷ not_q_a ∷ r_a ∷ [], inl refl, and_true (holds set p_a) (holds set not_q_a && (holds set r_a && true)) first (and_true (holds set not_q_a) (holds set r_a && true) barred (and_true (holds set r_a) true last refl)))

-- this is its one minimal set
constrained_minimal : ListsMinimal ((p_a ∷ not_q_a ∷ r_a ∷ []) ∷ []) constrained
constrained_minimal = lists_from constrained ((p_a ∷ not_q_a ∷ r_a ∷ []) ∷ []) refl each constrained_covers
  where
    each : (set : List Lit) → Among ((p_a ∷ not_q_a ∷ r_a ∷ []) ∷ []) set → (is_rising set ≡ true) × IsMinimal set constrained
    each set (inl same) = subst (λ one. (is_rising one ≡ true) × IsMinimal one constrained) same (refl, minimal_by_tests constrained constrained_real (p_a ∷ not_q_a ∷ r_a ∷ []) refl refl)
    each set (inr other) = absurd other

-- p(a) and q(a) violate the plain form, which rejects, and the constraint
constrained_violated : violated_in constrained (p_a ∷ q_a ∷ [])
    ≡ record { form = 3; subst = []; premises = p_a ∷ q_a ∷ []; conclusions = [] } ∷ record { form = 4; subst = []; premises = p_a ∷ []; conclusions = not_q_a ∷ [] } ∷ []
constrained_violated = refl
