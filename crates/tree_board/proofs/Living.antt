-- Each clash-free set that obeys the instances used passes a live node, so no minimal set is lost.
use Rattle.std.proofs.Common.{◌≡◌, ◌≢◌, ℕ, zero, suc, ◌+◌, ◌<◌, ◌≤◌, true, false, true≢false, not, List, [], ◌∷◌, length, slice_get, Some, All, refl, sym, ap, subst, ◌∙◌, ◌⊎◌, inl, inr, arith}
use Rattle.std.proofs.lemmas.Bool.{cases_eq}
use Rattle.mg_word.specs.Sets.{holds, is_part, meets, is_clash_free, with_lit}
use Rattle.mg_word.specs.Facts.{ProblemData}
use Rattle.mg_word.specs.declared.lit.Lit.{Lit}
use Rattle.mg_word.specs.declared.form.Inst.{Inst}
use Rattle.mg_word.proofs.Members.{two_cases, both_true, and_true, not_true, not_false, never_true, part_holds, part_of_part, part-append, not_met, none_met, meets_where}
use Rattle.mg_meaning.specs.Instances.{IsInstance}
use Rattle.mg_meaning.specs.Satisfaction.{Satisfies}
use Rattle.mg_meaning.specs.Minimality.{IsMinimal}
use Rattle.mg_meaning.specs.Excluding.{passes, obeys}
use Rattle.mg_meaning.specs.Folding.{Pair}
use Rattle.mg_meaning.proofs.Excluded.{violated_parts, obeyed, satisfied_obeys, satisfies_where_saturated, passing_parts, passing_from, obeys_member}
use Rattle.tree_board.specs.Boards.{Board}
use Rattle.tree_board.specs.Events.{insts_in}
use Rattle.tree_board.specs.Facts.{IsAmong, IsClean, IsPath, HasChildren, StateHolds, IsSound, IsBoard}
use Rattle.tree_board.specs.Laws.{PassesAt, PassesLive, IsSetOfFound, PassesUndone, NoneIsLost}
use Rattle.tree_board.specs.NodeStates.{NodeState, Open, Split, Rejected, Settled, Shut, Found, Covered, Heavy, is_shut, is_live}
use Rattle.tree_board.specs.Nodes.{Node}
use Rattle.tree_board.specs.Settings.{Setting}
use Rattle.tree_board.proofs.Places.{same_some, within}
use Rattle.tree_board.proofs.Cleaning.{barred_cases}
use Rattle.tree_board.proofs.Below.{split_at, split_above}

-- a node further on that the set passes
record PassesLater (board : Board) (set : List Lit) (first : ℕ) : Type 0 where
  pub number : ℕ
  pub node : Node
  pub passing : PassesAt board set number node
  pub from : first ≤ number

apart_more : (set barred : List Lit) (lit : Lit) → meets barred set ≡ false → holds set lit ≡ false → meets (with_lit barred lit) set ≡ false
apart_more set barred lit apart out = none_met (with_lit barred lit) set (λ one there. elim (barred_cases barred lit one there) [
  | inl same ↦ ap (holds set) (sym same) ∙ out
  | inr old ↦ not_met barred set one apart old
])

-- among the conclusions, the set passes the child of the first that it holds
first_held : (board : Board) (set : List Lit) (above : List ℕ) (lits bars conclusions : List Lit) (first : ℕ) → HasChildren board.nodes first above lits bars conclusions → is_part lits set ≡ true → meets bars set ≡ false → meets conclusions set ≡ true → PassesLater board set first
first_held board set above lits bars [] first children inside apart some = absurd (true≢false (sym some))
first_held board set above lits bars (lit ∷ more) first (child, children) inside apart some = elim (two_cases (holds set lit)) [
  | inl here ↦ record {
    number = first;
    node = child.node;
    passing = record {
      is = child.is;
      passing = passing_from set child.node.lits child.node.barred
          (subst (λ all. is_part all set ≡ true) (sym child.lits) (part-append lits (lit ∷ []) set inside (and_true (holds set lit) true here refl)))
          (subst (λ all. meets all set ≡ false) (sym child.barred) apart);
    };
    from = omega arith;
  }
  | inr out ↦
      let rest = first_held board set above lits (with_lit bars lit) more (suc first) children inside (apart_more set bars lit apart out) (rw out at some) in
      record { number = rest.number; node = rest.node; passing = rest.passing; from = omega (arith, rest.from) }
]

module _ (setting : Setting) (board : Board) (each : (number : ℕ) (node : Node) → slice_get board.nodes number ≡ Some node → IsSound setting board number node) (set : List Lit) (free : is_clash_free set ≡ true) (obeying : obeys (insts_in board.journal) set ≡ true) where
  -- the set passes no closed node
  never_closed : (number : ℕ) (node : Node) → PassesAt board set number node → (pair : Pair) → node.own ≡ Some pair → ⊥
  never_closed number node passing pair own =
      let lemma = (each number node passing.is).lemma pair own in
      let parts = passing_parts set node.lits node.barred passing.passing in
      let inside = part_of_part pair.inside node.lits set lemma.inside parts.0 in
      let outside = none_met pair.outside set (λ lit there. not_met node.barred set lit parts.1 (part_holds pair.outside node.barred lit lemma.outside there)) in
      true≢false (sym (passing_from set pair.inside pair.outside inside outside) ∙ lemma.excludes set free obeying)

  -- one node, where the law holds of the nodes behind it
  by_state : (number : ℕ) (node : Node) (state : NodeState) → node.state ≡ state → PassesAt board set number node → ((k : ℕ) (later : Node) → number < k → PassesAt board set k later → PassesLive board set) → PassesLive board set
  by_state number node Open is passing go = record { number = number; node = node; passing = passing; live = ap is_live is }
  by_state number node Found is passing go = record { number = number; node = node; passing = passing; live = ap is_live is }
  by_state number node (Covered by) is passing go = record { number = number; node = node; passing = passing; live = ap is_live is }
  by_state number node (Heavy inst) is passing go = record { number = number; node = node; passing = passing; live = ap is_live is }
  by_state number node (Rejected inst) is passing go = absurd (never_closed number node passing _ (subst (StateHolds setting board number node) is (each number node passing.is).state).3)
  by_state number node (Settled lemma) is passing go = let own = subst (StateHolds setting board number node) is (each number node passing.is).state in absurd (never_closed number node passing own.0 own.2)
  by_state number node (Shut closure) is passing go = absurd (never_closed number node passing _ (subst (StateHolds setting board number node) is (each number node passing.is).state).1)
  by_state number node (Split inst first) is passing go =
      let own = split_at setting board each number node inst first passing.is is in
      let parts = passing_parts set node.lits node.barred passing.passing in
      let premises = part_of_part inst.premises node.lits set (violated_parts node.lits inst own.least.violated).0 parts.0 in
      let fine = obeys_member (insts_in board.journal) inst set own.used obeying in
      let later = first_held board set node.path node.lits node.barred inst.conclusions first own.children parts.0 parts.1 (obeyed set inst fine premises) in
      go later.number later.node (omega (arith, later.from, own.later)) later.passing

  live_from : (fuel number : ℕ) (node : Node) → length board.nodes ≤ number + fuel → PassesAt board set number node → PassesLive board set
  live_from zero number node far passing = absurd (omega (arith, far, within board.nodes number node passing.is))
  live_from (suc fuel) number node far passing = by_state number node node.state refl passing (λ k later behind at. live_from fuel k later (omega (arith, far, behind)) at)

-- from the root on
pub passes_live : (setting : Setting) (board : Board) → IsBoard setting board → (set : List Lit) → is_clash_free set ≡ true → obeys (insts_in board.journal) set ≡ true → PassesLive board set
passes_live setting board facts set free obeying =
    let (root, is, path, lits, barred) = facts.root in
    live_from setting board facts.each set free obeying (length board.nodes) 0 root (omega arith) (record {
      is = is;
      passing = subst (λ all. passes set all root.barred ≡ true) (sym lits) (subst (λ all. passes set [] all ≡ true) (sym barred) refl);
    })

-- ---- found sets

found_unshut : (state : NodeState) → state ≡ Found → is_shut state ≡ false
found_unshut state e = ap is_shut e

pub found_satisfies : (setting : Setting) (board : Board) → IsBoard setting board → (number : ℕ) (node : Node) → slice_get board.nodes number ≡ Some node → node.state ≡ Found → Satisfies node.lits setting.problem
found_satisfies setting board facts number node is state =
    let one = facts.each number node is in
    let saturated = subst (StateHolds setting board number node) state one.state in
    (satisfies_where_saturated node.lits setting.problem).1 ((one.clean (found_unshut node.state state)).consistent, one.fitting, saturated.0)

found_not_split : (inst : Inst) (first : ℕ) (state : NodeState) → state ≡ Split inst first → state ≡ Found → ⊥
found_not_split inst first state e f = cc

-- a found node is above no other
pub found_above_none : (setting : Setting) (board : Board) → IsBoard setting board → (a b : ℕ) (one two : Node) → slice_get board.nodes a ≡ Some one → slice_get board.nodes b ≡ Some two → one.state ≡ Found → a ≢ b → IsAmong two.path a → ⊥
found_above_none setting board facts a b one two is_a is_b state apart there =
    let own = facts.each b two is_b in
    elim (subst (λ path. IsAmong path a) own.path there) [
      | inl same ↦ apart (sym same)
      | inr later ↦
          let up = split_above setting board facts.each b own.above (subst (IsPath board.nodes) own.path own.rooted) a later in
          let same : up.0 ≡ one = same_some up.0 one (sym up.3 ∙ is_a) in
          found_not_split up.1 up.2 up.0.state up.4 (ap (λ (n : Node). n.state) same ∙ state)
    ]

pub found_differ : (setting : Setting) (board : Board) → IsBoard setting board → (a b : ℕ) (one two : Node) → slice_get board.nodes a ≡ Some one → slice_get board.nodes b ≡ Some two → one.state ≡ Found → two.state ≡ Found
    → is_part one.lits two.lits ≡ true → is_part two.lits one.lits ≡ true → a ≡ b
found_differ setting board facts a b one two is_a is_b state_a state_b there back = elim (cases_eq a b) [
  | inl same ↦ same
  | inr apart ↦
      let met = facts.apart a b one two is_a is_b (found_unshut one.state state_a) (found_unshut two.state state_b)
      (found_above_none setting board facts a b one two is_a is_b state_a apart)
      (found_above_none setting board facts b a two one is_b is_a state_b (λ e. apart (sym e))) in
      absurd (elim met [
        | inl left ↦ clash one two there ((facts.each b two is_b).clean (found_unshut two.state state_b)) left
        | inr right ↦ clash two one back ((facts.each a one is_a).clean (found_unshut one.state state_a)) right
      ])
]
  where
    clash : (x y : Node) → is_part x.lits y.lits ≡ true → IsClean y.lits y.barred → meets x.lits y.barred ≡ true → ⊥
    clash x y part clean met =
        let (lit, held, bars) = meets_where x.lits y.barred met in
        true≢false (sym bars ∙ not_met y.lits y.barred lit clean.unbarred (part_holds x.lits y.lits lit part held))

-- ---- minimal sets

all_from : (problem : ProblemData) (insts : List Inst) → ((inst : Inst) → IsAmong insts inst → IsInstance problem inst) → All (IsInstance problem) insts
all_from problem [] each k d within = absurd (omega arith)
all_from problem (inst ∷ insts) each zero d within = each inst (inl refl)
all_from problem (inst ∷ insts) each (suc k) d within = all_from problem insts (λ one there. each one (inr there)) k d (omega arith)

pub all_used : (setting : Setting) (board : Board) → IsBoard setting board → All (IsInstance setting.problem) (insts_in board.journal)
all_used setting board facts = all_from setting.problem (insts_in board.journal) facts.used

-- a found set within the set
pub record IncludesFound (board : Board) (set : List Lit) : Type 0 where
  pub number : ℕ
  pub node : Node
  pub is : slice_get board.nodes number ≡ Some node
  pub found : node.state ≡ Found
  pub part : is_part node.lits set ≡ true

-- what is covered properly includes a found set
pub covered_parts : (setting : Setting) (board : Board) → IsBoard setting board → (number : ℕ) (node : Node) (by : ℕ) → slice_get board.nodes number ≡ Some node → node.state ≡ Covered by → (set : List Lit) → is_part node.lits set ≡ true
    → (one : IncludesFound board set) × (is_part set one.node.lits ≡ false)
covered_parts setting board facts number node by is state set part =
    let own = subst (StateHolds setting board number node) state (facts.each number node is).state in
    let parts = both_true (is_part own.0.other.lits node.lits) (not (is_part node.lits own.0.other.lits)) own.0.proper in (
      record { number = by; node = own.0.other; is = own.0.is; found = own.0.found; part = part_of_part own.0.other.lits node.lits set parts.0 part },
      never_true (is_part set own.0.other.lits) (λ all. true≢false (sym (part_of_part node.lits set own.0.other.lits part all) ∙ not_true (is_part node.lits own.0.other.lits) parts.1)),
    )

pub minimal_kept : (setting : Setting) (board : Board) → IsBoard setting board → (set : List Lit) → IsMinimal set setting.problem → IsSetOfFound board set ⊎ PassesUndone board set
minimal_kept setting board facts set minimal =
    let live = passes_live setting board facts set minimal.satisfying.consistent (satisfied_obeys set setting.problem (insts_in board.journal) minimal.satisfying (all_used setting board facts)) in
    by live.number live.node live.passing live.node.state refl live.live
  where
    by : (number : ℕ) (node : Node) → PassesAt board set number node → (state : NodeState) → node.state ≡ state → is_live state ≡ true → IsSetOfFound board set ⊎ PassesUndone board set
    by number node passing Open is e = inr (record { number = number; node = node; passing = passing; undone = inl is })
    by number node passing (Heavy inst) is e = inr (record { number = number; node = node; passing = passing; undone = inr (inst, is) })
    by number node passing Found is e =
        let parts = passing_parts set node.lits node.barred passing.passing in
        inl (record {
          number = number;
          node = node;
          is = passing.is;
          found = is;
          there = parts.0;
          back = elim (two_cases (is_part set node.lits)) [
            | inl all ↦ all
            | inr out ↦ absurd (minimal.least node.lits (and_true (is_part node.lits set) (not (is_part set node.lits)) parts.0 (not_false (is_part set node.lits) out)) (found_satisfies setting board facts number node passing.is is))
          ];
        })
    by number node passing (Split inst first) is e = absurd (true≢false (sym e))
    by number node passing (Rejected inst) is e = absurd (true≢false (sym e))
    by number node passing (Settled lemma) is e = absurd (true≢false (sym e))
    by number node passing (Shut closure) is e = absurd (true≢false (sym e))
    by number node passing (Covered cover) is e =
        let (one, out) = covered_parts setting board facts number node cover passing.is is set (passing_parts set node.lits node.barred passing.passing).0 in
        absurd (minimal.least one.node.lits (and_true (is_part one.node.lits set) (not (is_part set one.node.lits)) one.part (not_false (is_part set one.node.lits) out)) (found_satisfies setting board facts one.number one.node one.is one.found))

pub none_is_lost : (setting : Setting) (board : Board) → IsBoard setting board → NoneIsLost setting board
none_is_lost setting board facts = record {
  minimal = minimal_kept setting board facts;
  satisfy = found_satisfies setting board facts;
  different = found_differ setting board facts;
  exclude = λ lemma kept is set satisfied.
      let own = facts.kept lemma kept is in
      ((facts.each kept.node own.node own.is).lemma kept.pair own.own).excludes set satisfied.consistent (satisfied_obeys set setting.problem (insts_in board.journal) satisfied (all_used setting board facts));
}
