-- The count is the number of split nodes, and a stuck board that is blocked exceeds the plain tree.
use Rattle.std.proofs.Common.{◌≡◌, ℕ, zero, suc, ◌+◌, ◌<◌, ◌≤◌, Bool, true, false, true≢false, ◌&&◌, nat_eq, nat_le, List, [], ◌∷◌, ◌++◌, length, slice_get, slice_set, Option, Some, None, refl, sym, ap, subst, ◌⊎◌, inl, inr, arith}
use Rattle.std.specs.List.{list_any}
use Rattle.std.proofs.lemmas.Bool.{eq-eqb, leb-true}
use Rattle.mg_word.specs.Sets.{with_lit}
use Rattle.mg_word.specs.Facts.{IsProblem}
use Rattle.mg_word.specs.declared.lit.Lit.{Lit}
use Rattle.mg_word.specs.declared.form.Inst.{Inst}
use Rattle.mg_word.proofs.Members.{either_true, or_true}
use Rattle.mg_meaning.specs.Folding.{Pair}
use Rattle.mg_meaning.specs.PlainTree.{Plain}
use Rattle.tree_board.specs.declared.event.Event.{Event}
use Rattle.tree_board.specs.declared.event.Event.TheVariants.{Extend, Reject, ByLemma, Saturated, Covered as CoveredBy, Heavy as TooHeavy}
use Rattle.tree_board.specs.declared.mode.Limit.{Limit}
use Rattle.tree_board.specs.declared.mode.BoardState.TheVariants.{Blocked}
use Rattle.case_split.specs.Splitting.{closure_of}
use Rattle.case_split.specs.declared.child.Closure.{Closure}
use Rattle.tree_board.specs.Boards.{Board, opening, count, is_closed}
use Rattle.tree_board.specs.Children.{state_at_birth, children_of}
use Rattle.tree_board.proofs.Births.{child}
use Rattle.tree_board.specs.Closings.{due, closed_by, closed_node, closed_at}
use Rattle.tree_board.specs.Effects.{settled, born, moved, effect}
use Rattle.tree_board.specs.Events.{node_of, extends_in}
use Rattle.tree_board.specs.Facts.{IsAmong, IsPath, IsBoard}
use Rattle.tree_board.specs.Lawful.{IsLawful, IsReplay}
use Rattle.tree_board.specs.NodeStates.{NodeState, Open, Split, Rejected, Settled, Shut, Found, Covered, Heavy, is_open, is_heavy, is_split}
use Rattle.tree_board.specs.Nodes.{Node}
use Rattle.tree_board.specs.PlainLaws.{GoesOn}
use Rattle.tree_board.specs.Settings.{Setting}
use Rattle.tree_board.specs.Splits.{is_below, one_if, splits_below}
use Rattle.tree_board.specs.Standing.{some_open, some_heavy, model_of, standing_by, state_of}
use Rattle.tree_board.specs.Stuck.{IsBlockedAt, IsStuck}
use Rattle.tree_board.proofs.Progress.{open_is_due}
use Rattle.tree_board.proofs.Places.{same_some}
use Rattle.tree_board.proofs.Replays.{climb_keeps, effect_is, effect_board, opening_board, replay_keeps}
use Rattle.tree_board.proofs.Covering.{root_above}
use Rattle.tree_board.proofs.Sums.{open_bounds, no_heavy}
use Rattle.tree_board.proofs.Plainly.{replay_weighs, split_plain}

pub extends-append : (xs ys : List Event) → extends_in (xs ++ ys) ≡ extends_in xs + extends_in ys
extends-append [] ys = omega arith
extends-append (Extend node inst ∷ xs) ys = let rest = extends-append xs ys in omega (arith, rest)
extends-append (Reject node inst ∷ xs) ys = extends-append xs ys
extends-append (ByLemma node lemma ∷ xs) ys = extends-append xs ys
extends-append (Saturated node ∷ xs) ys = extends-append xs ys
extends-append (CoveredBy node cover ∷ xs) ys = extends-append xs ys
extends-append (TooHeavy node inst ∷ xs) ys = extends-append xs ys

splits-append : (top : ℕ) (xs ys : List Node) → splits_below top (xs ++ ys) ≡ splits_below top xs + splits_below top ys
splits-append top [] ys = omega arith
splits-append top (x ∷ xs) ys = let rest = splits-append top xs ys in omega (arith, rest)

-- whether a node is split and below
abbrev counts : ℕ → Node → ℕ
counts top node = one_if (is_split node.state && is_below top node)

splits_set : (top : ℕ) (nodes : List Node) (number : ℕ) (node after : Node) → slice_get nodes number ≡ Some node → splits_below top (slice_set nodes number after) + counts top node ≡ splits_below top nodes + counts top after
splits_set top [] number node after at = absurd (let bad : ⊥ = cc in bad)
splits_set top (first ∷ nodes) zero node after at = let same : counts top first ≡ counts top node = ap (counts top) (same_some first node at) in omega (arith, same)
splits_set top (first ∷ nodes) (suc number) node after at = let rest = splits_set top nodes number node after at in omega (arith, rest)

splits_born : (top first : ℕ) (path : List ℕ) (lits barred conclusions : List Lit) → splits_below top (children_of first path lits barred conclusions) ≡ 0
splits_born top first path lits barred [] = refl
splits_born top first path lits barred (lit ∷ more) =
    let rest = splits_born top (suc first) path lits (with_lit barred lit) more in
    let none : counts top (child first path lits barred lit) ≡ 0 = by (closure_of lits barred lit) in
    omega (arith, rest, none)
  where
    by : (closure : Option Closure) → one_if (is_split (state_at_birth closure) && is_below top (child first path lits barred lit)) ≡ 0
    by None = refl
    by (Some closure) = refl

abbrev pub CountsSplits : Board → Type 0
CountsSplits board = count board ≡ splits_below 0 board.nodes

any_from_among : (path : List ℕ) (top : ℕ) → IsAmong path top → list_any (nat_eq top) path ≡ true
any_from_among [] top there = absurd there
any_from_among (number ∷ path) top (inl same) = or_true (nat_eq top number) (list_any (nat_eq top) path) (inl (eq-eqb top number (sym same)))
any_from_among (number ∷ path) top (inr later) = or_true (nat_eq top number) (list_any (nat_eq top) path) (inr (any_from_among path top later))

-- all nodes are the root or below it
pub below_root : (setting : Setting) (board : Board) → IsBoard setting board → (number : ℕ) (node : Node) → slice_get board.nodes number ≡ Some node → is_below 0 node ≡ true
below_root setting board facts number node is =
    let one = facts.each number node is in
    any_from_among node.path 0 (subst (λ path. IsAmong path 0) (sym one.path) (root_above board.nodes number one.above (subst (IsPath board.nodes) one.path one.rooted)))

moved_counts : (board : Board) (node : Node) (event : Event) → slice_get board.nodes (node_of event) ≡ Some node → node.state ≡ Open → is_below 0 node ≡ true → CountsSplits board → CountsSplits (moved board node event)
moved_counts board node event at opened below counts_splits =
    let events = extends-append board.journal (event ∷ []) in
    let nodes = splits-append 0 (slice_set board.nodes (node_of event) (settled board node event)) (born board node event) in
    let change = splits_set 0 board.nodes (node_of event) node (settled board node event) at in
    let before : counts 0 node ≡ 0 = ap (λ state. one_if (is_split state && is_below 0 node)) opened in
    let own = by event in
    omega (arith, events, nodes, change, before, own.0, own.1, counts_splits)
  where
    -- what the event adds
    by : (one : Event) → (extends_in (one ∷ []) ≡ counts 0 (settled board node one)) × (splits_below 0 (born board node one) ≡ 0)
    by (Extend number inst) = (sym (ap one_if below), splits_born 0 (length board.nodes) node.path node.lits node.barred inst.conclusions)
    by (Reject number inst) = (refl, refl)
    by (ByLemma number which) = (refl, refl)
    by (Saturated number) = (refl, refl)
    by (CoveredBy number cover) = (refl, refl)
    by (TooHeavy number inst) = (refl, refl)

closed_at_counts : (setting : Setting) (board : Board) (number : ℕ) → CountsSplits board → CountsSplits (closed_at setting board number)
unfolding closed_at
closed_at_counts setting board number counts_splits = by (slice_get board.nodes number) refl
  where
    close : (node : Node) → slice_get board.nodes number ≡ Some node → (pair : Option Pair) → CountsSplits (closed_by setting board number node pair)
    close node at None = counts_splits
    close node at (Some pair) = let change = splits_set 0 board.nodes number node (record node { own = Some pair }) at in omega (arith, change, counts_splits)

    by : (node : Option Node) → slice_get board.nodes number ≡ node → CountsSplits (closed_node setting board number node)
    by None at = counts_splits
    by (Some node) at = close node at (due board.nodes node)

record IsCounted (setting : Setting) (board : Board) : Type 0 where
  pub facts : IsBoard setting board
  pub counted : CountsSplits board

effect_counts : (setting : Setting) (board : Board) → IsBoard setting board → CountsSplits board → (event : Event) → IsLawful setting board event → CountsSplits (effect setting board event)
effect_counts setting board facts counted event lawful =
    subst CountsSplits (sym (effect_is setting board event lawful.node lawful.is))
    (climb_keeps setting CountsSplits (λ number one holds. closed_at_counts setting one number holds) lawful.node.path (moved board lawful.node event)
    (moved_counts board lawful.node event lawful.is lawful.opened (below_root setting board facts (node_of event) lawful.node lawful.is) counted))

pub count_is_splits : (setting : Setting) (board : Board) → IsProblem setting.problem → IsReplay setting board → count board ≡ splits_below 0 board.nodes
count_is_splits setting board real replay =
    (subst (IsCounted setting) replay.is
    (replay_keeps setting (IsCounted setting) (λ one event holds lawful. record { facts = effect_board setting one real holds.facts event lawful; counted = effect_counts setting one holds.facts holds.counted event lawful }) replay.events opening
    (record { facts = opening_board setting; counted = refl }) replay.lawful)).counted

-- ---- stuck boards

blocked_tests : (closed : Bool) (model : Option ℕ) (opened spent heavy : Bool) (limit : Limit) → standing_by closed model opened spent heavy ≡ Blocked limit → ((opened ≡ true) × (spent ≡ true)) ⊎ (heavy ≡ true)
blocked_tests true model opened spent heavy limit e = cc
blocked_tests false (Some node) opened spent heavy limit e = cc
blocked_tests false None true true heavy limit e = inl (refl, refl)
blocked_tests false None true false heavy limit e = cc
blocked_tests false None false spent true limit e = inr refl
blocked_tests false None false spent false limit e = cc

pub some_node : (test : Node → Bool) (nodes : List Node) → list_any test nodes ≡ true → (number : ℕ) × (node : Node) × (slice_get nodes number ≡ Some node) × (test node ≡ true)
some_node test [] e = absurd (true≢false (sym e))
some_node test (first ∷ nodes) e = elim (either_true (test first) (list_any test nodes) e) [
  | inl here ↦ (0, first, refl, here)
  | inr later ↦ let (number, node, is, passes) = some_node test nodes later in (suc number, node, is, passes)
]

pub open_state : (state : NodeState) → is_open state ≡ true → state ≡ Open
open_state Open e = refl
open_state (Split inst first) e = absurd (true≢false (sym e))
open_state (Rejected inst) e = absurd (true≢false (sym e))
open_state (Settled lemma) e = absurd (true≢false (sym e))
open_state (Shut closure) e = absurd (true≢false (sym e))
open_state Found e = absurd (true≢false (sym e))
open_state (Covered cover) e = absurd (true≢false (sym e))
open_state (Heavy inst) e = absurd (true≢false (sym e))

pub heavy_state : (state : NodeState) → is_heavy state ≡ true → (inst : Inst) × (state ≡ Heavy inst)
heavy_state (Heavy inst) e = (inst, refl)
heavy_state Open e = absurd (true≢false (sym e))
heavy_state (Split inst first) e = absurd (true≢false (sym e))
heavy_state (Rejected inst) e = absurd (true≢false (sym e))
heavy_state (Settled lemma) e = absurd (true≢false (sym e))
heavy_state (Shut closure) e = absurd (true≢false (sym e))
heavy_state Found e = absurd (true≢false (sym e))
heavy_state (Covered cover) e = absurd (true≢false (sym e))

-- an open node that waits for an extension leaves room in each plain tree of the root
pub waiting_exceeds : (setting : Setting) (board : Board) → IsProblem setting.problem → IsReplay setting board → (number : ℕ) (node : Node) → slice_get board.nodes number ≡ Some node → node.state ≡ Open → IsBlockedAt setting board node
    → (extends : ℕ) → Plain setting.problem setting.limits.weight [] [] extends → count board < extends
waiting_exceeds setting board real replay number node at opened waits extends plain =
    let weighed = replay_weighs setting board real replay in
    let (root, is, path, lits, barred) = weighed.facts.root in
    let own : Plain setting.problem setting.limits.weight root.lits root.barred extends = subst (λ all. Plain setting.problem setting.limits.weight all root.barred extends) (sym lits) (subst (λ all. Plain setting.problem setting.limits.weight [] all extends) (sym barred) plain) in
    let (total, sum, few) = weighed.weighs 0 root is extends own in
    let counted = count_is_splits setting board real replay in
    let fewer = open_bounds setting.problem setting.limits.weight 0 board.nodes total sum number node at (below_root setting board weighed.facts number node at) opened
    (λ size tree. let shape = split_plain setting.problem setting.limits.weight node.lits node.barred waits.inst size waits.least waits.some tree in omega (arith, shape.size)) in
    omega (arith, fewer, few, counted)

pub none_heavy : (setting : Setting) (board : Board) → IsProblem setting.problem → IsReplay setting board → (number : ℕ) (node : Node) (inst : Inst) → slice_get board.nodes number ≡ Some node → node.state ≡ Heavy inst
    → (extends : ℕ) → Plain setting.problem setting.limits.weight [] [] extends → ⊥
none_heavy setting board real replay number node inst at heavy extends plain =
    let weighed = replay_weighs setting board real replay in
    let (root, is, path, lits, barred) = weighed.facts.root in
    let own : Plain setting.problem setting.limits.weight root.lits root.barred extends = subst (λ all. Plain setting.problem setting.limits.weight all root.barred extends) (sym lits) (subst (λ all. Plain setting.problem setting.limits.weight [] all extends) (sym barred) plain) in
    let (total, sum, few) = weighed.weighs 0 root is extends own in
    no_heavy setting.problem setting.limits.weight 0 board.nodes total sum number node inst at (below_root setting board weighed.facts number node at) heavy

pub goes_on : (setting : Setting) (board : Board) → IsProblem setting.problem → IsReplay setting board → (extends : ℕ) → extends ≤ setting.limits.budget → Plain setting.problem setting.limits.weight [] [] extends → GoesOn setting board
goes_on setting board real replay extends within plain = record {
  event = λ number node at opened. elim (open_is_due setting board real number node at opened) [
    | inl one ↦ one
    | inr (waits, spent) ↦ let more = waiting_exceeds setting board real replay number node at opened waits extends plain in absurd (omega (arith, more, spent, within))
  ];
  no_heavy = λ number node inst at heavy. none_heavy setting board real replay number node inst at heavy extends plain;
}

-- so a stuck board that is blocked exceeds
pub stuck_exceeds : (setting : Setting) (board : Board) → IsProblem setting.problem → IsReplay setting board → IsStuck setting board → (limit : Limit) → state_of setting board ≡ Blocked limit
    → (extends : ℕ) → extends ≤ setting.limits.budget → Plain setting.problem setting.limits.weight [] [] extends → ⊥
stuck_exceeds setting board real replay stuck limit blocked extends within plain =
    elim (blocked_tests (is_closed board 0) (model_of setting.mode board) (some_open board) (nat_le setting.limits.budget (count board)) (some_heavy board) limit blocked) [
      | inl (some, spent) ↦
          let (number, node, at, test) = some_node (λ (one : Node). is_open one.state) board.nodes some in
          let opened = open_state node.state test in
          let more = waiting_exceeds setting board real replay number node at opened (stuck number node at opened) extends plain in
          let full = leb-true setting.limits.budget (count board) spent in
          omega (arith, more, full, within)
      | inr some ↦
          let (number, node, at, test) = some_node (λ (one : Node). is_heavy one.state) board.nodes some in
          let (inst, heavy) = heavy_state node.state test in
          none_heavy setting board real replay number node inst at heavy extends plain
    ]
