-- Boards have few nodes, and no more events than nodes.
use Rattle.std.proofs.Common.{◌≡◌, ℕ, zero, suc, ◌+◌, ◌*◌, ◌≤◌, Bool, true, false, List, [], ◌∷◌, ◌++◌, length, slice_get, slice_set, Option, Some, None, refl, sym, ap, subst, ◌∙◌, arith}
use Rattle.std.proofs.lemmas.List.{length-append}
use Rattle.mg_word.specs.Sets.{with_lit}
use Rattle.mg_word.specs.Words.{lit_instances, numbered}
use Rattle.mg_word.specs.Facts.{ProblemData, IsProblem, IsNarrow}
use Rattle.mg_word.specs.declared.lit.Lit.{Lit}
use Rattle.mg_word.specs.declared.lit.PatLit.{PatLit}
use Rattle.mg_word.specs.declared.form.Form.{Form}
use Rattle.mg_word.specs.declared.form.Inst.{Inst}
use Rattle.mg_meaning.specs.Instances.{IsInstance}
use Rattle.mg_meaning.specs.Folding.{Pair}
use Rattle.mg_meaning.proofs.Lists.{All-at}
use Rattle.tree_board.specs.declared.event.Event.{Event}
use Rattle.tree_board.specs.declared.event.Event.TheVariants.{Extend, Reject, ByLemma, Saturated, Covered as CoveredBy, Heavy as TooHeavy}
use Rattle.tree_board.specs.Boards.{Board, opening, count}
use Rattle.tree_board.specs.Children.{children_of}
use Rattle.tree_board.specs.Closings.{due, closed_by, closed_node, closed_at}
use Rattle.tree_board.specs.Effects.{settled, born, moved}
use Rattle.tree_board.specs.Events.{node_of, extends_in}
use Rattle.tree_board.specs.Lawful.{lemma_for, cover_for, IsDue, IsLawful, IsReplay}
use Rattle.tree_board.specs.Laws.{IsBounded}
use Rattle.tree_board.specs.NodeStates.{is_open}
use Rattle.tree_board.specs.Nodes.{Node}
use Rattle.tree_board.specs.Settings.{Setting}
use Rattle.tree_board.specs.Splits.{one_if}
use Rattle.tree_board.proofs.Places.{same_some, length-slice_set}
use Rattle.tree_board.proofs.Counting.{extends-append}
use Rattle.tree_board.proofs.Replays.{climb_keeps, effect_is, replay_keeps}

-- the number of open nodes
abbrev pub opens : List Node → ℕ
opens [] = 0
opens (node ∷ nodes) = one_if (is_open node.state) + opens nodes

opens-append : (xs ys : List Node) → opens (xs ++ ys) ≡ opens xs + opens ys
opens-append [] ys = omega arith
opens-append (x ∷ xs) ys = let rest = opens-append xs ys in omega (arith, rest)

opens_set : (nodes : List Node) (number : ℕ) (node after : Node) → slice_get nodes number ≡ Some node → opens (slice_set nodes number after) + one_if (is_open node.state) ≡ opens nodes + one_if (is_open after.state)
opens_set [] number node after at = absurd (let bad : ⊥ = cc in bad)
opens_set (first ∷ nodes) zero node after at = let same : one_if (is_open first.state) ≡ one_if (is_open node.state) = ap (λ (n : Node). one_if (is_open n.state)) (same_some first node at) in omega (arith, same)
opens_set (first ∷ nodes) (suc number) node after at = let rest = opens_set nodes number node after at in omega (arith, rest)

opens_most : (nodes : List Node) → opens nodes ≤ length nodes
opens_most [] = omega arith
opens_most (node ∷ nodes) = let rest = opens_most nodes in let one = by (is_open node.state) in omega (arith, rest, one)
  where
    by : (test : Bool) → one_if test ≤ 1
    by true = omega arith
    by false = omega arith

children_length : (first : ℕ) (path : List ℕ) (lits barred conclusions : List Lit) → length (children_of first path lits barred conclusions) ≡ length conclusions
children_length first path lits barred [] = refl
children_length first path lits barred (lit ∷ more) = ap suc (children_length (suc first) path lits (with_lit barred lit) more)

instances_length : (terms : List (List ℕ)) (lits : List PatLit) → length (lit_instances terms lits) ≡ length lits
instances_length terms [] = refl
instances_length terms (lit ∷ lits) = ap suc (instances_length terms lits)

no_form : (form : Form) → None ≡ Some form → ⊥
no_form form e = cc

pub few_conclusions : (problem : ProblemData) → IsProblem problem → (inst : Inst) → IsInstance problem inst → length inst.conclusions ≤ 64
few_conclusions problem real inst is =
    let own : length inst.conclusions ≡ length is.form.conclusions = ap (λ (one : Inst). length one.conclusions) is.made ∙ instances_length inst.subst is.form.conclusions in
    let narrow = by inst.form is.is in
    omega (arith, own, narrow)
  where
    by : (number : ℕ) → numbered problem.forms number ≡ Some is.form → length is.form.conclusions ≤ 64
    by zero at = absurd (no_form is.form at)
    by (suc place) at = All-at IsNarrow problem.forms place is.form real.narrow at

-- nodes and events within their bounds
record Within (board : Board) : Type 0 where
  pub nodes : length board.nodes ≤ 1 + 64 * count board
  pub events : length board.journal + opens board.nodes ≤ length board.nodes

-- what an event adds
record Adds (board : Board) (node : Node) (event : Event) : Type 0 where
  pub nodes : length (born board node event) ≤ 64 * extends_in (event ∷ [])
  pub shut : is_open (settled board node event).state ≡ false

adds : (setting : Setting) (board : Board) → IsProblem setting.problem → (node : Node) (event : Event) → IsDue setting board node (lemma_for board node) (cover_for setting.mode board node) event → Adds board node event
adds setting board real node (Extend number inst) due = record {
  nodes =
      let few = few_conclusions setting.problem real inst due.2.instance in
      let size = children_length (length board.nodes) node.path node.lits node.barred inst.conclusions in
      omega (arith, few, size);
  shut = refl;
}
adds setting board real node (Reject number inst) due = record { nodes = omega arith; shut = refl }
adds setting board real node (ByLemma number which) due = record { nodes = omega arith; shut = refl }
adds setting board real node (Saturated number) due = record { nodes = omega arith; shut = refl }
adds setting board real node (CoveredBy number cover) due = record { nodes = omega arith; shut = refl }
adds setting board real node (TooHeavy number inst) due = record { nodes = omega arith; shut = refl }

moved_within : (setting : Setting) (board : Board) → IsProblem setting.problem → (event : Event) → (lawful : IsLawful setting board event) → Within board → Within (moved board lawful.node event)
moved_within setting board real event lawful within =
    let node = lawful.node in
    let own = adds setting board real node event lawful.due in
    let sizes = length-append (slice_set board.nodes (node_of event) (settled board node event)) (born board node event) in
    let same = length-slice_set board.nodes (node_of event) (settled board node event) in
    let events = extends-append board.journal (event ∷ []) in
    let journal = length-append board.journal (event ∷ []) in
    let joined = opens-append (slice_set board.nodes (node_of event) (settled board node event)) (born board node event) in
    let change = opens_set board.nodes (node_of event) node (settled board node event) lawful.is in
    let before : one_if (is_open node.state) ≡ 1 = ap (λ state. one_if (is_open state)) lawful.opened in
    let after : one_if (is_open (settled board node event).state) ≡ 0 = ap one_if own.shut in
    let kids = opens_most (born board node event) in
    record {
      nodes = omega (arith, sizes, same, events, own.nodes, within.nodes);
      events = omega (arith, sizes, same, journal, joined, change, before, after, kids, within.events);
    }

closed_at_within : (setting : Setting) (board : Board) (number : ℕ) → Within board → Within (closed_at setting board number)
unfolding closed_at
closed_at_within setting board number within = by (slice_get board.nodes number) refl
  where
    close : (node : Node) → slice_get board.nodes number ≡ Some node → (pair : Option Pair) → Within (closed_by setting board number node pair)
    close node at None = within
    close node at (Some pair) =
        let after : Node = record node { own = Some pair } in
        let same = length-slice_set board.nodes number after in
        let change = opens_set board.nodes number node after at in
        record { nodes = omega (arith, same, within.nodes); events = omega (arith, same, change, within.events) }

    by : (node : Option Node) → slice_get board.nodes number ≡ node → Within (closed_node setting board number node)
    by None at = within
    by (Some node) at = close node at (due board.nodes node)

pub boards_bounded : (setting : Setting) (board : Board) → IsProblem setting.problem → IsReplay setting board → IsBounded board
boards_bounded setting board real replay =
    let within : Within board = subst Within replay.is (replay_keeps setting Within
    (λ one event holds lawful. subst Within (sym (effect_is setting one event lawful.node lawful.is)) (climb_keeps setting Within (λ number two kept. closed_at_within setting two number kept) lawful.node.path (moved one lawful.node event) (moved_within setting one real event lawful holds)))
    replay.events opening (record { nodes = omega arith; events = omega arith }) replay.lawful) in
    record { nodes = within.nodes; events = omega (arith, within.events) }
