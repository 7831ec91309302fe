-- The literals of each node weigh at most the limit: an instance that is split does, and no other event makes literals.
use Rattle.std.proofs.Common.{◌≡◌, ℕ, zero, suc, ◌≤◌, List, [], ◌∷◌, length, slice_get, slice_set, Option, Some, None, refl, sym, subst, inl, inr, arith}
use Rattle.std.proofs.lemmas.List.Elements.{All-nil, All-cons, All-head, All-tail, All-push}
use Rattle.mg_word.specs.Facts.{IsProblem}
use Rattle.mg_word.specs.Sets.{with_lit}
use Rattle.mg_word.specs.declared.lit.Lit.{Lit}
use Rattle.mg_meaning.specs.Folding.{Pair}
use Rattle.mg_meaning.specs.Violation.{heaviest}
use Rattle.tree_board.specs.declared.event.Event.{Event}
use Rattle.tree_board.specs.declared.event.Event.TheVariants.{Extend, Reject, ByLemma, Saturated, Covered as CoveredBy, Heavy as TooHeavy}
use Rattle.tree_board.specs.Boards.{Board, opening}
use Rattle.tree_board.specs.Children.{children_of}
use Rattle.tree_board.specs.Closings.{closed_at, closed_by, closed_node, due}
use Rattle.tree_board.specs.Effects.{born, moved, settled}
use Rattle.tree_board.specs.Events.{node_of}
use Rattle.tree_board.specs.Lawful.{IsDue, IsLawful, IsReplay, cover_for, lemma_for}
use Rattle.tree_board.specs.Lightness.{AreLight}
use Rattle.tree_board.specs.NodeStates.{Open}
use Rattle.tree_board.specs.Nodes.{Node}
use Rattle.tree_board.specs.Settings.{Setting}
use Rattle.tree_board.proofs.Births.{child}
use Rattle.tree_board.proofs.Places.{same_some, whence}
use Rattle.tree_board.proofs.Replays.{climb_keeps, effect_is, replay_keeps}
use Rattle.tree_board.proofs.Settling.{settled_keeps}

light_from : (limit : ℕ) (lits : List Lit) → heaviest lits ≤ limit → AreLight limit lits
light_from limit [] small = All-nil (λ (lit : Lit). length lit.word ≤ limit)
light_from limit (lit ∷ lits) small = All-cons (λ (one : Lit). length one.word ≤ limit) lit lits (omega arith) (light_from limit lits (omega arith))

-- each node is light
abbrev EachLight : ℕ → List Node → Type 0
EachLight limit nodes = (number : ℕ) (node : Node) → slice_get nodes number ≡ Some node → AreLight limit node.lits

children_light : (limit first : ℕ) (path : List ℕ) (lits barred conclusions : List Lit) → AreLight limit lits → AreLight limit conclusions → EachLight limit (children_of first path lits barred conclusions)
children_light limit first path lits barred [] light each j x is = absurd (let bad : ⊥ = cc in bad)
children_light limit first path lits barred (lit ∷ more) light each zero x is =
    subst (λ (node : Node). AreLight limit node.lits) (same_some (child first path lits barred lit) x is)
    (All-push (λ (one : Lit). length one.word ≤ limit) lits lit light (All-head (λ (one : Lit). length one.word ≤ limit) lit more each))
children_light limit first path lits barred (lit ∷ more) light each (suc j) x is =
    children_light limit (suc first) path lits (with_lit barred lit) more light (All-tail (λ (one : Lit). length one.word ≤ limit) lit more each) j x is

born_light : (setting : Setting) (board : Board) (node : Node) (event : Event) → IsDue setting board node (lemma_for board node) (cover_for setting.mode board node) event → AreLight setting.limits.weight node.lits → EachLight setting.limits.weight (born board node event)
born_light setting board node (Extend number inst) due light j x is =
    children_light setting.limits.weight (length board.nodes) node.path node.lits node.barred inst.conclusions light (light_from setting.limits.weight inst.conclusions due.4) j x is
born_light setting board node (Reject number inst) due light j x is = absurd (let bad : ⊥ = cc in bad)
born_light setting board node (ByLemma number which) due light j x is = absurd (let bad : ⊥ = cc in bad)
born_light setting board node (Saturated number) due light j x is = absurd (let bad : ⊥ = cc in bad)
born_light setting board node (CoveredBy number by) due light j x is = absurd (let bad : ⊥ = cc in bad)
born_light setting board node (TooHeavy number inst) due light j x is = absurd (let bad : ⊥ = cc in bad)

moved_light : (setting : Setting) (board : Board) (event : Event) (lawful : IsLawful setting board event) → EachLight setting.limits.weight board.nodes → EachLight setting.limits.weight (moved board lawful.node event).nodes
moved_light setting board event lawful each number x is =
    let node = lawful.node in
    let light = each (node_of event) node lawful.is in
    elim (whence board.nodes (born board node event) (node_of event) node (settled board node event) number x lawful.is is) [
      | inl (at, same) ↦
          subst (λ (one : Node). AreLight setting.limits.weight one.lits) (sym same) (subst (AreLight setting.limits.weight) (sym (settled_keeps board node event).lits) light)
      | inr (inl (apart, old)) ↦ each number x old
      | inr (inr (j, at, there)) ↦ born_light setting board node event lawful.due light j x there
    ]

set_light : (limit : ℕ) (nodes : List Node) (number : ℕ) (node after : Node) → slice_get nodes number ≡ Some node → after.lits ≡ node.lits → EachLight limit nodes → EachLight limit (slice_set nodes number after)
set_light limit [] number node after at same each k x is = absurd (let bad : ⊥ = cc in bad)
set_light limit (first ∷ nodes) zero node after at same each zero x is =
    subst (λ (one : Node). AreLight limit one.lits) (same_some after x is) (subst (AreLight limit) (sym same) (each zero node at))
set_light limit (first ∷ nodes) zero node after at same each (suc k) x is = each (suc k) x is
set_light limit (first ∷ nodes) (suc number) node after at same each zero x is = each zero x is
set_light limit (first ∷ nodes) (suc number) node after at same each (suc k) x is = set_light limit nodes number node after at same (λ j one there. each (suc j) one there) k x is

closed_light : (limit : ℕ) (setting : Setting) (number : ℕ) (board : Board) → EachLight limit board.nodes → EachLight limit (closed_at setting board number).nodes
unfolding closed_at
closed_light limit setting number board each = by (slice_get board.nodes number) refl
  where
    close : (node : Node) → slice_get board.nodes number ≡ Some node → (pair : Option Pair) → EachLight limit (closed_by setting board number node pair).nodes
    close node at None = each
    close node at (Some pair) = set_light limit board.nodes number node (record node { own = Some pair }) at refl each

    by : (node : Option Node) → slice_get board.nodes number ≡ node → EachLight limit (closed_node setting board number node).nodes
    by None at = each
    by (Some node) at = close node at (due board.nodes node)

opening_light : (limit : ℕ) → EachLight limit opening.nodes
opening_light limit zero x is =
    subst (λ (one : Node). AreLight limit one.lits) (same_some (record { path = 0 ∷ []; lits = []; barred = []; state = Open; own = None }) x is) (All-nil (λ (lit : Lit). length lit.word ≤ limit))
opening_light limit (suc k) x is = absurd (let bad : ⊥ = cc in bad)

pub literals_light : (setting : Setting) (board : Board) → IsProblem setting.problem → IsReplay setting board → (number : ℕ) (node : Node) → slice_get board.nodes number ≡ Some node → AreLight setting.limits.weight node.lits
literals_light setting board real replay =
    let limit = setting.limits.weight in
    let P : Board → Type 0 = λ one. EachLight limit one.nodes in
    subst P replay.is (replay_keeps setting P
    (λ one event each lawful. subst P (sym (effect_is setting one event lawful.node lawful.is))
    (climb_keeps setting P (λ number two kept. closed_light limit setting number two kept) lawful.node.path (moved one lawful.node event) (moved_light setting one event lawful each)))
    replay.events opening (opening_light limit) replay.lawful)
