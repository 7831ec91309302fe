-- In mode Refute no node is covered, so a board with nothing left to do is closed or has a model.
use Rattle.std.proofs.Common.{◌≡◌, ℕ, zero, suc, ◌+◌, ◌<◌, Bool, true, false, true≢false, not, cond, nat_le, length, List, [], ◌∷◌, slice_get, slice_set, Option, Some, None, position, refl, sym, ap, subst, ◌∙◌, inl, inr, arith}
use Rattle.std.proofs.lemmas.Bool.{cases_eq, lt-ltb}
use Rattle.std.specs.List.{position_or_len}
use Rattle.mg_word.specs.Facts.{IsProblem}
use Rattle.mg_meaning.specs.Folding.{Pair}
use Rattle.tree_board.specs.declared.event.Event.{Event}
use Rattle.tree_board.specs.declared.event.Event.TheVariants.{Extend, Reject, ByLemma, Saturated, Covered as CoveredBy, Heavy as TooHeavy}
use Rattle.tree_board.specs.declared.mode.Mode.{Mode}
use Rattle.tree_board.specs.declared.mode.Mode.TheVariants.{Refute}
use Rattle.tree_board.specs.declared.mode.BoardState.TheVariants.{Complete}
use Rattle.case_split.specs.declared.child.Closure.{Closure}
use Rattle.tree_board.specs.Boards.{Board, opening, count, is_closed}
use Rattle.tree_board.specs.Children.{state_at_birth}
use Rattle.tree_board.specs.Closings.{due, closed_by, closed_node, closed_at}
use Rattle.tree_board.specs.Effects.{settled, born, moved}
use Rattle.tree_board.specs.Events.{node_of}
use Rattle.tree_board.specs.Lawful.{lemma_for, cover_for, IsDue, IsLawful, IsReplay}
use Rattle.tree_board.specs.NodeStates.{NodeState, Open, Split, Rejected, Settled, Shut, Found, Covered, Heavy, is_found, is_open, is_heavy, is_live}
use Rattle.tree_board.specs.Nodes.{Node}
use Rattle.tree_board.specs.Settings.{Setting}
use Rattle.tree_board.specs.Standing.{some_open, some_heavy, model_of, standing_by, state_of}
use Rattle.tree_board.proofs.Places.{same_some, whence, get_set_same, get_set_other}
use Rattle.tree_board.proofs.Moving.{born_known}
use Rattle.tree_board.proofs.Covering.{complete_finished}
use Rattle.tree_board.proofs.Climbing.{dead_is_closed}
use Rattle.tree_board.proofs.Replays.{climb_keeps, effect_is, replay_keeps}

abbrev NoneCovered : Board → Type 0
NoneCovered board = (k : ℕ) (node : Node) (by : ℕ) → slice_get board.nodes k ≡ Some node → node.state ≡ Covered by → ⊥

refute_covers_none : (mode : Mode) (board : Board) (node : Node) (by : ℕ) → mode ≡ Refute → cover_for mode board node ≡ Some by → ⊥
refute_covers_none mode board node by is e =
    let none : cover_for mode board node ≡ None = ap (λ one. cover_for one board node) is in
    let bad : ⊥ = cc in bad

settled_not_covered : (setting : Setting) (board : Board) → setting.mode ≡ Refute → (node : Node) (event : Event) → IsDue setting board node (lemma_for board node) (cover_for setting.mode board node) event → (by : ℕ) → (settled board node event).state ≡ Covered by → ⊥
settled_not_covered setting board refute node (Extend number inst) due by e = let bad : ⊥ = cc in bad
settled_not_covered setting board refute node (Reject number inst) due by e = let bad : ⊥ = cc in bad
settled_not_covered setting board refute node (ByLemma number which) due by e = let bad : ⊥ = cc in bad
settled_not_covered setting board refute node (Saturated number) due by e = let bad : ⊥ = cc in bad
settled_not_covered setting board refute node (CoveredBy number cover) due by e = refute_covers_none setting.mode board node cover refute due.1
settled_not_covered setting board refute node (TooHeavy number inst) due by e = let bad : ⊥ = cc in bad

born_not_covered : (closure : Option Closure) (by : ℕ) → state_at_birth closure ≡ Covered by → ⊥
born_not_covered None by e = cc
born_not_covered (Some closure) by e = cc

moved_none_covered : (setting : Setting) (board : Board) → setting.mode ≡ Refute → NoneCovered board → (event : Event) (lawful : IsLawful setting board event) → NoneCovered (moved board lawful.node event)
moved_none_covered setting board refute none event lawful k x by at state = elim (whence board.nodes (born board lawful.node event) (node_of event) lawful.node (settled board lawful.node event) k x lawful.is at) [
  | inl (same, new) ↦ settled_not_covered setting board refute lawful.node event lawful.due by (ap (λ (n : Node). n.state) (sym new) ∙ state)
  | inr (inl (apart, old)) ↦ none k x by old state
  | inr (inr (j, place, there)) ↦ let known = born_known board lawful.node event j x there in born_not_covered known.state.0 by (sym known.state.1 ∙ state)
]

closed_none_covered : (setting : Setting) (board : Board) (number : ℕ) → NoneCovered board → NoneCovered (closed_at setting board number)
unfolding closed_at
closed_none_covered setting board number none = by (slice_get board.nodes number) refl
  where
    close : (node : Node) → slice_get board.nodes number ≡ Some node → (pair : Option Pair) → NoneCovered (closed_by setting board number node pair)
    close node at None = none
    close node at (Some pair) = λ k x cover is state. elim (cases_eq k number) [
      | inl same ↦
          let after : Node = record node { own = Some pair } in
          let new : x ≡ after = same_some x after (sym is ∙ (ap (slice_get (slice_set board.nodes number after)) same ∙ get_set_same board.nodes number node after at)) in
          none number node cover at (ap (λ (n : Node). n.state) (sym new) ∙ state)
      | inr apart ↦ none k x cover (sym (get_set_other board.nodes number k (record node { own = Some pair }) apart) ∙ is) state
    ]

    by : (node : Option Node) → slice_get board.nodes number ≡ node → NoneCovered (closed_node setting board number node)
    by None at = none
    by (Some node) at = close node at (due board.nodes node)

opening_none_covered : NoneCovered opening
opening_none_covered zero node by at state =
    let same = same_some (record { path = 0 ∷ []; lits = []; barred = []; state = Open; own = None }) node at in
    let bad : Open ≡ Covered by = ap (λ (n : Node). n.state) same ∙ state in
    let no_way : ⊥ = cc in no_way
opening_none_covered (suc k) node by at state = absurd (let bad : ⊥ = cc in bad)

pub none_covered : (setting : Setting) (board : Board) → setting.mode ≡ Refute → IsReplay setting board → NoneCovered board
none_covered setting board refute replay = subst NoneCovered replay.is (replay_keeps setting NoneCovered
    (λ one event holds lawful. subst NoneCovered (sym (effect_is setting one event lawful.node lawful.is)) (climb_keeps setting NoneCovered (λ number two kept. closed_none_covered setting two number kept) lawful.node.path (moved one lawful.node event) (moved_none_covered setting one refute holds event lawful)))
    replay.events opening opening_none_covered replay.lawful)

-- where an element passes, the first that does has a place
passing_place : (test : Node → Bool) (nodes : List Node) (k : ℕ) (node : Node) → slice_get nodes k ≡ Some node → test node ≡ true → position_or_len test nodes < length nodes
passing_place test [] k node at passes = absurd (let bad : ⊥ = cc in bad)
passing_place test (first ∷ nodes) zero node at passes =
    let here : test first ≡ true = ap test (same_some first node at) ∙ passes in
    let none : position_or_len test (first ∷ nodes) ≡ 0 = ap (λ t. cond (not t) (1 + position_or_len test nodes) 0) here in
    omega (arith, none)
passing_place test (first ∷ nodes) (suc k) node at passes = by (test first) (passing_place test nodes k node at passes)
  where
    by : (t : Bool) → position_or_len test nodes < length nodes → cond (not t) (1 + position_or_len test nodes) 0 < length (first ∷ nodes)
    by true less = omega arith
    by false less = omega (arith, less)

pub none_passes : (test : Node → Bool) (nodes : List Node) → position test nodes ≡ None → (k : ℕ) (node : Node) → slice_get nodes k ≡ Some node → test node ≡ false
none_passes test nodes none k node at = by (test node) refl
  where
    by : (t : Bool) → test node ≡ t → t ≡ false
    by false is = refl
    by true is =
        let there = lt-ltb (position_or_len test nodes) (length nodes) (passing_place test nodes k node at is) in
        let found : position test nodes ≡ Some (position_or_len test nodes) = ap (λ t. cond t (Some (position_or_len test nodes)) None) there in
        let bad : ⊥ = cc in
        absurd bad

complete_parts : (closed : Bool) (model : Option ℕ) (opened spent heavy : Bool) → standing_by closed model opened spent heavy ≡ Complete → (closed ≡ false) × (model ≡ None)
complete_parts true model opened spent heavy e = cc
complete_parts false (Some node) opened spent heavy e = cc
complete_parts false None true true heavy e = cc
complete_parts false None true false heavy e = cc
complete_parts false None false spent true e = cc
complete_parts false None false spent false e = (refl, refl)

pub refute_is_never_complete : (setting : Setting) (board : Board) → IsProblem setting.problem → IsReplay setting board → setting.mode ≡ Refute → state_of setting board ≡ Complete → ⊥
refute_is_never_complete setting board real replay refute complete =
    let finished = complete_finished setting board complete in
    let parts = complete_parts (is_closed board 0) (model_of setting.mode board) (some_open board) (nat_le setting.limits.budget (count board)) (some_heavy board) complete in
    let no_model : position (λ (node : Node). is_found node.state) board.nodes ≡ None = sym (ap (λ mode. model_of mode board) refute) ∙ parts.1 in
    let dead : (k : ℕ) (node : Node) → slice_get board.nodes k ≡ Some node → is_live node.state ≡ false = λ k node at. by k node at node.state refl (finished k node at)
    (none_passes (λ (n : Node). is_found n.state) board.nodes no_model k node at) in
    true≢false (sym (dead_is_closed setting board real replay dead) ∙ parts.0)
  where
    by : (k : ℕ) (node : Node) → slice_get board.nodes k ≡ Some node → (state : NodeState) → node.state ≡ state → (is_open node.state ≡ false) × (is_heavy node.state ≡ false) → is_found node.state ≡ false → is_live node.state ≡ false
    by k node at Open is finished unfound = absurd (true≢false (sym (ap is_open is) ∙ finished.0))
    by k node at Found is finished unfound = absurd (true≢false (sym (ap is_found is) ∙ unfound))
    by k node at (Heavy inst) is finished unfound = absurd (true≢false (sym (ap is_heavy is) ∙ finished.1))
    by k node at (Covered cover) is finished unfound = absurd (none_covered setting board refute replay k node cover at is)
    by k node at (Split inst first) is finished unfound = ap is_live is
    by k node at (Rejected inst) is finished unfound = ap is_live is
    by k node at (Settled lemma) is finished unfound = ap is_live is
    by k node at (Shut closure) is finished unfound = ap is_live is
