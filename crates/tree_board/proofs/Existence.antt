-- Where the plain tree fits the limits, one worker comes to an end.
use Rattle.std.proofs.Common.{◌≡◌, ℕ, zero, suc, ◌+◌, ◌*◌, ◌≤◌, Bool, true, false, nat_le, List, [], ◌∷◌, length, slice_get, Option, Some, None, refl, sym, ap, subst, ◌∙◌, arith}
use Rattle.std.proofs.lemmas.List.{length-append}
use Rattle.mg_word.specs.Facts.{IsProblem}
use Rattle.mg_meaning.specs.PlainTree.{Plain}
use Rattle.tree_board.specs.declared.event.Event.{Event}
use Rattle.tree_board.specs.declared.mode.Mode.TheVariants.{Refute}
use Rattle.tree_board.specs.declared.mode.BoardState.TheVariants.{Complete}
use Rattle.tree_board.specs.Boards.{Board, opening, count, is_closed}
use Rattle.tree_board.specs.Effects.{effect, replay_from}
use Rattle.tree_board.specs.Events.{node_of}
use Rattle.tree_board.specs.FirstOpen.{first_open}
use Rattle.tree_board.specs.Lawful.{IsLawful, IsReplay}
use Rattle.tree_board.specs.NodeStates.{Open, is_open, is_heavy}
use Rattle.tree_board.specs.Nodes.{Node}
use Rattle.tree_board.specs.Settings.{Setting}
use Rattle.tree_board.specs.Standing.{some_open, some_heavy, model_of, standing_by, state_of}
use Rattle.tree_board.specs.TreeOrder.{IsFirstOpen}
use Rattle.tree_board.specs.WorkerLaws.{IsEnd, IsOneWorker}
use Rattle.tree_board.proofs.Counting.{some_node, open_state, heavy_state, count_is_splits, none_heavy, goes_on}
use Rattle.tree_board.proofs.Plainly.{plain_bounds}
use Rattle.tree_board.proofs.Bounds.{boards_bounded}
use Rattle.tree_board.proofs.Refuting.{refute_is_never_complete}
use Rattle.tree_board.proofs.Replays.{replay_board}
use Rattle.tree_board.proofs.Journals.{replay_goes_on, effect_journal}
use Rattle.tree_board.proofs.Walking.{walk_none, walk_first}

replay_none : (setting : Setting) → replay_from setting opening [] ≡ opening
unfolding replay_from
replay_none setting = refl

-- with an open node, and no closed root and no model, it is no end
not_ended : (spent heavy : Bool) → IsEnd (standing_by false None true spent heavy) → ⊥
not_ended true heavy bad = bad
not_ended false heavy bad = bad

module _ (setting : Setting) (real : IsProblem setting.problem) (refute : setting.mode ≡ Refute) (extends : ℕ) (within : extends ≤ setting.limits.budget) (plain : Plain setting.problem setting.limits.weight [] [] extends) where
  -- no more extensions than the budget
  few : (board : Board) → IsReplay setting board → count board ≤ setting.limits.budget
  few board replay =
      let (root, at, path, lits, barred) = (replay_board setting board real replay).root in
      let own : Plain setting.problem setting.limits.weight root.lits root.barred extends = subst (λ all. Plain setting.problem setting.limits.weight all root.barred extends) (sym lits) (subst (λ all. Plain setting.problem setting.limits.weight [] all extends) (sym barred) plain) in
      let bound = (plain_bounds setting board real replay 0 root at extends own).splits in
      let same = count_is_splits setting board real replay in
      omega (arith, bound, same, within)

  -- an event at the first open node, where some node is open
  next : (board : Board) → IsReplay setting board → some_open board ≡ true → (event : Event) × IsLawful setting board event × IsFirstOpen board (node_of event)
  next board replay some =
      let (number, node, at, test) = some_node (λ (one : Node). is_open one.state) board.nodes some in
      by (first_open board) refl number node at (open_state node.state test)
    where
      by : (found : Option ℕ) → first_open board ≡ found → (number : ℕ) (node : Node) → slice_get board.nodes number ≡ Some node → node.state ≡ Open → (event : Event) × IsLawful setting board event × IsFirstOpen board (node_of event)
      by None e number node at opened = absurd (walk_none setting board (replay_board setting board real replay) e number node at opened)
      by (Some k) e number node at opened =
          let first = (walk_first setting board real replay k).0 e in
          let has = (goes_on setting board real replay extends within plain).event k first.node first.is first.opened in
          (has.event, has.lawful, subst (IsFirstOpen board) (sym has.here) first)

  goes_to_end : (fuel : ℕ) (board : Board) → IsReplay setting board → 2 + 64 * setting.limits.budget ≤ length board.journal + fuel → (events : List Event) × IsOneWorker setting board events
  goes_to_end zero board replay long =
      let bounded = boards_bounded setting board real replay in
      let most = few board replay in
      absurd (omega (arith, bounded.nodes, bounded.events, most, long))
  goes_to_end (suc fuel) board replay long = by (is_closed board 0) refl (model_of setting.mode board) refl (some_open board) refl (some_heavy board) refl
      (λ event lawful. goes_to_end fuel (effect setting board event) (replay_goes_on setting board event replay lawful)
      (let longer = ap length (effect_journal setting board event lawful) ∙ length-append board.journal (event ∷ []) in omega (arith, longer, long)))
    where
      spent : Bool
      spent = nat_le setting.limits.budget (count board)

      state_is : (closed : Bool) → is_closed board 0 ≡ closed → (model : Option ℕ) → model_of setting.mode board ≡ model → (opened : Bool) → some_open board ≡ opened → state_of setting board ≡ standing_by closed model opened (nat_le setting.limits.budget (count board)) (some_heavy board)
      state_is closed p model q opened r =
          ap (λ one. standing_by one (model_of setting.mode board) (some_open board) (nat_le setting.limits.budget (count board)) (some_heavy board)) p
          ∙ (ap (λ one. standing_by closed one (some_open board) (nat_le setting.limits.budget (count board)) (some_heavy board)) q
          ∙ ap (λ one. standing_by closed model one (nat_le setting.limits.budget (count board)) (some_heavy board)) r)

      by : (closed : Bool) → is_closed board 0 ≡ closed → (model : Option ℕ) → model_of setting.mode board ≡ model → (opened : Bool) → some_open board ≡ opened → (heavy : Bool) → some_heavy board ≡ heavy
          → ((event : Event) → IsLawful setting board event → (events : List Event) × IsOneWorker setting (effect setting board event) events) → (events : List Event) × IsOneWorker setting board events
      by true p model q opened r heavy s go = ([], subst IsEnd (sym (state_is true p model q opened r)) tt)
      by false p (Some node) q opened r heavy s go = ([], subst IsEnd (sym (state_is false p (Some node) q opened r)) tt)
      by false p None q true r heavy s go =
          let (event, lawful, first) = next board replay r in
          let (events, rest) = go event lawful in
          (event ∷ events, ((λ ended. not_ended (nat_le setting.limits.budget (count board)) (some_heavy board) (subst IsEnd (state_is false p None q true r) ended)), lawful, first, rest))
      by false p None q false r true s go =
          let (number, node, at, test) = some_node (λ (one : Node). is_heavy one.state) board.nodes s in
          let (inst, state) = heavy_state node.state test in
          absurd (none_heavy setting board real replay number node inst at state extends plain)
      by false p None q false r false s go =
          absurd (refute_is_never_complete setting board real replay refute (state_is false p None q false r ∙ (ap (λ one. standing_by false None false (nat_le setting.limits.budget (count board)) one) s ∙ complete (nat_le setting.limits.budget (count board)))))
        where
          complete : (test : Bool) → standing_by false None false test false ≡ Complete
          complete true = refl
          complete false = refl

  pub one_worker_exists : (events : List Event) × IsOneWorker setting opening events
  one_worker_exists = goes_to_end (2 + 64 * setting.limits.budget) opening (record { events = []; lawful = tt; is = replay_none setting }) (omega arith)
