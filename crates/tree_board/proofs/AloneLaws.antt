-- In mode Refute one worker ends, or gives up at a limit.
use Rattle.std.proofs.Common.{◌≡◌, ℕ, Bool, true, false, true≢false, nat_le, List, [], ◌∷◌, Option, Some, None, refl, sym, ap, subst, ◌∙◌, ◌⊎◌, inl, inr, arith}
use Rattle.mg_word.specs.Facts.{IsProblem}
use Rattle.tree_board.specs.declared.event.Event.{Event}
use Rattle.tree_board.specs.declared.mode.BoardState.{BoardState}
use Rattle.tree_board.specs.declared.mode.BoardState.TheVariants.{Closed, Model, Complete, Running, Blocked}
use Rattle.tree_board.specs.declared.mode.Limit.{Limit}
use Rattle.tree_board.specs.declared.mode.Mode.TheVariants.{Refute}
use Rattle.tree_board.specs.Alone.{FitsPlain, IsAlone, IsLeft}
use Rattle.tree_board.specs.AloneLaws.{IsGivenUp}
use Rattle.tree_board.specs.Boards.{Board, opening, count, is_closed}
use Rattle.tree_board.specs.Effects.{effect, replay_from}
use Rattle.tree_board.specs.Lawful.{IsReplay}
use Rattle.tree_board.specs.NodeStates.{is_found}
use Rattle.tree_board.specs.Nodes.{Node}
use Rattle.tree_board.specs.Settings.{Setting}
use Rattle.tree_board.specs.Standing.{some_open, some_heavy, model_of, standing_by, state_of}
use Rattle.tree_board.specs.WorkerLaws.{IsEnd, IsOneWorker}
use Rattle.tree_board.proofs.Counting.{stuck_exceeds}
use Rattle.tree_board.proofs.Journals.{replay_goes_on}
use Rattle.tree_board.proofs.Refuting.{none_passes, refute_is_never_complete}

replay_none : (setting : Setting) → replay_from setting opening [] ≡ opening
unfolding replay_from
replay_none setting = refl

blocked_has_none : (closed : Bool) (model : Option ℕ) (opened spent heavy : Bool) (limit : Limit) → standing_by closed model opened spent heavy ≡ Blocked limit → model ≡ None
blocked_has_none true model opened spent heavy limit e = cc
blocked_has_none false (Some node) opened spent heavy limit e = cc
blocked_has_none false None opened spent heavy limit e = refl

module _ (setting : Setting) (real : IsProblem setting.problem) (refute : setting.mode ≡ Refute) where
  pub left_gives_up : (board : Board) → IsReplay setting board → IsLeft setting board → IsEnd (state_of setting board) ⊎ IsGivenUp setting board
  left_gives_up board replay left = by (state_of setting board) refl
    where
      by : (state : BoardState) → state_of setting board ≡ state → IsEnd (state_of setting board) ⊎ IsGivenUp setting board
      by Closed e = inl (subst IsEnd (sym e) tt)
      by (Model node) e = inl (subst IsEnd (sym e) tt)
      by Complete e = absurd (refute_is_never_complete setting board real replay refute e)
      by Running e = absurd (left.still e)
      by (Blocked limit) e =
          let none = ap (λ mode. model_of mode board) (sym refute) ∙ blocked_has_none (is_closed board 0) (model_of setting.mode board) (some_open board) (nat_le setting.limits.budget (count board)) (some_heavy board) limit e in
          inr (record {
            limit = limit;
            blocked = e;
            gives_up = record {
              board = board;
              replay = replay;
              stuck = left.stuck;
              blocked = e;
              minimal = record {
                rising = refl;
                exact = λ set. (
                  (λ there. absurd (omega (arith, there.1))),
                  (λ (found, minimal). absurd (true≢false (sym (ap is_found found.found) ∙ none_passes (λ (node : Node). is_found node.state) board.nodes none found.number found.node found.is))),
                );
              };
            };
          })

  module _ (fits : FitsPlain setting) where
    is_one : (events : List Event) (board : Board) → IsReplay setting board → IsAlone setting board events → IsOneWorker setting board events
    is_one [] board replay (inl ended) = ended
    is_one [] board replay (inr left) = elim (left_gives_up board replay left) [
      | inl ended ↦ ended
      | inr given ↦ absurd (stuck_exceeds setting board real replay left.stuck given.limit given.blocked fits.extends fits.few fits.plain)
    ]
    is_one (event ∷ events) board replay alone = (alone.0, alone.1, alone.2 (inr fits), is_one events (effect setting board event) (replay_goes_on setting board event replay alone.1) alone.3)

    pub one_alone : (events : List Event) → IsAlone setting opening events → IsOneWorker setting opening events
    one_alone events alone = is_one events opening (record { events = []; lawful = tt; is = replay_none setting }) alone
