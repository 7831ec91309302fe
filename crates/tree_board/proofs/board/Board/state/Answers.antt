use Rattle.std.proofs.Common.{ap, nat_le, nat_lt, refl, ◌∙◌}
use Rattle.tree_board.specs.CellStanding.{is_root_closed}
use Rattle.tree_board.specs.Searches.{Search, setting_of, board_of}
use Rattle.tree_board.specs.Standing.{standing_by, state_of}
use Rattle.tree_board.specs.Tallies.{model_in}
use Rattle.tree_board.proofs.Kept.{state_kept}
use Rattle.tree_board.proofs.board.Board.state.Goals as goal

pub returns : goal.returns
returns c =
    c.standing.ensures
    ∙ (ap (λ closed. standing_by closed (model_in c.self.inside.mode c.self.inside.tally.least_found) (nat_lt 0 c.self.inside.tally.opens) (nat_le c.self.inside.limits.budget c.self.inside.tally.extensions) c.self.inside.tally.has_heavy) (c.is_root_closed-is_closed.ensures ∙ ap is_root_closed c.as_slice.ensures.value)
    ∙ (state_kept _ _ _ _ _ _ c.self.invariant _ refl
    ∙ ap (λ (s : Search). state_of (setting_of s) (board_of s)) c.self.view_is))
