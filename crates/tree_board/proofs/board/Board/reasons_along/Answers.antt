use Rattle.std.proofs.Common.{[], slice_get, subst, sym, ap, ◌∙◌}
use Rattle.std.proofs.lemmas.Result.{IfOk-weaker}
use Rattle.tree_board.specs.CellMoves.{AreReasons}
use Rattle.tree_board.specs.Events.{node_of}
use Rattle.tree_board.specs.Paths.{reasons_from}
use Rattle.tree_board.specs.Searches.{board_of, setting_of}
use Rattle.tree_board.proofs.AlongPaths.{reasons_there}
use Rattle.tree_board.proofs.Replays.{replay_board}
use Rattle.tree_board.proofs.board.Board.reasons_along.Goals as goal

pub returns-in-Extend : goal.returns-in-Extend
returns-in-Extend c =
    IfOk-weaker c.reasons.result _ _ (λ reasons is. subst (λ event. AreReasons (board_of c.args.self.now) event reasons.items) (sym c.in-Extend.is) (λ node at.
    is ∙ (ap (λ lits. reasons_from c.args.path.now.branch.lits c.args.path.now.barred [] lits) c.as_slice.ensures
    ∙ reasons_there c.args.self.now (replay_board (setting_of c.args.self.now) (board_of c.args.self.now) c.requires.known.real c.requires.known.replay) c.args.path.now c.requires.leads node (ap (slice_get (board_of c.args.self.now).nodes) (c.requires.here ∙ ap node_of c.in-Extend.is) ∙ at) _)))
    c.reasons.ensures
