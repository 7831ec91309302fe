use Rattle.std.proofs.Common.{◌∙◌}
use Rattle.std.proofs.lemmas.Result.{IfOk-weaker}
use Rattle.tree_board.specs.Searches.{board_of, setting_of}
use Rattle.tree_board.proofs.AlongPaths.{leads_root}
use Rattle.tree_board.proofs.Replays.{replay_board}
use Rattle.tree_board.proofs.board.Board.root_path.Goals as goal

pub returns : goal.returns
returns c =
    IfOk-weaker c.new.result _ _ (λ path at. leads_root c.args.self.now (replay_board (setting_of c.args.self.now) (board_of c.args.self.now) c.requires.real c.requires.replay) _ (c.in_ok-problem.ensures.cases ∙ c.problem.ensures) path at)
    c.new.ensures
