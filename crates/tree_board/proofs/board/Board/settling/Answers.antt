use Rattle.std.proofs.Common.{subst, sym}
use Rattle.tree_board.specs.Searches.{board_of, setting_of}
use Rattle.tree_board.specs.Settling.{IsSettling}
use Rattle.tree_board.proofs.Replays.{replay_board}
use Rattle.tree_board.proofs.WatchSettling.{settles}
use Rattle.tree_board.proofs.board.Board.settling.Goals as goal

pub returns : goal.returns
returns c =
    let setting = setting_of c.args.self.now in
    let board = board_of c.args.self.now in
    subst (IsSettling setting board c.args.path.now.node) (sym c.event_of.ensures)
    (settles c.args.self.now (replay_board setting board c.requires.known.real c.requires.known.replay) c.args.path.now c.requires.leads c.requires.sets c.requires.opened c.least.result c.least.ensures)
