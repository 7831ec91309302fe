use Rattle.std.proofs.Common.{arith}
use Rattle.tree_board.specs.Searches.{board_of, setting_of}
use Rattle.tree_board.proofs.AlongPaths.{is_there, may_go_down, none_long}
use Rattle.tree_board.proofs.Replays.{replay_board}
use Rattle.tree_board.proofs.board.Board.go_down.Goals as goal

pub enter-requires-clause-child : goal.enter-requires-clause-child
enter-requires-clause-child c = (may_go_down c.args.self.now (replay_board (setting_of c.args.self.now) (board_of c.args.self.now) c.requires.known.real c.requires.known.replay) c.args.node c.requires.opened c.down.path c.down.ahead.items c.down.invariant c.in-Some.child c.pop.new.self.items c.in-Some.ensures.items).child_of

pub enter-requires-clause-unshut : goal.enter-requires-clause-unshut
enter-requires-clause-unshut c = (may_go_down c.args.self.now (replay_board (setting_of c.args.self.now) (board_of c.args.self.now) c.requires.known.real c.requires.known.replay) c.args.node c.requires.opened c.down.path c.down.ahead.items c.down.invariant c.in-Some.child c.pop.new.self.items c.in-Some.ensures.items).unshut

pub down-preserved : goal.down-preserved
down-preserved c = (may_go_down c.args.self.now (replay_board (setting_of c.args.self.now) (board_of c.args.self.now) c.requires.known.real c.requires.known.replay) c.args.node c.requires.opened c.down.path c.down.ahead.items c.down.invariant c.in-Some.child c.pop.new.self.items c.in-Some.ensures.items).near c.enter.new.path c.in_ok-enter.ensures.leads c.in_ok-enter.ensures.node

pub returns-clause-node : goal.returns-clause-node
returns-clause-node c = is_there c.args.self.now (replay_board (setting_of c.args.self.now) (board_of c.args.self.now) c.requires.known.real c.requires.known.replay) c.args.node c.down.path c.down.ahead.items c.down.invariant (none_long c.down.ahead.items (omega (arith, c.in_default.ensures.cases.0, c.down.ahead.ok)))
