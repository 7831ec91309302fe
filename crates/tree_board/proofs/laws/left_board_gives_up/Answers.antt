use Rattle.tree_board.proofs.AloneLaws.{left_gives_up}
use Rattle.tree_board.proofs.laws.left_board_gives_up.Goals as goal

pub returns : goal.returns
returns c = λ setting board real replay refute left. left_gives_up setting real refute board replay left
