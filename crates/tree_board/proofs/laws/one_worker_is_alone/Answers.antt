use Rattle.tree_board.proofs.AloneLaws.{one_alone}
use Rattle.tree_board.proofs.laws.one_worker_is_alone.Goals as goal

pub returns : goal.returns
returns c = one_alone
