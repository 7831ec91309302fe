use Rattle.tree_board.proofs.CaseReasons.{reasons_by}
use Rattle.tree_board.proofs.board.Board.append.Goals as goal

pub append_by-requires-clause-reasons : goal.append_by-requires-clause-reasons
append_by-requires-clause-reasons c = reasons_by c.args.self.now c.args.event _ c.in_ok-cases.ensures _ c.in_ok-reasons.ensures
