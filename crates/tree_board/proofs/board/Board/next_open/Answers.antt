use Rattle.std.proofs.Common.{None, Some}
use Rattle.tree_board.proofs.TreeSteps.{goes_less, walk_ends, walk_goes}
use Rattle.tree_board.proofs.board.Board.next_open.Goals as goal

pub walk-init : goal.walk-init
walk-init c = c.in_ok-at.ensures.goes

pub returns-in_err-at-2 : goal.returns-in_err-at-2
returns-in_err-at-2 c = rw c.from_residual-in_err-at-2.ensures (walk_goes _ _ c.in_ok-at.ensures.known _ _ c.walk.invariant _ c.has_open.ensures c.walk-test.true None c.in_err-at-2.ensures.goes)

pub walk-smaller : goal.walk-smaller
walk-smaller c = goes_less _ _ c.in_ok-at.ensures.known _ _ c.in_ok-at-2.ensures.goes

pub walk-preserved : goal.walk-preserved
walk-preserved c = walk_goes _ _ c.in_ok-at.ensures.known _ _ c.walk.invariant _ c.has_open.ensures c.walk-test.true (Some c.in_ok-at-2.at) c.in_ok-at-2.ensures.goes

pub returns : goal.returns
returns c = walk_ends _ _ c.in_ok-at.ensures.known _ _ c.walk.invariant _ c.has_open.ensures c.walk-test.false
