use Rattle.std.proofs.Common.{arith}
use Rattle.tree_board.proofs.TreeSteps.{reached_parent, reached_root, reached_sibling, reached_within, seen_few, way_up_begins}
use Rattle.tree_board.proofs.board.Board.behind.Goals as goal

pub up-init : goal.up-init
up-init c = way_up_begins _ _ c.self.view_is _ _ _ _ _ c.self.invariant _ c.as_slice-cells.ensures.value _ c.requires

pub sibling_at-requires-clause-there : goal.sibling_at-requires-clause-there
sibling_at-requires-clause-there c = reached_within _ _ c.self.view_is _ _ _ _ _ c.self.invariant _ c.as_slice-cells.ensures.value _ _ c.up.invariant

pub sibling_at-requires-clause-size : goal.sibling_at-requires-clause-size
sibling_at-requires-clause-size c = let few = seen_few _ _ c.self.view_is _ _ _ _ _ c.self.invariant _ c.as_slice-cells.ensures.value in omega (arith, few)

pub returns-in-Some : goal.returns-in-Some
returns-in-Some c = reached_sibling _ _ c.self.view_is _ _ _ _ _ c.self.invariant _ c.as_slice-cells.ensures.value _ _ c.up.invariant c.up-test.true _ c.in-Some.ensures

pub parent_at-at-requires : goal.parent_at-at-requires
parent_at-at-requires c = reached_within _ _ c.self.view_is _ _ _ _ _ c.self.invariant _ c.as_slice-cells.ensures.value _ _ c.up.invariant

pub up-smaller : goal.up-smaller
up-smaller c = (reached_parent _ _ c.self.view_is _ _ _ _ _ c.self.invariant _ c.as_slice-cells.ensures.value _ _ c.up.invariant c.up-test.true c.in-None.ensures _ c.parent_at-at.ensures).1

pub up-preserved : goal.up-preserved
up-preserved c = (reached_parent _ _ c.self.view_is _ _ _ _ _ c.self.invariant _ c.as_slice-cells.ensures.value _ _ c.up.invariant c.up-test.true c.in-None.ensures _ c.parent_at-at.ensures).0

pub returns : goal.returns
returns c = reached_root _ _ c.self.view_is _ _ _ _ _ c.self.invariant _ c.as_slice-cells.ensures.value _ _ c.up.invariant c.up-test.false
