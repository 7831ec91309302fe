-- How nodes stand, as callers see it.
use Rattle.std.specs.Prelude.{Bool, true, false, is_some}
use Rattle.tree_board.specs.declared.node.NodeKind.{NodeKind}
use Rattle.tree_board.specs.declared.node.NodeKind.TheVariants.{Open as OpenKind, Split as SplitKind, Closed, Found as FoundKind, Covered as CoveredKind, Heavy as HeavyKind}
use Rattle.tree_board.specs.NodeStates.{NodeState, Open, Split, Rejected, Settled, Shut, Found, Covered, Heavy}
use Rattle.tree_board.specs.Nodes.{Node}

-- of a node that has no lemma of its own, and so is not closed, it goes by the state
abbrev pub kind_by : Bool → NodeState → NodeKind
kind_by true state = Closed
kind_by false Open = OpenKind
kind_by false (Split inst first) = SplitKind
kind_by false (Rejected inst) = Closed
kind_by false (Settled lemma) = Closed
kind_by false (Shut closure) = Closed
kind_by false Found = FoundKind
kind_by false (Covered by) = CoveredKind
kind_by false (Heavy inst) = HeavyKind

abbrev pub kind_of : Node → NodeKind
kind_of node = kind_by (is_some node.own) node.state
