use Rattle.std.proofs.Common.{◌≡◌, length, vec_len}
use Rattle.tree_checker.specs.Inside.{pending, AreNested}
use Rattle.tree_checker.proofs.frame.go_back.Given as goal

abbrev pub invariant-loop-frame : goal.invariant-loop-frame
invariant-loop-frame l = record {
  nested : AreNested 0 0 l.frames.items (length l.held) (length l.barred);
  same : pending l.held l.barred l.frames.items ≡ pending l.fn.held l.fn.barred l.fn.frames.items;
}

abbrev pub decreases-loop-frame : goal.decreases-loop-frame
decreases-loop-frame l = vec_len l.frames
