use Rattle.std.proofs.Common.{◌≡◌, ◌++◌, take}
use Rattle.proof_tree.specs.DocText.{blocks_lines, text_of}
use Rattle.proof_tree.proofs.writing.push_blocks.Given as goal

abbrev pub invariant-loop-i : goal.invariant-loop-i
invariant-loop-i l = l.into.items ≡ l.fn.into.items ++ text_of l.problem (blocks_lines 1 (take l.i l.blocks))
