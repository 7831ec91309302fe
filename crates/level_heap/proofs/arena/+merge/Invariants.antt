use Rattle.std.proofs.Common.{◌+◌}
use Rattle.level_heap.proofs.Merges.{height_of}
use Rattle.level_heap.proofs.arena.+merge.Given as goal

abbrev pub decreases-merge : goal.decreases-merge
decreases-merge g l = height_of l.a + height_of l.b
