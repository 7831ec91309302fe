-- What the fields of a level heap stand for, and what they keep.
use Rattle.std.specs.Prelude.{List}
use Rattle.level_heap.specs.declared.heap.LevelHeap.TheInside.{Inside}
use Rattle.level_heap.specs.Trees.{Tree}
use Rattle.level_heap.specs.Levels.{trees_of, AreLevels}

abbrev pub levels_seen : Inside → List Tree
levels_seen heap = trees_of heap.nodes.items heap.levels.items

abbrev pub IsKept : Inside → Type 0
IsKept heap = AreLevels heap.nodes.items heap.levels.items
