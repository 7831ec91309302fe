-- The levels that stand on an arena.
use Rattle.std.specs.Prelude.{ℕ, ◌≤◌, List, All, None, map, length}
use Rattle.std.specs.List.Sorted.{IsNonDecreasingBy}
use Rattle.level_heap.specs.declared.node.HeapNode.{HeapNode}
use Rattle.level_heap.specs.declared.level.Level.{Level}
use Rattle.level_heap.specs.Trees.{Tree}
use Rattle.level_heap.specs.Arenas.{tree_at, IsBelow, IsArena}

-- below the first level nothing is
abbrev pub no_level : Level
no_level = record { root = None; end = 0 }

abbrev pub trees_of : List HeapNode → List Level → List Tree
trees_of nodes levels = map (λ level. tree_at nodes level.root) levels

-- the level's heap lies within its nodes, and these are among the first so many
pub record IsLevel (count : ℕ) (level : Level) : Type 0 where
  pub root : IsBelow level.root level.end
  pub end : level.end ≤ count

-- each level stands on nodes of its own and on those of the levels below it
pub record AreLevels (nodes : List HeapNode) (levels : List Level) : Type 0 where
  pub arena : IsArena nodes
  pub rising : IsNonDecreasingBy (λ level. level.end) levels
  pub each : All (IsLevel (length nodes)) levels
