-- What holds of all heaps.
use Rattle.std.specs.Prelude.{◌≡◌, ℕ, Contains}
use Rattle.std.specs.declared.cmp.Ordering.{Ordering}
use Rattle.level_heap.specs.Trees.{Tree, members, IsHeap}

-- a heap by one order is one by each other that says the same of its items
abbrev pub HeapsStay : Type 0
HeapsStay = (order other : ℕ → ℕ → Ordering) (tree : Tree) → ((a b : ℕ) → Contains (members tree) a → Contains (members tree) b → other a b ≡ order a b) → IsHeap order tree → IsHeap other tree
