-- Heaps as trees of items, which are named by their numbers.
use Rattle.std.specs.Prelude.{◌≡◌, ◌⊎◌, ℕ, ◌-◌, Bool, true, false, List, [], ◌∷◌, ◌++◌, Option, Some, None, IfSome, All, Contains, length, slice_index_or}
use Rattle.std.specs.List.{range_with_len}
use Rattle.std.specs.List.Sorted.{IsPermutation}
use Rattle.std.specs.declared.cmp.Ordering.{Ordering}
use Rattle.std.specs.Ordering.{is_gt}

pub data Tree : Type 0 where
  Empty : Tree
  Node : ℕ → Tree → Tree → Tree

-- the items, the top first
abbrev pub members : Tree → List ℕ
members Empty = []
members (Node item left right) = item ∷ (members left ++ members right)

-- the item stands before all of these or beside them
abbrev pub IsFirst : (ℕ → ℕ → Ordering) → ℕ → List ℕ → Type 0
IsFirst order item items = All (λ other. is_gt (order item other) ≡ false) items

-- each item stands before those below it, or beside them
abbrev pub IsHeap : (ℕ → ℕ → Ordering) → Tree → Type 0
IsHeap order Empty = Unit {0}
IsHeap order (Node item left right) = IsFirst order item (members left ++ members right) × IsHeap order left × IsHeap order right

abbrev pub top_of : Tree → Option ℕ
top_of Empty = None
top_of (Node item left right) = Some item

-- one of these items, and first of them
pub record IsLeast (order : ℕ → ℕ → Ordering) (items : List ℕ) (item : ℕ) : Type 0 where
  pub member : Contains items item
  pub first : IsFirst order item items

-- the last level; below the first one nothing is
abbrev pub last_of : List Tree → Tree
last_of levels = slice_index_or levels (length levels - 1) Empty

-- the numbers from the first on, up to the end
abbrev pub numbers_between : ℕ → ℕ → List ℕ
numbers_between first end = range_with_len first (end - first)

-- a heap of the old tree's items and of the added ones, but for some dead items that were dropped
pub record IsNext (order : ℕ → ℕ → Ordering) (is_dead : ℕ → Bool) (old : Tree) (added : List ℕ) (new : Tree) : Type 0 where
  pub heap : IsHeap order new
  pub dropped : List ℕ
  pub dead : All (λ item. is_dead item ≡ true) dropped
  pub same : IsPermutation (members old ++ added) (dropped ++ members new)

-- no dead item is the top
abbrev pub IsAlive : (ℕ → Bool) → Tree → Type 0
IsAlive is_dead tree = IfSome (top_of tree) (λ item. is_dead item ≡ false)

-- a heap of the items of two others
pub record IsMerged (order : ℕ → ℕ → Ordering) (a b merged : Tree) : Type 0 where
  pub heap : IsHeap order merged
  pub same : IsPermutation (members a ++ members b) (members merged)

-- the tree of an item above these two, whichever is on the left
abbrev pub IsJoin : ℕ → Tree → Tree → Tree → Type 0
IsJoin item a b joined = (joined ≡ Node item a b) ⊎ (joined ≡ Node item b a)

-- the top of the first tree stands before all of the second or beside them
abbrev pub IsAhead : (ℕ → ℕ → Ordering) → Tree → Tree → Type 0
IsAhead order Empty other = Unit {0}
IsAhead order (Node item left right) other = IsFirst order item (members other)
