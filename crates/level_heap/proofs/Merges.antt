-- Merges of heaps in an arena.
use Rattle.std.proofs.Common.{◌≡◌, ℕ, zero, suc, ◌+◌, ◌-◌, ◌<◌, ◌≤◌, Bool, true, false, List, [], ◌∷◌, ◌++◌, Option, Some, None, length, get_or, sym, ap, subst, ◌∙◌, arith, inl, inr}
use Rattle.std.proofs.lemmas.List.{get_or_default, append-nil}
use Rattle.std.proofs.lemmas.List.Elements.{All-nil}
use Rattle.std.proofs.lemmas.List.Sorted.{length_permutation}
use Rattle.std.specs.Cmp.{IsTotalOrder}
use Rattle.std.specs.List.{range_with_len}
use Rattle.std.specs.declared.cmp.Ordering.{Ordering}
use Rattle.std.specs.Ordering.{is_gt}
use Rattle.level_heap.specs.declared.node.HeapNode.{HeapNode}
use Rattle.level_heap.specs.Trees.{Tree, Empty, Node, members, numbers_between, IsFirst, IsHeap, IsAhead, IsJoin, IsMerged, IsNext, IsAlive}
use Rattle.level_heap.specs.Arenas.{tree_at, IsBelow, IsArena, Grows, IsChoice}
use Rattle.level_heap.proofs.Heaps.{first_of_heap, merged_none, merged_turned, merged_step, single_heap}
use Rattle.level_heap.proofs.Nexts.{next_same, next_then, next_merged, next_joined, next_untopped}
use Rattle.level_heap.proofs.ArenaTrees.{tree_at-none, tree_at-node, tree_at-grown, leads_left}

-- how far down a link can lead
abbrev pub height_of : Option ℕ → ℕ
height_of None = 0
height_of (Some at) = at + 1

pub height-below : (link : Option ℕ) (count : ℕ) → IsBelow link count → height_of link ≤ count
height-below None count below = omega arith
height-below (Some at) count below = omega arith

-- the numbers up to the next one
pub numbers-more : (first at : ℕ) → first ≤ at → numbers_between first (at + 1) ≡ numbers_between first at ++ at ∷ []
numbers-more first at le = ap (range_with_len first) (let e : at + 1 - first ≡ suc (at - first) = omega arith in e) ∙ by first (at - first) at (omega arith)
  where
    by : (first count at : ℕ) → first + count ≡ at → range_with_len first (suc count) ≡ range_with_len first count ++ at ∷ []
    by first zero at is = ap (λ one. one ∷ []) (omega (arith, is))
    by first (suc count) at is = ap (λ rest. first ∷ rest) (by (first + 1) count at (omega (arith, is)))

module _ (order : ℕ → ℕ → Ordering) where
  -- the tops as they are read from the nodes
  pub ahead_by_items : IsTotalOrder order → (nodes : List HeapNode) (a b : ℕ) (d e : HeapNode) → IsArena nodes → a < length nodes → b < length nodes → IsHeap order (tree_at nodes (Some b))
      → is_gt (order (get_or nodes a d).item (get_or nodes b e).item) ≡ false → IsAhead order (tree_at nodes (Some a)) (tree_at nodes (Some b))
  ahead_by_items total nodes a b d e arena a_there b_there heap before =
      let one = get_or nodes a d in
      let other = get_or nodes b e in
      let one_tree = tree_at-node nodes a one arena a_there (get_or_default nodes a d one a_there) in
      let other_tree = tree_at-node nodes b other arena b_there (get_or_default nodes b e other b_there) in
      let first = first_of_heap order total one.item other.item (tree_at nodes other.left) (tree_at nodes other.right) before (subst (IsHeap order) other_tree heap) in
      subst (λ tree. IsAhead order tree (tree_at nodes (Some b))) (sym one_tree) (subst (λ tree. IsFirst order one.item (members tree)) (sym other_tree) first)

  -- what holds of both nodes holds of the one in front and of the other
  pub by_choice : (nodes : List HeapNode) (a b front back : ℕ) (P : ℕ → Type 0) → IsChoice order nodes a b front back → P a → P b → P front × P back
  by_choice nodes a b front back P choice on_a on_b = elim choice.either [
    | inl same ↦ (subst P (sym same.0) on_a, subst P (sym same.1) on_b)
    | inr same ↦ (subst P (sym same.0) on_b, subst P (sym same.1) on_a)
  ]

  pub choice-sum : (nodes : List HeapNode) (a b front back : ℕ) → IsChoice order nodes a b front back → front + back ≡ a + b
  choice-sum nodes a b front back choice = elim choice.either [ inl same ↦ omega (arith, same.0, same.1) | inr same ↦ omega (arith, same.0, same.1) ]

  -- the parts of a heap
  pub node_heap : (nodes : List HeapNode) (at : ℕ) (node : HeapNode) → IsArena nodes → at < length nodes → node ≡ get_or nodes at node → IsHeap order (tree_at nodes (Some at)) → IsHeap order (Node node.item (tree_at nodes node.left) (tree_at nodes node.right))
  node_heap nodes at node arena there is heap = subst (IsHeap order) (tree_at-node nodes at node arena there is) heap

  pub merged_empty : (nodes : List HeapNode) (a b : Option ℕ) → a ≡ None → IsHeap order (tree_at nodes b) → IsMerged order (tree_at nodes a) (tree_at nodes b) (tree_at nodes b)
  merged_empty nodes a b none heap = subst (λ tree. IsMerged order tree (tree_at nodes b) (tree_at nodes b)) (sym (ap (tree_at nodes) none ∙ tree_at-none nodes)) (merged_none order (tree_at nodes b) heap)

  pub merged_nodes : (nodes middle new : List HeapNode) (a b front back : ℕ) (top : HeapNode) (rest : Option ℕ) (root : ℕ) → IsArena nodes → IsChoice order nodes a b front back → front < length nodes → IsHeap order (tree_at nodes (Some front))
      → top ≡ get_or nodes front top → Grows nodes middle → IsMerged order (tree_at nodes top.right) (tree_at nodes (Some back)) (tree_at middle rest) → IsJoin top.item (tree_at middle top.left) (tree_at middle rest) (tree_at new (Some root))
      → IsMerged order (tree_at nodes (Some a)) (tree_at nodes (Some b)) (tree_at new (Some root))
  merged_nodes nodes middle new a b front back top rest root arena choice there heap is grows merged join =
      let node = tree_at-node nodes front top arena there is in
      let ahead : IsFirst order top.item (members (tree_at nodes (Some back))) = subst (λ tree. IsAhead order tree (tree_at nodes (Some back))) node choice.ahead in
      let left = tree_at-grown nodes middle top.left grows (leads_left nodes front top arena there is) in
      let joined = subst (λ tree. IsJoin top.item tree (tree_at middle rest) (tree_at new (Some root))) left join in
      let whole = merged_step order top.item (tree_at nodes top.left) (tree_at nodes top.right) (tree_at nodes (Some back)) (tree_at middle rest) (tree_at new (Some root)) (subst (IsHeap order) node heap) ahead merged joined in
      let chosen : IsMerged order (tree_at nodes (Some front)) (tree_at nodes (Some back)) (tree_at new (Some root)) = subst (λ tree. IsMerged order tree (tree_at nodes (Some back)) (tree_at new (Some root))) (sym node) whole in
      elim choice.either [
        | inl same ↦ subst (λ k. IsMerged order (tree_at nodes (Some a)) (tree_at nodes (Some k)) (tree_at new (Some root))) same.1
            (subst (λ k. IsMerged order (tree_at nodes (Some k)) (tree_at nodes (Some back)) (tree_at new (Some root))) same.0 chosen)
        | inr same ↦ merged_turned order (tree_at nodes (Some b)) (tree_at nodes (Some a)) (tree_at new (Some root)) (subst (λ k. IsMerged order (tree_at nodes (Some b)) (tree_at nodes (Some k)) (tree_at new (Some root))) same.1
            (subst (λ k. IsMerged order (tree_at nodes (Some k)) (tree_at nodes (Some back)) (tree_at new (Some root))) same.0 chosen))
      ]

  -- a heap stays one where nodes are added
  pub heap_grown : (old new : List HeapNode) (link : Option ℕ) → Grows old new → IsBelow link (length old) → IsHeap order (tree_at old link) → IsHeap order (tree_at new link)
  heap_grown old new link grows below heap = subst (IsHeap order) (sym (tree_at-grown old new link grows below)) heap

  single_tree : (nodes : List HeapNode) (item : ℕ) (joined : Tree) → IsJoin item (tree_at nodes None) (tree_at nodes None) joined → joined ≡ Node item Empty Empty
  single_tree nodes item joined join = single_heap order item joined (subst (λ tree. IsJoin item tree tree joined) (tree_at-none nodes) join)

  pub single_is_heap : (nodes : List HeapNode) (item : ℕ) (joined : Tree) → IsJoin item (tree_at nodes None) (tree_at nodes None) joined → IsHeap order joined
  single_is_heap nodes item joined join = subst (IsHeap order) (sym (single_tree nodes item joined join)) (All-nil (λ other. is_gt (order item other) ≡ false), tt, tt)

  module _ (is_dead : ℕ → Bool) where
    pub next_single : (old middle new : List HeapNode) (root single next : Option ℕ) (item : ℕ) → Grows old middle → IsBelow root (length old) → IsJoin item (tree_at old None) (tree_at old None) (tree_at middle single)
        → IsMerged order (tree_at middle root) (tree_at middle single) (tree_at new next) → IsNext order is_dead (tree_at old root) (item ∷ []) (tree_at new next)
    next_single old middle new root single next item grows below join merged =
        let here = subst (λ tree. IsMerged order tree (tree_at middle single) (tree_at new next)) (tree_at-grown old middle root grows below) merged in
        next_merged order is_dead (tree_at old root) (Node item Empty Empty) (tree_at new next) (subst (λ tree. IsMerged order (tree_at old root) tree (tree_at new next)) (single_tree old item (tree_at middle single) join) here)

    pub next_none : (nodes : List HeapNode) → IsNext order is_dead Empty [] (tree_at nodes None)
    next_none nodes = subst (IsNext order is_dead Empty []) (sym (tree_at-none nodes)) (next_same order is_dead Empty tt)

    -- one number more
    pub next_number : (a b c : Tree) (first at : ℕ) → first ≤ at → IsNext order is_dead a (numbers_between first at) b → IsNext order is_dead b (at ∷ []) c → IsNext order is_dead a (numbers_between first (at + 1)) c
    next_number a b c first at le one two = subst (λ added. IsNext order is_dead a added c) (sym (numbers-more first at le)) (next_then order is_dead a b c (numbers_between first at) (at ∷ []) one two)

    -- nothing more
    pub next_on : (a b c : Tree) (added : List ℕ) → IsNext order is_dead a added b → IsNext order is_dead b [] c → IsNext order is_dead a added c
    next_on a b c added one two = subst (λ all. IsNext order is_dead a all c) (append-nil added) (next_then order is_dead a b c added [] one two)

    pub next_whole : (old middle joined new : List HeapNode) (root fresh merged next : Option ℕ) (added : List ℕ) → Grows old middle → IsBelow root (length old) → IsNext order is_dead Empty added (tree_at middle fresh)
        → IsMerged order (tree_at middle root) (tree_at middle fresh) (tree_at joined merged) → IsNext order is_dead (tree_at joined merged) [] (tree_at new next) → IsNext order is_dead (tree_at old root) added (tree_at new next)
    next_whole old middle joined new root fresh merged next added grows below start both last =
        let here = subst (λ tree. IsMerged order tree (tree_at middle fresh) (tree_at joined merged)) (tree_at-grown old middle root grows below) both in
        next_on (tree_at old root) (tree_at joined merged) (tree_at new next) added (next_joined order is_dead (tree_at old root) (tree_at middle fresh) (tree_at joined merged) added start here) last

    pub next_dropped : (nodes new : List HeapNode) (at : ℕ) (top : HeapNode) (next : Option ℕ) → IsArena nodes → at < length nodes → top ≡ get_or nodes at top → is_dead top.item ≡ true → IsMerged order (tree_at nodes top.left) (tree_at nodes top.right) (tree_at new next)
        → IsNext order is_dead (tree_at nodes (Some at)) [] (tree_at new next)
    next_dropped nodes new at top next arena there is dead merged =
        subst (λ tree. IsNext order is_dead tree [] (tree_at new next)) (sym (tree_at-node nodes at top arena there is)) (next_untopped order is_dead top.item (tree_at nodes top.left) (tree_at nodes top.right) (tree_at new next) dead merged)

    pub alive_node : (nodes : List HeapNode) (at : ℕ) (top : HeapNode) → IsArena nodes → at < length nodes → top ≡ get_or nodes at top → is_dead top.item ≡ false → IsAlive is_dead (tree_at nodes (Some at))
    alive_node nodes at top arena there is alive = subst (IsAlive is_dead) (sym (tree_at-node nodes at top arena there is)) alive

    pub alive_none : (nodes : List HeapNode) (link : Option ℕ) → link ≡ None → IsAlive is_dead (tree_at nodes link)
    alive_none nodes link none = subst (IsAlive is_dead) (sym (ap (tree_at nodes) none ∙ tree_at-none nodes)) tt

  -- a top less
  pub fewer_members : (nodes new : List HeapNode) (at : ℕ) (top : HeapNode) (next : Option ℕ) → IsArena nodes → at < length nodes → top ≡ get_or nodes at top → IsMerged order (tree_at nodes top.left) (tree_at nodes top.right) (tree_at new next)
      → length (members (tree_at new next)) < length (members (tree_at nodes (Some at)))
  fewer_members nodes new at top next arena there is merged =
      let same = length_permutation (members (tree_at nodes top.left) ++ members (tree_at nodes top.right)) (members (tree_at new next)) merged.same in
      let whole = ap (λ tree. length (members tree)) (tree_at-node nodes at top arena there is) in
      omega (arith, same, whole)
