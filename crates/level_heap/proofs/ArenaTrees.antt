-- The trees of an arena, once nodes are added or cut.
use Rattle.std.proofs.Common.{◌≡◌, ℕ, ◌+◌, ◌<◌, ◌≤◌, List, [], ◌∷◌, ◌++◌, Option, Some, None, length, take, drop, get_or, refl, sym, ap, subst, ◌∙◌, arith, append_assoc, length-append, length-take, below_more}
use Rattle.std.proofs.lemmas.List.{get_or_append_left, get_or_push, get_or-take, length-take-le, take-append-drop, length_push, take_more, append-nil}
use Rattle.level_heap.specs.declared.node.HeapNode.{HeapNode}
use Rattle.level_heap.specs.Trees.{Tree, Empty, Node}
use Rattle.level_heap.specs.Arenas.{above, trees_behind, tree_at, IsBelow, LeadsBelow, IsArena, Grows}

behind-length : (trees : List Tree) (nodes : List HeapNode) → length (trees_behind trees nodes) ≡ length trees + length nodes
behind-length trees [] = omega arith
behind-length trees (node ∷ nodes) = omega (arith, behind-length (trees ++ above trees node ∷ []) nodes, length_push trees (above trees node))

behind-append : (trees : List Tree) (front back : List HeapNode) → trees_behind trees (front ++ back) ≡ trees_behind (trees_behind trees front) back
behind-append trees [] back = refl
behind-append trees (node ∷ front) back = behind-append (trees ++ above trees node ∷ []) front back

behind-front : (trees : List Tree) (nodes : List HeapNode) (at : ℕ) (d : Tree) → at < length trees → get_or (trees_behind trees nodes) at d ≡ get_or trees at d
behind-front trees [] at d within = refl
behind-front trees (node ∷ nodes) at d within =
    behind-front (trees ++ above trees node ∷ []) nodes at d (omega (arith, length_push trees (above trees node)))
    ∙ get_or_append_left trees (above trees node ∷ []) d at within

pub tree_at-none : (nodes : List HeapNode) → tree_at nodes None ≡ Empty
unfolding tree_at
tree_at-none nodes = refl

tree_at-append : (nodes more : List HeapNode) (link : Option ℕ) → IsBelow link (length nodes) → tree_at (nodes ++ more) link ≡ tree_at nodes link
unfolding tree_at
tree_at-append nodes more None below = refl
tree_at-append nodes more (Some at) below =
    ap (λ trees. get_or trees at Empty) (behind-append [] nodes more)
    ∙ behind-front (trees_behind [] nodes) more at Empty (omega (arith, behind-length [] nodes))

-- nodes that are added change no tree
pub tree_at-grown : (old new : List HeapNode) (link : Option ℕ) → Grows old new → IsBelow link (length old) → tree_at new link ≡ tree_at old link
tree_at-grown old new link grows below = ap (λ nodes. tree_at nodes link) grows.is ∙ tree_at-append old grows.more link below

tree_at-push : (nodes : List HeapNode) (node : HeapNode) → tree_at (nodes ++ node ∷ []) (Some (length nodes)) ≡ Node node.item (tree_at nodes node.left) (tree_at nodes node.right)
unfolding tree_at
tree_at-push nodes node =
    ap (λ trees. get_or trees (length nodes) Empty) (behind-append [] nodes (node ∷ []))
    ∙ get_or_push (trees_behind [] nodes) (above (trees_behind [] nodes) node) Empty (length nodes) (omega (arith, behind-length [] nodes))

pub below-weaker : (link : Option ℕ) (few many : ℕ) → few ≤ many → IsBelow link few → IsBelow link many
below-weaker None few many le below = tt
below-weaker (Some at) few many le below = omega arith

pub grows-longer : (old new : List HeapNode) → Grows old new → length old ≤ length new
grows-longer old new grows = omega (arith, ap length grows.is, length-append old grows.more)

pub below-grown : (old new : List HeapNode) (link : Option ℕ) → Grows old new → IsBelow link (length old) → IsBelow link (length new)
below-grown old new link grows below = below-weaker link (length old) (length new) (grows-longer old new grows) below

pub grows-same : (nodes : List HeapNode) → Grows nodes nodes
grows-same nodes = record { more = []; is = sym (append-nil nodes) }

pub grows-then : (a b c : List HeapNode) → Grows a b → Grows b c → Grows a c
grows-then a b c one two = record { more = one.more ++ two.more; is = two.is ∙ ap (λ nodes. nodes ++ two.more) one.is ∙ append_assoc a one.more two.more }

pub grows-take : (count : ℕ) (nodes : List HeapNode) → Grows (take count nodes) nodes
grows-take count nodes = record { more = drop count nodes; is = sym (take-append-drop count nodes) }

-- a node leads to earlier ones
pub leads : (nodes : List HeapNode) (at : ℕ) (node : HeapNode) → IsArena nodes → at < length nodes → node ≡ get_or nodes at node → LeadsBelow node at
leads nodes at node arena within is = subst (λ one. LeadsBelow one at) (sym is) (arena.each at node within)

-- and to ones that are there
pub leads_left : (nodes : List HeapNode) (at : ℕ) (node : HeapNode) → IsArena nodes → at < length nodes → node ≡ get_or nodes at node → IsBelow node.left (length nodes)
leads_left nodes at node arena within is = below-weaker node.left at (length nodes) (omega arith) (leads nodes at node arena within is).left

pub leads_right : (nodes : List HeapNode) (at : ℕ) (node : HeapNode) → IsArena nodes → at < length nodes → node ≡ get_or nodes at node → IsBelow node.right (length nodes)
leads_right nodes at node arena within is = below-weaker node.right at (length nodes) (omega arith) (leads nodes at node arena within is).right

-- the tree of a node
pub tree_at-node : (nodes : List HeapNode) (at : ℕ) (node : HeapNode) → IsArena nodes → at < length nodes → node ≡ get_or nodes at node → tree_at nodes (Some at) ≡ Node node.item (tree_at nodes node.left) (tree_at nodes node.right)
tree_at-node nodes at node arena within is =
    let front = take at nodes in
    let long : length front ≡ at = length-take-le at nodes (omega arith) in
    let lead = leads nodes at node arena within is in
    let on_left : IsBelow node.left (length front) = rw long lead.left in
    let on_right : IsBelow node.right (length front) = rw long lead.right in
    let more : take (at + 1) nodes ≡ front ++ node ∷ [] = take_more nodes at node within ∙ ap (λ one. front ++ one ∷ []) (sym is) in
    let there : IsBelow (Some at) (length (take (at + 1) nodes)) = omega (arith, length-take (at + 1) nodes) in
    tree_at-grown (take (at + 1) nodes) nodes (Some at) (grows-take (at + 1) nodes) there
    ∙ ap (λ ns. tree_at ns (Some at)) more
    ∙ ap (λ place. tree_at (front ++ node ∷ []) (Some place)) (sym long)
    ∙ tree_at-push front node
    ∙ ap (λ tree. Node node.item tree (tree_at front node.right)) (sym (tree_at-grown front nodes node.left (grows-take at nodes) on_left))
    ∙ ap (λ tree. Node node.item (tree_at nodes node.left) tree) (sym (tree_at-grown front nodes node.right (grows-take at nodes) on_right))

pub arena-push : (nodes : List HeapNode) (node : HeapNode) → IsArena nodes → IsBelow node.left (length nodes) → IsBelow node.right (length nodes) → IsArena (nodes ++ node ∷ [])
arena-push nodes node arena left right = record {
  each = λ at d within.
      below_more (λ k. LeadsBelow (get_or (nodes ++ node ∷ []) k d) k) (length nodes)
      (λ k below. subst (λ one. LeadsBelow one k) (sym (get_or_append_left nodes (node ∷ []) d k below)) (arena.each k d below))
      (subst (λ one. LeadsBelow one (length nodes)) (sym (get_or_push nodes node d (length nodes) refl)) (record { left = left; right = right }))
      at (omega (arith, length_push nodes node));
}

pub arena-take : (count : ℕ) (nodes : List HeapNode) → IsArena nodes → IsArena (take count nodes)
arena-take count nodes arena = record {
  each = λ at d within.
      let short : at < count = omega (arith, length-take count nodes) in
      let inside : at < length nodes = omega (arith, length-take count nodes) in
      subst (λ one. LeadsBelow one at) (sym (get_or-take count nodes at d short)) (arena.each at d inside);
}

-- a node that is pushed above two trees
pub pushed_join : (nodes new : List HeapNode) (node : HeapNode) (at : ℕ) → new ≡ nodes ++ node ∷ [] → at ≡ length nodes → tree_at new (Some at) ≡ Node node.item (tree_at nodes node.left) (tree_at nodes node.right)
pushed_join nodes new node at is place = ap (λ k. tree_at new (Some k)) place ∙ ap (λ ns. tree_at ns (Some (length nodes))) is ∙ tree_at-push nodes node
