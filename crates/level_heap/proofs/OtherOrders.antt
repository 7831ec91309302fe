-- Heaps by orders that agree on their items.
use Rattle.std.proofs.Common.{◌≡◌, ℕ, [], ◌∷◌, ◌++◌, get_or, refl, ap, ◌∙◌, arith}
use Rattle.std.specs.Prelude.{Contains}
use Rattle.std.proofs.lemmas.List.Elements.{Contains-append_left, Contains-append_right, Contains-get_or}
use Rattle.std.specs.declared.cmp.Ordering.{Ordering}
use Rattle.std.specs.Ordering.{is_gt}
use Rattle.level_heap.specs.Trees.{Tree, Empty, Node, members, IsHeap}

pub heap_stays : (order other : ℕ → ℕ → Ordering) (tree : Tree) → ((a b : ℕ) → Contains (members tree) a → Contains (members tree) b → other a b ≡ order a b) → IsHeap order tree → IsHeap other tree
heap_stays order other Empty agree heap = tt
heap_stays order other (Node item left right) agree heap =
    let rest = members left ++ members right in
    let top : Contains (item ∷ rest) item = (0, omega arith, refl) in
    let below : (x : ℕ) → Contains rest x → Contains (item ∷ rest) x = λ x there. Contains-append_right (item ∷ []) rest x there in
    let on_left : (x : ℕ) → Contains (members left) x → Contains (item ∷ rest) x = λ x there. below x (Contains-append_left (members left) (members right) x there) in
    let on_right : (x : ℕ) → Contains (members right) x → Contains (item ∷ rest) x = λ x there. below x (Contains-append_right (members left) (members right) x there) in (
      λ k d within. ap is_gt (agree item (get_or rest k d) top (below (get_or rest k d) (Contains-get_or rest k d within))) ∙ heap.0 k d within,
      heap_stays order other left (λ a b in_a in_b. agree a b (on_left a in_a) (on_left b in_b)) heap.1,
      heap_stays order other right (λ a b in_a in_b. agree a b (on_right a in_a) (on_right b in_b)) heap.2,
    )
