-- Heaps as trees: what stands before their items, and what a merge makes of them.
use Rattle.std.proofs.Common.{◌≡◌, ℕ, ◌+◌, false, true, true≢false, List, [], ◌∷◌, ◌++◌, inl, inr, Some, None, refl, sym, ap, subst, arith, append_assoc, length, length-append}
use Rattle.std.proofs.lemmas.List.{get_or_append_left, get_or-append-add}
use Rattle.std.proofs.lemmas.List.Elements.{All-cons, All-append, All-weaker}
use Rattle.std.proofs.lemmas.List.Sorted.{IsPermutation-refl, IsPermutation-cons, IsPermutation-trans, IsPermutation-append_right, IsPermutation-append_comm, All-permutation}
use Rattle.std.proofs.lemmas.Cmp.{upto, tied_itself}
use Rattle.std.specs.Prelude.{All}
use Rattle.std.specs.Cmp.{IsTotalOrder}
use Rattle.std.specs.List.Sorted.{IsPermutation}
use Rattle.std.specs.declared.cmp.Ordering.{Ordering}
use Rattle.std.specs.declared.cmp.Ordering.TheVariants.{Less, Equal, Greater}
use Rattle.std.specs.Ordering.{is_gt, ordering_reverse}
use Rattle.level_heap.specs.Trees.{Tree, Empty, Node, members, top_of, IsFirst, IsHeap, IsLeast, IsMerged, IsJoin}

-- what stands behind another has it in front
pub turned : (order : ℕ → ℕ → Ordering) → IsTotalOrder order → (a b : ℕ) → is_gt (order a b) ≡ true → is_gt (order b a) ≡ false
turned order total a b behind = by (order a b) (order b a) (total.antisymm b a) behind
  where
    by : (there back : Ordering) → back ≡ ordering_reverse there → is_gt there ≡ true → is_gt back ≡ false
    by Less back e behind = absurd (true≢false (sym behind))
    by Equal back e behind = absurd (true≢false (sym behind))
    by Greater back e behind = ap is_gt e

all_front : (P : ℕ → Type 0) (xs ys : List ℕ) → All P (xs ++ ys) → All P xs
all_front P xs ys all k d within = subst P (get_or_append_left xs ys d k within) (all k d (omega (arith, length-append xs ys)))

all_back : (P : ℕ → Type 0) (xs ys : List ℕ) → All P (xs ++ ys) → All P ys
all_back P xs ys all k d within = subst P (get_or-append-add xs ys k d) (all (length xs + k) d (omega (arith, length-append xs ys)))

-- what stands before the top stands before all
pub first_of_heap : (order : ℕ → ℕ → Ordering) → IsTotalOrder order → (x item : ℕ) (left right : Tree) → is_gt (order x item) ≡ false → IsHeap order (Node item left right) → IsFirst order x (members (Node item left right))
first_of_heap order total x item left right before heap =
    let rest = members left ++ members right in
    All-cons (λ other. is_gt (order x other) ≡ false) item rest before
    (All-weaker (λ other. is_gt (order item other) ≡ false) (λ other. is_gt (order x other) ≡ false) (λ other behind. upto total x item other before behind) rest heap.0)

pub top_least : (order : ℕ → ℕ → Ordering) → IsTotalOrder order → (tree : Tree) (item : ℕ) → top_of tree ≡ Some item → IsHeap order tree → IsLeast order (members tree) item
top_least order total Empty item top heap = let bad : ⊥ = cc in absurd bad
top_least order total (Node first left right) item top heap =
    let same : first ≡ item = cc in
    subst (IsLeast order (members (Node first left right))) same (record {
      member = (0, omega arith, refl);
      first = first_of_heap order total first first left right (ap is_gt (tied_itself total first)) heap;
    })

pub topless : (tree : Tree) → top_of tree ≡ None → members tree ≡ []
topless Empty top = refl
topless (Node item left right) top = let bad : ⊥ = cc in absurd bad

pub merged_none : (order : ℕ → ℕ → Ordering) (tree : Tree) → IsHeap order tree → IsMerged order Empty tree tree
merged_none order tree heap = record { heap = heap; same = IsPermutation-refl (members tree) }

pub merged_turned : (order : ℕ → ℕ → Ordering) (a b merged : Tree) → IsMerged order a b merged → IsMerged order b a merged
merged_turned order a b merged is = record {
  heap = is.heap;
  same = IsPermutation-trans (members b ++ members a) (members a ++ members b) (members merged) (IsPermutation-append_comm (members b) (members a)) is.same;
}

joined_members : (item : ℕ) (left rest joined : Tree) → IsJoin item left rest joined → IsPermutation (item ∷ (members left ++ members rest)) (members joined)
joined_members item left rest joined (inl is) = rw is (IsPermutation-refl (item ∷ (members left ++ members rest)))
joined_members item left rest joined (inr is) = rw is (IsPermutation-cons item (members left ++ members rest) (members rest ++ members left) (IsPermutation-append_comm (members left) (members rest)))

joined_heap : (order : ℕ → ℕ → Ordering) (item : ℕ) (left rest joined : Tree) → IsFirst order item (members left ++ members rest) → IsHeap order left → IsHeap order rest → IsJoin item left rest joined → IsHeap order joined
joined_heap order item left rest joined first on_left on_rest (inl is) = subst (IsHeap order) (sym is) (first, on_left, on_rest)
joined_heap order item left rest joined first on_left on_rest (inr is) =
    let turned_first = All-permutation (λ other. is_gt (order item other) ≡ false) (members left ++ members rest) (members rest ++ members left) (IsPermutation-append_comm (members left) (members rest)) first in
    subst (IsHeap order) (sym is) (turned_first, on_rest, on_left)

-- a heap and another behind its top: the right side is merged with the other
pub merged_step : (order : ℕ → ℕ → Ordering) (item : ℕ) (left right other rest joined : Tree) → IsHeap order (Node item left right) → IsFirst order item (members other) → IsMerged order right other rest → IsJoin item left rest joined
    → IsMerged order (Node item left right) other joined
merged_step order item left right other rest joined heap ahead is join =
    let Behind : ℕ → Type 0 = λ x. is_gt (order item x) ≡ false in
    let on_rest : All Behind (members rest) =
    All-permutation Behind (members right ++ members other) (members rest) is.same (All-append Behind (members right) (members other) (all_back Behind (members left) (members right) heap.0) ahead) in
    let first = All-append Behind (members left) (members rest) (all_front Behind (members left) (members right) heap.0) on_rest in
    record {
      heap = joined_heap order item left rest joined first heap.1 is.heap join;
      same = IsPermutation-trans (members (Node item left right) ++ members other) (item ∷ (members left ++ members rest)) (members joined)
          (IsPermutation-cons item ((members left ++ members right) ++ members other) (members left ++ members rest) (rw append_assoc (IsPermutation-append_right (members left) (members right ++ members other) (members rest) is.same)))
          (joined_members item left rest joined join);
    }

-- one item alone
pub single_heap : (order : ℕ → ℕ → Ordering) (item : ℕ) (joined : Tree) → IsJoin item Empty Empty joined → joined ≡ Node item Empty Empty
single_heap order item joined (inl is) = is
single_heap order item joined (inr is) = is
