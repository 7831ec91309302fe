-- From a heap to the next: steps that follow each other.
use Rattle.std.proofs.Common.{◌≡◌, ℕ, Bool, true, List, [], ◌∷◌, ◌++◌, sym, subst, append_assoc}
use Rattle.std.proofs.lemmas.List.{append-nil}
use Rattle.std.proofs.lemmas.List.Elements.{All-nil, All-cons, All-append}
use Rattle.std.proofs.lemmas.List.Sorted.{IsPermutation-refl, IsPermutation-cons, IsPermutation-trans, IsPermutation-append_left, IsPermutation-append_right, IsPermutation-append_comm, IsPermutation-to_front}
use Rattle.std.specs.List.Sorted.{IsPermutation}
use Rattle.std.specs.declared.cmp.Ordering.{Ordering}
use Rattle.level_heap.specs.Trees.{Tree, Empty, Node, members, IsHeap, IsNext, IsMerged}

module _ (order : ℕ → ℕ → Ordering) (is_dead : ℕ → Bool) where
  pub next_same : (tree : Tree) → IsHeap order tree → IsNext order is_dead tree [] tree
  next_same tree heap = record {
    heap = heap;
    dropped = [];
    dead = All-nil (λ item. is_dead item ≡ true);
    same = rw append-nil (IsPermutation-refl (members tree));
  }

  pub next_then : (a b c : Tree) (xs ys : List ℕ) → IsNext order is_dead a xs b → IsNext order is_dead b ys c → IsNext order is_dead a (xs ++ ys) c
  next_then a b c xs ys one two =
      let there : IsPermutation ((members a ++ xs) ++ ys) ((one.dropped ++ members b) ++ ys) = IsPermutation-append_left ys (members a ++ xs) (one.dropped ++ members b) one.same in
      let on : IsPermutation (one.dropped ++ (members b ++ ys)) (one.dropped ++ (two.dropped ++ members c)) = IsPermutation-append_right one.dropped (members b ++ ys) (two.dropped ++ members c) two.same in
      let whole : IsPermutation ((members a ++ xs) ++ ys) (one.dropped ++ (two.dropped ++ members c)) =
      IsPermutation-trans ((members a ++ xs) ++ ys) (one.dropped ++ (members b ++ ys)) (one.dropped ++ (two.dropped ++ members c)) (subst (IsPermutation ((members a ++ xs) ++ ys)) (append_assoc one.dropped (members b) ys) there) on in record {
        heap = two.heap;
        dropped = one.dropped ++ two.dropped;
        dead = All-append (λ item. is_dead item ≡ true) one.dropped two.dropped one.dead two.dead;
        same = subst (λ left. IsPermutation left ((one.dropped ++ two.dropped) ++ members c)) (append_assoc (members a) xs ys) (subst (IsPermutation ((members a ++ xs) ++ ys)) (sym (append_assoc one.dropped two.dropped (members c))) whole);
      }

  -- a dead item is left out
  pub next_skipped : (tree : Tree) (item : ℕ) → IsHeap order tree → is_dead item ≡ true → IsNext order is_dead tree (item ∷ []) tree
  next_skipped tree item heap dead = record {
    heap = heap;
    dropped = item ∷ [];
    dead = All-cons (λ item. is_dead item ≡ true) item [] dead (All-nil (λ item. is_dead item ≡ true));
    same = IsPermutation-to_front (members tree) item;
  }

  -- the items of another heap come in
  pub next_merged : (a b c : Tree) → IsMerged order a b c → IsNext order is_dead a (members b) c
  next_merged a b c merged = record { heap = merged.heap; dropped = []; dead = All-nil (λ item. is_dead item ≡ true); same = merged.same }

  -- and what that heap left out before
  pub next_joined : (a b c : Tree) (xs : List ℕ) → IsNext order is_dead Empty xs b → IsMerged order a b c → IsNext order is_dead a xs c
  next_joined a b c xs fresh merged =
      let dropped = fresh.dropped in
      let old = members a in
      let apart : IsPermutation (old ++ xs) ((old ++ dropped) ++ members b) = rw append_assoc (IsPermutation-append_right old xs (dropped ++ members b) fresh.same) in
      let turned : IsPermutation ((old ++ dropped) ++ members b) ((dropped ++ old) ++ members b) = IsPermutation-append_left (members b) (old ++ dropped) (dropped ++ old) (IsPermutation-append_comm old dropped) in
      let joined : IsPermutation ((dropped ++ old) ++ members b) (dropped ++ members c) = rw append_assoc (IsPermutation-append_right dropped (old ++ members b) (members c) merged.same) in record {
        heap = merged.heap;
        dropped = dropped;
        dead = fresh.dead;
        same = IsPermutation-trans (old ++ xs) ((old ++ dropped) ++ members b) (dropped ++ members c) apart (IsPermutation-trans ((old ++ dropped) ++ members b) ((dropped ++ old) ++ members b) (dropped ++ members c) turned joined);
      }

  -- a dead top is taken off
  pub next_untopped : (item : ℕ) (left right rest : Tree) → is_dead item ≡ true → IsMerged order left right rest → IsNext order is_dead (Node item left right) [] rest
  next_untopped item left right rest dead merged = record {
    heap = merged.heap;
    dropped = item ∷ [];
    dead = All-cons (λ item. is_dead item ≡ true) item [] dead (All-nil (λ item. is_dead item ≡ true));
    same = rw append-nil (IsPermutation-cons item (members left ++ members right) (members rest) merged.same);
  }
