-- Tree order is preorder: a node before those below it, and the children of a node in turn, each with all below it.
use Rattle.std.proofs.Common.{◌≡◌, ◌≢◌, ℕ, ◌<◌, List, [], ◌∷◌, ◌++◌, drop, reverse, slice_get, Some, refl, sym, ap, ap₂, subst, ◌∙◌, inl, inr, append_assoc}
use Rattle.std.proofs.lemmas.Bool.{lt-ltb}
use Rattle.std.proofs.lemmas.List.{reverse-append}
use Rattle.std.proofs.lemmas.Cmp.{tied_itself}
use Rattle.std.specs.declared.cmp.Ordering.TheVariants.{Less}
use Rattle.std.specs.Ordering.{nat_cmp, ordering_then}
use Rattle.std.specs.Cmp.{nat_cmp_total}
use Rattle.std.specs.Cmp.Lexicographic.{slice_cmp}
use Rattle.mg_word.specs.Facts.{IsProblem}
use Rattle.tree_board.specs.Boards.{Board}
use Rattle.tree_board.specs.Facts.{IsAmong, IsBoard}
use Rattle.tree_board.specs.Lawful.{IsReplay}
use Rattle.tree_board.specs.Laws.{IsPreorder}
use Rattle.tree_board.specs.Nodes.{Node}
use Rattle.tree_board.specs.Settings.{Setting}
use Rattle.tree_board.specs.TreeOrder.{tree_cmp}
use Rattle.tree_board.proofs.Places.{same_some}
use Rattle.tree_board.proofs.Climbing.{tail_is_parents}
use Rattle.tree_board.proofs.Replays.{replay_board}

-- what is before where the lists part
pub parted : (front xs ys : List ℕ) → slice_cmp nat_cmp (front ++ xs) (front ++ ys) ≡ slice_cmp nat_cmp xs ys
parted [] xs ys = refl
parted (n ∷ front) xs ys = ap (λ answer. ordering_then answer (slice_cmp nat_cmp (front ++ xs) (front ++ ys))) (tied_itself nat_cmp_total n) ∙ parted front xs ys

pub below_less : (x y : ℕ) → x < y → nat_cmp x y ≡ Less
below_less x y less = rw (lt-ltb x y less) refl

-- a node's path ends with that of each node above it
ends_with : (setting : Setting) (board : Board) → IsBoard setting board → (number : ℕ) (above : List ℕ) (node : Node) → slice_get board.nodes number ≡ Some node → node.path ≡ number ∷ above → (top : ℕ) (one : Node) → slice_get board.nodes top ≡ Some one → IsAmong (number ∷ above) top
    → (front : List ℕ) × (node.path ≡ front ++ one.path)
ends_with setting board facts number above node at path top one is (inl same) = ([], ap (λ (n : Node). n.path) (same_some node one (sym at ∙ (ap (slice_get board.nodes) same ∙ is))))
ends_with setting board facts number [] node at path top one is (inr bad) = absurd bad
ends_with setting board facts number (parent ∷ above) node at path top one is (inr later) =
    let (up, up_at, up_path) = tail_is_parents setting board facts number parent above node at path in
    let (front, same) = ends_with setting board facts parent above up up_at up_path top one is later in
    (number ∷ front, path ∙ ap (λ rest. number ∷ rest) (sym up_path ∙ same))

pub ends : (setting : Setting) (board : Board) → IsBoard setting board → (number top : ℕ) (node one : Node) → slice_get board.nodes number ≡ Some node → slice_get board.nodes top ≡ Some one → IsAmong node.path top → (front : List ℕ) × (node.path ≡ front ++ one.path)
ends setting board facts number top node one at is there =
    let own = facts.each number node at in
    ends_with setting board facts number own.above node at own.path top one is (subst (λ path. IsAmong path top) own.path there)

-- from the root on
pub turned : (path front tail : List ℕ) → path ≡ front ++ tail → reverse path ≡ reverse tail ++ reverse front
turned path front tail e = ap reverse e ∙ reverse-append front tail

some_longer : (xs : List ℕ) (n : ℕ) (more : List ℕ) → slice_cmp nat_cmp [] (xs ++ n ∷ more) ≡ Less
some_longer [] n more = refl
some_longer (x ∷ xs) n more = refl

is_longer : (front : List ℕ) (n : ℕ) → slice_cmp nat_cmp [] (reverse (n ∷ front)) ≡ Less
is_longer front n = ap (slice_cmp nat_cmp []) (reverse-append (n ∷ []) front) ∙ some_longer (reverse front) n []

none_after : (xs : List ℕ) → xs ++ [] ≡ xs
none_after [] = refl
none_after (x ∷ xs) = ap (λ rest. x ∷ rest) (none_after xs)

pub before_below : (setting : Setting) (board : Board) → IsBoard setting board → (a b : ℕ) (one two : Node) → slice_get board.nodes a ≡ Some one → slice_get board.nodes b ≡ Some two → a ≢ b → IsAmong two.path a → tree_cmp one two ≡ Less
before_below setting board facts a b one two is_a is_b apart there =
    let (front, same) = ends setting board facts b a two one is_b is_a there in by front same
  where
    heads : (x y : ℕ) (xs ys : List ℕ) → x ∷ xs ≡ y ∷ ys → x ≡ y
    heads x y xs ys e = cc

    by : (front : List ℕ) → two.path ≡ front ++ one.path → tree_cmp one two ≡ Less
    by [] same = absurd (apart (heads a b (facts.each a one is_a).above (facts.each b two is_b).above (sym (facts.each a one is_a).path ∙ (sym same ∙ (facts.each b two is_b).path))))
    by (n ∷ front) same =
        ap₂ (slice_cmp nat_cmp) (sym (none_after (reverse one.path))) (turned two.path (n ∷ front) one.path same)
        ∙ (parted (reverse one.path) [] (reverse (n ∷ front)) ∙ is_longer front n)

-- below two children of one node
beside_less : (up front other : List ℕ) (i j : ℕ) (one two : List ℕ) → i < j → one ≡ front ++ i ∷ up → two ≡ other ++ j ∷ up → slice_cmp nat_cmp (reverse one) (reverse two) ≡ Less
beside_less up front other i j one two less is_one is_two =
    ap₂ (slice_cmp nat_cmp) (laid one front i is_one) (laid two other j is_two)
    ∙ (parted (reverse up) (i ∷ reverse front) (j ∷ reverse other) ∙ ap (λ answer. ordering_then answer (slice_cmp nat_cmp (reverse front) (reverse other))) (below_less i j less))
  where
    laid : (path front' : List ℕ) (n : ℕ) → path ≡ front' ++ n ∷ up → reverse path ≡ reverse up ++ n ∷ reverse front'
    laid path front' n e = turned path front' (n ∷ up) e ∙ (ap (λ list. list ++ reverse front') (reverse-append (n ∷ []) up) ∙ append_assoc (reverse up) (n ∷ []) (reverse front'))

pub before_beside : (setting : Setting) (board : Board) → IsBoard setting board → (a b i j : ℕ) (one two first second : Node) → slice_get board.nodes a ≡ Some one → slice_get board.nodes b ≡ Some two → slice_get board.nodes i ≡ Some first → slice_get board.nodes j ≡ Some second
    → drop 1 first.path ≡ drop 1 second.path → i < j → IsAmong one.path i → IsAmong two.path j → tree_cmp one two ≡ Less
before_beside setting board facts a b i j one two first second is_a is_b is_i is_j same less below_i below_j =
    let (front, front_is) = ends setting board facts a i one first is_a is_i below_i in
    let (other, other_is) = ends setting board facts b j two second is_b is_j below_j in
    let path_i = (facts.each i first is_i).path in
    let path_j = (facts.each j second is_j).path in
    let up = (facts.each i first is_i).above in
    let same_up : (facts.each j second is_j).above ≡ up = sym (ap (drop 1) path_j) ∙ (sym same ∙ ap (drop 1) path_i) in
    beside_less up front other i j one.path two.path less (front_is ∙ ap (λ path. front ++ path) path_i) (other_is ∙ ap (λ path. other ++ path) (path_j ∙ ap (λ rest. j ∷ rest) same_up))

pub is_preorder : (setting : Setting) (board : Board) → IsProblem setting.problem → IsReplay setting board → IsPreorder board
is_preorder setting board real replay =
    let facts = replay_board setting board real replay in
    record { below = before_below setting board facts; beside = before_beside setting board facts }
