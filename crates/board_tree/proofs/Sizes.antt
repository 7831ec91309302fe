-- A tree has no more lines than the board has nodes.
use Rattle.std.proofs.Common.{◌≡◌, ℕ, zero, suc, ◌+◌, ◌<◌, ◌≤◌, Bool, true, false, true≢false, nat_eq, List, [], ◌∷◌, ◌++◌, drop, reverse, length, slice_get, Option, Some, None, refl, sym, ap, ◌⊎◌, subst, ◌∙◌, inl, inr, arith}
use Rattle.std.specs.Cmp.{nat_cmp_total}
use Rattle.std.specs.Cmp.Lexicographic.{slice_cmp}
use Rattle.std.specs.List.{flat_map, list_any}
use Rattle.std.specs.Ordering.{nat_cmp, ordering_then}
use Rattle.std.specs.declared.cmp.Ordering.{Ordering}
use Rattle.std.specs.declared.cmp.Ordering.TheVariants.{Equal, Less}
use Rattle.std.proofs.lemmas.Bool.{eqb-true, eq-eqb}
use Rattle.std.proofs.lemmas.Cmp.{tied_itself}
use Rattle.std.proofs.lemmas.List.{length-append}
use Rattle.mg_word.specs.declared.lit.Lit.{Lit}
use Rattle.mg_word.specs.declared.form.Inst.{Inst}
use Rattle.mg_word.proofs.Members.{either_true, or_true, never_true, two_cases}
use Rattle.tree_checker.specs.declared.doc.TreeLine.{TreeLine}
use Rattle.tree_board.specs.Boards.{Board}
use Rattle.tree_board.specs.Facts.{IsAmong, IsBoard}
use Rattle.tree_board.specs.NodeStates.{NodeState, Open, Split, Rejected, Settled, Shut, Found, Covered, Heavy}
use Rattle.tree_board.specs.Nodes.{Node}
use Rattle.tree_board.specs.Settings.{Setting}
use Rattle.tree_board.specs.Splits.{is_below, one_if}
use Rattle.tree_board.proofs.Below.{split_at}
use Rattle.tree_board.proofs.Climbing.{child_path, tail_is_parents}
use Rattle.tree_board.proofs.Places.{same_some}
use Rattle.tree_board.proofs.TreeOrder.{before_beside}
use Rattle.board_tree.proofs.OwnNames.{named_node}
use Rattle.board_tree.specs.Lines.{line_of, numbers_from, kids_of, name_of, before, in_place, by_name, lines_from, lines_within, lines_of}

-- ---- counts of nodes

-- how many of the nodes stand at that one or below it
abbrev pub size_below : ℕ → List Node → ℕ
size_below top [] = 0
size_below top (node ∷ nodes) = one_if (is_below top node) + size_below top nodes

-- below each of some nodes, together
abbrev sizes_below : List ℕ → List Node → ℕ
sizes_below [] nodes = 0
sizes_below (top ∷ tops) nodes = size_below top nodes + sizes_below tops nodes

-- below how many of some nodes a node stands
abbrev times_below : List ℕ → Node → ℕ
times_below [] node = 0
times_below (top ∷ tops) node = one_if (is_below top node) + times_below tops node

-- the path begins with that number
abbrev begins_with : ℕ → List ℕ → Bool
begins_with number [] = false
begins_with number (first ∷ path) = nat_eq number first

abbrev starts_of : ℕ → List Node → ℕ
starts_of number [] = 0
starts_of number (node ∷ nodes) = one_if (begins_with number node.path) + starts_of number nodes

sizes_cons : (tops : List ℕ) (node : Node) (nodes : List Node) → sizes_below tops (node ∷ nodes) ≡ times_below tops node + sizes_below tops nodes
sizes_cons [] node nodes = refl
sizes_cons (top ∷ tops) node nodes = let rest = sizes_cons tops node nodes in omega (arith, rest)

sizes_none : (tops : List ℕ) → sizes_below tops [] ≡ 0
sizes_none [] = refl
sizes_none (top ∷ tops) = let rest = sizes_none tops in omega (arith, rest)

-- what holds node by node holds of the sums
sums : (number : ℕ) (tops : List ℕ) (nodes : List Node) → ((k : ℕ) (node : Node) → slice_get nodes k ≡ Some node → one_if (begins_with number node.path) + times_below tops node ≤ one_if (is_below number node))
    → starts_of number nodes + sizes_below tops nodes ≤ size_below number nodes
sums number tops [] each = let none = sizes_none tops in omega (arith, none)
sums number tops (node ∷ nodes) each =
    let here = each 0 node refl in
    let rest = sums number tops nodes (λ k one at. each (suc k) one at) in
    let more = sizes_cons tops node nodes in
    omega (arith, here, rest, more)

start_there : (number : ℕ) (nodes : List Node) (k : ℕ) (node : Node) → slice_get nodes k ≡ Some node → begins_with number node.path ≡ true → 0 < starts_of number nodes
start_there number [] k node at begins = absurd (let bad : ⊥ = cc in bad)
start_there number (first ∷ nodes) zero node at begins =
    let one : one_if (begins_with number first.path) ≡ 1 = ap one_if (ap (begins_with number) (ap (λ (n : Node). n.path) (same_some first node at)) ∙ begins) in
    omega (arith, one)
start_there number (first ∷ nodes) (suc k) node at begins = let rest = start_there number nodes k node at begins in omega (arith, rest)

-- ---- paths

among_from : (path : List ℕ) (top : ℕ) → list_any (nat_eq top) path ≡ true → IsAmong path top
among_from [] top there = absurd (true≢false (sym there))
among_from (number ∷ path) top there = elim (either_true (nat_eq top number) (list_any (nat_eq top) path) there) [
  | inl same ↦ inl (sym (eqb-true top number same))
  | inr later ↦ inr (among_from path top later)
]

among_to : (path : List ℕ) (top : ℕ) → IsAmong path top → list_any (nat_eq top) path ≡ true
among_to [] top there = absurd there
among_to (number ∷ path) top (inl same) = or_true (nat_eq top number) (list_any (nat_eq top) path) (inl (eq-eqb top number (sym same)))
among_to (number ∷ path) top (inr later) = or_true (nat_eq top number) (list_any (nat_eq top) path) (inr (among_to path top later))

among_behind : (front path : List ℕ) (top : ℕ) → IsAmong path top → IsAmong (front ++ path) top
among_behind [] path top there = there
among_behind (n ∷ front) path top there = inr (among_behind front path top there)

cmp_itself : (path : List ℕ) → slice_cmp nat_cmp path path ≡ Equal
cmp_itself [] = refl
cmp_itself (n ∷ path) = ap (λ answer. ordering_then answer (slice_cmp nat_cmp path path)) (tied_itself nat_cmp_total n) ∙ cmp_itself path

not_less : (answer : Ordering) → answer ≡ Equal → answer ≡ Less → ⊥
not_less answer equal less = cc

module _ (setting : Setting) (board : Board) (facts : IsBoard setting board) where
  -- a path ends with that of each node on it
  rest_of_path : (number : ℕ) (above : List ℕ) (node : Node) → slice_get board.nodes number ≡ Some node → node.path ≡ number ∷ above → (top : ℕ) (one : Node) → slice_get board.nodes top ≡ Some one → IsAmong (number ∷ above) top
      → (front : List ℕ) × (node.path ≡ front ++ one.path)
  rest_of_path number above node at path top one is (inl same) = ([], ap (λ (n : Node). n.path) (same_some node one (sym at ∙ ap (slice_get board.nodes) same ∙ is)))
  rest_of_path number [] node at path top one is (inr bad) = absurd bad
  rest_of_path number (parent ∷ above) node at path top one is (inr later) =
      let (up, up_at, up_path) = tail_is_parents setting board facts number parent above node at path in
      let (front, same) = rest_of_path parent above up up_at up_path top one is later in
      (number ∷ front, path ∙ ap (λ rest. number ∷ rest) (sym up_path ∙ same))

  ends_with : (number : ℕ) (node : Node) → slice_get board.nodes number ≡ Some node → (top : ℕ) (one : Node) → slice_get board.nodes top ≡ Some one → IsAmong node.path top → (front : List ℕ) × (node.path ≡ front ++ one.path)
  ends_with number node at top one is there =
      let own = facts.each number node at in
      rest_of_path number own.above node at own.path top one is (subst (λ path. IsAmong path top) own.path there)

  module _ (number : ℕ) (node : Node) (inst : Inst) (first : ℕ) (at : slice_get board.nodes number ≡ Some node) (state : node.state ≡ Split inst first) where
    -- a child, and its path
    a_child : (kid : ℕ) → first ≤ kid → kid < first + length inst.conclusions → (one : Node) × (slice_get board.nodes kid ≡ Some one) × (one.path ≡ kid ∷ node.path)
    a_child kid from below =
        let split = split_at setting board facts.each number node inst first at state in
        child_path board.nodes first node.path node.lits node.barred inst.conclusions split.children kid from below

    -- below a child is below the node, and not the node itself
    below_kid : (kid : ℕ) → first ≤ kid → kid < first + length inst.conclusions → (k : ℕ) (other : Node) → slice_get board.nodes k ≡ Some other → IsAmong other.path kid → IsAmong other.path number × (begins_with number other.path ≡ false)
    below_kid kid from below k other is there =
        let (one, one_is, one_path) = a_child kid from below in
        let (front, ends) = ends_with k other is kid one one_is there in
        let whole : other.path ≡ front ++ (kid ∷ node.path) = ends ∙ ap (λ rest. front ++ rest) one_path in
        let own = (facts.each number node at).path in
        let on : IsAmong (kid ∷ node.path) number = inr (subst (λ path. IsAmong path number) (sym own) (inl refl)) in (
          subst (λ path. IsAmong path number) (sym whole) (among_behind front (kid ∷ node.path) number on),
          never_true (begins_with number other.path) (λ begins.
              let k_path = (facts.each k other is).path in
              let same : number ≡ k = eqb-true number k (ap (begins_with number) (sym k_path) ∙ begins) in
              let it : node ≡ other = same_some node other (sym at ∙ ap (slice_get board.nodes) same ∙ is) in
              let long : length other.path ≡ length front + suc (length node.path) = ap length whole ∙ length-append front (kid ∷ node.path) in
              let equal : length node.path ≡ length other.path = ap (λ (n : Node). length n.path) it in
              absurd (omega (arith, long, equal))),
        )

    -- not below two children
    below_one : (i j : ℕ) → first ≤ i → i < j → j < first + length inst.conclusions → (k : ℕ) (other : Node) → slice_get board.nodes k ≡ Some other → IsAmong other.path i → IsAmong other.path j → ⊥
    below_one i j from less below k other is on_i on_j =
        let (one, one_is, one_path) = a_child i from (omega (arith, less, below)) in
        let (two, two_is, two_path) = a_child j (omega (arith, from, less)) below in
        not_less (slice_cmp nat_cmp (reverse other.path) (reverse other.path)) (cmp_itself (reverse other.path))
        (before_beside setting board facts k k i j other other one two is is one_is two_is (ap (drop 1) one_path ∙ sym (ap (drop 1) two_path)) less on_i on_j)

    -- so it is below one child at most, and below the node where it is below one
    at_most_one : (k : ℕ) (other : Node) → slice_get board.nodes k ≡ Some other → (conclusions : List Lit) (kid : ℕ) → first ≤ kid → kid + length conclusions ≡ first + length inst.conclusions
        → (times_below (numbers_from kid conclusions) other ≡ 0) ⊎ ((times_below (numbers_from kid conclusions) other ≡ 1) × (child : ℕ) × (kid ≤ child) × (child < kid + length conclusions) × IsAmong other.path child)
    at_most_one k other is [] kid from all = inl refl
    at_most_one k other is (lit ∷ more) kid from all =
        by (is_below kid other) refl (at_most_one k other is more (suc kid) (omega (arith, from)) (omega (arith, all)))
      where
        by : (test : Bool) → is_below kid other ≡ test → (times_below (numbers_from (suc kid) more) other ≡ 0) ⊎ ((times_below (numbers_from (suc kid) more) other ≡ 1) × (child : ℕ) × (suc kid ≤ child) × (child < suc kid + length more) × IsAmong other.path child)
            → (times_below (numbers_from kid (lit ∷ more)) other ≡ 0) ⊎ ((times_below (numbers_from kid (lit ∷ more)) other ≡ 1) × (child : ℕ) × (kid ≤ child) × (child < kid + length (lit ∷ more)) × IsAmong other.path child)
        by false test (inl none) = let here = ap one_if test in inl (omega (arith, none, here))
        by false test (inr (one, child, low, high, on)) = let here = ap one_if test in inr (omega (arith, one, here), child, omega (arith, low), omega (arith, high), on)
        by true test (inl none) = let here = ap one_if test in inr (omega (arith, none, here), kid, omega arith, omega arith, among_from other.path kid test)
        by true test (inr (one, child, low, high, on)) = absurd (below_one kid child from (omega (arith, low)) (omega (arith, high, all)) k other is (among_from other.path kid test) on)

    each_node : (k : ℕ) (other : Node) → slice_get board.nodes k ≡ Some other → one_if (begins_with number other.path) + times_below (numbers_from first inst.conclusions) other ≤ one_if (is_below number other)
    each_node k other is = elim (at_most_one k other is inst.conclusions first (omega arith) refl) [
      | inl none ↦ starts none (two_cases (begins_with number other.path))
      | inr one ↦
          let (count, child, low, high, on) = one in
          let (under, apart) = below_kid child low high k other is on in
          let a = ap one_if apart in
          let b = ap one_if (among_to other.path number under) in
          omega (arith, count, a, b)
    ]
      where
        starts : times_below (numbers_from first inst.conclusions) other ≡ 0 → (begins_with number other.path ≡ true) ⊎ (begins_with number other.path ≡ false) → one_if (begins_with number other.path) + times_below (numbers_from first inst.conclusions) other ≤ one_if (is_below number other)
        starts none (inr apart) = let a = ap one_if apart in omega (arith, none, a)
        starts none (inl begins) =
            let path = (facts.each k other is).path in
            let same : number ≡ k = eqb-true number k (ap (begins_with number) (sym path) ∙ begins) in
            let on : IsAmong other.path number = subst (λ one. IsAmong one number) (sym path) (inl (sym same)) in
            let a = ap one_if begins in
            let b = ap one_if (among_to other.path number on) in
            omega (arith, none, a, b)

    -- a split node and those below its children
    kids_fit : sizes_below (numbers_from first inst.conclusions) board.nodes < size_below number board.nodes
    kids_fit =
        let all = sums number (numbers_from first inst.conclusions) board.nodes each_node in
        let own = start_there number board.nodes number node at (ap (begins_with number) (facts.each number node at).path ∙ eq-eqb number number refl) in
        omega (arith, all, own)

  -- a node stands at itself
  itself_below : (number : ℕ) (node : Node) → slice_get board.nodes number ≡ Some node → 0 < size_below number board.nodes
  itself_below number node at = counted board.nodes number at
    where
      own : is_below number node ≡ true
      own = among_to node.path number (subst (λ path. IsAmong path number) (sym (facts.each number node at).path) (inl refl))

      counted : (nodes : List Node) (k : ℕ) → slice_get nodes k ≡ Some node → 0 < size_below number nodes
      counted [] k is = absurd (let bad : ⊥ = cc in bad)
      counted (first ∷ nodes) zero is = let one = ap one_if (ap (is_below number) (same_some first node is) ∙ own) in omega (arith, one)
      counted (first ∷ nodes) (suc k) is = let rest = counted nodes k is in omega (arith, rest)

  -- the lines below some nodes are no more than the nodes there
  kids_lines : (below : ℕ → List TreeLine) → ((number : ℕ) → length (below number) ≤ size_below number board.nodes) → (tops : List ℕ) → length (flat_map below tops) ≤ sizes_below tops board.nodes
  kids_lines below each [] = omega arith
  kids_lines below each (top ∷ tops) =
      let here = each top in
      let rest = kids_lines below each tops in
      let size = length-append (below top) (flat_map below tops) in
      omega (arith, here, rest, size)

  place_lines : (below : ℕ → List TreeLine) → ((number : ℕ) → length (below number) ≤ size_below number board.nodes) → (number : ℕ) → length (in_place board below (slice_get board.nodes number)) ≤ size_below number board.nodes
  place_lines below each number = by (slice_get board.nodes number) refl
    where
      state_lines : (node : Node) → slice_get board.nodes number ≡ Some node → (state : NodeState) → node.state ≡ state → length (before (line_of board.nodes state) (flat_map below (kids_of state))) ≤ size_below number board.nodes
      state_lines node at (Split inst first) is =
          let kids = kids_lines below each (numbers_from first inst.conclusions) in
          let fit = kids_fit number node inst first at is in
          omega (arith, kids, fit)
      state_lines node at (Rejected inst) is = let own = itself_below number node at in omega (arith, own)
      state_lines node at (Settled lemma) is = let own = itself_below number node at in omega (arith, own)
      state_lines node at (Shut closure) is = let own = itself_below number node at in omega (arith, own)
      state_lines node at Open is = omega arith
      state_lines node at Found is = omega arith
      state_lines node at (Covered cover) is = omega arith
      state_lines node at (Heavy inst) is = omega arith

      by : (found : Option Node) → slice_get board.nodes number ≡ found → length (in_place board below found) ≤ size_below number board.nodes
      by None at = omega arith
      by (Some node) at = state_lines node at node.state refl

  from_lines : (fuel number : ℕ) → length (lines_from board fuel number) ≤ size_below number board.nodes
  unfolding lines_from
  from_lines zero number = omega arith
  from_lines (suc fuel) number = by (name_of board number) refl (place_lines (λ n. lines_from board fuel n) (λ n. from_lines fuel n) number)
    where
      by : (name : Option ℕ) → name_of board number ≡ name → length (in_place board (λ n. lines_from board fuel n) (slice_get board.nodes number)) ≤ size_below number board.nodes → length (by_name board (λ n. lines_from board fuel n) number name) ≤ size_below number board.nodes
      by None is rest = rest
      by (Some new) is rest =
          let (node, at) = named_node setting board facts number new is in
          let own = itself_below number node at in
          omega (arith, own)

  size_within : (number : ℕ) (nodes : List Node) → size_below number nodes ≤ length nodes
  size_within number [] = omega arith
  size_within number (node ∷ nodes) = by (is_below number node) (size_within number nodes)
    where
      by : (test : Bool) → size_below number nodes ≤ length nodes → one_if test + size_below number nodes ≤ suc (length nodes)
      by true rest = omega (arith, rest)
      by false rest = omega (arith, rest)

  pub tree_lines : (top : ℕ) → length (lines_of board top) ≤ length board.nodes
  tree_lines top =
      let lines = place_lines (λ n. lines_within board n) (λ n. from_lines (length board.nodes) n) top in
      let all = size_within top board.nodes in
      omega (arith, lines, all)
