-- The sets of found nodes, put in order, are the leaves.
use Rattle.std.proofs.Common.{◌≡◌, ◌≢◌, ◌+◌, ◌<◌, ◌≤◌, ◌↔◌, ℕ, zero, suc, Bool, true, false, true≢false, List, [], ◌∷◌, ◌++◌, length, take, get_or, slice_get, Option, Some, None, option_map, All, AllPairs, Contains, Decides, IsPermutation, IsSorted, refl, sym, ap, subst, ◌∙◌, inl, inr, arith}
use Rattle.std.specs.Fn.{Called, ComparesAs}
use denote.Param.Members.{Mut}
use denote.Ref.{Bor}
use Rattle.std.specs.List.Sorted.{IsSortedBy}
use Rattle.std.specs.Cmp.{IsStrictWeakOrder}
use Rattle.std.specs.Ordering.{eq_by_cmp, is_eq, is_lt, ordering_reverse}
use Rattle.std.specs.declared.cmp.Ordering.{Ordering}
use Rattle.std.specs.declared.cmp.Ordering.TheVariants.{Equal, Greater, Less}
use Rattle.std.proofs.lemmas.Bool.{and_from}
use Rattle.std.proofs.lemmas.Bool.Decides.{same_from_decides}
use Rattle.std.proofs.lemmas.Cmp.{tied_itself}
use Rattle.std.proofs.lemmas.Fn.{always_returns_same}
use Rattle.std.proofs.lemmas.List.Elements.{Contains-get_or}
use Rattle.std.proofs.lemmas.List.Kept.{AllPairs-cons}
use Rattle.std.proofs.lemmas.List.Sorted.{Contains-permutation, IsPermutation-sym, ranks_by}
use Rattle.std.proofs.lemmas.Map.Keys.{IsDistinct-IsPermutation}
use Rattle.std.proofs.lemmas.Map.Made.{AllPairs-from_IsDistinct, IsDistinct-from_AllPairs}
use Rattle.mg_word.specs.OrderLaws.{is_tie, lits_same, lits_total}
use Rattle.mg_word.specs.Orders.{lits_cmp}
use Rattle.mg_word.specs.Sets.{holds, is_part, set_of}
use Rattle.mg_word.specs.declared.lit.Lit.{Lit}
use Rattle.mg_word.proofs.Members.{part_from}
use Rattle.mg_word.proofs.RisingLists.{holds-set_of}
use Rattle.mg_meaning.specs.Minimality.{are_sets_rising, is_set_below_first}
use Rattle.mg_meaning.proofs.Lists.{Contains-cases, Contains-first, Contains-later, Contains-none}
use Rattle.mg_meaning.specs.Folding.{Pair}
use Rattle.case_split.specs.declared.child.Closure.{Closure}
use Rattle.tree_board.specs.declared.cell.Cell.{Cell}
use Rattle.tree_board.specs.Boards.{Board}
use Rattle.tree_board.specs.CellStanding.{is_found_set}
use Rattle.tree_board.specs.declared.tally.Tally.{Tally}
use Rattle.tree_board.specs.Keeping.{IsKeeping}
use Rattle.tree_board.specs.Readers.{lits_of}
use Rattle.tree_board.specs.Searches.{Search, board_of}
use Rattle.tree_board.specs.Facts.{IsBoard}
use Rattle.tree_board.specs.FoundSets.{found_set, found_sets, set_if}
use Rattle.tree_board.specs.Leaves.{IsFoundSet, ListsFound}
use Rattle.tree_board.specs.NodeStates.{Covered, Found, Heavy, NodeState, Open, Rejected, Settled, Shut, Split, is_found}
use Rattle.tree_board.specs.Nodes.{Node}
use Rattle.tree_board.specs.Settings.{Setting}
use Rattle.tree_board.proofs.Living.{none_is_lost}
use Rattle.tree_board.proofs.Places.{same_some}
use Rattle.tree_board.proofs.QuickSettling.{found_here, some_node}

-- ---- one node further

put_behind : (found : Bool) (set : List Lit) (sets more : List (List Lit)) → set_if found set (sets ++ more) ≡ set_if found set sets ++ more
put_behind true set sets more = refl
put_behind false set sets more = refl

pub found_more : (nodes : List Node) (i : ℕ) → found_sets (take (suc i) nodes) ≡ found_sets (take i nodes) ++ found_set (slice_get nodes i)
found_more [] zero = refl
found_more [] (suc i) = refl
found_more (node ∷ nodes) zero = refl
found_more (node ∷ nodes) (suc i) = ap (set_if (is_found node.state) (set_of node.lits)) (found_more nodes i) ∙ put_behind (is_found node.state) (set_of node.lits) (found_sets (take i nodes)) (found_set (slice_get nodes i))

-- ---- whose sets they are

found_state : (state : NodeState) → is_found state ≡ true → state ≡ Found
found_state Found e = refl
found_state Open e = absurd (true≢false (sym e))
found_state (Split inst first) e = absurd (true≢false (sym e))
found_state (Rejected inst) e = absurd (true≢false (sym e))
found_state (Settled lemma) e = absurd (true≢false (sym e))
found_state (Shut closure) e = absurd (true≢false (sym e))
found_state (Covered cover) e = absurd (true≢false (sym e))
found_state (Heavy inst) e = absurd (true≢false (sym e))

-- the set is that of a found node of the list
record IsSetAmong (nodes : List Node) (set : List Lit) : Type 0 where
  pub number : ℕ
  pub node : Node
  pub is : slice_get nodes number ≡ Some node
  pub found : is_found node.state ≡ true
  pub same : set_of node.lits ≡ set

later : (first : Node) (nodes : List Node) (set : List Lit) → IsSetAmong nodes set → IsSetAmong (first ∷ nodes) set
later first nodes set one = record { number = suc one.number; node = one.node; is = one.is; found = one.found; same = one.same }

set_there : (nodes : List Node) (set : List Lit) → Contains (found_sets nodes) set → IsSetAmong nodes set
set_there [] set there = absurd (Contains-none set there)
set_there (node ∷ nodes) set there = by (is_found node.state) refl (λ rest. set_there nodes set rest) there
  where
    by : (found : Bool) → is_found node.state ≡ found → (Contains (found_sets nodes) set → IsSetAmong nodes set) → Contains (set_if found (set_of node.lits) (found_sets nodes)) set → IsSetAmong (node ∷ nodes) set
    by true found go one = elim (Contains-cases (set_of node.lits) (found_sets nodes) set one) [
      | inl same ↦ record { number = 0; node = node; is = refl; found = found; same = same }
      | inr rest ↦ later node nodes set (go rest)
    ]
    by false found go rest = later node nodes set (go rest)

there_set : (nodes : List Node) (number : ℕ) (node : Node) → slice_get nodes number ≡ Some node → is_found node.state ≡ true → Contains (found_sets nodes) (set_of node.lits)
there_set [] number node at found = absurd (let bad : ⊥ = cc in bad)
there_set (first ∷ nodes) zero node at found =
    let same = same_some first node at in
    let yes : is_found first.state ≡ true = ap (λ (one : Node). is_found one.state) same ∙ found in
    subst (λ b. Contains (set_if b (set_of first.lits) (found_sets nodes)) (set_of node.lits)) (sym yes)
    (subst (λ (one : Node). Contains (set_of first.lits ∷ found_sets nodes) (set_of one.lits)) same (Contains-first (set_of first.lits) (found_sets nodes)))
there_set (first ∷ nodes) (suc number) node at found = by (is_found first.state) (there_set nodes number node at found)
  where
    by : (b : Bool) → Contains (found_sets nodes) (set_of node.lits) → Contains (set_if b (set_of first.lits) (found_sets nodes)) (set_of node.lits)
    by true rest = Contains-later (set_of first.lits) (found_sets nodes) (set_of node.lits) rest
    by false rest = rest

-- ---- that they differ

abbrev OneEach : List Node → Type 0
OneEach nodes = (a b : ℕ) (one two : Node) → slice_get nodes a ≡ Some one → slice_get nodes b ≡ Some two → is_found one.state ≡ true → is_found two.state ≡ true → set_of one.lits ≡ set_of two.lits → a ≡ b

sets_differ : (nodes : List Node) → OneEach nodes → AllPairs (λ a b. a ≢ b) (found_sets nodes)
sets_differ [] each = λ i j d less small. absurd (omega (arith, small))
sets_differ (node ∷ nodes) each = by (is_found node.state) refl (sets_differ nodes (λ a b one two at_a at_b found_a found_b same. let e = each (suc a) (suc b) one two at_a at_b found_a found_b same in omega (arith, e)))
  where
    by : (found : Bool) → is_found node.state ≡ found → AllPairs (λ a b. a ≢ b) (found_sets nodes) → AllPairs (λ a b. a ≢ b) (set_if found (set_of node.lits) (found_sets nodes))
    by true found rest = AllPairs-cons (λ a b. a ≢ b) (set_of node.lits) (found_sets nodes)
        (λ k d inside same.
        let other = set_there nodes (get_or (found_sets nodes) k d) (Contains-get_or (found_sets nodes) k d inside) in
        let e = each 0 (suc other.number) node other.node refl other.is found other.found (same ∙ sym other.same) in
        absurd (omega (arith, e)))
        rest
    by false found rest = rest

found_once : (setting : Setting) (board : Board) → IsBoard setting board → OneEach board.nodes
found_once setting board facts a b one two at_a at_b found_a found_b same =
    let part : (these those : List Lit) → set_of these ≡ set_of those → is_part these those ≡ true =
    λ these those equal. part_from these those (λ lit held. sym (holds-set_of those lit) ∙ (ap (λ set. holds set lit) (sym equal) ∙ (holds-set_of these lit ∙ held))) in
    (none_is_lost setting board facts).different a b one two at_a at_b (found_state one.state found_a) (found_state two.state found_b) (part one.lits two.lits same) (part two.lits one.lits (sym same))

-- what a sort by a closure that compares by the order of sets leaves
pub sorted_by_sets : {F : Type 0} {g : Mut F (Bor (List Lit) × (Bor (List Lit) × Unit {0})) Ordering} {f : F} (sets : List (List Lit)) → ((lt : List Lit → List Lit → Bool) → IsStrictWeakOrder lt → ComparesAs g lt f → IsSortedBy lt sets)
    → ((a : Bor (List Lit) × (Bor (List Lit) × Unit {0})) (r : Ordering) (f' : F) → Called g f a r f' → (r ≡ lits_cmp a.0.now a.1.0.now) × (f' ≡ f)) → IsSorted lits_cmp sets
sorted_by_sets {g = g} {f = f} sets up compares =
    up (λ x y. is_lt (lits_cmp x y)) (ranks_by lits_total (λ set. set)) (always_returns_same g (λ a r. is_lt r ≡ is_lt (lits_cmp a.0.now a.1.0.now)) f (λ a r f' called. let one = compares a r f' called in (ap is_lt one.0, one.1)))

-- ---- in order

same_decides : (a b : List Lit) → Decides (eq_by_cmp lits_cmp a b) (a ≡ b)
same_decides a b = (λ e. lits_same a b (is_tie (lits_cmp a b) e), λ same. ap (λ set. is_eq (lits_cmp a set)) (sym same) ∙ ap is_eq (tied_itself lits_total a))

same_flips : (a b : List Lit) → eq_by_cmp lits_cmp a b ≡ eq_by_cmp lits_cmp b a
same_flips a b = same_from_decides (eq_by_cmp lits_cmp a b) (eq_by_cmp lits_cmp b a) (same_decides a b) (λ e. sym ((same_decides b a).0 e), λ same. (same_decides b a).1 (sym same))

still_differ : (sets sorted : List (List Lit)) → IsPermutation sets sorted → AllPairs (λ a b. a ≢ b) sets → AllPairs (λ a b. a ≢ b) sorted
still_differ sets sorted moved apart = AllPairs-from_IsDistinct same_decides sorted (IsDistinct-IsPermutation (eq_by_cmp lits_cmp) same_flips sets sorted moved (IsDistinct-from_AllPairs same_decides sets apart))

below : (a b : List Lit) (answer : Ordering) → lits_cmp a b ≡ answer → is_lt (lits_cmp b a) ≡ false → a ≢ b → is_lt answer ≡ true
below a b Less is not_above apart = refl
below a b Equal is not_above apart = absurd (apart (lits_same a b is))
below a b Greater is not_above apart = absurd (true≢false (sym (ap is_lt (lits_total.antisymm b a ∙ ap ordering_reverse is)) ∙ not_above))

sets_rise : (sets : List (List Lit)) → IsSorted lits_cmp sets → AllPairs (λ a b. a ≢ b) sets → are_sets_rising sets ≡ true
sets_rise [] up apart = refl
sets_rise (set ∷ sets) up apart =
    and_from (is_set_below_first set sets) (are_sets_rising sets) (first sets (λ d inside. up 0 d (omega arith) (omega (arith, inside))) (λ d inside. apart 0 1 d (omega arith) (omega (arith, inside))))
    (sets_rise sets
    (λ k d low small. subst (λ n. is_lt (lits_cmp (get_or (set ∷ sets) n d) (get_or sets k d)) ≡ false) (let e : suc k + 1 ≡ suc (k + 1) = omega arith in e) (up (suc k) d (omega arith) (omega (arith, small))))
    (λ i j d less small. apart (suc i) (suc j) d (omega (arith, less)) (omega (arith, small))))
  where
    first : (rest : List (List Lit)) → ((d : List Lit) → 0 < length rest → is_lt (lits_cmp (get_or rest 0 d) set) ≡ false) → ((d : List Lit) → 0 < length rest → set ≢ get_or rest 0 d) → is_set_below_first set rest ≡ true
    first [] not_above differs = refl
    first (next ∷ rest) not_above differs = below set next (lits_cmp set next) refl (not_above next (omega arith)) (differs next (omega arith))

pub found_differently : (setting : Setting) (board : Board) → IsBoard setting board → (sets : List (List Lit)) → sets ≡ found_sets board.nodes → AllPairs (λ a b. a ≢ b) sets
found_differently setting board facts sets are = subst (AllPairs (λ a b. a ≢ b)) (sym are) (sets_differ board.nodes (found_once setting board facts))

pub leaves_are : (board : Board) (sets sorted : List (List Lit)) → sets ≡ found_sets board.nodes → AllPairs (λ a b. a ≢ b) sets → IsPermutation sets sorted → IsSorted lits_cmp sorted → ListsFound board sorted
leaves_are board sets sorted are apart moved up = record {
  rising = sets_rise sorted up (still_differ sets sorted moved apart);
  exact = λ set. (
    λ there.
        let one = set_there board.nodes set (subst (λ all. Contains all set) are (Contains-permutation sorted sets set (IsPermutation-sym sets sorted moved) there)) in
        record { number = one.number; node = one.node; is = one.is; found = found_state one.node.state one.found; same = one.same },
    λ found.
        Contains-permutation sets sorted set moved (subst (λ all. Contains all set) (sym are) (subst (Contains (found_sets board.nodes)) found.same (there_set board.nodes found.number found.node found.is (ap is_found found.found)))),
  );
}

pub take_whole : {X : Type 0} (xs : List X) (n : ℕ) → length xs ≤ n → take n xs ≡ xs
take_whole [] zero all = refl
take_whole [] (suc n) all = refl
take_whole (x ∷ xs) zero all = absurd (omega (arith, all))
take_whole (x ∷ xs) (suc n) all = ap (λ rest. x ∷ rest) (take_whole xs n (omega (arith, all)))

-- one node further, as a loop counts
pub found_step : (nodes : List Node) (i : ℕ) (sets pushed : List (List Lit)) → sets ≡ found_sets (take i nodes) → pushed ≡ sets ++ found_set (slice_get nodes i) → pushed ≡ found_sets (take (i + 1) nodes)
found_step nodes i sets pushed are more =
    more ∙ (ap (λ all. all ++ found_set (slice_get nodes i)) are ∙ (sym (found_more nodes i) ∙ ap (λ n. found_sets (take n nodes)) (let e : suc i ≡ i + 1 = omega arith in e)))

pub found_all : (nodes : List Node) (i : ℕ) (sets : List (List Lit)) → sets ≡ found_sets (take i nodes) → length nodes ≤ i → sets ≡ found_sets nodes
found_all nodes i sets are all = are ∙ ap found_sets (take_whole nodes i all)

-- ---- the set of one node

module _ (value : Search) (cells : List Cell) (closures : List Closure) (lemmas : List Pair) (lemma_nodes : List ℕ) (tally : Tally) (keeping : IsKeeping value cells closures lemmas lemma_nodes tally) where
  pub no_set : (number : ℕ) → number < length (board_of value).nodes → option_map (λ (cell : Cell). is_found_set cell.settled) (slice_get cells number) ≡ Some false → found_set (slice_get (board_of value).nodes number) ≡ []
  no_set number small unfound =
      let (node, at) = some_node value cells closures lemmas lemma_nodes tally keeping (board_of value).nodes number small in
      let test : is_found node.state ≡ false = same_some (is_found node.state) false (sym (found_here value cells closures lemmas lemma_nodes tally keeping number node at) ∙ unfound) in
      ap found_set at ∙ ap (λ b. set_if b (set_of node.lits) []) test

  pub one_set : (number : ℕ) → number < length (board_of value).nodes → option_map (λ (cell : Cell). is_found_set cell.settled) (slice_get cells number) ≡ Some true → (lits : List Lit) → lits_of (board_of value).nodes number ≡ Some lits
      → found_set (slice_get (board_of value).nodes number) ≡ set_of lits ∷ []
  one_set number small found lits lits_is =
      let (node, at) = some_node value cells closures lemmas lemma_nodes tally keeping (board_of value).nodes number small in
      let test : is_found node.state ≡ true = same_some (is_found node.state) true (sym (found_here value cells closures lemmas lemma_nodes tally keeping number node at) ∙ found) in
      let own : node.lits ≡ lits = same_some node.lits lits (sym (ap (option_map (λ (one : Node). one.lits)) at) ∙ lits_is) in
      ap found_set at ∙ (ap (λ b. set_if b (set_of node.lits) []) test ∙ ap (λ held. set_of held ∷ []) own)
