-- The open ones among the nodes from a number on, and the children of a node, put on to a list.
use Rattle.std.proofs.Common.{◌≡◌, ℕ, zero, suc, ◌+◌, ◌-◌, ◌<◌, ◌≤◌, ◌^◌, Bool, true, false, length, List, [], ◌∷◌, ◌++◌, drop, reverse, slice_get, Option, Some, None, option_map, is_some, refl, sym, ap, ◌∙◌, arith, append_assoc}
use Rattle.std.proofs.lemmas.List.{append-nil, drop_all, reverse-append}
use Rattle.std.specs.Prelude.{option_and_then}
use Rattle.mg_word.specs.declared.lit.Lit.{Lit}
use Rattle.mg_word.specs.declared.form.Inst.{Inst}
use Rattle.mg_meaning.specs.Folding.{Pair}
use Rattle.case_split.specs.declared.child.Closure.{Closure}
use Rattle.tree_board.specs.declared.cell.Cell.{Cell}
use Rattle.tree_board.specs.declared.cell.Settled.{Settled}
use Rattle.tree_board.specs.declared.event.Event.{Event}
use Rattle.tree_board.specs.Boards.{Board, is_closed, own_of}
use Rattle.tree_board.specs.Cells.{StandsForState}
use Rattle.tree_board.specs.CellStanding.{is_open_yet, is_root_closed}
use Rattle.tree_board.specs.declared.tally.Tally.{Tally}
use Rattle.tree_board.specs.Keeping.{IsKeeping}
use Rattle.tree_board.specs.NodeStates.{NodeState, Open, Split, Rejected, Settled as SettledBy, Shut, Found, Covered, Heavy, is_open}
use Rattle.tree_board.specs.Nodes.{Node}
use Rattle.tree_board.specs.OpenLists.{open_by, open_numbers}
use Rattle.tree_board.specs.Readers.{instance_of, first_child_of, shown}
use Rattle.tree_board.specs.Searches.{Search, board_of, setting_of}
use Rattle.tree_board.specs.Settings.{Setting}
use Rattle.tree_board.specs.Workers.{IsKnown, numbers_after, children_by, children_of_node, children_at, number_if, number_by, number_if_open}
use Rattle.tree_board.proofs.Below.{split_at}
use Rattle.tree_board.proofs.Bounds.{few_conclusions}
use Rattle.tree_board.proofs.Budgets.{few_nodes}
use Rattle.tree_board.proofs.Climbing.{child_path}
use Rattle.tree_board.proofs.Kept.{replay_kept}
use Rattle.tree_board.proofs.Places.{same_some, within}
use Rattle.tree_board.proofs.Replays.{replay_board}
use Rattle.tree_board.proofs.Shown.{seen}

module _ (journal : List Event) (closures : List Closure) where
  open_same : (number : ℕ) (settled : Settled) (state : NodeState) → StandsForState journal closures number settled state → is_open_yet settled ≡ is_open state
  open_same number settled Open e = ap is_open_yet e
  open_same number settled (Split inst first) (event, e, at) = ap is_open_yet e
  open_same number settled (Rejected inst) (event, e, at) = ap is_open_yet e
  open_same number settled (SettledBy lemma) e = ap is_open_yet e
  open_same number settled (Shut closure) (place, e, at) = ap is_open_yet e
  open_same number settled Found e = ap is_open_yet e
  open_same number settled (Covered cover) e = ap is_open_yet e
  open_same number settled (Heavy inst) (event, e, at) = ap is_open_yet e

module _ (search : Search) (cells : List Cell) (closures : List Closure) (lemmas : List Pair) (lemma_nodes : List ℕ) (tally : Tally) (keeping : IsKeeping search cells closures lemmas lemma_nodes tally) where
  pub open_kept : (number : ℕ) → option_map (λ (cell : Cell). is_open_yet cell.settled) (slice_get cells number) ≡ option_map (λ (node : Node). is_open node.state) (slice_get (board_of search).nodes number)
  open_kept number = seen search.journal closures (board_of search).kept (λ cell. is_open_yet cell.settled) (λ node. is_open node.state) (λ n cell node stands. open_same search.journal closures n cell.settled node.state stands.settled) 0 cells (board_of search).nodes keeping.stand.nodes number

  pub root_kept : is_root_closed cells ≡ is_closed (board_of search) 0
  root_kept = by cells (board_of search).nodes (seen search.journal closures (board_of search).kept (λ cell. cell.is_closed) (λ node. is_some node.own) (λ n cell node stands. stands.closed) 0 cells (board_of search).nodes keeping.stand.nodes 0)
    where
      by : (list : List Cell) (nodes : List Node) → option_map (λ (cell : Cell). cell.is_closed) (slice_get list 0) ≡ option_map (λ (node : Node). is_some node.own) (slice_get nodes 0) → is_root_closed list ≡ is_some (own_of (slice_get nodes 0))
      by [] [] e = refl
      by [] (node ∷ nodes) e = absurd (let bad : ⊥ = cc in bad)
      by (cell ∷ list) [] e = absurd (let bad : ⊥ = cc in bad)
      by (cell ∷ list) (node ∷ nodes) e = same_some cell.is_closed (is_some node.own) e

  pub known_kept : IsKnown (setting_of search) (board_of search)
  known_kept = record { real = keeping.problem; budget = keeping.budget; weight = keeping.weight; replay = replay_kept search cells closures lemmas lemma_nodes tally keeping }

-- ---- from the last down

-- behind the list stand the open ones from that number on, the greatest first
pub record IsPushed (nodes : List Node) (first : ℕ) (before : List ℕ) (number : ℕ) (list : List ℕ) : Type 0 where
  pub low : first ≤ number
  pub high : number ≤ length nodes
  pub all : list ≡ before ++ reverse (open_numbers number (drop number nodes))

pub pushes_from : (nodes : List Node) (first : ℕ) (before : List ℕ) (number : ℕ) → first ≤ length nodes → number ≡ length nodes → IsPushed nodes first before number before
pushes_from nodes first before number low e = record {
  low = omega (arith, low, e);
  high = omega (arith, e);
  all = sym (ap (λ more. before ++ reverse (open_numbers number more)) (drop_all number nodes (omega (arith, e))) ∙ append-nil before);
}

drop_get : (nodes : List Node) (number : ℕ) (node : Node) → slice_get nodes number ≡ Some node → drop number nodes ≡ node ∷ drop (suc number) nodes
drop_get [] number node at = absurd (let bad : ⊥ = cc in bad)
drop_get (first ∷ nodes) zero node at = ap (λ one. one ∷ nodes) (same_some first node at)
drop_get (first ∷ nodes) (suc number) node at = drop_get nodes number node at

-- what a test says of a node's number
pub number_is : (nodes : List Node) (number : ℕ) (opened : Bool) → option_map (λ (node : Node). is_open node.state) (slice_get nodes number) ≡ Some opened → number_if_open nodes number ≡ number_if opened number
number_is nodes number opened e = by (slice_get nodes number) e
  where
    by : (one : Option Node) → option_map (λ (node : Node). is_open node.state) one ≡ Some opened → number_by one number ≡ number_if opened number
    by None e = absurd (let bad : ⊥ = cc in bad)
    by (Some node) e = ap (λ test. number_if test number) (same_some (is_open node.state) opened e)

open_by_test : (state : NodeState) (number : ℕ) (more : List ℕ) → open_by state number more ≡ number_if (is_open state) number ++ more
open_by_test Open number more = refl
open_by_test (Split inst first) number more = refl
open_by_test (Rejected inst) number more = refl
open_by_test (SettledBy lemma) number more = refl
open_by_test (Shut closure) number more = refl
open_by_test Found number more = refl
open_by_test (Covered cover) number more = refl
open_by_test (Heavy inst) number more = refl

reverse_one : (test : Bool) (number : ℕ) → reverse (number_if test number) ≡ number_if test number
reverse_one true number = refl
reverse_one false number = refl

get_there : (nodes : List Node) (k : ℕ) → k < length nodes → (x : Node) × (slice_get nodes k ≡ Some x)
get_there [] k inside = absurd (omega arith)
get_there (first ∷ nodes) zero inside = (first, refl)
get_there (first ∷ nodes) (suc k) inside = get_there nodes k (omega arith)

pub pushes_on : (nodes : List Node) (first : ℕ) (before : List ℕ) (number next : ℕ) (list after : List ℕ) → IsPushed nodes first before number list → number ≡ next + 1 → first < number → after ≡ list ++ number_if_open nodes next → IsPushed nodes first before next after
pushes_on nodes first before number next list after pushed e more pushes =
    let high = pushed.high in
    let (node, at) = get_there nodes next (omega (arith, high, e)) in
    let one : number ≡ suc next = omega (arith, e) in
    let numbers : open_numbers next (drop next nodes) ≡ number_if (is_open node.state) next ++ open_numbers number (drop number nodes) =
    ap (open_numbers next) (drop_get nodes next node at) ∙ (open_by_test node.state next (open_numbers (suc next) (drop (suc next) nodes)) ∙ ap (λ n. number_if (is_open node.state) next ++ open_numbers n (drop n nodes)) (sym one)) in
    let own : number_if_open nodes next ≡ number_if (is_open node.state) next = ap (λ found. number_by found next) at in
    record {
      low = omega (arith, e, more);
      high = omega (arith, high, e);
      all =
          pushes
          ∙ (ap (λ xs. xs ++ number_if_open nodes next) pushed.all
          ∙ (append_assoc before (reverse (open_numbers number (drop number nodes))) (number_if_open nodes next)
          ∙ ap (λ xs. before ++ xs) (ap (λ xs. reverse (open_numbers number (drop number nodes)) ++ xs) (own ∙ sym (reverse_one (is_open node.state) next)) ∙ sym (ap reverse numbers ∙ reverse-append (number_if (is_open node.state) next) (open_numbers number (drop number nodes))))));
    }

pub pushes_all : (nodes : List Node) (first : ℕ) (before : List ℕ) (number : ℕ) (list : List ℕ) → IsPushed nodes first before number list → number ≤ first → list ≡ before ++ reverse (open_numbers first (drop first nodes))
pushes_all nodes first before number list pushed done =
    let same : number ≡ first = (let low = pushed.low in omega (arith, low, done)) in
    pushed.all ∙ ap (λ n. before ++ reverse (open_numbers n (drop n nodes))) same

-- ---- children

split_shown : (state : NodeState) (first : ℕ) (inst : Inst) → first_child_of state ≡ Some first → instance_of state ≡ Some inst → state ≡ Split inst first
split_shown (Split one number) first inst e f = let a : one ≡ inst = cc in let b : number ≡ first = cc in cc
split_shown Open first inst e f = absurd (let bad : ⊥ = cc in bad)
split_shown (Rejected one) first inst e f = absurd (let bad : ⊥ = cc in bad)
split_shown (SettledBy lemma) first inst e f = absurd (let bad : ⊥ = cc in bad)
split_shown (Shut closure) first inst e f = absurd (let bad : ⊥ = cc in bad)
split_shown Found first inst e f = absurd (let bad : ⊥ = cc in bad)
split_shown (Covered cover) first inst e f = absurd (let bad : ⊥ = cc in bad)
split_shown (Heavy one) first inst e f = absurd (let bad : ⊥ = cc in bad)

-- a node that shows a first child and an instance is split by it
pub record IsSplitBy (nodes : List Node) (number first : ℕ) (inst : Inst) : Type 0 where
  pub node : Node
  pub is : slice_get nodes number ≡ Some node
  pub state : node.state ≡ Split inst first

pub shown_split : (nodes : List Node) (number first : ℕ) (inst : Inst) → shown first_child_of nodes number ≡ Some first → shown instance_of nodes number ≡ Some inst → IsSplitBy nodes number first inst
shown_split nodes number first inst e f = by (slice_get nodes number) refl e f
  where
    by : (one : Option Node) → slice_get nodes number ≡ one → option_and_then (λ (node : Node). first_child_of node.state) one ≡ Some first → option_and_then (λ (node : Node). instance_of node.state) one ≡ Some inst → IsSplitBy nodes number first inst
    by None at e f = absurd (let bad : ⊥ = cc in bad)
    by (Some node) at e f = record { node = node; is = at; state = split_shown node.state first inst e f }

not_split_shown : (state : NodeState) → first_child_of state ≡ None → children_by state ≡ []
not_split_shown (Split inst first) e = absurd (let bad : ⊥ = cc in bad)
not_split_shown Open e = refl
not_split_shown (Rejected inst) e = refl
not_split_shown (SettledBy lemma) e = refl
not_split_shown (Shut closure) e = refl
not_split_shown Found e = refl
not_split_shown (Covered cover) e = refl
not_split_shown (Heavy inst) e = refl

no_instance_shown : (state : NodeState) → instance_of state ≡ None → children_by state ≡ []
no_instance_shown (Split inst first) e = absurd (let bad : ⊥ = cc in bad)
no_instance_shown Open e = refl
no_instance_shown (Rejected inst) e = absurd (let bad : ⊥ = cc in bad)
no_instance_shown (SettledBy lemma) e = refl
no_instance_shown (Shut closure) e = refl
no_instance_shown Found e = refl
no_instance_shown (Covered cover) e = refl
no_instance_shown (Heavy inst) e = absurd (let bad : ⊥ = cc in bad)

pub childless : (nodes : List Node) (number : ℕ) → shown first_child_of nodes number ≡ None → children_at nodes number ≡ []
childless nodes number e = by (slice_get nodes number) e
  where
    by : (one : Option Node) → option_and_then (λ (node : Node). first_child_of node.state) one ≡ None → children_of_node one ≡ []
    by None e = refl
    by (Some node) e = not_split_shown node.state e

pub no_instance : (nodes : List Node) (number : ℕ) → shown instance_of nodes number ≡ None → children_at nodes number ≡ []
no_instance nodes number e = by (slice_get nodes number) e
  where
    by : (one : Option Node) → option_and_then (λ (node : Node). instance_of node.state) one ≡ None → children_of_node one ≡ []
    by None e = refl
    by (Some node) e = no_instance_shown node.state e

pub split_children : (nodes : List Node) (number first : ℕ) (inst : Inst) → IsSplitBy nodes number first inst → children_at nodes number ≡ numbers_after first inst.conclusions
split_children nodes number first inst split = ap children_of_node split.is ∙ ap children_by split.state

-- so many numbers, one after another
abbrev pub counted : ℕ → ℕ → List ℕ
counted first zero = []
counted first (suc count) = first ∷ counted (suc first) count

pub counted_more : (first k : ℕ) → counted first (suc k) ≡ counted first k ++ (first + k) ∷ []
counted_more first zero = ap (λ n. n ∷ []) (let e : first ≡ first + 0 = omega arith in e)
counted_more first (suc k) =
    ap (λ xs. first ∷ xs) (counted_more (suc first) k)
    ∙ ap (λ n. first ∷ (counted (suc first) k ++ n ∷ [])) (let e : suc first + k ≡ first + suc k = omega arith in e)

pub all_counted : (first : ℕ) (lits : List Lit) → numbers_after first lits ≡ counted first (length lits)
all_counted first [] = refl
all_counted first (lit ∷ lits) = ap (λ xs. first ∷ xs) (all_counted (suc first) lits)

-- few children, and their numbers fit
pub record HasFew (first : ℕ) (inst : Inst) : Type 0 where
  pub few : length inst.conclusions ≤ 64
  pub small : (place : ℕ) → place < length inst.conclusions → first + place < 2 ^ 32

pub children_few : (setting : Setting) (board : Board) → IsKnown setting board → (number first : ℕ) (inst : Inst) → IsSplitBy board.nodes number first inst → HasFew first inst
children_few setting board known number first inst split =
    let facts = replay_board setting board known.real known.replay in
    let own = split_at setting board facts.each number split.node inst first split.is split.state in
    let nodes = few_nodes setting board known.real known.replay known.budget in
    record {
      few = few_conclusions setting.problem known.real inst own.least.instance;
      small = λ place below.
          let (x, x_at, path) = child_path board.nodes first split.node.path split.node.lits split.node.barred inst.conclusions own.children (first + place) (omega arith) (omega (arith, below)) in
          let inside = within board.nodes (first + place) x x_at in
          omega (arith, nodes, inside);
    }

pub counted_step : (first place : ℕ) (before list after : List ℕ) → list ≡ before ++ counted first place → after ≡ list ++ (first + place) ∷ [] → after ≡ before ++ counted first (place + 1)
counted_step first place before list after listed pushed =
    let next : place + 1 ≡ suc place = omega arith in
    pushed
    ∙ (ap (λ xs. xs ++ (first + place) ∷ []) listed
    ∙ (append_assoc before (counted first place) ((first + place) ∷ [])
    ∙ ap (λ xs. before ++ xs) (sym (ap (counted first) next ∙ counted_more first place))))

pub counted_end : (nodes : List Node) (number first place : ℕ) (inst : Inst) (before list : List ℕ) → IsSplitBy nodes number first inst → list ≡ before ++ counted first place → place ≡ length inst.conclusions → list ≡ before ++ children_at nodes number
counted_end nodes number first place inst before list split listed done =
    listed ∙ ap (λ xs. before ++ xs) (ap (counted first) done ∙ (sym (all_counted first inst.conclusions) ∙ sym (split_children nodes number first inst split)))
