-- The climb of the cells is that of the board that they stand for.
use Rattle.std.proofs.Common.{◌≡◌, ℕ, ◌+◌, ◌<◌, Bool, true, false, true≢false, cond, nat_eq, List, [], ◌∷◌, ◌++◌, length, is_some, slice_get, Option, Some, None, if◌then◌else◌, refl, sym, ap, subst, ◌∙◌, arith}
use Rattle.std.specs.Prelude.{option_and_then}
use Rattle.std.proofs.lemmas.Bool.{eqb-true, eq-eqb}
use Rattle.std.proofs.lemmas.List.{append-nil}
use Rattle.std.proofs.lemmas.Option.{slice_get_within}
use Rattle.mg_meaning.specs.Folding.{Pair}
use Rattle.case_split.specs.declared.child.Closure.{Closure}
use Rattle.tree_board.specs.declared.cell.Cell.{Cell}
use Rattle.tree_board.specs.declared.event.Event.{Event}
use Rattle.tree_board.specs.Boards.{Board, own_of, is_closed}
use Rattle.tree_board.specs.CellClimbs.{due_cell, CloseBy, up_from, next_up, Climbs, ClimbsOn}
use Rattle.tree_board.specs.Cells.{StandsFor, StandForBoard, parent_of}
use Rattle.tree_board.specs.Closings.{due, closed_by, closed_node, closed_at, climb}
use Rattle.tree_board.specs.Facts.{IsPath, IsBoard}
use Rattle.tree_board.specs.Nodes.{Node}
use Rattle.tree_board.specs.Searches.{Search, setting_of}
use Rattle.tree_board.specs.Settings.{Setting}
use Rattle.tree_board.proofs.Below.{split_at}
use Rattle.tree_board.proofs.CellClosings.{closes_board}
use Rattle.tree_board.proofs.Climbing.{tail_is_parents}
use Rattle.tree_board.proofs.Closing.{closed_at_board}
use Rattle.tree_board.proofs.Kept.{cell_at, length_seen}
use Rattle.tree_board.proofs.Places.{same_some, get_set_same}

-- the climb has come to the node with this number, and the rest of it leads to the target
pub record IsReached (search : Search) (journal : List Event) (closures : List Closure) (target : Board) (number : ℕ) (cells : List Cell) (lemmas : List Pair) (owners : List ℕ) : Type 0 where
  pub board : Board
  pub node : Node
  pub facts : IsBoard (setting_of search) board
  pub is : slice_get board.nodes number ≡ Some node
  pub stand : StandForBoard journal board cells closures lemmas owners
  pub same : climb (setting_of search) node.path board ≡ target

-- so from whatever board they stood for at the start
abbrev pub Reaches : List Event → ℕ → List Cell → List Pair → List ℕ → ℕ → List Cell → List Pair → List ℕ → Type 0
Reaches journal start cells lemmas owners number now_cells now_lemmas now_owners =
    (search : Search) (board : Board) (node : Node) (closures : List Closure) → IsBoard (setting_of search) board → slice_get board.nodes start ≡ Some node → StandForBoard journal board cells closures lemmas owners
    → IsReached search journal closures (climb (setting_of search) node.path board) number now_cells now_lemmas now_owners

-- the same where so many lemmas were kept before, and these are to be kept after them
abbrev pub ReachesOn : List Event → ℕ → ℕ → List Cell → List Pair → List ℕ → ℕ → List Cell → List Pair → List ℕ → Type 0
ReachesOn journal start count cells more nodes number now_cells now_more now_nodes =
    (lemmas : List Pair) (owners : List ℕ) → length lemmas ≡ count → Reaches journal start cells (lemmas ++ more) (owners ++ nodes) number now_cells (lemmas ++ now_more) (owners ++ now_nodes)

pub reaches_start : (journal : List Event) (start : ℕ) (cells : List Cell) (lemmas : List Pair) (owners : List ℕ) → Reaches journal start cells lemmas owners start cells lemmas owners
reaches_start journal start cells lemmas owners search board node closures facts at stand = record { board = board; node = node; facts = facts; is = at; stand = stand; same = refl }

climb_turn : (setting : Setting) (number : ℕ) (above : List ℕ) (board : Board) → climb setting (number ∷ above) board ≡ (if is_closed (closed_at setting board number) number then climb setting above (closed_at setting board number) else closed_at setting board number)
unfolding climb
climb_turn setting number above board = refl

climb_end : (setting : Setting) (board : Board) → climb setting [] board ≡ board
unfolding climb
climb_end setting board = refl

-- closing keeps the path of the node
path_kept : (setting : Setting) (board : Board) (number : ℕ) (node : Node) → slice_get board.nodes number ≡ Some node → (after : Node) × (slice_get (closed_at setting board number).nodes number ≡ Some after) × (after.path ≡ node.path)
unfolding closed_at
path_kept setting board number node at =
    subst (λ (one : Option Node). (after : Node) × (slice_get (closed_node setting board number one).nodes number ≡ Some after) × (after.path ≡ node.path)) (sym at) (by (due board.nodes node))
  where
    by : (pair : Option Pair) → (after : Node) × (slice_get (closed_by setting board number node pair).nodes number ≡ Some after) × (after.path ≡ node.path)
    by None = (node, at, refl)
    by (Some pair) = (record node { own = Some pair }, get_set_same board.nodes number node (record node { own = Some pair }) at, refl)

-- what `next_up` answers
record GoesUp (number : ℕ) (cell : Cell) (parent : ℕ) : Type 0 where
  pub apart : nat_eq number 0 ≡ false
  pub closed : cell.is_closed ≡ true
  pub is : cell.parent ≡ parent

goes_up : (number : ℕ) (cell : Cell) (parent : ℕ) → up_from number cell ≡ Some parent → GoesUp number cell parent
goes_up number cell parent e = by (nat_eq number 0) refl cell.is_closed refl e
  where
    by : (root : Bool) → nat_eq number 0 ≡ root → (closed : Bool) → cell.is_closed ≡ closed → cond root None (cond closed (Some cell.parent) None) ≡ Some parent → GoesUp number cell parent
    by true root closed is e = absurd (let bad : ⊥ = cc in bad)
    by false root true is e = record { apart = root; closed = is; is = same_some cell.parent parent e }
    by false root false is e = absurd (let bad : ⊥ = cc in bad)

stops_at : (number : ℕ) (cell : Cell) → up_from number cell ≡ None → (above : List ℕ) → (number ≡ 0 → above ≡ []) → (X : Type 0) → (above ≡ [] → X) → (cell.is_closed ≡ false → X) → X
stops_at number cell e above root X at_root open_here = by (nat_eq number 0) refl cell.is_closed refl e
  where
    by : (zero_is : Bool) → nat_eq number 0 ≡ zero_is → (closed : Bool) → cell.is_closed ≡ closed → cond zero_is None (cond closed (Some cell.parent) None) ≡ None → X
    by true zero_is closed is e = at_root (root (eqb-true number 0 zero_is))
    by false zero_is true is e = absurd (let bad : ⊥ = cc in bad)
    by false zero_is false is e = open_here is

module _ (search : Search) (journal : List Event) (closures : List Closure) (target : Board) (number : ℕ) (cells : List Cell) (lemmas : List Pair) (owners : List ℕ) (reached : IsReached search journal closures target number cells lemmas owners) where
  pub reached_within : number < length cells
  reached_within =
      let small = slice_get_within reached.board.nodes number reached.node reached.is in
      let size = length_seen journal closures reached.board.kept 0 cells reached.board.nodes reached.stand.nodes in
      omega (arith, small, size)

  module _ (new_cells : List Cell) (new_lemmas : List Pair) (new_owners : List ℕ) (closes : CloseBy (due_cell cells journal number) number cells lemmas owners new_cells new_lemmas new_owners) where
    abbrev setting : Setting
    setting = setting_of search

    abbrev next : Board
    next = closed_at setting reached.board number

    next_facts : IsBoard setting next
    next_facts = closed_at_board setting reached.board number reached.facts

    next_stand : StandForBoard journal next new_cells closures new_lemmas new_owners
    next_stand = closes_board setting refl journal reached.board reached.facts closures cells lemmas owners reached.stand number reached.node reached.is new_cells new_lemmas new_owners closes

    abbrev above : List ℕ
    above = (reached.facts.each number reached.node reached.is).above

    path : reached.node.path ≡ number ∷ above
    path = (reached.facts.each number reached.node reached.is).path

    turn : target ≡ (if is_closed next number then climb setting above next else next)
    turn = sym reached.same ∙ (ap (λ one. climb setting one reached.board) path ∙ climb_turn setting number above reached.board)

    -- the cell of the node, once it is closed if it can be
    record IsNow : Type 0 where
      pub node : Node
      pub is : slice_get next.nodes number ≡ Some node
      pub path : node.path ≡ number ∷ above
      pub cell : Cell
      pub there : slice_get new_cells number ≡ Some cell
      pub stands : StandsFor journal closures next.kept (0 + number) cell node
      pub closed : is_closed next number ≡ cell.is_closed

    now : IsNow
    now =
        let (node, is, kept) = path_kept setting reached.board number reached.node reached.is in
        let (cell, there, stands) = cell_at journal closures next.kept 0 new_cells next.nodes next_stand.nodes number node is in
        record { node = node; is = is; path = kept ∙ path; cell = cell; there = there; stands = stands; closed = ap (λ one. is_some (own_of one)) is ∙ sym stands.closed }

    up_is : next_up new_cells number ≡ up_from number now.cell
    up_is = ap (option_and_then (up_from number)) now.there

    root_alone : number ≡ 0 → above ≡ []
    root_alone zero_is =
        let (root, root_at, root_path, lits, barred) = reached.facts.root in
        let same : reached.node ≡ root = same_some reached.node root (sym reached.is ∙ (ap (slice_get reached.board.nodes) zero_is ∙ root_at)) in
        tails number 0 above [] (sym path ∙ (ap (λ (n : Node). n.path) same ∙ root_path))
      where
        tails : (a b : ℕ) (xs ys : List ℕ) → a ∷ xs ≡ b ∷ ys → xs ≡ ys
        tails a b xs ys e = cc

    either : (test : Bool) (x y : Board) → x ≡ y → (if test then x else y) ≡ y
    either true x y e = e
    either false x y e = refl

    -- the climb stops at the root, or at a node that is not closed
    pub stops : None ≡ next_up new_cells number → StandForBoard journal target new_cells closures new_lemmas new_owners
    stops e = subst (λ one. StandForBoard journal one new_cells closures new_lemmas new_owners) (sym ends) next_stand
      where
        ends : target ≡ next
        ends = turn ∙ stops_at number now.cell (sym up_is ∙ sym e) above root_alone ((if is_closed next number then climb setting above next else next) ≡ next)
            (λ none. either (is_closed next number) (climb setting above next) next (ap (λ one. climb setting one next) none ∙ climb_end setting next))
            (λ unclosed. ap (λ test. if test then climb setting above next else next) (now.closed ∙ unclosed))

    -- or goes on at the parent
    pub goes_on : (parent : ℕ) → Some parent ≡ next_up new_cells number → IsReached search journal closures target parent new_cells new_lemmas new_owners × (parent < number)
    goes_on parent e = by above now.path turn_up
      where
        goes : GoesUp number now.cell parent
        goes = goes_up number now.cell parent (sym up_is ∙ sym e)

        turn_up : target ≡ climb setting above next
        turn_up = turn ∙ ap (λ test. if test then climb setting above next else next) (now.closed ∙ goes.closed)

        by : (rest : List ℕ) → now.node.path ≡ number ∷ rest → target ≡ climb setting rest next → IsReached search journal closures target parent new_cells new_lemmas new_owners × (parent < number)
        by [] alone target_is =
            let root : number ≡ 0 = subst (IsPath next.nodes) alone (next_facts.each number now.node now.is).rooted in
            let bad : true ≡ false = sym (eq-eqb number 0 root) ∙ goes.apart in
            absurd (true≢false bad)
        by (up ∷ rest) way target_is =
            let (up_node, up_at, up_path) = tail_is_parents setting next next_facts number up rest now.node now.is way in
            let number_is : up ≡ parent = sym (now.stands.parent ∙ ap parent_of way) ∙ goes.is in
            let rooted = subst (IsPath next.nodes) way (next_facts.each number now.node now.is).rooted in
            let child = rooted.0 in
            let split = split_at setting next next_facts.each up child.node child.inst child.first child.is child.state in
            let low = split.later in
            let high = child.from in (
              record {
                board = next;
                node = up_node;
                facts = next_facts;
                is = ap (slice_get next.nodes) (sym number_is) ∙ up_at;
                stand = next_stand;
                same = ap (λ one. climb setting one next) up_path ∙ sym target_is;
              },
              omega (arith, low, high, number_is),
            )

-- what was to be kept is kept
pub climbs_installed : (journal : List Event) (start count : ℕ) (cells : List Cell) (none : List Pair) → none ≡ [] → (no_nodes : List ℕ) → no_nodes ≡ [] → (new_cells : List Cell) (more : List Pair) (nodes : List ℕ) → ClimbsOn journal start count cells none no_nodes new_cells more nodes
    → (lemmas : List Pair) (owners : List ℕ) → length lemmas ≡ count → (new_lemmas : List Pair) → new_lemmas ≡ lemmas ++ more → (new_owners : List ℕ) → new_owners ≡ owners ++ nodes → Climbs journal start cells lemmas owners new_cells new_lemmas new_owners
climbs_installed journal start count cells none none_is no_nodes no_nodes_is new_cells more nodes climbs lemmas owners size new_lemmas lemmas_are new_owners owners_are search board node closures facts at stand =
    let lemmas_same : lemmas ++ none ≡ lemmas = ap (λ some. lemmas ++ some) none_is ∙ append-nil lemmas in
    let owners_same : owners ++ no_nodes ≡ owners = ap (λ some. owners ++ some) no_nodes_is ∙ append-nil owners in
    let before = subst (λ some. StandForBoard journal board cells closures some (owners ++ no_nodes)) (sym lemmas_same) (subst (λ some. StandForBoard journal board cells closures lemmas some) (sym owners_same) stand) in
    let after = climbs lemmas owners size search board node closures facts at before in
    subst (λ some. StandForBoard journal (climb (setting_of search) node.path board) new_cells closures some new_owners) (sym lemmas_are) (subst (λ some. StandForBoard journal (climb (setting_of search) node.path board) new_cells closures (lemmas ++ more) some) (sym owners_are) after)
