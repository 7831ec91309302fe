-- Lines that are written one node at a time.
use Rattle.std.proofs.Common.{◌≡◌, ℕ, zero, suc, ◌+◌, ◌-◌, ◌<◌, ◌≤◌, false, true≢false, if◌then◌else◌, nat_eq, List, [], ◌∷◌, ◌++◌, All, get_or, length, reverse, slice_get, Option, Some, None, Result, Ok, Err, OnOk, option_map, refl, sym, ap, ap₂, subst, ◌∙◌, arith, append_assoc}
use Rattle.std.specs.List.{flat_map, position, range_with_len}
use Rattle.std.specs.Prelude.{option_and_then}
use Rattle.std.proofs.lemmas.List.{append-nil, get_or_append_left, length-append, reverse-append}
use Rattle.std.proofs.lemmas.List.Elements.{All-nil, All-cons, All-append}
use Rattle.std.proofs.lemmas.List.Quantifiers.{position-Some}
use Rattle.std.proofs.lemmas.Grind.{flat_map-append}
use Rattle.std.proofs.lemmas.Option.{slice_get-get_or}
use Rattle.mg_word.specs.Words.{numbered}
use Rattle.mg_word.specs.declared.form.Inst.{Inst}
use Rattle.mg_word.specs.declared.lit.Lit.{Lit}
use Rattle.case_split.specs.declared.child.Closure.{Closure}
use Rattle.tree_checker.specs.declared.doc.TreeLine.{TreeLine}
use Rattle.tree_checker.specs.declared.doc.TreeLine.TheVariants.{Form as FormLine, By}
use Rattle.tree_board.specs.Boards.{Board, Kept}
use Rattle.tree_board.specs.Facts.{IsBoard, StateHolds}
use Rattle.tree_board.specs.NodeStates.{NodeState, Open, Split, Rejected, Settled, Shut, Found, Covered, Heavy, is_live}
use Rattle.tree_board.specs.Nodes.{Node}
use Rattle.tree_board.specs.Readers.{instance_of, first_child_of, lemma_by, closure_at, own_number, lemma_node_at, shown}
use Rattle.tree_board.specs.Searches.{Search, setting_of, board_of}
use Rattle.tree_board.specs.Settings.{Setting}
use Rattle.tree_board.proofs.Below.{split_at}
use Rattle.tree_board.proofs.Climbing.{child_path}
use Rattle.tree_board.proofs.Covering.{closed_none_live}
use Rattle.tree_board.proofs.Places.{same_some, within}
use Rattle.tree_board.proofs.Replays.{replay_board}
use Rattle.board_tree.specs.Lines.{closure_line, line_of, numbers_from, kids_of, used_number, name_of, before, in_place, by_name, lines_from, lines_within, lines_of}
use Rattle.board_tree.specs.Refuted.{IsRefuted}
use Rattle.board_tree.specs.Tables.{names_of, name_in}
use Rattle.board_tree.specs.Used.{new_number}
use Rattle.board_tree.specs.Writing.{line_at, kids_of_found, kids_at, AreNodes, lines_waiting, Writes}
use Rattle.board_tree.proofs.Accepting.{kept_with_pair}
use Rattle.board_tree.proofs.OwnNames.{none_is, named_node}
use Rattle.board_tree.proofs.Tabled.{there_is, name_is}
use Rattle.board_tree.proofs.Uses.{settled_used}

-- ---- enough fuel

module _ (setting : Setting) (board : Board) (facts : IsBoard setting board) where
  kid_later : (number : ℕ) (node : Node) → slice_get board.nodes number ≡ Some node → (inst : Inst) (first : ℕ) → node.state ≡ Split inst first → number < first
  kid_later number node at inst first state = (split_at setting board facts.each number node inst first at state).later

  -- below a node two ways of writing agree, where they do behind it
  kids_same : (from : ℕ) (one two : ℕ → List TreeLine) → ((number : ℕ) → from < number → one number ≡ two number) → (first : ℕ) (conclusions : List Lit) → from < first → flat_map one (numbers_from first conclusions) ≡ flat_map two (numbers_from first conclusions)
  kids_same from one two same first [] later = refl
  kids_same from one two same first (lit ∷ more) later = ap₂ (λ (xs ys : List TreeLine). xs ++ ys) (same first later) (kids_same from one two same (suc first) more (omega (arith, later)))

  place_same : (number : ℕ) (one two : ℕ → List TreeLine) → ((other : ℕ) → number < other → one other ≡ two other) → in_place board one (slice_get board.nodes number) ≡ in_place board two (slice_get board.nodes number)
  place_same number one two same = by (slice_get board.nodes number) refl
    where
      by_state : (node : Node) → slice_get board.nodes number ≡ Some node → (state : NodeState) → node.state ≡ state → before (line_of board.nodes state) (flat_map one (kids_of state)) ≡ before (line_of board.nodes state) (flat_map two (kids_of state))
      by_state node at (Split inst first) is = ap (λ lines. FormLine inst.form inst.subst ∷ lines) (kids_same number one two same first inst.conclusions (kid_later number node at inst first is))
      by_state node at (Rejected inst) is = refl
      by_state node at (Settled lemma) is = refl
      by_state node at (Shut closure) is = refl
      by_state node at Open is = refl
      by_state node at Found is = refl
      by_state node at (Covered cover) is = refl
      by_state node at (Heavy inst) is = refl

      by : (found : Option Node) → slice_get board.nodes number ≡ found → in_place board one found ≡ in_place board two found
      by None at = refl
      by (Some node) at = by_state node at node.state refl

  name_same : (number : ℕ) (one two : ℕ → List TreeLine) → ((other : ℕ) → number < other → one other ≡ two other) → (name : Option ℕ) → by_name board one number name ≡ by_name board two number name
  name_same number one two same None = place_same number one two same
  name_same number one two same (Some new) = refl

  -- behind the last node there is nothing
  none_past : (number : ℕ) → length board.nodes ≤ number → (below : ℕ → List TreeLine) → by_name board below number (name_of board number) ≡ []
  none_past number past below = by_found (name_of board number) refl
    where
      past_node : (node : Node) → slice_get board.nodes number ≡ Some node → ⊥
      past_node node at = absurd (omega (arith, past, within board.nodes number node at))

      nothing : (found : Option Node) → slice_get board.nodes number ≡ found → in_place board below found ≡ []
      nothing None at = refl
      nothing (Some node) at = absurd (past_node node at)

      by_found : (name : Option ℕ) → name_of board number ≡ name → by_name board below number name ≡ []
      by_found None is = nothing (slice_get board.nodes number) refl
      by_found (Some new) is = let (node, at) = named_node setting board facts number new is in absurd (past_node node at)

  steady : (fuel more number : ℕ) → length board.nodes ≤ number + fuel → length board.nodes ≤ number + more → lines_from board fuel number ≡ lines_from board more number
  unfolding lines_from
  steady zero zero number one two = refl
  steady zero (suc more) number one two = sym (none_past number (omega (arith, one)) (λ n. lines_from board more n))
  steady (suc fuel) zero number one two = none_past number (omega (arith, two)) (λ n. lines_from board fuel n)
  steady (suc fuel) (suc more) number one two =
      name_same number (λ n. lines_from board fuel n) (λ n. lines_from board more n) (λ other later. steady fuel more other (omega (arith, one, later)) (omega (arith, two, later))) (name_of board number)

  -- a node within a tree: by its lemma, or in place with the nodes below it within the tree
  one_more : (fuel number : ℕ) → lines_from board (suc fuel) number ≡ by_name board (λ n. lines_from board fuel n) number (name_of board number)
  unfolding lines_from
  one_more fuel number = refl

  pub within_is : (number : ℕ) → lines_within board number ≡ by_name board (λ n. lines_within board n) number (name_of board number)
  within_is number = steady (length board.nodes) (suc (length board.nodes)) number (omega arith) (omega arith) ∙ one_more (length board.nodes) number

-- ---- what waits

reverse_back : {X : Type 0} (items : List X) → reverse (reverse items) ≡ items
reverse_back [] = refl
reverse_back (item ∷ items) = ap reverse (reverse-append (item ∷ []) items) ∙ reverse-append (reverse items) (item ∷ []) ∙ ap (λ rest. item ∷ rest) (reverse_back items)

all_reverse : (P : ℕ → Type 0) (items : List ℕ) → All P items → All P (reverse items)
all_reverse P [] all = All-nil P
all_reverse P (item ∷ items) all =
    subst (All P) (sym (reverse-append (item ∷ []) items))
    (All-append P (reverse items) (item ∷ []) (all_reverse P items (λ k d small. all (suc k) d (omega (arith, small)))) (All-cons P item [] (all 0 item (omega arith)) (All-nil P)))

pub waiting_more : (board : Board) (waiting tops : List ℕ) → lines_waiting board (waiting ++ reverse tops) ≡ flat_map (λ n. lines_within board n) tops ++ lines_waiting board waiting
waiting_more board waiting tops =
    ap (λ turned. flat_map (λ n. lines_within board n) turned) (reverse-append waiting (reverse tops) ∙ ap (λ front. front ++ reverse waiting) (reverse_back tops))
    ∙ flat_map-append (λ n. lines_within board n) tops (reverse waiting)

-- the node on top is written next
pub waiting_top : (board : Board) (waiting : List ℕ) (top : ℕ) → lines_waiting board (waiting ++ top ∷ []) ≡ lines_within board top ++ lines_waiting board waiting
waiting_top board waiting top = ap (λ turned. flat_map (λ n. lines_within board n) turned) (reverse-append waiting (top ∷ []))

numbers_range : (first : ℕ) (conclusions : List Lit) → numbers_from first conclusions ≡ range_with_len first (length conclusions)
numbers_range first [] = refl
numbers_range first (lit ∷ more) =
    let next : suc first ≡ first + 1 = omega arith in
    ap (λ rest. first ∷ rest) (numbers_range (suc first) more ∙ ap (λ n. range_with_len n (length more)) next)

-- one number more, from the last on down
pub down_more : (start now : List ℕ) (first left next count : ℕ) → suc next ≡ left → left ≤ count → now ≡ start ++ reverse (range_with_len (first + left) (count - left)) → now ++ (first + next) ∷ [] ≡ start ++ reverse (range_with_len (first + next) (count - next))
down_more start now first left next count is within same =
    let size : count - next ≡ suc (count - left) = omega (arith, is, within) in
    let after : first + next + 1 ≡ first + left = omega (arith, is) in
    let numbers : range_with_len (first + next) (count - next) ≡ (first + next) ∷ range_with_len (first + left) (count - left) = ap (range_with_len (first + next)) size ∙ ap (λ n. (first + next) ∷ range_with_len n (count - left)) after in
    ap (λ front. front ++ (first + next) ∷ []) same
    ∙ append_assoc start (reverse (range_with_len (first + left) (count - left))) ((first + next) ∷ [])
    ∙ ap (λ back. start ++ back) (sym (ap reverse numbers ∙ reverse-append ((first + next) ∷ []) (range_with_len (first + left) (count - left))))

pub down_begins : (start : List ℕ) (first count : ℕ) → start ≡ start ++ reverse (range_with_len (first + count) (count - count))
down_begins start first count =
    let none : count - count ≡ 0 = omega arith in
    sym (ap (λ size. start ++ reverse (range_with_len (first + count) size)) none ∙ append-nil start)

pub down_ends : (start now : List ℕ) (first count left : ℕ) → left ≤ 0 → now ≡ start ++ reverse (range_with_len (first + left) (count - left)) → now ≡ start ++ reverse (range_with_len first count)
down_ends start now first count left none same =
    let from : first + left ≡ first = omega (arith, none) in
    let size : count - left ≡ count = omega (arith, none) in
    same ∙ ap₂ (λ (a n : ℕ). start ++ reverse (range_with_len a n)) from size

pub none_long : {X : Type 0} (items : List X) → length items ≡ 0 → items ≡ []
none_long [] size = refl
none_long (item ∷ items) size = absurd (omega (arith, size))

-- what follows from a success
pub on_ok : {T E : Type 0} {P Q : Type 0} → (P → Q) → (answer : Result T E) → OnOk answer P → OnOk answer Q
on_ok f (Ok value) holds = f holds
on_ok f (Err error) holds = tt

-- a node's own lemma in the table
pub own_name : (board : Board) (number lemma : ℕ) → own_number board.kept number ≡ Some lemma → name_in (names_of board) lemma ≡ name_of board number
own_name board number lemma is =
    let (one, at) = by (position (λ (one : Kept). nat_eq one.node number) board.kept) refl is in
    name_is board lemma one at ∙ ap (used_number board.nodes) (sym is)
  where
    by : (found : Option ℕ) → position (λ (one : Kept). nat_eq one.node number) board.kept ≡ found → option_map (λ index. suc index) found ≡ Some lemma → (one : Kept) × (numbered board.kept lemma ≡ Some one)
    by None found bad = absurd (none_is lemma bad)
    by (Some index) found same =
        let blank : Kept = record { node = 0; pair = record { inside = []; outside = [] } } in
        let (small, passes, before) = position-Some (λ (one : Kept). nat_eq one.node number) board.kept index blank found in
        (get_or board.kept index blank, ap (numbered board.kept) (sym (same_some (suc index) lemma same)) ∙ slice_get-get_or board.kept index blank small)

-- ---- the nodes of a closed board

module _ (search : Search) (is : IsRefuted search) where
  abbrev board : Board
  board = board_of search

  pub facts : IsBoard (setting_of search) board
  facts = replay_board (setting_of search) board is.problem is.replay

  pub some_root : 0 < length board.nodes
  some_root = let (root, at, path, lits, barred) = facts.root in within board.nodes 0 root at

  -- the node with a number, which is not live
  there : (number : ℕ) → number < length board.nodes → (node : Node) × (slice_get board.nodes number ≡ Some node) × (is_live node.state ≡ false)
  there number small = let (node, at) = there_is board.nodes number small in (node, at, closed_none_live (setting_of search) board facts is.closed number node at)

  -- which line a node has, by what it shows
  pub by_instance : (number : ℕ) → number < length board.nodes → (inst : Inst) → Some inst ≡ shown instance_of board.nodes number → line_at board number ≡ Some (FormLine inst.form inst.subst)
  by_instance number small inst shows =
      let (node, at, dead) = there number small in
      ap (λ found. option_and_then (λ (one : Node). line_of board.nodes one.state) found) at ∙ by node.state dead (shows ∙ ap (λ found. option_and_then (λ (one : Node). instance_of one.state) found) at)
    where
      form_line : (other : Inst) → Some inst ≡ Some other → ◌≡◌ {A = Option TreeLine} (Some (FormLine other.form other.subst)) (Some (FormLine inst.form inst.subst))
      form_line other e = ap (λ (one : Inst). Some (FormLine one.form one.subst)) (sym (same_some inst other e))

      by : (state : NodeState) → is_live state ≡ false → Some inst ≡ instance_of state → line_of board.nodes state ≡ Some (FormLine inst.form inst.subst)
      by (Split other first) dead e = form_line other e
      by (Rejected other) dead e = form_line other e
      by (Heavy other) dead e = absurd (true≢false dead)
      by Open dead e = absurd (none_is inst (sym e))
      by (Settled lemma) dead e = absurd (none_is inst (sym e))
      by (Shut closure) dead e = absurd (none_is inst (sym e))
      by Found dead e = absurd (none_is inst (sym e))
      by (Covered cover) dead e = absurd (none_is inst (sym e))

  pub by_closure : (number : ℕ) → (closure : Closure) → Some closure ≡ shown closure_at board.nodes number → line_at board number ≡ Some (closure_line closure)
  by_closure number closure shows = by_found (slice_get board.nodes number) shows
    where
      by : (state : NodeState) → Some closure ≡ closure_at state → line_of board.nodes state ≡ Some (closure_line closure)
      by (Shut other) e = ap (λ (one : Closure). Some (closure_line one)) (sym (same_some closure other e))
      by (Split inst first) e = absurd (none_is closure (sym e))
      by (Rejected inst) e = absurd (none_is closure (sym e))
      by (Heavy inst) e = absurd (none_is closure (sym e))
      by Open e = absurd (none_is closure (sym e))
      by (Settled lemma) e = absurd (none_is closure (sym e))
      by Found e = absurd (none_is closure (sym e))
      by (Covered cover) e = absurd (none_is closure (sym e))

      by_found : (found : Option Node) → Some closure ≡ option_and_then (λ (one : Node). closure_at one.state) found → option_and_then (λ (one : Node). line_of board.nodes one.state) found ≡ Some (closure_line closure)
      by_found None e = absurd (none_is closure (sym e))
      by_found (Some node) e = by node.state e

  -- the node with a number, by what lemma settled it
  settled_state : (number lemma : ℕ) → Some lemma ≡ shown lemma_by board.nodes number → (node : Node) × (slice_get board.nodes number ≡ Some node) × (node.state ≡ Settled lemma)
  settled_state number lemma shows = by_found (slice_get board.nodes number) refl shows
    where
      by : (state : NodeState) → Some lemma ≡ lemma_by state → state ≡ Settled lemma
      by (Settled other) e = ap Settled (sym (same_some lemma other e))
      by (Shut closure) e = absurd (none_is lemma (sym e))
      by (Split inst first) e = absurd (none_is lemma (sym e))
      by (Rejected inst) e = absurd (none_is lemma (sym e))
      by (Heavy inst) e = absurd (none_is lemma (sym e))
      by Open e = absurd (none_is lemma (sym e))
      by Found e = absurd (none_is lemma (sym e))
      by (Covered cover) e = absurd (none_is lemma (sym e))

      by_found : (found : Option Node) → slice_get board.nodes number ≡ found → Some lemma ≡ option_and_then (λ (one : Node). lemma_by one.state) found → (node : Node) × (slice_get board.nodes number ≡ Some node) × (node.state ≡ Settled lemma)
      by_found None at e = absurd (none_is lemma (sym e))
      by_found (Some node) at e = (node, at, by node.state e)

  -- the lemma that settled a node has a new number
  settled_name : (number lemma : ℕ) → Some lemma ≡ shown lemma_by board.nodes number → name_in (names_of board) lemma ≡ Some (new_number board.nodes lemma)
  settled_name number lemma shows =
      let (node, at, state) = settled_state number lemma shows in
      let holds = subst (StateHolds (setting_of search) board number node) state (facts.each number node at).state in
      let (one, one_at, same) = kept_with_pair board.kept lemma holds.0 holds.1 in
      name_is board lemma one one_at ∙ ap (λ test. if test then Some (new_number board.nodes lemma) else None) (settled_used board.nodes number node lemma at state)

  pub by_lemma : (number lemma new : ℕ) → Some lemma ≡ shown lemma_by board.nodes number → Some new ≡ name_in (names_of board) lemma → line_at board number ≡ Some (By new)
  by_lemma number lemma new shows name =
      let (node, at, state) = settled_state number lemma shows in
      let same : new ≡ new_number board.nodes lemma = same_some new (new_number board.nodes lemma) (name ∙ settled_name number lemma shows) in
      ap (λ found. option_and_then (λ (one : Node). line_of board.nodes one.state) found) at ∙ ap (line_of board.nodes) state ∙ ap (λ n. Some (By n)) (sym same)

  pub unnamed_never : (number lemma : ℕ) → Some lemma ≡ shown lemma_by board.nodes number → None ≡ name_in (names_of board) lemma → ⊥
  unnamed_never number lemma shows none = none_is (new_number board.nodes lemma) (none ∙ settled_name number lemma shows)

  -- each node shows something
  pub shows_some : (number : ℕ) → number < length board.nodes → None ≡ shown instance_of board.nodes number → None ≡ shown closure_at board.nodes number → None ≡ shown lemma_by board.nodes number → ⊥
  shows_some number small inst closure lemma =
      let (node, at, dead) = there number small in
      by node.state dead (inst ∙ ap (λ found. option_and_then (λ (one : Node). instance_of one.state) found) at) (closure ∙ ap (λ found. option_and_then (λ (one : Node). closure_at one.state) found) at) (lemma ∙ ap (λ found. option_and_then (λ (one : Node). lemma_by one.state) found) at)
    where
      by : (state : NodeState) → is_live state ≡ false → None ≡ instance_of state → None ≡ closure_at state → None ≡ lemma_by state → ⊥
      by (Split other first) dead a b c = none_is other a
      by (Rejected other) dead a b c = none_is other a
      by (Heavy other) dead a b c = true≢false dead
      by Open dead a b c = true≢false dead
      by (Settled which) dead a b c = none_is which c
      by (Shut why) dead a b c = none_is why b
      by Found dead a b c = true≢false dead
      by (Covered cover) dead a b c = true≢false dead

  -- the node of a kept lemma
  pub kept_node : (number node : ℕ) → Some node ≡ lemma_node_at board.kept number → node < length board.nodes
  kept_node number node shows = by (numbered board.kept number) refl shows
    where
      by : (found : Option Kept) → numbered board.kept number ≡ found → Some node ≡ option_map (λ (one : Kept). one.node) found → node < length board.nodes
      by None at e = absurd (none_is node (sym e))
      by (Some one) at e =
          let kept = facts.kept number one at in
          subst (λ n. n < length board.nodes) (sym (same_some node one.node e)) (within board.nodes one.node kept.node kept.is)

  -- ---- children

  -- what a node that shows a first child is
  split_state : (number first : ℕ) → Some first ≡ shown first_child_of board.nodes number → (node : Node) × (inst : Inst) × (slice_get board.nodes number ≡ Some node) × (node.state ≡ Split inst first)
  split_state number first shows = by_found (slice_get board.nodes number) refl shows
    where
      by : (state : NodeState) → Some first ≡ first_child_of state → (inst : Inst) × (state ≡ Split inst first)
      by (Split inst other) e = (inst, ap (Split inst) (sym (same_some first other e)))
      by (Rejected inst) e = absurd (none_is first (sym e))
      by (Heavy inst) e = absurd (none_is first (sym e))
      by Open e = absurd (none_is first (sym e))
      by (Settled lemma) e = absurd (none_is first (sym e))
      by (Shut closure) e = absurd (none_is first (sym e))
      by Found e = absurd (none_is first (sym e))
      by (Covered cover) e = absurd (none_is first (sym e))

      by_found : (found : Option Node) → slice_get board.nodes number ≡ found → Some first ≡ option_and_then (λ (one : Node). first_child_of one.state) found → (node : Node) × (inst : Inst) × (slice_get board.nodes number ≡ Some node) × (node.state ≡ Split inst first)
      by_found None at e = absurd (none_is first (sym e))
      by_found (Some node) at e = let (inst, state) = by node.state e in (node, inst, at, state)

  -- with its instance, its children
  pub record IsSplitAt (number first : ℕ) (inst : Inst) : Type 0 where
    pub kids : kids_at board number ≡ range_with_len first (length inst.conclusions)
    pub few : length inst.conclusions ≤ length board.nodes
    pub within : (kid : ℕ) → first ≤ kid → kid < first + length inst.conclusions → kid < length board.nodes

  pub split_at_number : (number first : ℕ) (inst : Inst) → Some first ≡ shown first_child_of board.nodes number → Some inst ≡ shown instance_of board.nodes number → IsSplitAt number first inst
  split_at_number number first inst shows_first shows =
      let (node, own, at, state) = split_state number first shows_first in
      let same : own ≡ inst = sym (same_some inst own (shows ∙ ap (λ found. option_and_then (λ (one : Node). instance_of one.state) found) at ∙ ap instance_of state)) in
      subst (IsSplitAt number first) same (by node own at state)
    where
      by : (node : Node) (own : Inst) → slice_get board.nodes number ≡ Some node → node.state ≡ Split own first → IsSplitAt number first own
      by node own at state =
          let split = split_at (setting_of search) board facts.each number node own first at state in
          let inside : (kid : ℕ) → first ≤ kid → kid < first + length own.conclusions → kid < length board.nodes = λ kid from below.
          let (one, one_is, path) = child_path board.nodes first node.path node.lits node.barred own.conclusions split.children kid from below in within board.nodes kid one one_is in
          record {
            kids = ap kids_of_found at ∙ ap kids_of state ∙ numbers_range first own.conclusions;
            few = few_of (length own.conclusions) inside;
            within = inside;
          }
        where
          few_of : (size : ℕ) → ((kid : ℕ) → first ≤ kid → kid < first + size → kid < length board.nodes) → size ≤ length board.nodes
          few_of zero inside = omega arith
          few_of (suc size) inside = let last = inside (first + size) (omega arith) (omega arith) in omega (arith, last)

  pub no_kids : (number : ℕ) → None ≡ shown first_child_of board.nodes number → kids_at board number ≡ []
  no_kids number shows = by_found (slice_get board.nodes number) shows
    where
      by : (state : NodeState) → None ≡ first_child_of state → kids_of state ≡ []
      by (Split inst first) e = absurd (none_is first e)
      by (Rejected inst) e = refl
      by (Heavy inst) e = refl
      by Open e = refl
      by (Settled lemma) e = refl
      by (Shut closure) e = refl
      by Found e = refl
      by (Covered cover) e = refl

      by_found : (found : Option Node) → None ≡ option_and_then (λ (one : Node). first_child_of one.state) found → kids_of_found found ≡ []
      by_found None e = refl
      by_found (Some node) e = by node.state e

  pub split_has_inst : (number first : ℕ) → Some first ≡ shown first_child_of board.nodes number → None ≡ shown instance_of board.nodes number → ⊥
  split_has_inst number first shows_first none =
      let (node, own, at, state) = split_state number first shows_first in
      none_is own (none ∙ ap (λ found. option_and_then (λ (one : Node). instance_of one.state) found) at ∙ ap instance_of state)

  -- ---- writing

  kids_nodes : (number : ℕ) → AreNodes board (kids_at board number)
  kids_nodes number = by_found (slice_get board.nodes number) refl
    where
      nodes_from : (first : ℕ) (conclusions : List Lit) → ((kid : ℕ) → first ≤ kid → kid < first + length conclusions → kid < length board.nodes) → AreNodes board (numbers_from first conclusions)
      nodes_from first [] inside = All-nil (λ n. n < length board.nodes)
      nodes_from first (lit ∷ more) inside = All-cons (λ n. n < length board.nodes) first (numbers_from (suc first) more) (inside first (omega arith) (omega arith)) (nodes_from (suc first) more (λ kid from below. inside kid (omega (arith, from)) (omega (arith, below))))

      by : (node : Node) → slice_get board.nodes number ≡ Some node → (state : NodeState) → node.state ≡ state → AreNodes board (kids_of state)
      by node at (Split inst first) state =
          let split = split_at (setting_of search) board facts.each number node inst first at state in
          nodes_from first inst.conclusions (λ kid from below. let (one, one_is, path) = child_path board.nodes first node.path node.lits node.barred inst.conclusions split.children kid from below in within board.nodes kid one one_is)
      by node at (Rejected inst) state = All-nil (λ n. n < length board.nodes)
      by node at (Heavy inst) state = All-nil (λ n. n < length board.nodes)
      by node at Open state = All-nil (λ n. n < length board.nodes)
      by node at (Settled lemma) state = All-nil (λ n. n < length board.nodes)
      by node at (Shut closure) state = All-nil (λ n. n < length board.nodes)
      by node at Found state = All-nil (λ n. n < length board.nodes)
      by node at (Covered cover) state = All-nil (λ n. n < length board.nodes)

      by_found : (found : Option Node) → slice_get board.nodes number ≡ found → AreNodes board (kids_of_found found)
      by_found None at = All-nil (λ n. n < length board.nodes)
      by_found (Some node) at = by node at node.state refl

  one_longer : (written : List TreeLine) (line : TreeLine) → length written < length (written ++ line ∷ [])
  one_longer written line = let size = length-append written (line ∷ []) in omega (arith, size)

  -- a node's line in place, with its children waiting
  pub place_writes : (number : ℕ) (line : TreeLine) (written : List TreeLine) (waiting : List ℕ) → line_at board number ≡ Some line → Writes board (lines_of board number) written waiting (written ++ line ∷ []) (waiting ++ reverse (kids_at board number))
  place_writes number line written waiting has = record {
    same =
        append_assoc written (line ∷ []) (lines_waiting board (waiting ++ reverse (kids_at board number)))
        ∙ ap (λ rest. written ++ (line ∷ rest)) (waiting_more board waiting (kids_at board number))
        ∙ ap (λ lines. written ++ (lines ++ lines_waiting board waiting)) (by_found (slice_get board.nodes number) has);
    nodes = λ all. All-append (λ n. n < length board.nodes) waiting (reverse (kids_at board number)) all (all_reverse (λ n. n < length board.nodes) (kids_at board number) (kids_nodes number));
    more = one_longer written line;
  }
    where
      by_found : (found : Option Node) → option_and_then (λ (one : Node). line_of board.nodes one.state) found ≡ Some line → line ∷ flat_map (λ n. lines_within board n) (kids_of_found found) ≡ in_place board (λ n. lines_within board n) found
      by_found None e = absurd (none_is line e)
      by_found (Some node) e = ap (λ own. before own (flat_map (λ n. lines_within board n) (kids_of node.state))) (sym e)

  pub place_now : (number : ℕ) (line : TreeLine) (written written_now : List TreeLine) (waiting waiting_now : List ℕ) → line_at board number ≡ Some line → written_now ≡ written ++ line ∷ [] → waiting_now ≡ waiting ++ reverse (kids_at board number)
      → Writes board (lines_of board number) written waiting written_now waiting_now
  place_now number line written written_now waiting waiting_now has lines kids =
      subst (λ all. Writes board (lines_of board number) written waiting all waiting_now) (sym lines)
      (subst (λ all. Writes board (lines_of board number) written waiting (written ++ line ∷ []) all) (sym kids) (place_writes number line written waiting has))

  -- a node by its name
  pub name_writes : (number new : ℕ) (written : List TreeLine) (waiting : List ℕ) → Some new ≡ name_of board number → Writes board (lines_within board number) written waiting (written ++ By new ∷ []) waiting
  name_writes number new written waiting name = record {
    same = append_assoc written (By new ∷ []) (lines_waiting board waiting) ∙ ap (λ lines. written ++ (lines ++ lines_waiting board waiting)) (sym (within_is (setting_of search) board facts number ∙ ap (by_name board (λ n. lines_within board n) number) (sym name)));
    nodes = λ all. all;
    more = one_longer written (By new);
  }

  pub name_now : (number new : ℕ) (written written_now : List TreeLine) (waiting : List ℕ) → Some new ≡ name_of board number → written_now ≡ written ++ By new ∷ [] → Writes board (lines_within board number) written waiting written_now waiting
  name_now number new written written_now waiting name lines =
      subst (λ all. Writes board (lines_within board number) written waiting all waiting) (sym lines) (name_writes number new written waiting name)

  -- a node without a name stands in place
  pub unnamed_within : (number : ℕ) → None ≡ name_of board number → lines_of board number ≡ lines_within board number
  unnamed_within number none = sym (within_is (setting_of search) board facts number ∙ ap (by_name board (λ n. lines_within board n) number) (sym none))

  -- ---- the loop over what waits

  pub record IsUnderWay (top : ℕ) (written : List TreeLine) (waiting : List ℕ) : Type 0 where
    pub same : written ++ lines_waiting board waiting ≡ lines_of board top
    pub nodes : AreNodes board waiting

  pub way_begins : (top : ℕ) (none : List TreeLine) (empty : List ℕ) (written : List TreeLine) (waiting : List ℕ) → none ≡ [] → empty ≡ [] → Writes board (lines_of board top) none empty written waiting → IsUnderWay top written waiting
  way_begins top none empty written waiting is_none is_empty writes =
      let begun : Writes board (lines_of board top) [] [] written waiting = subst (λ one. Writes board (lines_of board top) one [] written waiting) is_none (subst (λ one. Writes board (lines_of board top) none one written waiting) is_empty writes) in
      record {
        same = begun.same ∙ append-nil (lines_of board top);
        nodes = begun.nodes (All-nil (λ n. n < length board.nodes));
      }

  pub way_node : (top : ℕ) (written : List TreeLine) (waiting rest : List ℕ) (number : ℕ) → waiting ≡ rest ++ number ∷ [] → IsUnderWay top written waiting → number < length board.nodes
  way_node top written waiting rest number is under =
      let turned : All (λ n. n < length board.nodes) (reverse (rest ++ number ∷ [])) = all_reverse (λ n. n < length board.nodes) (rest ++ number ∷ []) (subst (AreNodes board) is under.nodes) in
      subst (AreNodes board) (reverse-append rest (number ∷ [])) turned 0 number (omega arith)

  pub way_goes : (top : ℕ) (written : List TreeLine) (waiting rest : List ℕ) (number : ℕ) (written_now : List TreeLine) (waiting_now : List ℕ) → waiting ≡ rest ++ number ∷ [] → IsUnderWay top written waiting → Writes board (lines_within board number) written rest written_now waiting_now
      → IsUnderWay top written_now waiting_now × (length (lines_of board top) - length written_now < length (lines_of board top) - length written)
  way_goes top written waiting rest number written_now waiting_now is under writes =
      let whole : written_now ++ lines_waiting board waiting_now ≡ lines_of board top =
      writes.same ∙ ap (λ lines. written ++ lines) (sym (waiting_top board rest number)) ∙ ap (λ all. written ++ lines_waiting board all) (sym is) ∙ under.same in
      let size : length (lines_of board top) ≡ length written_now + length (lines_waiting board waiting_now) = ap length (sym whole) ∙ length-append written_now (lines_waiting board waiting_now) in (
        record {
          same = whole;
          nodes = writes.nodes (λ k d small. get_front rest number k d small (subst (AreNodes board) is under.nodes));
        },
        omega (arith, size, writes.more),
      )
    where
      get_front : (front : List ℕ) (last k d : ℕ) → k < length front → AreNodes board (front ++ last ∷ []) → get_or front k d < length board.nodes
      get_front front last k d small all =
          let long = length-append front (last ∷ []) in
          subst (λ n. n < length board.nodes) (get_or_append_left front (last ∷ []) d k small) (all k d (omega (arith, small, long)))

  pub way_ends : (top : ℕ) (written : List TreeLine) (waiting : List ℕ) → waiting ≡ [] → IsUnderWay top written waiting → written ≡ lines_of board top
  way_ends top written waiting is under = sym (append-nil written) ∙ ap (λ all. written ++ lines_waiting board all) (sym is) ∙ under.same
