-- Where a cell is closed, the cells and the kept lemmas stand for the board where the node is closed.
use Rattle.std.proofs.Common.{◌≡◌, ◌≢◌, ℕ, zero, suc, ◌+◌, ◌<◌, ◌≤◌, append_assoc, drop, Bool, true, false, cond, List, [], ◌∷◌, ◌++◌, length, map, is_some, slice_get, slice_set, Option, Some, None, option_map, refl, sym, ap, ap₂, subst, ◌∙◌, arith}
use Rattle.std.specs.Prelude.{option_and_then}
use Rattle.std.proofs.lemmas.List.{length-map, map-append}
use Rattle.mg_word.specs.declared.form.Inst.{Inst}
use Rattle.mg_word.specs.declared.lit.Lit.{Lit}
use Rattle.mg_meaning.specs.Folding.{Pair, folded}
use Rattle.case_split.specs.declared.child.Closure.{Closure}
use Rattle.tree_board.specs.declared.cell.Cell.{Cell}
use Rattle.tree_board.specs.declared.event.Event.{Event}
use Rattle.tree_board.specs.Boards.{Board, Kept, own_of}
use Rattle.tree_board.specs.CellClimbs.{lemmas_from, unclosed_first, folded_from, due_cell, closed_cell, with_if, number_if, CloseBy}
use Rattle.tree_board.specs.Cells.{StandsForState, StandsFor, StandForNodes, StandForBoard}
use Rattle.tree_board.specs.Closings.{cons_pair, pairs_at, due_state, due_own, due, kept_with, closed_by, closed_node, closed_at}
use Rattle.tree_board.specs.Facts.{IsBoard}
use Rattle.tree_board.specs.NodeStates.{NodeState, Open, Split, Rejected, Settled as SettledBy, Shut, Found, Covered, Heavy}
use Rattle.tree_board.specs.Nodes.{Node}
use Rattle.tree_board.specs.Readers.{own_number, instance_of, first_child_of, instance_in, event_of_cell, first_child_of_cell, instance_shown}
use Rattle.tree_board.specs.Settings.{Setting, small}
use Rattle.tree_board.proofs.Closing.{due_parts}
use Rattle.tree_board.proofs.Growth.{cons_pair_parts}
use Rattle.tree_board.proofs.Kept.{cell_at}
use Rattle.tree_board.proofs.KeptNumbers.{number_other, number_new, number_none}
use Rattle.tree_board.proofs.Places.{same_some}
use Rattle.tree_board.proofs.Shown.{seen_then, first_child_same, instance_same}

-- ---- the lemmas of children, one by one

abbrev pub lemma_in : List Cell → ℕ → Option Pair
lemma_in cells number = option_and_then (λ (cell : Cell). cell.lemma) (slice_get cells number)

module _ (cells : List Cell) where
  lemmas_at : (first : ℕ) (lits : List Lit) (index : ℕ) → index < length lits → lemmas_from cells first (drop index lits) ≡ cons_pair (lemma_in cells first) (lemmas_from cells (suc first) (drop (suc index) lits))
  lemmas_at first [] index small = absurd (omega (arith, small))
  lemmas_at first (lit ∷ lits) zero small = refl
  lemmas_at first (lit ∷ lits) (suc index) small = lemmas_at first lits index (omega (arith, small))

  pub lemmas_none : (first : ℕ) (lits : List Lit) (pushed : List Pair) (index : ℕ) → lemmas_from cells first lits ≡ option_map (λ rest. pushed ++ rest) (lemmas_from cells (first + index) (drop index lits)) → index < length lits → None ≡ lemma_in cells (first + index) → None ≡ lemmas_from cells first lits
  lemmas_none first lits pushed index so_far small none =
      sym (so_far ∙ (ap (option_map (λ rest. pushed ++ rest)) (lemmas_at (first + index) lits index small ∙ ap (λ one. cons_pair one (lemmas_from cells (suc (first + index)) (drop (suc index) lits))) (sym none))))

  pub lemmas_some : (first : ℕ) (lits : List Lit) (pushed : List Pair) (index : ℕ) → lemmas_from cells first lits ≡ option_map (λ rest. pushed ++ rest) (lemmas_from cells (first + index) (drop index lits)) → index < length lits → (pair : Pair) → Some pair ≡ lemma_in cells (first + index)
      → lemmas_from cells first lits ≡ option_map (λ rest. (pushed ++ pair ∷ []) ++ rest) (lemmas_from cells (first + (index + 1)) (drop (index + 1) lits))
  lemmas_some first lits pushed index so_far small pair some =
      let place : suc (first + index) ≡ first + (index + 1) = omega arith in
      let next : suc index ≡ index + 1 = omega arith in
      so_far
      ∙ (ap (option_map (λ rest. pushed ++ rest)) (lemmas_at (first + index) lits index small ∙ ap (λ one. cons_pair one (lemmas_from cells (suc (first + index)) (drop (suc index) lits))) (sym some))
      ∙ (by (lemmas_from cells (suc (first + index)) (drop (suc index) lits))
      ∙ ap₂ (λ k j. option_map (λ rest. (pushed ++ pair ∷ []) ++ rest) (lemmas_from cells k (drop j lits))) place next))
    where
      by : (rest : Option (List Pair)) → option_map (λ more. pushed ++ more) (cons_pair (Some pair) rest) ≡ option_map (λ more. (pushed ++ pair ∷ []) ++ more) rest
      by None = refl
      by (Some more) = ap Some (sym (append_assoc pushed (pair ∷ []) more))

  pub lemmas_size : (first : ℕ) (lits : List Lit) (pairs : List Pair) → lemmas_from cells first lits ≡ Some pairs → length pairs ≡ length lits
  lemmas_size first [] pairs e = ap length (sym (same_some [] pairs e))
  lemmas_size first (lit ∷ lits) pairs e =
      let (pair, more, one, rest, all) = cons_pair_parts (lemma_in cells first) (lemmas_from cells (suc first) lits) pairs e in
      ap length all ∙ ap suc (lemmas_size (suc first) lits more rest)

-- ---- the test of the cells is that of the nodes

module _ (journal : List Event) (closures : List Closure) (kept : List Kept) (cells : List Cell) (nodes : List Node) (stand : StandForNodes journal closures kept 0 cells nodes) where
  own_then : (one : Option Node) → option_and_then (λ (node : Node). node.own) one ≡ own_of one
  own_then None = refl
  own_then (Some node) = refl

  lemma_seen : (number : ℕ) → option_and_then (λ (cell : Cell). cell.lemma) (slice_get cells number) ≡ own_of (slice_get nodes number)
  lemma_seen number = seen_then journal closures kept (λ cell. cell.lemma) (λ node. node.own) (λ n cell node stands. stands.lemma) 0 cells nodes stand number ∙ own_then (slice_get nodes number)

  pub lemmas_seen : (first : ℕ) (lits : List Lit) → lemmas_from cells first lits ≡ pairs_at nodes first lits
  lemmas_seen first [] = refl
  lemmas_seen first (lit ∷ lits) = ap₂ cons_pair (lemma_seen first) (lemmas_seen (suc first) lits)

  -- what is folded, by the first child and the instance of a node
  due_by : (state : NodeState) → option_and_then (λ first. option_and_then (folded_from cells first) (instance_of state)) (first_child_of state) ≡ due_state nodes state
  due_by (Split inst first) = ap (option_map (folded inst)) (lemmas_seen first inst.conclusions)
  due_by Open = refl
  due_by (Rejected inst) = refl
  due_by (SettledBy lemma) = refl
  due_by (Shut closure) = refl
  due_by Found = refl
  due_by (Covered cover) = refl
  due_by (Heavy inst) = refl

  pub due_seen : (number : ℕ) (cell : Cell) (node : Node) → slice_get cells number ≡ Some cell → StandsFor journal closures kept number cell node → due_cell cells journal number ≡ due nodes node
  due_seen number cell node is stands =
      ap₂ (λ (firsts : Option ℕ) (insts : Option Inst). option_and_then (λ first. option_and_then (folded_from cells first) insts) firsts) (ap (option_and_then unclosed_first) is) inst_seen
      ∙ (ap (λ closed. option_and_then (λ first. option_and_then (folded_from cells first) (instance_of node.state)) (cond closed None (first_child_of_cell cell.settled))) stands.closed
      ∙ by node.own)
    where
      inst_seen : instance_shown cells journal number ≡ instance_of node.state
      inst_seen =
          ap (λ (one : Option Cell). option_and_then (λ event. option_and_then instance_in (slice_get journal event)) (option_and_then (λ (cell : Cell). event_of_cell cell.settled) one)) is
          ∙ instance_same journal closures kept number cell.settled node.state stands.settled

      by : (own : Option Pair) → option_and_then (λ first. option_and_then (folded_from cells first) (instance_of node.state)) (cond (is_some own) None (first_child_of_cell cell.settled)) ≡ due_own nodes node.state own
      by None = ap (option_and_then (λ first. option_and_then (folded_from cells first) (instance_of node.state))) (first_child_same journal closures kept number cell.settled node.state stands.settled) ∙ due_by node.state
      by (Some pair) = refl

-- ---- a cell is closed, and maybe its lemma kept

module _ (journal : List Event) (closures : List Closure) (kept more : List Kept) where
  -- where the numbers of kept lemmas stay
  numbers_stand : (first : ℕ) (cells : List Cell) (nodes : List Node) → StandForNodes journal closures kept first cells nodes → ((m : ℕ) → first ≤ m → own_number more m ≡ own_number kept m) → StandForNodes journal closures more first cells nodes
  numbers_stand first [] [] stand same = stand
  numbers_stand first [] (node ∷ nodes) stand same = absurd stand
  numbers_stand first (cell ∷ cells) [] stand same = absurd stand
  numbers_stand first (cell ∷ cells) (node ∷ nodes) (one, stand) same = (
    record { parent = one.parent; settled = one.settled; closed = one.closed; lemma = one.lemma; own = one.own ∙ sym (same first (omega arith)) },
    numbers_stand (suc first) cells nodes stand (λ m from. same m (omega (arith, from))),
  )

  -- where those of all other nodes stay
  closed_stand : (first : ℕ) (cells : List Cell) (nodes : List Node) → StandForNodes journal closures kept first cells nodes → (index : ℕ) (cell : Cell) (node : Node) → StandsFor journal closures more (first + index) cell node
      → ((m : ℕ) → m ≢ first + index → own_number more m ≡ own_number kept m) → StandForNodes journal closures more first (slice_set cells index cell) (slice_set nodes index node)
  closed_stand first [] [] stand index cell node stands same = stand
  closed_stand first [] (old ∷ nodes) stand index cell node stands same = absurd stand
  closed_stand first (before ∷ cells) [] stand index cell node stands same = absurd stand
  closed_stand first (before ∷ cells) (old ∷ nodes) (one, stand) zero cell node stands same =
      let number : first + 0 ≡ first = omega arith in
      (subst (λ n. StandsFor journal closures more n cell node) number stands, numbers_stand (suc first) cells nodes stand (λ m from. same m (λ e. let bad : ⊥ = omega (arith, e, from) in bad)))
  closed_stand first (before ∷ cells) (old ∷ nodes) (one, stand) (suc index) cell node stands same =
      let number : first + suc index ≡ suc first + index = omega arith in (
        record { parent = one.parent; settled = one.settled; closed = one.closed; lemma = one.lemma; own = one.own ∙ sym (same first (λ e. let bad : ⊥ = omega (arith, e) in bad)) },
        closed_stand (suc first) cells nodes stand index cell node (subst (λ n. StandsFor journal closures more n cell node) number stands) (λ m apart. same m (λ e. apart (e ∙ number))),
      )

with_if_pairs : (keep : Bool) (kept : List Kept) (number : ℕ) (pair : Pair) → with_if keep (map (λ (one : Kept). one.pair) kept) pair ≡ map (λ (one : Kept). one.pair) (kept_with keep kept number pair)
with_if_pairs true kept number pair = sym (map-append (λ (one : Kept). one.pair) kept (record { node = number; pair = pair } ∷ []))
with_if_pairs false kept number pair = refl

with_if_owners : (keep : Bool) (kept : List Kept) (number : ℕ) (pair : Pair) → with_if keep (map (λ (one : Kept). one.node) kept) number ≡ map (λ (one : Kept). one.node) (kept_with keep kept number pair)
with_if_owners true kept number pair = sym (map-append (λ (one : Kept). one.node) kept (record { node = number; pair = pair } ∷ []))
with_if_owners false kept number pair = refl

numbers_other : (keep : Bool) (kept : List Kept) (number : ℕ) (pair : Pair) (m : ℕ) → m ≢ number → own_number (kept_with keep kept number pair) m ≡ own_number kept m
numbers_other true kept number pair m apart = number_other kept (record { node = number; pair = pair }) m (λ e. apart (sym e))
numbers_other false kept number pair m apart = refl

number_kept : (keep : Bool) (kept : List Kept) (number : ℕ) (pair : Pair) → own_number kept number ≡ None → number_if keep (length kept) ≡ own_number (kept_with keep kept number pair) number
number_kept true kept number pair none = sym (number_new kept (record { node = number; pair = pair }) number refl none)
number_kept false kept number pair none = sym none

module _ (setting : Setting) (keeps : setting.keeps ≡ small) (journal : List Event) (board : Board) (facts : IsBoard setting board) (closures : List Closure) (cells : List Cell) (lemmas : List Pair) (owners : List ℕ) (stand : StandForBoard journal board cells closures lemmas owners)
    (number : ℕ) (node : Node) (at : slice_get board.nodes number ≡ Some node) (new_cells : List Cell) (new_lemmas : List Pair) (new_owners : List ℕ) where
  close_by : (pair : Option Pair) → due board.nodes node ≡ pair → CloseBy pair number cells lemmas owners new_cells new_lemmas new_owners → StandForBoard journal (closed_by setting board number node pair) new_cells closures new_lemmas new_owners
  close_by None is (same_cells, same_lemmas, same_owners) = record {
    nodes = subst (λ all. StandForNodes journal closures board.kept 0 all board.nodes) (sym same_cells) stand.nodes;
    pairs = same_lemmas ∙ stand.pairs;
    owners = same_owners ∙ stand.owners;
  }
  close_by (Some pair) is (are_closed, lemmas_are, owners_are) =
      let (cell, there, stands) = cell_at journal closures board.kept 0 cells board.nodes stand.nodes number node at in
      let unclosed : node.own ≡ None = (due_parts board.nodes node pair is).0 in
      let keep : Bool = setting.keeps (length board.kept) number pair in
      let size : length lemmas ≡ length board.kept = ap length stand.pairs ∙ length-map board.kept (λ (one : Kept). one.pair) in
      let keep_is : small (length lemmas) number pair ≡ keep = ap (λ n. small n number pair) size ∙ ap (λ (rule : ℕ → ℕ → Pair → Bool). rule (length board.kept) number pair) (sym keeps) in
      let zero_is : 0 + number ≡ number = omega arith in
      let none : own_number board.kept number ≡ None = number_none setting board facts number node at unclosed in
      let own_is : number_if (small (length lemmas) number pair) (length lemmas) ≡ own_number (kept_with keep board.kept number pair) number = ap₂ number_if keep_is size ∙ number_kept keep board.kept number pair none in
      let after : Cell = closed_cell pair (number_if (small (length lemmas) number pair) (length lemmas)) cell in
      let closed : Node = record node { own = Some pair } in
      let here : StandsFor journal closures (kept_with keep board.kept number pair) (0 + number) after closed = record {
        parent = stands.parent;
        settled = subst (λ n. StandsForState journal closures n cell.settled node.state) refl stands.settled;
        closed = refl;
        lemma = refl;
        own = own_is ∙ ap (own_number (kept_with keep board.kept number pair)) (sym zero_is);
      } in
      let set = closed_stand journal closures board.kept (kept_with keep board.kept number pair) 0 cells board.nodes stand.nodes number after closed here (λ m apart. numbers_other keep board.kept number pair m (λ e. apart (e ∙ sym zero_is))) in
      record {
        nodes = subst (λ all. StandForNodes journal closures (kept_with keep board.kept number pair) 0 all (slice_set board.nodes number closed)) (sym (are_closed cell there)) set;
        pairs = lemmas_are ∙ (ap₂ (λ one all. with_if one all pair) keep_is stand.pairs ∙ with_if_pairs keep board.kept number pair);
        owners = owners_are ∙ (ap₂ (λ one all. with_if one all number) keep_is stand.owners ∙ with_if_owners keep board.kept number pair);
      }

  -- what closes the cell closes the node
  pub closes_board : CloseBy (due_cell cells journal number) number cells lemmas owners new_cells new_lemmas new_owners → StandForBoard journal (closed_at setting board number) new_cells closures new_lemmas new_owners
  unfolding closed_at
  closes_board closes =
      let (cell, there, stands) = cell_at journal closures board.kept 0 cells board.nodes stand.nodes number node at in
      let zero_is : 0 + number ≡ number = omega arith in
      let own = subst (λ n. StandsFor journal closures board.kept n cell node) zero_is stands in
      let same : due_cell cells journal number ≡ due board.nodes node = due_seen journal closures board.kept cells board.nodes stand.nodes number cell node there own in
      subst (λ one. StandForBoard journal (closed_node setting board number one) new_cells closures new_lemmas new_owners) (sym at)
      (close_by (due board.nodes node) refl (subst (λ pair. CloseBy pair number cells lemmas owners new_cells new_lemmas new_owners) same closes))
