-- The document of a closed board is one of its problem.
use Rattle.std.proofs.Common.{◌≡◌, ℕ, zero, suc, ◌+◌, ◌*◌, ◌<◌, ◌≤◌, Bool, true, false, if◌then◌else◌, List, [], ◌∷◌, ◌++◌, All, IsSome, map, take, length, get_or, slice_get, Option, Some, None, option_map, refl, sym, subst, ◌∙◌, arith}
use Rattle.std.specs.List.{flat_map}
use Rattle.std.proofs.lemmas.List.Elements.{All-nil, All-cons, All-append}
use Rattle.std.proofs.lemmas.List.{length-map}
use Rattle.std.proofs.lemmas.Option.{slice_get-map, slice_get-get_or, slice_get_within}
use Rattle.mg_word.specs.Sets.{is_rising}
use Rattle.mg_word.specs.Table.{Symbol}
use Rattle.mg_word.specs.Words.{numbered}
use Rattle.mg_word.specs.declared.form.Inst.{Inst}
use Rattle.mg_word.specs.declared.lit.Lit.{Lit}
use Rattle.mg_word.proofs.Members.{part_holds}
use Rattle.mg_word.proofs.RisingLists.{rising-set_of}
use Rattle.mg_meaning.specs.Folding.{Pair, insides, outsides}
use Rattle.mg_meaning.specs.Instances.{IsInstance}
use Rattle.mg_meaning.specs.Violation.{IsLeast}
use Rattle.mg_meaning.proofs.Excluded.{violated_parts}
use Rattle.case_split.specs.declared.child.Closure.TheVariants.{Clash as ClashAtOnce, Barred as BarredAtOnce}
use Rattle.term_text.specs.Words.{IsWordOf}
use Rattle.tree_checker.specs.Closing.{Closes}
use Rattle.tree_checker.specs.Docs.{LineFits, IsKnown, AreLines, IsBlock, lemmas_of, branch_of, lines_before, IsWellFormed}
use Rattle.tree_checker.specs.Trees.{Branch, empty_branch}
use Rattle.tree_checker.specs.declared.doc.LemmaBlock.{LemmaBlock}
use Rattle.tree_checker.specs.declared.doc.TreeLine.{TreeLine}
use Rattle.tree_checker.specs.declared.doc.TreeLine.TheVariants.{Form as FormLine, Clash, Barred, By}
use Rattle.tree_checker.proofs.Lines.{AreTrees-closed}
use Rattle.tree_board.specs.Boards.{Board, Kept}
use Rattle.tree_board.specs.Facts.{IsBoard, StateHolds}
use Rattle.tree_board.specs.NodeStates.{NodeState, Open, Split, Rejected, Settled, Shut, Found, Covered, Heavy}
use Rattle.tree_board.specs.Nodes.{Node}
use Rattle.tree_board.specs.Searches.{Search, setting_of, board_of}
use Rattle.tree_board.specs.Splits.{one_if}
use Rattle.tree_board.proofs.Below.{split_at}
use Rattle.tree_board.proofs.Budgets.{few_nodes}
use Rattle.tree_board.proofs.Lightness.{literals_light}
use Rattle.tree_board.proofs.Places.{same_some, numbered_most}
use Rattle.tree_board.proofs.Replays.{replay_board}
use Rattle.board_tree.specs.Documents.{block_of, doc_of}
use Rattle.board_tree.specs.Lines.{line_of, kids_of, name_of, before, in_place, by_name, lines_from, lines_within, lines_of}
use Rattle.board_tree.specs.Refuted.{IsRefuted}
use Rattle.board_tree.specs.Used.{is_used, new_number, used_from}
use Rattle.board_tree.proofs.Accepting.{kept_with_pair, closed_is_accepted}
use Rattle.board_tree.proofs.Keeping.{few_kept}
use Rattle.board_tree.proofs.OwnNames.{none_is, named_from}
use Rattle.board_tree.proofs.Sizes.{tree_lines}
use Rattle.board_tree.proofs.Uses.{used_comes}
use Rattle.board_tree.proofs.Wording.{HasShortWords, all_held, subst_words, node_word, barred_word}

-- ---- what holds of each line

module _ (board : Board) (P : TreeLine → Type 0) (line_ok : (number : ℕ) (node : Node) (line : TreeLine) → slice_get board.nodes number ≡ Some node → line_of board.nodes node.state ≡ Some line → P line) (name_ok : (number new : ℕ) → name_of board number ≡ Some new → P (By new)) where
  all_flat : (below : ℕ → List TreeLine) → ((number : ℕ) → All P (below number)) → (tops : List ℕ) → All P (flat_map below tops)
  all_flat below each [] = All-nil P
  all_flat below each (top ∷ tops) = All-append P (below top) (flat_map below tops) (each top) (all_flat below each tops)

  all_place : (below : ℕ → List TreeLine) → ((number : ℕ) → All P (below number)) → (number : ℕ) → All P (in_place board below (slice_get board.nodes number))
  all_place below each number = by (slice_get board.nodes number) refl
    where
      by_line : (node : Node) → slice_get board.nodes number ≡ Some node → (line : Option TreeLine) → line_of board.nodes node.state ≡ line → All P (before line (flat_map below (kids_of node.state)))
      by_line node at None is = All-nil P
      by_line node at (Some line) is = All-cons P line (flat_map below (kids_of node.state)) (line_ok number node line at is) (all_flat below each (kids_of node.state))

      by : (found : Option Node) → slice_get board.nodes number ≡ found → All P (in_place board below found)
      by None at = All-nil P
      by (Some node) at = by_line node at (line_of board.nodes node.state) refl

  all_from : (fuel number : ℕ) → All P (lines_from board fuel number)
  unfolding lines_from
  all_from zero number = All-nil P
  all_from (suc fuel) number = by (name_of board number) refl (all_place (λ n. lines_from board fuel n) (λ n. all_from fuel n) number)
    where
      by : (name : Option ℕ) → name_of board number ≡ name → All P (in_place board (λ n. lines_from board fuel n) (slice_get board.nodes number)) → All P (by_name board (λ n. lines_from board fuel n) number name)
      by None is rest = rest
      by (Some new) is rest = All-cons P (By new) [] (name_ok number new is) (All-nil P)

  all_lines : (top : ℕ) → All P (lines_of board top)
  all_lines top = all_place (λ n. lines_within board n) (λ n. all_from (length board.nodes) n) top

-- ---- numbers

new_number_small : (nodes : List Node) (lemma : ℕ) → new_number nodes lemma ≤ lemma
new_number_small nodes zero = omega arith
new_number_small nodes (suc lemma) = by (is_used nodes (suc lemma)) (new_number_small nodes lemma)
  where
    by : (test : Bool) → new_number nodes lemma ≤ lemma → one_if test + new_number nodes lemma ≤ suc lemma
    by true rest = omega (arith, rest)
    by false rest = omega (arith, rest)

used_few : (nodes : List Node) (number : ℕ) (kept : List Kept) → length (used_from nodes number kept) ≤ length kept
used_few nodes number [] = omega arith
used_few nodes number (one ∷ kept) = by (is_used nodes number) (used_few nodes (suc number) kept)
  where
    by : (test : Bool) → length (used_from nodes (suc number) kept) ≤ length kept → length (if test then one ∷ used_from nodes (suc number) kept else used_from nodes (suc number) kept) ≤ suc (length kept)
    by true rest = omega (arith, rest)
    by false rest = omega (arith, rest)

lines_few : (blocks : List LemmaBlock) → ((k : ℕ) (block : LemmaBlock) → slice_get blocks k ≡ Some block → length block.tree ≤ 4294967296) → lines_before blocks ≤ 1 + 4294967299 * length blocks
lines_few [] each = omega arith
lines_few (block ∷ blocks) each =
    let here = each 0 block refl in
    let rest = lines_few blocks (λ k other at. each (suc k) other at) in
    omega (arith, here, rest)

all_at : {X : Type 0} (P : X → Type 0) (xs : List X) → ((k : ℕ) (x : X) → slice_get xs k ≡ Some x → P x) → All P xs
all_at P xs each = λ k d within. each k (get_or xs k d) (slice_get-get_or xs k d within)

-- ---- the document

module _ (search : Search) (is : IsRefuted search) where
  abbrev board : Board
  board = board_of search

  abbrev table : List Symbol
  table = search.problem.symbols

  facts : IsBoard (setting_of search) board
  facts = replay_board (setting_of search) board is.problem is.replay

  short : HasShortWords board
  short number node at = λ k d within.
      let light = literals_light (setting_of search) board is.problem is.replay number node at k d within in
      omega (arith, light, is.weight)

  least_words : (number : ℕ) (node : Node) → slice_get board.nodes number ≡ Some node → (inst : Inst) → IsLeast search.problem node.lits inst → All (IsWordOf table) inst.subst
  least_words number node at inst least = subst_words search.problem is.problem inst least.instance node.lits (short number node at) (violated_parts node.lits inst least.violated).0

  lemma_fits : (lemma : ℕ) (one : Kept) → numbered board.kept lemma ≡ Some one → new_number board.nodes lemma < 4294967296
  lemma_fits lemma one at =
      let most = numbered_most board.kept lemma one at in
      let small = new_number_small board.nodes lemma in
      let few = few_kept search is.replay in
      omega (arith, most, small, few)

  line_fits : (number : ℕ) (node : Node) (line : TreeLine) → slice_get board.nodes number ≡ Some node → line_of board.nodes node.state ≡ Some line → LineFits table line
  line_fits number node line at e = by node.state (facts.each number node at).state e
    where
      by : (state : NodeState) → StateHolds (setting_of search) board number node state → line_of board.nodes state ≡ Some line → LineFits table line
      by (Split inst first) holds e = subst (LineFits table) (same_some (FormLine inst.form inst.subst) line e) (least_words number node at inst holds.least)
      by (Rejected inst) (least, none, used, has) e = subst (LineFits table) (same_some (FormLine inst.form inst.subst) line e) (least_words number node at inst least)
      by (Settled lemma) (pair, there, has) e =
          let (one, one_at, same) = kept_with_pair board.kept lemma pair there in
          subst (LineFits table) (same_some (By (new_number board.nodes lemma)) line e) (lemma_fits lemma one one_at)
      by (Shut (ClashAtOnce lit)) (why, has) e = subst (LineFits table) (same_some (Clash lit) line e) (node_word (setting_of search) board facts short number node at lit why.0)
      by (Shut (BarredAtOnce lit)) (why, has) e = subst (LineFits table) (same_some (Barred lit) line e) (node_word (setting_of search) board facts short number node at lit why.0)
      by Open holds e = absurd (none_is line e)
      by Found holds e = absurd (none_is line e)
      by (Covered cover) holds e = absurd (none_is line e)
      by (Heavy inst) holds e = absurd (none_is line e)

  name_fits : (number new : ℕ) → name_of board number ≡ Some new → LineFits table (By new)
  name_fits number new name =
      let named = named_from board number new name in
      subst (λ n. n < 4294967296) named.is (lemma_fits named.lemma named.one named.at)

  inst_known : (inst : Inst) → IsInstance search.problem inst → IsSome (numbered search.problem.forms inst.form)
  inst_known inst one = subst IsSome (sym one.is) refl

  line_known : (number : ℕ) (node : Node) (line : TreeLine) → slice_get board.nodes number ≡ Some node → line_of board.nodes node.state ≡ Some line → IsKnown search.problem.forms line
  line_known number node line at e = by node.state (facts.each number node at).state e
    where
      by : (state : NodeState) → StateHolds (setting_of search) board number node state → line_of board.nodes state ≡ Some line → IsKnown search.problem.forms line
      by (Split inst first) holds e = subst (IsKnown search.problem.forms) (same_some (FormLine inst.form inst.subst) line e) (inst_known inst holds.least.instance)
      by (Rejected inst) (least, none, used, has) e = subst (IsKnown search.problem.forms) (same_some (FormLine inst.form inst.subst) line e) (inst_known inst least.instance)
      by (Settled lemma) holds e = subst (IsKnown search.problem.forms) (same_some (By (new_number board.nodes lemma)) line e) tt
      by (Shut (ClashAtOnce lit)) holds e = subst (IsKnown search.problem.forms) (same_some (Clash lit) line e) tt
      by (Shut (BarredAtOnce lit)) holds e = subst (IsKnown search.problem.forms) (same_some (Barred lit) line e) tt
      by Open holds e = absurd (none_is line e)
      by Found holds e = absurd (none_is line e)
      by (Covered cover) holds e = absurd (none_is line e)
      by (Heavy inst) holds e = absurd (none_is line e)

  are_lines : (lemmas : List Pair) (branch : Branch) (top : ℕ) → Closes search.problem.forms lemmas branch (lines_of board top) → AreLines search.problem (lines_of board top)
  are_lines lemmas branch top (trees, same, closed) = record {
    fitting = all_lines board (LineFits table) line_fits name_fits top;
    known = all_lines board (IsKnown search.problem.forms) line_known (λ number new name. tt) top;
    tree = (trees, same, AreTrees-closed search.problem.forms lemmas (branch ∷ []) trees closed);
  }

  -- a used lemma's sets are words of the table, and rise
  is_block : (place : ℕ) (one : Kept) → slice_get (used_from board.nodes 1 board.kept) place ≡ Some one → (lemmas : List Pair) → Closes search.problem.forms lemmas (branch_of (block_of board one)) (lines_of board one.node) → IsBlock search.problem (block_of board one)
  is_block place one at lemmas closes =
      let comes = used_comes board.nodes 0 board.kept place one at in
      let kept = facts.kept (suc comes.distance) one comes.at in
      let lemma = (facts.each one.node kept.node kept.is).lemma one.pair kept.own in
      let (pairs, pairs_is, fold) = (split_at (setting_of search) board facts.each one.node kept.node kept.inst kept.first kept.is kept.split).folded one.pair kept.own in
      record {
        inside = record {
          words = all_held (λ (lit : Lit). IsWordOf table lit.word) one.pair.inside (λ lit there. node_word (setting_of search) board facts short one.node kept.node kept.is lit (part_holds one.pair.inside kept.node.lits lit lemma.inside there));
          rising = subst (λ (pair : Pair). is_rising pair.inside ≡ true) (sym fold) (rising-set_of (kept.inst.premises ++ insides kept.inst.conclusions pairs));
        };
        outside = record {
          words = all_held (λ (lit : Lit). IsWordOf table lit.word) one.pair.outside (λ lit there. barred_word (setting_of search) board facts short one.node kept.node kept.is lit (part_holds one.pair.outside kept.node.barred lit lemma.outside there));
          rising = subst (λ (pair : Pair). is_rising pair.outside ≡ true) (sym fold) (rising-set_of (outsides [] kept.inst.conclusions pairs));
        };
        lines = are_lines lemmas (branch_of (block_of board one)) one.node closes;
      }

  abbrev blocks : List LemmaBlock
  blocks = map (block_of board) (used_from board.nodes 1 board.kept)

  block_comes : (place : ℕ) (block : LemmaBlock) → slice_get blocks place ≡ Some block → (one : Kept) × (slice_get (used_from board.nodes 1 board.kept) place ≡ Some one) × (block_of board one ≡ block)
  block_comes place block at = by (slice_get (used_from board.nodes 1 board.kept) place) refl (sym (slice_get-map (block_of board) (used_from board.nodes 1 board.kept) place) ∙ at)
    where
      by : (found : Option Kept) → slice_get (used_from board.nodes 1 board.kept) place ≡ found → option_map (block_of board) found ≡ Some block → (one : Kept) × (slice_get (used_from board.nodes 1 board.kept) place ≡ Some one) × (block_of board one ≡ block)
      by None found bad = absurd (none_is block bad)
      by (Some one) found same = (one, found, same_some (block_of board one) block same)

  well_formed : IsWellFormed search.problem (doc_of board)
  well_formed =
      let accepted = closed_is_accepted search is in
      let nodes = few_nodes (setting_of search) board is.problem is.replay is.budget in
      let each : (k : ℕ) (block : LemmaBlock) → slice_get blocks k ≡ Some block → length block.tree ≤ 4294967296 = λ k block at.
      let (one, one_at, same) = block_comes k block at in
      subst (λ (this : LemmaBlock). length this.tree ≤ 4294967296) same (let lines = tree_lines (setting_of search) board facts one.node in omega (arith, lines, nodes)) in
      let before = lines_few blocks each in
      let root = tree_lines (setting_of search) board facts 0 in
      let count : length blocks ≡ length (used_from board.nodes 1 board.kept) = length-map (used_from board.nodes 1 board.kept) (block_of board) in
      let used = used_few board.nodes 1 board.kept in
      let kept = few_kept search is.replay in
      record {
        blocks = all_at (IsBlock search.problem) blocks (λ place block at.
            let (one, one_at, same) = block_comes place block at in
            subst (IsBlock search.problem) same (is_block place one one_at (lemmas_of (take place blocks))
            (subst (λ (this : LemmaBlock). Closes search.problem.forms (lemmas_of (take place blocks)) (branch_of this) this.tree) (sym same) (accepted.blocks place block (slice_get_within blocks place block at) at))));
        root = are_lines (lemmas_of blocks) empty_branch 0 accepted.root;
        few = omega (arith, count, used, kept);
        short = omega (arith, before, root, nodes, count, used, kept);
      }

pub closed_is_well_formed : (search : Search) → IsRefuted search → IsWellFormed search.problem (doc_of (board_of search))
closed_is_well_formed search is = well_formed search is
