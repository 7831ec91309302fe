-- The document of a closed board is accepted.
use Rattle.std.proofs.Common.{◌≡◌, ℕ, zero, suc, ◌+◌, ◌<◌, ◌≤◌, true, List, [], ◌∷◌, map, take, length, slice_get, Option, Some, None, option_map, refl, sym, ap, subst, ◌∙◌, inl, arith}
use Rattle.std.proofs.lemmas.List.{take_all}
use Rattle.std.proofs.lemmas.Option.{slice_get-map, slice_get_within}
use Rattle.mg_word.specs.Sets.{is_part}
use Rattle.mg_word.specs.Words.{numbered}
use Rattle.mg_meaning.specs.Folding.{Pair}
use Rattle.tree_checker.specs.Closing.{Closes}
use Rattle.tree_checker.specs.Docs.{lemma_of, lemmas_of, branch_of, Accepts}
use Rattle.tree_checker.specs.Laws.{own_branch}
use Rattle.tree_checker.specs.Trees.{empty_branch}
use Rattle.tree_checker.specs.declared.doc.LemmaBlock.{LemmaBlock}
use Rattle.tree_checker.proofs.Larger.{Closes-larger}
use Rattle.tree_board.specs.Boards.{Board, Kept, own_of, pair_at, is_closed}
use Rattle.tree_board.specs.Facts.{IsAmong, IsBoard}
use Rattle.tree_board.specs.NodeStates.{Settled}
use Rattle.tree_board.specs.Nodes.{Node}
use Rattle.tree_board.specs.Searches.{Search, setting_of, board_of}
use Rattle.tree_board.specs.Settings.{Setting}
use Rattle.tree_board.proofs.Covering.{closed_some}
use Rattle.tree_board.proofs.Places.{same_some}
use Rattle.tree_board.proofs.Replays.{replay_board}
use Rattle.board_tree.specs.Documents.{block_of, doc_of}
use Rattle.board_tree.specs.Lines.{lines_of}
use Rattle.board_tree.specs.Refuted.{IsRefuted}
use Rattle.board_tree.specs.Used.{is_used, new_number, used_from}
use Rattle.board_tree.proofs.OwnNames.{none_is, IsNamed, named_from}
use Rattle.board_tree.proofs.Trees.{top_closes}
use Rattle.board_tree.proofs.Uses.{settled_used, new_number_rises, used_stands, used_comes, ComesFrom}

module _ {X : Type 0} where
  pub get_take : (items : List X) (count index : ℕ) → index < count → slice_get (take count items) index ≡ slice_get items index
  get_take items zero index less = absurd (omega (arith, less))
  get_take [] (suc count) index less = refl
  get_take (item ∷ items) (suc count) zero less = refl
  get_take (item ∷ items) (suc count) (suc index) less = get_take items count index (omega (arith, less))

-- the lemma with a pair is kept with it
pub kept_with_pair : (kept : List Kept) (lemma : ℕ) (pair : Pair) → pair_at kept lemma ≡ Some pair → (one : Kept) × (numbered kept lemma ≡ Some one) × (one.pair ≡ pair)
kept_with_pair kept lemma pair has = by (numbered kept lemma) refl has
  where
    by : (found : Option Kept) → numbered kept lemma ≡ found → option_map (λ (one : Kept). one.pair) found ≡ Some pair → (one : Kept) × (numbered kept lemma ≡ Some one) × (one.pair ≡ pair)
    by None found bad = absurd (none_is pair bad)
    by (Some one) found same = (one, found, same_some one.pair pair same)

module _ (setting : Setting) (board : Board) (facts : IsBoard setting board) where
  abbrev used : List Kept
  used = used_from board.nodes 1 board.kept

  abbrev blocks : List LemmaBlock
  blocks = map (block_of board) used

  -- a used lemma is among the first blocks, where they are as many as its new number
  among_blocks : (count lemma : ℕ) (one : Kept) → numbered board.kept lemma ≡ Some one → is_used board.nodes lemma ≡ true → new_number board.nodes lemma ≤ count → numbered (lemmas_of (take count blocks)) (new_number board.nodes lemma) ≡ Some one.pair
  among_blocks count zero one at is_used_one few = absurd (none_is one at)
  among_blocks count (suc distance) one at is_used_one few =
      let stands = used_stands board.nodes 0 board.kept (suc distance) distance one (omega arith) at is_used_one in
      let place = stands.place in
      let number : new_number board.nodes (suc distance) ≡ suc place = omega (arith, stands.number) in
      ap (numbered (lemmas_of (take count blocks))) number
      ∙ slice_get-map lemma_of (take count blocks) place
      ∙ ap (option_map lemma_of) (get_take blocks count place (omega (arith, few, number)) ∙ slice_get-map (block_of board) used place ∙ ap (option_map (block_of board)) stands.is)

  -- what settled a node, and what names one, among the first blocks
  settled_among : (count number : ℕ) (node : Node) (lemma : ℕ) (pair : Pair) → slice_get board.nodes number ≡ Some node → node.state ≡ Settled lemma → pair_at board.kept lemma ≡ Some pair → new_number board.nodes lemma ≤ count
      → numbered (lemmas_of (take count blocks)) (new_number board.nodes lemma) ≡ Some pair
  settled_among count number node lemma pair at state has few =
      let (one, one_at, same) = kept_with_pair board.kept lemma pair has in
      among_blocks count lemma one one_at (settled_used board.nodes number node lemma at state) few ∙ ap Some same

  named_among : (count number : ℕ) (node : Node) (pair : Pair) (new : ℕ) → slice_get board.nodes number ≡ Some node → node.own ≡ Some pair → (named : IsNamed board number new) → new_number board.nodes named.lemma ≤ count → numbered (lemmas_of (take count blocks)) new ≡ Some pair
  named_among count number node pair new at own named few =
      let kept = facts.kept named.lemma named.one named.at in
      let same : kept.node ≡ node = same_some kept.node node (sym kept.is ∙ ap (slice_get board.nodes) named.node ∙ at) in
      let pairs : named.one.pair ≡ pair = same_some named.one.pair pair (sym kept.own ∙ ap (λ (n : Node). n.own) same ∙ own) in
      ap (numbered (lemmas_of (take count blocks))) (sym named.is) ∙ among_blocks count named.lemma named.one named.at named.used few ∙ ap Some pairs

  -- the block of a used lemma, from its own sets, by the blocks before it
  used_closes : (place : ℕ) (one : Kept) → slice_get used place ≡ Some one → Closes setting.problem.forms (lemmas_of (take place blocks)) (own_branch one.pair) (lines_of board one.node)
  used_closes place one at =
      let comes : ComesFrom board.nodes 0 board.kept place one = used_comes board.nodes 0 board.kept place one at in
      let lemma : ℕ = suc comes.distance in
      let same : 1 + comes.distance ≡ lemma = omega arith in
      let is_used_one : is_used board.nodes lemma ≡ true = ap (is_used board.nodes) (sym same) ∙ comes.used in
      let number : new_number board.nodes lemma ≡ suc place = ap (new_number board.nodes) (sym same) ∙ comes.number ∙ (let e : suc place + 0 ≡ suc place = omega arith in e) in
      let kept = facts.kept lemma one comes.at in
      let under : IsAmong kept.node.path one.node = subst (λ path. IsAmong path one.node) (sym (facts.each one.node kept.node kept.is).path) (inl refl) in
      let few : (other : ℕ) → other < lemma → new_number board.nodes other ≤ place = λ other less. let rises = new_number_rises board.nodes other lemma less is_used_one in omega (arith, rises, number) in
      top_closes setting board facts one.node (lemmas_of (take place blocks))
      (λ k node other pair is below state has. settled_among place k node other pair is state has (few other (kept.settled k node other is below state)))
      (λ k node pair new is below later own name.
      let named = named_from board k new name in
      named_among place k node pair new is own named (few named.lemma (kept.kept k node named.lemma named.one is below (λ e. absurd (omega (arith, e, later))) named.at named.node)))
      kept.node one.pair kept.is under kept.own

  block_closes : (place : ℕ) (block : LemmaBlock) → slice_get blocks place ≡ Some block → Closes setting.problem.forms (lemmas_of (take place blocks)) (branch_of block) block.tree
  block_closes place block at = by (slice_get used place) refl (sym (slice_get-map (block_of board) used place) ∙ at)
    where
      by : (found : Option Kept) → slice_get used place ≡ found → option_map (block_of board) found ≡ Some block → Closes setting.problem.forms (lemmas_of (take place blocks)) (branch_of block) block.tree
      by None found bad = absurd (none_is block bad)
      by (Some one) found same =
          subst (λ (this : LemmaBlock). Closes setting.problem.forms (lemmas_of (take place blocks)) (branch_of this) this.tree) (same_some (block_of board one) block same) (used_closes place one found)

  -- new numbers are at most the number of blocks
  within_blocks : (lemma : ℕ) (one : Kept) → numbered board.kept lemma ≡ Some one → is_used board.nodes lemma ≡ true → new_number board.nodes lemma ≤ length blocks
  within_blocks zero one at is_used_one = absurd (none_is one at)
  within_blocks (suc distance) one at is_used_one =
      let stands = used_stands board.nodes 0 board.kept (suc distance) distance one (omega arith) at is_used_one in
      let there : slice_get blocks stands.place ≡ Some (block_of board one) = slice_get-map (block_of board) used stands.place ∙ ap (option_map (block_of board)) stands.is in
      let inside = slice_get_within blocks stands.place (block_of board one) there in
      omega (arith, inside, stands.number)

  -- the root's tree, from nothing, by all blocks
  root_closes : is_closed board 0 ≡ true → Closes setting.problem.forms (lemmas_of blocks) empty_branch (lines_of board 0)
  root_closes closed =
      let (root, is, path, lits, barred) = facts.root in
      let (pair, own) = closed_some (own_of (slice_get board.nodes 0)) closed in
      let root_own : root.own ≡ Some pair = ap own_of (sym is) ∙ own in
      let lemma = (facts.each 0 root is).lemma pair root_own in
      let under : IsAmong root.path 0 = subst (λ one. IsAmong one 0) (sym path) (inl refl) in
      let whole : take (length blocks) blocks ≡ blocks = take_all (length blocks) blocks (omega arith) in
      let all : List Pair = lemmas_of (take (length blocks) blocks) in
      let tree : Closes setting.problem.forms all (own_branch pair) (lines_of board 0) = top_closes setting board facts 0 all
      (λ k node other this at below state has.
      let (one, one_at, same) = kept_with_pair board.kept other this has in
      settled_among (length blocks) k node other this at state has (within_blocks other one one_at (settled_used board.nodes k node other at state)))
      (λ k node this new at below later has name.
      let named = named_from board k new name in
      named_among (length blocks) k node this new at has named (within_blocks named.lemma named.one named.at named.used))
      root pair is under root_own in
      subst (λ (blocks : List LemmaBlock). Closes setting.problem.forms (lemmas_of blocks) empty_branch (lines_of board 0)) whole
      (Closes-larger setting.problem.forms all all (λ number one at. at) (own_branch pair) empty_branch (lines_of board 0)
      (record { held = subst (λ held. is_part pair.inside held ≡ true) lits lemma.inside; barred = subst (λ bars. is_part pair.outside bars ≡ true) barred lemma.outside }) tree)

  pub doc_accepted : is_closed board 0 ≡ true → Accepts setting.problem (doc_of board)
  doc_accepted closed = record { blocks = λ place block small at. block_closes place block at; root = root_closes closed }

pub closed_is_accepted : (search : Search) → IsRefuted search → Accepts search.problem (doc_of (board_of search))
closed_is_accepted search is = doc_accepted (setting_of search) (board_of search) (replay_board (setting_of search) (board_of search) is.problem is.replay) is.closed
