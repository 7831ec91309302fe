-- Nodes that a kept lemma or a found set settles, by the lists of the board.
use Rattle.std.proofs.Common.{◌≡◌, ◌+◌, ◌<◌, ◌≤◌, ℕ, zero, suc, Bool, true, false, cond, not, nat_lt, ◌&&◌, inl, inr, List, [], ◌∷◌, length, get_or, map, slice_get, Option, Some, None, option_map, refl, sym, ap, ap₂, subst, ◌∙◌, arith}
use Rattle.std.specs.List.{list_any, position, position_or_len}
use Rattle.std.proofs.lemmas.Bool.{cases_lt, cond-true, cond-false, le-ltb, lt-ltb}
use Rattle.std.proofs.lemmas.List.Sums.{position_or_len_is}
use Rattle.std.proofs.lemmas.Option.{slice_get-get_or, slice_get_within}
use Rattle.mg_word.specs.Sets.{is_proper_part}
use Rattle.mg_word.specs.declared.lit.Lit.{Lit}
use Rattle.mg_word.proofs.Members.{both_false}
use Rattle.mg_meaning.specs.Folding.{Pair}
use Rattle.branch_lemmas.specs.Applying.{first_applying}
use Rattle.case_split.specs.declared.child.Closure.{Closure}
use Rattle.tree_board.specs.declared.cell.Cell.{Cell}
use Rattle.tree_board.specs.declared.event.Event.TheVariants.{ByLemma, Covered as CoveredBy}
use Rattle.tree_board.specs.declared.mode.Mode.{Mode}
use Rattle.tree_board.specs.declared.mode.Mode.TheVariants.{List as ListAll, Refute}
use Rattle.tree_board.specs.Boards.{Board, Kept}
use Rattle.tree_board.specs.CellStanding.{is_found_set}
use Rattle.tree_board.specs.declared.tally.Tally.{Tally}
use Rattle.tree_board.specs.Keeping.{IsKeeping}
use Rattle.tree_board.specs.Lawful.{applies_at, cover_for, lemma_for}
use Rattle.tree_board.specs.NodeStates.{is_found}
use Rattle.tree_board.specs.Nodes.{Node}
use Rattle.tree_board.specs.Quick.{IsOpenWith, covers_lits, cover_in}
use Rattle.tree_board.specs.Readers.{lits_of}
use Rattle.tree_board.specs.Searches.{Search, board_of, setting_of}
use Rattle.tree_board.specs.Settling.{IsOpenAt, IsSettlingBy, IsUntouched}
use Rattle.tree_board.proofs.FirstLemma.{first_is_lemma_for}
use Rattle.tree_board.proofs.Kept.{any_seen, cell_at, found_same}
use Rattle.tree_board.proofs.Places.{same_some}

-- ---- the first place of what passes a test

module _ {X : Type 0} (p : X → Bool) where
  -- where each element before a place fails, and the one there passes
  pub position_there : (xs : List X) (i : ℕ) → ((k : ℕ) → k < i → (x : X) → slice_get xs k ≡ Some x → p x ≡ false) → (x : X) → slice_get xs i ≡ Some x → p x ≡ true → position p xs ≡ Some i
  position_there xs i before x at passes =
      let small = slice_get_within xs i x at in
      let place : position_or_len p xs ≡ i =
      position_or_len_is p xs i x (omega (arith, small)) (λ k less. before k less (get_or xs k x) (slice_get-get_or xs k x (omega (arith, small, less))))
      (λ inside. subst (λ (y : X). p y ≡ true) (same_some x (get_or xs i x) (sym at ∙ slice_get-get_or xs i x inside)) passes) in
      ap (λ n. cond (nat_lt n (length xs)) (Some n) None) place ∙ cond-true (nat_lt i (length xs)) (Some i) None (lt-ltb i (length xs) small)

  -- where each fails
  pub position_nowhere : (xs : List X) → ((k : ℕ) (x : X) → slice_get xs k ≡ Some x → p x ≡ false) → position p xs ≡ None
  position_nowhere [] each = refl
  position_nowhere (x ∷ xs) each =
      let place : position_or_len p (x ∷ xs) ≡ length (x ∷ xs) =
      position_or_len_is p (x ∷ xs) (length (x ∷ xs)) x (omega arith) (λ k less. each k (get_or (x ∷ xs) k x) (slice_get-get_or (x ∷ xs) k x less)) (λ inside. absurd (omega (arith, inside))) in
      ap (λ n. cond (nat_lt n (length (x ∷ xs))) (Some n) None) place
      ∙ cond-false (nat_lt (length (x ∷ xs)) (length (x ∷ xs))) (Some (length (x ∷ xs))) None (le-ltb (length (x ∷ xs)) (length (x ∷ xs)) (omega arith))

-- ---- covering

-- by the literals alone
pub cover_is : (mode : Mode) (board : Board) (node : Node) (lits : List Lit) → node.lits ≡ lits → cover_for mode board node ≡ cover_in mode board.nodes lits
cover_is Refute board node lits held = refl
cover_is ListAll board node lits held = ap (cover_in ListAll board.nodes) held

not_found : (other : Node) (lits : List Lit) → is_found other.state ≡ false → covers_lits lits other ≡ false
not_found other lits unmet = ap (λ b. b && is_proper_part other.lits lits) unmet

-- before each number, no node covers
abbrev pub NoneBefore : List Node → List Lit → ℕ → Type 0
NoneBefore nodes lits number = (k : ℕ) → k < number → (other : Node) → slice_get nodes k ≡ Some other → covers_lits lits other ≡ false

pub none_at_first : (nodes : List Node) (lits : List Lit) → NoneBefore nodes lits 0
none_at_first nodes lits k small = absurd (omega (arith, small))

pub none_further : (nodes : List Node) (lits : List Lit) (number : ℕ) → NoneBefore nodes lits number → option_map (covers_lits lits) (slice_get nodes number) ≡ Some false → NoneBefore nodes lits (number + 1)
none_further nodes lits number before not k small other at = elim (cases_lt k number) [
  | inl less ↦ before k less other at
  | inr more ↦
      let here : slice_get nodes number ≡ Some other = ap (slice_get nodes) (let e : number ≡ k = omega (arith, small, more) in e) ∙ at in
      same_some (covers_lits lits other) false (sym (ap (option_map (covers_lits lits)) here) ∙ not)
]

pub first_covers : (nodes : List Node) (lits : List Lit) (number : ℕ) → NoneBefore nodes lits number → option_map (covers_lits lits) (slice_get nodes number) ≡ Some true → Some number ≡ position (covers_lits lits) nodes
first_covers nodes lits number before holds_now = by (slice_get nodes number) refl
  where
    by : (found : Option Node) → slice_get nodes number ≡ found → Some number ≡ position (covers_lits lits) nodes
    by None none = absurd (let bad : None ≡ Some true = sym (ap (option_map (covers_lits lits)) none) ∙ holds_now in let worse : ⊥ = cc in worse)
    by (Some other) at = sym (position_there (covers_lits lits) nodes number before other at (same_some (covers_lits lits other) true (sym (ap (option_map (covers_lits lits)) at) ∙ holds_now)))

pub none_covers : (nodes : List Node) (lits : List Lit) (number : ℕ) → NoneBefore nodes lits number → length nodes ≤ number → None ≡ position (covers_lits lits) nodes
none_covers nodes lits number before all =
    sym (position_nowhere (covers_lits lits) nodes (λ k other at. let small = slice_get_within nodes k other at in before k (omega (arith, small, all)) other at))

-- ---- kept lemmas

pub same_node : (board : Board) (number : ℕ) (lits barred : List Lit) → (opened : IsOpenWith board number lits barred) → (node : Node) → slice_get board.nodes number ≡ Some node → opened.node ≡ node
same_node board number lits barred opened node at = same_some opened.node node (sym opened.is ∙ at)

pub open_with : (board : Board) (number : ℕ) → IsOpenAt board number → (lits barred : List Lit) → lits_of board.nodes number ≡ Some lits → option_map (λ (node : Node). node.barred) (slice_get board.nodes number) ≡ Some barred → IsOpenWith board number lits barred
open_with board number opened lits barred lits_is barred_is = record {
  node = opened.node;
  is = opened.is;
  opened = opened.opened;
  held = same_some opened.node.lits lits (sym (ap (option_map (λ (one : Node). one.lits)) opened.is) ∙ lits_is);
  bars = same_some opened.node.barred barred (sym (ap (option_map (λ (one : Node). one.barred)) opened.is) ∙ barred_is);
}

pub open_there : (board : Board) (number : ℕ) → IsOpenAt board number → number < length board.nodes
open_there board number opened = slice_get_within board.nodes number opened.node opened.is

-- ---- of a board

module _ (value : Search) (cells : List Cell) (closures : List Closure) (lemmas : List Pair) (lemma_nodes : List ℕ) (tally : Tally) (keeping : IsKeeping value cells closures lemmas lemma_nodes tally) where
  pub found_here : (number : ℕ) (node : Node) → slice_get (board_of value).nodes number ≡ Some node → option_map (λ (cell : Cell). is_found_set cell.settled) (slice_get cells number) ≡ Some (is_found node.state)
  found_here number node at =
      let (cell, is, stands) = cell_at value.journal closures (board_of value).kept 0 cells (board_of value).nodes keeping.stand.nodes number node at in
      ap (option_map (λ (cell : Cell). is_found_set cell.settled)) is ∙ ap Some (found_same value.journal closures (board_of value).kept (0 + number) cell.settled node.state stands.settled)

  pub some_node : (nodes : List Node) (number : ℕ) → number < length nodes → (node : Node) × (slice_get nodes number ≡ Some node)
  some_node [] number small = absurd (omega (arith, small))
  some_node (node ∷ nodes) zero small = (node, refl)
  some_node (node ∷ nodes) (suc number) small = some_node nodes number (omega (arith, small))

  pub unfound_covers_none : (number : ℕ) → number < length (board_of value).nodes → (lits : List Lit) → option_map (λ (cell : Cell). is_found_set cell.settled) (slice_get cells number) ≡ Some false → option_map (covers_lits lits) (slice_get (board_of value).nodes number) ≡ Some false
  unfound_covers_none number small lits unmet =
      let (node, at) = some_node (board_of value).nodes number small in
      let unfound : is_found node.state ≡ false = same_some (is_found node.state) false (sym (found_here number node at) ∙ unmet) in
      ap (option_map (covers_lits lits)) at ∙ ap Some (not_found node lits unfound)

  pub found_covers : (number : ℕ) → number < length (board_of value).nodes → (lits : List Lit) → option_map (λ (cell : Cell). is_found_set cell.settled) (slice_get cells number) ≡ Some true → (set : List Lit) → lits_of (board_of value).nodes number ≡ Some set
      → option_map (covers_lits lits) (slice_get (board_of value).nodes number) ≡ Some (is_proper_part set lits)
  found_covers number small lits holds_now set set_is =
      let (node, at) = some_node (board_of value).nodes number small in
      let found : is_found node.state ≡ true = same_some (is_found node.state) true (sym (found_here number node at) ∙ holds_now) in
      let own : node.lits ≡ set = same_some node.lits set (sym (ap (option_map (λ (one : Node). one.lits)) at) ∙ set_is) in
      ap (option_map (covers_lits lits)) at ∙ ap Some (ap₂ (λ b held. b && is_proper_part held lits) found own)

  module _ (number : ℕ) (lits barred : List Lit) (opened : IsOpenWith (board_of value) number lits barred) where
    pub lemma_is : first_applying lemmas lits barred ≡ lemma_for (board_of value) opened.node
    lemma_is = ap₂ (first_applying lemmas) (sym opened.held) (sym opened.bars) ∙ first_is_lemma_for (board_of value) lemmas keeping.stand.pairs opened.node

    pub settled_by_lemma : (lemma : ℕ) → first_applying lemmas lits barred ≡ Some lemma → IsSettlingBy (setting_of value) (board_of value) number (ByLemma number lemma)
    settled_by_lemma lemma is = (refl, tt, record { node = opened.node; is = opened.is; opened = opened.opened; due = sym lemma_is ∙ is })

    pub settled_by_cover : first_applying lemmas lits barred ≡ None → (cover : ℕ) → cover_in value.mode (board_of value).nodes lits ≡ Some cover → IsSettlingBy (setting_of value) (board_of value) number (CoveredBy number cover)
    settled_by_cover none cover is =
        (refl, tt, record { node = opened.node; is = opened.is; opened = opened.opened; due = (sym lemma_is ∙ none, cover_is value.mode (board_of value) opened.node lits opened.held ∙ is) })

    pub untouched : first_applying lemmas lits barred ≡ None → cover_in value.mode (board_of value).nodes lits ≡ None → IsUntouched (setting_of value) (board_of value) number
    untouched none uncovered node at =
        subst (λ (one : Node). (lemma_for (board_of value) one ≡ None) × (cover_for value.mode (board_of value) one ≡ None)) (same_node (board_of value) number lits barred opened node at)
        (sym lemma_is ∙ none, cover_is value.mode (board_of value) opened.node lits opened.held ∙ uncovered)
