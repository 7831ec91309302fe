-- The table of new numbers.
use Rattle.std.proofs.Common.{◌≡◌, ℕ, zero, suc, ◌+◌, ◌<◌, ◌≤◌, Bool, true, false, true≢false, ◌⊎◌, ◌||◌, if◌then◌else◌, nat_eq, List, [], ◌∷◌, ◌++◌, length, take, drop, replicate, is_some, slice_get, slice_set, Option, Some, None, option_map, refl, sym, ap, ap₂, ◌∙◌, inl, inr, arith}
use Rattle.std.specs.Prelude.{option_and_then}
use Rattle.std.proofs.lemmas.Bool.{eqb-true, eq-eqb}
use Rattle.std.proofs.lemmas.List.{append-nil, take_all}
use Rattle.std.proofs.lemmas.List.Folds.{list_any-append}
use Rattle.std.proofs.lemmas.Option.{slice_get_within}
use Rattle.mg_word.specs.Words.{numbered}
use Rattle.mg_word.proofs.Members.{never_true}
use Rattle.tree_board.specs.Boards.{Board, Kept}
use Rattle.tree_board.specs.Nodes.{Node}
use Rattle.tree_board.specs.Readers.{lemma_by, lemma_node_at, shown}
use Rattle.tree_board.proofs.Places.{length-slice_set}
use Rattle.tree_board.specs.Splits.{one_if}
use Rattle.board_tree.specs.Lines.{used_number}
use Rattle.board_tree.specs.Tables.{marks_from, with_mark, names_after, names_of, name_in}
use Rattle.board_tree.specs.Used.{is_number, is_used, new_number}
use Rattle.board_tree.proofs.OwnNames.{none_is}

-- ---- lists

pub there_is : {X : Type 0} (items : List X) (k : ℕ) → k < length items → (item : X) × (slice_get items k ≡ Some item)
there_is [] k within = absurd (omega (arith, within))
there_is (item ∷ items) zero within = (item, refl)
there_is (item ∷ items) (suc k) within = there_is items k (omega (arith, within))

pub take_next : {X : Type 0} (items : List X) (k : ℕ) (item : X) → slice_get items k ≡ Some item → take (suc k) items ≡ take k items ++ item ∷ []
take_next [] k item at = absurd (let bad : ⊥ = cc in bad)
take_next (first ∷ items) zero item at = let same : first ≡ item = cc in ap (λ one. one ∷ []) same
take_next (first ∷ items) (suc k) item at = ap (λ rest. first ∷ rest) (take_next items k item at)

pub drop_next : {X : Type 0} (items : List X) (k : ℕ) (item : X) → slice_get items k ≡ Some item → drop k items ≡ item ∷ drop (suc k) items
drop_next [] k item at = absurd (let bad : ⊥ = cc in bad)
drop_next (first ∷ items) zero item at = let same : first ≡ item = cc in ap (λ one. one ∷ items) same
drop_next (first ∷ items) (suc k) item at = drop_next items k item at

drop-past : {X : Type 0} (count : ℕ) (items : List X) → length items ≤ count → drop count items ≡ []
drop-past zero [] past = refl
drop-past (suc count) [] past = refl
drop-past zero (item ∷ items) past = absurd (omega (arith, past))
drop-past (suc count) (item ∷ items) past = drop-past count items (omega (arith, past))

-- ---- marks

-- as long as no node is looked at, no lemma is used
pub marks_none : (start : ℕ) (kept : List Kept) (count : ℕ) → count ≡ length kept → replicate count false ≡ marks_from [] start kept
marks_none start [] zero size = refl
marks_none start [] (suc count) size = absurd (omega (arith, size))
marks_none start (one ∷ kept) zero size = absurd (omega (arith, size))
marks_none start (one ∷ kept) (suc count) size = ap (λ rest. false ∷ rest) (marks_none (suc start) kept count (omega (arith, size)))

module _ (nodes : List Node) (node : Node) where
  miss_used : (lemma : ℕ) → is_number lemma (lemma_by node.state) ≡ false → is_used (nodes ++ node ∷ []) lemma ≡ is_used nodes lemma
  miss_used lemma miss =
      list_any-append (λ (one : Node). is_number lemma (lemma_by one.state)) nodes (node ∷ [])
      ∙ ap (λ test. is_used nodes lemma || (test || false)) miss
      ∙ same (is_used nodes lemma)
    where
      same : (test : Bool) → (test || (false || false)) ≡ test
      same true = refl
      same false = refl

  hit_used : (lemma : ℕ) → is_number lemma (lemma_by node.state) ≡ true → is_used (nodes ++ node ∷ []) lemma ≡ true
  hit_used lemma hit =
      list_any-append (λ (one : Node). is_number lemma (lemma_by one.state)) nodes (node ∷ [])
      ∙ ap (λ test. is_used nodes lemma || (test || false)) hit
      ∙ same (is_used nodes lemma)
    where
      same : (test : Bool) → (test || (true || false)) ≡ true
      same true = refl
      same false = refl

  marks_miss : (start : ℕ) (kept : List Kept) → ((lemma : ℕ) → start ≤ lemma → is_number lemma (lemma_by node.state) ≡ false) → marks_from (nodes ++ node ∷ []) start kept ≡ marks_from nodes start kept
  marks_miss start [] miss = refl
  marks_miss start (one ∷ kept) miss = ap₂ (λ (mark : Bool) (rest : List Bool). mark ∷ rest) (miss_used start (miss start (omega arith))) (marks_miss (suc start) kept (λ lemma low. miss lemma (omega (arith, low))))

  not_number : (other lemma : ℕ) → lemma_by node.state ≡ Some other → (other ≡ lemma → ⊥) → is_number lemma (lemma_by node.state) ≡ false
  not_number other lemma is apart = ap (is_number lemma) is ∙ never_true (nat_eq other lemma) (λ same. apart (eqb-true other lemma same))

  marks_hit : (start distance : ℕ) (kept : List Kept) (lemma : ℕ) → lemma ≡ start + distance → lemma_by node.state ≡ Some lemma → marks_from (nodes ++ node ∷ []) start kept ≡ slice_set (marks_from nodes start kept) distance true
  marks_hit start zero [] lemma far is = refl
  marks_hit start (suc distance) [] lemma far is = refl
  marks_hit start zero (one ∷ kept) lemma far is =
      ap₂ (λ (mark : Bool) (rest : List Bool). mark ∷ rest) (hit_used start (ap (is_number start) is ∙ eq-eqb lemma start (omega (arith, far))))
      (marks_miss (suc start) kept (λ other low. not_number lemma other is (λ same. absurd (omega (arith, far, low, same)))))
  marks_hit start (suc distance) (one ∷ kept) lemma far is =
      ap₂ (λ (mark : Bool) (rest : List Bool). mark ∷ rest) (miss_used start (not_number lemma start is (λ same. absurd (omega (arith, far, same)))))
      (marks_hit (suc start) distance kept lemma (omega (arith, far)) is)

  -- one node more marks its lemma
  marks_more : (kept : List Kept) → marks_from (nodes ++ node ∷ []) 1 kept ≡ with_mark (marks_from nodes 1 kept) (lemma_by node.state)
  marks_more kept = by (lemma_by node.state) refl
    where
      by : (found : Option ℕ) → lemma_by node.state ≡ found → marks_from (nodes ++ node ∷ []) 1 kept ≡ with_mark (marks_from nodes 1 kept) found
      by None is = marks_miss 1 kept (λ lemma low. ap (is_number lemma) is)
      by (Some zero) is = marks_miss 1 kept (λ lemma low. not_number 0 lemma is (λ same. absurd (omega (arith, low, same))))
      by (Some (suc index)) is = marks_hit 1 index kept (suc index) (omega arith) is

pub marks_step : (nodes : List Node) (kept : List Kept) (k : ℕ) → k < length nodes → marks_from (take (k + 1) nodes) 1 kept ≡ with_mark (marks_from (take k nodes) 1 kept) (shown lemma_by nodes k)
marks_step nodes kept k within =
    let (node, at) = there_is nodes k within in
    let next : k + 1 ≡ suc k = omega arith in
    ap (λ count. marks_from (take count nodes) 1 kept) next
    ∙ ap (λ front. marks_from front 1 kept) (take_next nodes k node at)
    ∙ marks_more (take k nodes) node kept
    ∙ ap (λ found. with_mark (marks_from (take k nodes) 1 kept) (option_and_then (λ (one : Node). lemma_by one.state) found)) (sym at)

-- ---- names

-- in the table each kept lemma has its new number, where it is used
name_stands : (nodes : List Node) (start : ℕ) (kept : List Kept) (distance : ℕ) (one : Kept) → slice_get kept distance ≡ Some one → (lemma : ℕ) → lemma ≡ suc start + distance
    → slice_get (names_after (new_number nodes start) (marks_from nodes (suc start) kept)) distance ≡ Some (used_number nodes (Some lemma))
name_stands nodes start [] distance one at lemma far = absurd (let bad : ⊥ = cc in bad)
name_stands nodes start (first ∷ kept) zero one at lemma far =
    let same : suc start ≡ lemma = omega (arith, far) in
    ap Some (by (is_used nodes (suc start)) ∙ ap (λ this. used_number nodes (Some this)) same)
  where
    by : (test : Bool) → (if test then Some (suc (new_number nodes start)) else None) ≡ (if test then Some (one_if test + new_number nodes start) else None)
    by true = ap Some (omega arith)
    by false = refl
name_stands nodes start (first ∷ kept) (suc distance) one at lemma far = name_stands nodes (suc start) kept distance one at lemma (omega (arith, far))

pub name_is : (board : Board) (lemma : ℕ) (one : Kept) → numbered board.kept lemma ≡ Some one → name_in (names_of board) lemma ≡ used_number board.nodes (Some lemma)
name_is board zero one at = absurd (none_is one at)
name_is board (suc distance) one at = ap (option_and_then (λ (name : Option ℕ). name)) (name_stands board.nodes 0 board.kept distance one at (suc distance) (omega arith))

pub name_at_index : (board : Board) (index : ℕ) → index < length board.kept → slice_get (names_of board) index ≡ Some (used_number board.nodes (Some (suc index)))
name_at_index board index small =
    let (one, at) = there_is board.kept index small in
    name_stands board.nodes 0 board.kept index one at (suc index) (omega arith)

-- the table is as long as the list of kept lemmas
names_size : (count : ℕ) (marks : List Bool) → length (names_after count marks) ≡ length marks
names_size count [] = refl
names_size count (mark ∷ marks) = ap suc (names_size (one_if mark + count) marks)

pub marks_size : (nodes : List Node) (number : ℕ) (kept : List Kept) → length (marks_from nodes number kept) ≡ length kept
marks_size nodes number [] = refl
marks_size nodes number (one ∷ kept) = ap suc (marks_size nodes (suc number) kept)

pub names_long : (board : Board) → length (names_of board) ≡ length board.kept
names_long board = names_size 0 (marks_from board.nodes 1 board.kept) ∙ marks_size board.nodes 1 board.kept

-- ---- how many lemmas are kept

pub kept_there : (kept : List Kept) (count : ℕ) (found : Option ℕ) → found ≡ lemma_node_at kept (count + 1) → is_some found ≡ true → count < length kept
kept_there kept count found is some =
    let next : count + 1 ≡ suc count = omega arith in
    by (slice_get kept count) refl (ap is_some (ap (lemma_node_at kept) (sym next) ∙ sym is) ∙ some)
  where
    by : (one : Option Kept) → slice_get kept count ≡ one → is_some (option_map (λ (this : Kept). this.node) one) ≡ true → count < length kept
    by None at bad = absurd (true≢false (sym bad))
    by (Some one) at there = slice_get_within kept count one at

pub kept_past : (kept : List Kept) (count : ℕ) (found : Option ℕ) → found ≡ lemma_node_at kept (count + 1) → is_some found ≡ false → length kept ≤ count
kept_past kept count found is none =
    let next : count + 1 ≡ suc count = omega arith in
    by (le_cases (length kept) count) (ap is_some (ap (lemma_node_at kept) (sym next) ∙ sym is) ∙ none)
  where
    le_cases : (a b : ℕ) → (a ≤ b) ⊎ (b < a)
    le_cases zero b = inl (omega arith)
    le_cases (suc a) zero = inr (omega arith)
    le_cases (suc a) (suc b) = elim (le_cases a b) [
      | inl low ↦ inl (omega (arith, low))
      | inr high ↦ inr (omega (arith, high))
    ]

    by : (length kept ≤ count) ⊎ (count < length kept) → is_some (option_map (λ (this : Kept). this.node) (slice_get kept count)) ≡ false → length kept ≤ count
    by (inl past) none = past
    by (inr within) none =
        let (one, at) = there_is kept count within in
        absurd (true≢false (sym (ap (λ found. is_some (option_map (λ (this : Kept). this.node) found)) at) ∙ none))

-- ---- marks that are set through a slice

pub mark_size : (marks : List Bool) (lemma : Option ℕ) → length (with_mark marks lemma) ≡ length marks
mark_size marks None = refl
mark_size marks (Some zero) = refl
mark_size marks (Some (suc index)) = length-slice_set marks index true

pub written_back : (count : ℕ) (new old : List Bool) → length new ≡ length old → count ≡ length old → take count (new ++ drop (length new) old) ≡ new
written_back count new old size is =
    ap (λ rest. take count (new ++ rest)) (drop-past (length new) old (omega (arith, size)))
    ∙ ap (take count) (append-nil new)
    ∙ take_all count new (omega (arith, size, is))
