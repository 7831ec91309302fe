-- Blocks that are listed lemma by lemma.
use Rattle.std.proofs.Common.{◌≡◌, ℕ, zero, suc, ◌+◌, ◌<◌, ◌≤◌, Bool, true, false, if◌then◌else◌, is_some, IsSome, List, [], ◌∷◌, ◌++◌, map, take, length, get_or, slice_get, Option, Some, None, option_map, refl, sym, ap, ap₂, subst, ◌∙◌, arith}
use Rattle.std.proofs.lemmas.List.{append-nil, map-append, take_all}
use Rattle.std.proofs.lemmas.Option.{get_or_from_slice_get}
use Rattle.mg_word.specs.Words.{numbered}
use Rattle.tree_checker.specs.declared.doc.LemmaBlock.{LemmaBlock}
use Rattle.tree_board.specs.Boards.{Board, Kept}
use Rattle.tree_board.specs.Nodes.{Node}
use Rattle.tree_board.proofs.Places.{same_some}
use Rattle.board_tree.specs.Tables.{names_of}
use Rattle.board_tree.specs.Used.{is_used, new_number, used_from}
use Rattle.board_tree.specs.Lines.{used_number}
use Rattle.board_tree.proofs.Tabled.{there_is, name_at_index}

-- the lemma with a number is kept
pub lemma_there : (kept : List Kept) (index : ℕ) → index < length kept → IsSome (numbered kept (index + 1))
lemma_there kept index small =
    let (one, at) = there_is kept index small in
    let next : suc index ≡ index + 1 = omega arith in
    subst (λ number. IsSome (numbered kept number)) next (ap is_some at)

abbrev used_only : Bool → Kept → List Kept
used_only true one = one ∷ []
used_only false one = []

-- one lemma more
used_more : (nodes : List Node) (start : ℕ) (kept : List Kept) (index : ℕ) (one : Kept) → slice_get kept index ≡ Some one → (lemma : ℕ) → lemma ≡ start + index → (test : Bool) → is_used nodes lemma ≡ test
    → used_from nodes start (take (suc index) kept) ≡ used_from nodes start (take index kept) ++ used_only test one
used_more nodes start [] index one at lemma far test is = absurd (let bad : ⊥ = cc in bad)
used_more nodes start (first ∷ kept) zero one at lemma far test is =
    let here : start ≡ lemma = omega (arith, far) in
    let same : first ≡ one = same_some first one at in
    ap (λ b. if b then first ∷ [] else []) (ap (is_used nodes) here ∙ is) ∙ by test ∙ ap (used_only test) same
  where
    by : (b : Bool) → (if b then first ∷ [] else []) ≡ used_only b first
    by true = refl
    by false = refl
used_more nodes start (first ∷ kept) (suc index) one at lemma far test is =
    by (is_used nodes start) (used_more nodes (suc start) kept index one at lemma (omega (arith, far)) test is)
  where
    by : (b : Bool) → used_from nodes (suc start) (take (suc index) kept) ≡ used_from nodes (suc start) (take index kept) ++ used_only test one
        → (if b then first ∷ used_from nodes (suc start) (take (suc index) kept) else used_from nodes (suc start) (take (suc index) kept)) ≡ (if b then first ∷ used_from nodes (suc start) (take index kept) else used_from nodes (suc start) (take index kept)) ++ used_only test one
    by true rest = ap (λ more. first ∷ more) rest
    by false rest = rest

module _ (board : Board) (f : Kept → LemmaBlock) (names : List (Option ℕ)) (names_are : names ≡ names_of board) (index : ℕ) (small : index < length board.kept) where
  -- what the table says of a lemma
  used_by_name : (test : Bool) → is_some (get_or names index None) ≡ test → is_used board.nodes (suc index) ≡ test
  used_by_name test has =
      by (is_used board.nodes (suc index)) refl
    where
      entry : get_or names index None ≡ used_number board.nodes (Some (suc index))
      entry = ap (λ all. get_or all index None) names_are ∙ get_or_from_slice_get (names_of board) index (used_number board.nodes (Some (suc index))) None (name_at_index board index small)

      by : (used : Bool) → is_used board.nodes (suc index) ≡ used → used ≡ test
      by true is = sym (ap (λ b. is_some (if b then Some (new_number board.nodes (suc index)) else None)) is) ∙ sym (ap is_some entry) ∙ has
      by false is = sym (ap (λ b. is_some (if b then Some (new_number board.nodes (suc index)) else None)) is) ∙ sym (ap is_some entry) ∙ has

  pub block_more : (blocks now : List LemmaBlock) (block : LemmaBlock) → is_some (get_or names index None) ≡ true → option_map f (numbered board.kept (index + 1)) ≡ Some block → blocks ≡ map f (used_from board.nodes 1 (take index board.kept)) → now ≡ blocks ++ block ∷ []
      → now ≡ map f (used_from board.nodes 1 (take (index + 1) board.kept))
  block_more blocks now block has is same pushed =
      let (one, at) = there_is board.kept index small in
      let next : index + 1 ≡ suc index = omega arith in
      let own : f one ≡ block = same_some (f one) block (ap (option_map f) (sym at) ∙ ap (λ number. option_map f (numbered board.kept number)) (sym next) ∙ is) in
      pushed
      ∙ ap₂ (λ (front : List LemmaBlock) (last : LemmaBlock). front ++ last ∷ []) same (sym own)
      ∙ sym (map-append f (used_from board.nodes 1 (take index board.kept)) (one ∷ []))
      ∙ ap (map f) (sym (used_more board.nodes 1 board.kept index one at (suc index) (omega arith) true (used_by_name true has)))
      ∙ ap (λ count. map f (used_from board.nodes 1 (take count board.kept))) (sym next)

  pub block_none : (blocks now : List LemmaBlock) → is_some (get_or names index None) ≡ false → blocks ≡ map f (used_from board.nodes 1 (take index board.kept)) → now ≡ blocks → now ≡ map f (used_from board.nodes 1 (take (index + 1) board.kept))
  block_none blocks now has same kept =
      let (one, at) = there_is board.kept index small in
      let next : index + 1 ≡ suc index = omega arith in
      kept
      ∙ same
      ∙ ap (map f) (sym (used_more board.nodes 1 board.kept index one at (suc index) (omega arith) false (used_by_name false has) ∙ append-nil (used_from board.nodes 1 (take index board.kept))))
      ∙ ap (λ count. map f (used_from board.nodes 1 (take count board.kept))) (sym next)

pub blocks_all : (board : Board) (f : Kept → LemmaBlock) (blocks : List LemmaBlock) (index : ℕ) → length board.kept ≤ index → blocks ≡ map f (used_from board.nodes 1 (take index board.kept)) → blocks ≡ map f (used_from board.nodes 1 board.kept)
blocks_all board f blocks index past same = same ∙ ap (λ kept. map f (used_from board.nodes 1 kept)) (take_all index board.kept past)
