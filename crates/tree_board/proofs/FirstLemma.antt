-- The least number of a lemma that applies, of the board's index of lemmas.
use Rattle.std.proofs.Common.{◌≡◌, ◌+◌, suc, Bool, cond, not, nat_lt, List, [], ◌∷◌, map, length, Some, None, option_map, refl, ap, ap₂, ◌∙◌}
use Rattle.std.specs.List.{position, prefix_len}
use Rattle.mg_meaning.specs.Folding.{Pair, applies}
use Rattle.branch_lemmas.specs.Applying.{first_applying}
use Rattle.tree_board.specs.Boards.{Board, Kept}
use Rattle.tree_board.specs.Lawful.{lemma_for}
use Rattle.tree_board.specs.Nodes.{Node}

module _ {X Y : Type 0} (f : X → Y) where
  prefix_len-map : (p : Y → Bool) (xs : List X) → prefix_len p (map f xs) ≡ prefix_len (λ x. p (f x)) xs
  prefix_len-map p [] = refl
  prefix_len-map p (x ∷ xs) = ap (λ n. cond (p (f x)) (1 + n) 0) (prefix_len-map p xs)

  length_map : (xs : List X) → length (map f xs) ≡ length xs
  length_map [] = refl
  length_map (x ∷ xs) = ap suc (length_map xs)

  position-map : (p : Y → Bool) (xs : List X) → position p (map f xs) ≡ position (λ x. p (f x)) xs
  position-map p xs = ap₂ (λ place size. cond (nat_lt place size) (Some place) None) (prefix_len-map (λ y. not (p y)) xs) (length_map xs)

-- what `first_match` of the index answers is the lemma that the law asks for
pub first_is_lemma_for : (board : Board) (lemmas : List Pair) → lemmas ≡ map (λ (one : Kept). one.pair) board.kept → (node : Node) → first_applying lemmas node.lits node.barred ≡ lemma_for board node
first_is_lemma_for board lemmas pairs node =
    ap (λ all. first_applying all node.lits node.barred) pairs
    ∙ ap (option_map (λ index. suc index)) (position-map (λ (one : Kept). one.pair) (λ pair. applies pair node.lits node.barred) board.kept)
