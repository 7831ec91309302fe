-- Nodes whose own lemmas are used, by their new numbers.
use Rattle.std.proofs.Common.{◌≡◌, ℕ, suc, Bool, true, false, if◌then◌else◌, nat_eq, [], get_or, slice_get, Option, Some, None, option_map, refl, sym, ap, ◌∙◌}
use Rattle.std.specs.List.{position}
use Rattle.std.proofs.lemmas.Bool.{eqb-true}
use Rattle.std.proofs.lemmas.List.Quantifiers.{position-Some}
use Rattle.std.proofs.lemmas.Option.{slice_get-get_or}
use Rattle.mg_word.specs.Words.{numbered}
use Rattle.tree_board.specs.Boards.{Board, Kept}
use Rattle.tree_board.specs.Facts.{IsBoard}
use Rattle.tree_board.specs.Nodes.{Node}
use Rattle.tree_board.specs.Settings.{Setting}
use Rattle.tree_board.proofs.Places.{same_some}
use Rattle.board_tree.specs.Lines.{used_number, name_of}
use Rattle.board_tree.specs.Used.{is_used, new_number}

pub none_is : {X : Type 0} (item : X) → None ≡ Some item → ⊥
none_is item e = cc

-- a node's own lemma, which is used, by its new number
pub record IsNamed (board : Board) (number new : ℕ) : Type 0 where
  pub lemma : ℕ
  pub one : Kept
  pub at : numbered board.kept lemma ≡ Some one
  pub node : one.node ≡ number
  pub used : is_used board.nodes lemma ≡ true
  pub is : new_number board.nodes lemma ≡ new

pub named_from : (board : Board) (number new : ℕ) → name_of board number ≡ Some new → IsNamed board number new
named_from board number new named = by (position (λ (one : Kept). nat_eq one.node number) board.kept) refl named
  where
    used_by : (index : ℕ) → position (λ (one : Kept). nat_eq one.node number) board.kept ≡ Some index → (test : Bool) → is_used board.nodes (suc index) ≡ test → (if test then Some (new_number board.nodes (suc index)) else None) ≡ Some new → IsNamed board number new
    used_by index found false unused bad = absurd (none_is new bad)
    used_by index found true used same =
        let blank : Kept = record { node = 0; pair = record { inside = []; outside = [] } } in
        let (small, passes, before) = position-Some (λ (one : Kept). nat_eq one.node number) board.kept index blank found in
        let one : Kept = get_or board.kept index blank in
        record {
          lemma = suc index;
          one = one;
          at = slice_get-get_or board.kept index blank small;
          node = eqb-true one.node number passes;
          used = used;
          is = same_some (new_number board.nodes (suc index)) new same;
        }

    by : (found : Option ℕ) → position (λ (one : Kept). nat_eq one.node number) board.kept ≡ found → used_number board.nodes (option_map (λ index. suc index) found) ≡ Some new → IsNamed board number new
    by None found bad = absurd (none_is new bad)
    by (Some index) found same = used_by index found (is_used board.nodes (suc index)) refl same

-- a node that is named is there
pub named_node : (setting : Setting) (board : Board) → IsBoard setting board → (number new : ℕ) → name_of board number ≡ Some new → (node : Node) × (slice_get board.nodes number ≡ Some node)
named_node setting board facts number new name =
    let named = named_from board number new name in
    let kept = facts.kept named.lemma named.one named.at in
    (kept.node, ap (slice_get board.nodes) (sym named.node) ∙ kept.is)
