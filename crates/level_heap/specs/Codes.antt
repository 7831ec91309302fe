-- A code of trees, by which proofs tell them apart.
use Rattle.std.specs.Prelude.{◌≡◌, refl}
use Rattle.std.proofs.Common.{sym, ap, ◌∙◌}
use Rattle.std.specs.Coded.{Coded}
use base.Stored.{Gv, gnil, gnum, gcons, num}
use Rattle.level_heap.specs.Trees.{Tree, Empty, Node}

abbrev pub code_of : Tree → Gv
code_of Empty = gnil
code_of (Node item left right) = gcons (gnum item) (gcons (code_of left) (code_of right))

abbrev pub decoded : Gv → Tree
decoded (gcons item (gcons left right)) = Node (num item) (decoded left) (decoded right)
decoded _ = Empty

pub decoded-code_of : (tree : Tree) → decoded (code_of tree) ≡ tree
decoded-code_of Empty = refl
decoded-code_of (Node item left right) = λ i. Node item (decoded-code_of left i) (decoded-code_of right i)

abbrev pub coded_tree : Coded Tree
coded_tree = record { code = code_of; inj = λ x y same. sym (decoded-code_of x) ∙ ap decoded same ∙ decoded-code_of y }
