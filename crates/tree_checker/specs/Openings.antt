-- A count that tells whether lines are one tree.
use Rattle.std.specs.Prelude.{ℕ, zero, suc, ◌+◌, List, [], ◌∷◌, length, Option, Some, None}
use Rattle.mg_word.specs.declared.form.Form.{Form}
use Rattle.tree_checker.specs.Trees.{conclusions_at}
use Rattle.tree_checker.specs.declared.doc.TreeLine.{TreeLine}

-- how many trees are still to come after these lines, where so many were to come before them; nothing where a line stands behind the last tree
abbrev pub open_after : List Form → ℕ → List TreeLine → Option ℕ
open_after forms wanted [] = Some wanted
open_after forms zero (line ∷ lines) = None
open_after forms (suc wanted) (line ∷ lines) = open_after forms (length (conclusions_at forms line) + wanted) lines
