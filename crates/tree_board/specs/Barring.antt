-- What a child bars beside what its parent bars.
use Rattle.std.specs.Prelude.{ℕ, ◌-◌, min, List, [], Option, None, Some, length, take}
use Rattle.mg_word.specs.declared.form.Inst.{Inst}
use Rattle.mg_word.specs.declared.lit.Lit.{Lit}
use Rattle.tree_board.specs.declared.cell.Cell.{Cell}
use Rattle.tree_board.specs.declared.event.Event.{Event}
use Rattle.tree_board.specs.Readers.{cell_shows, first_child_of_cell, instance_shown}

-- the conclusions before that of the child with this number, where the first child has this one
abbrev pub cases_before : Option Inst → Option ℕ → ℕ → List Lit
cases_before None first number = []
cases_before (Some inst) None number = []
cases_before (Some inst) (Some first) number = take (min (number - first) (length inst.conclusions)) inst.conclusions

-- what the parent's event has before a node's own conclusion
abbrev pub earlier_in : List Cell → List Event → ℕ → ℕ → List Lit
earlier_in cells journal parent number = cases_before (instance_shown cells journal parent) (cell_shows first_child_of_cell cells parent) number
