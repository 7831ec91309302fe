-- What settled a cell, and whether the root is closed.
use Rattle.std.specs.Prelude.{Bool, true, false, List, [], ◌∷◌}
use Rattle.tree_board.specs.declared.cell.Cell.{Cell}
use Rattle.tree_board.specs.declared.cell.Settled.{Settled}
use Rattle.tree_board.specs.declared.cell.Settled.TheVariants.{Open, Split, Rejected, ByLemma, AtOnce, Found, Covered, Heavy}

abbrev pub is_open_yet : Settled → Bool
is_open_yet Open = true
is_open_yet (Split event first) = false
is_open_yet (Rejected event) = false
is_open_yet (ByLemma lemma) = false
is_open_yet (AtOnce closure) = false
is_open_yet Found = false
is_open_yet (Covered cover) = false
is_open_yet (Heavy event) = false

abbrev pub is_found_set : Settled → Bool
is_found_set Found = true
is_found_set Open = false
is_found_set (Split event first) = false
is_found_set (Rejected event) = false
is_found_set (ByLemma lemma) = false
is_found_set (AtOnce closure) = false
is_found_set (Covered cover) = false
is_found_set (Heavy event) = false

abbrev pub is_root_closed : List Cell → Bool
is_root_closed [] = false
is_root_closed (root ∷ cells) = root.is_closed
