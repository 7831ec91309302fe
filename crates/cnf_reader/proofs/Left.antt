-- No more tokens are left of a file than it has bytes.
use Rattle.std.proofs.Common.{◌≤◌, ℕ, List, length, drop, arith}
use Rattle.std.proofs.lemmas.List.{length-drop}
use Rattle.tptp_lexer.specs.Spots.{spot_at}
use Rattle.tptp_lexer.specs.Tokens.{left_of}
use Rattle.tptp_lexer.proofs.CutLaw.{left-few}
use Rattle.tptp_lexer.specs.declared.cursor.Cursor.{Cursor}

-- from any cursor on
pub few_left : (bytes : List ℕ) (cursor : Cursor) → length (left_of bytes cursor).tokens ≤ length bytes
few_left bytes cursor =
    let few = left-few (drop cursor.spot.offset bytes) (spot_at bytes cursor.spot.offset) in
    let size = length-drop cursor.spot.offset bytes in
    omega (arith, few, size)
