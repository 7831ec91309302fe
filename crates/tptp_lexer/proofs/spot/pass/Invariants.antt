use Rattle.std.proofs.Common.{◌≡◌, ◌+◌, ◌≤◌, drop}
use Rattle.tptp_lexer.specs.Spots.{passed}
use Rattle.tptp_lexer.proofs.spot.pass.Given as goal

abbrev pub invariant-loop-b : goal.invariant-loop-b
invariant-loop-b l =
    (passed l.fn.spot l.bytes ≡ passed l.spot (drop l.b-index l.bytes)) × (l.spot.offset ≤ l.fn.spot.offset + l.b-index)
    × (l.spot.line ≤ l.fn.spot.line + l.b-index) × (l.spot.column ≤ l.fn.spot.column + l.b-index)
