use Rattle.std.proofs.Common.{◌≡◌, ◌-◌, length}
use Rattle.tptp_lexer.specs.Spots.{IsPlace}
use Rattle.tptp_lexer.specs.Tokens.{lexed_at}
use Rattle.tptp_lexer.proofs.cursor.solid_piece.Given as goal

abbrev pub invariant-loop-n : goal.invariant-loop-n
invariant-loop-n l = IsPlace l.bytes l.spot × (lexed_at l.bytes l.spot.offset ≡ lexed_at l.bytes l.fn.spot.offset)

abbrev pub decreases-loop-n : goal.decreases-loop-n
decreases-loop-n l = length l.bytes - l.spot.offset
