use Rattle.std.proofs.Common.{take}
use Rattle.std.specs.List.{flat_map}
use Rattle.mg_outside.specs.Putting.{AllPut}
use Rattle.command_line.proofs.putting.put_pieces.Given as goal

abbrev pub invariant-loop-piece : goal.invariant-loop-piece
invariant-loop-piece g l = AllPut (g.O.Sink.seen l.initial.sink) (g.O.Sink.seen l.sink) (flat_map (λ piece. piece.now) (take l.piece-index l.pieces))
