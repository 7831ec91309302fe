use Rattle.std.proofs.Common.{drop, ◌+◌, take, []}
use Rattle.std.specs.List.{flat_map}
use Rattle.szs_report.proofs.Gaining.{PutFailed-append, flat_map-split}
use Rattle.command_line.proofs.putting.put_pieces.Goals as goal

pub returns-in-Failed : goal.returns-in-Failed
returns-in-Failed g c =
    let pieces = c.args.pieces.now in
    rw (flat_map-split (λ piece. piece.now) pieces c.loop-piece.piece-index (record { ref_ptr = (0, 0); now = [] }) c.loop-piece-test.true)
    (PutFailed-append _ _ _ (flat_map (λ piece. piece.now) (take c.loop-piece.piece-index pieces)) _ (flat_map (λ piece. piece.now) (drop (c.loop-piece.piece-index + 1) pieces))
    c.loop-piece.invariant c.in-Failed.ensures)
