use Rattle.std.proofs.Common.{◌≡◌, [], Some, ap, subst, sym, ◌∙◌, arith}
use Rattle.tptp_lexer.specs.Pieces.{piece_of}
use Rattle.tptp_lexer.specs.Tokens.{fault_at}
use Rattle.tptp_lexer.specs.declared.piece.Piece.TheVariants.{Fault}
use Rattle.tptp_lexer.proofs.Stretches.{fault-stretch, piece-bounds, stretch-roomy, stretch-fault}
use Rattle.tptp_lexer.proofs.cursor.fault_behind.Goals as goal

pub front-requires : goal.front-requires
front-requires c =
    let same = subst (λ l. Fault c.args.kind c.args.n ≡ piece_of l) (sym c.skip.ensures) c.requires.piece in
    let below = piece-bounds c.skip.result.now (Fault c.args.kind c.args.n) same in
    omega (arith, below)

pub pass-at-requires-clause-line : goal.pass-at-requires-clause-line
pass-at-requires-clause-line c =
    let same = subst (λ l. Fault c.args.kind c.args.n ≡ piece_of l) (sym c.skip.ensures) c.requires.piece in
    let room = stretch-roomy c.args.bytes.now c.args.spot c.skip.result.now c.front.result.now c.args.n (fault-stretch c.args.bytes.now c.args.spot c.skip.result.now c.front.result.now c.args.n c.requires.placed c.skip.ensures c.front.ensures c.args.kind same) in
    omega (arith, room.line, c.requires.small)

pub pass-at-requires-clause-column : goal.pass-at-requires-clause-column
pass-at-requires-clause-column c =
    let same = subst (λ l. Fault c.args.kind c.args.n ≡ piece_of l) (sym c.skip.ensures) c.requires.piece in
    let room = stretch-roomy c.args.bytes.now c.args.spot c.skip.result.now c.front.result.now c.args.n (fault-stretch c.args.bytes.now c.args.spot c.skip.result.now c.front.result.now c.args.n c.requires.placed c.skip.ensures c.front.ensures c.args.kind same) in
    omega (arith, room.column, c.requires.small)

pub returns : goal.returns
returns c =
    let same = subst (λ l. Fault c.args.kind c.args.n ≡ piece_of l) (sym c.skip.ensures) c.requires.piece in
    stretch-fault c.args.bytes.now c.args.spot c.skip.result.now c.front.result.now c.args.n (fault-stretch c.args.bytes.now c.args.spot c.skip.result.now c.front.result.now c.args.n c.requires.placed c.skip.ensures c.front.ensures c.args.kind same) c.args.kind same
    ∙ ap (λ spot. record { tokens = []; fault = Some (fault_at c.args.kind spot) }) (sym c.pass-at.ensures)
