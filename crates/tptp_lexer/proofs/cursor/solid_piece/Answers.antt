use Rattle.std.proofs.Common.{sym, ◌∙◌, arith}
use Rattle.tptp_lexer.proofs.Stretches.{blank-stretch, piece-bounds, stretch-roomy, stretch-place, stretch-blank}
use Rattle.tptp_lexer.specs.declared.piece.Piece.TheVariants.{Blank}
use Rattle.tptp_lexer.proofs.cursor.solid_piece.Goals as goal

pub front-requires : goal.front-requires
front-requires c = (piece-bounds c.skip-rest.result.now (Blank c.in-Blank.n) c.in-Blank.ensures).1

pub pass-requires-clause-line : goal.pass-requires-clause-line
pass-requires-clause-line c =
    let room = stretch-roomy c.args.bytes.now c.loop-n.spot c.skip-rest.result.now c.front.result.now c.in-Blank.n (blank-stretch c.args.bytes.now c.loop-n.spot c.skip-rest.result.now c.front.result.now c.in-Blank.n c.loop-n.invariant.0 c.skip-rest.ensures c.front.ensures c.in-Blank.ensures) in
    omega (arith, room.line, c.requires.small)

pub pass-requires-clause-column : goal.pass-requires-clause-column
pass-requires-clause-column c =
    let room = stretch-roomy c.args.bytes.now c.loop-n.spot c.skip-rest.result.now c.front.result.now c.in-Blank.n (blank-stretch c.args.bytes.now c.loop-n.spot c.skip-rest.result.now c.front.result.now c.in-Blank.n c.loop-n.invariant.0 c.skip-rest.ensures c.front.ensures c.in-Blank.ensures) in
    omega (arith, room.column, c.requires.small)

pub loop-n-smaller : goal.loop-n-smaller
loop-n-smaller c =
    let there = stretch-place c.args.bytes.now c.loop-n.spot c.skip-rest.result.now c.front.result.now c.in-Blank.n (blank-stretch c.args.bytes.now c.loop-n.spot c.skip-rest.result.now c.front.result.now c.in-Blank.n c.loop-n.invariant.0 c.skip-rest.ensures c.front.ensures c.in-Blank.ensures) c.pass.result c.pass.ensures in
    let some = (piece-bounds c.skip-rest.result.now (Blank c.in-Blank.n) c.in-Blank.ensures).0 in
    omega (arith, there.0, some, there.1.within)

pub loop-n-preserved : goal.loop-n-preserved
loop-n-preserved c =
    let there = stretch-place c.args.bytes.now c.loop-n.spot c.skip-rest.result.now c.front.result.now c.in-Blank.n (blank-stretch c.args.bytes.now c.loop-n.spot c.skip-rest.result.now c.front.result.now c.in-Blank.n c.loop-n.invariant.0 c.skip-rest.ensures c.front.ensures c.in-Blank.ensures) c.pass.result c.pass.ensures in
    let left = stretch-blank c.args.bytes.now c.loop-n.spot c.skip-rest.result.now c.front.result.now c.in-Blank.n (blank-stretch c.args.bytes.now c.loop-n.spot c.skip-rest.result.now c.front.result.now c.in-Blank.n c.loop-n.invariant.0 c.skip-rest.ensures c.front.ensures c.in-Blank.ensures) c.pass.result c.pass.ensures c.in-Blank.ensures in
    (there.1, sym left ∙ c.loop-n.invariant.1)
