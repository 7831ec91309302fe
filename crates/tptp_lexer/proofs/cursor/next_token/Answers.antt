use Rattle.std.proofs.Common.{refl, ap, sym, ◌∙◌, drop}
use Rattle.tptp_lexer.specs.Tokens.{first_of, rest_of}
use Rattle.tptp_lexer.proofs.Stretches.{lexed_at-end}
use Rattle.tptp_lexer.proofs.cursor.next_token.Goals as goal

pub returns-in-End-clause-answer : goal.returns-in-End-clause-answer
returns-in-End-clause-answer c =
    let spot = c.solid_piece.new.spot in
    let here = lexed_at-end c.args.bytes.now spot (drop spot.offset c.args.bytes.now) c.in-End.ensures.placed refl c.in-End.ensures.piece in
    ap first_of (sym here ∙ c.in-End.ensures.left)

pub returns-in-End-clause-left : goal.returns-in-End-clause-left
returns-in-End-clause-left c =
    let spot = c.solid_piece.new.spot in
    let here = lexed_at-end c.args.bytes.now spot (drop spot.offset c.args.bytes.now) c.in-End.ensures.placed refl c.in-End.ensures.piece in
    here ∙ ap rest_of (sym here ∙ c.in-End.ensures.left)
