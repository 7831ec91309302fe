use Rattle.std.proofs.Common.{None, ap, sym, subst, ◌∙◌}
use Rattle.tptp_lexer.specs.Tokens.{IsAt, left_of}
use Rattle.tptp_lexer.proofs.Starts.{IsAt-start, left_of-start}
use Rattle.tptp_lexer.proofs.cursor.Cursor.start.Goals as goal

pub returns-clause-at : goal.returns-clause-at
returns-clause-at c = λ bytes. subst (λ spot. IsAt bytes (record { spot = spot; fault = None })) (sym c.first_spot.ensures) (IsAt-start bytes)

pub returns-clause-left : goal.returns-clause-left
returns-clause-left c = λ bytes. ap (λ spot. left_of bytes (record { spot = spot; fault = None })) c.first_spot.ensures ∙ left_of-start bytes
