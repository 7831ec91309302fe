use Rattle.tptp_lexer.proofs.lexer.Lexer.new.Goals as goal

pub invariant_of-result : goal.invariant_of-result
invariant_of-result c = (c.requires, c.start.ensures.at c.args.bytes.now)

pub returns-clause-left : goal.returns-clause-left
returns-clause-left c = c.start.ensures.left c.args.bytes.now
