use Rattle.cnf_reader.specs.Drafts.{symbol_seen}
use Rattle.cnf_reader.proofs.Suiting.{text_named}
use Rattle.cnf_reader.proofs.numbers.number_symbol.Goals as goal

pub intern-requires-clause-ascii : goal.intern-requires-clause-ascii
intern-requires-clause-ascii c = rw (c.deref.ensures.value, c.in_ok-name.ensures) (rw c.if-symbol.true at (text_named (symbol_seen c.args.symbol.now) c.requires.right))

pub intern-requires-2-clause-ascii : goal.intern-requires-2-clause-ascii
intern-requires-2-clause-ascii c = rw c.if-symbol.false at (text_named (symbol_seen c.args.symbol.now) c.requires.right)
