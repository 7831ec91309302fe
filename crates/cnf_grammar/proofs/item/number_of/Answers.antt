-- Past the number of literals no number names one.
use Rattle.std.proofs.Common.{arith}
use Rattle.cnf_grammar.proofs.ItemNumbers.{number_none}
use Rattle.cnf_grammar.proofs.item.number_of.Goals as goal

pub returns-in-None : goal.returns-in-None
returns-in-None c = number_none c.args.words.now c.args.last c.args.text.now c.args.plain (omega (arith, c.in-None.ensures))
