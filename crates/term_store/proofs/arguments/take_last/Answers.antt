use Rattle.std.proofs.Common.{arith}
use Rattle.std.proofs.lemmas.Grind.{common_steps}
use Rattle.term_store.proofs.Numbers.{last_reversed, left_reversed}
use Rattle.term_store.proofs.arguments.take_last.Goals as goal

pub returns-clause-taken : goal.returns-clause-taken
returns-clause-taken c = grind (arith, common_steps, last_reversed c.args.pending.now.items c.args.count c.requires)

pub returns-clause-left : goal.returns-clause-left
returns-clause-left c = grind (arith, common_steps, left_reversed c.args.pending.now.items c.args.count c.requires)
