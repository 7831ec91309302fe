use Rattle.mg_word.specs.OrderLaws.{complement_exact}
use Rattle.mg_word.proofs.lit.is_complement.Goals as goal

pub returns-then-a-b : goal.returns-then-a-b
returns-then-a-b c = complement_exact c.args.a.now c.args.b.now c.eq.result c.if-a-b.true c.eq.ensures
