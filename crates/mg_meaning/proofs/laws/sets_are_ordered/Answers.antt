use Rattle.mg_word.specs.OrderLaws.{lits_total, lits_same}
use Rattle.mg_meaning.proofs.laws.sets_are_ordered.Goals as goal

pub returns : goal.returns
returns c = record { total = lits_total; exact = lits_same }
