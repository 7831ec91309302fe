use Rattle.std.proofs.Common.{sym, subst}
use Rattle.std.specs.Prelude.{IsTrue}
use Rattle.mg_meaning.specs.Instances.{are_literals}
use Rattle.szs_report.proofs.SetLines.{last_of_all}
use Rattle.szs_report.proofs.models.add_ends.Goals as goal

pub lits_line-requires-2 : goal.lits_line-requires-2
lits_line-requires-2 c =
    subst (λ set. IsTrue (are_literals c.args.symbols.now set)) (sym c.last_set.ensures)
    (last_of_all (λ set. IsTrue (are_literals c.args.symbols.now set)) c.args.sets.now c.first-item.result c.in-len1-up.len_at_least c.first-item.is c.requires)
