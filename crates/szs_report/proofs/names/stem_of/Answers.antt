use Rattle.szs_report.proofs.Slashes.{own_stem}
use Rattle.szs_report.proofs.names.stem_of.Goals as goal

pub returns-in_default-2 : goal.returns-in_default-2
returns-in_default-2 c = own_stem c.args.name.now (rw c.in_default.is at c.strip_suffix.ensures.cases)
