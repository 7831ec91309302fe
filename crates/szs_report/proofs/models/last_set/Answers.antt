use Rattle.std.proofs.Common.{◌∙◌}
use Rattle.szs_report.proofs.SetLines.{last_set_is}
use Rattle.szs_report.proofs.models.last_set.Goals as goal

pub returns-in-len1-up : goal.returns-in-len1-up
returns-in-len1-up c = c.last-item.is ∙ last_set_is c.args.first.now c.args.others.now c.last-item.result c.in-len1-up.len_at_least
