use Rattle.std.proofs.Common.{◌≡◌}
use Rattle.szs_report.specs.FormLines.{first_lines}
use Rattle.szs_report.proofs.forms.report_forms.Given as goal

abbrev pub invariant-loop-index : goal.invariant-loop-index
invariant-loop-index l = l.report ≡ first_lines l.problem l.index
