use Rattle.std.proofs.Common.{◌≡◌, ◌++◌, take}
use Rattle.szs_report.specs.ModelLines.{set_lines}
use Rattle.szs_report.proofs.models.add_sets.Given as goal

abbrev pub invariant-loop-index : goal.invariant-loop-index
invariant-loop-index l = l.report ≡ l.fn.report ++ set_lines l.symbols (take l.index l.sets)
