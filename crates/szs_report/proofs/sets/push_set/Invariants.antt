use Rattle.std.proofs.Common.{◌≡◌, ◌++◌, take}
use Rattle.szs_report.specs.Outputs.{set_text}
use Rattle.szs_report.proofs.SetLines.{separator_behind}
use Rattle.szs_report.proofs.sets.push_set.Given as goal

abbrev pub invariant-loop-lit : goal.invariant-loop-lit
invariant-loop-lit l =
    let before = take l.lit-index l.set in
    (l.into.items ≡ l.fn.into.items ++ set_text l.symbols before) × (l.separator ≡ separator_behind before)
