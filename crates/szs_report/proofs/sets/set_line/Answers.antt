use Rattle.std.proofs.Common.{◌≡◌, rules}
use Rattle.std.specs.Fmt.{decimal}
use Rattle.szs_report.specs.Outputs.{set_text, space_before}
use Rattle.szs_report.proofs.SetLines.{set_line_text}
use Rattle.szs_report.proofs.sets.set_line.Goals as goal

pub returns : goal.returns
returns c =
    let number : c.as_bytes.result.now ≡ decimal c.args.number = search rules in
    let before : c.space-space.result.now ≡ space_before c.args.set.now = search rules in
    let lits : c.deref.result.now ≡ set_text c.args.symbols.now c.args.set.now = search rules in
    rw (set_line_text c.args.symbols.now c.args.number c.args.set.now, ← number, ← before, ← lits) c.joined.ensures
