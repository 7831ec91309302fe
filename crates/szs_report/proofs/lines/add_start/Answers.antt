use Rattle.szs_report.proofs.SetLines.{start_line_text}
use Rattle.szs_report.proofs.lines.add_start.Goals as goal

pub returns : goal.returns
returns c = rw (start_line_text c.args.kind.now c.args.name.now, ← c.as_bytes.ensures.value, ← c.as_bytes-2.ensures.value) c.add.ensures
