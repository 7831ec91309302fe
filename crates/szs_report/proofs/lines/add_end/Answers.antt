use Rattle.szs_report.proofs.SetLines.{end_line_text}
use Rattle.szs_report.proofs.lines.add_end.Goals as goal

pub returns : goal.returns
returns c = rw (end_line_text c.args.kind.now c.args.name.now, ← c.as_bytes.ensures.value, ← c.as_bytes-2.ensures.value) c.add.ensures
