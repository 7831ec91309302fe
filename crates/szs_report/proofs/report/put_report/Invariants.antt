use Rattle.std.proofs.Common.{take}
use Rattle.mg_outside.specs.Putting.{AllPut}
use Rattle.szs_report.specs.Printing.{text_of}
use Rattle.szs_report.proofs.report.put_report.Given as goal

abbrev pub invariant-loop-text : goal.invariant-loop-text
invariant-loop-text g l = AllPut (g.O.Sink.seen l.initial.sink) (g.O.Sink.seen l.sink) (text_of (take l.text-index l.text-items))
