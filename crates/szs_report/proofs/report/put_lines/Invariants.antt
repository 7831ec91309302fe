use Rattle.std.proofs.Common.{◌≡◌, ◌++◌, ℕ, List, length}
use Rattle.mg_outside.specs.Putting.{AllPut}
use Rattle.szs_report.proofs.report.put_lines.Given as goal

abbrev pub invariant-loop-rest : goal.invariant-loop-rest
invariant-loop-rest g l = (done : List ℕ) × (l.text ≡ done ++ l.rest) × AllPut (g.O.Sink.seen l.initial.sink) (g.O.Sink.seen l.sink) done

abbrev pub decreases-loop-rest : goal.decreases-loop-rest
decreases-loop-rest g l = length l.rest
