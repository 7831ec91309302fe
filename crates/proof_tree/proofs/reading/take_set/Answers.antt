use Rattle.proof_tree.specs.Bare.{bare}
use Rattle.proof_tree.proofs.FaultsFrom.{early_here, set_wrong}
use Rattle.proof_tree.proofs.reading.take_set.Goals as goal

pub returns-in-Err-clause-read : goal.returns-in-Err-clause-read
returns-in-Err-clause-read c = λ place at. early_here c.args.problem.now place (bare c.args.bytes.now) c.args.number c.in-Err.fault c.in-Err.ensures.line.0 c.in-Err.ensures.line.1 at.early

pub returns-in-Err-read_set-clause-read : goal.returns-in-Err-read_set-clause-read
returns-in-Err-read_set-clause-read c =
    λ place at.
    rw c.fault_at.ensures
    (set_wrong c.args.problem.now place c.args.word.now (bare c.args.bytes.now) c.in-Ok.found.0.now (bare c.in-Ok.found.1.now) c.args.number c.in-Err-read_set.fault at c.in-Ok.ensures.line c.in-Err-read_set.ensures)
