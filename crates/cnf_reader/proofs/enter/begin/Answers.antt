use Rattle.std.proofs.Common.{ap, length, arith}
use Rattle.cnf_reader.specs.declared.kept.Kept.{Kept}
use Rattle.cnf_reader.proofs.Entered.{begun, begins_absent, begins_too_long, begins_failed}
use Rattle.cnf_reader.proofs.TakenIn.{taken_in}
use Rattle.cnf_reader.proofs.Counted.{fault_counted}
use Rattle.cnf_reader.proofs.enter.begin.Goals as goal

pub returns-in-Absent-clause-begun : goal.returns-in-Absent-clause-begun
returns-in-Absent-clause-begun g c =
    begins_absent _ c.args.name.now c.fault_at.result (rw c.in_ok-tries.ensures at (rw c.in-Absent.is at c.in_ok-name.ensures.opened)) c.fault_at.ensures

pub returns-in-TooLong-clause-begun : goal.returns-in-TooLong-clause-begun
returns-in-TooLong-clause-begun g c =
    begins_too_long _ c.args.name.now c.fault_at-in-TooLong.result (rw c.in_ok-tries.ensures at (rw c.in-TooLong.is at c.in_ok-name.ensures.opened)) c.fault_at-in-TooLong.ensures

pub returns-in-Failed-clause-begun : goal.returns-in-Failed-clause-begun
returns-in-Failed-clause-begun g c =
    begins_failed _ c.args.name.now c.fault_at-in-Failed.result (rw c.in_ok-tries.ensures at (rw c.in-Failed.is at c.in_ok-name.ensures.opened)) c.fault_at-in-Failed.ensures

pub returns-in_ok-admit-in-Opened-clause-begun : goal.returns-in_ok-admit-in-Opened-clause-begun
returns-in_ok-admit-in-Opened-clause-begun g c =
    begun _ c.args.name.now c.in-Opened.name c.in-Opened.bytes c.args.kept.now c.admit.new.kept c.in_ok-admit-in-Opened.field-0 (rw c.in_ok-tries.ensures at (rw c.in-Opened.is at c.in_ok-name.ensures.opened)) c.in_ok-admit-in-Opened.ensures.0 c.in_ok-admit-in-Opened.ensures.1

pub returns-in_ok-admit-in-Opened-clause-taken : goal.returns-in_ok-admit-in-Opened-clause-taken
returns-in_ok-admit-in-Opened-clause-taken g c =
    let no_files = ap (λ (k : Kept). length k.files) c.requires in
    let no_includes = ap (λ (k : Kept). k.includes) c.requires in
    taken_in c.args.kept.now c.admit.new.kept c.args.kept.now.includes _ _ c.in_ok-admit-in-Opened.field-0 c.in_ok-admit-in-Opened.ensures.0 c.in_ok-admit-in-Opened.ensures.1 (omega (arith, no_files)) (omega (arith, no_includes))

pub returns-in-Absent-clause-counted : goal.returns-in-Absent-clause-counted
returns-in-Absent-clause-counted g c = fault_counted _ _ _ _ _ c.fault_at.result _ _ c.fault_at.ensures (rw c.in-Absent.is at c.in_ok-name.ensures.counted)

pub returns-in-TooLong-clause-counted : goal.returns-in-TooLong-clause-counted
returns-in-TooLong-clause-counted g c = fault_counted _ _ _ _ _ c.fault_at-in-TooLong.result _ _ c.fault_at-in-TooLong.ensures (rw c.in-TooLong.is at c.in_ok-name.ensures.counted)

pub returns-in-Failed-clause-counted : goal.returns-in-Failed-clause-counted
returns-in-Failed-clause-counted g c = fault_counted _ _ _ _ _ c.fault_at-in-Failed.result _ _ c.fault_at-in-Failed.ensures (rw c.in-Failed.is at c.in_ok-name.ensures.counted)
