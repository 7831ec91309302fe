use Rattle.std.proofs.Common.{◌<◌, ◌∷◌, ◌∙◌, drop, length, subst}
use Rattle.std.proofs.lemmas.List.Elements.{All-head}
use Rattle.cnf_reader.specs.Frames.{FileData, IsSoundRun, Reached}
use Rattle.mg_outside.proofs.Ends.{absences_after, call_after, quiet_ends}
use Rattle.cnf_reader.proofs.Counted.{whole_file, text_counted}
use Rattle.cnf_reader.proofs.Answering.{text_met, include_met, begun_reaches, not_begun}
use Rattle.cnf_reader.proofs.Reaching.{clause_read, file_ended, include_entered}
use Rattle.cnf_reader.proofs.Running.{run_begun, run_on, run_ended, run_entered, still_entered}
use Rattle.cnf_reader.proofs.reading.read_files.Goals as goal

pub statements-init : goal.statements-init
statements-init g c =
    let begun = rw c.in_ok-kept.ensures at c.in-Ok.ensures.begun in
    record {
      reached = rw (c.in_ok-push.ensures, c.empty-selections.ensures, c.empty-outer.ensures) (begun_reaches _ _ c.args.name.now c.begin.new.kept c.in-Ok.file begun);
      run = rw c.empty-outer.ensures (run_begun c.begin.new.kept c.in-Ok.file (rw c.in_ok-kept.ensures at c.in-Ok.ensures.taken) (rw begun.file_is begun.within));
      same = c.in-Ok.ensures.same;
      counts = whole_file _ _ c.in-Ok.ensures.counted;
    }

pub returns-in-Err-clause-read : goal.returns-in-Err-clause-read
returns-in-Err-clause-read g c = not_begun _ _ c.args.name.now c.in-Err.fault c.in-Err.ensures.begun

pub statements-preserved-in-Clause : goal.statements-preserved-in-Clause
statements-preserved-in-Clause g c = record {
  reached =
      clause_read _ _ c.args.name.now c.statements.selections c.statements.kept c.read.new.kept c.statements.file c.in_ok-part.next c.statements.outer c.statements.invariant.reached (rw c.in-Clause.is at c.in_ok-part.ensures.advances) c.in_ok-part.ensures.stays;
  run =
      run_on c.statements.kept c.read.new.kept c.statements.file c.in_ok-part.next c.statements.outer c.statements.invariant.run c.in_ok-part.ensures.stays c.in_ok-part.ensures.sound (rw c.in-Clause.is at c.in_ok-part.ensures.advances).0
      (rw c.in-Clause.is at c.in_ok-part.ensures.paid);
  same = c.statements.invariant.same;
  counts = c.statements.invariant.counts;
}

pub statements-preserved : goal.statements-preserved
statements-preserved g c =
    let enters = rw (c.statements.invariant.same, c.len.ensures) at c.in-Ok-enter.ensures.entered in
    record {
      reached =
          rw (c.in_ok-go_in-in-Include.ensures.0, c.in_ok-go_in-in-Include.ensures.1)
          (include_entered _ _ c.args.name.now c.statements.selections c.statements.kept c.read.new.kept c.statements.file c.in_ok-part.next c.statements.outer c.statements.invariant.reached c.in-Include.asked (rw c.in-Include.is at c.in_ok-part.ensures.advances)
          c.in_ok-part.ensures.stays c.enter.new.kept c.in-Ok-enter.inner enters);
      run =
          rw c.in_ok-go_in-in-Include.ensures.1
          (run_entered c.read.new.kept c.enter.new.kept c.in-Ok-enter.inner (c.in_ok-part.next ∷ c.statements.outer)
          (run_on c.statements.kept c.read.new.kept c.statements.file c.in_ok-part.next c.statements.outer c.statements.invariant.run c.in_ok-part.ensures.stays c.in_ok-part.ensures.sound (rw c.in-Include.is at c.in_ok-part.ensures.advances).0
          (rw c.in-Include.is at c.in_ok-part.ensures.paid).0) c.in-Ok-enter.ensures.taken enters.fits);
      same = c.in-Ok-enter.ensures.same ∙ c.statements.invariant.same;
      counts = absences_after _ _ _ c.statements.invariant.counts (whole_file _ _ c.in-Ok-enter.ensures.counted);
    }

pub returns-in-Err-enter-clause-read : goal.returns-in-Err-enter-clause-read
returns-in-Err-enter-clause-read g c =
    include_met _ _ c.args.name.now c.statements.selections c.statements.kept c.read.new.kept c.statements.file c.in_ok-part.next c.statements.outer c.statements.invariant.reached c.in-Include.asked c.in-Err-enter.fault (rw c.in-Include.is at c.in_ok-part.ensures.advances) c.in_ok-part.ensures.stays
    (rw (c.statements.invariant.same, c.len.ensures) at c.in-Err-enter.ensures.entered)

pub returns-in-Fault-clause-read : goal.returns-in-Fault-clause-read
returns-in-Fault-clause-read g c =
    text_met _ _ c.args.name.now c.statements.selections c.statements.kept c.read.new.kept c.statements.file c.in_ok-part.next c.statements.outer c.statements.invariant.reached c.in-Fault.kind c.in-Fault.line c.in-Fault.column c.fault_at.result
    (rw c.in-Fault.is at c.in_ok-part.ensures.advances) (rw c.name.ensures at c.fault_at.ensures)

pub read-requires-clause-file : goal.read-requires-clause-file
read-requires-clause-file g c = All-head (λ (f : FileData). f.number < length c.statements.kept.files) c.statements.file c.statements.outer c.statements.invariant.run.numbers

pub statements-preserved-in-Ended : goal.statements-preserved-in-Ended
statements-preserved-in-Ended g c =
    let paid = rw c.in-Ended.is at c.in_ok-part.ensures.paid in
    record {
      reached =
          rw c.close.ensures
          (subst (Reached _ _ c.args.name.now (drop 1 c.statements.selections) c.read.new.kept) c.in-Some.ensures
          (file_ended _ _ c.args.name.now c.statements.selections c.statements.kept c.read.new.kept c.statements.file c.in_ok-part.next c.statements.outer c.statements.invariant.reached (rw c.in-Ended.is at c.in_ok-part.ensures.advances) c.in_ok-part.ensures.stays));
      run = subst (IsSoundRun c.read.new.kept) c.in-Some.ensures (run_ended c.statements.kept c.read.new.kept c.statements.file c.statements.outer c.statements.invariant.run paid);
      same = c.statements.invariant.same;
      counts = c.statements.invariant.counts;
    }

pub statements-smaller : goal.statements-smaller
statements-smaller g c =
    let enters = rw (c.statements.invariant.same, c.len.ensures) at c.in-Ok-enter.ensures.entered in
    rw c.in_ok-go_in-in-Include.ensures.1
    (still_entered c.statements.kept c.read.new.kept c.statements.file c.in_ok-part.next c.statements.outer c.in_ok-part.ensures.stays c.enter.new.kept c.in-Ok-enter.inner (rw c.in-Include.is at c.in_ok-part.ensures.paid).0 enters.includes
    c.in-Ok-enter.ensures.taken.few_includes c.in-Ok-enter.ensures.taken enters.fits)

pub returns-in-Err-enter-clause-counted : goal.returns-in-Err-enter-clause-counted
returns-in-Err-enter-clause-counted g c = call_after _ _ _ _ c.statements.invariant.counts c.in-Err-enter.ensures.counted

pub returns-in-Fault-clause-counted : goal.returns-in-Fault-clause-counted
returns-in-Fault-clause-counted g c = text_counted c.in-Fault.kind _ _ _ c.fault_at.result _ _ (rw c.in-Fault.is at c.in_ok-part.ensures.advances).1 (rw c.name.ensures at c.fault_at.ensures) c.statements.invariant.counts

pub returns-in_default-clause-counted : goal.returns-in_default-clause-counted
returns-in_default-clause-counted g c = quiet_ends _ _ c.statements.invariant.counts
