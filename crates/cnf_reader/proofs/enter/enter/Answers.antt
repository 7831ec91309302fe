use Rattle.std.proofs.Common.{◌+◌, refl, arith}
use Rattle.cnf_reader.proofs.Entered.{too_many, too_deep, not_there, too_large, failed, entered}
use Rattle.mg_word.proofs.NameTexts.{name_utf8}
use Rattle.cnf_reader.proofs.TakenIn.{taken_in}
use Rattle.cnf_reader.proofs.Counted.{fault_counted, no_read}
use Rattle.cnf_reader.proofs.enter.enter.Goals as goal

pub returns-then-kept-ge-MOST_INCLUDES-clause-entered : goal.returns-then-kept-ge-MOST_INCLUDES-clause-entered
returns-then-kept-ge-MOST_INCLUDES-clause-entered g c = too_many _ _ c.args.kept.now c.args.file.now c.args.depth c.args.asked.now c.fault_at_include.result c.if-kept-ge-MOST_INCLUDES.true c.fault_at_include.ensures

pub returns-then-depth-ge-MOST_LEVELS-clause-entered : goal.returns-then-depth-ge-MOST_LEVELS-clause-entered
returns-then-depth-ge-MOST_LEVELS-clause-entered g c =
    too_deep _ _ c.args.kept.now c.args.file.now c.args.depth c.args.asked.now c.fault_at_include-then-depth-ge-MOST_LEVELS.result (omega arith) c.if-depth-ge-MOST_LEVELS.true c.fault_at_include-then-depth-ge-MOST_LEVELS.ensures

pub returns-in-Absent-clause-entered : goal.returns-in-Absent-clause-entered
returns-in-Absent-clause-entered g c =
    not_there _ _ c.args.kept.now c.args.file.now c.args.depth c.args.asked.now _ _ (rw (c.name.ensures, c.in-Ok.ensures.cases.0, c.as_slice.ensures) at c.in_ok-tries.ensures) refl (omega arith) (omega arith) c.fault_at_include-in-Absent.result (rw c.in-Absent.is at c.in_ok-name.ensures.opened) (rw c.as_slice-in-Absent.ensures at c.fault_at_include-in-Absent.ensures)

pub returns-in-TooLong-clause-entered : goal.returns-in-TooLong-clause-entered
returns-in-TooLong-clause-entered g c =
    too_large _ _ c.args.kept.now c.args.file.now c.args.depth c.args.asked.now _ _ (rw (c.name.ensures, c.in-Ok.ensures.cases.0, c.as_slice.ensures) at c.in_ok-tries.ensures) refl (omega arith) (omega arith) c.fault_at_include-in-TooLong.result (rw c.in-TooLong.is at c.in_ok-name.ensures.opened) c.fault_at_include-in-TooLong.ensures

pub returns-in-Failed-clause-entered : goal.returns-in-Failed-clause-entered
returns-in-Failed-clause-entered g c =
    failed _ _ c.args.kept.now c.args.file.now c.args.depth c.args.asked.now _ _ (rw (c.name.ensures, c.in-Ok.ensures.cases.0, c.as_slice.ensures) at c.in_ok-tries.ensures) refl (omega arith) (omega arith) c.fault_at_include-in-Failed.result (rw c.in-Failed.is at c.in_ok-name.ensures.opened) c.fault_at_include-in-Failed.ensures

pub returns-in_ok-admit-in-Opened-clause-entered : goal.returns-in_ok-admit-in-Opened-clause-entered
returns-in_ok-admit-in-Opened-clause-entered g c =
    entered _ _ c.args.kept.now c.args.file.now c.args.depth c.args.asked.now _ _ (rw (c.name.ensures, c.in-Ok.ensures.cases.0, c.as_slice.ensures) at c.in_ok-tries.ensures) refl (omega arith) (omega arith) c.in-Opened.name c.in-Opened.bytes c.admit.new.kept c.in_ok-admit-in-Opened.field-0 (rw c.in-Opened.is at c.in_ok-name.ensures.opened) c.requires.small
    c.in_ok-admit-in-Opened.ensures.0 c.in_ok-admit-in-Opened.ensures.1

pub returns-in_ok-admit-in-Opened-clause-taken : goal.returns-in_ok-admit-in-Opened-clause-taken
returns-in_ok-admit-in-Opened-clause-taken g c =
    taken_in c.args.kept.now c.admit.new.kept (c.args.kept.now.includes + 1) _ _ c.in_ok-admit-in-Opened.field-0 c.in_ok-admit-in-Opened.ensures.0 c.in_ok-admit-in-Opened.ensures.1 (omega (arith, c.requires.files)) (omega (arith, c.if-kept-ge-MOST_INCLUDES.false))

pub unreachable-requires : goal.unreachable-requires
unreachable-requires g c = c.in_default.ensures.cases.0 (rw c.as_slice.ensures (name_utf8 c.args.asked.now.file c.requires.asked))

pub returns-then-kept-ge-MOST_INCLUDES-clause-counted : goal.returns-then-kept-ge-MOST_INCLUDES-clause-counted
returns-then-kept-ge-MOST_INCLUDES-clause-counted g c = fault_counted _ _ _ _ _ c.fault_at_include.result _ _ c.fault_at_include.ensures (no_read _)

pub returns-then-depth-ge-MOST_LEVELS-clause-counted : goal.returns-then-depth-ge-MOST_LEVELS-clause-counted
returns-then-depth-ge-MOST_LEVELS-clause-counted g c = fault_counted _ _ _ _ _ c.fault_at_include-then-depth-ge-MOST_LEVELS.result _ _ c.fault_at_include-then-depth-ge-MOST_LEVELS.ensures (no_read _)

pub returns-in-Absent-clause-counted : goal.returns-in-Absent-clause-counted
returns-in-Absent-clause-counted g c = fault_counted _ _ _ _ _ c.fault_at_include-in-Absent.result _ _ c.fault_at_include-in-Absent.ensures (rw c.in-Absent.is at c.in_ok-name.ensures.counted)

pub returns-in-TooLong-clause-counted : goal.returns-in-TooLong-clause-counted
returns-in-TooLong-clause-counted g c = fault_counted _ _ _ _ _ c.fault_at_include-in-TooLong.result _ _ c.fault_at_include-in-TooLong.ensures (rw c.in-TooLong.is at c.in_ok-name.ensures.counted)

pub returns-in-Failed-clause-counted : goal.returns-in-Failed-clause-counted
returns-in-Failed-clause-counted g c = fault_counted _ _ _ _ _ c.fault_at_include-in-Failed.result _ _ c.fault_at_include-in-Failed.ensures (rw c.in-Failed.is at c.in_ok-name.ensures.counted)
