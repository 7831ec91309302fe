use Rattle.std.proofs.Common.{take}
use Rattle.key_watch.proofs.NamedKeys.{AreNumbering}
use Rattle.key_watch.proofs.watch.number_all.Given as goal

abbrev pub invariant-loop-lit : goal.invariant-loop-lit
invariant-loop-lit l = AreNumbering l.side (take l.lit-index l.lits) l.fn.table l.fn.numbers l.fn.into.items l.table l.numbers l.into.items
