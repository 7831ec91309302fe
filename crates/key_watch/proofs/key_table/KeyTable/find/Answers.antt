use Rattle.std.proofs.Common.{subst}
use Rattle.std.specs.BTreeMap.{get}
use Rattle.mg_word.specs.Orders.{lit_cmp}
use Rattle.key_watch.specs.KeyNumbers.{AreDifferent}
use Rattle.key_watch.proofs.Tables.{are_different}
use Rattle.key_watch.proofs.key_table.KeyTable.find.Goals as goal

pub returns-in-Held-clause-different : goal.returns-in-Held-clause-different
returns-in-Held-clause-different c = subst AreDifferent c.self.view_is (are_different c.self.inside.keys.items (get lit_cmp c.self.inside.held) (get lit_cmp c.self.inside.barred) c.self.invariant.held c.self.invariant.barred)

pub returns-in-Barred-clause-different : goal.returns-in-Barred-clause-different
returns-in-Barred-clause-different c = subst AreDifferent c.self.view_is (are_different c.self.inside.keys.items (get lit_cmp c.self.inside.held) (get lit_cmp c.self.inside.barred) c.self.invariant.held c.self.invariant.barred)
