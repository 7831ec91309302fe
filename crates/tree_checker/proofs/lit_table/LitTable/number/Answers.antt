use Rattle.std.proofs.Common.{ap, ◌∙◌}
use Rattle.tree_checker.specs.Indices.{with_new}
use Rattle.tree_checker.specs.declared.kept_lit.KeptLit.TheVariants.{Own}
use Rattle.tree_checker.proofs.DifferentLits.{different, inserted, own_index}
use Rattle.tree_checker.proofs.lit_table.LitTable.number.Goals as goal

pub returns-clause-number : goal.returns-clause-number
returns-clause-number c =
    let stored = c.in_ok-number.ensures.stored in
    own_index c.insert_full.new.self.keys (Own c.args.lit) stored.0 c.in_ok-number.number (different c.insert_full.new.self.keys c.in_ok-number.ensures.unique) stored.1 stored.2

pub returns-clause-ok : goal.returns-clause-ok
returns-clause-ok c =
    rw c.in_ok-number.ensures.keys (inserted c.self.inside.lits.keys (Own c.args.lit) ∙ ap (λ lits. with_new lits c.args.lit) c.self.view_is)

pub invariant_of-self-2 : goal.invariant_of-self-2
invariant_of-self-2 c = different c.insert_full.new.self.keys c.in_ok-number.ensures.unique
