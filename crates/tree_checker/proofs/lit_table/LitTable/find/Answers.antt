use Rattle.std.proofs.Common.{ap, ◌∙◌}
use Rattle.tree_checker.specs.Indices.{index_of}
use Rattle.tree_checker.specs.declared.kept_lit.KeptLit.TheVariants.{Lent}
use Rattle.tree_checker.proofs.DifferentLits.{found_index}
use Rattle.tree_checker.proofs.lit_table.LitTable.find.Goals as goal

pub returns-clause-number : goal.returns-clause-number
returns-clause-number c =
    found_index c.self.inside.lits.keys (Lent c.args.lit) c.self.invariant c.get_index_of.result c.get_index_of.ensures.index c.get_index_of.ensures.found
    ∙ ap (λ lits. index_of lits c.args.lit.now) c.self.view_is

pub returns-clause-different : goal.returns-clause-different
returns-clause-different c = rw (← c.self.view_is) c.self.invariant
