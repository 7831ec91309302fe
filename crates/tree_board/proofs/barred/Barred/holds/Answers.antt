use Rattle.std.proofs.Common.{ap, ◌∙◌}
use Rattle.std.specs.Option.{is_some}
use Rattle.tree_board.proofs.FirstIndices.{index_held}
use Rattle.tree_board.proofs.barred.Barred.holds.Goals as goal

pub returns : goal.returns
returns c = rw (← c.self.view_is) (c.contains_key.ensures ∙ ap is_some (c.self.invariant c.args.lit.now) ∙ index_held c.self.inside.lits.items c.args.lit.now)
