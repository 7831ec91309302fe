use Rattle.std.specs.Arc.{arc_value}
use Rattle.model_lister.proofs.Ends.{run_lists}
use Rattle.model_lister.proofs.listing.list_models.Goals as goal

pub returns : goal.returns
returns c = record {
  run = c.in_ok-board.ensures;
  lists = run_lists (arc_value c.args.problem) c.args.limits c.in_ok-board.board c.in_ok-board.ensures c.in_ok-sets.sets.items c.in_ok-sets.ensures c.limit_of-gave_up.result c.limit_of-gave_up.ensures;
}
