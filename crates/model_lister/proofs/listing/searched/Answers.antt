use Rattle.std.proofs.Common.{◌≡◌, subst}
use Rattle.std.specs.Arc.{arc_value}
use Rattle.mg_word.specs.Facts.{IsProblem}
use Rattle.model_lister.proofs.Ends.{finished}
use Rattle.model_lister.proofs.listing.searched.Goals as goal

pub returns : goal.returns
returns c =
    let same : c.deref-held.result.now ≡ arc_value c.args.problem = cc in
    let real : IsProblem (arc_value c.args.problem) = subst IsProblem same (subst IsProblem c.held.view_is c.held.invariant) in
    finished (arc_value c.args.problem) c.args.limits c.in_ok-board.board c.finish_alone.result real c.in_ok-board.ensures c.finish_alone.ensures
