use Rattle.std.proofs.Common.{[], ap, ◌∙◌}
use Rattle.command_line.specs.Searched.{search_of}
use Rattle.command_line.proofs.SearchEnds.{finished}
use Rattle.command_line.proofs.prove.searched.Goals as goal

pub returns : goal.returns
returns c =
    finished c.args.problem c.args.limits c.in_ok-board.board c.finish_alone.result c.requires.real
    (c.in_ok-board.ensures ∙ ap (λ problem. search_of problem c.args.limits []) c.in_ok-problem.ensures.ok) c.finish_alone.ensures
