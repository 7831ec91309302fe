use Rattle.command_line.proofs.SearchEnds.{ends_found}
use Rattle.command_line.proofs.prove.find.Goals as goal

pub returns-clause-found : goal.returns-clause-found
returns-clause-found c = ends_found c.in_ok-board.board c.in_ok-finding.finding c.in_ok-board.ensures.ended c.in_ok-finding.ensures
