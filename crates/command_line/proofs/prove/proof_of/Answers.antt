use Rattle.command_line.proofs.SearchEnds.{refuted}
use Rattle.command_line.proofs.prove.proof_of.Goals as goal

pub returns-in-Ok : goal.returns-in-Ok
returns-in-Ok c = refuted c.args.board.now c.in-Ok.doc c.requires.ended c.requires.closed c.in-Ok.ensures.document c.in-Ok.ensures.well_formed c.in-Ok.ensures.accepted
