use Rattle.command_line.proofs.PrintedProofs.{proofs_are_accepted as accepted_of}
use Rattle.command_line.proofs.laws.proofs_are_accepted.Goals as goal

pub returns : goal.returns
returns c = accepted_of
