use Rattle.tree_board.proofs.Lightness.{literals_light}
use Rattle.tree_board.proofs.laws.literals_are_light.Goals as goal

pub returns : goal.returns
returns c = literals_light
