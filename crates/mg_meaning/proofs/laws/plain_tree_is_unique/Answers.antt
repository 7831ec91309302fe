use Rattle.mg_meaning.proofs.PlainShapes.{plain_same}
use Rattle.mg_meaning.proofs.laws.plain_tree_is_unique.Goals as goal

pub returns : goal.returns
returns c = plain_same
