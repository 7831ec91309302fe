use Rattle.mg_meaning.proofs.PlainShapes.{heavy_not_plain}
use Rattle.mg_meaning.proofs.laws.heavy_has_no_plain_tree.Goals as goal

pub returns : goal.returns
returns c = heavy_not_plain
