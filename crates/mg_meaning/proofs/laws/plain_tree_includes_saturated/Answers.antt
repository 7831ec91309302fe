use Rattle.mg_meaning.proofs.PlainCovers.{plain_includes}
use Rattle.mg_meaning.proofs.laws.plain_tree_includes_saturated.Goals as goal

pub returns : goal.returns
returns c = plain_includes
