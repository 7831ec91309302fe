use Rattle.mg_meaning.proofs.PlainCovers.{shape_insts, plain_passed}
use Rattle.mg_meaning.proofs.laws.plain_tree_covers.Goals as goal

pub returns : goal.returns
returns c = record { insts = shape_insts; covers = plain_passed }
