use Rattle.mg_meaning.proofs.Excluded.{excludes_from_insts}
use Rattle.mg_meaning.proofs.laws.instances_exclude.Goals as goal

pub returns : goal.returns
returns c = excludes_from_insts
