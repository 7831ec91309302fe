use Rattle.mg_meaning.proofs.Excluded.{satisfies_where_saturated}
use Rattle.mg_meaning.proofs.laws.satisfying_is_saturated.Goals as goal

pub returns : goal.returns
returns c = satisfies_where_saturated
