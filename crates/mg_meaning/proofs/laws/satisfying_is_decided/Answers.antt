use Rattle.mg_meaning.proofs.Decided.{satisfying_decided, least_decided}
use Rattle.mg_meaning.proofs.laws.satisfying_is_decided.Goals as goal

pub returns : goal.returns
returns c = record { satisfying = satisfying_decided; minimal = least_decided }
