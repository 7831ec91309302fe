use Rattle.mg_meaning.proofs.MinimalModels.{minimal_positive, minimal_model, model_minimal}
use Rattle.mg_meaning.proofs.laws.minimal_sets_are_minimal_models.Goals as goal

pub returns : goal.returns
returns c = record { positive = minimal_positive; model = minimal_model; minimal = model_minimal }
