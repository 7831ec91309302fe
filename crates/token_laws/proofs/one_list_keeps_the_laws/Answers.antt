use Rattle.token_laws.proofs.OneList.{list-one}
use Rattle.token_laws.proofs.one_list_keeps_the_laws.Goals as goal

pub returns : goal.returns
returns c = list-one
