use Rattle.mg_meaning.proofs.MinimalLists.{lists_same}
use Rattle.mg_meaning.proofs.laws.minimal_list_is_unique.Goals as goal

pub returns : goal.returns
returns c = lists_same
