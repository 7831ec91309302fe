use Rattle.mg_word.proofs.RisingLists.{parts_same}
use Rattle.mg_meaning.proofs.laws.rising_list_is_unique.Goals as goal

pub returns : goal.returns
returns c = parts_same
