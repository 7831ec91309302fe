-- The laws are lemmas.
use Rattle.cnf_grammar.proofs.ItemLaws.{item_other, item_front, item_is}
use Rattle.cnf_grammar.proofs.laws.items_are_followed.Goals as goal

pub returns-clause-other : goal.returns-clause-other
returns-clause-other c = item_other

pub returns-clause-front : goal.returns-clause-front
returns-clause-front c words tokens few g = item_front words few tokens g

pub returns-clause-whole : goal.returns-clause-whole
returns-clause-whole c = item_is
