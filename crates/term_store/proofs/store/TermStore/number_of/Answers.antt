use Rattle.term_store.proofs.Keys.{found_at, found_where}
use Rattle.term_store.proofs.store.TermStore.number_of.Goals as goal

pub returns-clause-found : goal.returns-clause-found
returns-clause-found c = rw (← c.self.view_is) (found_at c.self.inside.keys.keys c.args.key.now c.get_index_of.result c.get_index_of.ensures.index)

pub returns-clause-none : goal.returns-clause-none
returns-clause-none c = rw (← c.self.view_is) (found_where c.self.inside.keys.keys c.args.key.now c.get_index_of.result c.get_index_of.ensures.found)
