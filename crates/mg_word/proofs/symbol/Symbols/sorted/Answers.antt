use Rattle.mg_word.proofs.Sorting.{permuted_holds}
use Rattle.mg_word.proofs.symbol.Symbols.sorted.Goals as goal

pub numbers_in-requires : goal.numbers_in-requires
numbers_in-requires c = rw c.in_ok-sorted.ensures (permuted_holds c.args.self.now _ c.in_ok-sorted_entries.ensures.permuted)
