use Rattle.std.proofs.lemmas.List.Filters.{dedup_is}
use Rattle.mg_word.specs.Sets.{same_lit}
use Rattle.mg_word.proofs.SortedLits.{deduped_rises, deduped_set}
use Rattle.mg_word.proofs.lit_set.LitSet.from_lits.Goals as goal

pub invariant_of-result : goal.invariant_of-result
invariant_of-result c =
    let list = dedup_is same_lit c.sort_unstable.new.self.items c.dedup.new.self.items c.dedup.ensures.filtered in
    rw list (deduped_rises c.sort_unstable.new.self.items c.sort_unstable.ensures.sorted)

pub returns : goal.returns
returns c =
    let list = dedup_is same_lit c.sort_unstable.new.self.items c.dedup.new.self.items c.dedup.ensures.filtered in
    rw list (deduped_set c.args.lits.items c.sort_unstable.new.self.items c.sort_unstable.ensures.permutation c.sort_unstable.ensures.sorted)
