use Rattle.std.proofs.Common.{◌∙◌}
use Rattle.mg_word.proofs.SortedLits.{search_exact}
use Rattle.mg_word.proofs.lit_set.LitSet.contains.Goals as goal

pub returns : goal.returns
returns c =
    let list = c.as_slice.ensures.value in
    let exact = search_exact c.as_slice.result.now c.args.lit.now c.binary_search.result (rw list c.self.invariant) c.binary_search.ensures.bound c.binary_search.ensures.position in
    rw (← c.self.view_is, ← list) (c.is_ok.ensures.value ∙ exact)
