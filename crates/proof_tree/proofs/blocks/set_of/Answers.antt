use Rattle.std.proofs.Common.{◌≡◌, true, sym, ap, ◌∙◌}
use Rattle.mg_word.specs.Sets.{is_rising}
use Rattle.proof_tree.proofs.SetLines.{rising_set}
use Rattle.proof_tree.proofs.blocks.set_of.Goals as goal

pub returns : goal.returns
returns c =
    let rising : is_rising c.args.list.lits.items ≡ true = ap is_rising (sym c.deref.ensures.value) ∙ (sym c.is_rising.ensures ∙ c.if-not-is_rising.false) in
    (c.if-list.false, c.if-list-2.false, rising, c.in_ok-from_lits.ensures ∙ rising_set c.args.list.lits.items rising)
