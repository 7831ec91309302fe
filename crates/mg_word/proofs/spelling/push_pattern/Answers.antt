use Rattle.std.proofs.Common.{◌∙◌, reverse}
use Rattle.mg_word.specs.declared.item.Item.TheVariants.{Sym}
use Rattle.mg_word.proofs.Spellings.{patterns_known, item_step}
use Rattle.mg_word.proofs.spelling.push_pattern.Goals as goal

pub push_item-requires : goal.push_item-requires
push_item-requires c =
    let same = c.as_slice-item-items.ensures in
    rw same (patterns_known c.args.symbols.now c.requires.0 1 c.args.pattern.now c.requires.1 c.loop-item.item-index (Sym 0) (rw same at c.loop-item-test.true))

pub loop-item-preserved : goal.loop-item-preserved
loop-item-preserved c =
    let same = c.as_slice-item-items.ensures in
    let known = patterns_known c.args.symbols.now c.requires.0 1 c.args.pattern.now c.requires.1 c.loop-item.item-index (Sym 0) (rw same at c.loop-item-test.true) in
    item_step c.args.symbols.now c.as_slice-item-items.result.now c.loop-item.item-index (Sym 0) (reverse c.loop-item.brackets.items) c.loop-item.into.items c.push_item.new.into.items (reverse c.push_item.new.brackets.items)
    c.loop-item-test.true (rw same known) c.in_ok-push_item.ensures.text c.in_ok-push_item.ensures.kept ∙ c.loop-item.invariant
