use Rattle.std.proofs.Common.{◌∙◌, reverse}
use Rattle.mg_word.proofs.Spellings.{terms_within, word_step}
use Rattle.mg_word.proofs.spelling.push_word.Goals as goal

pub push_symbol-requires : goal.push_symbol-requires
push_symbol-requires c =
    let same = c.as_slice-id-items.ensures in
    rw same (terms_within c.args.symbols.now 1 c.args.word.now c.requires c.loop-id.id-index (rw same at c.loop-id-test.true))

pub loop-id-preserved : goal.loop-id-preserved
loop-id-preserved c =
    let same = c.as_slice-id-items.ensures in
    let within = terms_within c.args.symbols.now 1 c.args.word.now c.requires c.loop-id.id-index (rw same at c.loop-id-test.true) in
    word_step c.args.symbols.now c.as_slice-id-items.result.now c.loop-id.id-index (reverse c.loop-id.brackets.items) c.loop-id.into.items c.push_symbol.new.into.items (reverse c.push_symbol.new.brackets.items)
    c.loop-id-test.true (rw same within) c.in_ok-push_symbol.ensures.text c.in_ok-push_symbol.ensures.kept ∙ c.loop-id.invariant
