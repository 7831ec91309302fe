-- The word at a position, by the two cases of the test.
use Rattle.std.proofs.Common.{false, sym, ◌∙◌, length}
use Rattle.cnf_grammar.proofs.ItemNumbers.{word_at, no_word_at, test_fails}
use Rattle.cnf_grammar.proofs.item.has_word_at.Goals as goal

pub returns-then-position-words : goal.returns-then-position-words
returns-then-position-words c = sym (word_at c.args.words.now c.args.position false c.if-position-words.true)

pub returns-else-position-words : goal.returns-else-position-words
returns-else-position-words c =
    test_fails c.args.position (length c.args.words.now) c.if-position-words.false
    ∙ sym (no_word_at c.args.words.now c.args.position c.if-position-words.false)
