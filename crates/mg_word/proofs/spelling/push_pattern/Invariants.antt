use Rattle.std.proofs.Common.{◌≡◌, ◌++◌, drop, reverse}
use Rattle.mg_word.specs.Spelling as spelling
use Rattle.mg_word.proofs.spelling.push_pattern.Given as goal

abbrev pub invariant-loop-item : goal.invariant-loop-item
invariant-loop-item l =
    l.into.items ++ spelling.spelled_within (reverse l.brackets.items) (spelling.item_pieces l.symbols (drop l.item-index l.item-items)) ≡
    l.fn.into.items ++ spelling.spelled_pattern l.symbols l.pattern
