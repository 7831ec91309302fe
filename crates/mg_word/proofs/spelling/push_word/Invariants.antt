use Rattle.std.proofs.Common.{◌≡◌, ◌++◌, drop, map, reverse}
use Rattle.mg_word.specs.Spelling as spelling
use Rattle.mg_word.proofs.spelling.push_word.Given as goal

abbrev pub invariant-loop-id : goal.invariant-loop-id
invariant-loop-id l =
    l.into.items ++ spelling.spelled_within (reverse l.brackets.items) (map spelling.symbol_piece (spelling.symbols_at l.symbols (drop l.id-index l.id-items))) ≡
    l.fn.into.items ++ spelling.spelled l.symbols l.word
