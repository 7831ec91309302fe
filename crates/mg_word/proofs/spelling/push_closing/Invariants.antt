use Rattle.std.proofs.Common.{◌≡◌, ◌++◌, reverse, vec_len}
use Rattle.mg_word.specs.Spelling as spelling
use Rattle.mg_word.proofs.spelling.push_closing.Given as goal

abbrev pub invariant-loop-more : goal.invariant-loop-more
invariant-loop-more l = (
    l.into.items ++ spelling.closing (reverse l.brackets.items) ≡ l.fn.into.items ++ spelling.closing (reverse l.fn.brackets.items)
    ) × (spelling.still_open (reverse l.brackets.items) ≡ spelling.still_open (reverse l.fn.brackets.items))

abbrev pub decreases-loop-more : goal.decreases-loop-more
decreases-loop-more l = vec_len l.brackets
