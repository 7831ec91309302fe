use Rattle.std.proofs.Common.{◌≡◌, ◌++◌, ◌∷◌, map, take}
use Rattle.mg_word.specs.Spelling.{spelled_lit}
use Rattle.term_text.proofs.Joined.{joined}
use Rattle.term_text.proofs.writing.push_lits.Given as goal

abbrev pub invariant-loop-i : goal.invariant-loop-i
invariant-loop-i l = l.into.items ≡ l.fn.into.items ++ 91 ∷ joined (map (spelled_lit l.symbols) (take l.i l.lits))
