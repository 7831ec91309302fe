use Rattle.std.proofs.Common.{◌≡◌, map, take}
use Rattle.mg_word.specs.Seen.{entry_seen}
use Rattle.mg_word.proofs.symbol.Symbols.same.Given as goal

abbrev pub invariant-loop-i : goal.invariant-loop-i
invariant-loop-i l = map entry_seen (take l.i l.these) ≡ map entry_seen (take l.i l.those)
