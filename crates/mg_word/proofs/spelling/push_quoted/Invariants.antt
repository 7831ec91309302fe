use Rattle.std.proofs.Common.{◌≡◌, ◌++◌, ◌∷◌, [], drop}
use Rattle.std.specs.List.{flat_map}
use Rattle.mg_word.specs.Spelling as spelling
use Rattle.mg_word.proofs.spelling.push_quoted.Given as goal

abbrev pub invariant-loop-byte : goal.invariant-loop-byte
invariant-loop-byte l =
    l.into.items ++ flat_map (spelling.escaped l.quote) (drop l.byte-index l.name) ≡
    (l.fn.into.items ++ l.quote ∷ []) ++ flat_map (spelling.escaped l.quote) l.name
