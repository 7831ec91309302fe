use Rattle.std.proofs.Common.{◌≡◌, ◌++◌, take}
use Rattle.std.specs.List.{flat_map}
use Rattle.mg_word.specs.Spelling.{spelled_pattern_lit}
use Rattle.clause_form.proofs.line.push_joined.Given as goal

abbrev pub invariant-loop-other : goal.invariant-loop-other
invariant-loop-other l =
    l.into.items ≡
    (l.fn.into.items ++ spelled_pattern_lit l.symbols l.first) ++ flat_map (λ other. l.separator ++ spelled_pattern_lit l.symbols other) (take l.other-index l.others)
