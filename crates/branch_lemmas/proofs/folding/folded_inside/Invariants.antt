use Rattle.std.proofs.Common.{◌≡◌, ◌++◌, drop}
use Rattle.mg_meaning.specs.Folding.{insides}
use Rattle.branch_lemmas.proofs.folding.folded_inside.Given as goal

abbrev pub invariant-loop-index : goal.invariant-loop-index
invariant-loop-index l = l.inside.items ++ insides (drop l.index l.conclusions) (drop l.index l.lemmas) ≡ l.inst.premises ++ insides l.conclusions l.lemmas
