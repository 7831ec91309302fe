use Rattle.std.proofs.Common.{◌≡◌, ◌++◌, [], take, drop}
use Rattle.mg_meaning.specs.Folding.{outsides}
use Rattle.branch_lemmas.proofs.folding.folded_outside.Given as goal

abbrev pub invariant-loop-index : goal.invariant-loop-index
invariant-loop-index l = l.outside.items ++ outsides (take l.index l.conclusions) (drop l.index l.conclusions) (drop l.index l.lemmas) ≡ outsides [] l.conclusions l.lemmas
