-- No number so far was found, so those ahead decide.
use Rattle.cnf_grammar.proofs.Common.{◌≡◌, ◌-◌, drop, names_above}
use Rattle.cnf_grammar.proofs.item.names_above.Given as goal

abbrev pub invariant-loop-position : goal.invariant-loop-position
invariant-loop-position l = names_above (drop l.position l.words) (l.last - l.position) ≡ names_above l.words l.last
