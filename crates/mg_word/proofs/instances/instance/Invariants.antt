use Rattle.std.proofs.Common.{◌≡◌, ◌++◌, drop}
use Rattle.mg_word.specs.Words.{instance_of}
use Rattle.mg_word.proofs.instances.instance.Given as goal

abbrev pub invariant-loop-item : goal.invariant-loop-item
invariant-loop-item l = l.symbols.items ++ instance_of l.subst (drop l.item-index l.items) ≡ instance_of l.subst l.items
