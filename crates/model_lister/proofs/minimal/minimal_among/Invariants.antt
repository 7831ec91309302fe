use Rattle.std.proofs.Common.{◌≡◌, filter}
use Rattle.mg_meaning.specs.Deciding.{is_least}
use Rattle.model_lister.proofs.minimal.minimal_among.Given as goal

abbrev pub invariant-loop-set : goal.invariant-loop-set
invariant-loop-set l = record {
  kept : l.kept.items ≡ filter (is_least l.fn.tester) l.yielded;
  tester : l.tester ≡ l.fn.tester;
}
