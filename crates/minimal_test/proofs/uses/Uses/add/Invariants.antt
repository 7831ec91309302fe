use Rattle.std.proofs.Common.{take}
use Rattle.minimal_test.specs.Uses.{IsListed, IsGrown}
use Rattle.minimal_test.proofs.uses.Uses.add.Given as goal

abbrev pub invariant-loop-place : goal.invariant-loop-place
invariant-loop-place l = record {
  grown : IsGrown l.initial.self.rules_at.items l.self.rules_at.items;
  listed : IsListed (take l.place-index l.places) l.number l.self.rules_at.items;
}
