use Rattle.std.proofs.Common.{◌≡◌, [], ◌∷◌, ◌++◌, arith}
use Rattle.std.proofs.lemmas.Grind.{common_steps}
use Rattle.std.specs.List.{flat_map}
use Rattle.minimal_test.specs.Places.{rule_of, clash_rules}
use Rattle.minimal_test.specs.FullRules.{full_rule}
use Rattle.minimal_test.proofs.HeldRules.{held_listed}
use Rattle.minimal_test.proofs.full_rules.rules_held.Goals as goal

pub returns : goal.returns
returns c =
    let listed : c.push.new.self.items ≡ flat_map (clash_rules c.args.set.now) c.args.set.now ++ (flat_map (full_rule c.args.stacks.now c.args.set.now) c.full.result.now ++ rule_of c.args.set.now c.args.set.now [] ∷ []) = grind (arith, common_steps) in
    held_listed c.args.stacks.now c.args.set.now c.full.result.now c.push.new.self.items c.full.ensures.exact c.requires c.full.ensures.value listed
