-- The rules of a set by the matches that stacks hold.
use Rattle.std.specs.Prelude.{List, [], ◌∷◌, ◌++◌}
use Rattle.std.specs.List.{flat_map}
use Rattle.std.specs.Option.{option_map, option_to_list}
use Rattle.mg_word.specs.Words.{numbered}
use Rattle.mg_word.specs.declared.lit.Lit.{Lit}
use Rattle.ramified_match.specs.Stacks.{StacksData, substitution}
use Rattle.ramified_match.specs.declared.full.Full.{Full}
use Rattle.minimal_test.specs.declared.rule.Rule.{Rule}
use Rattle.minimal_test.specs.Places.{rule_of, clash_rules, instance_rule}

-- the rule of the instance of a full match
abbrev pub full_rule : StacksData → List Lit → Full → List Rule
full_rule stacks set full = option_to_list (option_map (λ form. instance_rule set form (substitution stacks.terms full)) (numbered stacks.problem.forms full.form))

-- what is asked of a proper part of the set, whose literals the stacks hold: not to clash, to obey each instance, and not to be the whole set
abbrev pub held_rules : StacksData → List Lit → List Rule
held_rules stacks set = flat_map (clash_rules set) set ++ (flat_map (full_rule stacks set) stacks.full ++ rule_of set set [] ∷ [])
