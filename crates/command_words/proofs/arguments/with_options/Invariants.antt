use Rattle.std.proofs.Common.{◌≡◌, fold, map, drop}
use Rattle.clap.specs.Words.{app_of, with_rule}
use Rattle.command_words.specs.Clap.{option_rule, row_seen}
use Rattle.command_words.proofs.arguments.with_options.Given as goal

abbrev pub invariant-loop-row : goal.invariant-loop-row
invariant-loop-row l = fold with_rule (app_of l.command) (map (λ row. option_rule (row_seen row)) (drop l.row-index l.options)) ≡ fold with_rule (app_of l.initial.command) (map (λ row. option_rule (row_seen row)) l.options)
