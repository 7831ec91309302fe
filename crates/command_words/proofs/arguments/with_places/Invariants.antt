use Rattle.std.proofs.Common.{◌≡◌, fold, map, drop}
use Rattle.clap.specs.Words.{app_of, with_rule}
use Rattle.command_words.specs.Clap.{place_rule}
use Rattle.command_words.proofs.arguments.with_places.Given as goal

abbrev pub invariant-loop-name : goal.invariant-loop-name
invariant-loop-name l = fold with_rule (app_of l.command) (map (λ name. place_rule name.now) (drop l.name-index l.places)) ≡ fold with_rule (app_of l.initial.command) (map (λ name. place_rule name.now) l.places)
