use Rattle.std.proofs.Common.{map, rules, string_bytes}
use Rattle.command_words.proofs.Words.{asks_nothing}
use Rattle.command_words.proofs.request.request_of.Goals as goal

pub returns : goal.returns
returns c = asks_nothing (map string_bytes c.args.words.now) (search rules) (search rules) (search rules) (search rules) (search rules)
