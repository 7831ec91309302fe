use Rattle.std.proofs.Common.{ap, ◌∙◌, arith}
use Rattle.std.specs.Str.{bytes_eq}
use Rattle.command_words.proofs.Words.{first_word}
use Rattle.command_words.proofs.request.is_asked.Goals as goal

pub returns : goal.returns
returns c =
    first_word c.args.command.now c.args.words.now c.first-item.result c.eq.result (omega arith) c.first-item.is (c.eq.ensures ∙ ap (λ text. bytes_eq text c.args.command.now) c.as_str.ensures.value)
