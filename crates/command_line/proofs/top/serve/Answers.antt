use Rattle.std.proofs.Common.{◌∙◌}
use Rattle.std.specs.Option.{option_map}
use Rattle.command_words.specs.Requests.{seen}
use Rattle.command_line.proofs.Replying.{asks_seen, names_seen, replied}
use Rattle.command_line.proofs.top.serve.Goals as goal

pub returns-clause-replied : goal.returns-clause-replied
returns-clause-replied g c = λ words asks.
    rw c.code.ensures
    (replied words (option_map seen c.args.request.now) _ _ c.reply-outcome.result _ _ (asks_seen words c.args.request.now asks) c.reply-outcome.ensures.replies (c.name_of.ensures ∙ names_seen c.args.request.now) c.put_result.ensures)
