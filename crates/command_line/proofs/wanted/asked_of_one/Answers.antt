use Rattle.std.proofs.Common.{◌∙◌}
use Rattle.command_words.specs.Requests.{seen}
use Rattle.command_line.proofs.Asked.{asked_found, asked_of_many}
use Rattle.command_line.proofs.wanted.asked_of_one.Goals as goal

pub returns-clause-asks : goal.returns-clause-asks
returns-clause-asks c =
    asked_of_many _ (seen c.in-Some.request) (asked_found _ c.in_ok-request.field-0 c.in-Some.request c.in_ok-request.ensures c.in-Some.is)
    (λ alone. c.if-workers_of-eq1.false (c.workers_of.ensures ∙ alone))
