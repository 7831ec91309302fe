use Rattle.command_words.proofs.request.sample_of.Goals as goal

pub returns-in_err-number : goal.returns-in_err-number
returns-in_err-number c = rw c.from_residual-in_err-number.ensures (λ values hold k n m asked. c.in_err-number.ensures values hold n asked.1)
