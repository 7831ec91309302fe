use Rattle.command_words.proofs.request.search_of.Goals as goal

pub returns-in_err-number : goal.returns-in_err-number
returns-in_err-number c = rw c.from_residual-in_err-number.ensures (λ values hold wanted asked. c.in_err-number.ensures values hold wanted.workers asked.2)

pub returns : goal.returns
returns c values hold = (
  c.in_ok-file.ensures values hold,
  c.in_ok-root.ensures values hold,
  c.in_ok-number.ensures values hold,
  c.in_ok-number-2.ensures values hold,
  c.in_ok-number-3.ensures values hold,
)
