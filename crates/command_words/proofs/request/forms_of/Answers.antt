use Rattle.command_words.proofs.request.forms_of.Goals as goal

pub returns : goal.returns
returns c values hold = (c.in_ok-file.ensures values hold, c.in_ok-root.ensures values hold)
