use Rattle.command_words.proofs.request.check_of.Goals as goal

pub returns : goal.returns
returns c values hold = (c.in_ok-file.ensures values hold, c.in_ok-file-2.ensures values hold, c.in_ok-root.ensures values hold)
