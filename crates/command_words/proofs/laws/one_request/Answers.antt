use Rattle.command_words.proofs.OneRequest as lemma
use Rattle.command_words.proofs.laws.one_request.Goals as goal

pub returns : goal.returns
returns c words a b first second = lemma.one_request words a b first second
