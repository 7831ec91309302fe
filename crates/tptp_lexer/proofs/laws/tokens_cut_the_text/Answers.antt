use Rattle.tptp_lexer.proofs.CutLaw.{tokens-cut, tokens-few}
use Rattle.tptp_lexer.proofs.laws.tokens_cut_the_text.Goals as goal

pub returns-clause-cut : goal.returns-clause-cut
returns-clause-cut c = tokens-cut

pub returns-clause-few : goal.returns-clause-few
returns-clause-few c = tokens-few
