use Rattle.tptp_lexer.proofs.LineLaw.{tokens-placed}
use Rattle.tptp_lexer.proofs.laws.tokens_stand_at_their_places.Goals as goal

pub returns-clause-tokens : goal.returns-clause-tokens
returns-clause-tokens c = λ bytes. (tokens-placed bytes).0

pub returns-clause-fault : goal.returns-clause-fault
returns-clause-fault c = λ bytes. (tokens-placed bytes).1
