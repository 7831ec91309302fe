use Rattle.tptp_lexer.proofs.OneKind.{one-kind}
use Rattle.tptp_lexer.proofs.laws.forms_tell_the_kind.Goals as goal

pub returns : goal.returns
returns c = one-kind
