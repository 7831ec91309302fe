use Rattle.std.proofs.Common.{◌∙◌}
use Rattle.term_text.proofs.Cuts.{starts_is}
use Rattle.term_text.proofs.fronts.starts.Goals as goal

pub returns : goal.returns
returns c = c.starts_with.ensures.value ∙ starts_is c.args.word.now c.args.bytes.now
