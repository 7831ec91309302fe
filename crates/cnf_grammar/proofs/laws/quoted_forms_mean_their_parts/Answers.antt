-- The law is a lemma.
use Rattle.cnf_grammar.proofs.Unquoted.{unquoted-items}
use Rattle.cnf_grammar.proofs.laws.quoted_forms_mean_their_parts.Goals as goal

pub returns : goal.returns
returns c = unquoted-items
