-- The laws are lemmas.
use Rattle.cnf_grammar.proofs.Counting.{tidy, counts}
use Rattle.cnf_grammar.proofs.laws.counters_count_open_brackets.Goals as goal

pub returns-clause-outside : goal.returns-clause-outside
returns-clause-outside c = tidy

pub returns-clause-inside : goal.returns-clause-inside
returns-clause-inside c = counts
