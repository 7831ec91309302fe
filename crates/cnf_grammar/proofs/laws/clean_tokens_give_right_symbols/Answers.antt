-- The laws are lemmas.
use Rattle.cnf_grammar.proofs.Clean.{clause_clean, include_clean}
use Rattle.cnf_grammar.proofs.laws.clean_tokens_give_right_symbols.Goals as goal

pub returns-clause-symbols : goal.returns-clause-symbols
returns-clause-symbols c = clause_clean

pub returns-clause-file : goal.returns-clause-file
returns-clause-file c = include_clean
