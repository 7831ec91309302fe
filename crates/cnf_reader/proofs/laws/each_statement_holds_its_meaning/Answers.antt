-- The laws are lemmas.
use Rattle.cnf_reader.proofs.Meant.{meant, starts_again}
use Rattle.cnf_reader.proofs.laws.each_statement_holds_its_meaning.Goals as goal

pub returns-clause-meaning : goal.returns-clause-meaning
returns-clause-meaning c is_full selections = meant is_full selections c.only_files_are_accepted.ensures c.each_file_leaves_its_meaning.ensures

pub returns-clause-next : goal.returns-clause-next
returns-clause-next c is_full selections = starts_again is_full selections
