-- The laws are lemmas.
use Rattle.cnf_reader.proofs.Folding.{folder_is, one_folder}
use Rattle.cnf_reader.proofs.laws.folders_end_with_the_last_slash.Goals as goal

pub returns : goal.returns
returns c = record { is = folder_is; only = one_folder }
