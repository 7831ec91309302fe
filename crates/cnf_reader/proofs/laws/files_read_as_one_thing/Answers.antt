use Rattle.cnf_reader.proofs.OneReading.{some_reading, one_input, one_fault, not_both}
use Rattle.cnf_reader.proofs.laws.files_read_as_one_thing.Goals as goal

pub returns : goal.returns
returns c = record { one = some_reading; inputs = one_input; faults = one_fault; apart = not_both }
