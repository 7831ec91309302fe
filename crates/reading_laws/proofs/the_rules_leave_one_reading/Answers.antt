use Rattle.cnf_reader.specs.Reading.{reading_of}
use Rattle.reading_laws.proofs.Joined.{reads-so, one-result}
use Rattle.reading_laws.proofs.the_rules_leave_one_reading.Goals as goal

pub returns-clause-some : goal.returns-clause-some
returns-clause-some c world root name = (reading_of world root name, reads-so world root name)

pub returns-clause-one : goal.returns-clause-one
returns-clause-one c = one-result
