use Rattle.std.proofs.Common.{arith}
use Rattle.cnf_reader.proofs.Drafting.{room_is}
use Rattle.cnf_reader.proofs.draft.lacks_room.Goals as goal

pub returns-then-variables-ge-MOST_VARIABLES : goal.returns-then-variables-ge-MOST_VARIABLES
returns-then-variables-ge-MOST_VARIABLES c = room_is c.args.variables.now c.args.text.now c.variable_index.result c.variable_index.ensures (omega arith)
