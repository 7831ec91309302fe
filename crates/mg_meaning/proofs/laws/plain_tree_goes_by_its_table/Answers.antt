use Rattle.mg_meaning.proofs.PlainTables.{plain_cases, plain_saturated, plain_rejected, plain_split, plain_within}
use Rattle.mg_meaning.proofs.laws.plain_tree_goes_by_its_table.Goals as goal

pub returns : goal.returns
returns c = record { cases = plain_cases; saturated = plain_saturated; rejected = plain_rejected; split = plain_split; within = plain_within }
