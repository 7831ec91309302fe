use Rattle.mg_meaning.proofs.Counted.{old_kept, counted}
use Rattle.mg_meaning.proofs.laws.new_matches_are_counted.Goals as goal

pub returns : goal.returns
returns c = record { old = old_kept; joined = counted }
