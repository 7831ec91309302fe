use Rattle.mg_meaning.proofs.Matchings.{matches_grow, old_matches}
use Rattle.mg_meaning.proofs.laws.matches_grow.Goals as goal

pub returns : goal.returns
returns c = record { grown = matches_grow; apart = old_matches }
