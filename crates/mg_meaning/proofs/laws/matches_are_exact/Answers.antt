use Rattle.mg_meaning.proofs.Matchings.{matches_exact, matches_apart}
use Rattle.mg_meaning.proofs.laws.matches_are_exact.Goals as goal

pub returns : goal.returns
returns c = record { exact = matches_exact; once = matches_apart }
