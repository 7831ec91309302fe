use Rattle.std.proofs.Common.{sym, subst}
use Rattle.reading_laws.specs.Rules.{AreTries}
use Rattle.reading_laws.proofs.Tried.{tries-as, tries-so}
use Rattle.reading_laws.proofs.tries_go_by_their_rules.Goals as goal

pub returns : goal.returns
returns c root including file names = (tries-as root including file names, λ is. subst (AreTries root including file) (sym is) (tries-so root including file))
