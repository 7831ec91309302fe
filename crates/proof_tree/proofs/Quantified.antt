-- What holds of some and of each of a list.
use Rattle.std.proofs.Common.{List, All, Any, subst}

pub any_all : {X : Type 0} (P Q : X → Type 0) (xs : List X) → ((x : X) → P x → Q x → ⊥) → Any P xs → All Q xs → ⊥
any_all P Q xs clash some all = clash some.1 some.4 (subst Q some.3 (all some.0 some.1 some.2))
