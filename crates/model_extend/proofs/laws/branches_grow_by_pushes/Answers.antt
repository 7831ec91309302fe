use Rattle.std.proofs.Common.{[], ◌∷◌}
use Rattle.model_extend.proofs.Held.{branch_none, branch_pushed, branch_front, branch_last}
use Rattle.model_extend.proofs.laws.branches_grow_by_pushes.Goals as goal

pub returns : goal.returns
returns c = record {
  none = branch_none;
  more = λ problem lits lit. ((λ are. (branch_front problem lits (lit ∷ []) are, branch_last problem lits lit are)), (λ parts. branch_pushed problem lits lit parts.0 parts.1));
}
