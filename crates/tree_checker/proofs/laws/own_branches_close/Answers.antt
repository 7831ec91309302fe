use Rattle.tree_checker.proofs.OwnBranches.{fold_closes, rejection_closes, clash_closes, bar_closes, lemma_closes}
use Rattle.tree_checker.proofs.laws.own_branches_close.Goals as goal

pub returns : goal.returns
returns c = record { fold = fold_closes; rejection = rejection_closes; clash = clash_closes; bar = bar_closes; lemma = lemma_closes }
