use Rattle.std.proofs.Common.{subst, sym, ◌∙◌}
use Rattle.tree_board.specs.Keeping.{IsKeeping}
use Rattle.tree_board.proofs.QuickSettling.{settled_by_cover, settled_by_lemma, untouched}
use Rattle.tree_board.proofs.board.Board.quick_at.Goals as goal

pub returns-in-Some : goal.returns-in-Some
returns-in-Some c = (settled_by_lemma _ _ _ _ _ _ (subst (λ one. IsKeeping one c.self.inside.cells.items c.self.inside.closures.items c.self.inside.lemmas c.self.inside.lemma_nodes.items c.self.inside.tally) c.self.view_is c.self.invariant) _ _ _ c.requires _ (sym c.first_match.ensures ∙ c.in-Some.is)).2

pub returns-in-Some-2 : goal.returns-in-Some-2
returns-in-Some-2 c = (settled_by_cover _ _ _ _ _ _ (subst (λ one. IsKeeping one c.self.inside.cells.items c.self.inside.closures.items c.self.inside.lemmas c.self.inside.lemma_nodes.items c.self.inside.tally) c.self.view_is c.self.invariant) _ _ _ c.requires (sym c.first_match.ensures ∙ c.in_default.is) _ (sym c.in_ok-by.ensures ∙ c.in-Some-2.is)).2

pub returns-in-None : goal.returns-in-None
returns-in-None c = untouched _ _ _ _ _ _ (subst (λ one. IsKeeping one c.self.inside.cells.items c.self.inside.closures.items c.self.inside.lemmas c.self.inside.lemma_nodes.items c.self.inside.tally) c.self.view_is c.self.invariant) _ _ _ c.requires (sym c.first_match.ensures ∙ c.in_default.is) (sym c.in_ok-by.ensures ∙ c.in-None.is)
