use Rattle.std.proofs.Common.{ap, refl, ◌∙◌}
use Rattle.tree_board.specs.CellClimbs.{next_up}
use Rattle.tree_board.proofs.CellClimbing.{goes_on, reached_within, reaches_start, stops}
use Rattle.tree_board.proofs.cell_climb.go_up.Goals as goal

pub up-init : goal.up-init
up-init c = (λ lemmas owners size. reaches_start _ _ _ _ _, c.requires.few, refl)

pub close-requires-clause-there : goal.close-requires-clause-there
close-requires-clause-there c =
    let on = c.requires.some in
    let some = on.some in
    reached_within _ _ _ _ _ _ _ _ (c.up.invariant.0 on.lemmas on.owners on.size some.search some.board some.node some.closures some.facts some.is some.stand)

pub up-smaller : goal.up-smaller
up-smaller c =
    let on = c.requires.some in
    let some = on.some in
    let reached = c.up.invariant.0 on.lemmas on.owners on.size some.search some.board some.node some.closures some.facts some.is some.stand in
    (goes_on _ _ _ _ _ _ _ _ reached _ _ _ (c.in_ok-close.ensures.ok on.lemmas on.owners on.size) c.in-Some.parent (c.in-Some.ensures ∙ ap (λ all. next_up all c.up.at) c.as_slice.ensures.value)).1

pub up-preserved : goal.up-preserved
up-preserved c = (
  λ lemmas owners size search board node closures facts at stand.
      (goes_on _ _ _ _ _ _ _ _ (c.up.invariant.0 lemmas owners size search board node closures facts at stand) _ _ _ (c.in_ok-close.ensures.ok lemmas owners size) c.in-Some.parent (c.in-Some.ensures ∙ ap (λ all. next_up all c.up.at) c.as_slice.ensures.value)).0,
  c.in_ok-close.ensures.few,
  c.in_ok-close.ensures.cells ∙ c.up.invariant.2,
)

pub returns-in-None-clause-ok : goal.returns-in-None-clause-ok
returns-in-None-clause-ok c = λ lemmas owners size search board node closures facts at stand.
    stops _ _ _ _ _ _ _ _ (c.up.invariant.0 lemmas owners size search board node closures facts at stand) _ _ _ (c.in_ok-close.ensures.ok lemmas owners size) (c.in-None.ensures ∙ ap (λ all. next_up all c.up.at) c.as_slice.ensures.value)
