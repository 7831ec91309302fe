use Rattle.std.proofs.Common.{◌<◌, arith, refl}
use Rattle.tree_board.proofs.AlongPaths.{meets_more, meets_none, met_within}
use Rattle.tree_board.proofs.board.Board.go_up.Goals as goal

pub up-init : goal.up-init
up-init c = (c.requires.leads, meets_none _ _ c.requires.there _ c.new-met.ensures.items)

pub parent_at-at-requires : goal.parent_at-at-requires
parent_at-at-requires c = met_within _ _ c.self.view_is _ _ _ _ _ _ c.self.invariant _ c.as_slice.ensures.value refl _ _ _ c.up.invariant.1

pub up-smaller : goal.up-smaller
up-smaller c =
    let high : 0 < c.up.at = omega arith in
    let below = (meets_more _ _ c.self.view_is _ _ _ _ _ _ c.self.invariant _ c.as_slice.ensures.value refl _ _ _ c.up.invariant.1 high _ c.parent_at-at.ensures _ c.in_ok-push.ensures.items).1 in
    omega (arith, below)

pub up-preserved : goal.up-preserved
up-preserved c =
    let high : 0 < c.up.at = omega arith in
    (c.up.invariant.0, (meets_more _ _ c.self.view_is _ _ _ _ _ _ c.self.invariant _ c.as_slice.ensures.value refl _ _ _ c.up.invariant.1 high _ c.parent_at-at.ensures _ c.in_ok-push.ensures.items).0)
