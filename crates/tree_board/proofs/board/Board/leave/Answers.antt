use Rattle.std.proofs.Common.{◌<◌, refl, subst, sym}
use Rattle.tree_board.proofs.AlongPaths.{may_leave, path_within}
use Rattle.tree_board.proofs.board.Board.leave.Goals as goal

pub parent_at-parent-requires : goal.parent_at-parent-requires
parent_at-parent-requires c = path_within _ _ c.self.view_is _ _ _ _ _ _ c.self.invariant _ c.as_slice-cells.ensures.value refl c.args.path.now c.requires.leads

pub pop-requires-clause-some : goal.pop-requires-clause-some
pop-requires-clause-some c = (may_leave _ _ c.self.view_is _ _ _ _ _ _ c.self.invariant _ c.as_slice-cells.ensures.value c.as_slice.ensures.value c.args.path.now c.requires.leads c.requires.below _ c.parent_at-parent.ensures _ c.earlier_at-earlier.ensures _ refl).some

pub pop-requires-clause-barred : goal.pop-requires-clause-barred
pop-requires-clause-barred c = (may_leave _ _ c.self.view_is _ _ _ _ _ _ c.self.invariant _ c.as_slice-cells.ensures.value c.as_slice.ensures.value c.args.path.now c.requires.leads c.requires.below _ c.parent_at-parent.ensures _ c.earlier_at-earlier.ensures _ refl).barred

pub pop-requires-clause-keys : goal.pop-requires-clause-keys
pop-requires-clause-keys c = (may_leave _ _ c.self.view_is _ _ _ _ _ _ c.self.invariant _ c.as_slice-cells.ensures.value c.as_slice.ensures.value c.args.path.now c.requires.leads c.requires.below _ c.parent_at-parent.ensures _ c.earlier_at-earlier.ensures _ refl).keys

pub returns-clause-leads : goal.returns-clause-leads
returns-clause-leads c = (may_leave _ _ c.self.view_is _ _ _ _ _ _ c.self.invariant _ c.as_slice-cells.ensures.value c.as_slice.ensures.value c.args.path.now c.requires.leads c.requires.below _ c.parent_at-parent.ensures _ c.earlier_at-earlier.ensures _ refl).leaves c.pop.new.self c.pop.ensures

pub returns-clause-up : goal.returns-clause-up
returns-clause-up c = subst (λ n. n < c.args.path.now.node) (sym c.pop.ensures.node) (may_leave _ _ c.self.view_is _ _ _ _ _ _ c.self.invariant _ c.as_slice-cells.ensures.value c.as_slice.ensures.value c.args.path.now c.requires.leads c.requires.below _ c.parent_at-parent.ensures _ c.earlier_at-earlier.ensures _ refl).up
