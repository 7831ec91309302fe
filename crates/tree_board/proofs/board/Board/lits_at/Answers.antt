use Rattle.std.proofs.Common.{sym, ap, subst, ◌∙◌}
use Rattle.std.specs.Option.{option_copied}
use Rattle.tree_board.specs.Searches.{board_of}
use Rattle.tree_board.proofs.Ways.{IsOnWay, seen_ends, seen_goes, seen_within, way_starts}
use Rattle.tree_board.proofs.board.Board.lits_at.Goals as goal

pub up-init : goal.up-init
up-init c = subst (IsOnWay (board_of c.args.self.now).nodes c.args.node c.args.node) (sym c.new-lits.ensures.items) (way_starts _ _ c.requires)

pub parent_at-at-requires : goal.parent_at-at-requires
parent_at-at-requires c = seen_within _ _ c.self.view_is _ _ _ _ _ _ c.self.invariant _ c.as_slice-cells.ensures.value c.as_slice-journal.ensures.value _ _ _ c.up.invariant

pub up-smaller : goal.up-smaller
up-smaller c = (seen_goes _ _ c.self.view_is _ _ _ _ _ _ c.self.invariant _ c.as_slice-cells.ensures.value c.as_slice-journal.ensures.value _ _ _ c.up.invariant _ c.in-Some.ensures _ c.parent_at-at.ensures _ c.in_ok-copy.ensures _ c.in_ok-push.ensures.items).1

pub up-preserved : goal.up-preserved
up-preserved c = (seen_goes _ _ c.self.view_is _ _ _ _ _ _ c.self.invariant _ c.as_slice-cells.ensures.value c.as_slice-journal.ensures.value _ _ _ c.up.invariant _ c.in-Some.ensures _ c.parent_at-at.ensures _ c.in_ok-copy.ensures _ c.in_ok-push.ensures.items).0

pub returns : goal.returns
returns c = seen_ends _ _ c.self.view_is _ _ _ _ _ _ c.self.invariant _ c.as_slice-cells.ensures.value c.as_slice-journal.ensures.value _ _ _ c.up.invariant (ap option_copied (sym c.in_default.is) ∙ c.literal_at.ensures) _ c.reverse.ensures.items
