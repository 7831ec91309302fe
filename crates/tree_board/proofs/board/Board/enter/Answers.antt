use Rattle.std.proofs.Common.{ap, sym, ◌∙◌}
use Rattle.std.specs.Option.{option_copied}
use Rattle.tree_board.proofs.AlongPaths.{literal_there, may_enter, ok_then}
use Rattle.tree_board.proofs.board.Board.enter.Goals as goal

pub returns-in_default-clause-node : goal.returns-in_default-clause-node
returns-in_default-clause-node c =
    absurd (literal_there _ _ c.self.view_is _ _ _ _ _ _ c.self.invariant _ c.as_slice-cells.ensures.value c.as_slice-journal.ensures.value c.args.path.now c.requires.leads c.args.child c.requires.child (sym (ap option_copied (sym c.in_default.is) ∙ c.literal_at.ensures)))

pub push-requires : goal.push-requires
push-requires c = (may_enter _ _ c.self.view_is _ _ _ _ _ _ c.self.invariant _ c.as_slice-cells.ensures.value c.as_slice-journal.ensures.value c.args.path.now c.requires.leads c.args.child c.requires.child c.requires.unshut _ c.in-Some.ensures _ c.earlier_at-earlier.ensures).can

pub returns-clause-leads : goal.returns-clause-leads
returns-clause-leads c = ok_then c.push.result _ _ (λ entered. (may_enter _ _ c.self.view_is _ _ _ _ _ _ c.self.invariant _ c.as_slice-cells.ensures.value c.as_slice-journal.ensures.value c.args.path.now c.requires.leads c.args.child c.requires.child c.requires.unshut _ c.in-Some.ensures _ c.earlier_at-earlier.ensures).enters c.push.new.self entered) c.push.ensures

pub returns-clause-node : goal.returns-clause-node
returns-clause-node c = ok_then c.push.result _ _ (λ entered. entered.node) c.push.ensures
