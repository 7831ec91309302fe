use Rattle.std.proofs.Common.{sym, subst, ◌∙◌}
use Rattle.tree_board.specs.Searches.{board_of}
use Rattle.board_tree.specs.Writing.{Writes}
use Rattle.board_tree.proofs.Written.{name_now, unnamed_within, on_ok}
use Rattle.board_tree.proofs.lines.write_node.Goals as goal

pub returns-in_default : goal.returns-in_default
returns-in_default c =
    on_ok (subst (λ lines. Writes (board_of c.args.board.now) lines c.args.written.now.items c.args.waiting.now.items c.write_in_place.new.written.items c.write_in_place.new.waiting.items) (unnamed_within c.args.board.now c.requires.refuted c.args.node (sym c.in_default.is ∙ c.name_at.ensures))) c.write_in_place.result c.write_in_place.ensures

pub returns : goal.returns
returns c = name_now c.args.board.now c.requires.refuted c.args.node c.in-Some.new c.args.written.now.items c.push.new.self.items c.args.waiting.now.items (sym c.in-Some.is ∙ c.name_at.ensures) c.in_ok-push.ensures.items
