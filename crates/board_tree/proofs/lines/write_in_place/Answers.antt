use Rattle.board_tree.proofs.Written.{place_now, on_ok}
use Rattle.board_tree.proofs.lines.write_in_place.Goals as goal

pub returns : goal.returns
returns c =
    on_ok (λ kids. place_now c.args.board.now c.requires.refuted c.args.node c.in_ok-line_at.field-0 c.args.written.now.items c.push.new.self.items c.args.waiting.now.items c.push_kids.new.waiting.items c.in_ok-line_at.ensures c.in_ok-push.ensures.items kids) c.push_kids.result c.push_kids.ensures
