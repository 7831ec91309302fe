use Rattle.mg_word.specs.Spelling.{spelled}
use Rattle.proof_tree.specs.DocLines.{line_text}
use Rattle.proof_tree.specs.DocText.{tree_line}
use Rattle.proof_tree.proofs.Written.{lines_more}
use Rattle.proof_tree.proofs.writing.push_tree.Goals as goal

pub loop-line-preserved : goal.loop-line-preserved
loop-line-preserved c =
    rw c.in_ok-push_line.ensures
    (lines_more (λ line. line_text (spelled c.args.symbols.now) (tree_line line)) c.args.lines.now c.loop-line.line-index c.line-item.result c.args.into.now.items c.loop-line.into.items c.loop-line-test.true c.line-item.is c.loop-line.invariant)
