use Rattle.std.proofs.Common.{◌≡◌, ◌++◌, map, take}
use Rattle.mg_word.specs.Spelling.{spelled}
use Rattle.proof_tree.specs.DocLines.{line_text, ended}
use Rattle.proof_tree.specs.DocText.{tree_line}
use Rattle.proof_tree.proofs.writing.push_tree.Given as goal

abbrev pub invariant-loop-line : goal.invariant-loop-line
invariant-loop-line l = l.into.items ≡ l.fn.into.items ++ ended (map (λ line. line_text (spelled l.symbols) (tree_line line)) (take l.line-index l.lines))
