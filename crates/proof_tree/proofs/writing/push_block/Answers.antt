use Rattle.std.proofs.Common.{map, ap}
use Rattle.std.specs.Fmt.{decimal}
use Rattle.mg_word.specs.Spelling.{spelled}
use Rattle.term_text.specs.Brackets.{listed}
use Rattle.term_text.specs.Lits.{lit_text}
use Rattle.proof_tree.specs.DocText.{lit_in_line, tree_line, text_of}
use Rattle.proof_tree.proofs.Written.{block_written, lits_written, mapped_text}
use Rattle.proof_tree.proofs.writing.push_block.Goals as goal

pub returns : goal.returns
returns c =
    let table = ap (λ p. p.symbols) c.problem.view_is in
    let problem = c.args.problem.now in
    let block = c.args.block.now in
    rw (
      c.in_ok-push_tree.ensures,
      c.in_ok-push.ensures.items,
      c.in_ok-push_lits-2.ensures,
      c.in_ok-extend_from_slice-3.ensures.items,
      c.in_ok-push_lits.ensures,
      c.in_ok-extend_from_slice-2.ensures.items,
      c.in_ok-push_number.ensures,
      c.in_ok-extend_from_slice.ensures.items,
      c.as_slice.ensures.same,
      c.as_slice-2.ensures.same,
      c.as_slice-3.ensures,
      table,
      lits_written problem block.inside,
      lits_written problem block.outside,
      mapped_text problem tree_line block.tree,
    )
    (block_written c.args.into.now.items (decimal c.args.number) (listed (map (lit_text (spelled problem.symbols)) (map lit_in_line block.inside))) (listed (map (lit_text (spelled problem.symbols)) (map lit_in_line block.outside))) (text_of problem (map tree_line block.tree)))
