use Rattle.std.proofs.Common.{ap}
use Rattle.proof_tree.specs.DocText.{tree_line}
use Rattle.proof_tree.proofs.Written.{doc_written, mapped_text}
use Rattle.proof_tree.proofs.writing.write_doc.Goals as goal

pub returns : goal.returns
returns c =
    let table = ap (λ p. p.symbols) c.problem.view_is in
    rw (c.in_ok-push_tree.ensures, c.in_ok-extend_from_slice-2.ensures.items, c.in_ok-push_blocks.ensures, c.in_ok-extend_from_slice.ensures.items, c.new-text.ensures.items, c.as_slice.ensures, c.as_slice-2.ensures, table, mapped_text c.args.problem.now tree_line c.args.doc.now.root)
    (doc_written c.args.problem.now c.args.doc.now.lemmas c.args.doc.now.root)
