use Rattle.std.proofs.Common.{◌≡◌, ◌≤◌, ◌+◌, ◌-◌, length, Err, arith, refl, ap, inl, subst, ◌∙◌}
use Rattle.std.proofs.lemmas.List.{take_all}
use Rattle.std.proofs.lemmas.Option.{slice_get_read}
use Rattle.mg_word.specs.Forms.{forms_of}
use Rattle.tree_checker.specs.Docs.{IsBlock, lines_before}
use Rattle.mg_meaning.proofs.Lists.{All-at}
use Rattle.tree_checker.proofs.Blocks.{block_line, block_room, BlocksClose-more, verdict_at_end, exact_at_end}
use Rattle.tree_checker.proofs.Refuting.{refuted_at_end}
use Rattle.tree_checker.proofs.check.check_doc.Goals as goal

pub check_tree-requires-clause-known : goal.check_tree-requires-clause-known
check_tree-requires-clause-known c =
    let at = slice_get_read c.as_slice-blocks.result.now (length c.as_slice-blocks.result.now) c.loop-j.j c.index-blocks-j.result refl c.loop-j-test.true c.index-blocks-j.is in
    let is = All-at (IsBlock c.args.problem.now) c.args.doc.now.lemmas c.loop-j.j c.index-blocks-j.result c.requires.blocks (rw (← c.as_slice-blocks.ensures) at) in
    let forms = c.as_slice-forms.ensures ∙ ap (λ p. p.forms) c.problem.view_is in
    rw (forms, c.as_slice-lines.ensures) is.lines.known

pub check_tree-requires-clause-tree : goal.check_tree-requires-clause-tree
check_tree-requires-clause-tree c =
    let at = slice_get_read c.as_slice-blocks.result.now (length c.as_slice-blocks.result.now) c.loop-j.j c.index-blocks-j.result refl c.loop-j-test.true c.index-blocks-j.is in
    let is = All-at (IsBlock c.args.problem.now) c.args.doc.now.lemmas c.loop-j.j c.index-blocks-j.result c.requires.blocks (rw (← c.as_slice-blocks.ensures) at) in
    let forms = c.as_slice-forms.ensures ∙ ap (λ p. p.forms) c.problem.view_is in
    rw (forms, c.as_slice-lines.ensures) is.lines.tree

pub check_tree-requires-clause-short : goal.check_tree-requires-clause-short
check_tree-requires-clause-short c =
    let room = block_room c.as_slice-blocks.result.now c.loop-j.j c.index-blocks-j.result c.loop-j-test.true c.index-blocks-j.is in
    let same = ap lines_before c.as_slice-blocks.ensures in
    let long = ap length c.as_slice-lines.ensures in
    omega (arith, room, same, long, c.loop-j.invariant.line)

pub overflow_add-done : goal.overflow_add-done
overflow_add-done c =
    let room = block_room c.as_slice-blocks.result.now c.loop-j.j c.index-blocks-j.result c.loop-j-test.true c.index-blocks-j.is in
    let same = ap lines_before c.as_slice-blocks.ensures in
    omega (arith, room, same, c.loop-j.invariant.line)

pub overflow_add-done-in-loop-j : goal.overflow_add-done-in-loop-j
overflow_add-done-in-loop-j c =
    let room = block_room c.as_slice-blocks.result.now c.loop-j.j c.index-blocks-j.result c.loop-j-test.true c.index-blocks-j.is in
    let same = ap lines_before c.as_slice-blocks.ensures in
    omega (arith, room, same, c.loop-j.invariant.line)

pub overflow_add-done-in-loop-j-3 : goal.overflow_add-done-in-loop-j-3
overflow_add-done-in-loop-j-3 c =
    let room = block_room c.as_slice-blocks.result.now c.loop-j.j c.index-blocks-j.result c.loop-j-test.true c.index-blocks-j.is in
    let same = ap lines_before c.as_slice-blocks.ensures in
    let long = ap length c.as_slice-lines.ensures in
    omega (arith, room, same, long, c.loop-j.invariant.line)

pub loop-j-preserved : goal.loop-j-preserved
loop-j-preserved c =
    let at = slice_get_read c.as_slice-blocks.result.now (length c.as_slice-blocks.result.now) c.loop-j.j c.index-blocks-j.result refl c.loop-j-test.true c.index-blocks-j.is in
    let line = block_line c.as_slice-blocks.result.now c.loop-j.j c.index-blocks-j.result c.loop-j-test.true c.index-blocks-j.is in
    let long = ap length c.as_slice-lines.ensures in
    let closes = rw (c.before-in-loop-j.ensures, c.as_slice-held.ensures.same, c.as_slice-barred.ensures.same, c.as_slice-lines.ensures) at c.in-Ok.ensures in
    record {
      before = BlocksClose-more c.as_slice-forms.result.now c.as_slice-blocks.result.now c.loop-j.j c.index-blocks-j.result at c.loop-j.invariant.before closes;
      line = omega (arith, line, long, c.loop-j.invariant.line);
    }

pub returns-in-Err-clause-verdict : goal.returns-in-Err-clause-verdict
returns-in-Err-clause-verdict c =
    let at = slice_get_read c.as_slice-blocks.result.now (length c.as_slice-blocks.result.now) c.loop-j.j c.index-blocks-j.result refl c.loop-j-test.true c.index-blocks-j.is in
    let forms = c.as_slice-forms.ensures ∙ ap (λ p. p.forms) c.problem.view_is in
    let rejects = rw (c.before-in-loop-j.ensures, c.as_slice-held.ensures.same, c.as_slice-barred.ensures.same, c.as_slice-lines.ensures, c.loop-j.invariant.line) at c.in-Err.ensures in
    inl (record {
      at = c.loop-j.j;
      block = c.index-blocks-j.result;
      block_is = rw (← c.as_slice-blocks.ensures) at;
      before = rw (forms, c.as_slice-blocks.ensures) at c.loop-j.invariant.before;
      rejects = rw (forms, c.as_slice-blocks.ensures) at rejects;
    })

pub returns-clause-verdict : goal.returns-clause-verdict
returns-clause-verdict c =
    let past : length c.as_slice-blocks.result.now ≤ c.loop-j.j = omega arith in
    let whole = take_all c.loop-j.j c.as_slice-blocks.result.now past in
    let long = ap length c.as_slice-blocks.ensures in
    let forms = c.as_slice-forms.ensures ∙ ap (λ p. p.forms) c.problem.view_is in
    let line : c.loop-j.done + 1 + 1 ≡ lines_before c.args.doc.now.lemmas + 1 + 1 =
    let is = ap lines_before (whole ∙ c.as_slice-blocks.ensures) in omega (arith, c.loop-j.invariant.line, is) in
    let before = rw (forms, c.as_slice-blocks.ensures) at c.loop-j.invariant.before in
    verdict_at_end c.args.problem.now c.args.doc.now (c.loop-j.done + 1 + 1) c.check_tree-2.result
    (λ k block small at. before k block (omega (arith, past, long, small)) at) line
    (rw (forms, c.as_slice-blocks.ensures, c.as_slice.ensures) at c.check_tree-2.ensures)

pub returns-clause-refuted : goal.returns-clause-refuted
returns-clause-refuted c =
    refuted_at_end c.args.problem.now (subst (λ p. p.forms ≡ forms_of p.clauses) c.problem.view_is c.problem.invariant.formed) c.args.doc.now c.check_tree-2.result c.requires (returns-clause-verdict c)

pub returns-clause-exact : goal.returns-clause-exact
returns-clause-exact c = exact_at_end c.args.problem.now c.args.doc.now c.check_tree-2.result (returns-clause-verdict c)

pub returns-in-Err-clause-exact : goal.returns-in-Err-clause-exact
returns-in-Err-clause-exact c = exact_at_end c.args.problem.now c.args.doc.now (Err c.in-Err.reject) (returns-in-Err-clause-verdict c)
