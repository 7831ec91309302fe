use Rattle.std.proofs.Common.{◌≡◌, sym, ap, ◌∙◌, true, nat_eq, length, vec_len, arith}
use Rattle.mg_word.specs.Facts.{ProblemData}
use Rattle.mg_word.specs.Sets.{is_clash_free}
use Rattle.mg_meaning.specs.Instances.{are_literals}
use Rattle.mg_meaning.proofs.Answering.{satisfying_test}
use Rattle.mg_meaning.proofs.satisfying.is_satisfying.Goals as goal

pub returns : goal.returns
returns c =
    let free : is_clash_free c.args.set.now ≡ true = grind (arith, c.is_without_clash.ensures, c.if-not-is_without_clash.false) in
    let fine : are_literals c.args.problem.now.symbols c.args.set.now ≡ true =
    ap (λ (problem : ProblemData). are_literals problem.symbols c.args.set.now) (sym c.problem.view_is) ∙ grind (arith, c.all_fit.ensures, c.if-not-all_fit.false) in
    let count : vec_len c.in_ok-insts.insts ≡ length c.in_ok-insts.insts.items = omega arith in
    satisfying_test c.args.problem.now c.args.set.now c.in_ok-insts.insts.items c.is_empty.result c.in_ok-insts.ensures.exact free fine (c.is_empty.ensures ∙ ap (λ n. nat_eq n 0) count)
