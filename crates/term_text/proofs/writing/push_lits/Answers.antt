use Rattle.std.proofs.Common.{length, ◌≤◌, arith}
use Rattle.mg_word.specs.Spelling.{spelled_lit}
use Rattle.term_text.proofs.Joined.{list_more, list_end}
use Rattle.term_text.proofs.writing.push_lits.Goals as goal

pub loop-i-preserved : goal.loop-i-preserved
loop-i-preserved c =
    rw (c.in_ok-push_lit.ensures, c.in_ok-push_comma.ensures)
    (list_more (spelled_lit c.args.symbols.now) c.args.lits.now c.loop-i.i c.index-lits-i.result c.args.into.now.items c.loop-i.into.items c.loop-i-test.true c.index-lits-i.is c.loop-i.invariant)

pub returns : goal.returns
returns c =
    let past : length c.args.lits.now ≤ c.loop-i.i = omega arith in
    rw c.in_ok-push-2.ensures.items (list_end (spelled_lit c.args.symbols.now) c.args.lits.now c.loop-i.i c.args.into.now.items c.loop-i.into.items past c.loop-i.invariant)
