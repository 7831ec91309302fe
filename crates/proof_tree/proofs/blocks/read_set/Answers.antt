use Rattle.std.proofs.Common.{◌≡◌, true, subst}
use Rattle.std.specs.List.{list_all}
use Rattle.mg_word.specs.Facts.{is_symbol}
use Rattle.term_text.specs.Lists.{AreLitsRead}
use Rattle.proof_tree.proofs.SetLines.{no_bracket, no_lits, set_found}
use Rattle.proof_tree.proofs.blocks.read_set.Goals as goal

pub returns-in_default-strip : goal.returns-in_default-strip
returns-in_default-strip c =
    let named : list_all is_symbol c.args.problem.now.symbols ≡ true = subst (λ p. list_all is_symbol p.symbols ≡ true) c.problem.view_is c.problem.invariant.input.named in
    no_bracket c.args.problem.now.symbols named c.args.word.now c.args.line.now c.in-Some.behind.now c.in-Some.ensures c.in_default-strip.ensures

pub returns-in_default-2 : goal.returns-in_default-2
returns-in_default-2 c =
    let named : list_all is_symbol c.args.problem.now.symbols ≡ true = subst (λ p. list_all is_symbol p.symbols ≡ true) c.problem.view_is c.problem.invariant.input.named in
    no_lits c.args.problem.now.symbols named c.args.word.now c.args.line.now c.in-Some.behind.now c.in-Some.ensures c.in-Some-strip.items.now c.in-Some-strip.ensures (rw c.in_default-2.is at c.in_ok-list.ensures)

pub returns : goal.returns
returns c =
    let named : list_all is_symbol c.args.problem.now.symbols ≡ true = subst (λ p. list_all is_symbol p.symbols ≡ true) c.problem.view_is c.problem.invariant.input.named in
    let read = rw c.in-Some-2.is at c.in_ok-list.ensures in
    set_found c.args.problem.now.symbols named c.args.word.now c.args.line.now c.in-Some.behind.now c.in-Some.ensures c.in-Some-strip.items.now c.in-Some-strip.ensures c.in-Some-2.list.lits.items c.in-Some-2.list.has_unknown c.in-Some-2.list.has_heavy
    (subst (λ p. AreLitsRead p.symbols c.in-Some-strip.items.now c.in-Some-2.list.lits.items c.in-Some-2.list.has_unknown c.in-Some-2.list.has_heavy) c.problem.view_is read) c.set_of.result c.set_of.ensures
