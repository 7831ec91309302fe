use Rattle.std.proofs.Common.{◌≡◌, true, subst}
use Rattle.std.specs.List.{list_all}
use Rattle.mg_word.specs.Facts.{is_symbol}
use Rattle.term_text.specs.Lists.{IsLitRead}
use Rattle.term_text.specs.declared.lits.FoundLit.TheVariants.{Heavy, Lit as OneLit}
use Rattle.proof_tree.proofs.NodeLines.{lit_spelled}
use Rattle.proof_tree.proofs.nodes.lit_of.Goals as goal

pub returns-in-Some-Heavy : goal.returns-in-Some-Heavy
returns-in-Some-Heavy c =
    let read = rw (c.in-Some-Heavy.is, c.in-Some-Heavy.field-0-is) at c.in_ok-read_lit.ensures in
    let found = subst (λ p. IsLitRead p.symbols c.args.text.now Heavy) c.problem.view_is read in
    (found.raw, found.own, found.text, found.is.0, found.is.1)

pub returns-in-Some-Lit : goal.returns-in-Some-Lit
returns-in-Some-Lit c =
    let named : list_all is_symbol c.args.problem.now.symbols ≡ true = subst (λ p. list_all is_symbol p.symbols ≡ true) c.problem.view_is c.problem.invariant.input.named in
    let read = rw (c.in-Some-Lit.is, c.in-Some-Lit.field-0-is) at c.in_ok-read_lit.ensures in
    let found = subst (λ p. IsLitRead p.symbols c.args.text.now (OneLit c.in-Some-Lit.lit)) c.problem.view_is read in
    lit_spelled c.args.problem.now.symbols named c.args.text.now c.in-Some-Lit.lit found.raw found.own found.text found.is.1 found.is.2
