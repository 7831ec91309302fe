use Rattle.std.proofs.Common.{◌≡◌, ◌*◌, length, ap, ◌∙◌, arith}
use Rattle.sample_maker.proofs.Facts.{sample_is_input}
use Rattle.sample_maker.proofs.Lines.{are_on_lines}
use Rattle.sample_maker.proofs.Symbols.{are_numbered, length_symbols}
use Rattle.sample_maker.proofs.making.sample.Goals as goal

pub prove_eq-unreachable-requires : goal.prove_eq-unreachable-requires
prove_eq-unreachable-requires c = let held : length c.in_ok-symbols.symbols ≡ 2 * c.args.size = ap length c.in_ok-symbols.ensures ∙ length_symbols c.args.size in c.if-prove_eq.true (omega arith)

pub invariant_of-result : goal.invariant_of-result
invariant_of-result c =
    rw (c.in_ok-symbols.ensures, c.in_ok-files.ensures, c.in_ok-clauses.ensures)
    (sample_is_input c.args.size (omega arith) (omega arith) (rw (c.in_ok-symbols.ensures) at c.len.ensures.different))

pub returns-clause-numbers : goal.returns-clause-numbers
returns-clause-numbers c = rw c.in_ok-symbols.ensures (are_numbered c.args.size)

pub returns-clause-lines : goal.returns-clause-lines
returns-clause-lines c = rw c.in_ok-clauses.ensures (are_on_lines c.args.size (omega arith))
