use Rattle.std.proofs.Common.{◌≡◌, ◌+◌, ◌∷◌, drop, sym, ap, ◌∙◌, arith}
use Rattle.std.proofs.lemmas.Grind.{common_steps}
use Rattle.std.proofs.lemmas.List.{drop_more}
use Rattle.cnf_reader.specs.Drafts.{literal_seen}
use Rattle.cnf_reader.proofs.Growing.{literal_count}
use Rattle.cnf_reader.proofs.numbers.number_literals.Goals as goal

pub loop-literal-preserved : goal.loop-literal-preserved
loop-literal-preserved c = record {
  made = grind (arith, common_steps);
  table = grind (arith, common_steps);
  room =
      let literals = c.args.literals.now in
      let at = c.loop-literal.literal-index in
      let literal = c.literal-item.result in
      let split : drop at literals ≡ literal ∷ drop (at + 1) literals = drop_more literals at literal c.loop-literal-test.true ∙ ap (λ first. first ∷ drop (at + 1) literals) (sym c.literal-item.is) in
      let before = rw split at c.loop-literal.invariant.room in
      let added = literal_count c.loop-literal.symbols (literal_seen literal) in
      rw c.in_ok-number_literal.ensures.1 (omega (arith, before, added));
  right = grind (arith, common_steps);
}
