use Rattle.model_lister.proofs.KeptSets.{minimal_is_least, smaller_is_not}
use Rattle.model_lister.proofs.minimal.is_minimal.Goals as goal
use Rattle.model_lister.proofs.minimal.is_minimal.Goals.{in-Minimal, in-Smaller}

pub returns-clause-answer : goal.returns-clause-answer
returns-clause-answer c =
    let problem = c.args.tester.now in
    elim c.match-branch-2.branch [
      | in-Minimal w ↦ rw w.result-is (minimal_is_least problem c.requires.problem c.args.set.now c.requires.satisfies (rw w.in-Minimal.is at c.in_ok-test.ensures.verdict))
      | in-Smaller w ↦ rw w.result-is (smaller_is_not problem c.requires.problem c.args.set.now w.in-Smaller.field-0 c.requires.satisfies (rw w.in-Smaller.is at c.in_ok-test.ensures.verdict))
    ]
