use Rattle.term_text.proofs.Verdicts.{lit_unknown, lit_heavy, lit_taken}
use Rattle.term_text.proofs.lits.add_lit.Goals as goal

pub returns-in-Unknown : goal.returns-in-Unknown
returns-in-Unknown c = λ table raw have is so. lit_unknown table have raw _ _ _ so (rw c.in-Unknown.is at is)

pub returns-in-Heavy : goal.returns-in-Heavy
returns-in-Heavy c = λ table raw have is so. let found = rw c.in-Heavy.is at is in lit_heavy table have raw _ _ _ so found.0 found.1

pub returns-in_ok-push-in-Lit : goal.returns-in_ok-push-in-Lit
returns-in_ok-push-in-Lit c = λ table raw have is so. let found = rw c.in-Lit.is at is in rw c.in_ok-push-in-Lit.ensures.items (lit_taken table have raw _ _ _ so c.in-Lit.lit found.0 found.1 found.2)
