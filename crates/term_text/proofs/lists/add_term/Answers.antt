use Rattle.term_text.proofs.Verdicts.{verdict_unknown, verdict_heavy, verdict_taken}
use Rattle.term_text.proofs.lists.add_term.Goals as goal

pub returns-in-Unknown : goal.returns-in-Unknown
returns-in-Unknown c = λ table term have is so. verdict_unknown table have term _ _ _ so (rw c.in-Unknown.is at is)

pub returns-in-Heavy : goal.returns-in-Heavy
returns-in-Heavy c = λ table term have is so. let found = rw c.in-Heavy.is at is in verdict_heavy table have term _ _ _ so found.0 found.1

pub returns-in_ok-push-in-Word : goal.returns-in_ok-push-in-Word
returns-in_ok-push-in-Word c = λ table term have is so. let found = rw c.in-Word.is at is in rw c.in_ok-push-in-Word.ensures.ok (verdict_taken table have term _ _ _ so c.in-Word.word found.0 found.1 found.2)
