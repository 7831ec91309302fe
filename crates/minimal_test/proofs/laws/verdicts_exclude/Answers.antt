use Rattle.minimal_test.proofs.laws.verdicts_exclude.Goals as goal

pub returns : goal.returns
returns c = λ problem set part none is. none part is
