use Rattle.minimal_test.proofs.laws.verdicts_tell_minimality.Goals as goal

pub returns : goal.returns
returns c = record {
  minimal = λ problem set satisfied. (
    (λ right. record { satisfying = satisfied; least = λ part proper satisfying. right part (record { proper = proper; satisfying = satisfying }) }),
    (λ minimal part is. minimal.least part is.proper is.satisfying),
  );
  smaller = λ problem set part right minimal. minimal.least part right.proper right.satisfying;
}
