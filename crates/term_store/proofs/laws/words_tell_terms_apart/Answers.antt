use Rattle.term_store.proofs.TableTerms.{over_fits, same_number}
use Rattle.term_store.proofs.laws.words_tell_terms_apart.Goals as goal

pub returns : goal.returns
returns c = record {
  fitting = λ table terms number store is. over_fits table terms number store is;
  apart = λ table terms a b store one two same. same_number table terms a b store one two same;
}
