-- The laws are lemmas.
use Rattle.std.proofs.Common.{refl, ◌++◌}
use Rattle.cnf_reader.specs.Keeping.{with_literals}
use Rattle.cnf_reader.proofs.StandingFor.{literals_stand}
use Rattle.cnf_reader.proofs.Ordering.{later_literals, later_items}
use Rattle.cnf_reader.proofs.Occurring.{goes_on, different_literals}
use Rattle.cnf_reader.proofs.laws.numbers_stand_for_their_symbols.Goals as goal

pub returns : goal.returns
returns c = record {
  meaning = λ table more literals. literals_stand (with_literals table literals ++ more) more literals table refl;
  grown = goes_on;
  different = λ table literals. different_literals literals table;
  literals_in_order = later_literals;
  items_in_order = later_items;
}
