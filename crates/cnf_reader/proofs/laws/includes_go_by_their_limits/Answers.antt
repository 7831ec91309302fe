-- The laws are lemmas.
use Rattle.std.proofs.Common.{◌≡◌, ℕ, ◌<◌, ◌≤◌, true, false, nat_le, refl, arith}
use Rattle.std.proofs.lemmas.Bool.Decides.{nat_tests}
use Rattle.cnf_reader.proofs.Entered.{many_refused, deep_refused}
use Rattle.cnf_reader.proofs.laws.includes_go_by_their_limits.Goals as goal

many : (count : ℕ) → 256 ≤ count → nat_le 256 count ≡ true
many count more = grind (arith, nat_tests)

few : (count : ℕ) → count < 256 → nat_le 256 count ≡ false
few count less = grind (arith, nat_tests)

pub returns : goal.returns
returns c = record {
  levels = refl;
  bytes = refl;
  many = λ world root levels source asked kept more. many_refused world root source asked kept levels (many kept.includes more);
  deep = λ world root source asked kept less. deep_refused world root source asked kept (few kept.includes less);
}
