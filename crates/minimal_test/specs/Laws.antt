-- Laws of the verdicts, each of which a public function of this crate states as its contract.
use Rattle.std.specs.Prelude.{◌↔◌, List}
use Rattle.mg_word.specs.Facts.{ProblemData}
use Rattle.mg_word.specs.declared.lit.Lit.{Lit}
use Rattle.mg_meaning.specs.Satisfaction.{Satisfies}
use Rattle.mg_meaning.specs.Minimality.{IsMinimal}
use Rattle.minimal_test.specs.declared.verdict.Verdict.TheVariants.{Minimal, Smaller}
use Rattle.minimal_test.specs.Verdicts.{IsRight}

-- of a set that satisfies the problem the verdicts tell whether it is minimal
pub record VerdictsTellMinimality : Type 0 where
  pub minimal : (problem : ProblemData) (set : List Lit) → Satisfies set problem → IsRight problem set Minimal ↔ IsMinimal set problem
  pub smaller : (problem : ProblemData) (set part : List Lit) → IsRight problem set (Smaller part) → IsMinimal set problem → ⊥

-- no two verdicts of different kinds are right of one set
abbrev pub VerdictsExclude : Type 0
VerdictsExclude = (problem : ProblemData) (set part : List Lit) → IsRight problem set Minimal → IsRight problem set (Smaller part) → ⊥
