-- What the test of a set may answer.
use Rattle.std.specs.Prelude.{List}
use Rattle.mg_word.specs.Facts.{ProblemData}
use Rattle.mg_word.specs.declared.lit.Lit.{Lit}
use Rattle.mg_meaning.specs.Parts.{IsSmaller}
use Rattle.minimal_test.specs.declared.verdict.Verdict.{Verdict}
use Rattle.minimal_test.specs.declared.verdict.Verdict.TheVariants.{Minimal, Smaller}

-- `Minimal` is right where no proper part of the set satisfies the problem, and a part where it is a proper part that does
abbrev pub IsRight : ProblemData → List Lit → Verdict → Type 0
IsRight problem set Minimal = (part : List Lit) → IsSmaller problem set part → ⊥
IsRight problem set (Smaller part) = IsSmaller problem set part
