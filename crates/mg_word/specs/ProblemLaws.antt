-- What follows from the facts that a problem keeps.
use Rattle.std.specs.Prelude.{◌≡◌, ℕ, Some, slice_get}
use Rattle.std.specs.Ordering.{nat_cmp}
use Rattle.mg_word.specs.Table.{Symbol}
use Rattle.mg_word.specs.SymbolOrder.{symbol_cmp}
use Rattle.mg_word.specs.Facts.{ProblemData, IsProblem}

-- the numbers of a problem's symbols compare as the symbols themselves
abbrev pub NumbersAreInSymbolOrder : Type 0
NumbersAreInSymbolOrder = (problem : ProblemData) → IsProblem problem → (i j : ℕ) (a b : Symbol)
    → slice_get problem.symbols i ≡ Some a → slice_get problem.symbols j ≡ Some b → nat_cmp i j ≡ symbol_cmp a b
