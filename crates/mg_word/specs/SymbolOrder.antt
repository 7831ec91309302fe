-- The order of symbols, which is total and tells different ones apart, and what a sorted table has.
use Rattle.std.specs.Prelude.{◌≡◌, ℕ, ◌<◌, List, length, slice_get, slice_index, IsPermutation, IsSorted}
use Rattle.std.specs.declared.cmp.Ordering.{Ordering}
use Rattle.std.specs.Ordering.{nat_cmp, on, then_cmp}
use Rattle.std.specs.Cmp.Lexicographic.{slice_cmp}
use Rattle.mg_word.specs.Table.{Symbol}
use Rattle.mg_word.specs.declared.symbol.Kind.{Kind}
use Rattle.mg_word.specs.declared.symbol.Kind.TheVariants.{Word, Integer, Distinct}

-- the place of a kind: words before numbers before texts
abbrev pub kind_rank : Kind → ℕ
kind_rank Word = 0
kind_rank Integer = 1
kind_rank Distinct = 2

-- by name as bytes, a prefix first; then by arity; then by kind
abbrev pub symbol_cmp : Symbol → Symbol → Ordering
symbol_cmp = then_cmp (on (λ symbol. symbol.name) (slice_cmp nat_cmp)) (then_cmp (on (λ symbol. symbol.arity) nat_cmp) (on (λ symbol. kind_rank symbol.kind) nat_cmp))

-- for each symbol of a table, its number in another table
pub record IsRenumbering (before after : List Symbol) (numbers : List ℕ) : Type 0 where
  pub each_once : length numbers ≡ length before
  pub same : (id : ℕ) → id < length before → slice_get after (slice_index numbers id) ≡ slice_get before id

-- the symbols of a table in order, with their new numbers
pub record IsSortedTable (before after : List Symbol) (numbers : List ℕ) : Type 0 where
  pub ordered : IsSorted symbol_cmp after
  pub permuted : IsPermutation before after
  pub renumbered : IsRenumbering before after numbers
