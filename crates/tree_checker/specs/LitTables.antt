-- What the fields of a table of literals and of a trail stand for.
use Rattle.std.specs.Prelude.{◌≡◌, ℕ, ◌+◌, ◌≤◌, List, [], ◌∷◌, ◌==◌, map, length, if◌then◌else◌, slice_index_or}
use Rattle.mg_word.specs.declared.lit.Lit.{Lit}
use Rattle.tree_checker.specs.Indices.{lit_at, AreDifferent}
use Rattle.tree_checker.specs.Kept.{lit_of}
use Rattle.tree_checker.specs.declared.lit_table.LitTable.TheInside as table
use Rattle.tree_checker.specs.declared.trail.Trail.TheInside as trail

-- by the order of first entry
abbrev pub table_seen : table.Inside → List Lit
table_seen table = map lit_of table.lits.keys

-- no literal is there twice
abbrev pub IsTable : table.Inside → Type 0
IsTable table = AreDifferent (table_seen table)

-- how many times the number is there
abbrev pub times : ℕ → List ℕ → ℕ
times number [] = 0
times number (first ∷ numbers) = (if first == number then 1 else 0) + times number numbers

-- each number stands for its literal
abbrev pub trail_seen : trail.Inside → List Lit
trail_seen trail = map (lit_at trail.table) trail.numbers.items

-- each literal of the table is counted as often as it stands on the stack
abbrev pub IsTrail : trail.Inside → Type 0
IsTrail trail = (length trail.counts.items ≤ length trail.table) × ((number : ℕ) → slice_index_or trail.counts.items number 0 ≡ times number trail.numbers.items)
