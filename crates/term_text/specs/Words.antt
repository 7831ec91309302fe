-- Words over a table that may stand in a text.
use Rattle.std.specs.Prelude.{ℕ, ◌≤◌, List, length, All, IsTrue}
use Rattle.mg_word.specs.Table.{Symbol}
use Rattle.mg_word.specs.Words.{fits}
use Rattle.mg_word.specs.declared.lit.Lit.{Lit}

-- the most symbols of a word in a text
abbrev pub most_symbols : ℕ
most_symbols = 65536

-- the word fits the table, and is not too long
abbrev pub IsWordOf : List Symbol → List ℕ → Type 0
IsWordOf table word = IsTrue (fits table word) × (length word ≤ most_symbols)

-- the atom of each literal is a word of the table
abbrev pub AreLitsOf : List Symbol → List Lit → Type 0
AreLitsOf table lits = All (λ lit. IsWordOf table lit.word) lits
