-- The sample problem of a size: `ai` or `bi` for each `i` up to the size, and no two neighbouring `a`.
use Rattle.std.specs.Prelude.{ℕ, ◌+◌, ◌-◌, ◌*◌, ◌/◌, ◌%◌, ◌<◌, ◌≤◌, ◌≡◌, ◌⊎◌, true, false, List, [], ◌∷◌, ◌++◌, map, length, slice_get, Some, codes}
use Rattle.std.specs.List.{flat_map, range_with_len}
use Rattle.mg_word.specs.Facts.{InputData}
use Rattle.mg_word.specs.Table.{Symbol, symbol_of}
use Rattle.mg_word.specs.declared.symbol.Kind.TheVariants.{Word}
use Rattle.mg_word.specs.declared.item.Item.TheVariants.{Sym}
use Rattle.mg_word.specs.declared.clause.ClauseLit.{ClauseLit}
use Rattle.mg_word.specs.declared.clause.ClauseLit.TheVariants.{Lit as Literal}
use Rattle.mg_word.specs.declared.clause.Clause.{Clause}
use Rattle.mg_word.specs.declared.clause.Place.{Place}
use Rattle.sample_maker.specs.declared.limits.TheConstants.{LEAST_SIZE, MOST_SIZE}

-- there is a sample of the size
abbrev pub HasSample : ℕ → Type 0
HasSample size = (LEAST_SIZE ≤ size) × (size ≤ MOST_SIZE)

-- there is no sample of the size
abbrev pub IsOutOfRange : ℕ → Type 0
IsOutOfRange size = (size < LEAST_SIZE) ⊎ (MOST_SIZE < size)

-- the numbers from 1 to the last
abbrev pub up_to : ℕ → List ℕ
up_to last = range_with_len 1 last

-- a letter and a number in two digits, as `a01`
abbrev pub numbered : List ℕ → ℕ → List ℕ
numbered letter number = letter ++ (48 + number / 10) ∷ (48 + number % 10) ∷ []

-- the symbol of that letter and number, which has no arguments
abbrev pub symbol : List ℕ → ℕ → Symbol
symbol letter i = symbol_of (numbered letter i) 0 Word

-- `ai` and `bi`
abbrev pub both : ℕ → List Symbol
both i = symbol (codes "a") i ∷ symbol (codes "b") i ∷ []

-- `a01`, `b01`, `a02`, `b02` and so on
abbrev pub sample_symbols : ℕ → List Symbol
sample_symbols size = flat_map both (up_to size)

-- where `ai` and `bi` are among these, from 0
abbrev pub number_of_a : ℕ → ℕ
number_of_a i = 2 * (i - 1)

abbrev pub number_of_b : ℕ → ℕ
number_of_b i = 2 * (i - 1) + 1

-- each symbol up to the size stands at its number
pub record AreNumbered (size : ℕ) (table : List Symbol) : Type 0 where
  pub each_a : (i : ℕ) → 1 ≤ i → i ≤ size → slice_get table (number_of_a i) ≡ Some (symbol (codes "a") i)
  pub each_b : (i : ℕ) → 1 ≤ i → i ≤ size → slice_get table (number_of_b i) ≡ Some (symbol (codes "b") i)

-- the symbol with that number as an atom, and its negation
abbrev pub atom : ℕ → ClauseLit
atom number = Literal (record { negative = false; pattern = Sym number ∷ [] })

abbrev pub negated : ℕ → ClauseLit
negated number = Literal (record { negative = true; pattern = Sym number ∷ [] })

-- the clause of that name, alone on its line
abbrev pub clause_on : ℕ → List ℕ → List ClauseLit → Clause
clause_on line name literals = record {
  name = record { kind = Word; text = name };
  place = record { file = 0; line = line; column = 1 };
  literals = literals;
  variables = [];
  conclude = [];
}

-- `ai|bi` with the name `ci`
abbrev pub choice : ℕ → Clause
choice i = clause_on i (numbered (codes "c") i) (atom (number_of_a i) ∷ atom (number_of_b i) ∷ [])

-- `~ai|~aj`, where `j` is one more, with the name `di`, behind the choices
abbrev pub neighbours : ℕ → ℕ → Clause
neighbours size i = clause_on (size + i) (numbered (codes "d") i) (negated (number_of_a i) ∷ negated (number_of_a (i + 1)) ∷ [])

-- a choice for each number up to the size, then neighbours for each but the last
abbrev pub sample_clauses : ℕ → List Clause
sample_clauses size = map choice (up_to size) ++ map (neighbours size) (up_to (size - 1))

-- the start of a line of the first file
abbrev pub start_of : ℕ → Place
start_of line = record { file = 0; line = line; column = 1 }

-- each clause begins a line of its own, from the first line on and with none left out
abbrev pub AreOnLines : List Clause → Type 0
AreOnLines clauses = map (λ clause. clause.place) clauses ≡ map start_of (up_to (length clauses))

-- the input, of one file
abbrev pub sample_input : ℕ → InputData
sample_input size = record { symbols = sample_symbols size; files = codes "sample" ∷ []; clauses = sample_clauses size }
