-- Terms by their own symbols, which may be in no table, and what is looked up of them.
use Rattle.std.specs.Prelude.{◌≡◌, ℕ, zero, suc, ◌+◌, ◌<◌, ◌≤◌, ◌^◌, Bool, true, false, ◌&&◌, List, [], ◌∷◌, length, slice_get, Some, All, Any, Contains}
use Rattle.mg_word.specs.Table.{Symbol}
use Rattle.mg_word.specs.Facts.{is_symbol}
use Rattle.term_text.specs.Words.{most_symbols}

-- the list is so many terms one after another, in prefix order by the arities of its own symbols
abbrev pub are_own_terms : ℕ → List Symbol → Bool
are_own_terms zero [] = true
are_own_terms zero (symbol ∷ symbols) = false
are_own_terms (suc wanted) [] = false
are_own_terms (suc wanted) (symbol ∷ symbols) = is_symbol symbol && are_own_terms (symbol.arity + wanted) symbols

-- the list is one term of symbols that may be in no table
abbrev pub IsOwnTerm : List Symbol → Type 0
IsOwnTerm term = are_own_terms 1 term ≡ true

-- the symbol is in the table, whose arities fit 32 bits
pub record IsSymbolOf (table : List Symbol) (symbol : Symbol) : Type 0 where
  pub held : Contains table symbol
  pub small : symbol.arity < 2 ^ 32

-- a symbol of the term is not in the table
abbrev pub HasUnknown : List Symbol → List Symbol → Type 0
HasUnknown table term = Any (λ symbol. ¬ IsSymbolOf table symbol) term

-- each symbol of the term is in the table
abbrev pub AllKnown : List Symbol → List Symbol → Type 0
AllKnown table term = All (IsSymbolOf table) term

-- the term has too many symbols
abbrev pub IsHeavy : List Symbol → Type 0
IsHeavy term = most_symbols < length term

-- the numbers are those of the symbols
abbrev pub AreNumbers : List Symbol → List ℕ → List Symbol → Type 0
AreNumbers table [] [] = Unit {0}
AreNumbers table [] (symbol ∷ symbols) = ⊥
AreNumbers table (number ∷ numbers) [] = ⊥
AreNumbers table (number ∷ numbers) (symbol ∷ symbols) = (slice_get table number ≡ Some symbol) × AreNumbers table numbers symbols

-- the words are those terms
abbrev pub AreWords : List Symbol → List (List ℕ) → List (List Symbol) → Type 0
AreWords table [] [] = Unit {0}
AreWords table [] (term ∷ terms) = ⊥
AreWords table (word ∷ words) [] = ⊥
AreWords table (word ∷ words) (term ∷ terms) = AreNumbers table word term × AreWords table words terms

abbrev pub IsLight : List Symbol → Type 0
IsLight term = length term ≤ most_symbols
