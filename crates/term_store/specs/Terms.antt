-- Ground terms by numbers: a term is its symbol with the numbers of its arguments.
use Rattle.std.specs.Prelude.{◌⊎◌, ◌≡◌, ◌≢◌, ℕ, ◌<◌, List, [], ◌∷◌, ◌++◌, length, Some, slice_get, slice_index_or, All, AllPairs, Contains}
use Rattle.std.specs.List.{flat_map}
use Rattle.mg_word.specs.Table.{Symbol}

-- a symbol with its arguments, each by its number
pub record Term : Type 0 where
  pub symbol : ℕ
  pub arguments : List ℕ

abbrev pub term_of : ℕ → List ℕ → Term
term_of symbol arguments = record { symbol = symbol; arguments = arguments }

-- the symbols of a term in prefix order, by the words of its arguments
abbrev pub applied : List (List ℕ) → Term → List ℕ
applied words term = term.symbol ∷ flat_map (λ argument. slice_index_or words argument []) term.arguments

-- these words, and behind them the words of terms whose arguments stand before them
abbrev pub words_behind : List (List ℕ) → List Term → List (List ℕ)
words_behind words [] = words
words_behind words (term ∷ terms) = words_behind (words ++ applied words term ∷ []) terms

-- the words of the terms, each from the words of the terms before
abbrev pub words_of : List Term → List (List ℕ)
words_of terms = words_behind [] terms

-- the word of the term with this number
abbrev pub word_at : List Term → ℕ → List ℕ
word_at terms number = slice_index_or (words_of terms) number []

-- how many symbols these terms have together
abbrev pub weight_together : List Term → List ℕ → ℕ
weight_together terms numbers = length (flat_map (word_at terms) numbers)

-- the terms of a store: all different, each after its arguments
pub record IsStore (terms : List Term) : Type 0 where
  pub different : AllPairs (λ a b. a ≢ b) terms
  pub closed : (number : ℕ) (term : Term) → slice_get terms number ≡ Some term → All (λ argument. argument < number) term.arguments

-- the number is that of a term over the table: its symbol has as many arguments there, and they are such terms
pub data IsOver (table : List Symbol) (terms : List Term) : ℕ → Type 0 where
  over : (number : ℕ) (term : Term) (symbol : Symbol) → slice_get terms number ≡ Some term → slice_get table term.symbol ≡ Some symbol → length term.arguments ≡ symbol.arity
      → ((place argument : ℕ) → slice_get term.arguments place ≡ Some argument → IsOver table terms argument) → IsOver table terms number

-- the term may be new, and then it goes last; nothing else is
abbrev pub AddsAtMost : List Term → List Term → Term → Type 0
AddsAtMost old new term = (new ≡ old) ⊎ ((new ≡ old ++ term ∷ []) × (Contains old term → ⊥))
