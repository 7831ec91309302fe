-- A spelling tells which symbols, which word and which literal it is of.
use Rattle.std.specs.Prelude.{◌≡◌, ◌≢◌, ℕ, zero, suc, ◌+◌, Bool, true, false, not, ◌||◌, nat_eq, List, [], ◌∷◌, ◌++◌, AllPairs, IsTrue}
use Rattle.std.specs.List.{list_all}
use Rattle.mg_word.specs.Table.{Symbol}
use Rattle.mg_word.specs.Words.{fits}
use Rattle.mg_word.specs.Facts.{is_symbol}
use Rattle.mg_word.specs.declared.lit.Lit.{Lit}
use Rattle.mg_word.specs.Spelling.{is_word_byte, spelled_symbols, spelled, spelled_lit}

-- the symbols are so many terms one after another, in prefix order by their own arities
abbrev pub make_terms : ℕ → List Symbol → Bool
make_terms zero [] = true
make_terms zero (symbol ∷ symbols) = false
make_terms (suc wanted) [] = false
make_terms (suc wanted) (symbol ∷ symbols) = make_terms (symbol.arity + wanted) symbols

-- these bytes do not go on with a word that stands before them
abbrev pub ends_word : List ℕ → Bool
ends_word [] = true
ends_word (byte ∷ bytes) = not (is_word_byte byte || nat_eq byte 40)

-- terms with one spelling have the same symbols, also where more text follows
abbrev pub SymbolsAreSpelledApart : Type 0
SymbolsAreSpelledApart =
    (these those : List Symbol) (more further : List ℕ) → IsTrue (make_terms 1 these) → IsTrue (make_terms 1 those) → IsTrue (list_all is_symbol these) → IsTrue (list_all is_symbol those)
    → IsTrue (ends_word more) → IsTrue (ends_word further) → spelled_symbols these ++ more ≡ spelled_symbols those ++ further → (these ≡ those) × (more ≡ further)

-- the same for words over a table of different symbols
abbrev pub WordsAreSpelledApart : Type 0
WordsAreSpelledApart =
    (table : List Symbol) (word other more further : List ℕ) → AllPairs (λ a b. a ≢ b) table → IsTrue (list_all is_symbol table) → IsTrue (fits table word) → IsTrue (fits table other)
    → IsTrue (ends_word more) → IsTrue (ends_word further) → spelled table word ++ more ≡ spelled table other ++ further → (word ≡ other) × (more ≡ further)

-- and for literals
abbrev pub LitsAreSpelledApart : Type 0
LitsAreSpelledApart =
    (table : List Symbol) (lit other : Lit) (more further : List ℕ) → AllPairs (λ a b. a ≢ b) table → IsTrue (list_all is_symbol table) → IsTrue (fits table lit.word) → IsTrue (fits table other.word)
    → IsTrue (ends_word more) → IsTrue (ends_word further) → spelled_lit table lit ++ more ≡ spelled_lit table other ++ further → (lit ≡ other) × (more ≡ further)
