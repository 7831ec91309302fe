-- Terms at the front of a text, and the state of their reading. No public clause cites this module.
use Rattle.std.specs.Prelude.{◌≡◌, ℕ, suc, ◌+◌, ◌-◌, ◌^◌, min, Bool, true, ◌||◌, nat_eq, List, [], ◌∷◌, ◌++◌, map, length, drop, reverse}
use Rattle.mg_word.specs.Table.{Symbol}
use Rattle.mg_word.specs.Spelling.{symbol_piece, closing, still_open, spelled_within, spelled_symbols}
use Rattle.term_text.specs.OwnTerms.{are_own_terms}
use Rattle.term_text.specs.Names.{IsNameAt}
use Rattle.term_text.specs.declared.terms.Raw.{Raw}

-- behind a term a comma or a bracket of its list follows, or nothing
abbrev pub ends_term : List ℕ → Bool
ends_term [] = true
ends_term (byte ∷ rest) = nat_eq byte 44 || nat_eq byte 93

-- the text begins with that term
pub record IsTermAt (bytes : List ℕ) (term : List Symbol) (rest : List ℕ) : Type 0 where
  pub own : are_own_terms 1 term ≡ true
  pub text : spelled_symbols term ++ rest ≡ bytes
  pub ends : ends_term rest ≡ true

-- and with no other
pub record IsOnlyTerm (bytes : List ℕ) (term : List Symbol) (rest : List ℕ) : Type 0 where
  pub is : IsTermAt bytes term rest
  pub only : (t : List Symbol) (r : List ℕ) → IsTermAt bytes t r → (t ≡ term) × (r ≡ rest)

-- a symbol whose name stands at that place of the text, with so many arguments
pub record IsRaw (bytes : List ℕ) (raw : Raw) (symbol : Symbol) : Type 0 where
  pub rest : List ℕ
  pub name : IsNameAt (drop raw.start bytes) symbol.kind symbol.name rest
  pub arity : raw.arity ≡ min symbol.arity (2 ^ 64 - 1)

abbrev pub no_raw : Raw
no_raw = record { start = 0; arity = 0 }

-- the symbol with an argument more
abbrev pub raised_raw : Raw → Raw
raised_raw raw = record { start = raw.start; arity = min (raw.arity + 1) (2 ^ 64 - 1) }

abbrev pub AreRaws : List ℕ → List Raw → List Symbol → Type 0
AreRaws bytes [] [] = Unit {0}
AreRaws bytes [] (symbol ∷ symbols) = ⊥
AreRaws bytes (raw ∷ raws) [] = ⊥
AreRaws bytes (raw ∷ raws) (symbol ∷ symbols) = IsRaw bytes raw symbol × AreRaws bytes raws symbols

-- a symbol whose bracket is open, with the arguments that it has so far, and what stands left of it in its own bracket
pub record Level : Type 0 where
  pub left : List Symbol
  pub head : Symbol

-- the symbols that were read, where the last are within the innermost bracket
abbrev pub flat : List Level → List Symbol → List Symbol
flat [] current = current
flat (level ∷ levels) current = flat levels (level.left ++ level.head ∷ current)

-- the indices of the symbols with open brackets, the innermost first
abbrev pub places : List Level → List ℕ
places [] = []
places (level ∷ levels) = length (flat levels level.left) ∷ places levels

-- the symbol with more arguments
abbrev pub raised : ℕ → Symbol → Symbol
raised more symbol = record { name = symbol.name; arity = symbol.arity + more; kind = symbol.kind }

-- the whole term, where each bracket has so many arguments after the present one
abbrev pub plugged : List Level → List ℕ → List Symbol → List Symbol
plugged [] counts symbols = symbols
plugged (level ∷ levels) [] symbols = plugged levels [] (level.left ++ level.head ∷ symbols)
plugged (level ∷ levels) (more ∷ counts) symbols = plugged levels counts (level.left ++ raised (suc more) level.head ∷ symbols)

abbrev pub total : List ℕ → ℕ
total [] = 0
total (more ∷ counts) = more + total counts

-- what may follow where an argument has to begin
pub record IsAhead (levels : List Level) (rest : List ℕ) (counts : List ℕ) (symbols : List Symbol) (tail : List ℕ) : Type 0 where
  pub same : length counts ≡ length levels
  pub own : are_own_terms (suc (total counts)) symbols ≡ true
  pub ends : ends_term tail ≡ true
  pub text : spelled_within counts (map symbol_piece symbols) ++ tail ≡ rest

-- what may follow behind a finished argument
pub record IsBehind (levels : List Level) (rest : List ℕ) (counts : List ℕ) (symbols : List Symbol) (tail : List ℕ) : Type 0 where
  pub same : length counts ≡ length levels
  pub own : are_own_terms (total counts) symbols ≡ true
  pub ends : ends_term tail ≡ true
  pub text : (closing counts ++ spelled_within (still_open counts) (map symbol_piece symbols)) ++ tail ≡ rest

-- what may follow makes terms at the front of the text, and all of them
pub record IsReached (Follows : List ℕ → List Symbol → List ℕ → Type 0) (bytes : List ℕ) (levels : List Level) (current : List Symbol) : Type 0 where
  pub sound : (counts : List ℕ) (symbols : List Symbol) (tail : List ℕ) → Follows counts symbols tail → IsTermAt bytes (plugged levels counts (current ++ symbols)) tail
  pub only : (term : List Symbol) (tail : List ℕ) → IsTermAt bytes term tail
      → (counts : List ℕ) × (symbols : List Symbol) × Follows counts symbols tail × (plugged levels counts (current ++ symbols) ≡ term)

-- what the buffers hold
pub record AreHeld (bytes : List ℕ) (raws : List Raw) (opens : List ℕ) (levels : List Level) (current : List Symbol) : Type 0 where
  pub raws_are : AreRaws bytes raws (flat levels current)
  pub opens_are : opens ≡ reverse (places levels)

-- an argument has to begin here
pub record AtArgument (bytes : List ℕ) (raws : List Raw) (opens rest : List ℕ) : Type 0 where
  pub levels : List Level
  pub current : List Symbol
  pub held : AreHeld bytes raws opens levels current
  pub reached : IsReached (IsAhead levels rest) bytes levels current

-- an argument ends here
pub record AfterArgument (bytes : List ℕ) (raws : List Raw) (opens rest : List ℕ) : Type 0 where
  pub levels : List Level
  pub current : List Symbol
  pub held : AreHeld bytes raws opens levels current
  pub reached : IsReached (IsBehind levels rest) bytes levels current

-- no term is at the front of the text
abbrev pub NoTerm : List ℕ → Type 0
NoTerm bytes = (term : List Symbol) (rest : List ℕ) → IsTermAt bytes term rest → ⊥

-- the term at the front of the text, as the buffer holds it
pub record IsRawTerm (bytes : List ℕ) (raws : List Raw) (rest : List ℕ) : Type 0 where
  pub term : List Symbol
  pub is : IsOnlyTerm bytes term rest
  pub raws_are : AreRaws bytes raws term
