-- Literals over any way to write their atoms, and literals by their own symbols, which may be in no table.
use Rattle.std.specs.Prelude.{◌≡◌, ℕ, Bool, List, [], ◌∷◌, ◌++◌, map}
use Rattle.mg_word.specs.Table.{Symbol}
use Rattle.mg_word.specs.Spelling.{spelled_sign, spelled_symbols}
use Rattle.mg_word.specs.declared.lit.Lit.{Lit}
use Rattle.term_text.specs.OwnTerms.{IsOwnTerm, AreNumbers}

-- a literal whose atom is written by such a word
pub record LineLit (W : Type 0) : Type 0 where
  pub negative : Bool
  pub atom : W

-- the text of a literal whose atom is spelled so
abbrev pub lit_text : {W : Type 0} → (W → List ℕ) → LineLit W → List ℕ
lit_text spell lit = spelled_sign lit.negative ++ spell lit.atom

-- the atoms of literals
abbrev pub atoms : {W : Type 0} → List (LineLit W) → List W
atoms lits = map (λ lit. lit.atom) lits

-- a literal by its own symbols
abbrev pub RawLit : Type 0
RawLit = LineLit (List Symbol)

abbrev pub raw_text : RawLit → List ℕ
raw_text lit = lit_text spelled_symbols lit

-- its atom is one term
abbrev pub IsOwnLit : RawLit → Type 0
IsOwnLit lit = IsOwnTerm lit.atom

-- the literal is that one, by the numbers of its symbols
abbrev pub IsLit : List Symbol → Lit → RawLit → Type 0
IsLit table lit raw = (lit.negative ≡ raw.negative) × AreNumbers table lit.word raw.atom

-- these are the literals
abbrev pub AreLits : List Symbol → List Lit → List RawLit → Type 0
AreLits table [] [] = Unit {0}
AreLits table [] (raw ∷ raws) = ⊥
AreLits table (lit ∷ lits) [] = ⊥
AreLits table (lit ∷ lits) (raw ∷ raws) = IsLit table lit raw × AreLits table lits raws
