-- Lists behind an opening bracket, over items of any kind, and the state of their reading. No public clause cites this module.
use Rattle.std.specs.Prelude.{◌≡◌, ℕ, Bool, true, false, List, ◌∷◌, ◌++◌, map, All, Any, MatchBool}
use Rattle.mg_word.specs.Table.{Symbol}
use Rattle.mg_word.specs.Spelling.{spelled_symbols}
use Rattle.mg_word.specs.declared.lit.Lit.{Lit}
use Rattle.term_text.specs.Brackets.{after_items, in_brackets}
use Rattle.term_text.specs.Lits.{RawLit, raw_text, IsOwnLit, atoms, IsLit, AreLits}
use Rattle.term_text.specs.OwnTerms.{IsOwnTerm, HasUnknown, AllKnown, IsHeavy, IsLight, AreNumbers, AreWords}
use Rattle.term_text.specs.Terms.{ends_term}
use Rattle.term_text.specs.declared.found.FoundTerm.{FoundTerm}
use Rattle.term_text.specs.declared.found.FoundTerm.TheVariants.{Unknown, Heavy, Word}
use Rattle.term_text.specs.declared.lits.FoundLit.{FoundLit}
use Rattle.term_text.specs.declared.lits.FoundLit.TheVariants.{Unknown as UnknownLit, Heavy as HeavyLit, Lit as OneLit}

-- items that are spelled so, where each is such
module _ {X : Type 0} (spell : X → List ℕ) (P : X → Type 0) where
  -- the text begins with that item
  pub record IsItemAt (bytes : List ℕ) (item : X) (rest : List ℕ) : Type 0 where
    pub own : P item
    pub text : spell item ++ rest ≡ bytes
    pub ends : ends_term rest ≡ true

  -- and with no other
  pub record IsOnlyItem (bytes : List ℕ) (item : X) (rest : List ℕ) : Type 0 where
    pub is : IsItemAt bytes item rest
    pub only : (other : X) (more : List ℕ) → IsItemAt bytes other more → (other ≡ item) × (more ≡ rest)

  -- no item is at the front of the text
  abbrev pub NoItem : List ℕ → Type 0
  NoItem bytes = (item : X) (rest : List ℕ) → IsItemAt bytes item rest → ⊥

  -- the text is a list of these items behind its opening bracket
  pub record IsListAt (bytes : List ℕ) (items : List X) : Type 0 where
    pub own : All P items
    pub text : in_brackets (map spell items) ≡ bytes

  -- and of no others
  pub record IsOnlyList (bytes : List ℕ) (items : List X) : Type 0 where
    pub is : IsListAt bytes items
    pub only : (others : List X) → IsListAt bytes others → others ≡ items

  -- the text is no list of such items
  abbrev pub NoList : List ℕ → Type 0
  NoList bytes = (items : List X) → IsListAt bytes items → ⊥

  -- what may follow where an item has to begin
  pub record IsNextItem (rest : List ℕ) (item : X) (items : List X) : Type 0 where
    pub own : All P (item ∷ items)
    pub text : spell item ++ after_items (map spell items) ≡ rest

  -- what may follow makes lists, and all of them
  pub record IsListing (bytes rest : List ℕ) (have : List X) : Type 0 where
    pub sound : (item : X) (items : List X) → IsNextItem rest item items → IsListAt bytes (have ++ item ∷ items)
    pub only : (all : List X) → IsListAt bytes all → (item : X) × (items : List X) × IsNextItem rest item items × (have ++ item ∷ items ≡ all)

-- what was found of a term: a symbol of it is unknown, or it is heavy, or its word
abbrev pub IsFoundTerm : List Symbol → List Symbol → FoundTerm → Type 0
IsFoundTerm table term Unknown = HasUnknown table term
IsFoundTerm table term Heavy = AllKnown table term × IsHeavy term
IsFoundTerm table term (Word word) = AllKnown table term × IsLight term × AreNumbers table word term

-- whether a symbol of terms is unknown, and where none is, whether one of them is heavy
pub record AreFlags (table : List Symbol) (terms : List (List Symbol)) (unknown heavy : Bool) : Type 0 where
  pub unknown_is : MatchBool unknown (Any (HasUnknown table) terms) (All (AllKnown table) terms)
  pub heavy_is : unknown ≡ false → MatchBool heavy (Any IsHeavy terms) (All IsLight terms)

-- what was found of terms, and their words, unless a symbol is unknown or a term heavy
pub record IsVerdict (table : List Symbol) (terms : List (List Symbol)) (words : List (List ℕ)) (unknown heavy : Bool) : Type 0 where
  pub flags : AreFlags table terms unknown heavy
  pub words_are : unknown ≡ false → heavy ≡ false → AreWords table words terms

-- the same of literals
pub record IsLitVerdict (table : List Symbol) (raws : List RawLit) (lits : List Lit) (unknown heavy : Bool) : Type 0 where
  pub flags : AreFlags table (atoms raws) unknown heavy
  pub lits_are : unknown ≡ false → heavy ≡ false → AreLits table lits raws

-- the terms that were read, and what may follow
pub record AtTerm (table : List Symbol) (bytes rest : List ℕ) (words : List (List ℕ)) (unknown heavy : Bool) : Type 0 where
  pub have : List (List Symbol)
  pub listing : IsListing spelled_symbols IsOwnTerm bytes rest have
  pub verdict : IsVerdict table have words unknown heavy

-- the literals that were read, and what may follow
pub record AtLit (table : List Symbol) (bytes rest : List ℕ) (lits : List Lit) (unknown heavy : Bool) : Type 0 where
  pub have : List RawLit
  pub listing : IsListing raw_text IsOwnLit bytes rest have
  pub verdict : IsLitVerdict table have lits unknown heavy

-- the list of terms at the front, with what was found of them
pub record IsListRead (table : List Symbol) (bytes : List ℕ) (words : List (List ℕ)) (unknown heavy : Bool) : Type 0 where
  pub terms : List (List Symbol)
  pub is : IsOnlyList spelled_symbols IsOwnTerm bytes terms
  pub verdict : IsVerdict table terms words unknown heavy

-- the list of literals at the front, with what was found of them
pub record AreLitsRead (table : List Symbol) (bytes : List ℕ) (lits : List Lit) (unknown heavy : Bool) : Type 0 where
  pub raws : List RawLit
  pub is : IsOnlyList raw_text IsOwnLit bytes raws
  pub verdict : IsLitVerdict table raws lits unknown heavy

-- what was found of a literal: a symbol of it is unknown, or it is heavy, or it is that
abbrev pub IsFoundLit : List Symbol → RawLit → FoundLit → Type 0
IsFoundLit table raw UnknownLit = HasUnknown table raw.atom
IsFoundLit table raw HeavyLit = AllKnown table raw.atom × IsHeavy raw.atom
IsFoundLit table raw (OneLit lit) = AllKnown table raw.atom × IsLight raw.atom × IsLit table lit raw

-- the text is that of a literal, of which this was found
pub record IsLitRead (table : List Symbol) (bytes : List ℕ) (found : FoundLit) : Type 0 where
  pub raw : RawLit
  pub own : IsOwnLit raw
  pub text : raw_text raw ≡ bytes
  pub is : IsFoundLit table raw found

-- the text is that of no literal
abbrev pub NoLit : List ℕ → Type 0
NoLit bytes = (raw : RawLit) → IsOwnLit raw → raw_text raw ≡ bytes → ⊥
