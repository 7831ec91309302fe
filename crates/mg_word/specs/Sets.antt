-- Lists of literals, read as sets by a test of membership.
use Rattle.std.specs.Prelude.{ℕ, Bool, true, not, ◌&&◌, List, [], ◌∷◌}
use Rattle.std.specs.List.{list_any, list_all}
use Rattle.std.specs.declared.cmp.Ordering.{Ordering}
use Rattle.std.specs.declared.cmp.Ordering.TheVariants.{Less, Equal, Greater}
use Rattle.std.specs.Ordering.{eq_by_cmp, is_lt}
use Rattle.mg_word.specs.Orders.{word_cmp, lit_cmp}
use Rattle.mg_word.specs.Words.{complement_of}
use Rattle.mg_word.specs.declared.lit.Lit.{Lit}

-- the two are one word
abbrev pub same_word : List ℕ → List ℕ → Bool
same_word a b = eq_by_cmp word_cmp a b

-- the two are one literal
abbrev pub same_lit : Lit → Lit → Bool
same_lit a b = eq_by_cmp lit_cmp a b

-- the literal is in the list
abbrev pub holds : List Lit → Lit → Bool
holds lits lit = list_any (λ held. same_lit held lit) lits

-- each literal of the first is in the second
abbrev pub is_part : List Lit → List Lit → Bool
is_part part whole = list_all (λ lit. holds whole lit) part

-- it is a part, and something is left
abbrev pub is_proper_part : List Lit → List Lit → Bool
is_proper_part part whole = is_part part whole && not (is_part whole part)

-- some literal of the first is in the second
abbrev pub meets : List Lit → List Lit → Bool
meets some whole = list_any (λ lit. holds whole lit) some

-- no literal stands beside its complement
abbrev pub is_clash_free : List Lit → Bool
is_clash_free lits = list_all (λ lit. not (holds lits (complement_of lit))) lits

-- the literal stands before the first of the list
abbrev pub is_below_first : Lit → List Lit → Bool
is_below_first lit [] = true
is_below_first lit (first ∷ lits) = is_lt (lit_cmp lit first)

-- each literal stands before the next, so that none stands twice
abbrev pub is_rising : List Lit → Bool
is_rising [] = true
is_rising (lit ∷ lits) = is_below_first lit lits && is_rising lits

-- the literal goes before the first, or it is the first, or it goes further on
abbrev pub placed : Ordering → Lit → Lit → List Lit → List Lit → List Lit
placed Less lit first rest further = lit ∷ first ∷ rest
placed Equal lit first rest further = first ∷ rest
placed Greater lit first rest further = first ∷ further

-- a rising list with one literal more, at its place
abbrev pub with_lit : List Lit → Lit → List Lit
with_lit [] lit = lit ∷ []
with_lit (first ∷ rest) lit = placed (lit_cmp lit first) lit first rest (with_lit rest lit)

-- the rising list of a list's literals, each once
abbrev pub set_of : List Lit → List Lit
set_of [] = []
set_of (lit ∷ lits) = with_lit (set_of lits) lit
