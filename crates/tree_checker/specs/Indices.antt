-- Where literals first stand in a list.
use Rattle.std.specs.Prelude.{◌≡◌, ℕ, suc, ◌<◌, List, [], ◌∷◌, ◌++◌, Option, Some, None, length, if◌then◌else◌, slice_index_or, false}
use Rattle.std.specs.Option.{option_map}
use Rattle.mg_word.specs.Sets.{same_lit, holds}
use Rattle.mg_word.specs.declared.lit.Lit.{Lit}

-- the first index of the literal, counted from 0
abbrev pub index_of : List Lit → Lit → Option ℕ
index_of [] lit = None
index_of (held ∷ lits) lit = if same_lit held lit then Some 0 else option_map suc (index_of lits lit)

-- the literal at the index; one without a symbol where there is none
abbrev pub lit_at : List Lit → ℕ → Lit
lit_at lits index = slice_index_or lits index (record { negative = false; word = [] })

-- each literal first stands at its own index
abbrev pub AreDifferent : List Lit → Type 0
AreDifferent lits = (index : ℕ) → index < length lits → index_of lits (lit_at lits index) ≡ Some index

-- the list, with the literal behind it where it is not there
abbrev pub with_new : List Lit → Lit → List Lit
with_new lits lit = if holds lits lit then lits else lits ++ lit ∷ []
