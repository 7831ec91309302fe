-- Where literals first stand in a list, and what the fields of a stack keep.
use Rattle.std.specs.Prelude.{◌≡◌, ℕ, ◌+◌, List, [], ◌∷◌, Option, Some, None, if◌then◌else◌}
use Rattle.std.specs.Option.{option_map}
use Rattle.std.specs.BTreeMap.{get}
use Rattle.mg_word.specs.Orders.{lit_cmp}
use Rattle.mg_word.specs.Sets.{same_lit}
use Rattle.mg_word.specs.declared.lit.Lit.{Lit}
use Rattle.tree_board.specs.declared.barred.Barred.TheInside.{Inside}

-- the first index of the literal, counted from 0
abbrev pub index_of : List Lit → Lit → Option ℕ
index_of [] lit = None
index_of (held ∷ lits) lit = if same_lit held lit then Some 0 else option_map (λ index. index + 1) (index_of lits lit)

-- the map gives the first index of each literal
abbrev pub IsIndexed : Inside → Type 0
IsIndexed barred = (lit : Lit) → get lit_cmp barred.first lit ≡ index_of barred.lits.items lit
