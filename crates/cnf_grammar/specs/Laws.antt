-- What joins the table to the grammar.
use Rattle.std.specs.Prelude.{◌≡◌, true, List, [], ◌∷◌, ◌++◌, Some, IsSome, IsNone}
use Rattle.cnf_grammar.specs.declared.position.Position.{Position}
use Rattle.cnf_grammar.specs.Shapes.{Shape}
use Rattle.cnf_grammar.specs.Spelling.{IsFront}
use Rattle.cnf_grammar.specs.Table.{run, start, is_end}

-- the tokens lead from the position to one where a file may end
abbrev pub LeadsToEnd : Position → List Shape → Type 0
LeadsToEnd p tokens = (q : Position) × (run p tokens ≡ Some q) × (is_end q ≡ true)

-- the token is the first that cannot go on: the tokens before it are the front of some file, and those up to it are not
abbrev pub IsFirstFault : List Shape → Shape → Type 0
IsFirstFault tokens s = IsFront tokens × (IsFront (tokens ++ s ∷ []) → ⊥)

-- the table stops at the token: it leads to a position before it, and to none behind it
abbrev pub StopsAt : List Shape → Shape → Type 0
StopsAt tokens s = IsSome (run start tokens) × IsNone (run start (tokens ++ s ∷ []))
