-- The children of a node that an instance splits: complement splitting after Bry and Yahya.
use Rattle.std.specs.Prelude.{ℕ, Bool, true, false, List, [], ◌∷◌, Option, Some, None, take}
use Rattle.mg_word.specs.Sets.{holds, with_lit}
use Rattle.mg_word.specs.Words.{complement_of}
use Rattle.mg_word.specs.declared.lit.Lit.{Lit}
use Rattle.case_split.specs.declared.child.Child.{Child}
use Rattle.case_split.specs.declared.child.Closure.{Closure}
use Rattle.case_split.specs.declared.child.Closure.TheVariants.{Clash, Barred}

-- by whether the complement is held and whether the literal is barred: a clash comes first
abbrev pub closure_by : Bool → Bool → Lit → Option Closure
closure_by true is_barred lit = Some (Clash lit)
closure_by false true lit = Some (Barred lit)
closure_by false false lit = None

-- how the child of this conclusion is closed at once, if it is
abbrev pub closure_of : List Lit → List Lit → Lit → Option Closure
closure_of held barred conclusion = closure_by (holds held (complement_of conclusion)) (holds barred conclusion) conclusion

-- one child for each conclusion, in order: it takes its own conclusion, and bars those before it
abbrev pub children_of : List Lit → List Lit → List Lit → List Child
children_of held barred [] = []
children_of held barred (conclusion ∷ conclusions) =
    record { lit = conclusion; barred = barred; at_once = closure_of held barred conclusion } ∷ children_of held (with_lit barred conclusion) conclusions

-- a set with these literals more
abbrev pub with_lits : List Lit → List Lit → List Lit
with_lits set [] = set
with_lits set (lit ∷ lits) = with_lits (with_lit set lit) lits

-- what the child with this index bars: what its parent bars, and the conclusions before its own
abbrev pub barred_before : List Lit → List Lit → ℕ → List Lit
barred_before barred conclusions index = with_lits barred (take index conclusions)
