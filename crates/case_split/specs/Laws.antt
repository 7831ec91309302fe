-- Laws of the children of a split, each of which a public function of this crate states as its contract.
use Rattle.std.specs.Prelude.{◌≡◌, ℕ, List, length, Some, is_some, slice_get}
use Rattle.mg_word.specs.declared.lit.Lit.{Lit}
use Rattle.mg_meaning.specs.PlainTree.{is_closed_at_once}
use Rattle.case_split.specs.declared.child.Child.{Child}
use Rattle.case_split.specs.Splitting.{closure_of, children_of, barred_before}

-- the child of a conclusion, by the conclusion's index
abbrev pub child_at : List Lit → List Lit → List Lit → ℕ → Lit → Child
child_at held barred conclusions index conclusion = record {
  lit = conclusion;
  barred = barred_before barred conclusions index;
  at_once = closure_of held (barred_before barred conclusions index) conclusion;
}

-- there is a child for each conclusion, and child i takes conclusion i and bars those before it
pub record ChildrenGoByIndex : Type 0 where
  pub many : (held barred conclusions : List Lit) → length (children_of held barred conclusions) ≡ length conclusions
  pub each : (held barred conclusions : List Lit) (index : ℕ) (conclusion : Lit) → slice_get conclusions index ≡ Some conclusion
      → slice_get (children_of held barred conclusions) index ≡ Some (child_at held barred conclusions index conclusion)

-- the children that are closed at once are those of the plain tree
abbrev pub ClosedAsInPlainTree : Type 0
ClosedAsInPlainTree = (held barred : List Lit) (conclusion : Lit) → is_some (closure_of held barred conclusion) ≡ is_closed_at_once held barred conclusion
