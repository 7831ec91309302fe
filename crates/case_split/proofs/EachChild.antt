-- The children of a split, one by one.
use Rattle.std.proofs.Common.{◌≡◌, ℕ, zero, suc, Bool, true, false, ◌||◌, List, [], ◌∷◌, length, Some, is_some, slice_get, refl, ap, arith}
use Rattle.mg_word.specs.Sets.{with_lit}
use Rattle.mg_word.specs.declared.lit.Lit.{Lit}
use Rattle.case_split.specs.Splitting.{closure_by, children_of}
use Rattle.case_split.specs.Laws.{child_at}

pub length-children_of : (held barred conclusions : List Lit) → length (children_of held barred conclusions) ≡ length conclusions
length-children_of held barred [] = refl
length-children_of held barred (conclusion ∷ conclusions) = let rest : length (children_of held (with_lit barred conclusion) conclusions) ≡ length conclusions = length-children_of held (with_lit barred conclusion) conclusions in omega arith

pub child_at_index : (held barred conclusions : List Lit) (index : ℕ) (conclusion : Lit) → slice_get conclusions index ≡ Some conclusion
    → slice_get (children_of held barred conclusions) index ≡ Some (child_at held barred conclusions index conclusion)
child_at_index held barred [] index conclusion there = absurd (let bad : ⊥ = cc in bad)
child_at_index held barred (first ∷ more) zero conclusion there = let same : first ≡ conclusion = cc in ap (λ lit. Some (child_at held barred (first ∷ more) 0 lit)) same
child_at_index held barred (first ∷ more) (suc index) conclusion there = child_at_index held (with_lit barred first) more index conclusion there

pub is_some-closure_by : (clashes bars : Bool) (lit : Lit) → is_some (closure_by clashes bars lit) ≡ (clashes || bars)
is_some-closure_by true bars lit = refl
is_some-closure_by false true lit = refl
is_some-closure_by false false lit = refl
