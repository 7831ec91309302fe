-- The cells and the reasons of cases, one by one.
use Rattle.std.proofs.Common.{◌≡◌, ℕ, suc, ◌+◌, ◌≤◌, List, [], ◌∷◌, ◌++◌, length, Option, Some, None, refl, ap, ◌∙◌, arith}
use Rattle.case_split.specs.declared.child.Child.{Child}
use Rattle.case_split.specs.declared.child.Closure.{Closure}
use Rattle.tree_board.specs.CellMoves.{born_cell, place_after, cells_by, closures_of, with_closure, closures_by, reasons_of}

pub closures_few : (reasons : List (Option Closure)) → length (closures_by reasons) ≤ length reasons
closures_few [] = omega arith
closures_few (None ∷ more) = let rest = closures_few more in omega (arith, rest)
closures_few (Some closure ∷ more) = let rest = closures_few more in omega (arith, rest)

pub reasons_length : (cases : List Child) → length (reasons_of cases) ≡ length cases
reasons_length [] = refl
reasons_length (one ∷ more) = ap suc (reasons_length more)

pub closures-cases : (cases : List Child) → length (closures_of cases) ≤ length cases
closures-cases cases = let few = closures_few (reasons_of cases) in let size = reasons_length cases in omega (arith, few, size)

-- one more
pub cells_push : (parent place : ℕ) (reasons : List (Option Closure)) (last : Option Closure) → cells_by parent place (reasons ++ last ∷ []) ≡ cells_by parent place reasons ++ born_cell parent (place + length (closures_by reasons)) last ∷ []
cells_push parent place [] last = ap (λ n. born_cell parent n last ∷ []) (let e : place ≡ place + 0 = omega arith in e)
cells_push parent place (one ∷ more) last =
    ap (λ rest. born_cell parent place one ∷ rest) (cells_push parent (place_after place one) more last ∙ ap (λ n. cells_by parent (place_after place one) more ++ born_cell parent n last ∷ []) (by one))
  where
    by : (reason : Option Closure) → place_after place reason + length (closures_by more) ≡ place + length (with_closure reason (closures_by more))
    by None = refl
    by (Some closure) = omega arith

pub closures_push : (reasons : List (Option Closure)) (last : Option Closure) → closures_by (reasons ++ last ∷ []) ≡ closures_by reasons ++ with_closure last []
closures_push [] last = refl
closures_push (one ∷ more) last = ap (with_closure one) (closures_push more last) ∙ by one
  where
    by : (reason : Option Closure) → with_closure reason (closures_by more ++ with_closure last []) ≡ with_closure reason (closures_by more) ++ with_closure last []
    by None = refl
    by (Some closure) = refl

pub reasons_push : (cases : List Child) (last : Child) → reasons_of (cases ++ last ∷ []) ≡ reasons_of cases ++ last.at_once ∷ []
reasons_push [] last = refl
reasons_push (one ∷ more) last = ap (λ rest. one.at_once ∷ rest) (reasons_push more last)

pub cells_length : (parent place : ℕ) (reasons : List (Option Closure)) → length (cells_by parent place reasons) ≡ length reasons
cells_length parent place [] = refl
cells_length parent place (one ∷ more) = ap suc (cells_length parent (place_after place one) more)
