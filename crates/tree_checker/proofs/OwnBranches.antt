-- The branch of a node's pair closes by the node's line, and what closes a branch closes larger ones with more lemmas.
use Rattle.std.proofs.Common.{◌≡◌, ℕ, zero, suc, true, nat_eq, List, [], ◌∷◌, ◌++◌, length, map, Some, refl, sym, ap, subst, ◌∙◌, inl, inr, arith}
use Rattle.std.specs.List.{list_all}
use Rattle.std.proofs.lemmas.Bool.{eqb-true}
use Rattle.mg_word.specs.Words.{fits, complement_of, numbered}
use Rattle.mg_word.specs.Sets.{is_part, set_of}
use Rattle.mg_word.specs.Facts.{ProblemData}
use Rattle.mg_word.specs.declared.lit.Lit.{Lit}
use Rattle.mg_word.specs.declared.form.Form.{Form}
use Rattle.mg_word.specs.declared.form.Inst.{Inst}
use Rattle.mg_word.proofs.Members.{both_true, part_holds, part_from, part_of_itself, part-append, holds_left, holds_right, holds_first, holds_later}
use Rattle.mg_word.proofs.RisingLists.{holds-set_of}
use Rattle.mg_meaning.specs.Instances.{IsInstance}
use Rattle.mg_meaning.specs.Folding.{Pair, without, insides, outsides, folded, rejecting, clashing, barring}
use Rattle.mg_meaning.proofs.Excluded.{holds-without}
use Rattle.tree_checker.specs.Trees.{Trees, done, tree, Branch, split_by, conclusions_under, conclusions_at}
use Rattle.tree_checker.specs.Closing.{IsFine, Close, Closes}
use Rattle.tree_checker.specs.Laws.{own_branch}
use Rattle.tree_checker.specs.declared.doc.TreeLine.{TreeLine}
use Rattle.tree_checker.specs.declared.doc.TreeLine.TheVariants.{Form as FormLine, Clash, Barred, By}
use Rattle.tree_checker.proofs.Larger.{AreLarger, Close-larger, Closes-larger}

-- lemmas keep their numbers where more stand behind them
numbered-append : {X : Type 0} (items more : List X) (number : ℕ) (item : X) → numbered items number ≡ Some item → numbered (items ++ more) number ≡ Some item
numbered-append items more zero item at = at
numbered-append [] more (suc index) item at = let bad : ⊥ = cc in absurd bad
numbered-append (first ∷ items) more (suc zero) item at = at
numbered-append (first ∷ items) more (suc (suc index)) item at = numbered-append items more (suc index) item at

pub larger_closes : (forms : List Form) (lemmas more : List Pair) (small large : Branch) (lines : List TreeLine) → is_part small.held large.held ≡ true → is_part small.barred large.barred ≡ true
    → Closes forms lemmas small lines → Closes forms (lemmas ++ more) large lines
larger_closes forms lemmas more small large lines held barred =
    Closes-larger forms lemmas (lemmas ++ more) (numbered-append lemmas more) small large lines (record { held = held; barred = barred })

-- a list is a part of its set
part_of_set : (lits : List Lit) → is_part lits (set_of lits) ≡ true
part_of_set lits = part_from lits (set_of lits) (λ lit there. holds-set_of lits lit ∙ there)

part_front : (xs ys whole : List Lit) → is_part (xs ++ ys) whole ≡ true → is_part xs whole ≡ true
part_front xs ys whole is = part_from xs whole (λ lit there. part_holds (xs ++ ys) whole lit is (holds_left xs ys lit there))

part_back : (xs ys whole : List Lit) → is_part (xs ++ ys) whole ≡ true → is_part ys whole ≡ true
part_back xs ys whole is = part_from ys whole (λ lit there. part_holds (xs ++ ys) whole lit is (holds_right xs ys lit there))

-- an instance's line keeps the rules where its premises are held, and stands above a tree for each conclusion
line_fine : (problem : ProblemData) (lemmas : List Pair) (inst : Inst) (branch : Branch) → IsInstance problem inst → is_part inst.premises branch.held ≡ true → IsFine problem.forms lemmas branch (FormLine inst.form inst.subst)
line_fine problem lemmas inst branch is premises =
    let sizes = both_true (nat_eq (length inst.subst) is.form.variables) (list_all (fits problem.symbols) inst.subst) is.terms in
    (is.form, is.is, eqb-true (length inst.subst) is.form.variables sizes.0, subst (λ (one : Inst). is_part one.premises branch.held ≡ true) is.made premises)

line_conclusions : (problem : ProblemData) (inst : Inst) → IsInstance problem inst → conclusions_at problem.forms (FormLine inst.form inst.subst) ≡ inst.conclusions
line_conclusions problem inst is = ap (conclusions_under inst.subst) is.is ∙ sym (ap (λ (one : Inst). one.conclusions) is.made)

-- the children's branches hold and bar what the children's pairs do
children_larger : (held barred before conclusions : List Lit) (pairs : List Pair) → length pairs ≡ length conclusions → is_part (insides conclusions pairs) held ≡ true → is_part (outsides before conclusions pairs) barred ≡ true
    → is_part before barred ≡ true → AreLarger (map own_branch pairs) (split_by (record { held = held; barred = barred }) conclusions)
children_larger held barred before [] [] size inside outside earlier = tt
children_larger held barred before [] (pair ∷ pairs) size inside outside earlier = absurd (omega (arith, size))
children_larger held barred before (conclusion ∷ conclusions) [] size inside outside earlier = absurd (omega (arith, size))
children_larger held barred before (conclusion ∷ conclusions) (pair ∷ pairs) size inside outside earlier = (
  record { held = own_inside; barred = own_outside },
  children_larger held (barred ++ conclusion ∷ []) (before ++ conclusion ∷ []) conclusions pairs (omega (arith, size))
      (part_back (without (conclusion ∷ []) pair.inside) (insides conclusions pairs) held inside) rest_outside rest_earlier,
)
  where
    own_inside : is_part pair.inside (held ++ conclusion ∷ []) ≡ true
    own_inside = part_from pair.inside (held ++ conclusion ∷ []) (λ lit there. elim (holds-without (conclusion ∷ []) pair.inside lit there) [
      | inl taken ↦ holds_right held (conclusion ∷ []) lit taken
      | inr left ↦ holds_left held (conclusion ∷ []) lit (part_holds (without (conclusion ∷ []) pair.inside ++ insides conclusions pairs) held lit inside (holds_left (without (conclusion ∷ []) pair.inside) (insides conclusions pairs) lit left))
    ])

    own_outside : is_part pair.outside barred ≡ true
    own_outside = part_from pair.outside barred (λ lit there. elim (holds-without before pair.outside lit there) [
      | inl taken ↦ part_holds before barred lit earlier taken
      | inr left ↦ part_holds (without before pair.outside ++ outsides (before ++ conclusion ∷ []) conclusions pairs) barred lit outside (holds_left (without before pair.outside) (outsides (before ++ conclusion ∷ []) conclusions pairs) lit left)
    ])

    rest_outside : is_part (outsides (before ++ conclusion ∷ []) conclusions pairs) (barred ++ conclusion ∷ []) ≡ true
    rest_outside = part_from (outsides (before ++ conclusion ∷ []) conclusions pairs) (barred ++ conclusion ∷ []) (λ lit there.
        holds_left barred (conclusion ∷ []) lit (part_holds (without before pair.outside ++ outsides (before ++ conclusion ∷ []) conclusions pairs) barred lit outside (holds_right (without before pair.outside) (outsides (before ++ conclusion ∷ []) conclusions pairs) lit there)))

    rest_earlier : is_part (before ++ conclusion ∷ []) (barred ++ conclusion ∷ []) ≡ true
    rest_earlier =
        part-append before (conclusion ∷ []) (barred ++ conclusion ∷ [])
        (part_from before (barred ++ conclusion ∷ []) (λ lit there. holds_left barred (conclusion ∷ []) lit (part_holds before barred lit earlier there)))
        (part_from (conclusion ∷ []) (barred ++ conclusion ∷ []) (λ lit there. holds_right barred (conclusion ∷ []) lit there))

pub fold_closes : (problem : ProblemData) (lemmas : List Pair) (inst : Inst) (pairs : List Pair) (children : Trees) → IsInstance problem inst → length pairs ≡ length inst.conclusions
    → Close problem.forms lemmas (map own_branch pairs) children → Close problem.forms lemmas (own_branch (folded inst pairs) ∷ []) (tree (FormLine inst.form inst.subst) children done)
fold_closes problem lemmas inst pairs children is size closed =
    let pair : Pair = folded inst pairs in
    let inside : is_part (inst.premises ++ insides inst.conclusions pairs) pair.inside ≡ true = part_of_set (inst.premises ++ insides inst.conclusions pairs) in
    let outside : is_part (outsides [] inst.conclusions pairs) pair.outside ≡ true = part_of_set (outsides [] inst.conclusions pairs) in
    let larger = children_larger pair.inside pair.outside [] inst.conclusions pairs size (part_back inst.premises (insides inst.conclusions pairs) pair.inside inside) outside refl in (
      line_fine problem lemmas inst (own_branch pair) is (part_front inst.premises (insides inst.conclusions pairs) pair.inside inside),
      subst (λ conclusions. Close problem.forms lemmas (split_by (own_branch pair) conclusions) children) (sym (line_conclusions problem inst is))
          (Close-larger problem.forms lemmas lemmas (λ number lemma at. at) (map own_branch pairs) (split_by (own_branch pair) inst.conclusions) children larger closed),
      tt,
    )

pub rejection_closes : (problem : ProblemData) (lemmas : List Pair) (inst : Inst) → IsInstance problem inst → inst.conclusions ≡ [] → Close problem.forms lemmas (own_branch (rejecting inst) ∷ []) (tree (FormLine inst.form inst.subst) done done)
rejection_closes problem lemmas inst is empty = (
  line_fine problem lemmas inst (own_branch (rejecting inst)) is (part_of_set inst.premises),
  subst (λ conclusions. Close problem.forms lemmas (split_by (own_branch (rejecting inst)) conclusions) done) (sym (line_conclusions problem inst is ∙ empty)) tt,
  tt,
)

pub clash_closes : (forms : List Form) (lemmas : List Pair) (lit : Lit) → Close forms lemmas (own_branch (clashing lit) ∷ []) (tree (Clash lit) done done)
clash_closes forms lemmas lit = (
  (
    holds-set_of (lit ∷ complement_of lit ∷ []) lit ∙ holds_first lit (complement_of lit ∷ []),
    holds-set_of (lit ∷ complement_of lit ∷ []) (complement_of lit) ∙ holds_later lit (complement_of lit ∷ []) (complement_of lit) (holds_first (complement_of lit) []),
  ),
  tt,
  tt,
)

pub bar_closes : (forms : List Form) (lemmas : List Pair) (lit : Lit) → Close forms lemmas (own_branch (barring lit) ∷ []) (tree (Barred lit) done done)
bar_closes forms lemmas lit = ((holds_first lit [], holds_first lit []), tt, tt)

pub lemma_closes : (forms : List Form) (lemmas : List Pair) (number : ℕ) (pair : Pair) → numbered lemmas number ≡ Some pair → Close forms lemmas (own_branch pair ∷ []) (tree (By number) done done)
lemma_closes forms lemmas number pair at = ((pair, at, part_of_itself pair.inside, part_of_itself pair.outside), tt, tt)
