-- What instances exclude: those of the problem exclude for it, and folded pairs exclude where their parts do.
use Rattle.std.proofs.Common.{◌≡◌, Bool, true, false, true≢false, not, List, [], ◌∷◌, ◌++◌, length, All, Contains, IsTrue, ◌↔◌, refl, sym, ap, ◌∙◌, ◌⊎◌, inl, inr, arith}
use Rattle.std.specs.List.{list_any}
use Rattle.std.proofs.lemmas.List.Elements.{All-head, All-tail}
use Rattle.mg_word.specs.Sets.{same_lit, holds, is_part, meets, is_clash_free, set_of}
use Rattle.mg_word.specs.Words.{complement_of}
use Rattle.mg_word.specs.Facts.{ProblemData}
use Rattle.mg_word.specs.declared.lit.Lit.{Lit}
use Rattle.mg_word.specs.declared.form.Inst.{Inst}
use Rattle.mg_word.proofs.Members.{either_true, holds-append, both_true, and_true, not_true, not_false, never_true, or_true, holds_cases, holds_first, holds_later, holds_left, holds_right, part_holds, part_from, none_met, not_met, clash_free_at, lit_is_itself}
use Rattle.mg_word.proofs.RisingLists.{holds-set_of}
use Rattle.mg_meaning.proofs.Lists.{Among, among_from}
use Rattle.mg_meaning.specs.Instances.{are_literals, IsInstance}
use Rattle.mg_meaning.specs.Satisfaction.{Satisfies}
use Rattle.mg_meaning.specs.Violation.{is_violated, IsSaturated}
use Rattle.mg_meaning.specs.Excluding.{passes, obeys, ExcludesBy, Excludes, Covers}
use Rattle.mg_meaning.specs.Folding.{Pair, without, insides, outsides, folded, rejecting, clashing, barring}

-- a violated instance has its premises held and no conclusion
pub violated_parts : (held : List Lit) (inst : Inst) → is_violated held inst ≡ true → (is_part inst.premises held ≡ true) × (meets inst.conclusions held ≡ false)
violated_parts held inst e =
    let both = both_true (is_part inst.premises held) (not (meets inst.conclusions held)) e in
    (both.0, not_true (meets inst.conclusions held) both.1)

pub violated_from : (held : List Lit) (inst : Inst) → is_part inst.premises held ≡ true → meets inst.conclusions held ≡ false → is_violated held inst ≡ true
violated_from held inst one two = and_true (is_part inst.premises held) (not (meets inst.conclusions held)) one (not_false (meets inst.conclusions held) two)

-- where an instance is not violated and its premises are held, a conclusion is
pub obeyed : (held : List Lit) (inst : Inst) → is_violated held inst ≡ false → is_part inst.premises held ≡ true → meets inst.conclusions held ≡ true
obeyed held inst fine premises = by (meets inst.conclusions held) refl
  where
    by : (some : Bool) → meets inst.conclusions held ≡ some → some ≡ true
    by true e = refl
    by false e = absurd (true≢false (sym (violated_from held inst premises e) ∙ fine))

pub fine_from : (held : List Lit) (inst : Inst) → (is_part inst.premises held ≡ true → meets inst.conclusions held ≡ true) → is_violated held inst ≡ false
fine_from held inst obeying = never_true (is_violated held inst) (λ e.
    let parts = violated_parts held inst e in true≢false (sym (obeying parts.0) ∙ parts.1))

-- a satisfying set violates no instance of the problem
pub satisfied_fine : (set : List Lit) (problem : ProblemData) → Satisfies set problem → IsSaturated problem set
satisfied_fine set problem satisfied inst real = fine_from set inst (satisfied.obeying inst real)

pub satisfies_where_saturated : (set : List Lit) (problem : ProblemData) → Satisfies set problem ↔ (IsTrue (is_clash_free set) × IsTrue (are_literals problem.symbols set) × IsSaturated problem set)
satisfies_where_saturated set problem = (
  (λ satisfied. (satisfied.consistent, satisfied.fitting, satisfied_fine set problem satisfied)),
  (λ parts. record { consistent = parts.0; fitting = parts.1; obeying = λ inst real premises. obeyed set inst (parts.2 inst real) premises }),
)

-- and so it obeys every list of them
pub satisfied_obeys : (set : List Lit) (problem : ProblemData) (insts : List Inst) → Satisfies set problem → All (IsInstance problem) insts → obeys insts set ≡ true
satisfied_obeys set problem [] satisfied each = refl
satisfied_obeys set problem (inst ∷ insts) satisfied each =
    and_true (not (is_violated set inst)) (obeys insts set)
    (not_false (is_violated set inst) (satisfied_fine set problem satisfied inst (All-head (IsInstance problem) inst insts each)))
    (satisfied_obeys set problem insts satisfied (All-tail (IsInstance problem) inst insts each))

pub excludes_from_insts : (problem : ProblemData) (insts : List Inst) (inside outside : List Lit) → All (IsInstance problem) insts → ExcludesBy insts inside outside → Excludes problem inside outside
excludes_from_insts problem insts inside outside each by set satisfied = by set satisfied.consistent (satisfied_obeys set problem insts satisfied each)

pub covers_satisfying : (problem : ProblemData) (insts : List Inst) (sets : List (List Lit)) → All (IsInstance problem) insts → Covers insts sets
    → (set : List Lit) → Satisfies set problem → list_any (λ listed. is_part listed set) sets ≡ true
covers_satisfying problem insts sets each covers set satisfied = covers set satisfied.consistent (satisfied_obeys set problem insts satisfied each)

-- what passes holds the inside and nothing of the outside
pub passing_parts : (set inside outside : List Lit) → passes set inside outside ≡ true → (is_part inside set ≡ true) × (meets outside set ≡ false)
passing_parts set inside outside e =
    let both = both_true (is_part inside set) (not (meets outside set)) e in
    (both.0, not_true (meets outside set) both.1)

pub passing_from : (set inside outside : List Lit) → is_part inside set ≡ true → meets outside set ≡ false → passes set inside outside ≡ true
passing_from set inside outside one two = and_true (is_part inside set) (not (meets outside set)) one (not_false (meets outside set) two)

-- a literal that is taken out, or left
pub holds-without : (taken lits : List Lit) (lit : Lit) → holds lits lit ≡ true → (holds taken lit ≡ true) ⊎ (holds (without taken lits) lit ≡ true)
holds-without taken [] lit there = absurd (true≢false (sym there))
holds-without taken (first ∷ lits) lit there = by (holds taken first) refl (holds_cases first lits lit there) (holds-without taken lits lit)
  where
    by : (out : Bool) → holds taken first ≡ out → (first ≡ lit) ⊎ (holds lits lit ≡ true) → (holds lits lit ≡ true → (holds taken lit ≡ true) ⊎ (holds (without taken lits) lit ≡ true))
        → (holds taken lit ≡ true) ⊎ (holds (without taken (first ∷ lits)) lit ≡ true)
    by true is (inl same) go = inl (ap (holds taken) (sym same) ∙ is)
    by true is (inr later) go = elim (go later) [
      | inl taken ↦ inl taken
      | inr left ↦ rw is (inr left)
    ]
    by false is (inl same) go = rw is (inr (or_true (same_lit first lit) (holds (without taken lits) lit) (inl (ap (λ one. same_lit first one) (sym same) ∙ lit_is_itself first))))
    by false is (inr later) go = elim (go later) [
      | inl taken ↦ inl taken
      | inr left ↦ rw is (inr (holds_later first (without taken lits) lit left))
    ]

-- one pair for each conclusion, each of which excludes
abbrev pub AllExclude : List Inst → List Lit → List Pair → Type 0
AllExclude insts [] [] = Unit {0}
AllExclude insts (conclusion ∷ conclusions) (pair ∷ pairs) = ExcludesBy insts pair.inside pair.outside × AllExclude insts conclusions pairs
AllExclude insts [] (pair ∷ pairs) = ⊥
AllExclude insts (conclusion ∷ conclusions) [] = ⊥

-- of the conclusions, the set holds none: the first that it held would be in a child that it passes
pub none_held : (insts : List Inst) (before conclusions : List Lit) (pairs : List Pair) (set : List Lit) → AllExclude insts conclusions pairs → is_clash_free set ≡ true → obeys insts set ≡ true
    → is_part (insides conclusions pairs) set ≡ true → meets (outsides before conclusions pairs) set ≡ false → meets before set ≡ false → meets conclusions set ≡ false
none_held insts before [] [] set each free obeying inside outside none = refl
none_held insts before [] (pair ∷ pairs) set each free obeying inside outside none = absurd each
none_held insts before (conclusion ∷ conclusions) [] set each free obeying inside outside none = absurd each
none_held insts before (conclusion ∷ conclusions) (pair ∷ pairs) set each free obeying inside outside none =
    by (holds set conclusion) refl (none_held insts (before ++ conclusion ∷ []) conclusions pairs set each.1 free obeying
    (part_from (insides conclusions pairs) set (λ lit there. part_holds (without (conclusion ∷ []) pair.inside ++ insides conclusions pairs) set lit inside (holds_right (without (conclusion ∷ []) pair.inside) (insides conclusions pairs) lit there)))
    (none_met (outsides (before ++ conclusion ∷ []) conclusions pairs) set (λ lit there. not_met (without before pair.outside ++ outsides (before ++ conclusion ∷ []) conclusions pairs) set lit outside (holds_right (without before pair.outside) (outsides (before ++ conclusion ∷ []) conclusions pairs) lit there))))
  where
    own_inside : holds set conclusion ≡ true → is_part pair.inside set ≡ true
    own_inside here = part_from pair.inside set (λ lit there. elim (holds-without (conclusion ∷ []) pair.inside lit there) [
      | inl own ↦ elim (holds_cases conclusion [] lit own) [
        | inl same ↦ ap (holds set) (sym same) ∙ here
        | inr bad ↦ absurd (true≢false (sym bad))
      ]
      | inr left ↦ part_holds (without (conclusion ∷ []) pair.inside ++ insides conclusions pairs) set lit inside (holds_left (without (conclusion ∷ []) pair.inside) (insides conclusions pairs) lit left)
    ])

    own_outside : meets pair.outside set ≡ false
    own_outside = none_met pair.outside set (λ lit there. elim (holds-without before pair.outside lit there) [
      | inl taken ↦ not_met before set lit none taken
      | inr left ↦ not_met (without before pair.outside ++ outsides (before ++ conclusion ∷ []) conclusions pairs) set lit outside (holds_left (without before pair.outside) (outsides (before ++ conclusion ∷ []) conclusions pairs) lit left)
    ])

    no_more : holds set conclusion ≡ false → meets (before ++ conclusion ∷ []) set ≡ false
    no_more out = none_met (before ++ conclusion ∷ []) set (λ lit there. elim (either_true (holds before lit) (holds (conclusion ∷ []) lit) (sym (holds-append before (conclusion ∷ []) lit) ∙ there)) [
      | inl old ↦ not_met before set lit none old
      | inr own ↦ elim (holds_cases conclusion [] lit own) [
        | inl same ↦ ap (holds set) (sym same) ∙ out
        | inr bad ↦ absurd (true≢false (sym bad))
      ]
    ])

    by : (here : Bool) → holds set conclusion ≡ here → (meets (before ++ conclusion ∷ []) set ≡ false → meets conclusions set ≡ false) → meets (conclusion ∷ conclusions) set ≡ false
    by true is go = absurd (true≢false (sym (passing_from set pair.inside pair.outside (own_inside is) own_outside) ∙ each.0 set free obeying))
    by false is go = rw is (go (no_more is))

pub all_exclude_from : (insts : List Inst) (conclusions : List Lit) (pairs : List Pair) → length pairs ≡ length conclusions → All (λ pair. ExcludesBy insts pair.inside pair.outside) pairs → AllExclude insts conclusions pairs
all_exclude_from insts [] [] same each = tt
all_exclude_from insts [] (pair ∷ pairs) same each = omega (arith, same)
all_exclude_from insts (conclusion ∷ conclusions) [] same each = omega (arith, same)
all_exclude_from insts (conclusion ∷ conclusions) (pair ∷ pairs) same each = (
  All-head (λ (one : Pair). ExcludesBy insts one.inside one.outside) pair pairs each,
  all_exclude_from insts conclusions pairs (omega (arith, same)) (All-tail (λ (one : Pair). ExcludesBy insts one.inside one.outside) pair pairs each),
)

-- a member of a list that is obeyed is not violated
pub obeys_member : (insts : List Inst) (inst : Inst) (set : List Lit) → Among insts inst → obeys insts set ≡ true → is_violated set inst ≡ false
obeys_member [] inst set there obeying = absurd there
obeys_member (first ∷ insts) inst set (inl same) obeying =
    ap (is_violated set) (sym same) ∙ not_true (is_violated set first) (both_true (not (is_violated set first)) (obeys insts set) obeying).0
obeys_member (first ∷ insts) inst set (inr later) obeying = obeys_member insts inst set later (both_true (not (is_violated set first)) (obeys insts set) obeying).1

part-set_of : (lits set : List Lit) → is_part (set_of lits) set ≡ true → is_part lits set ≡ true
part-set_of lits set is = part_from lits set (λ lit there. part_holds (set_of lits) set lit is (holds-set_of lits lit ∙ there))

meets-set_of : (lits set : List Lit) → meets (set_of lits) set ≡ false → meets lits set ≡ false
meets-set_of lits set is = none_met lits set (λ lit there. not_met (set_of lits) set lit is (holds-set_of lits lit ∙ there))

-- the first of two joined lists is a part, and so is the second
part_front : (xs ys set : List Lit) → is_part (xs ++ ys) set ≡ true → is_part xs set ≡ true
part_front xs ys set is = part_from xs set (λ lit there. part_holds (xs ++ ys) set lit is (holds_left xs ys lit there))

part_back : (xs ys set : List Lit) → is_part (xs ++ ys) set ≡ true → is_part ys set ≡ true
part_back xs ys set is = part_from ys set (λ lit there. part_holds (xs ++ ys) set lit is (holds_right xs ys lit there))

pub folded_excludes : (insts : List Inst) (inst : Inst) (pairs : List Pair) → Contains insts inst → length pairs ≡ length inst.conclusions → All (λ pair. ExcludesBy insts pair.inside pair.outside) pairs
    → ExcludesBy insts (folded inst pairs).inside (folded inst pairs).outside
folded_excludes insts inst pairs there same each set free obeying = never_true (passes set (folded inst pairs).inside (folded inst pairs).outside) (λ e.
    let parts = passing_parts set (folded inst pairs).inside (folded inst pairs).outside e in
    let inside = part-set_of (inst.premises ++ insides inst.conclusions pairs) set parts.0 in
    let outside = meets-set_of (outsides [] inst.conclusions pairs) set parts.1 in
    let some = obeyed set inst (obeys_member insts inst set (among_from insts inst there) obeying) (part_front inst.premises (insides inst.conclusions pairs) set inside) in
    true≢false (sym some ∙ none_held insts [] inst.conclusions pairs set (all_exclude_from insts inst.conclusions pairs same each) free obeying
    (part_back inst.premises (insides inst.conclusions pairs) set inside) outside refl))

pub rejecting_excludes : (insts : List Inst) (inst : Inst) → Contains insts inst → inst.conclusions ≡ [] → ExcludesBy insts (rejecting inst).inside (rejecting inst).outside
rejecting_excludes insts inst there empty set free obeying = never_true (passes set (rejecting inst).inside (rejecting inst).outside) (λ e.
    let inside = part-set_of inst.premises set (passing_parts set (rejecting inst).inside (rejecting inst).outside e).0 in
    let some = obeyed set inst (obeys_member insts inst set (among_from insts inst there) obeying) inside in
    true≢false (sym some ∙ ap (λ lits. meets lits set) empty))

pub clashing_excludes : (insts : List Inst) (lit : Lit) → ExcludesBy insts (clashing lit).inside (clashing lit).outside
clashing_excludes insts lit set free obeying = never_true (passes set (clashing lit).inside (clashing lit).outside) (λ e.
    let inside = part-set_of (lit ∷ complement_of lit ∷ []) set (passing_parts set (clashing lit).inside (clashing lit).outside e).0 in
    let here = part_holds (lit ∷ complement_of lit ∷ []) set lit inside (holds_first lit (complement_of lit ∷ [])) in
    let there = part_holds (lit ∷ complement_of lit ∷ []) set (complement_of lit) inside (holds_later lit (complement_of lit ∷ []) (complement_of lit) (holds_first (complement_of lit) [])) in
    true≢false (sym there ∙ clash_free_at set lit free here))

pub barring_excludes : (insts : List Inst) (lit : Lit) → ExcludesBy insts (barring lit).inside (barring lit).outside
barring_excludes insts lit set free obeying = never_true (passes set (barring lit).inside (barring lit).outside) (λ e.
    let parts = passing_parts set (barring lit).inside (barring lit).outside e in
    let here = part_holds (lit ∷ []) set lit parts.0 (holds_first lit []) in
    true≢false (sym here ∙ not_met (lit ∷ []) set lit parts.1 (holds_first lit [])))
