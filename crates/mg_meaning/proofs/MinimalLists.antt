-- Only one list has exactly the minimal sets.
use Rattle.std.proofs.Common.{◌≡◌, true, true≢false, not, List, [], ◌∷◌, refl, sym, ap₂, subst, inl, inr}
use Rattle.std.specs.declared.cmp.Ordering.{Ordering}
use Rattle.std.specs.declared.cmp.Ordering.TheVariants.{Less, Equal, Greater}
use Rattle.std.specs.Ordering.{is_lt}
use Rattle.std.proofs.lemmas.Cmp.{tied_itself}
use Rattle.mg_word.specs.Orders.{lits_cmp}
use Rattle.mg_word.specs.OrderLaws.{lits_total}
use Rattle.mg_word.specs.Facts.{ProblemData}
use Rattle.mg_word.specs.declared.lit.Lit.{Lit}
use Rattle.mg_word.proofs.Members.{both_true, and_true, not_false, never_false}
use Rattle.mg_word.proofs.RisingLists.{parts_same as rising_same}
use Rattle.mg_word.specs.Sets.{is_part, is_rising}
use Rattle.mg_meaning.specs.Satisfaction.{Satisfies}
use Rattle.mg_meaning.specs.Minimality.{is_set_below_first, are_sets_rising, IsMinimal, ListsMinimal}
use Rattle.mg_meaning.proofs.Lists.{Among, among_from, contains_from}

is_less : (answer : Ordering) → is_lt answer ≡ true → answer ≡ Less
is_less Less e = refl
is_less Equal e = absurd (true≢false (sym e))
is_less Greater e = absurd (true≢false (sym e))

-- in a rising list the set below the first is below each
below_each : (low : List Lit) (sets : List (List Lit)) (set : List Lit) → is_set_below_first low sets ≡ true → are_sets_rising sets ≡ true → Among sets set → lits_cmp low set ≡ Less
below_each low [] set below rising there = absurd there
below_each low (first ∷ sets) set below rising (inl same) = subst (λ one. lits_cmp low one ≡ Less) same (is_less (lits_cmp low first) below)
below_each low (first ∷ sets) set below rising (inr later) =
    let each = both_true (is_set_below_first first sets) (are_sets_rising sets) rising in
    lits_total.trans low first set (is_less (lits_cmp low first) below) (below_each first sets set each.0 each.1 later)

not_below_itself : (set : List Lit) → lits_cmp set set ≡ Less → ⊥
not_below_itself set less = let tie = tied_itself lits_total set in cc

-- the first sets of two rising lists with the same elements are one
first_same : (a b : List Lit) (as' bs : List (List Lit)) → are_sets_rising (a ∷ as') ≡ true → are_sets_rising (b ∷ bs) ≡ true → Among (b ∷ bs) a → Among (a ∷ as') b → a ≡ b
first_same a b as' bs one two (inl same) there = sym same
first_same a b as' bs one two (inr later) (inl same) = same
first_same a b as' bs one two (inr later) (inr other) =
    let first = both_true (is_set_below_first a as') (are_sets_rising as') one in
    let second = both_true (is_set_below_first b bs) (are_sets_rising bs) two in
    absurd (not_below_itself a (lits_total.trans a b a (below_each a as' b first.0 first.1 other) (below_each b bs a second.0 second.1 later)))

-- what follows the common first set is the same too
later_too : (a : List Lit) (as' bs : List (List Lit)) (set : List Lit) → are_sets_rising (a ∷ as') ≡ true → Among as' set → Among (a ∷ bs) set → Among bs set
later_too a as' bs set rising there (inl same) =
    let each = both_true (is_set_below_first a as') (are_sets_rising as') rising in
    absurd (not_below_itself a (subst (λ one. lits_cmp a one ≡ Less) (sym same) (below_each a as' set each.0 each.1 there)))
later_too a as' bs set rising there (inr later) = later

pub rising_sets_same : (as' bs : List (List Lit)) → are_sets_rising as' ≡ true → are_sets_rising bs ≡ true → ((set : List Lit) → Among as' set → Among bs set) → ((set : List Lit) → Among bs set → Among as' set) → as' ≡ bs
rising_sets_same [] [] one two f g = refl
rising_sets_same [] (b ∷ bs) one two f g = absurd (g b (inl refl))
rising_sets_same (a ∷ as') [] one two f g = absurd (f a (inl refl))
rising_sets_same (a ∷ as') (b ∷ bs) one two f g =
    let here : a ≡ b = first_same a b as' bs one two (f a (inl refl)) (g b (inl refl)) in
    let one' : are_sets_rising (b ∷ as') ≡ true = subst (λ x. are_sets_rising (x ∷ as') ≡ true) here one in
    let rest : as' ≡ bs = rising_sets_same as' bs (both_true (is_set_below_first a as') (are_sets_rising as') one).1 (both_true (is_set_below_first b bs) (are_sets_rising bs) two).1
    (λ set there. later_too b as' bs set one' there (f set (inr there)))
    (λ set there. later_too b bs as' set two there (subst (λ x. Among (x ∷ as') set) here (g set (inr there)))) in
    ap₂ (λ x xs. x ∷ xs) here rest

pub lists_same : (problem : ProblemData) (one two : List (List Lit)) → ListsMinimal one problem → ListsMinimal two problem → one ≡ two
lists_same problem one two p q = rising_sets_same one two p.rising q.rising
    (λ set there. among_from two set ((q.exact set).1 ((p.exact set).0 (contains_from one set there))))
    (λ set there. among_from one set ((p.exact set).1 ((q.exact set).0 (contains_from two set there))))

-- a rising list of minimal sets, one of which each satisfying set includes, has exactly the minimal sets
pub lists_from : (problem : ProblemData) (sets : List (List Lit)) → are_sets_rising sets ≡ true → ((set : List Lit) → Among sets set → (is_rising set ≡ true) × IsMinimal set problem)
    → ((set : List Lit) → Satisfies set problem → (one : List Lit) × Among sets one × (is_part one set ≡ true)) → ListsMinimal sets problem
lists_from problem sets rising each covers = record {
  rising = rising;
  exact = λ set. ((λ there. each set (among_from sets set there)), (λ is. contains_from sets set (listed set is.0 is.1)));
}
  where
    listed : (set : List Lit) → is_rising set ≡ true → IsMinimal set problem → Among sets set
    listed set own minimal =
        let (one, there, part) = covers set minimal.satisfying in
        let is = each one there in
        let whole : is_part set one ≡ true = never_false (is_part set one) (λ more. minimal.least one (and_true (is_part one set) (not (is_part set one)) part (not_false (is_part set one) more)) is.1.satisfying) in
        subst (λ listed. Among sets listed) (rising_same one set is.0 own part whole) there
