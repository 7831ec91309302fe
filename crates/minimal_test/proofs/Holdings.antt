-- Stacks on the way to the literals of a set.
use Rattle.std.proofs.Common.{◌≡◌, ℕ, zero, suc, ◌+◌, ◌<◌, ◌≤◌, Bool, true, false, true≢false, not, List, [], ◌∷◌, ◌++◌, length, take, drop, get_or, refl, sym, ap, ap₂, ◌∙◌, arith}
use Rattle.std.specs.Ordering.{is_eq}
use Rattle.std.specs.declared.cmp.Ordering.TheVariants.{Less}
use Rattle.std.proofs.lemmas.List.{take_all, take_more, length-drop, get_or-drop}
use Rattle.std.proofs.lemmas.Option.{slice_get-get_or}
use Rattle.mg_word.specs.Orders.{lit_cmp}
use Rattle.mg_word.specs.OrderLaws.{lits_equal}
use Rattle.mg_word.specs.Sets.{same_lit, holds, is_below_first, is_rising}
use Rattle.mg_word.specs.declared.lit.Lit.{Lit}
use Rattle.mg_word.proofs.Members.{both_true, or_false}
use Rattle.mg_word.proofs.RisingLists.{least}
use Rattle.minimal_test.proofs.PlaceSteps.{at_holds}
use Rattle.ramified_match.specs.Stacks.{StacksData, IsWithTerms, cut_to}

-- a rising list's front lacks the literal behind it
pub front_lacks : (set : List Lit) (k : ℕ) (d : Lit) → is_rising set ≡ true → k < length set → holds (take k set) (get_or set k d) ≡ false
front_lacks [] k d rising within = absurd (omega arith)
front_lacks (first ∷ set) zero d rising within = refl
front_lacks (first ∷ set) (suc k) d rising within =
    let parts = both_true (is_below_first first set) (is_rising set) rising in
    let below : lit_cmp first (get_or set k d) ≡ Less = least first set parts.0 parts.1 (get_or set k d) (at_holds set (get_or set k d) k (slice_get-get_or set k d (omega arith))) in
    or_false (same_lit first (get_or set k d)) (holds (take k set) (get_or set k d)) (ap is_eq below) (front_lacks set k d parts.1 (omega arith))

pub not_not : (b : Bool) → false ≡ not b → b ≡ true
not_not true e = refl
not_not false e = absurd (true≢false (sym e))

-- common fronts, with one literal more
pub common_more : (these those : List Lit) (k : ℕ) (this that : Lit) → k < length these → k < length those → this ≡ get_or these k this → that ≡ get_or those k that → same_lit this that ≡ true → take k these ≡ take k those → take (k + 1) these ≡ take (k + 1) those
common_more these those k this that one other at at' same front =
    take_more these k this one
    ∙ (ap₂ (λ (a : List Lit) (b : Lit). a ++ b ∷ []) front (sym at ∙ ((lits_equal this that).0 same ∙ at'))
    ∙ sym (take_more those k that other))

placed : (set : List Lit) (front k : ℕ) (slice : List Lit) (lit : Lit) → slice ≡ drop front set → lit ≡ get_or slice k lit → lit ≡ get_or set (front + k) lit
placed set front k slice lit cut at = at ∙ (ap (λ (list : List Lit). get_or list k lit) cut ∙ get_or-drop front set k lit)

inside : (set : List Lit) (front k : ℕ) (slice : List Lit) → front ≤ length set → slice ≡ drop front set → k < length slice → front + k < length set
inside set front k slice begins cut within = omega (arith, ap length cut, length-drop front set)

-- one literal of the set more is held
pub holds_more : (set : List Lit) (front k : ℕ) (slice : List Lit) (lit : Lit) (held more : List Lit) → front ≤ length set → slice ≡ drop front set → k < length slice → lit ≡ get_or slice k lit → held ≡ take (front + k) set → more ≡ held ++ lit ∷ []
    → more ≡ take (front + (k + 1)) set
holds_more set front k slice lit held more begins cut within at so_far made =
    let is : lit ≡ get_or set (front + k) lit = placed set front k slice lit cut at in
    let room : front + k < length set = inside set front k slice begins cut within in
    let step : front + (k + 1) ≡ front + k + 1 = omega arith in
    made ∙ (ap₂ (λ (a : List Lit) (b : Lit). a ++ b ∷ []) so_far is ∙ (sym (take_more set (front + k) lit room) ∙ ap (λ n. take n set) (sym step)))

-- and it was lacking
pub held_lacks : (set : List Lit) (front k : ℕ) (slice : List Lit) (lit : Lit) (held : List Lit) → is_rising set ≡ true → front ≤ length set → slice ≡ drop front set → k < length slice → lit ≡ get_or slice k lit → held ≡ take (front + k) set → holds held lit ≡ false
held_lacks set front k slice lit held rising begins cut within at so_far =
    let is : lit ≡ get_or set (front + k) lit = placed set front k slice lit cut at in
    let room : front + k < length set = inside set front k slice begins cut within in
    ap₂ (λ (a : List Lit) (b : Lit). holds a b) so_far is ∙ front_lacks set (front + k) lit rising room

-- all are held at the end
pub all_held : (set : List Lit) (front k : ℕ) (slice held : List Lit) → front ≤ length set → slice ≡ drop front set → length slice ≤ k → held ≡ take (front + k) set → held ≡ set
all_held set front k slice held begins cut past so_far =
    let long : length set ≤ front + k = omega (arith, ap length cut, length-drop front set) in
    so_far ∙ take_all (front + k) set long

-- stacks that were pushed or not hold what they are for
pub same_problem : (old new : StacksData) → IsWithTerms old new → new.problem ≡ old.problem
same_problem old new more = ap (λ (stacks : StacksData). stacks.problem) more.rest

-- stacks that go back to a common front
pub front_held : (old new : StacksData) (set lits : List Lit) (depth front : ℕ) → new ≡ cut_to depth old → depth ≡ front → lits ≡ old.lits → take front lits ≡ take front set → new.lits ≡ take depth set
front_held old new set lits depth front cut same read common =
    ap (λ (stacks : StacksData). stacks.lits) cut
    ∙ (ap (λ n. take n old.lits) same ∙ (ap (take front) (sym read) ∙ (common ∙ ap (λ n. take n set) (sym same))))
