use Rattle.std.proofs.Common.{◌≡◌, ℕ, eqb, eqb-true, eq-eqb, Option, Some, None, length, sym, ap, ◌∙◌, true, true≢false, arith}
use Rattle.std.specs.Option.{option_eq}
use Rattle.key_watch.specs.Watching.{came}
use Rattle.key_watch.proofs.Watches.{pop_again, pop_only}
use Rattle.key_watch.proofs.number_watch.NumberWatch.pop.Goals as goal

equal_found : (found : Option ℕ) (index : ℕ) → option_eq eqb found (Some index) ≡ true → found ≡ Some index
equal_found None index e = absurd (true≢false (sym e))
equal_found (Some at) index e = ap Some (eqb-true at index e)

found_equal : (found : Option ℕ) (index : ℕ) → found ≡ Some index → option_eq eqb found (Some index) ≡ true
found_equal None index e = let bad : ⊥ = cc in absurd bad
found_equal (Some at) index e = let same : at ≡ index = cc in eq-eqb at index same

pub invariant_of-self-then-eq : goal.invariant_of-self-then-eq
invariant_of-self-then-eq c =
    let len : c.len.result ≡ length c.pop.new.self.items = omega arith in
    let found = equal_found c.place_of.result c.len.result (sym c.eq.ensures ∙ c.if-eq.true) in
    let at : came c.self.inside.places.items c.in-Some.key ≡ Some (length c.pop.new.self.items) = ap (λ places. came places c.in-Some.key) (sym c.as_slice.ensures.value) ∙ (sym c.place_of.ensures ∙ (found ∙ ap Some len)) in
    pop_only _ _ _ _ _ _ c.self.invariant c.pop.new.self.items c.in-Some.key c.in-Some.ensures.items at

pub invariant_of-self-else-eq : goal.invariant_of-self-else-eq
invariant_of-self-else-eq c =
    let len : c.len.result ≡ length c.pop.new.self.items = omega arith in
    let is : c.place_of.result ≡ came c.self.inside.places.items c.in-Some.key = c.place_of.ensures ∙ ap (λ places. came places c.in-Some.key) c.as_slice.ensures.value in
    pop_again _ _ _ _ _ _ c.self.invariant c.pop.new.self.items c.in-Some.key c.in-Some.ensures.items
    (λ at. true≢false (sym (found_equal c.place_of.result c.len.result (is ∙ (at ∙ ap Some (sym len)))) ∙ (sym c.eq.ensures ∙ c.if-eq.false)))
