use Rattle.std.proofs.Common.{◌≡◌, ◌++◌, ◌∷◌, [], ℕ, eqb, eqb-true, eq-eqb, Option, Some, None, length, sym, ap, ◌∙◌, true, true≢false, arith}
use Rattle.std.specs.Option.{option_eq}
use Rattle.tree_board.specs.BarredIndices.{index_of}
use Rattle.tree_board.proofs.FirstIndices.{index_taken, index_left}
use Rattle.tree_board.proofs.barred.Barred.pop.Goals as goal

equal_found : (found : Option ℕ) (index : ℕ) → option_eq eqb found (Some index) ≡ true → found ≡ Some index
equal_found None index e = absurd (true≢false (sym e))
equal_found (Some at) index e = ap Some (eqb-true at index e)

found_equal : (found : Option ℕ) (index : ℕ) → found ≡ Some index → option_eq eqb found (Some index) ≡ true
found_equal None index e = let bad : ⊥ = cc in absurd bad
found_equal (Some at) index e = let same : at ≡ index = cc in eq-eqb at index same

pub invariant_of-self-then-eq : goal.invariant_of-self-then-eq
invariant_of-self-then-eq c lit =
    let len : c.len.result ≡ length c.pop.new.self.items = omega arith in
    let found = equal_found c.copied.result c.len.result (sym c.eq.ensures ∙ c.if-eq.true) in
    let at : index_of c.self.inside.lits.items c.in-Some.lit ≡ Some (length c.pop.new.self.items) =
    sym (c.self.invariant c.in-Some.lit) ∙ sym c.get.ensures.value ∙ sym c.copied.ensures ∙ found ∙ ap Some len in
    let taken = index_taken c.pop.new.self.items c.in-Some.lit (rw c.in-Some.ensures.items at at) lit in
    c.remove.ensures.updates.0 lit ∙ rw (c.self.invariant lit, c.in-Some.ensures.items) taken

pub invariant_of-self-else-eq : goal.invariant_of-self-else-eq
invariant_of-self-else-eq c lit =
    let len : c.len.result ≡ length c.pop.new.self.items = omega arith in
    let is : c.copied.result ≡ index_of (c.pop.new.self.items ++ c.in-Some.lit ∷ []) c.in-Some.lit =
    c.copied.ensures ∙ c.get.ensures.value ∙ c.self.invariant c.in-Some.lit ∙ ap (λ lits. index_of lits c.in-Some.lit) c.in-Some.ensures.items in
    let left = index_left c.pop.new.self.items c.in-Some.lit
    (λ at. true≢false (sym (found_equal c.copied.result c.len.result (is ∙ at ∙ ap Some (sym len))) ∙ sym c.eq.ensures ∙ c.if-eq.false)) lit in
    c.self.invariant lit ∙ ap (λ lits. index_of lits lit) c.in-Some.ensures.items ∙ left
