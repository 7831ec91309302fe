use Rattle.std.proofs.Common.{◌≡◌, ◌+◌, true, length, drop, map, subst, sym, ◌∙◌, ap, false, ◌<◌, List, ℕ, get_or}
use Rattle.std.specs.List.{list_all}
use Rattle.mg_word.specs.Forms.{further_form, clause_forms, is_always_true}
use Rattle.clause_form.specs.Faults.{is_light, is_light_clause}
use Rattle.clause_form.specs.Building.{IsRefused}
use Rattle.clause_form.proofs.FormLists.{first_forms, first_forms-split, refused_at, refused_clause}
use Rattle.clause_form.proofs.forming.push_forms.Goals as goal

pub returns-in-Err : goal.returns-in-Err
returns-in-Err c =
    let light : is_light_clause c.args.clause.now ≡ true = ap (list_all is_light) (sym c.as_slice-literals.ensures) ∙ c.in_default.ensures in
    let not_true : is_always_true c.args.clause.now.literals ≡ false = ap is_always_true (sym c.as_slice-literals.ensures) ∙ sym c.has_true.ensures ∙ c.if-has_true.false in
    let chosen = c.chosen-item.result in
    let form_is = c.in_ok-form.ensures ∙ ap (further_form c.args.index c.args.clause.now) c.as_slice.ensures in
    let within : c.loop-chosen.chosen-index < length c.args.clause.now.conclude = subst (λ (items : List (List ℕ)). c.loop-chosen.chosen-index < length items) c.as_slice-chosen-items.ensures c.loop-chosen-test.true in
    let item_is : chosen ≡ get_or c.args.clause.now.conclude c.loop-chosen.chosen-index chosen = c.chosen-item.is ∙ ap (λ (items : List (List ℕ)). get_or items c.loop-chosen.chosen-index chosen) c.as_slice-chosen-items.ensures in
    let refused : IsRefused (length c.loop-chosen.others.items) (further_form c.args.index c.args.clause.now chosen) c.in-Err.fault =
    subst (λ form. IsRefused (length c.loop-chosen.others.items) form c.in-Err.fault) form_is c.in-Err.ensures in
    refused_clause (length c.args.others.now.items) c.args.index c.args.clause.now c.in-Err.fault light
    (refused_at (clause_forms c.args.index c.args.clause.now) (first_forms c.args.index c.args.clause.now c.loop-chosen.chosen-index) (further_form c.args.index c.args.clause.now chosen)
    (map (further_form c.args.index c.args.clause.now) (drop (c.loop-chosen.chosen-index + 1) c.args.clause.now.conclude))
    c.args.others.now.items c.loop-chosen.others.items c.in-Err.fault
    (first_forms-split c.args.index c.args.clause.now c.loop-chosen.chosen-index chosen not_true within item_is)
    c.loop-chosen.invariant.restricted c.loop-chosen.invariant.added refused)
