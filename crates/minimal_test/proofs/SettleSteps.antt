-- How rules are settled: steps put, steps handed on, and rules looked at.
use Rattle.std.proofs.Common.{◌≡◌, ◌≢◌, ℕ, zero, suc, ◌+◌, ◌-◌, ◌<◌, ◌≤◌, Bool, true, false, true≢false, ◌&&◌, ◌||◌, nat_eq, List, [], ◌∷◌, ◌++◌, length, drop, set, get_or, All, Some, refl, sym, ap, subst, ◌∙◌, ◌⊎◌, inl, inr, arith, length-append}
use Rattle.std.proofs.Math.Seq.{drop-cons}
use Rattle.std.proofs.lemmas.Bool.{eqb-true, eq-eqb}
use Rattle.std.proofs.lemmas.List.{drop-append-le, get_or_default}
use Rattle.std.proofs.lemmas.List.Folds.{list_any-append}
use Rattle.mg_word.proofs.Members.{two_cases, or_true, either_true, both_false}
use Rattle.minimal_test.specs.declared.rule.Rule.{Rule}
use Rattle.minimal_test.specs.declared.side.Side.{Side}
use Rattle.minimal_test.specs.declared.side.Side.TheVariants.{Open}
use Rattle.minimal_test.specs.declared.path.Step.{Step}
use Rattle.minimal_test.specs.declared.path.Path.{Path}
use Rattle.minimal_test.specs.declared.uses.Uses.{Uses}
use Rattle.minimal_test.specs.Choices.{side_at, is_on}
use Rattle.minimal_test.specs.Rests.{are_on, are_but}
use Rattle.minimal_test.specs.declared.finding.Finding.TheVariants.{Forced}
use Rattle.minimal_test.specs.Findings.{forces, IsQuiet, IsFinding, AreClosed}
use Rattle.minimal_test.specs.Paths.{moved, Leads, opens, debt, Extends}
use Rattle.minimal_test.specs.Uses.{is_among, uses_place, numbers_at, AreUses}
use Rattle.minimal_test.specs.Settled.{uses_one, IsSettled, AreAwaited, IsLooked, IsReached, IsHandedOn, IsNext}
use Rattle.minimal_test.proofs.PathSteps.{side_set_other, opens_set, leads_within, leads_length, extends_step}
use Rattle.minimal_test.proofs.FindingSteps.{forced_step}

-- a place that is not among them, changed
module _ (sides : List Side) (place : ℕ) (side : Side) where
  on_kept : (is_in : Bool) (places : List ℕ) → is_among place places ≡ false → are_on (set sides place side) is_in places ≡ are_on sides is_in places
  on_kept is_in [] e = refl
  on_kept is_in (one ∷ places) e =
      let parts = both_false (nat_eq place one) (is_among place places) e in
      let same = side_set_other sides place one side (λ same. true≢false (sym (eq-eqb place one (sym same)) ∙ parts.0)) in
      ap (λ (at : Side). is_on is_in at && are_on (set sides place side) is_in places) same ∙ ap (λ (rest : Bool). is_on is_in (side_at sides one) && rest) (on_kept is_in places parts.1)

  but_kept : (is_in : Bool) (other : ℕ) (places : List ℕ) → is_among place places ≡ false → are_but (set sides place side) is_in other places ≡ are_but sides is_in other places
  but_kept is_in other [] e = refl
  but_kept is_in other (one ∷ places) e =
      let parts = both_false (nat_eq place one) (is_among place places) e in
      let same = side_set_other sides place one side (λ same. true≢false (sym (eq-eqb place one (sym same)) ∙ parts.0)) in
      ap (λ (at : Side). (is_on is_in at || nat_eq one other) && are_but (set sides place side) is_in other places) same ∙ ap (λ (rest : Bool). (is_on is_in (side_at sides one) || nat_eq one other) && rest) (but_kept is_in other places parts.1)

  forces_kept : (rule : Rule) (other : ℕ) (is_in : Bool) → uses_place rule place ≡ false → forces (set sides place side) rule other is_in ≡ forces sides rule other is_in
  forces_kept rule other true e =
      let parts = both_false (is_among place rule.premises) (is_among place rule.conclusions) e in
      ap (λ (a : Bool). a && are_but (set sides place side) false other rule.conclusions) (on_kept true rule.premises parts.0) ∙ ap (λ (b : Bool). are_on sides true rule.premises && b) (but_kept false other rule.conclusions parts.1)
  forces_kept rule other false e =
      let parts = both_false (is_among place rule.premises) (is_among place rule.conclusions) e in
      ap (λ (a : Bool). a && are_on (set sides place side) false rule.conclusions) (but_kept true other rule.premises parts.0) ∙ ap (λ (b : Bool). are_but sides true other rule.premises && b) (on_kept false rule.conclusions parts.1)

  -- a rule that does not use an open place stays quiet where that is put
  quiet_kept : (rule : Rule) → side_at sides place ≡ Open → uses_place rule place ≡ false → IsQuiet sides rule → IsQuiet (set sides place side) rule
  quiet_kept rule open_place e quiet = record {
    kept = (let parts = both_false (is_among place rule.premises) (is_among place rule.conclusions) e in
        ap (λ (a : Bool). a && are_on (set sides place side) false rule.conclusions) (on_kept true rule.premises parts.0) ∙ (ap (λ (b : Bool). are_on sides true rule.premises && b) (on_kept false rule.conclusions parts.1) ∙ quiet.kept));
    still = λ other is_in is. forces_kept rule other is_in e ∙ quiet.still other is_in (was other is (two_cases (nat_eq other place)));
  }
    where
      was : (other : ℕ) → side_at (set sides place side) other ≡ Open → (nat_eq other place ≡ true) ⊎ (nat_eq other place ≡ false) → side_at sides other ≡ Open
      was other is (inl same) = ap (side_at sides) (eqb-true other place same) ∙ open_place
      was other is (inr apart) = sym (side_set_other sides place other side (λ same. true≢false (sym (eq-eqb other place same) ∙ apart))) ∙ is

-- a rule uses one of more steps
uses_more_left : (rule : Rule) (steps : List Step) (step : Step) → uses_one rule steps ≡ true → uses_one rule (steps ++ step ∷ []) ≡ true
uses_more_left rule steps step e = list_any-append (λ (one : Step). uses_place rule one.place) steps (step ∷ []) ∙ or_true (uses_one rule steps) (uses_one rule (step ∷ [])) (inl e)

uses_more_last : (rule : Rule) (steps : List Step) (step : Step) → uses_place rule step.place ≡ true → uses_one rule (steps ++ step ∷ []) ≡ true
uses_more_last rule steps step e = list_any-append (λ (one : Step). uses_place rule one.place) steps (step ∷ []) ∙ or_true (uses_one rule steps) (uses_one rule (step ∷ [])) (inr (or_true (uses_place rule step.place) false (inl e)))

-- a step put: what waits to be handed on has it at its end
waits_put : (old new : Path) (step : Step) → old.handed ≤ length old.trail.items → new.trail.items ≡ old.trail.items ++ step ∷ [] → new.handed ≡ old.handed → drop new.handed new.trail.items ≡ drop old.handed old.trail.items ++ step ∷ []
waits_put old new step handed trail same = ap (λ (k : ℕ). drop k new.trail.items) same ∙ (ap (drop old.handed) trail ∙ drop-append-le old.handed old.trail.items (step ∷ []) handed)

-- then each rule that was settled is
pub settled_put : (old new : Path) (step : Step) → side_at old.sides.items step.place ≡ Open → old.handed ≤ length old.trail.items → new.sides.items ≡ moved old.sides.items step → new.trail.items ≡ old.trail.items ++ step ∷ [] → new.handed ≡ old.handed
    → (rule : Rule) → IsSettled old rule → IsSettled new rule
settled_put old new step open_place handed put trail same rule settled = by settled (two_cases (uses_place rule step.place))
  where
    waits : drop new.handed new.trail.items ≡ drop old.handed old.trail.items ++ step ∷ []
    waits = waits_put old new step handed trail same

    by : IsSettled old rule → (uses_place rule step.place ≡ true) ⊎ (uses_place rule step.place ≡ false) → IsSettled new rule
    by settled (inl uses) = inr (ap (uses_one rule) waits ∙ uses_more_last rule (drop old.handed old.trail.items) step uses)
    by (inl quiet) (inr not_used) = inl (subst (λ (sides : List Side). IsQuiet sides rule) (sym put) (quiet_kept old.sides.items step.place _ rule open_place not_used quiet))
    by (inr uses) (inr not_used) = inr (ap (uses_one rule) waits ∙ uses_more_left rule (drop old.handed old.trail.items) step uses)

-- and a rule that uses the place
pub settled_forced : (old new : Path) (step : Step) → old.handed ≤ length old.trail.items → new.trail.items ≡ old.trail.items ++ step ∷ [] → new.handed ≡ old.handed → (rule : Rule) → uses_place rule step.place ≡ true → IsSettled new rule
settled_forced old new step handed trail same rule uses = inr (ap (uses_one rule) (waits_put old new step handed trail same) ∙ uses_more_last rule (drop old.handed old.trail.items) step uses)

-- and the steps that are handed on are steps
pub handed_put : (old new : Path) (step : Step) → old.handed ≤ length old.trail.items → new.trail.items ≡ old.trail.items ++ step ∷ [] → new.handed ≡ old.handed → new.handed ≤ length new.trail.items
handed_put old new step handed trail same =
    let count : length new.trail.items ≡ length (old.trail.items ++ step ∷ []) = ap length trail in
    let more = length-append old.trail.items (step ∷ []) in
    omega (arith, count, more, same, handed)

-- where the sides are closed before the step, all rules are settled after it
pub settled_after : (rules : List Rule) (old new : Path) (step : Step) → AreClosed old.sides.items rules → side_at old.sides.items step.place ≡ Open → old.handed ≤ length old.trail.items → new.sides.items ≡ moved old.sides.items step
    → new.trail.items ≡ old.trail.items ++ step ∷ [] → new.handed ≡ old.handed → All (IsSettled new) rules
settled_after rules old new step closed open_place handed put trail same = λ k d within. settled_put old new step open_place handed put trail same (get_or rules k d) (inl (closed k d within))

drop_past : {X : Type 0} (xs : List X) (k : ℕ) → length xs ≤ k → drop k xs ≡ []
drop_past [] zero past = refl
drop_past [] (suc k) past = refl
drop_past (x ∷ xs) zero past = absurd (omega arith)
drop_past (x ∷ xs) (suc k) past = drop_past xs k (omega arith)

-- where all steps are handed on, rules that are settled are quiet
pub settled_closed : (rules : List Rule) (path : Path) → length path.trail.items ≤ path.handed → All (IsSettled path) rules → AreClosed path.sides.items rules
settled_closed rules path past settled = λ k d within. by (get_or rules k d) (settled k d within)
  where
    by : (rule : Rule) → IsSettled path rule → IsQuiet path.sides.items rule
    by rule (inl quiet) = quiet
    by rule (inr uses) = absurd (true≢false (sym uses ∙ ap (uses_one rule) (drop_past path.trail.items path.handed past)))

-- what a look at a rule comes to: it is quiet, or there is no such rule, or it forces a place
pub looked_quiet : (rules : List Rule) (number : ℕ) (path : Path) (rule : Rule) → path.handed ≤ length path.trail.items → rule ≡ get_or rules number rule → IsQuiet path.sides.items rule → IsLooked rules number path path
looked_quiet rules number path rule handed at quiet = record {
  kept = λ one settled. settled;
  looked = λ d within. inl (subst (IsQuiet path.sides.items) (at ∙ get_or_default rules number rule d within) quiet);
  handed = handed;
  cursor = refl;
}

pub looked_past : (rules : List Rule) (number : ℕ) (path : Path) → path.handed ≤ length path.trail.items → length rules ≤ number → IsLooked rules number path path
looked_past rules number path handed past = record {
  kept = λ one settled. settled;
  looked = λ d within. absurd (omega arith);
  handed = handed;
  cursor = refl;
}

pub looked_forced : (rules : List Rule) (number : ℕ) (old new : Path) (step : Step) (rule : Rule) → old.handed ≤ length old.trail.items → rule ≡ get_or rules number rule → side_at old.sides.items step.place ≡ Open → uses_place rule step.place ≡ true
    → new.sides.items ≡ moved old.sides.items step → new.trail.items ≡ old.trail.items ++ step ∷ [] → new.handed ≡ old.handed → IsLooked rules number old new
looked_forced rules number old new step rule handed at open_place uses put trail same = record {
  kept = settled_put old new step open_place handed put trail same;
  looked = λ d within. subst (IsSettled new) (at ∙ get_or_default rules number rule d within) (settled_forced old new step handed trail same rule uses);
  handed = handed_put old new step handed trail same;
  cursor = same;
}

pub forced_looked : (rules : List Rule) (number : ℕ) (old new : Path) (rule : Rule) (sides : List Side) (place : ℕ) (is_in : Bool) → old.handed ≤ length old.trail.items → rule ≡ get_or rules number rule → sides ≡ old.sides.items
    → IsFinding sides rule (Forced place is_in) → new.sides.items ≡ moved old.sides.items (record { place = place; is_in = is_in; is_tried = false }) → new.trail.items ≡ old.trail.items ++ record { place = place; is_in = is_in; is_tried = false } ∷ []
    → new.handed ≡ old.handed → IsLooked rules number old new
forced_looked rules number old new rule sides place is_in handed at here finding put trail same =
    let own : IsFinding old.sides.items rule (Forced place is_in) = subst (λ (one : List Side). IsFinding one rule (Forced place is_in)) here finding in
    looked_forced rules number old new (record { place = place; is_in = is_in; is_tried = false }) rule handed at own.0 own.2 put trail same

pub forced_extends : (rules : List Rule) (number : ℕ) (old new : Path) (rule : Rule) (sides : List Side) (place : ℕ) (is_in : Bool) → number < length rules → rule ≡ get_or rules number rule → sides ≡ old.sides.items
    → IsFinding sides rule (Forced place is_in) → new.sides.items ≡ moved old.sides.items (record { place = place; is_in = is_in; is_tried = false }) → new.trail.items ≡ old.trail.items ++ record { place = place; is_in = is_in; is_tried = false } ∷ [] → Extends rules old new
forced_extends rules number old new rule sides place is_in within at here finding put trail =
    let own : IsFinding old.sides.items rule (Forced place is_in) = subst (λ (one : List Side). IsFinding one rule (Forced place is_in)) here finding in
    (extends_step rules old new (record { place = place; is_in = is_in; is_tried = false }) (forced_step old.sides.items rules number rule place is_in within at own.0 own.1) refl put trail).0

-- the first rules are settled, and one more
pub settled_next : (rules : List Rule) (k : ℕ) (old new : Path) → IsLooked rules k old new → ((number : ℕ) (d : Rule) → number < k → number < length rules → IsSettled old (get_or rules number d))
    → (number : ℕ) (d : Rule) → number < k + 1 → number < length rules → IsSettled new (get_or rules number d)
settled_next rules k old new looked before number d less within = by (two_cases (nat_eq number k))
  where
    by : (nat_eq number k ≡ true) ⊎ (nat_eq number k ≡ false) → IsSettled new (get_or rules number d)
    by (inl is) =
        let same = eqb-true number k is in
        subst (λ (one : ℕ). IsSettled new (get_or rules one d)) (sym same) (looked.looked d (omega arith))
    by (inr apart) =
        let not_same : number ≢ k = λ same. true≢false (sym (eq-eqb number k same) ∙ apart) in
        looked.kept (get_or rules number d) (before number d (omega arith) within)

-- the step at the cursor: each rule is settled after it, or among those that use its place
pub awaited_next : (rules : List Rule) (uses : Uses) (start : List Side) (old new : Path) (place : ℕ) → IsReached rules start old → AreUses rules (length start) uses → IsNext old new (Some place) → AreAwaited rules (numbers_at uses.rules_at.items place) new
awaited_next rules uses start old new place reached used next = λ number d within. by number d within (reached.settled number d within)
  where
    none : Step
    none = record { place = 0; is_in = false; is_tried = false }

    inside : place < length start
    inside =
        let own : (get_or old.trail.items old.handed none).place < length old.sides.items = leads_within rules start old.trail.items old.sides.items reached.leads old.handed none next.3 in
        let many = leads_length rules start old.trail.items old.sides.items reached.leads in
        let same = next.4 none in
        omega (arith, own, many, same)

    by : (number : ℕ) (d : Rule) → number < length rules → IsSettled old (get_or rules number d) → IsSettled new (get_or rules number d) ⊎ (is_among number (numbers_at uses.rules_at.items place) ≡ true)
    by number d within (inl quiet) = inl (inl (subst (λ (sides : List Side). IsQuiet sides (get_or rules number d)) (sym next.0) quiet))
    by number d within (inr waits) =
        let split : drop old.handed old.trail.items ≡ get_or old.trail.items old.handed none ∷ drop (suc old.handed) old.trail.items = drop-cons old.trail.items old.handed none next.3 in
        let later : drop new.handed new.trail.items ≡ drop (suc old.handed) old.trail.items =
        ap (λ (k : ℕ). drop k new.trail.items) (let one : new.handed ≡ suc old.handed = (let more = next.2 in omega (arith, more)) in one) ∙ ap (drop (suc old.handed)) next.1 in
        elim (either_true (uses_place (get_or rules number d) (get_or old.trail.items old.handed none).place) (uses_one (get_or rules number d) (drop (suc old.handed) old.trail.items)) (sym (ap (uses_one (get_or rules number d)) split) ∙ waits)) [
          | inl here ↦ inr (used number d place within inside (sym (ap (uses_place (get_or rules number d)) (next.4 none)) ∙ here))
          | inr rest ↦ inl (inr (ap (uses_one (get_or rules number d)) later ∙ rest))
        ]

-- a rule of the numbers looked at
pub awaited_more : (rules : List Rule) (number : ℕ) (numbers : List ℕ) (old new : Path) → IsLooked rules number old new → AreAwaited rules (number ∷ numbers) old → AreAwaited rules numbers new
awaited_more rules number numbers old new looked awaited = λ other d within. by other d within (awaited other d within)
  where
    by : (other : ℕ) (d : Rule) → other < length rules → IsSettled old (get_or rules other d) ⊎ (is_among other (number ∷ numbers) ≡ true) → IsSettled new (get_or rules other d) ⊎ (is_among other numbers ≡ true)
    by other d within (inl settled) = inl (looked.kept (get_or rules other d) settled)
    by other d within (inr waits) = elim (either_true (nat_eq other number) (is_among other numbers) waits) [
      | inl same ↦ let is = eqb-true other number same in inl (subst (λ (one : ℕ). IsSettled new (get_or rules one d)) (sym is) (looked.looked d (let less : other < length rules = within in omega (arith, is, less))))
      | inr rest ↦ inr rest
    ]

pub awaited_at : (rules : List Rule) (k : ℕ) (number : ℕ) (numbers : List ℕ) (old new : Path) → k < length numbers → number ≡ get_or numbers k 0 → IsLooked rules number old new → AreAwaited rules (drop k numbers) old → AreAwaited rules (drop (k + 1) numbers) new
awaited_at rules k number numbers old new within at looked awaited =
    let split : drop k numbers ≡ number ∷ drop (k + 1) numbers = (let one : suc k ≡ k + 1 = omega arith in drop-cons numbers k 0 within ∙ (ap (λ (first : ℕ). first ∷ drop (suc k) numbers) (sym at) ∙ ap (λ (j : ℕ). number ∷ drop j numbers) one)) in
    awaited_more rules number (drop (k + 1) numbers) old new looked (subst (λ (these : List ℕ). AreAwaited rules these old) split awaited)

pub awaited_ends : (rules : List Rule) (k : ℕ) (numbers : List ℕ) (path : Path) → length numbers ≤ k → AreAwaited rules (drop k numbers) path → All (IsSettled path) rules
awaited_ends rules k numbers path past awaited = λ number d within. by number d (awaited number d within)
  where
    by : (number : ℕ) (d : Rule) → IsSettled path (get_or rules number d) ⊎ (is_among number (drop k numbers) ≡ true) → IsSettled path (get_or rules number d)
    by number d (inl settled) = settled
    by number d (inr waits) = absurd (true≢false (sym waits ∙ ap (is_among number) (drop_past numbers k past)))

-- the trial taken back: its place is the one step that is not handed on
pub flip_reached : (rules : List Rule) (start : List Side) (mid new : Path) (step : Step) → AreClosed mid.sides.items rules → side_at mid.sides.items step.place ≡ Open → mid.handed ≡ length mid.trail.items → Leads rules start new.trail.items new.sides.items
    → new.sides.items ≡ moved mid.sides.items step → new.trail.items ≡ mid.trail.items ++ step ∷ [] → new.handed ≡ mid.handed → IsReached rules start new
flip_reached rules start mid new step closed open_place cursor leads put trail same =
    let handed : mid.handed ≤ length mid.trail.items = omega (arith, cursor) in
    record {
      leads = leads;
      settled = settled_after rules mid new step closed open_place handed put trail same;
      handed = handed_put mid new step handed trail same;
    }

-- each step takes one open place
pub leads_count : (rules : List Rule) (start : List Side) (steps : List Step) (sides : List Side) → Leads rules start steps sides → opens sides + length steps ≡ opens start
leads_count rules start [] sides leads = (let same : opens start ≡ opens sides = ap opens leads in omega (arith, same))
leads_count rules start (step ∷ steps) sides leads =
    let rest = leads_count rules (moved start step) steps sides leads.1 in
    let one = opens_set start step.place step.is_in leads.0.open_place in
    omega (arith, rest, one)

-- a step handed on is no step more
pub extends_next : (rules : List Rule) (old new : Path) (place : ℕ) → IsNext old new (Some place) → Extends rules old new
extends_next rules old new place next = record {
  leads = λ start leads. subst (λ (steps : List Step). Leads rules start steps new.sides.items) (sym next.1) (subst (Leads rules start old.trail.items) (sym next.0) leads);
  owes = λ start leads. ap (debt start) next.1;
  fewer = (let same : opens new.sides.items ≡ opens old.sides.items = ap opens next.0 in omega (arith, same));
}

-- the next step handed on, and its rules looked at
pub reached_next : (rules : List Rule) (start : List Side) (old mid new : Path) (place : ℕ) → IsReached rules start old → IsNext old mid (Some place) → Extends rules mid new → IsHandedOn rules mid new true → IsReached rules start new
reached_next rules start old mid new place reached next extends on = record {
  leads = extends.leads start ((extends_next rules old mid place next).leads start reached.leads);
  settled = on.0;
  handed = on.1;
}

-- fewer steps are left to hand on, of all that there may be
pub reached_fewer : (rules : List Rule) (start : List Side) (old mid new : Path) (place : ℕ) → IsReached rules start old → IsNext old mid (Some place) → Extends rules mid new → IsHandedOn rules mid new true
    → (opens new.sides.items + length new.trail.items) - new.handed < (opens old.sides.items + length old.trail.items) - old.handed
reached_fewer rules start old mid new place reached next extends on =
    let before = leads_count rules start old.trail.items old.sides.items reached.leads in
    let after = leads_count rules start new.trail.items new.sides.items ((reached_next rules start old mid new place reached next extends on).leads) in
    let cursor : new.handed ≡ mid.handed = on.2 in
    let one : mid.handed ≡ old.handed + 1 = next.2 in
    let less : old.handed < length old.trail.items = next.3 in
    omega (arith, before, after, cursor, one, less)
