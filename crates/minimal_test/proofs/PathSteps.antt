-- Steps of a search, taken and taken back.
use Rattle.std.proofs.Common.{◌≡◌, ◌≢◌, ℕ, zero, suc, ◌+◌, ◌<◌, Bool, true, false, true≢false, cond, nat_eq, List, [], ◌∷◌, ◌++◌, length, set, get_or, All, IsTrue, refl, sym, ap, subst, ◌∙◌, ◌⊎◌, inl, inr, arith, length-set, length-append}
use Rattle.std.proofs.Math.ListN.{get_or-append}
use Rattle.std.proofs.lemmas.Bool.{eqb-true, eq-eqb}
use Rattle.std.proofs.lemmas.List.Elements.{All-cons, All-nil}
use Rattle.mg_word.proofs.Members.{two_cases}
use Rattle.minimal_test.specs.declared.rule.Rule.{Rule}
use Rattle.minimal_test.specs.declared.side.Side.{Side}
use Rattle.minimal_test.specs.declared.side.Side.TheVariants.{Open, In, Out}
use Rattle.minimal_test.specs.declared.path.Step.{Step}
use Rattle.minimal_test.specs.declared.path.Path.{Path}
use Rattle.minimal_test.specs.Choices.{keeps, side_at, side_of}
use Rattle.minimal_test.specs.Findings.{AreClosed}
use Rattle.minimal_test.specs.Paths.{Agrees, IsDead, IsStep, moved, Leads, opens, effort, debt, Extends}

-- an open place is one of the places
pub open_within : (sides : List Side) (place : ℕ) → side_at sides place ≡ Open → place < length sides
open_within [] place e = absurd (let bad : ⊥ = cc in bad)
open_within (side ∷ sides) zero e = omega arith
open_within (side ∷ sides) (suc place) e = let less = open_within sides place e in omega arith

-- the sides with one changed
pub side_set_same : (sides : List Side) (place : ℕ) (side : Side) → place < length sides → side_at (set sides place side) place ≡ side
side_set_same [] place side within = absurd (omega arith)
side_set_same (first ∷ sides) zero side within = refl
side_set_same (first ∷ sides) (suc place) side within = side_set_same sides place side (omega arith)

pub side_set_other : (sides : List Side) (place other : ℕ) (side : Side) → other ≢ place → side_at (set sides place side) other ≡ side_at sides other
side_set_other [] place other side apart = refl
side_set_other (first ∷ sides) zero zero side apart = absurd (apart refl)
side_set_other (first ∷ sides) zero (suc other) side apart = refl
side_set_other (first ∷ sides) (suc place) zero side apart = refl
side_set_other (first ∷ sides) (suc place) (suc other) side apart = side_set_other sides place other side (λ e. apart (ap suc e))

pub set_back : (sides : List Side) (place : ℕ) (side : Side) → side_at sides place ≡ Open → set (set sides place side) place Open ≡ sides
set_back [] place side e = refl
set_back (first ∷ sides) zero side e = ap (λ one. one ∷ sides) (sym e)
set_back (first ∷ sides) (suc place) side e = ap (λ rest. first ∷ rest) (set_back sides place side e)

pub opens_set : (sides : List Side) (place : ℕ) (is_in : Bool) → side_at sides place ≡ Open → opens sides ≡ suc (opens (set sides place (side_of is_in)))
opens_set [] place is_in e = absurd (let bad : ⊥ = cc in bad)
opens_set (Open ∷ sides) zero true e = refl
opens_set (Open ∷ sides) zero false e = refl
opens_set (In ∷ sides) zero is_in e = absurd (let bad : ⊥ = cc in bad)
opens_set (Out ∷ sides) zero is_in e = absurd (let bad : ⊥ = cc in bad)
opens_set (Open ∷ sides) (suc place) is_in e = ap suc (opens_set sides place is_in e)
opens_set (In ∷ sides) (suc place) is_in e = opens_set sides place is_in e
opens_set (Out ∷ sides) (suc place) is_in e = opens_set sides place is_in e

pub side_of_same : (a b : Bool) → side_of a ≡ side_of b → a ≡ b
side_of_same true true e = refl
side_of_same true false e = cc
side_of_same false true e = cc
side_of_same false false e = refl

-- a choice that agrees, and puts the place there too
pub agrees_moved : (sides : List Side) (chosen : ℕ → Bool) (place : ℕ) (is_in : Bool) → Agrees sides chosen → side_at sides place ≡ Open → chosen place ≡ is_in → Agrees (set sides place (side_of is_in)) chosen
agrees_moved sides chosen place is_in agrees open_place there = λ other side e. by other side e (two_cases (nat_eq other place))
  where
    by : (other : ℕ) (side : Bool) → side_at (set sides place (side_of is_in)) other ≡ side_of side → (nat_eq other place ≡ true) ⊎ (nat_eq other place ≡ false) → chosen other ≡ side
    by other side e (inl is) =
        let same = eqb-true other place is in
        let now : side_of is_in ≡ side_of side = sym (side_set_same sides place (side_of is_in) (open_within sides place open_place)) ∙ (ap (side_at (set sides place (side_of is_in))) (sym same) ∙ e) in
        ap chosen same ∙ (there ∙ side_of_same is_in side now)
    by other side e (inr is) =
        agrees other side (sym (side_set_other sides place other (side_of is_in) (λ same. true≢false (sym (eq-eqb other place same) ∙ is))) ∙ e)

-- a step more, and the last one taken back
pub leads_push : (rules : List Rule) (start : List Side) (steps : List Step) (sides : List Side) (step : Step) → Leads rules start steps sides → IsStep rules sides step → Leads rules start (steps ++ step ∷ []) (moved sides step)
leads_push rules start [] sides step leads is = (subst (λ (one : List Side). IsStep rules one step) (sym leads) is, ap (λ (one : List Side). moved one step) leads)
leads_push rules start (first ∷ steps) sides step leads is = (leads.0, leads_push rules (moved start first) steps sides step leads.1 is)

pub leads_pop : (rules : List Rule) (start : List Side) (steps : List Step) (sides : List Side) (step : Step) → Leads rules start (steps ++ step ∷ []) sides
    → (before : List Side) × Leads rules start steps before × IsStep rules before step × (moved before step ≡ sides)
leads_pop rules start [] sides step leads = (start, refl, leads.0, leads.1)
leads_pop rules start (first ∷ steps) sides step leads =
    let (before, led, is, after) = leads_pop rules (moved start first) steps sides step leads.1 in
    (before, (leads.0, led), is, after)

pub leads_length : (rules : List Rule) (start : List Side) (steps : List Step) (sides : List Side) → Leads rules start steps sides → length sides ≡ length start
leads_length rules start [] sides leads = ap length (sym leads)
leads_length rules start (step ∷ steps) sides leads = leads_length rules (moved start step) steps sides leads.1 ∙ length-set start step.place (side_of step.is_in)

pub leads_within : (rules : List Rule) (start : List Side) (steps : List Step) (sides : List Side) → Leads rules start steps sides → All (λ (step : Step). step.place < length sides) steps
leads_within rules start [] sides leads = All-nil (λ (step : Step). step.place < length sides)
leads_within rules start (step ∷ steps) sides leads =
    All-cons (λ (one : Step). one.place < length sides) step steps
    (let many = leads_length rules start (step ∷ steps) sides leads in let less = open_within start step.place leads.0.open_place in omega arith)
    (leads_within rules (moved start step) steps sides leads.1)

pub effort_some : (places : ℕ) → 0 < effort places
effort_some zero = omega arith
effort_some (suc places) = let some = effort_some places in omega arith

pub debt_push : (rules : List Rule) (start : List Side) (steps : List Step) (sides : List Side) (step : Step) → Leads rules start steps sides
    → debt start (steps ++ step ∷ []) ≡ debt start steps + cond step.is_tried (effort (opens (moved sides step))) 0
debt_push rules start [] sides step leads =
    let same : cond step.is_tried (effort (opens (moved start step))) 0 ≡ cond step.is_tried (effort (opens (moved sides step))) 0 = ap (λ (one : List Side). cond step.is_tried (effort (opens (moved one step))) 0) leads in
    omega (arith, same)
debt_push rules start (first ∷ steps) sides step leads =
    let rest = debt_push rules (moved start first) steps sides step leads.1 in
    omega (arith, rest)

-- where no choice agrees after a forced step, none did before
dead_before : (rules : List Rule) (before : List Side) (step : Step) → IsStep rules before step → step.is_tried ≡ false → IsDead rules (moved before step) → IsDead rules before
dead_before rules before step is untried dead = λ chosen kept agrees. dead chosen kept (agrees_moved before chosen step.place step.is_in agrees is.open_place (is.forced untried chosen kept agrees))

-- the same place, put in
abbrev pub turned : Step → Step
turned step = record { place = step.place; is_in = true; is_tried = false }

-- where no choice agrees after a trial, its place is in
turned_forced : (rules : List Rule) (before : List Side) (step : Step) → IsStep rules before step → step.is_tried ≡ true → IsDead rules (moved before step) → IsStep rules before (turned step)
turned_forced rules before step is tried dead = record {
  open_place = is.open_place;
  tried = λ e. absurd (true≢false (sym e));
  closed = λ e. absurd (true≢false (sym e));
  forced = λ _ chosen kept agrees. by chosen kept agrees (two_cases (chosen step.place));
}
  where
    by : (chosen : ℕ → Bool) → IsTrue (keeps chosen rules) → Agrees before chosen → (chosen step.place ≡ true) ⊎ (chosen step.place ≡ false) → chosen step.place ≡ true
    by chosen kept agrees (inl e) = e
    by chosen kept agrees (inr e) = absurd (dead chosen kept (agrees_moved before chosen step.place step.is_in agrees is.open_place (e ∙ sym (is.tried tried))))

-- on the way back: the steps that are left lead to sides with which no choice agrees, and owe what all did
pub record IsBack (rules : List Rule) (start : List Side) (old steps : List Step) (sides : List Side) : Type 0 where
  pub leads : Leads rules start steps sides
  pub dead : IsDead rules sides
  pub owes : debt start steps ≡ debt start old

pub back_itself : (rules : List Rule) (start : List Side) (steps : List Step) (sides : List Side) → Leads rules start steps sides → IsDead rules sides → IsBack rules start steps steps sides
back_itself rules start steps sides leads dead = record { leads = leads; dead = dead; owes = refl }

-- a forced step taken back
pub back_more : (rules : List Rule) (start : List Side) (old steps : List Step) (sides : List Side) (fewer : List Step) (step : Step) (after : List Side) → IsBack rules start old steps sides
    → steps ≡ fewer ++ step ∷ [] → after ≡ set sides step.place Open → step.is_tried ≡ false → IsBack rules start old fewer after
back_more rules start old steps sides fewer step after back split undone untried =
    let (before, led, is, made) = leads_pop rules start fewer sides step (subst (λ (one : List Step). Leads rules start one sides) split back.leads) in
    let same : after ≡ before = undone ∙ (ap (λ (one : List Side). set one step.place Open) (sym made) ∙ set_back before step.place (side_of step.is_in) is.open_place) in
    let owed = debt_push rules start fewer before step led in
    record {
      leads = subst (Leads rules start fewer) (sym same) led;
      dead = subst (IsDead rules) (sym same) (dead_before rules before step is untried (subst (IsDead rules) (sym made) back.dead));
      owes = (let none : cond step.is_tried (effort (opens (moved before step))) 0 ≡ 0 = ap (λ t. cond t (effort (opens (moved before step))) 0) untried in
          let whole : debt start steps ≡ debt start (fewer ++ step ∷ []) = ap (debt start) split in
          let own = back.owes in
          omega (arith, none, whole, owed, own));
    }

-- the trial taken back, and its place put in; before it the sides were closed, and the place open
pub back_turned : (rules : List Rule) (start : List Side) (old steps : List Step) (sides : List Side) (fewer : List Step) (step : Step) (after : List Side) → IsBack rules start old steps sides
    → steps ≡ fewer ++ step ∷ [] → after ≡ set sides step.place Open → step.is_tried ≡ true → (last : List Step) (end : List Side) → last ≡ fewer ++ turned step ∷ [] → end ≡ moved after (turned step)
    → Leads rules start last end × (debt start last + effort (opens end) ≡ debt start old) × AreClosed after rules × (side_at after step.place ≡ Open)
back_turned rules start old steps sides fewer step after back split undone tried last end more put =
    let (before, led, is, made) = leads_pop rules start fewer sides step (subst (λ (one : List Step). Leads rules start one sides) split back.leads) in
    let same : after ≡ before = undone ∙ (ap (λ (one : List Side). set one step.place Open) (sym made) ∙ set_back before step.place (side_of step.is_in) is.open_place) in
    let forced = turned_forced rules before step is tried (subst (IsDead rules) (sym made) back.dead) in
    let led' = leads_push rules start fewer before (turned step) led forced in
    let end' : end ≡ moved before (turned step) = put ∙ ap (λ (one : List Side). moved one (turned step)) same in (
      subst (λ (one : List Step). Leads rules start one end) (sym more) (subst (Leads rules start (fewer ++ turned step ∷ [])) (sym end') led'),
      (let owed = debt_push rules start fewer before step led in
          let owed' = debt_push rules start fewer before (turned step) led in
          let some : cond step.is_tried (effort (opens (moved before step))) 0 ≡ effort (opens (moved before step)) = ap (λ t. cond t (effort (opens (moved before step))) 0) tried in
          let whole : debt start steps ≡ debt start (fewer ++ step ∷ []) = ap (debt start) split in
          let now : debt start last ≡ debt start (fewer ++ turned step ∷ []) = ap (debt start) more in
          let fewer_open = opens_set before step.place step.is_in is.open_place in
          let fewer_open' = opens_set before step.place true is.open_place in
          let equal : opens end ≡ opens (moved before step) = ap opens end' ∙ (let count : opens (moved before (turned step)) ≡ opens (moved before step) = omega (arith, fewer_open, fewer_open') in count) in
          let same_effort : effort (opens end) ≡ effort (opens (moved before step)) = ap effort equal in
          let own = back.owes in
          omega (arith, some, whole, now, owed, owed', same_effort, own)),
      subst (λ (one : List Side). AreClosed one rules) (sym same) (is.closed tried),
      subst (λ (one : List Side). side_at one step.place ≡ Open) (sym same) is.open_place,
    )

pub back_none : (rules : List Rule) (start : List Side) (old steps : List Step) (sides : List Side) → IsBack rules start old steps sides → steps ≡ [] → IsDead rules start
back_none rules start old steps sides back none =
    let same : start ≡ sides = subst (λ (one : List Step). Leads rules start one sides) none back.leads in
    subst (IsDead rules) (sym same) back.dead

-- a path extends itself, and goes on by forced steps
pub extends_itself : (rules : List Rule) (path : Path) → Extends rules path path
extends_itself rules path = record { leads = λ start leads. leads; owes = λ start leads. refl; fewer = omega arith }

pub extends_more : (rules : List Rule) (a b c : Path) → Extends rules a b → Extends rules b c → Extends rules a c
extends_more rules a b c one two = record {
  leads = λ start leads. two.leads start (one.leads start leads);
  owes = λ start leads. two.owes start (one.leads start leads) ∙ one.owes start leads;
  fewer = (let first = one.fewer in let second = two.fewer in omega arith);
}

pub extends_step : (rules : List Rule) (old new : Path) (step : Step) → IsStep rules old.sides.items step → step.is_tried ≡ false → new.sides.items ≡ moved old.sides.items step → new.trail.items ≡ old.trail.items ++ step ∷ []
    → Extends rules old new × (opens new.sides.items < opens old.sides.items)
extends_step rules old new step is untried sides trail =
    let fewer = opens_set old.sides.items step.place step.is_in is.open_place in
    let now = ap opens sides in (
      record {
        leads = λ start leads. subst (λ (one : List Step). Leads rules start one new.sides.items) (sym trail) (subst (Leads rules start (old.trail.items ++ step ∷ [])) (sym sides) (leads_push rules start old.trail.items old.sides.items step leads is));
        owes = λ start leads.
            let owed = debt_push rules start old.trail.items old.sides.items step leads in
            let none : cond step.is_tried (effort (opens (moved old.sides.items step))) 0 ≡ 0 = ap (λ t. cond t (effort (opens (moved old.sides.items step))) 0) untried in
            let whole = ap (debt start) trail in
            omega (arith, owed, none, whole);
        fewer = omega (arith, fewer, now);
      },
      omega (arith, fewer, now),
    )

-- with the last step taken back, the steps that are left are within the same places
pub within_fewer : (steps fewer : List Step) (step : Step) (sides after : List Side) → steps ≡ fewer ++ step ∷ [] → after ≡ set sides step.place Open → All (λ (one : Step). one.place < length sides) steps → All (λ (one : Step). one.place < length after) fewer
within_fewer steps fewer step sides after split undone within = λ k d less.
    let size : length after ≡ length sides = ap length undone ∙ length-set sides step.place Open in
    let whole : length steps ≡ length (fewer ++ step ∷ []) = ap length split in
    let count = length-append fewer (step ∷ []) in
    let same : get_or steps k d ≡ get_or fewer k d = ap (λ (one : List Step). get_or one k d) split ∙ get_or-append fewer (step ∷ []) d k less in
    let place : (get_or steps k d).place ≡ (get_or fewer k d).place = ap (λ (one : Step). one.place) same in
    let bound : (get_or steps k d).place < length sides = within k d (omega (arith, whole, count, less)) in
    omega (arith, size, place, bound)
