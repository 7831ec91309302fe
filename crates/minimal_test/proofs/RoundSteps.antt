-- Rounds of the search, put together from their steps.
use Rattle.std.proofs.Common.{◌≡◌, ℕ, zero, suc, ◌*◌, ◌<◌, ◌≤◌, Bool, true, false, true≢false, MatchBool, IfOk, Result, Ok, Err, List, [], ◌∷◌, ◌++◌, length, All, sym, ap, subst, arith}
use Rattle.minimal_test.specs.declared.rule.Rule.{Rule}
use Rattle.minimal_test.specs.declared.side.Side.{Side}
use Rattle.minimal_test.specs.declared.side.Side.TheVariants.{Open}
use Rattle.minimal_test.specs.declared.path.Step.{Step}
use Rattle.minimal_test.specs.declared.path.Path.{Path}
use Rattle.minimal_test.specs.declared.search.Round.TheVariants.{Found, Exhausted, Further}
use Rattle.minimal_test.specs.Choices.{side_at}
use Rattle.minimal_test.specs.Findings.{has_conflict, AreClosed, AreFull}
use Rattle.minimal_test.specs.Paths.{IsDead, moved, Leads, opens, effort, debt, Extends}
use Rattle.minimal_test.specs.Rounds.{IsFlipped, IsRound}
use Rattle.minimal_test.specs.Settled.{IsHandedOn, IsBegun}
use Rattle.minimal_test.proofs.PathSteps.{leads_push, leads_within, debt_push, opens_set, effort_some}
use Rattle.minimal_test.proofs.FindingSteps.{tried_step, conflict_dead, closed_keeps}
use Rattle.minimal_test.proofs.SettleSteps.{settled_after, handed_put}

effort_grows : (a b : ℕ) → a ≤ b → effort a ≤ effort b
effort_grows zero b less = let some = effort_some b in omega arith
effort_grows (suc a) zero less = absurd (omega arith)
effort_grows (suc a) (suc b) less = let rest = effort_grows a b (omega arith) in omega arith

-- the path before the way back is within its places
pub round_within : (rules : List Rule) (old mid : Path) → (start : List Side) × Leads rules start old.trail.items old.sides.items → Extends rules old mid → All (λ (step : Step). step.place < length mid.sides.items) mid.trail.items
round_within rules old mid reached extends = leads_within rules reached.0 mid.trail.items mid.sides.items (extends.leads reached.0 reached.1)

-- a trial
pub round_tried : (rules : List Rule) (old mid new : Path) (sides : List Side) (place : ℕ) → Extends rules old mid → AreClosed mid.sides.items rules → mid.handed ≤ length mid.trail.items → sides ≡ mid.sides.items → side_at sides place ≡ Open
    → new.sides.items ≡ moved mid.sides.items (record { place = place; is_in = false; is_tried = true }) → new.trail.items ≡ mid.trail.items ++ record { place = place; is_in = false; is_tried = true } ∷ [] → new.handed ≡ mid.handed → IsRound rules old new Further
round_tried rules old mid new sides place extends closed handed same open_place put trail cursor = λ start leads.
    let own : side_at mid.sides.items place ≡ Open = subst (λ (one : List Side). side_at one place ≡ Open) same open_place in
    let trial : Step = record { place = place; is_in = false; is_tried = true } in
    let led = extends.leads start leads in
    let step = tried_step rules mid.sides.items place own closed in
    let on = leads_push rules start mid.trail.items mid.sides.items trial led step in (
      record {
        leads = subst (λ (one : List Step). Leads rules start one new.sides.items) (sym trail) (subst (Leads rules start (mid.trail.items ++ trial ∷ [])) (sym put) on);
        settled = settled_after rules mid new trial closed own handed put trail cursor;
        handed = handed_put mid new trial handed trail cursor;
      },
      (let debt_now = debt_push rules start mid.trail.items mid.sides.items trial led in
          let whole : debt start new.trail.items ≡ debt start (mid.trail.items ++ trial ∷ []) = ap (debt start) trail in
          let was = extends.owes start leads in
          let count : opens mid.sides.items ≡ suc (opens (moved mid.sides.items trial)) = opens_set mid.sides.items place false own in
          let now : effort (opens new.sides.items) ≡ effort (opens (moved mid.sides.items trial)) = ap (λ (one : List Side). effort (opens one)) put in
          let thrice : effort (opens mid.sides.items) ≡ 3 * effort (opens (moved mid.sides.items trial)) = ap effort count in
          let grown = effort_grows (opens mid.sides.items) (opens old.sides.items) extends.fewer in
          let some = effort_some (opens (moved mid.sides.items trial)) in
          omega (arith, debt_now, whole, was, now, thrice, grown, some)),
    )

-- the way back to a trial
pub round_flipped : (rules : List Rule) (old mid new : Path) → Extends rules old mid → has_conflict mid.sides.items rules ≡ true
    → ((some : List Rule) (start : List Side) → Leads some start mid.trail.items mid.sides.items → IsDead some mid.sides.items → IsFlipped some start mid new true) → IsRound rules old new Further
round_flipped rules old mid new extends conflict flipped = λ start leads.
    let back = flipped rules start (extends.leads start leads) (conflict_dead mid.sides.items rules conflict) in
    let was = extends.owes start leads in
    let some = effort_some (opens old.sides.items) in
    let now = back.1 in
    (back.0, omega (arith, was, some, now))

-- or to the start
pub round_exhausted : (rules : List Rule) (old mid new : Path) → Extends rules old mid → has_conflict mid.sides.items rules ≡ true
    → ((some : List Rule) (start : List Side) → Leads some start mid.trail.items mid.sides.items → IsDead some mid.sides.items → IsFlipped some start mid new false) → IsRound rules old new Exhausted
round_exhausted rules old mid new extends conflict flipped = λ start leads. flipped rules start (extends.leads start leads) (conflict_dead mid.sides.items rules conflict)

-- the start: all rules are settled, or a step is taken back
pub begun_settled : (rules : List Rule) (old new : Path) (start : List Side) → Extends rules old new → IsHandedOn rules old new true → Leads rules start old.trail.items old.sides.items → IsBegun rules start new true
begun_settled rules old new start extends on leads = record { leads = extends.leads start leads; settled = on.0; handed = on.1 }

pub begun_flipped : (rules : List Rule) (old mid new : Path) (start : List Side) (flipped : Bool) → Extends rules old mid → has_conflict mid.sides.items rules ≡ true
    → ((some : List Rule) (start : List Side) → Leads some start mid.trail.items mid.sides.items → IsDead some mid.sides.items → IsFlipped some start mid new flipped) → Leads rules start old.trail.items old.sides.items → IsBegun rules start new flipped
begun_flipped rules old mid new start true extends conflict back leads = (back rules start (extends.leads start leads) (conflict_dead mid.sides.items rules conflict)).0
begun_flipped rules old mid new start false extends conflict back leads = back rules start (extends.leads start leads) (conflict_dead mid.sides.items rules conflict)

pub start_leads : (rules : List Rule) (start : List Side) (path : Path) → path.sides.items ≡ start → path.trail.items ≡ [] → Leads rules start path.trail.items path.sides.items
start_leads rules start path same none = subst (λ (steps : List Step). Leads rules start steps path.sides.items) (sym none) (sym same)

pub if_ok_more : {X E : Type 0} (P Q : X → Type 0) (result : Result X E) → ((x : X) → P x → Q x) → IfOk result P → IfOk result Q
if_ok_more P Q (Ok x) more is = more x is
if_ok_more P Q (Err e) more is = is

-- closed sides without an open place
pub round_found : (rules : List Rule) (old new : Path) (sides : List Side) → sides ≡ new.sides.items → AreClosed new.sides.items rules → AreFull sides → IsRound rules old new Found
round_found rules old new sides same closed full = closed_keeps new.sides.items rules closed (subst AreFull same full)

-- the fact of the one answer, and of the other
pub match_true : (P Q : Type 0) (b : Bool) → b ≡ true → MatchBool b P Q → P
match_true P Q true e is = is
match_true P Q false e is = absurd (true≢false (sym e))

pub match_false : (P Q : Type 0) (b : Bool) → b ≡ false → MatchBool b P Q → Q
match_false P Q true e is = absurd (true≢false e)
match_false P Q false e is = is
