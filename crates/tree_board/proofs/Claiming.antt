-- Claims and commits, by the lists of the board.
use Rattle.std.proofs.Common.{◌≡◌, ◌+◌, ◌<◌, ◌≤◌, ◌^◌, ◌↔◌, ℕ, zero, suc, Bool, true, false, true≢false, IsTrue, List, [], ◌∷◌, ◌++◌, length, nat_le, take, get_or, slice_get, Option, Some, None, option_map, refl, sym, ap, ap₂, subst, ◌∙◌, arith}
use Rattle.std.specs.Option.{option_map_or}
use Rattle.std.specs.Ordering.{is_eq}
use Rattle.std.proofs.lemmas.Bool.{le-leb, leb-false, leb-true}
use Rattle.std.proofs.lemmas.Cmp.{tied_itself}
use Rattle.mg_word.specs.OrderLaws.{is_tie, lits_same, lits_total}
use Rattle.mg_word.specs.Orders.{lits_cmp}
use Rattle.mg_word.specs.Facts.{IsProblem, ProblemData}
use Rattle.mg_word.specs.Sets.{with_lit}
use Rattle.mg_word.specs.declared.lit.Lit.{Lit}
use Rattle.mg_word.specs.declared.form.Inst.{Inst}
use Rattle.mg_meaning.specs.Folding.{Pair}
use Rattle.case_split.specs.Splitting.{children_of as cases_of}
use Rattle.case_split.specs.declared.child.Child.{Child}
use Rattle.case_split.specs.declared.child.Closure.{Closure}
use Rattle.model_extend.specs.Branches.{AreBranch}
use Rattle.model_extend.specs.Steps.{IsRight, StepData}
use Rattle.model_extend.specs.declared.step.Found.{Found}
use Rattle.model_extend.specs.declared.step.Found.TheVariants.{Extend as ExtendBy, Heavy as HeavyBy, Reject as RejectBy, Saturated as NoneFound}
use Rattle.tree_board.specs.declared.board.TheConstants.{MOST_BUDGET}
use Rattle.tree_board.specs.declared.cell.Cell.{Cell}
use Rattle.tree_board.specs.declared.event.Event.{Event}
use Rattle.tree_board.specs.declared.event.Event.TheVariants.{ByLemma, Covered as CoveredBy, Extend, Heavy as TooHeavy, Reject, Saturated}
use Rattle.tree_board.specs.declared.quick.Quick.{Quick}
use Rattle.tree_board.specs.declared.quick.Quick.TheVariants.{ByLemma as QuickByLemma, Covered as QuickCovered}
use Rattle.tree_board.specs.Boards.{Board, count}
use Rattle.tree_board.specs.CellStanding.{is_open_yet}
use Rattle.tree_board.specs.Children.{nodes_of_cases}
use Rattle.tree_board.specs.Claims.{AreNewOpen, IsExtension, IsOwnStep, IsQuickAt, IsStepWith, IsTask, event_found, open_case, open_cases, quick_event}
use Rattle.tree_board.specs.declared.tally.Tally.{Tally}
use Rattle.tree_board.specs.Keeping.{IsKeeping}
use Rattle.tree_board.specs.Lawful.{IsLawful, IsReplay, cover_for, lemma_for}
use Rattle.tree_board.specs.NodeStates.{Open, is_open}
use Rattle.tree_board.specs.Nodes.{Node}
use Rattle.tree_board.specs.OpenLists.{open_numbers}
use Rattle.tree_board.specs.Quick.{IsOpenWith}
use Rattle.tree_board.specs.Searches.{Search, board_of, setting_of}
use Rattle.tree_board.specs.Settings.{Setting}
use Rattle.tree_board.specs.Settling.{IsOpenAt, IsSettling, IsUntouched}
use Rattle.tree_board.proofs.Bounds.{boards_bounded, few_conclusions}
use Rattle.tree_board.proofs.Budgets.{within_budget}
use Rattle.tree_board.proofs.Counting.{open_state}
use Rattle.tree_board.proofs.Kept.{cell_at, no_cell, open_same, replay_kept}
use Rattle.tree_board.proofs.NodeBranches.{open_branch}
use Rattle.tree_board.proofs.Places.{same_some, some_none}
use Rattle.tree_board.proofs.QuickSettling.{same_node}

-- ---- open nodes

module _ (value : Search) (cells : List Cell) (closures : List Closure) (lemmas : List Pair) (lemma_nodes : List ℕ) (tally : Tally) (keeping : IsKeeping value cells closures lemmas lemma_nodes tally) where
  pub open_exactly : (number : ℕ) (answer : Bool) → answer ≡ option_map_or (λ (cell : Cell). is_open_yet cell.settled) (slice_get cells number) false → IsTrue answer ↔ IsOpenAt (board_of value) number
  open_exactly number answer is = by (slice_get (board_of value).nodes number) refl
    where
      by : (found : Option Node) → slice_get (board_of value).nodes number ≡ found → IsTrue answer ↔ IsOpenAt (board_of value) number
      by None past =
          let not : answer ≡ false = is ∙ ap (λ (cell : Option Cell). option_map_or (λ (one : Cell). is_open_yet one.settled) cell false) (no_cell value.journal closures (board_of value).kept 0 cells (board_of value).nodes keeping.stand.nodes number past) in
          (λ holds. absurd (true≢false (sym holds ∙ not)), λ opened. absurd (some_none opened.node (slice_get (board_of value).nodes number) opened.is past))
      by (Some node) at =
          let (cell, cell_is, stands) = cell_at value.journal closures (board_of value).kept 0 cells (board_of value).nodes keeping.stand.nodes number node at in
          let same : answer ≡ is_open node.state =
          is ∙ (ap (λ (one : Option Cell). option_map_or (λ (two : Cell). is_open_yet two.settled) one false) cell_is ∙ open_same value.journal closures (board_of value).kept (0 + number) cell.settled node.state stands.settled) in (
            λ holds. record { node = node; is = at; opened = open_state node.state (sym same ∙ holds) },
            λ opened. same ∙ (ap (λ (one : Node). is_open one.state) (same_some node opened.node (sym at ∙ opened.is)) ∙ ap is_open opened.opened),
          )

  -- what is to be looked at at an open node
  pub task_is : (number : ℕ) (lits barred : List Lit) → IsOpenWith (board_of value) number lits barred → IsUntouched (setting_of value) (board_of value) number → (problem : ProblemData) → problem ≡ value.problem → (weight : ℕ) → weight ≡ value.limits.weight → (own : List Lit) → own ≡ lits
      → IsTask value number problem own barred weight
  task_is number lits barred opened untouched problem problem_same weight weight_same own own_is =
      let branch = open_branch (setting_of value) (board_of value) keeping.problem (replay_kept value cells closures lemmas lemma_nodes tally keeping) keeping.budget keeping.weight number opened.node opened.is opened.opened in
      record {
        opened = subst (λ held. IsOpenWith (board_of value) number held barred) (sym own_is) opened;
        untouched = untouched;
        problem_same = problem_same;
        weight_same = weight_same;
        branch = subst (λ one. AreBranch one own) (sym problem_same) (subst (AreBranch value.problem) (opened.held ∙ sym own_is) branch);
      }

  -- the budget is spent exactly where it is not above the count
  spent_exactly : (answer : Bool) → (answer ≡ true → value.limits.budget ≤ tally.extensions) → (value.limits.budget ≤ tally.extensions → answer ≡ true) → IsTrue answer ↔ (count (board_of value) ≡ value.limits.budget)
  spent_exactly answer there back =
      let most = within_budget (setting_of value) (board_of value) (replay_kept value cells closures lemmas lemma_nodes tally keeping) in
      let own = keeping.count in
      (λ holds. let least = there holds in omega (arith, most, own, least), λ same. back (omega (arith, own, same)))

  pub spent_here : IsTrue (nat_le value.limits.budget tally.extensions) ↔ (Unit {0} × (count (board_of value) ≡ value.limits.budget))
  spent_here =
      let both = spent_exactly (nat_le value.limits.budget tally.extensions) (leb-true value.limits.budget tally.extensions) (le-leb value.limits.budget tally.extensions) in
      (λ holds. (tt, both.0 holds), λ spent. both.1 spent.1)

  pub room_here : nat_le value.limits.budget tally.extensions ≡ false → count (board_of value) < value.limits.budget
  room_here not = let less = leb-false value.limits.budget tally.extensions not in let own = keeping.count in omega (arith, less, own)

-- ---- steps

pub same_exactly : (these those : List Lit) (answer : Bool) → answer ≡ is_eq (lits_cmp these those) → IsTrue answer ↔ (these ≡ those)
same_exactly these those answer is = (
  λ holds. lits_same these those (is_tie (lits_cmp these those) (sym is ∙ holds)),
  λ same. is ∙ (ap (λ lits. is_eq (lits_cmp these lits)) (sym same) ∙ ap is_eq (tied_itself lits_total these)),
)

-- the step of an open node with these literals and this barred set is that of the node
pub own_step : (search : Search) (number : ℕ) (lits barred : List Lit) (step : StepData) → IsOpenWith (board_of search) number lits barred → IsStepWith search lits barred step → IsOwnStep search number step
own_step search number lits barred step opened same = record { lits = lits; barred = barred; opened = opened; same = same }

-- and the other way
pub step_of_node : (search : Search) (number : ℕ) (lits barred : List Lit) (step : StepData) → IsOpenWith (board_of search) number lits barred → IsOwnStep search number step → IsStepWith search lits barred step
step_of_node search number lits barred step opened own =
    let node = same_node (board_of search) number own.lits own.barred own.opened opened.node opened.is in
    let same = own.same in
    record {
      problem_same = same.problem_same;
      lits_same = same.lits_same ∙ (sym own.opened.held ∙ (ap (λ (one : Node). one.lits) node ∙ opened.held));
      barred_same = same.barred_same ∙ (sym own.opened.bars ∙ (ap (λ (one : Node). one.barred) node ∙ opened.bars));
      weight_same = same.weight_same;
    }

-- what is rightly found at an open node that nothing settles at once is lawful, where there is room
lawful_by : (search : Search) (number : ℕ) (node : Node) → slice_get (board_of search).nodes number ≡ Some node → node.state ≡ Open → lemma_for (board_of search) node ≡ None → cover_for search.mode (board_of search) node ≡ None
    → (found : Found) → IsRight search.problem node.lits search.limits.weight found → (IsExtension found → count (board_of search) < search.limits.budget) → IsLawful (setting_of search) (board_of search) (event_found number found)
lawful_by search number node at opened no_lemma no_cover (ExtendBy inst) right room = record { node = node; is = at; opened = opened; due = (no_lemma, no_cover, right.0, right.1, right.2, room tt) }
lawful_by search number node at opened no_lemma no_cover (RejectBy inst) right room = record { node = node; is = at; opened = opened; due = (no_lemma, no_cover, right.0, right.1) }
lawful_by search number node at opened no_lemma no_cover NoneFound right room = record { node = node; is = at; opened = opened; due = (no_lemma, no_cover, right) }
lawful_by search number node at opened no_lemma no_cover (HeavyBy inst) right room = record { node = node; is = at; opened = opened; due = (no_lemma, no_cover, right.0, right.1) }

pub found_lawful : (search : Search) (number : ℕ) (lits barred : List Lit) (step : StepData) → IsOpenWith (board_of search) number lits barred → IsUntouched (setting_of search) (board_of search) number → IsStepWith search lits barred step
    → IsRight step.problem step.lits step.weight step.found → (IsExtension step.found → count (board_of search) < search.limits.budget) → IsLawful (setting_of search) (board_of search) (event_found number step.found)
found_lawful search number lits barred step opened untouched same right room =
    let (no_lemma, no_cover) = untouched opened.node opened.is in
    let own : IsRight search.problem opened.node.lits search.limits.weight step.found =
    subst (λ problem. IsRight problem opened.node.lits search.limits.weight step.found) same.problem_same
    (subst (λ held. IsRight step.problem held search.limits.weight step.found) (same.lits_same ∙ sym opened.held)
    (subst (λ weight. IsRight step.problem step.lits weight step.found) same.weight_same right)) in
    lawful_by search number opened.node opened.is opened.opened no_lemma no_cover step.found own room

-- ---- new open children

pub cases_open : (first : ℕ) (path : List ℕ) (lits : List Lit) (cases : List Child) → open_numbers first (nodes_of_cases first path lits cases) ≡ open_cases first cases
cases_open first path lits [] = refl
cases_open first path lits (one ∷ more) = by one.at_once (cases_open (suc first) path lits more)
  where
    by : (at_once : Option Closure) → open_numbers (suc first) (nodes_of_cases (suc first) path lits more) ≡ open_cases (suc first) more
        → open_numbers first (nodes_of_cases first path lits (record { lit = one.lit; barred = one.barred; at_once = at_once } ∷ more)) ≡ open_case at_once first (open_cases (suc first) more)
    by None rest = ap (λ numbers. first ∷ numbers) rest
    by (Some closure) rest = rest

pub extend_opens : (board : Board) (number place : ℕ) (lits barred : List Lit) → IsOpenWith board number lits barred → (inst : Inst) (numbers : List ℕ) → numbers ≡ open_cases (length board.nodes) (cases_of lits barred inst.conclusions) → AreNewOpen board number (Extend place inst) numbers
extend_opens board number place lits barred opened inst numbers is node at =
    let own : opened.node ≡ node = same_node board number lits barred opened node at in
    is
    ∙ (ap₂ (λ held bars. open_cases (length board.nodes) (cases_of held bars inst.conclusions)) (sym opened.held ∙ ap (λ (one : Node). one.lits) own) (sym opened.bars ∙ ap (λ (one : Node). one.barred) own)
    ∙ sym (cases_open (length board.nodes) node.path node.lits (cases_of node.lits node.barred inst.conclusions)))

pub others_open_none : (board : Board) (number : ℕ) (event : Event) → ((place : ℕ) (inst : Inst) → event ≡ Extend place inst → ⊥) → (numbers : List ℕ) → numbers ≡ [] → AreNewOpen board number event numbers
others_open_none board number (Extend place inst) not numbers none node at = absurd (not place inst refl)
others_open_none board number (Reject place inst) not numbers none node at = none
others_open_none board number (ByLemma place lemma) not numbers none node at = none
others_open_none board number (Saturated place) not numbers none node at = none
others_open_none board number (CoveredBy place cover) not numbers none node at = none
others_open_none board number (TooHeavy place inst) not numbers none node at = none

cases_length : (held barred conclusions : List Lit) → length (cases_of held barred conclusions) ≡ length conclusions
cases_length held barred [] = refl
cases_length held barred (lit ∷ more) = ap suc (cases_length held (with_lit barred lit) more)

-- the numbers of the children fit
pub children_fit : (setting : Setting) (board : Board) → IsProblem setting.problem → IsReplay setting board → setting.limits.budget ≤ MOST_BUDGET → (place : ℕ) (inst : Inst) → IsLawful setting board (Extend place inst) → (held barred : List Lit) (cases : List Child) → cases ≡ cases_of held barred inst.conclusions
    → length board.nodes + length cases < 2 ^ 32
children_fit setting board real replay most place inst lawful held barred cases is =
    let few = few_conclusions setting.problem real inst lawful.due.2.instance in
    let room = lawful.due.5 in
    let nodes = (boards_bounded setting board real replay).nodes in
    let size : length cases ≡ length inst.conclusions = ap length is ∙ cases_length held barred inst.conclusions in
    omega (arith, few, room, nodes, size, most)

-- one case further
pub open_cases_more : (first : ℕ) (cases : List Child) (i : ℕ) (blank : Child) → i < length cases → open_cases first (take (i + 1) cases) ≡ open_cases first (take i cases) ++ open_case (get_or cases i blank).at_once (first + i) []
open_cases_more first [] i blank small = absurd (omega (arith, small))
open_cases_more first (one ∷ more) zero blank small = by one.at_once
  where
    by : (at_once : Option Closure) → open_case at_once first [] ≡ open_case at_once (first + 0) []
    by None = ap (λ n. n ∷ []) (let e : first ≡ first + 0 = omega arith in e)
    by (Some closure) = refl
open_cases_more first (one ∷ more) (suc i) blank small =
    ap (λ n. open_cases first (take n (one ∷ more))) (let e : suc i + 1 ≡ suc (i + 1) = omega arith in e) ∙ by one.at_once (open_cases_more (suc first) more i blank (omega (arith, small)))
  where
    by : (at_once : Option Closure) → open_cases (suc first) (take (i + 1) more) ≡ open_cases (suc first) (take i more) ++ open_case (get_or more i blank).at_once (suc first + i) []
        → open_case at_once first (open_cases (suc first) (take (i + 1) more)) ≡ open_case at_once first (open_cases (suc first) (take i more)) ++ open_case (get_or more i blank).at_once (first + suc i) []
    by None rest = ap (λ numbers. first ∷ numbers) (rest ∙ ap (λ n. open_cases (suc first) (take i more) ++ open_case (get_or more i blank).at_once n []) (let e : suc first + i ≡ first + suc i = omega arith in e))
    by (Some closure) rest = rest ∙ ap (λ n. open_cases (suc first) (take i more) ++ open_case (get_or more i blank).at_once n []) (let e : suc first + i ≡ first + suc i = omega arith in e)
