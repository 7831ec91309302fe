-- What is answered to one who claims an open node, and to one who brings back what he found there.
use Rattle.std.specs.Arc.{arc_value}
use Rattle.std.specs.Prelude.{ℕ, suc, List, None, Option, Some, [], length, slice_get, ◌++◌, ◌∷◌, ◌≡◌}
use Rattle.mg_word.specs.Facts.{ProblemData}
use Rattle.mg_word.specs.declared.lit.Lit.{Lit}
use Rattle.case_split.specs.declared.child.Child.{Child}
use Rattle.case_split.specs.declared.child.Closure.{Closure}
use Rattle.model_extend.specs.Branches.{AreBranch}
use Rattle.model_extend.specs.Steps.{StepData}
use Rattle.model_extend.specs.declared.step.Found.{Found}
use Rattle.model_extend.specs.declared.step.Found.TheVariants.{Extend as ExtendBy, Heavy as HeavyBy, Reject as RejectBy, Saturated as NoneFound}
use Rattle.tree_board.specs.declared.commit.Claim.{Claim}
use Rattle.tree_board.specs.declared.commit.Claim.TheVariants.{ByLemma as ClaimByLemma, Covered as ClaimCovered, Settled as ClaimSettled, Task}
use Rattle.tree_board.specs.declared.commit.Commit.{Commit}
use Rattle.tree_board.specs.declared.commit.Commit.TheVariants.{ByLemma as CommitByLemma, Covered as CommitCovered, Done, Foreign, Late, Spent}
use Rattle.tree_board.specs.declared.event.Event.{Event}
use Rattle.tree_board.specs.declared.event.Event.TheVariants.{ByLemma, Covered as CoveredBy, Extend, Heavy as TooHeavy, Reject, Saturated}
use Rattle.tree_board.specs.declared.quick.Quick.{Quick}
use Rattle.tree_board.specs.declared.quick.Quick.TheVariants.{ByLemma as QuickByLemma, Covered as QuickCovered}
use Rattle.tree_board.specs.Boards.{Board, count}
use Rattle.tree_board.specs.Effects.{born}
use Rattle.tree_board.specs.Lawful.{IsLawful}
use Rattle.tree_board.specs.Nodes.{Node}
use Rattle.tree_board.specs.OpenLists.{open_numbers}
use Rattle.tree_board.specs.Quick.{IsOpenWith}
use Rattle.tree_board.specs.Searches.{Search, board_of, setting_of}
use Rattle.tree_board.specs.Settling.{IsOpenAt, IsUntouched}

-- no open node has this number
abbrev pub IsSettled : Board → ℕ → Type 0
IsSettled board number = IsOpenAt board number → ⊥

-- the search with an event more
abbrev pub with_event : Search → Event → Search
with_event search event = record search { journal = search.journal ++ event ∷ [] }

-- the event may come next, and has come
pub record HasSettled (before after : Search) (event : Event) : Type 0 where
  pub lawful : IsLawful (setting_of before) (board_of before) event
  pub now : after ≡ with_event before event

-- what is to be looked at: the literals and the barred set of an open node that no kept lemma and no found set settles;
-- a branch of the problem can be moved to the literals
pub record IsTask (search : Search) (number : ℕ) (problem : ProblemData) (lits barred : List Lit) (weight : ℕ) : Type 0 where
  pub opened : IsOpenWith (board_of search) number lits barred
  pub untouched : IsUntouched (setting_of search) (board_of search) number
  pub problem_same : problem ≡ search.problem
  pub weight_same : weight ≡ search.limits.weight
  pub branch : AreBranch problem lits

-- what a claim of this node is answered, and the search after it
abbrev pub Claims : Search → ℕ → Claim → Search → Type 0
Claims before number ClaimSettled after = IsSettled (board_of before) number × (after ≡ before)
Claims before number (ClaimByLemma lemma) after = HasSettled before after (ByLemma number lemma)
Claims before number (ClaimCovered by) after = HasSettled before after (CoveredBy number by)
Claims before number (Task problem lits barred weight) after = IsTask before number (arc_value problem) lits barred weight × (after ≡ before)

-- ---- steps

-- the step is that of a node of the search with these literals and this barred set
pub record IsStepWith (search : Search) (lits barred : List Lit) (step : StepData) : Type 0 where
  pub problem_same : step.problem ≡ search.problem
  pub lits_same : step.lits ≡ lits
  pub barred_same : step.barred ≡ barred
  pub weight_same : step.weight ≡ search.limits.weight

-- the step is that of the open node with this number
pub record IsOwnStep (search : Search) (number : ℕ) (step : StepData) : Type 0 where
  pub lits : List Lit
  pub barred : List Lit
  pub opened : IsOpenWith (board_of search) number lits barred
  pub same : IsStepWith search lits barred step

-- the event by which what was found settles the node
abbrev pub event_found : ℕ → Found → Event
event_found number (ExtendBy inst) = Extend number inst
event_found number (RejectBy inst) = Reject number inst
event_found number NoneFound = Saturated number
event_found number (HeavyBy inst) = TooHeavy number inst

abbrev pub IsExtension : Found → Type 0
IsExtension (ExtendBy inst) = Unit {0}
IsExtension (RejectBy inst) = ⊥
IsExtension NoneFound = ⊥
IsExtension (HeavyBy inst) = ⊥

-- what was found is an extension, and the budget is spent
abbrev pub IsSpent : Search → Found → Type 0
IsSpent search found = IsExtension found × (count (board_of search) ≡ search.limits.budget)

-- the numbers of the open children that the event makes
abbrev pub AreNewOpen : Board → ℕ → Event → List ℕ → Type 0
AreNewOpen board number event numbers = (node : Node) → slice_get board.nodes number ≡ Some node → numbers ≡ open_numbers (length board.nodes) (born board node event)

-- what a commit of this step at this node is answered, and the search after it
abbrev pub Commits : Search → ℕ → StepData → Commit → Search → Type 0
Commits before number step Late after = IsSettled (board_of before) number × (after ≡ before)
Commits before number step Foreign after = IsOpenAt (board_of before) number × (IsOwnStep before number step → ⊥) × (after ≡ before)
Commits before number step (CommitByLemma lemma) after = IsOwnStep before number step × HasSettled before after (ByLemma number lemma)
Commits before number step (CommitCovered by) after = IsOwnStep before number step × HasSettled before after (CoveredBy number by)
Commits before number step Spent after = IsOwnStep before number step × IsUntouched (setting_of before) (board_of before) number × IsSpent before step.found × (after ≡ before)
Commits before number step (Done numbers) after =
    IsOwnStep before number step × HasSettled before after (event_found number step.found) × AreNewOpen (board_of before) number (event_found number step.found) numbers.items

-- ---- parts

-- the event of a kept lemma or a found set
abbrev pub quick_event : ℕ → Quick → Event
quick_event number (QuickByLemma lemma) = ByLemma number lemma
quick_event number (QuickCovered by) = CoveredBy number by

-- what settles the node at once, if anything does
abbrev pub IsQuickAt : Search → ℕ → Option Quick → Type 0
IsQuickAt search number None = IsUntouched (setting_of search) (board_of search) number
IsQuickAt search number (Some quick) = IsLawful (setting_of search) (board_of search) (quick_event number quick)

abbrev pub open_case : Option Closure → ℕ → List ℕ → List ℕ
open_case None number more = number ∷ more
open_case (Some closure) number more = more

-- of cases that are numbered from there, those that are not closed at once
abbrev pub open_cases : ℕ → List Child → List ℕ
open_cases first [] = []
open_cases first (one ∷ more) = open_case one.at_once first (open_cases (suc first) more)
