-- One worker under way.
use Rattle.std.specs.Prelude.{ℕ, suc, Bool, List, None, Option, Some, [], cond, false, not, slice_get, true, ◌&&◌, ◌++◌, ◌≡◌, ◌≢◌, ◌∷◌, ◌≤◌, ◌⊎◌}
use Rattle.mg_word.specs.Facts.{IsProblem}
use Rattle.mg_word.specs.declared.form.Inst.{Inst}
use Rattle.mg_word.specs.declared.lit.Lit.{Lit}
use Rattle.mg_meaning.specs.Violation.{IsLeast, weight_of}
use Rattle.model_extend.specs.Steps.{IsRight}
use Rattle.model_extend.specs.declared.step.Found.{Found as Finding}
use Rattle.model_extend.specs.declared.step.Found.TheVariants.{Extend as ExtendBy, Reject as RejectBy, Saturated as NoneFound, Heavy as HeavyBy}
use Rattle.tree_board.specs.declared.board.TheConstants.{MOST_BUDGET, MOST_WEIGHT}
use Rattle.tree_board.specs.declared.event.Event.{Event}
use Rattle.tree_board.specs.declared.event.Event.TheVariants.{ByLemma, Covered as CoveredBy, Extend, Heavy as TooHeavy, Reject, Saturated}
use Rattle.tree_board.specs.declared.mode.Mode.{Mode}
use Rattle.tree_board.specs.declared.mode.Mode.TheVariants.{List as ListAll, Refute}
use Rattle.tree_board.specs.Alone.{MayGoOn}
use Rattle.tree_board.specs.Boards.{Board, count}
use Rattle.tree_board.specs.Claims.{event_found}
use Rattle.tree_board.specs.Effects.{effect}
use Rattle.tree_board.specs.Events.{node_of}
use Rattle.tree_board.specs.Facts.{IsAmong}
use Rattle.tree_board.specs.Lawful.{IsLawful, IsReplay}
use Rattle.tree_board.specs.NodeStates.{Covered, Found, Heavy, NodeState, Open, Rejected, Settled, Shut, Split, is_open}
use Rattle.tree_board.specs.Nodes.{Node}
use Rattle.tree_board.specs.OpenLists.{open_list}
use Rattle.tree_board.specs.Readers.{lits_of}
use Rattle.tree_board.specs.Searches.{Search, board_of, setting_of}
use Rattle.tree_board.specs.Settings.{Setting}
use Rattle.tree_board.specs.Settling.{IsUntouched}
use Rattle.tree_board.specs.Standing.{state_of}
use Rattle.tree_board.specs.TreeOrder.{IsFirstOpen}
use Rattle.tree_board.specs.WorkerLaws.{IsEnd}

-- the event comes before the end, is lawful, and stands at the first open node as long as the search may go on
pub record IsStep (setting : Setting) (board : Board) (event : Event) : Type 0 where
  pub before_end : IsEnd (state_of setting board) → ⊥
  pub lawful : IsLawful setting board event
  pub first : MayGoOn setting board → IsFirstOpen board (node_of event)

abbrev pub AreSteps : Setting → Board → List Event → Type 0
AreSteps setting board [] = Unit {0}
AreSteps setting board (event ∷ events) = IsStep setting board event × AreSteps setting (effect setting board event) events

-- the same search, some steps further
pub record GoesOnTo (before after : Search) : Type 0 where
  pub events : List Event
  pub is : after ≡ record before { journal = before.journal ++ events }
  pub steps : AreSteps (setting_of before) (board_of before) events

-- what each board keeps
pub record IsKnown (setting : Setting) (board : Board) : Type 0 where
  pub real : IsProblem setting.problem
  pub budget : setting.limits.budget ≤ MOST_BUDGET
  pub weight : setting.limits.weight ≤ MOST_WEIGHT
  pub replay : IsReplay setting board

-- the node's least violated instance has conclusions and is not too heavy
pub record AwaitsExtension (setting : Setting) (node : Node) : Type 0 where
  pub inst : Inst
  pub least : IsLeast setting.problem node.lits inst
  pub some : inst.conclusions ≢ []
  pub light : weight_of inst ≤ setting.limits.weight

abbrev pub Awaits : Setting → Board → ℕ → Type 0
Awaits setting board number = (node : Node) → slice_get board.nodes number ≡ Some node → AwaitsExtension setting node

-- the open nodes in tree order are those set aside and then the rest; those set aside wait for an extension and the search may not go on;
-- where nothing changed since, no lemma and no found set settles one of them
pub record IsSearching (setting : Setting) (board : Board) (aside rest : List ℕ) (has_changed : Bool) : Type 0 where
  pub known : IsKnown setting board
  pub before_end : IsEnd (state_of setting board) → ⊥
  pub listed : open_list board ≡ aside ++ rest
  pub await : (number : ℕ) → IsAmong aside number → Awaits setting board number
  pub spent : (aside ≡ []) ⊎ (MayGoOn setting board → ⊥)
  pub untouched : has_changed ≡ false → (number : ℕ) → IsAmong aside number → IsUntouched setting board number

-- all of the rest were looked at: each waits for an extension, and the search may not go on
pub record HaveLooked (setting : Setting) (board : Board) (rest : List ℕ) : Type 0 where
  pub await : (number : ℕ) → IsAmong rest number → Awaits setting board number
  pub spent : (rest ≡ []) ⊎ (MayGoOn setting board → ⊥)

-- what was found is right for the literals of the node with this number
abbrev pub IsFoundAt : Setting → Board → ℕ → Finding → Type 0
IsFoundAt setting board number found = (lits : List Lit) × (lits_of board.nodes number ≡ Some lits) × IsRight setting.problem lits setting.limits.weight found

-- what may come next at the open node with this number: an event, or none where it waits for an extension and the budget is spent
abbrev pub IsNext : Setting → Board → ℕ → Option Event → Type 0
IsNext setting board number None = IsUntouched setting board number × Awaits setting board number × (setting.limits.budget ≤ count board)
IsNext setting board number (Some event) = (node_of event ≡ number) × IsLawful setting board event

-- whether the event makes its node the model that is sought
abbrev pub finds_model : Mode → Event → Bool
finds_model ListAll event = false
finds_model Refute (Saturated number) = true
finds_model Refute (Extend number inst) = false
finds_model Refute (Reject number inst) = false
finds_model Refute (ByLemma number lemma) = false
finds_model Refute (CoveredBy number by) = false
finds_model Refute (TooHeavy number inst) = false

abbrev pub is_extension : Finding → Bool
is_extension (ExtendBy inst) = true
is_extension (RejectBy inst) = false
is_extension NoneFound = false
is_extension (HeavyBy inst) = false

-- the event by which what was found settles the node with this number; an extension only where there is room for it
abbrev pub event_for : Finding → ℕ → Bool → Option Event
event_for found number has_room = cond (is_extension found && not has_room) None (Some (event_found number found))

-- so many numbers from the first
abbrev pub numbers_after : ℕ → List Lit → List ℕ
numbers_after first [] = []
numbers_after first (lit ∷ lits) = first ∷ numbers_after (suc first) lits

abbrev pub children_by : NodeState → List ℕ
children_by (Split inst first) = numbers_after first inst.conclusions
children_by Open = []
children_by (Rejected inst) = []
children_by (Settled lemma) = []
children_by (Shut closure) = []
children_by Found = []
children_by (Covered by) = []
children_by (Heavy inst) = []

abbrev pub children_of_node : Option Node → List ℕ
children_of_node None = []
children_of_node (Some node) = children_by node.state

-- the children of the node with this number, one for each conclusion
abbrev pub children_at : List Node → ℕ → List ℕ
children_at nodes number = children_of_node (slice_get nodes number)

-- the number of an open node, and of another none
abbrev pub number_if : Bool → ℕ → List ℕ
number_if true number = number ∷ []
number_if false number = []

abbrev pub number_by : Option Node → ℕ → List ℕ
number_by None number = []
number_by (Some node) number = number_if (is_open node.state) number

-- the number alone, if the node with it is open
abbrev pub number_if_open : List Node → ℕ → List ℕ
number_if_open nodes number = number_by (slice_get nodes number) number
