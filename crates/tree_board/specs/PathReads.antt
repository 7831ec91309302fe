-- Which kept lemmas and found sets the watch of a path has.
use Rattle.std.specs.Prelude.{ℕ, suc, List, None, Option, Some, [], length, slice_get, ◌<◌, ◌≡◌, ◌≤◌}
use Rattle.mg_meaning.specs.Folding.{Pair}
use Rattle.key_watch.specs.Keys.{keys_of}
use Rattle.key_watch.specs.Owned.{Owned}
use Rattle.key_watch.specs.declared.key.Key.{Key}
use Rattle.key_watch.specs.declared.owner.Owner.{Owner}
use Rattle.key_watch.specs.declared.owner.Owner.TheVariants.{Found as FoundSet, Lemma}
use Rattle.tree_board.specs.declared.event.Event.{Event}
use Rattle.tree_board.specs.declared.event.Event.TheVariants.{ByLemma, Covered as CoveredBy, Extend, Heavy as TooHeavy, Reject, Saturated}
use Rattle.tree_board.specs.declared.mode.Mode.{Mode}
use Rattle.tree_board.specs.declared.mode.Mode.TheVariants.{List as ListAll, Refute}
use Rattle.tree_board.specs.Boards.{Board, pair_at}
use Rattle.tree_board.specs.NodeStates.{Found}
use Rattle.tree_board.specs.Nodes.{Node}
use Rattle.tree_board.specs.Searches.{Search, board_of}

-- the keys of a kept lemma
pub record AreOfLemma (board : Board) (number : ℕ) (keys : List Key) : Type 0 where
  pub pair : Pair
  pub is : pair_at board.kept number ≡ Some pair
  pub keys_are : keys ≡ keys_of pair.inside pair.outside

-- the keys of a found set
pub record AreOfFound (board : Board) (number : ℕ) (keys : List Key) : Type 0 where
  pub node : Node
  pub is : slice_get board.nodes number ≡ Some node
  pub found : node.state ≡ Found
  pub keys_are : keys ≡ keys_of node.lits []

-- the keys are those of their owner; found sets count in mode List alone
abbrev pub AreOwn : Search → Owner → List Key → Type 0
AreOwn search (Lemma number) keys = AreOfLemma (board_of search) number keys
AreOwn search (FoundSet number) keys = (search.mode ≡ ListAll) × AreOfFound (board_of search) number keys

-- the watch has a set of this owner, with the owner's keys
pub record HasSetOf (search : Search) (sets : List (Owned Key)) (owner : Owner) : Type 0 where
  pub place : ℕ
  pub set : Owned Key
  pub is : slice_get sets place ≡ Some set
  pub owned : set.owner ≡ owner
  pub own : AreOwn search owner set.keys

-- the event by which the owner's set settles a node
abbrev pub event_by : ℕ → Owner → Event
event_by number (Lemma lemma) = ByLemma number lemma
event_by number (FoundSet by) = CoveredBy number by

-- in mode List, the node at which the event finds a set
abbrev pub found_by : Mode → Event → Option ℕ
found_by Refute event = None
found_by ListAll (Saturated number) = Some number
found_by ListAll (Extend number inst) = None
found_by ListAll (Reject number inst) = None
found_by ListAll (ByLemma number lemma) = None
found_by ListAll (CoveredBy number by) = None
found_by ListAll (TooHeavy number inst) = None

-- the event was read: a set that it found is there
pub record IsRead (search : Search) (sets : List (Owned Key)) (place : ℕ) : Type 0 where
  pub event : Event
  pub is : slice_get search.journal place ≡ Some event
  pub found : (number : ℕ) → found_by search.mode event ≡ Some number → HasSetOf search sets (FoundSet number)

-- all sets are those of their owners, and so many lemmas and so many events were read
pub record HasRead (search : Search) (sets : List (Owned Key)) (lemmas events : ℕ) : Type 0 where
  pub own : (place : ℕ) (set : Owned Key) → slice_get sets place ≡ Some set → AreOwn search set.owner set.keys
  pub lemma : (number : ℕ) → 0 < number → number ≤ lemmas → HasSetOf search sets (Lemma number)
  pub event : (place : ℕ) → place < events → IsRead search sets place

-- the set of each kept lemma is there, and in mode List that of each found node
pub record HasAllSets (search : Search) (sets : List (Owned Key)) : Type 0 where
  pub own : (place : ℕ) (set : Owned Key) → slice_get sets place ≡ Some set → AreOwn search set.owner set.keys
  pub lemma : (index : ℕ) → index < length (board_of search).kept → HasSetOf search sets (Lemma (suc index))
  pub found : search.mode ≡ ListAll → (number : ℕ) (node : Node) → slice_get (board_of search).nodes number ≡ Some node → node.state ≡ Found → HasSetOf search sets (FoundSet number)
