-- What a search for all minimal sets has listed at its end.
use Rattle.std.specs.Prelude.{All, List, None, Option, Some, [], map, ◌≡◌, ◌⊎◌}
use Rattle.mg_word.specs.Facts.{ProblemData}
use Rattle.mg_word.specs.declared.lit.Lit.{Lit}
use Rattle.mg_meaning.specs.Excluding.{Covers}
use Rattle.mg_meaning.specs.Instances.{IsInstance}
use Rattle.mg_meaning.specs.Minimality.{ListsMinimal}
use Rattle.mg_meaning.specs.Refuting.{Refutes, ground_of}
use Rattle.tree_board.specs.Alone.{FitsPlain}
use Rattle.tree_board.specs.Events.{insts_in}
use Rattle.tree_board.specs.Leaves.{ListsMinimalFound}
use Rattle.tree_board.specs.Searches.{Search, board_of, setting_of}
use Rattle.tree_board.specs.Stuck.{GivesUp}
use Rattle.tree_board.specs.declared.mode.BoardState.TheVariants.{Blocked, Closed, Complete}
use Rattle.tree_board.specs.declared.mode.Limit.{Limit}
use Rattle.tree_board.specs.declared.mode.Limits.{Limits}
use Rattle.model_lister.specs.Ends.{end_of}
use Rattle.model_lister.specs.Runs.{IsRun, search_of}
use Rattle.model_lister.specs.declared.listing.Listing.{Listing}

-- nothing is left to do, and these are exactly the minimal sets; the instances of forms that the search used cover them, and where
-- there is none, the instances of their clauses refute the problem
pub record IsComplete (search : Search) (sets : List (List Lit)) : Type 0 where
  pub ended : (end_of search ≡ Complete) ⊎ (end_of search ≡ Closed)
  pub minimal : ListsMinimal sets search.problem
  pub used : All (IsInstance search.problem) (insts_in search.journal)
  pub covers : Covers (insts_in search.journal) sets
  pub refutes : sets ≡ [] → Refutes (map (ground_of search.problem) (insts_in search.journal)) search.problem

-- the limit blocks the board, these are exactly its minimal found sets, and the plain tree has no place within the limits
pub record IsCutOff (search : Search) (limit : Limit) (sets : List (List Lit)) : Type 0 where
  pub blocked : end_of search ≡ Blocked limit
  pub found : ListsMinimalFound (setting_of search) (board_of search) sets
  pub gives_up : GivesUp (setting_of search) limit sets
  pub exceeds : FitsPlain (setting_of search) → ⊥

-- the search has listed these, all minimal sets unless the limit stopped it
abbrev pub Lists : Search → List (List Lit) → Option Limit → Type 0
Lists search sets None = IsComplete search sets
Lists search sets (Some limit) = IsCutOff search limit sets

-- one worker's search for all minimal sets of the problem within these limits, and what it has listed
pub record IsListing (problem : ProblemData) (limits : Limits) (listing : Listing) : Type 0 where
  pub run : IsRun problem limits listing.board
  pub lists : Lists listing.board listing.sets.items listing.gave_up

-- of two listings: the same sets, and no limit
pub record AreOne (one two : Listing) : Type 0 where
  pub sets : one.sets.items ≡ two.sets.items
  pub first : one.gave_up ≡ None
  pub second : two.gave_up ≡ None

-- where the plain tree fits the limits, every listing of the problem is complete, and all are the same
abbrev pub OneListing : Type 0
OneListing = (problem : ProblemData) (limits : Limits) → FitsPlain (setting_of (search_of problem limits []))
    → (one two : Listing) → IsListing problem limits one → IsListing problem limits two → AreOne one two
