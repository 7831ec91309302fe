-- The search of `prove`, and what it ends with.
use Rattle.std.specs.Prelude.{◌≡◌, ℕ, ◌<◌, ◌≤◌, List, [], Some}
use Rattle.mg_word.specs.Facts.{ProblemData, IsProblem}
use Rattle.mg_word.specs.Sets.{set_of}
use Rattle.mg_word.specs.declared.lit.Lit.{Lit}
use Rattle.mg_meaning.specs.Models.{IsModel}
use Rattle.mg_meaning.specs.Refuting.{Refutes}
use Rattle.mg_meaning.specs.Satisfaction.{Satisfies}
use Rattle.mg_meaning.specs.Truth.{atoms_of}
use Rattle.model_lister.specs.Ends.{IsSearched, end_of}
use Rattle.tree_board.specs.Alone.{FitsPlain}
use Rattle.tree_board.specs.Boards.{opening}
use Rattle.tree_board.specs.Readers.{lits_of}
use Rattle.tree_board.specs.Searches.{Search, setting_of, board_of}
use Rattle.tree_board.specs.Stuck.{GivesUp}
use Rattle.tree_board.specs.WorkerLaws.{IsOneWorker}
use Rattle.tree_board.specs.declared.board.TheConstants.{MOST_BUDGET, MOST_WEIGHT}
use Rattle.tree_board.specs.declared.event.Event.{Event}
use Rattle.tree_board.specs.declared.mode.BoardState.TheVariants.{Blocked, Closed, Model}
use Rattle.tree_board.specs.declared.mode.Limit.{Limit}
use Rattle.tree_board.specs.declared.mode.Limits.{Limits}
use Rattle.tree_board.specs.declared.mode.Mode.TheVariants.{Refute}
use Rattle.board_tree.specs.Documents.{doc_of}
use Rattle.tree_checker.specs.Docs.{IsWellFormed, Accepts}
use Rattle.tree_checker.specs.Instances.{instances_of}
use Rattle.tree_checker.specs.declared.doc.Doc.{Doc}
use Rattle.command_line.specs.declared.finding.Finding.{Finding}
use Rattle.command_line.specs.declared.finding.Finding.TheVariants.{Unsatisfiable, Satisfiable, GaveUp}

-- a board may have these limits
pub record AreAllowed (limits : Limits) : Type 0 where
  pub budget : limits.budget ≤ MOST_BUDGET
  pub some_weight : 0 < limits.weight
  pub weight : limits.weight ≤ MOST_WEIGHT

-- the search for one satisfying set of the problem or none, after these events
abbrev pub search_of : ProblemData → Limits → List Event → Search
search_of problem limits journal = record { problem = problem; mode = Refute; limits = limits; journal = journal }

-- such a search for one satisfying set of a problem or none
pub record IsAtEnd (search : Search) : Type 0 where
  pub real : IsProblem search.problem
  pub refute : search.mode ≡ Refute
  pub searched : IsSearched search

-- such a search for the problem, within these limits
pub record IsRun (problem : ProblemData) (limits : Limits) (search : Search) : Type 0 where
  pub over : search ≡ search_of problem limits search.journal
  pub ended : IsAtEnd search

-- the root is closed, and its document is accepted: no list of atoms makes all its instances true
pub record IsRefuted (search : Search) (doc : Doc) : Type 0 where
  pub closed : end_of search ≡ Closed
  pub is : doc ≡ doc_of (board_of search)
  pub well_formed : IsWellFormed search.problem doc
  pub accepts : Accepts search.problem doc
  pub refuted : Refutes (instances_of search.problem doc) search.problem

-- the set is that of the model's node: it satisfies the problem, and its positive literals are a Herbrand model of the clauses
pub record IsSatisfied (search : Search) (set : List Lit) : Type 0 where
  pub node : ℕ
  pub lits : List Lit
  pub model : end_of search ≡ Model node
  pub here : lits_of (board_of search).nodes node ≡ Some lits
  pub is : set ≡ set_of lits
  pub satisfies : Satisfies set search.problem
  pub herbrand : IsModel (atoms_of set) search.problem

-- the limit blocks the board, no set was found, and the plain tree has no place within the limits
pub record IsGivenUp (search : Search) (limit : Limit) : Type 0 where
  pub blocked : end_of search ≡ Blocked limit
  pub gives_up : GivesUp (setting_of search) limit []
  pub exceeds : FitsPlain (setting_of search) → ⊥

-- the search ends with that
abbrev pub EndsWith : Search → Finding → Type 0
EndsWith search (Unsatisfiable doc) = IsRefuted search doc
EndsWith search (Satisfiable set) = IsSatisfied search set
EndsWith search (GaveUp limit) = IsGivenUp search limit

-- one worker's search ends with that; where the plain tree fits the limits, its journal is the only one of one worker
pub record IsFound (search : Search) (finding : Finding) : Type 0 where
  pub searched : IsSearched search
  pub ends : EndsWith search finding
  pub one_worker : FitsPlain (setting_of search) → IsOneWorker (setting_of search) opening search.journal
