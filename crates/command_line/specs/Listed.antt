-- The answers of `models` and `sample`: when each is right, its lines and its status.
use Rattle.std.specs.Prelude.{ℕ, All, IsTrue, List, [], Option, Some, None}
use Rattle.mg_word.specs.Facts.{ProblemData}
use Rattle.mg_word.specs.declared.lit.Lit.{Lit}
use Rattle.mg_meaning.specs.Instances.{are_literals}
use Rattle.mg_outside.specs.Reading.{Table}
use Rattle.model_lister.specs.Ends.{IsSearched}
use Rattle.model_lister.specs.Listings.{Lists}
use Rattle.model_lister.specs.Runs.{search_of}
use Rattle.model_lister.specs.declared.listing.Listing.{Listing}
use Rattle.szs_report.specs.ModelLines.{models_lines, sample_lines}
use Rattle.tree_board.specs.declared.event.Event.{Event}
use Rattle.tree_board.specs.declared.mode.Limit.{Limit}
use Rattle.tree_board.specs.declared.mode.Limits.{Limits}
use Rattle.command_line.specs.Problems.{IsProblemOf}
use Rattle.command_line.specs.Sources.{Source}
use Rattle.command_line.specs.declared.printout.Printout.{Printout}
use Rattle.command_line.specs.declared.status.Status.{Status}
use Rattle.command_line.specs.declared.status.Status.TheVariants.{Done, Rejected}

-- the problem, the sets that were listed, and the limit that stopped the search, if one did
pub record Listed : Type 0 where
  pub problem : ProblemData
  pub sets : List (List Lit)
  pub gave_up : Option Limit

-- what a listing is seen as
abbrev pub listed_by : Listing → Listed
listed_by listing = record { problem = listing.board.problem; sets = listing.sets.items; gave_up = listing.gave_up }

-- each set is one of the problem's literals, so it has a line
abbrev pub HaveLines : Listed → Type 0
HaveLines answer = All (λ set. IsTrue (are_literals answer.problem.symbols set)) answer.sets

-- the answer is right for the problem of the source, within these limits
pub record IsListed (told : Option Table) (source : Source) (limits : Limits) (answer : Listed) : Type 0 where
  pub is : IsProblemOf told source answer.problem
  pub journal : List Event
  pub searched : IsSearched (search_of answer.problem limits journal)
  pub lists : Lists (search_of answer.problem limits journal) answer.sets answer.gave_up

-- the status of a list that is complete, and of one that is not
abbrev pub listed_status : Option Limit → Status
listed_status None = Done
listed_status (Some limit) = Rejected

-- the lines and the status of a list, on the problem of this name
abbrev pub models_printout : List ℕ → Limits → Listed → Printout
models_printout name limits answer = record { out = models_lines answer.problem.symbols name limits answer.sets answer.gave_up; err = []; status = listed_status answer.gave_up }

-- the same in short
abbrev pub sample_printout : List ℕ → Limits → Listed → Printout
sample_printout name limits answer = record { out = sample_lines answer.problem.symbols name limits answer.sets answer.gave_up; err = []; status = listed_status answer.gave_up }
