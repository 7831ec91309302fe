-- What the commands are about, by whom they are done, and how far their searches go.
use Rattle.std.specs.Prelude.{◌≡◌, ℕ, List, Option, Some, None, IfSome}
use Rattle.sample_maker.specs.Sample.{HasSample}
use Rattle.command_words.specs.Asking.{Asks, Request, Prove, Models, Check, Forms, Sample, Search, weight}
use Rattle.tree_board.specs.declared.mode.Limits.{Limits}
use Rattle.command_line.specs.Searched.{AreAllowed}
use Rattle.command_line.specs.Sources.{Source, OfFile, OfSample}

-- the problem that a search is about
abbrev pub searched_file : Search → Source
searched_file search = OfFile search.file search.root

-- the problem that a command is about
abbrev pub source_of : Request → Source
source_of (Prove search) = searched_file search
source_of (Models search) = searched_file search
source_of (Check file tree root) = OfFile file root
source_of (Forms file root) = OfFile file root
source_of (Sample size workers budget) = OfSample size

-- the tree's file that a command names, if it names one
abbrev pub tree_file : Request → Option (List ℕ)
tree_file (Check file tree root) = Some tree
tree_file request = None

-- how far a search goes
abbrev pub search_limits : Search → Limits
search_limits search = record { budget = search.budget; weight = search.weight }

-- how far the search for the sets of a sample goes
abbrev pub sample_limits : ℕ → Limits
sample_limits budget = record { budget = budget; weight = weight.default }

-- how far the search of a command goes, if it searches
abbrev pub limits_of : Request → Option Limits
limits_of (Prove search) = Some (search_limits search)
limits_of (Models search) = Some (search_limits search)
limits_of (Check file tree root) = None
limits_of (Forms file root) = None
limits_of (Sample size workers budget) = Some (sample_limits budget)

-- how many do the work of a command
abbrev pub workers_of : Request → ℕ
workers_of (Prove search) = search.workers
workers_of (Models search) = search.workers
workers_of (Check file tree root) = 1
workers_of (Forms file root) = 1
workers_of (Sample size workers budget) = workers

-- the words ask for it, and one worker alone is to do it
abbrev pub AsksOne : List (List ℕ) → Request → Type 0
AsksOne words request = Asks words request × (workers_of request ≡ 1)

-- the words ask for nothing that one worker alone is to do
abbrev pub AsksNone : List (List ℕ) → Type 0
AsksNone words = (request : Request) → AsksOne words request → ⊥

-- a search may have its limits, and there is a sample of that size
abbrev pub IsPossible : Request → Type 0
IsPossible (Prove search) = AreAllowed (search_limits search)
IsPossible (Models search) = AreAllowed (search_limits search)
IsPossible (Check file tree root) = Unit {0}
IsPossible (Forms file root) = Unit {0}
IsPossible (Sample size workers budget) = HasSample size × AreAllowed (sample_limits budget)
