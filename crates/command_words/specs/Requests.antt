-- What a request of the program is seen as.
use Rattle.std.specs.Prelude.{ℕ, List, option_map}
use Rattle.command_words.specs.Asking.{Asks, NumberRow as NumberRowOf, Request as Wanted, Prove as ProveOf, Models as ModelsOf, Check as CheckOf, Forms as FormsOf, Sample as SampleOf, Search as SearchOf}
use Rattle.command_words.specs.declared.options.NumberRow.{NumberRow}
use Rattle.command_words.specs.declared.request.Request.{Request}
use Rattle.command_words.specs.declared.request.Request.TheVariants.{Prove, Models, Check, Forms, Sample}
use Rattle.command_words.specs.declared.request.Search.{Search}

-- the row of an option whose value is a number
abbrev pub number_row : NumberRow → NumberRowOf
number_row row = record { name = row.name.now; least = row.least; most = row.most; default = row.default }

abbrev pub search_seen : Search → SearchOf
search_seen search = record {
  file = search.file.now;
  root = option_map (λ folder. folder.now) search.root;
  workers = search.workers;
  budget = search.budget;
  weight = search.weight;
}

abbrev pub seen : Request → Wanted
seen (Prove search) = ProveOf (search_seen search)
seen (Models search) = ModelsOf (search_seen search)
seen (Check file tree root) = CheckOf file.now tree.now (option_map (λ folder. folder.now) root)
seen (Forms file root) = FormsOf file.now (option_map (λ folder. folder.now) root)
seen (Sample size workers budget) = SampleOf size workers budget

-- the words ask for this
abbrev pub AsksFor : List (List ℕ) → Request → Type 0
AsksFor words request = Asks words (seen request)

-- the words ask for nothing
abbrev pub AsksNothing : List (List ℕ) → Type 0
AsksNothing words = (wanted : Wanted) → Asks words wanted → ⊥
