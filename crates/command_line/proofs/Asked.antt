-- What words ask for: by whom it is done, and the numbers that they may give.
use Rattle.std.proofs.Common.{◌≡◌, ◌≤◌, ℕ, List, Option, Some, None, ap, ◌∙◌, subst, arith}
use Rattle.std.specs.Prelude.{MatchOption}
use Rattle.command_words.specs.Asking.{Asks, HasNumber, HasSize, IsNumberIn, Request, Prove, Models, Check, Forms, Sample, Search, IsSearch, NumberRow, budget, weight, sample_options, search_options}
use Rattle.sample_maker.specs.Sample.{HasSample}
use Rattle.sample_maker.specs.declared.limits.TheConstants.{LEAST_SIZE, MOST_SIZE}
use Rattle.command_words.specs.Given.{Values, Word, completed, value_of}
use Rattle.command_words.specs.Requests.{AsksFor, AsksNothing, seen}
use Rattle.command_words.specs.declared.request.Request.{Request as Found}
use Rattle.command_words.proofs.OneRequest.{one_request}
use Rattle.command_line.specs.Searched.{AreAllowed}
use Rattle.command_line.specs.Wanted.{AsksNone, IsPossible, search_limits, workers_of}

-- words that ask for more workers than one ask one worker for nothing
pub asked_of_many : (words : List Word) (found : Request) → Asks words found → (workers_of found ≡ 1 → ⊥) → AsksNone words
asked_of_many words found asks many request (asked, alone) = many (ap workers_of (one_request words found request asks asked) ∙ alone)

-- what was found in the words
pub asked_found : (words : List Word) (found : Option Found) (request : Found) → MatchOption found (AsksNothing words) (AsksFor words) → found ≡ Some request → Asks words (seen request)
asked_found words None request asks is = cc
asked_found words (Some other) request asks is = subst (λ one. Asks words (seen one)) (same_some is) asks
  where
    same_some : Some other ≡ Some request → other ≡ request
    same_some is = cc

-- the number of an option lies where its row says
in_row : (row : NumberRow) (number : ℕ) (given : Option Word) → row.least ≤ row.default → row.default ≤ row.most → MatchOption given (number ≡ row.default) (λ text. IsNumberIn row.least row.most text number) → (row.least ≤ number) × (number ≤ row.most)
in_row row number None least most is = (omega (arith, is, least), omega (arith, is, most))
in_row row number (Some text) least most is = (is.1, is.2)

in_size : (size : ℕ) (given : Option Word) → MatchOption given ⊥ (λ text. IsNumberIn LEAST_SIZE MOST_SIZE text size) → HasSample size
in_size size None is = absurd is
in_size size (Some text) is = (is.1, is.2)

number_in : (row : NumberRow) (values : Values) (number : ℕ) → row.least ≤ row.default → row.default ≤ row.most → HasNumber row values number → (row.least ≤ number) × (number ≤ row.most)
number_in row values number least most has = in_row row number (value_of row.name values) least most has

-- words that ask for a search ask for one that may have its limits
possible_search : (search : Search) (values : Values) → IsSearch search values → AreAllowed (search_limits search)
possible_search search values (file, root, workers, has_budget, has_weight) =
    let budgets = number_in budget values search.budget (omega arith) (omega arith) has_budget in
    let weights = number_in weight values search.weight (omega arith) (omega arith) has_weight in
    record { budget = omega (arith, budgets.1); some_weight = omega (arith, weights.0); weight = omega (arith, weights.1) }

-- words that ask for a command ask for a possible one
pub asked_possible : (words : List (List ℕ)) (request : Request) → Asks words request → IsPossible request
asked_possible words (Prove search) (arguments, values, is, give, asked) = possible_search search (completed search_options values) asked
asked_possible words (Models search) (arguments, values, is, give, asked) = possible_search search (completed search_options values) asked
asked_possible words (Check file tree root) asks = tt
asked_possible words (Forms file root) asks = tt
asked_possible words (Sample size workers number) (arguments, values, is, give, (has_size, has_workers, has_budget)) =
    let budgets = number_in budget (completed sample_options values) number (omega arith) (omega arith) has_budget in
    (in_size size _ has_size, record { budget = omega (arith, budgets.1); some_weight = omega arith; weight = omega arith })
