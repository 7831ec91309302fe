-- How the parts of a listing make the answer of `models` and of `sample`.
use Rattle.std.proofs.Common.{◌≡◌, ◌∙◌, IsTrue, None, Option, Some, ap, subst, sym}
use Rattle.mg_meaning.proofs.Lists.{all_among, contains_from}
use Rattle.mg_meaning.specs.Instances.{are_literals}
use Rattle.mg_outside.specs.Reading.{Table}
use Rattle.mg_word.specs.Facts.{ProblemData}
use Rattle.model_lister.specs.Listings.{IsListing, Lists}
use Rattle.model_lister.specs.Ends.{IsSearched}
use Rattle.model_lister.specs.Runs.{search_of}
use Rattle.model_lister.specs.declared.listing.Listing.{Listing}
use Rattle.tree_board.specs.Searches.{Search}
use Rattle.tree_board.specs.declared.mode.Limit.{Limit}
use Rattle.tree_board.specs.declared.mode.Limits.{Limits}
use Rattle.command_line.specs.Listed.{HaveLines, IsListed, Listed, listed_by}
use Rattle.command_line.specs.Problems.{IsProblemOf}
use Rattle.command_line.specs.Sources.{Source}

-- the listing of the problem of the source gives the answer
pub listed : (told : Option Table) (source : Source) (limits : Limits) (problem : ProblemData) (listing : Listing) → IsProblemOf told source problem → IsListing problem limits listing → IsListed told source limits (listed_by listing)
listed told source limits problem listing is whole =
    let same : listing.board.problem ≡ problem = ap (λ (one : Search). one.problem) whole.run.over in
    let own : listing.board ≡ search_of listing.board.problem limits listing.board.journal = whole.run.over ∙ ap (λ one. search_of one limits listing.board.journal) (sym same) in
    record {
      is = subst (IsProblemOf told source) (sym same) is;
      journal = listing.board.journal;
      searched = subst IsSearched own whole.run.searched;
      lists = subst (λ one. Lists one listing.sets.items listing.gave_up) own whole.lists;
    }

-- each set that is listed is one of the problem's literals
pub listed_lines : (told : Option Table) (source : Source) (limits : Limits) (answer : Listed) → IsListed told source limits answer → HaveLines answer
listed_lines told source limits answer is = by answer.gave_up is.lists
  where
    by : (gave_up : Option Limit) → Lists (search_of answer.problem limits is.journal) answer.sets gave_up → HaveLines answer
    by None lists = all_among (λ set. IsTrue (are_literals answer.problem.symbols set)) answer.sets (λ set there. ((lists.minimal.exact set).0 (contains_from answer.sets set there)).1.satisfying.fitting)
    by (Some limit) lists = all_among (λ set. IsTrue (are_literals answer.problem.symbols set)) answer.sets (λ set there. ((lists.found.exact set).0 (contains_from answer.sets set there)).1.satisfying.fitting)
