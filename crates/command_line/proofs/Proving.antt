-- How the parts of a search make the answer of `prove`.
use Rattle.std.proofs.Common.{◌≡◌, Option, sym, ap, ◌∙◌, subst}
use Rattle.mg_word.specs.Facts.{ProblemData}
use Rattle.mg_outside.specs.Reading.{Table}
use Rattle.tree_board.specs.Searches.{Search}
use Rattle.tree_board.specs.declared.mode.Limits.{Limits}
use Rattle.command_line.specs.Problems.{IsProblemOf}
use Rattle.command_line.specs.Proves.{IsProved}
use Rattle.command_line.specs.Searched.{IsFound, IsRun, search_of}
use Rattle.command_line.specs.Sources.{Source}
use Rattle.command_line.specs.declared.finding.Finding.{Finding}

-- the search for the problem of the source, at its end, gives the answer
pub proved : (told : Option Table) (source : Source) (limits : Limits) (problem : ProblemData) (search : Search) (finding : Finding) → IsProblemOf told source problem → IsRun problem limits search → IsFound search finding
    → IsProved told source limits (record { problem = search.problem; finding = finding })
proved told source limits problem search finding is run found =
    let same : search.problem ≡ problem = ap (λ (one : Search). one.problem) run.over in
    let own : search ≡ search_of search.problem limits search.journal = run.over ∙ ap (λ one. search_of one limits search.journal) (sym same) in
    record { is = subst (IsProblemOf told source) (sym same) is; journal = search.journal; found = subst (λ one. IsFound one finding) own found }
