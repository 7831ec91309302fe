use Rattle.std.proofs.Common.{refl}
use Rattle.std.proofs.lemmas.Result.{err_from_is_err_and}
use Rattle.command_words.specs.Asking.{Models}
use Rattle.command_words.specs.Requests.{search_seen}
use Rattle.command_line.specs.Listed.{listed_by}
use Rattle.command_line.specs.Refusals.{seen}
use Rattle.command_line.proofs.Listing.{listed, listed_lines}
use Rattle.command_line.proofs.Replying.{refusal_reportable, replies_answer, replies_memory, replies_refusal}
use Rattle.command_line.proofs.models.run_models.Goals as goal

pub print_refusal-requires : goal.print_refusal-requires
print_refusal-requires g c = refusal_reportable (Models (search_seen c.args.search.now)) _ (seen c.in-Err.refusal) (c.in-Err.ensures.formed (Models (search_seen c.args.search.now)) refl)

pub print-requires : goal.print-requires
print-requires g c = listed_lines _ _ _ (listed_by c.in_ok-listing-in-Ok.listing) (listed _ _ _ c.in-Ok.problem c.in_ok-listing-in-Ok.listing c.in-Ok.ensures.formed c.in_ok-listing-in-Ok.ensures)

pub returns-in_ok-listing-in-Ok-clause-replies : goal.returns-in_ok-listing-in-Ok-clause-replies
returns-in_ok-listing-in-Ok-clause-replies g c =
    replies_answer (Models (search_seen c.args.search.now)) _ _ _ (listed_by c.in_ok-listing-in-Ok.listing) _
    (listed _ _ _ c.in-Ok.problem c.in_ok-listing-in-Ok.listing c.in-Ok.ensures.formed (rw c.search_limits-limits.ensures at c.in_ok-listing-in-Ok.ensures)) c.in-Ok.ensures.counted
    (rw (c.szs_name-name.ensures, c.search_limits-limits.ensures) at c.print.ensures)

pub returns-in_err-listing-in-Ok-clause-replies : goal.returns-in_err-listing-in-Ok-clause-replies
returns-in_err-listing-in-Ok-clause-replies g c = let failed = err_from_is_err_and c.from_residual.result c.from_residual.ensures.1 in rw failed.1 (replies_memory (Models (search_seen c.args.search.now)) _ _ _ _ c.in-Ok.ensures.counted)

pub returns-in-Err-clause-replies : goal.returns-in-Err-clause-replies
returns-in-Err-clause-replies g c =
    replies_refusal (Models (search_seen c.args.search.now)) _ _ _ (seen c.in-Err.refusal) _ (c.in-Err.ensures.formed (Models (search_seen c.args.search.now)) refl) c.in-Err.ensures.counted (rw c.szs_name-name.ensures at c.print_refusal.ensures)
