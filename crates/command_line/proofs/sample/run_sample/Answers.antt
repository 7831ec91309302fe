use Rattle.std.proofs.Common.{◌≡◌, None, refl, subst}
use Rattle.std.specs.Prelude.{IfOk}
use Rattle.szs_report.specs.Names.{sample_name}
use Rattle.std.proofs.lemmas.Result.{err_from_is_err_and}
use Rattle.command_words.specs.Asking.{Sample}
use Rattle.command_line.specs.Listed.{listed_by, sample_printout}
use Rattle.command_line.specs.Refusals.{seen}
use Rattle.command_line.proofs.Listing.{listed, listed_lines}
use Rattle.command_line.proofs.Replying.{refusal_reportable, replies_answer, replies_memory, replies_refusal}
use Rattle.command_line.proofs.sample.run_sample.Goals as goal

pub print_refusal-requires : goal.print_refusal-requires
print_refusal-requires c = refusal_reportable (Sample c.args.size 1 c.args.budget) None (seen c.in-Err.refusal) (c.in-Err.ensures 1 c.args.budget None)

pub print-requires : goal.print-requires
print-requires c = listed_lines None _ _ (listed_by c.in_ok-listing-in-Ok.listing) (listed None _ _ c.in-Ok.problem c.in_ok-listing-in-Ok.listing (c.in-Ok.ensures 1 c.args.budget None) c.in_ok-listing-in-Ok.ensures)

pub returns-in_ok-listing-in-Ok : goal.returns-in_ok-listing-in-Ok
returns-in_ok-listing-in-Ok c = λ workers told counts.
    replies_answer (Sample c.args.size workers c.args.budget) told counts counts (listed_by c.in_ok-listing-in-Ok.listing) _
    (listed told _ _ c.in-Ok.problem c.in_ok-listing-in-Ok.listing (c.in-Ok.ensures workers c.args.budget told) (rw c.sample_limits-limits.ensures at c.in_ok-listing-in-Ok.ensures)) refl
    (subst (λ limits. IfOk c.print.result (λ printout. printout ≡ sample_printout (sample_name c.args.size) limits (listed_by c.in_ok-listing-in-Ok.listing))) c.sample_limits-limits.ensures
    (subst (λ name. IfOk c.print.result (λ printout. printout ≡ sample_printout name c.sample_limits-limits.result (listed_by c.in_ok-listing-in-Ok.listing))) c.sample_name-name.ensures c.print.ensures))

pub returns-in_err-listing-in-Ok : goal.returns-in_err-listing-in-Ok
returns-in_err-listing-in-Ok c = λ workers told counts. let failed = err_from_is_err_and c.from_residual.result c.from_residual.ensures.1 in rw failed.1 (replies_memory (Sample c.args.size workers c.args.budget) told counts counts _ refl)

pub returns-in-Err : goal.returns-in-Err
returns-in-Err c = λ workers told counts.
    replies_refusal (Sample c.args.size workers c.args.budget) told counts counts (seen c.in-Err.refusal) _ (c.in-Err.ensures workers c.args.budget told) refl (rw c.sample_name-name.ensures at c.print_refusal.ensures)
