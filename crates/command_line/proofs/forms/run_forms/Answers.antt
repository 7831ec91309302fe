use Rattle.std.proofs.Common.{refl}
use Rattle.std.specs.Option.{option_map}
use Rattle.command_words.specs.Asking.{Forms}
use Rattle.command_line.specs.Refusals.{seen}
use Rattle.command_line.proofs.Replying.{refusal_reportable, replies_answer, replies_refusal}
use Rattle.command_line.proofs.forms.run_forms.Goals as goal

pub print_refusal-requires : goal.print_refusal-requires
print_refusal-requires g c =
    refusal_reportable (Forms c.args.file.now (option_map (λ folder. folder.now) c.args.root)) _ (seen c.in-Err.refusal) (c.in-Err.ensures.formed (Forms c.args.file.now (option_map (λ folder. folder.now) c.args.root)) refl)

pub returns-in-Ok-clause-replies : goal.returns-in-Ok-clause-replies
returns-in-Ok-clause-replies g c =
    replies_answer (Forms c.args.file.now (option_map (λ folder. folder.now) c.args.root)) _ _ _ c.in-Ok.problem _ c.in-Ok.ensures.formed c.in-Ok.ensures.counted c.print.ensures

pub returns-in-Err-clause-replies : goal.returns-in-Err-clause-replies
returns-in-Err-clause-replies g c =
    replies_refusal (Forms c.args.file.now (option_map (λ folder. folder.now) c.args.root)) _ _ _ (seen c.in-Err.refusal) _
    (c.in-Err.ensures.formed (Forms c.args.file.now (option_map (λ folder. folder.now) c.args.root)) refl) c.in-Err.ensures.counted (rw c.szs_name.ensures at c.print_refusal.ensures)
