use Rattle.std.specs.Option.{option_map}
use Rattle.command_words.specs.Asking.{Check}
use Rattle.command_line.specs.Refusals.{seen}
use Rattle.command_line.proofs.Replying.{refusal_reportable, replies_answer, replies_refusal}
use Rattle.command_line.proofs.check.run_check.Goals as goal

pub print_refusal-requires : goal.print_refusal-requires
print_refusal-requires g c = refusal_reportable (Check c.args.file.now c.args.tree.now (option_map (λ folder. folder.now) c.args.root)) _ (seen c.in-Err.refusal) c.in-Err.ensures.cause

pub returns-in-Ok-clause-replies : goal.returns-in-Ok-clause-replies
returns-in-Ok-clause-replies g c =
    replies_answer (Check c.args.file.now c.args.tree.now (option_map (λ folder. folder.now) c.args.root)) _ _ _ c.in-Ok.answer _ c.in-Ok.ensures.cause c.in-Ok.ensures.counted (rw c.szs_name-name.ensures at c.print.ensures)

pub returns-in-Err-clause-replies : goal.returns-in-Err-clause-replies
returns-in-Err-clause-replies g c =
    replies_refusal (Check c.args.file.now c.args.tree.now (option_map (λ folder. folder.now) c.args.root)) _ _ _ (seen c.in-Err.refusal) _ c.in-Err.ensures.cause c.in-Err.ensures.counted (rw c.szs_name-name.ensures at c.print_refusal.ensures)
