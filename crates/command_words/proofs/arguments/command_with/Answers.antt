use Rattle.std.proofs.Common.{◌≡◌, ap, true, ◌∙◌, codes}
use Rattle.std.proofs.lemmas.Result.{IfOk-weaker}
use Rattle.clap.specs.Words.{app_of}
use Rattle.clap.specs.Simple.{app_of_fields, on_top}
use Rattle.command_words.proofs.Commands.{bare, made}
use Rattle.command_words.proofs.arguments.command_with.Goals as goal

pub returns : goal.returns
returns c =
    let start : app_of c.disable_help_flag-bare.result ≡ bare (codes "mgtp") =
    ap app_of_fields c.disable_help_flag-bare.ensures ∙ ap (on_top (λ s. record s { disable_help_flag = true })) c.new.ensures.app in
    IfOk-weaker c.with_places.result _ _ (λ command is. is ∙ made (codes "mgtp") c.args.options.now c.args.places.now (app_of c.disable_help_flag-bare.result) (app_of c.in_ok-with_options.field-0) start c.in_ok-with_options.ensures)
    c.with_places.ensures
