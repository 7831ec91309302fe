use Rattle.std.proofs.Common.{◌≡◌, codes, ap, ◌∙◌, sym, true, true≢false}
use denote.Enum.Bare.{sameb}
use Rattle.clap.specs.contracts.error.kind.ErrorKind.{the_type}
use Rattle.clap.specs.declared.error.kind.ErrorKind.TheVariants.{OutOfMemory}
use Rattle.clap.specs.Faults.{is_simple_and_free}
use Rattle.command_words.proofs.Commands.{gives, refuses, rows_seen, simple_and_free, texts}
use Rattle.command_words.proofs.arguments.read_arguments.Goals as goal

pub returns-in-Ok : goal.returns-in-Ok
returns-in-Ok c =
    let options = rows_seen c.args.options.now in
    let places = texts c.args.places.now in
    let is = c.in_ok-command_with.ensures in
    let free = ap is_simple_and_free is ∙ simple_and_free (codes "mgtp") options places c.requires in
    gives (codes "mgtp") options places c.requires c.args.words.now c.in-Ok.matches _ is c.in-Ok.ensures.matches (c.in-Ok.ensures.kinds free)

pub returns-else-eq : goal.returns-else-eq
returns-else-eq c =
    let options = rows_seen c.args.options.now in
    let places = texts c.args.places.now in
    let is = c.in_ok-command_with.ensures in
    let free = ap is_simple_and_free is ∙ simple_and_free (codes "mgtp") options places c.requires in
    refuses (codes "mgtp") options places c.requires c.args.words.now c.in-Err.error _ is (c.in-Err.ensures.kinds free)
    (λ memory.
    let is_memory : c.kind.result ≡ OutOfMemory = c.kind.ensures ∙ memory in
    let same : true ≡ c.eq.result = ap (λ kind. sameb the_type kind OutOfMemory) (sym is_memory) ∙ sym c.eq.ensures in
    true≢false (same ∙ c.if-eq.false))
