use Rattle.std.proofs.Common.{◌≡◌, [], rules}
use Rattle.std.proofs.lemmas.Result.{on_ok_weaker}
use Rattle.szs_report.proofs.SetLines.{block_of}
use Rattle.szs_report.proofs.models.add_block.Goals as goal

pub returns : goal.returns
returns c =
    let some : c.args.sets.now ≡ [] → ⊥ = λ none. search rules in
    on_ok_weaker c.add_end.result
    (block_of c.args.symbols.now c.args.name.now c.args.sets.now c.args.report.now c.add_start.new.report c.add_sets.new.report c.add_end.new.report some c.in_ok-add_start.ensures c.in_ok-add_sets.ensures) c.add_end.ensures
