use Rattle.std.proofs.Common.{◌∙◌}
use Rattle.proof_tree.proofs.SetLines.{other_block}
use Rattle.proof_tree.proofs.blocks.read_start.Goals as goal

pub returns-then-from-number : goal.returns-then-from-number
returns-then-from-number c =
    λ problem blocks is. other_block problem blocks c.in-Some-plain_value.found c.args.line.now c.in-Some.digits.now c.in-Some.ensures c.in-Some-plain_value.ensures (λ same. c.if-from-number.true (c.from.ensures ∙ (same ∙ is)))
