use Rattle.std.proofs.Common.{◌≡◌, codes, rules}
use Rattle.proof_tree.specs.Bare.{bare}
use Rattle.proof_tree.proofs.WholeDocs.{header_wrong}
use Rattle.proof_tree.proofs.reading.after_header.Goals as goal

pub returns-then-ne-clause-read : goal.returns-then-ne-clause-read
returns-then-ne-clause-read c =
    let other : c.in-Ok.found.0.now ≡ codes "mgtp tree 1" → ⊥ = search rules in
    λ problem. header_wrong problem (bare c.args.bytes.now) c.in-Ok.found.0.now (bare c.in-Ok.found.1.now) c.in-Ok.ensures.line other
