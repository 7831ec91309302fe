use Rattle.std.proofs.Common.{◌∙◌, arith, ap, length, sym, subst}
use Rattle.std.proofs.lemmas.List.{drop_all}
use Rattle.std.specs.Str.{IsCharBoundary}
use Rattle.cnf_reader.specs.Names.{up_to_slash}
use Rattle.cnf_reader.proofs.FileNames.{cut_behind_slash}
use Rattle.cnf_reader.proofs.names.folder_len.Goals as goal

pub returns-clause-cut : goal.returns-clause-cut
returns-clause-cut c =
    let left = drop_all c.loop-at.at c.args.name.now (omega (arith, ap length c.as_bytes-byte-items.ensures.value)) in
    subst (λ n. IsCharBoundary c.args.name.now n) (sym c.loop-at.invariant.count ∙ ap (λ rest. up_to_slash c.loop-at.at c.loop-at.len rest) left) (cut_behind_slash c.args.name.now c.utf8.name)
