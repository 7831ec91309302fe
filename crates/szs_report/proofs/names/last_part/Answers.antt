use Rattle.std.proofs.Common.{sym, drop, arith}
use Rattle.std.proofs.lemmas.Str.Pattern.{NoCharPasses-char, drop_at_char}
use Rattle.szs_report.proofs.Slashes.{whole_is_last, slash_at}
use Rattle.szs_report.proofs.names.last_part.Goals as goal

pub returns-in-None : goal.returns-in-None
returns-in-None c =
    sym (whole_is_last c.args.path.now (λ i within. NoCharPasses-char 47 c.args.path.now i c.in-None.ensures.cases (omega arith) within))

pub returns-in-Some : goal.returns-in-Some
returns-in-Some c =
    let cut = c.in-Some.ensures.cases in
    slash_at c.args.path.now c.in-Some.behind.now cut.0 cut.1 (drop_at_char 47 c.args.path.now cut.0 cut.1 cut.2.1 (omega arith)) cut.4
    (λ k within. NoCharPasses-char 47 (drop cut.1 c.args.path.now) k cut.2.0 (omega arith) within)
