use Rattle.std.proofs.Common.{◌≡◌, ◌++◌, sym, ap, ◌∙◌, subst, append_assoc}
use Rattle.mg_outside.specs.Putting.{AllPut, PutFailed}
use Rattle.szs_report.proofs.Gaining.{AllPut-append, PutFailed-append, done_put}
use Rattle.szs_report.proofs.report.put_lines.Goals as goal

pub returns-in-Failed : goal.returns-in-Failed
returns-in-Failed g c =
    let done = c.loop-rest.invariant.0 in
    let line = c.cut_line.result.0.now in
    let behind = c.cut_line.result.1.now in
    let whole : c.args.text.now ≡ done ++ (line ++ behind) = c.loop-rest.invariant.1 ∙ ap (λ t. done ++ t) c.cut_line.ensures.cut in
    subst (λ text. PutFailed (g.O.Sink.seen c.args.sink.now) (g.O.Sink.seen c.put.new.self) text) (sym whole)
    (PutFailed-append _ _ _ done line behind c.loop-rest.invariant.2 c.in-Failed.ensures)

pub loop-rest-preserved : goal.loop-rest-preserved
loop-rest-preserved g c =
    let done = c.loop-rest.invariant.0 in
    let line = c.cut_line.result.0.now in
    let behind = c.cut_line.result.1.now in
    let whole : c.args.text.now ≡ (done ++ line) ++ behind = c.loop-rest.invariant.1 ∙ (ap (λ t. done ++ t) c.cut_line.ensures.cut ∙ sym (append_assoc done line behind)) in
    let put : AllPut (g.O.Sink.seen c.loop-rest.sink) (g.O.Sink.seen c.put.new.self) line = done_put c.put.result _ _ line c.in_default.not-Failed c.put.ensures in
    (done ++ line, whole, AllPut-append _ _ _ done line c.loop-rest.invariant.2 put)
