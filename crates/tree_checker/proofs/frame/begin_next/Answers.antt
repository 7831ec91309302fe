use Rattle.std.proofs.Common.{◌≡◌, ◌∷◌, [], ◌++◌, ◌-◌, take, length, sym, ap, ◌∙◌, arith}
use Rattle.std.proofs.lemmas.List.{take-take, length-take-le}
use Rattle.tree_checker.proofs.frame.begin_next.Goals as goal

pub last-requires : goal.last-requires
last-requires c none =
    let size = length-take-le c.args.frame.now.held c.args.held.now c.requires.reached in
    let empty = ap length (sym c.truncate.ensures ∙ none) in
    omega (arith, size, empty, c.requires.counted)

pub returns-clause-held : goal.returns-clause-held
returns-clause-held c =
    let front : c.truncate-2.new.self ≡ take (c.args.frame.now.held - 1) c.args.held.now =
    c.truncate-2.ensures ∙ ap (take (c.args.frame.now.held - 1)) c.truncate.ensures ∙ take-take (c.args.frame.now.held - 1) c.args.frame.now.held c.args.held.now (omega arith) in
    c.in_ok-push-2.ensures.ok ∙ ap (λ front. front ++ c.args.lit ∷ []) front

pub returns-clause-barred : goal.returns-clause-barred
returns-clause-barred c =
    let size = length-take-le c.args.frame.now.held c.args.held.now c.requires.reached in
    let count : length c.truncate.new.self - 1 ≡ c.args.frame.now.held - 1 = omega (arith, ap length c.truncate.ensures, size) in
    let front = take-take (c.args.frame.now.held - 1) c.args.frame.now.held c.args.held.now (omega arith) in
    let own : take c.args.frame.now.held c.args.held.now ≡ take (c.args.frame.now.held - 1) c.args.held.now ++ c.in_ok-closed.closed ∷ [] =
    sym c.truncate.ensures ∙ c.last.ensures ∙ (λ i. take (count i) (c.truncate.ensures i) ++ sym c.in_ok-closed.ensures i ∷ []) ∙ ap (λ front. front ++ c.in_ok-closed.closed ∷ []) front in
    (c.in_ok-closed.closed, own, c.in_ok-push.ensures.ok ∙ ap (λ barred. barred ++ c.in_ok-closed.closed ∷ []) c.truncate-3.ensures)
