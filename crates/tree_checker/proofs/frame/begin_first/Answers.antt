use Rattle.std.proofs.Common.{◌≡◌, ◌+◌, ◌++◌, ◌∷◌, [], length, ap, ◌∙◌, arith, rules}
use Rattle.std.proofs.lemmas.List.{length-append}
use Rattle.tree_checker.proofs.Frames.{AreNested-more, AreNested-push, first-pending, only-pending}
use Rattle.tree_checker.proofs.frame.begin_first.Goals as goal

pub returns-clause-next : goal.returns-clause-next
returns-clause-next c =
    rw c.in_ok-push-2.ensures.items
    (first-pending c.args.held.now c.args.barred.now c.push.new.self c.args.frames.now.items _ c.in-Some.lit c.args.later.items c.requires
    c.in_ok-push.ensures.ok c.len.ensures c.len-2.ensures c.in-Some.ensures.items)

pub returns-clause-nested : goal.returns-clause-nested
returns-clause-nested c _ =
    let long : length c.push.new.self ≡ length c.args.held.now + 1 = ap length c.in_ok-push.ensures.ok ∙ length-append c.args.held.now (c.in-Some.lit ∷ []) in
    rw c.in_ok-push-2.ensures.items
    (AreNested-push 0 0 c.args.frames.now.items _ (length c.push.new.self) (length c.args.barred.now)
    (AreNested-more 0 0 c.args.frames.now.items (length c.args.held.now) (length c.args.barred.now) _ _ c.requires (omega (arith, long, c.len.ensures)) (omega (arith, c.len-2.ensures)))
    (omega (arith, long, c.len.ensures)) (omega (arith, c.len.ensures)) (omega (arith, c.len-2.ensures)))

pub returns-then-is_empty-clause-next : goal.returns-then-is_empty-clause-next
returns-then-is_empty-clause-next c =
    let none : c.pop.new.self.items ≡ [] = search rules in
    only-pending c.args.held.now c.args.barred.now c.push.new.self c.args.frames.now.items c.in-Some.lit c.args.later.items c.requires
    c.in_ok-push.ensures.ok (c.in-Some.ensures.items ∙ ap (λ lits. lits ++ c.in-Some.lit ∷ []) none)

pub returns-then-is_empty-clause-nested : goal.returns-then-is_empty-clause-nested
returns-then-is_empty-clause-nested c _ =
    let long : length c.push.new.self ≡ length c.args.held.now + 1 = ap length c.in_ok-push.ensures.ok ∙ length-append c.args.held.now (c.in-Some.lit ∷ []) in
    AreNested-more 0 0 c.args.frames.now.items (length c.args.held.now) (length c.args.barred.now) _ _ c.requires (omega (arith, long)) (omega arith)
