use Rattle.std.proofs.Common.{arith, ℕ, [], ◌∷◌, ◌++◌, ◌∙◌, ap, refl}
use Rattle.std.specs.Global.{Global}
use Rattle.std.specs.declared.vec.Vec.{Vec}
use Rattle.minimal_test.proofs.UseSteps.{grown_push, listed_push}
use Rattle.minimal_test.proofs.uses.Uses.add_at.Goals as goal

pub returns-in_ok-push-clause-grown : goal.returns-in_ok-push-clause-grown
returns-in_ok-push-clause-grown c =
    grown_push c.args.self.now.rules_at.items _ c.args.place c.args.number c.push.new.self c.index_mut.result.now (omega arith)
    (c.in_ok-push.ensures.items ∙ ap (λ (list : Vec ℕ Global). list.items ++ c.args.number ∷ []) c.index_mut.ensures.value) refl

pub returns-in_ok-push-clause-listed : goal.returns-in_ok-push-clause-listed
returns-in_ok-push-clause-listed c = λ _.
    listed_push c.args.self.now.rules_at.items _ c.args.place c.args.number c.push.new.self c.index_mut.result.now (omega arith)
    (c.in_ok-push.ensures.items ∙ ap (λ (list : Vec ℕ Global). list.items ++ c.args.number ∷ []) c.index_mut.ensures.value) refl
