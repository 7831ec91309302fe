use Rattle.std.proofs.Common.{filter, length, ap, subst, sym, ◌∙◌}
use Rattle.std.proofs.lemmas.Iterator.Adapters.{YieldsList-from_vec}
use Rattle.std.proofs.lemmas.Iterator.Consumers.{YieldsList-end, YieldsList-turn}
use Rattle.std.proofs.lemmas.List.{map-id}
use Rattle.mg_word.specs.Facts.{IsProblem}
use Rattle.mg_meaning.specs.Deciding.{is_least}
use Rattle.mg_meaning.specs.Satisfaction.{Satisfies}
use Rattle.model_lister.proofs.minimal.minimal_among.Goals as goal

pub is_minimal-requires : goal.is_minimal-requires
is_minimal-requires c =
    let gives = c.into_iter-set-iterator.ensures.into_iter_gives in
    let turn = YieldsList-turn (YieldsList-from_vec {s = c.into_iter-set-iterator.result} c.args.sets.items gives.0 (gives.1 ∙ c.args.sets.ok.0)) c.loop-set.yielded c.loop-set.set-iterator c.loop-set.yielded_by c.next.result c.next.new.self c.in-Some.set c.in-Some.is c.next.ensures.steps in
    record {
      problem = subst IsProblem (sym c.loop-set.invariant.tester) c.requires.problem;
      satisfies = subst (λ problem. Satisfies c.in-Some.set problem) (sym c.loop-set.invariant.tester) (subst (λ set. Satisfies set c.args.tester) (sym turn.1) (c.requires.satisfy (length c.loop-set.yielded) c.in-Some.set turn.0));
    }

pub returns : goal.returns
returns c =
    let gives = c.into_iter-set-iterator.ensures.into_iter_gives in
    let end = YieldsList-end (YieldsList-from_vec {s = c.into_iter-set-iterator.result} c.args.sets.items gives.0 (gives.1 ∙ c.args.sets.ok.0)) c.loop-set.yielded c.loop-set.set-iterator c.loop-set.yielded_by c.next.result c.next.new.self c.in-None.is c.next.ensures.steps in
    c.loop-set.invariant.kept ∙ ap (filter (is_least c.args.tester)) (sym (map-id c.loop-set.yielded) ∙ end.0)
