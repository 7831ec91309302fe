use Rattle.std.proofs.Common.{◌≡◌, false, sym, ap, ◌∙◌, get_or}
use Rattle.std.proofs.lemmas.List.Folds.{list_all_at, list_all-map}
use Rattle.mg_word.specs.Sets.{holds}
use Rattle.mg_word.specs.Words.{lit_instance}
use Rattle.tree_checker.proofs.lits.holds_instances.Goals as goal

pub returns-then-not-holds : goal.returns-then-not-holds
returns-then-not-holds c =
    let missing : holds c.args.trail.now (lit_instance c.args.subst.now (get_or c.args.lits.now c.loop-lit.lit-index c.lit-item.result)) ≡ false =
    ap (λ lit. holds c.args.trail.now (lit_instance c.args.subst.now lit)) (sym c.lit-item.is)
    ∙ ap (holds c.args.trail.now) (sym c.in_ok-instance_of_lit.ensures) ∙ sym c.holds.ensures ∙ c.if-not-holds.true in
    sym (list_all-map (holds c.args.trail.now) (lit_instance c.args.subst.now) c.args.lits.now
    ∙ list_all_at (λ lit. holds c.args.trail.now (lit_instance c.args.subst.now lit)) c.args.lits.now c.loop-lit.lit-index c.lit-item.result c.loop-lit-test.true missing)
