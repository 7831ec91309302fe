use Rattle.std.proofs.Common.{replicate, subst}
use Rattle.minimal_test.specs.declared.side.Side.TheVariants.{Open}
use Rattle.minimal_test.specs.Settled.{IsBegun}
use Rattle.minimal_test.proofs.RoundSteps.{start_leads}
use Rattle.minimal_test.proofs.search.solve.Goals as goal

pub returns-then-not-branch : goal.returns-then-not-branch
returns-then-not-branch c =
    let start = replicate c.args.count Open in
    subst (IsBegun c.args.rules.now start c.begin.new.path) c.if-not-branch.true
    (c.in_ok-begin.ensures start (start_leads c.args.rules.now start c.in_ok-path.path c.in_ok-path.ensures.sides c.in_ok-path.ensures.trail))

pub loop-path-init : goal.loop-path-init
loop-path-init c =
    let start = replicate c.args.count Open in (
      subst (IsBegun c.args.rules.now start c.begin.new.path) c.if-not-branch.false
          (c.in_ok-begin.ensures start (start_leads c.args.rules.now start c.in_ok-path.path c.in_ok-path.ensures.sides c.in_ok-path.ensures.trail)),
      c.in_ok-uses.ensures,
    )
