use Rattle.std.proofs.Common.{arith}
use Rattle.std.proofs.lemmas.Bool.Decides.{nat_tests}
use Rattle.term_text.specs.Terms.{no_raw}
use Rattle.term_text.proofs.LookUps.{raw_within}
use Rattle.term_text.proofs.Verdicts.{unknown_at, known_more, known_all}
use Rattle.term_text.proofs.terms.look_up.Goals as goal

pub number_of-requires : goal.number_of-requires
number_of-requires c = raw_within c.args.bytes.now c.args.raws.now c.requires.0 c.loop-raw.raw-index no_raw c.loop-raw-test.true c.requires.1

pub returns-in_default : goal.returns-in_default
returns-in_default c =
    λ term are. unknown_at c.args.bytes.now c.args.raws.now c.args.symbols.now term c.loop-raw.raw-index no_raw c.loop-raw-test.true are (λ symbol is. rw c.in_default.is at (c.in_ok-number.ensures symbol is))

pub loop-raw-preserved : goal.loop-raw-preserved
loop-raw-preserved c =
    λ term are. rw c.in_ok-push_if.ensures
    (known_more c.args.bytes.now c.args.raws.now c.args.symbols.now term c.loop-raw.raw-index no_raw c.loop-raw.numbers.items _ c.in-Some.number c.loop-raw-test.true are (λ symbol is. rw c.in-Some.is at (c.in_ok-number.ensures symbol is)) (c.loop-raw.invariant term are))

pub returns : goal.returns
returns c =
    λ term are. known_all c.args.bytes.now c.args.raws.now c.args.symbols.now term c.loop-raw.raw-index c.loop-raw.numbers.items _ c.loop-raw-test.false are (λ short. grind (arith, nat_tests)) (c.loop-raw.invariant term are)
