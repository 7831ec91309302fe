use Rattle.std.proofs.Common.{◌+◌, ap, arith, slice_get, subst, sym, ◌∙◌}
use Rattle.key_watch.specs.Arriving.{IsVisiting}
use Rattle.key_watch.specs.Watching.{chain_of}
use Rattle.key_watch.proofs.Visits.{ends, in_chain, other_apart, other_known, sends, stays}
use Rattle.key_watch.proofs.arrivals.arrivals.Goals as goal

pub send-requires-clause-other : goal.send-requires-clause-other
send-requires-clause-other c = other_known _ _ _ _ _ _ _ _ c.visits.invariant.1 c.in-Some.set (ap (λ chains. slice_get (chain_of chains c.args.key) c.visits.at) (sym c.as_slice.ensures.value) ∙ sym c.waiting_at.ensures.found ∙ c.in-Some.is) c.in-Some-missing_of.other (sym c.missing_of.ensures ∙ c.in-Some-missing_of.is)

pub send-requires-clause-apart : goal.send-requires-clause-apart
send-requires-clause-apart c = other_apart _ _ _ _ _ _ _ _ c.visits.invariant.1 c.in-Some.set (ap (λ chains. slice_get (chain_of chains c.args.key) c.visits.at) (sym c.as_slice.ensures.value) ∙ sym c.waiting_at.ensures.found ∙ c.in-Some.is) c.in-Some-missing_of.other (sym c.missing_of.ensures ∙ c.in-Some-missing_of.is)

pub send-requires-clause-at : goal.send-requires-clause-at
send-requires-clause-at c = in_chain _ _ _ _ _ _ _ _ c.visits.invariant.1 c.in-Some.set (ap (λ chains. slice_get (chain_of chains c.args.key) c.visits.at) (sym c.as_slice.ensures.value) ∙ sym c.waiting_at.ensures.found ∙ c.in-Some.is)

pub visits-smaller-in-Continue-1 : goal.visits-smaller-in-Continue-1
visits-smaller-in-Continue-1 c =
    let small = in_chain _ _ _ _ _ _ _ _ c.visits.invariant.1 c.in-Some.set (ap (λ chains. slice_get (chain_of chains c.args.key) c.visits.at) (sym c.as_slice.ensures.value) ∙ sym c.waiting_at.ensures.found ∙ c.in-Some.is) in
    omega (arith, small, c.in_ok-send-in-Some-missing_of.ensures.ok.shorter)

pub visits-preserved-in-Continue-1 : goal.visits-preserved-in-Continue-1
visits-preserved-in-Continue-1 c = (
  c.in_ok-send-in-Some-missing_of.ensures.ok.sized ∙ c.visits.invariant.0,
  sends _ _ _ _ _ _ _ _ c.visits.invariant.1 c.in-Some.set (ap (λ chains. slice_get (chain_of chains c.args.key) c.visits.at) (sym c.as_slice.ensures.value) ∙ sym c.waiting_at.ensures.found ∙ c.in-Some.is) c.in-Some-missing_of.other (sym c.missing_of.ensures ∙ c.in-Some-missing_of.is) _ _ c.in_ok-send-in-Some-missing_of.ensures.ok,
)

pub visits-smaller : goal.visits-smaller
visits-smaller c =
    let small = in_chain _ _ _ _ _ _ _ _ c.visits.invariant.1 c.in-Some.set (ap (λ chains. slice_get (chain_of chains c.args.key) c.visits.at) (sym c.as_slice.ensures.value) ∙ sym c.waiting_at.ensures.found ∙ c.in-Some.is) in
    omega (arith, small)

pub visits-preserved : goal.visits-preserved
visits-preserved c = (
  c.visits.invariant.0,
  subst (λ least. IsVisiting c.args.sets.now c.visits.waits.items c.visits.chains.items c.args.places.now c.args.key (c.visits.at + 1) c.args.least least) (sym c.joined-least.ensures)
      (stays _ _ _ _ _ _ _ _ c.visits.invariant.1 c.in-Some.set (ap (λ chains. slice_get (chain_of chains c.args.key) c.visits.at) (sym c.as_slice.ensures.value) ∙ sym c.waiting_at.ensures.found ∙ c.in-Some.is) (sym c.missing_of.ensures ∙ c.in-None.is)),
)

pub returns-clause-arrives : goal.returns-clause-arrives
returns-clause-arrives c = ends _ _ _ _ _ _ _ _ c.visits.invariant.1 (ap (λ chains. slice_get (chain_of chains c.args.key) c.visits.at) (sym c.as_slice.ensures.value) ∙ sym c.waiting_at.ensures.found ∙ c.in_default.is)
