use Rattle.std.proofs.Common.{◌≡◌, ◌∷◌, ◌++◌, [], drop, true≢false, refl, sym, ap, ◌∙◌}
use Rattle.term_text.specs.Fronts.{begins_with}
use Rattle.term_text.specs.Lits.{RawLit, raw_text, IsOwnLit}
use Rattle.term_text.proofs.Cuts.{begins_split}
use Rattle.term_text.proofs.LitItems.{no_lit_item, lit_item, no_lits}
use Rattle.term_text.proofs.Listing.{listing_starts, listing_missing, listing_wrong, listing_more, listing_ends}
use Rattle.term_text.proofs.Verdicts.{no_lit_verdict}
use Rattle.term_text.proofs.lits.read_lits.Goals as goal

pub loop-list-init : goal.loop-list-init
loop-list-init c = record {
  have = [];
  listing = listing_starts raw_text IsOwnLit c.args.bytes.now (λ same. c.if-ends_list.ensures (sym same));
  verdict = no_lit_verdict c.args.symbols.now _ c.new.ensures.items;
}

pub find_term-requires : goal.find_term-requires
find_term-requires c =
    let taken = rw c.in-Some.is at c.in_ok-taken.ensures in
    (taken.1.term, taken.1.raws_are)

pub returns-in_default : goal.returns-in_default
returns-in_default c =
    let sign = c.take_sign-negative.ensures in
    listing_missing raw_text IsOwnLit c.args.bytes.now c.loop-list.rest.now c.loop-list.invariant.have (no_lit_item _ _ c.loop-list.rest.now sign.text sign.positive (rw c.in_default.is at c.in_ok-taken.ensures)) c.loop-list.invariant.listing

pub returns-then-ends_list : goal.returns-then-ends_list
returns-then-ends_list c = record { raws = []; is = no_lits c.args.bytes.now c.if-ends_list.ensures; verdict = no_lit_verdict c.args.symbols.now _ c.new.ensures.items }

pub returns-then-ends_list-2 : goal.returns-then-ends_list-2
returns-then-ends_list-2 c =
    let sign = c.take_sign-negative.ensures in
    let taken = rw c.in-Some.is at c.in_ok-taken.ensures in
    let at = c.loop-list.invariant in
    let raw : RawLit = record { negative = c.take_sign-negative.result.0; atom = taken.1.term } in
    record {
      raws = at.have ++ raw ∷ [];
      is = listing_ends raw_text IsOwnLit c.args.bytes.now c.loop-list.rest.now _ at.have raw (lit_item _ _ c.loop-list.rest.now sign.text sign.positive taken.1.term _ taken.1.is) (sym c.skip-behind.ensures ∙ c.if-ends_list-2.ensures) at.listing;
      verdict = c.in_ok-add_lit.ensures c.args.symbols.now raw at.have (c.signed.ensures c.args.symbols.now raw refl (c.in_ok-found.ensures taken.1.term taken.1.raws_are)) at.verdict;
    }

pub returns-then-not-starts : goal.returns-then-not-starts
returns-then-not-starts c =
    let sign = c.take_sign-negative.ensures in
    let taken = rw c.in-Some.is at c.in_ok-taken.ensures in
    let at = c.loop-list.invariant in
    let raw : RawLit = record { negative = c.take_sign-negative.result.0; atom = taken.1.term } in
    listing_wrong raw_text IsOwnLit c.args.bytes.now c.loop-list.rest.now _ at.have raw (lit_item _ _ c.loop-list.rest.now sign.text sign.positive taken.1.term _ taken.1.is)
    (λ next is. true≢false (sym (ap (begins_with (44 ∷ [])) (c.skip-behind.ensures ∙ is)) ∙ sym c.if-not-starts.ensures))
    (λ is. c.if-ends_list-2.ensures (c.skip-behind.ensures ∙ is)) at.listing

pub loop-list-preserved : goal.loop-list-preserved
loop-list-preserved c =
    let sign = c.take_sign-negative.ensures in
    let taken = rw c.in-Some.is at c.in_ok-taken.ensures in
    let at = c.loop-list.invariant in
    let raw : RawLit = record { negative = c.take_sign-negative.result.0; atom = taken.1.term } in
    let split = begins_split (44 ∷ []) c.skip-behind.result.now (sym c.if-not-starts.ensures) in
    let next : c.skip-rest.result.now ≡ split.0 = c.skip-rest.ensures ∙ ap (drop 1) split.1 in
    rw next
    (record {
      have = at.have ++ raw ∷ [];
      listing = listing_more raw_text IsOwnLit c.args.bytes.now c.loop-list.rest.now _ split.0 at.have raw (lit_item _ _ c.loop-list.rest.now sign.text sign.positive taken.1.term _ taken.1.is) (sym c.skip-behind.ensures ∙ split.1) at.listing;
      verdict = c.in_ok-add_lit.ensures c.args.symbols.now raw at.have (c.signed.ensures c.args.symbols.now raw refl (c.in_ok-found.ensures taken.1.term taken.1.raws_are)) at.verdict;
    })
