use Rattle.std.proofs.Common.{◌≡◌, ◌∷◌, ◌++◌, [], drop, true≢false, sym, ap, ◌∙◌}
use Rattle.term_text.specs.Fronts.{begins_with}
use Rattle.term_text.proofs.Cuts.{begins_split}
use Rattle.term_text.specs.OwnTerms.{IsOwnTerm}
use Rattle.mg_word.specs.Spelling.{spelled_symbols}
use Rattle.term_text.proofs.Listing.{listing_starts, listing_missing, listing_wrong, listing_more, listing_ends, no_term_item, term_item, only_none}
use Rattle.term_text.proofs.Verdicts.{no_verdict}
use Rattle.term_text.proofs.lists.read_list.Goals as goal

pub loop-list-init : goal.loop-list-init
loop-list-init c = record {
  have = [];
  listing = listing_starts spelled_symbols IsOwnTerm c.args.bytes.now (λ same. c.if-ends_list.ensures (sym same));
  verdict = no_verdict c.args.symbols.now _ c.empty.ensures;
}

pub returns-in_default : goal.returns-in_default
returns-in_default c =
    let none = rw c.in_default.is at c.in_ok-taken.ensures in
    listing_missing spelled_symbols IsOwnTerm c.args.bytes.now c.loop-list.rest.now c.loop-list.invariant.have (no_term_item _ none) c.loop-list.invariant.listing

pub returns-then-ends_list : goal.returns-then-ends_list
returns-then-ends_list c = record { terms = []; is = only_none c.args.bytes.now c.if-ends_list.ensures; verdict = no_verdict c.args.symbols.now _ c.empty.ensures }

pub returns-then-ends_list-2 : goal.returns-then-ends_list-2
returns-then-ends_list-2 c =
    let taken = rw c.in-Some.is at c.in_ok-taken.ensures in
    let at = c.loop-list.invariant in
    let behind = sym c.skip-behind.ensures ∙ c.if-ends_list-2.ensures in
    record {
      terms = at.have ++ taken.1.term ∷ [];
      is = listing_ends spelled_symbols IsOwnTerm c.args.bytes.now c.loop-list.rest.now _ at.have taken.1.term (term_item _ _ _ taken.1.is) behind at.listing;
      verdict = c.in_ok-add_term.ensures c.args.symbols.now taken.1.term at.have (c.in_ok-found.ensures taken.1.term taken.1.raws_are) at.verdict;
    }

pub returns-then-not-starts : goal.returns-then-not-starts
returns-then-not-starts c =
    let taken = rw c.in-Some.is at c.in_ok-taken.ensures in
    let at = c.loop-list.invariant in
    listing_wrong spelled_symbols IsOwnTerm c.args.bytes.now c.loop-list.rest.now _ at.have taken.1.term (term_item _ _ _ taken.1.is)
    (λ next is. true≢false (sym (ap (begins_with (44 ∷ [])) (c.skip-behind.ensures ∙ is)) ∙ sym c.if-not-starts.ensures))
    (λ is. c.if-ends_list-2.ensures (c.skip-behind.ensures ∙ is)) at.listing

pub loop-list-preserved : goal.loop-list-preserved
loop-list-preserved c =
    let taken = rw c.in-Some.is at c.in_ok-taken.ensures in
    let at = c.loop-list.invariant in
    let split = begins_split (44 ∷ []) c.skip-behind.result.now (sym c.if-not-starts.ensures) in
    let next : c.skip-rest.result.now ≡ split.0 = c.skip-rest.ensures ∙ ap (drop 1) split.1 in
    rw next
    (record {
      have = at.have ++ taken.1.term ∷ [];
      listing = listing_more spelled_symbols IsOwnTerm c.args.bytes.now c.loop-list.rest.now _ split.0 at.have taken.1.term (term_item _ _ _ taken.1.is) (sym c.skip-behind.ensures ∙ split.1) at.listing;
      verdict = c.in_ok-add_term.ensures c.args.symbols.now taken.1.term at.have (c.in_ok-found.ensures taken.1.term taken.1.raws_are) at.verdict;
    })
