use Rattle.std.proofs.Common.{◌≡◌, ◌<◌, ◌++◌, ◌∷◌, [], length, map, All, Some, slice_get, false, sym, ap, ◌∙◌, subst, arith}
use Rattle.std.specs.Option.{option_map}
use Rattle.std.proofs.lemmas.List.{length-append, length-map}
use Rattle.std.proofs.lemmas.Option.{slice_get-map}
use Rattle.term_store.specs.Terms.{weight_together, IsStore}
use Rattle.term_store.specs.Seen.{term_seen}
use Rattle.term_store.proofs.Keys.{key_same}
use Rattle.term_store.proofs.Keeping.{is_missing, is_in, stays, goes_last, adds_at_most, weights_more}
use Rattle.term_store.proofs.WordsGrow.{many_weights, weights_together, store_push}
use Rattle.mg_word.proofs.Members.{not_true}
use Rattle.term_store.proofs.store.TermStore.intern_key.Goals as goal
use Rattle.term_store.proofs.store.TermStore.intern_key.Goals.{then-added, else-added}

pub weight_with-weight-requires-clause-held : goal.weight_with-weight-requires-clause-held
weight_with-weight-requires-clause-held c =
    let many = many_weights (map term_seen c.self.inside.keys.keys) c.self.inside.weights.items c.self.invariant.weights in
    let seen : length (map term_seen c.self.inside.keys.keys) ≡ length c.args.self.now = ap length c.self.view_is in
    rw (c.deref.ensures.value, c.as_slice.ensures) (λ k d within. omega (arith, c.requires.held k d within, many, seen))

pub weight_with-weight-requires-clause-light : goal.weight_with-weight-requires-clause-light
weight_with-weight-requires-clause-light c =
    let held : All (λ argument. argument < length (map term_seen c.self.inside.keys.keys)) c.args.key.arguments.items =
    rw c.self.view_is c.requires.held in
    let together = weights_together (map term_seen c.self.inside.keys.keys) c.self.inside.weights.items c.args.key.arguments.items c.self.invariant.weights held in
    let light : weight_together (map term_seen c.self.inside.keys.keys) c.args.key.arguments.items < 4294967295 = rw c.self.view_is c.requires.light in
    rw (c.deref.ensures.value, c.as_slice.ensures) (omega (arith, together, light))

pub invariant_of-self-then-added : goal.invariant_of-self-then-added
invariant_of-self-then-added c =
    let keys = c.self.inside.keys.keys in
    let held : All (λ argument. argument < length (map term_seen keys)) c.args.key.arguments.items = rw c.self.view_is c.requires.held in
    let none : is_in keys c.args.key ≡ false = not_true (is_in keys c.args.key) (sym c.in_ok-id.ensures.added ∙ c.if-added.true) in
    let missing = is_missing keys c.args.key none in
    let last = goes_last keys c.insert_full.new.self.keys c.args.key c.in_ok-id.ensures.keys missing in
    record {
      store = subst IsStore (sym last) (store_push (map term_seen keys) (term_seen c.args.key) c.self.invariant.store missing held);
      weights =
          let heavy = rw (c.deref.ensures.value, c.as_slice.ensures) at c.weight_with-weight.ensures in
          c.push_reserved.ensures.items
          ∙ (ap (λ l. l ++ c.weight_with-weight.result ∷ []) c.in_ok-reserve.ensures.items
          ∙ weights_more (map term_seen keys) (map term_seen c.insert_full.new.self.keys) (term_seen c.args.key) c.self.inside.weights.items c.weight_with-weight.result last c.self.invariant.weights held heavy);
      few =
          let one = ap length last in
          let many = length-append (map term_seen keys) (term_seen c.args.key ∷ []) in
          omega (arith, one, many, length-map keys term_seen, length-map c.insert_full.new.self.keys term_seen, c.len.ensures.len);
    }

seen_after : (c : goal.Joined-added) → c.if-added.self ≡ map term_seen c.insert_full.new.self.keys
seen_after c = elim c.if-added.branch [ then-added w ↦ w.self-is | else-added w ↦ w.self-is ]

pub returns-clause-number : goal.returns-clause-number
returns-clause-number c =
    let stored = c.in_ok-id.ensures.stored in
    ap (λ terms. slice_get terms c.in_ok-id.id) (seen_after c)
    ∙ (slice_get-map term_seen c.insert_full.new.self.keys c.in_ok-id.id ∙ (ap (option_map term_seen) stored.1 ∙ ap Some (sym (key_same c.args.key stored.0 stored.2))))

pub returns-clause-held : goal.returns-clause-held
returns-clause-held c there =
    seen_after c ∙ (stays c.self.inside.keys.keys c.insert_full.new.self.keys c.args.key c.in_ok-id.ensures.keys (rw c.self.view_is there) ∙ c.self.view_is)

pub returns-clause-added : goal.returns-clause-added
returns-clause-added c missing =
    seen_after c
    ∙ (goes_last c.self.inside.keys.keys c.insert_full.new.self.keys c.args.key c.in_ok-id.ensures.keys (rw c.self.view_is missing)
    ∙ ap (λ terms. terms ++ term_seen c.args.key ∷ []) c.self.view_is)

pub returns-clause-grown : goal.returns-clause-grown
returns-clause-grown c =
    let at_most = adds_at_most c.self.inside.keys.keys c.insert_full.new.self.keys c.args.key c.in_ok-id.ensures.keys in
    rw (seen_after c, ← c.self.view_is) at_most
