use Rattle.std.proofs.Common.{◌≡◌, ℕ, List, arith, Some, if◌then◌else◌, length, slice_get, subst, sym, ap, ◌∙◌}
use Rattle.std.specs.BTreeMap.{get}
use Rattle.mg_word.specs.Orders.{lit_cmp}
use Rattle.mg_word.specs.Sets.{same_lit}
use Rattle.key_watch.specs.declared.key.Key.{Key}
use Rattle.key_watch.specs.KeyNumbers.{AreNumbers, IsTable}
use Rattle.key_watch.specs.Keys.{barred_key, held_key}
use Rattle.key_watch.proofs.Tables.{barred_apart, barred_same, either_way, held_apart, held_same, number_more, number_other, number_same}
use Rattle.key_watch.proofs.key_table.KeyTable.add.Goals as goal

pub invariant_of-self-in-Held : goal.invariant_of-self-in-Held
invariant_of-self-in-Held c =
    let number : c.in-Ok.number ≡ length c.self.inside.keys.items = omega arith in
    let absent : (number : ℕ) → slice_get c.self.inside.keys.items number ≡ Some (held_key c.args.lit.now) → ⊥ =
    λ number e. c.requires number (ap (λ (keys : List Key). slice_get keys number) (sym c.self.view_is) ∙ (e ∙ ap (λ side. Some (record { side = side; lit = c.args.lit.now })) (sym c.in-Held.is))) in
    either_way c.enter.result _ _ _ _ (IsTable record { keys = c.enter.new.keys; held = c.enter.new.numbers; barred = c.self.inside.barred }) c.enter.ensures.ok c.enter.ensures.keys c.enter.ensures.err c.enter.ensures.keys_err
    (λ updated keys. record {
      held = subst (λ all. AreNumbers all held_key (get lit_cmp c.enter.new.numbers)) (sym keys)
          (number_more c.self.inside.keys.items held_key (get lit_cmp c.self.inside.held) c.self.invariant.held c.args.lit.now held_same absent (get lit_cmp c.enter.new.numbers)
          (λ one. updated one ∙ ap (λ n. if same_lit c.args.lit.now one then Some n else get lit_cmp c.self.inside.held one) number));
      barred = subst (λ all. AreNumbers all barred_key (get lit_cmp c.self.inside.barred)) (sym keys)
          (number_other c.self.inside.keys.items barred_key (get lit_cmp c.self.inside.barred) c.self.invariant.barred (held_key c.args.lit.now) (λ lit e. barred_apart c.args.lit.now lit e));
    })
    (λ same keys. record {
      held = subst (λ all. AreNumbers all held_key (get lit_cmp c.enter.new.numbers)) (sym keys) (number_same c.self.inside.keys.items held_key (get lit_cmp c.self.inside.held) c.self.invariant.held (get lit_cmp c.enter.new.numbers) same);
      barred = subst (λ all. AreNumbers all barred_key (get lit_cmp c.self.inside.barred)) (sym keys) c.self.invariant.barred;
    })

pub invariant_of-self-in-Barred : goal.invariant_of-self-in-Barred
invariant_of-self-in-Barred c =
    let number : c.in-Ok.number ≡ length c.self.inside.keys.items = omega arith in
    let absent : (number : ℕ) → slice_get c.self.inside.keys.items number ≡ Some (barred_key c.args.lit.now) → ⊥ =
    λ number e. c.requires number (ap (λ (keys : List Key). slice_get keys number) (sym c.self.view_is) ∙ (e ∙ ap (λ side. Some (record { side = side; lit = c.args.lit.now })) (sym c.in-Barred.is))) in
    either_way c.enter-in-Barred.result _ _ _ _ (IsTable record { keys = c.enter-in-Barred.new.keys; held = c.self.inside.held; barred = c.enter-in-Barred.new.numbers }) c.enter-in-Barred.ensures.ok c.enter-in-Barred.ensures.keys c.enter-in-Barred.ensures.err c.enter-in-Barred.ensures.keys_err
    (λ updated keys. record {
      held = subst (λ all. AreNumbers all held_key (get lit_cmp c.self.inside.held)) (sym keys)
          (number_other c.self.inside.keys.items held_key (get lit_cmp c.self.inside.held) c.self.invariant.held (barred_key c.args.lit.now) (λ lit e. held_apart c.args.lit.now lit e));
      barred = subst (λ all. AreNumbers all barred_key (get lit_cmp c.enter-in-Barred.new.numbers)) (sym keys)
          (number_more c.self.inside.keys.items barred_key (get lit_cmp c.self.inside.barred) c.self.invariant.barred c.args.lit.now barred_same absent (get lit_cmp c.enter-in-Barred.new.numbers)
          (λ one. updated one ∙ ap (λ n. if same_lit c.args.lit.now one then Some n else get lit_cmp c.self.inside.barred one) number));
    })
    (λ same keys. record {
      held = subst (λ all. AreNumbers all held_key (get lit_cmp c.self.inside.held)) (sym keys) c.self.invariant.held;
      barred = subst (λ all. AreNumbers all barred_key (get lit_cmp c.enter-in-Barred.new.numbers)) (sym keys) (number_same c.self.inside.keys.items barred_key (get lit_cmp c.self.inside.barred) c.self.invariant.barred (get lit_cmp c.enter-in-Barred.new.numbers) same);
    })
