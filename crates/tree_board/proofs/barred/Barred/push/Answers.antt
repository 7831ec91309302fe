use Rattle.std.proofs.Common.{◌≡◌, length, sym, ap, ◌∙◌, true, false, arith}
use Rattle.std.specs.Option.{is_some}
use Rattle.mg_word.specs.Sets.{holds}
use Rattle.tree_board.proofs.FirstIndices.{index_held, index_known, index_new}
use Rattle.tree_board.proofs.barred.Barred.push.Goals as goal

pub invariant_of-self-then-contains_key : goal.invariant_of-self-then-contains_key
invariant_of-self-then-contains_key c lit =
    let there : holds c.self.inside.lits.items c.args.lit ≡ true =
    sym (index_held c.self.inside.lits.items c.args.lit) ∙ sym (ap is_some (c.self.invariant c.args.lit)) ∙ sym c.contains_key.ensures ∙ c.if-contains_key.true in
    rw c.in_ok-push.ensures.items (c.self.invariant lit ∙ sym (index_known c.self.inside.lits.items c.args.lit there lit))

pub invariant_of-self-in-Ok : goal.invariant_of-self-in-Ok
invariant_of-self-in-Ok c lit =
    let missing : holds c.self.inside.lits.items c.args.lit ≡ false =
    sym (index_held c.self.inside.lits.items c.args.lit) ∙ sym (ap is_some (c.self.invariant c.args.lit)) ∙ sym c.contains_key.ensures ∙ c.if-contains_key.false in
    let index : c.len-index.result ≡ length c.self.inside.lits.items = omega arith in
    let pushed = index_new c.self.inside.lits.items c.args.lit missing lit in
    c.in-Ok.ensures.updates.0 lit
    ∙ rw (c.in_ok-key.ensures, index, c.in_ok-push-2.ensures.items, c.self.invariant lit) (sym pushed)
