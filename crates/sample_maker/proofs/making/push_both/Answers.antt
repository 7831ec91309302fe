use Rattle.std.proofs.Common.{◌≡◌, ◌-◌, ◌*◌, length, ◌∙◌, ap, arith, length-append}
use Rattle.sample_maker.proofs.Symbols.{a_is_new, b_is_new, length_symbols, with_both}
use Rattle.sample_maker.proofs.making.push_both.Goals as goal

pub push_symbol-requires-clause-few : goal.push_symbol-requires-clause-few
push_symbol-requires-clause-few c = let held : length c.args.symbols.now ≡ 2 * (c.args.i - 1) = ap length c.requires.before ∙ length_symbols (c.args.i - 1) in omega arith

pub push_symbol-requires-clause-new : goal.push_symbol-requires-clause-new
push_symbol-requires-clause-new c = rw c.requires.before (a_is_new c.args.i c.requires.low)

pub push_symbol-requires-2-clause-few : goal.push_symbol-requires-2-clause-few
push_symbol-requires-2-clause-few c =
    let held : length c.args.symbols.now ≡ 2 * (c.args.i - 1) = ap length c.requires.before ∙ length_symbols (c.args.i - 1) in
    rw c.in_ok-push_symbol.ensures (simp length-append (omega arith))

pub push_symbol-requires-2-clause-new : goal.push_symbol-requires-2-clause-new
push_symbol-requires-2-clause-new c = rw (c.in_ok-push_symbol.ensures, c.requires.before) (b_is_new c.args.i c.requires.low)

pub returns : goal.returns
returns c = with_both c.args.i c.args.symbols.now c.push_symbol.new.symbols c.push_symbol-2.new.symbols c.requires.low c.requires.before c.in_ok-push_symbol.ensures c.in_ok-push_symbol-2.ensures
