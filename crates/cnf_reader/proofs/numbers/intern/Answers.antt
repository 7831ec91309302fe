use Rattle.cnf_reader.proofs.Numbering.{interned}
use Rattle.mg_word.proofs.NameTexts.{name_utf8}
use Rattle.mg_word.specs.Table.{symbol_of}
use Rattle.cnf_reader.proofs.numbers.intern.Goals as goal

pub unreachable-requires : goal.unreachable-requires
unreachable-requires c = c.in_default.ensures.cases.0 (name_utf8 c.args.name.now c.requires.ascii)

pub returns : goal.returns
returns c =
    let text = c.in-Ok.ensures.cases.0 in
    interned c.args.symbols.now c.intern.new.self (symbol_of c.args.name.now c.args.arity c.args.kind) c.in_ok-id.id c.len-count.ensures.different (rw text at c.in_ok-id.ensures.number)
    (rw text at c.in_ok-id.ensures.held) (rw text at c.in_ok-id.ensures.added)
