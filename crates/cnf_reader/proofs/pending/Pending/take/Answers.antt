use Rattle.std.proofs.Common.{sym, ◌∙◌, arith}
use Rattle.cnf_grammar.specs.Seen.{seen}
use Rattle.cnf_reader.proofs.Taking.{took, moved_to, few_open}
use Rattle.cnf_reader.proofs.pending.Pending.take.Goals as goal

pub returns-clause-taken : goal.returns-clause-taken
returns-clause-taken c =
    took c.args.is_full c.args.selections.now c.args.self.now (seen c.args.token.now) c.args.line c.args.column c.advance.new.self c.add.new.self (sym c.breaks_item.ensures ∙ c.if-breaks_item.false)
    (moved_to _ c.in_ok-advance.field-0 _ c.advance.new.self c.in_ok-advance.ensures.ok c.if-not-branch.false)
    (few_open c.advance.new.self (omega arith)) (sym c.in_ok-kind.ensures ∙ c.in_default.is) (rw c.is_outside_items-is_outside.ensures at c.in_ok-add.ensures)
