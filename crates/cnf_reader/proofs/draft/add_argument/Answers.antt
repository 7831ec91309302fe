use Rattle.std.proofs.Common.{sym, ◌+◌, ◌∙◌, arith}
use Rattle.cnf_reader.proofs.Drafting.{past_end, at_variable, at_symbol, few_at}
use Rattle.cnf_reader.proofs.draft.add_argument.Goals as goal

pub returns-then-place-len : goal.returns-then-place-len
returns-then-place-len c = past_end c.args.place c.args.items.now.items (omega arith)

pub overflow_add-arity : goal.overflow_add-arity
overflow_add-arity c =
    let few = few_at 4294967294 c.args.place c.in-Symbol.symbol c.args.items.now.items c.index.result.now (omega arith) (sym c.index.ensures ∙ c.in-Symbol.is) c.requires in omega (arith, few)

pub returns-in-Symbol : goal.returns-in-Symbol
returns-in-Symbol c =
    at_symbol c.args.place c.in-Symbol.symbol (c.in-Symbol.symbol.arity + 1) c.args.items.now.items c.index.result.now (omega arith) (sym c.index.ensures ∙ c.in-Symbol.is) (omega arith)

pub returns-in_default : goal.returns-in_default
returns-in_default c = at_variable c.args.place c.in_default.field-0 c.args.items.now.items c.index.result.now (omega arith) (sym c.index.ensures ∙ c.in_default.is)
