use Rattle.std.proofs.Common.{◌∙◌, ap, arith}
use Rattle.cnf_grammar.specs.Meaning.{index_of}
use Rattle.cnf_reader.proofs.Drafting.{index_within, number_known, number_new}
use Rattle.cnf_reader.proofs.draft.number_variable.Goals as goal

pub overflow_cast-number : goal.overflow_cast-number
overflow_cast-number c =
    let found = c.variable_index-index.ensures ∙ ap (λ vs. index_of vs c.args.text.now) c.as_slice.ensures in
    let less = index_within c.args.variables.now c.args.text.now in
    let few = c.requires in omega (arith, found, less, few)

pub returns-then-index-as_slice : goal.returns-then-index-as_slice
returns-then-index-as_slice c =
    number_known c.args.variables.now c.args.text.now c.variable_index-index.result (c.variable_index-index.ensures ∙ ap (λ vs. index_of vs c.args.text.now) c.as_slice.ensures)
    (rw c.as_slice-2.ensures at c.if-index-as_slice.true)

pub returns : goal.returns
returns c =
    let new = number_new c.args.variables.now c.args.text.now c.variable_index-index.result (c.variable_index-index.ensures ∙ ap (λ vs. index_of vs c.args.text.now) c.as_slice.ensures)
    (rw c.as_slice-2.ensures at c.if-index-as_slice.false) in
    ((rw c.in_ok-push.was at c.push.ensures.ok) ∙ rw (c.new-name.ensures, c.in_ok-from_slice.ensures.items) new.0, new.1)
