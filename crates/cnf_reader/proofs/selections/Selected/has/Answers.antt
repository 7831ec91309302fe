use Rattle.std.proofs.Common.{◌∙◌, sym}
use Rattle.cnf_reader.proofs.Selecting.{looked_up, no_text_among}
use Rattle.cnf_reader.proofs.selections.Selected.has.Goals as goal

pub returns-in_default : goal.returns-in_default
returns-in_default c = sym (no_text_among c.args.self.now c.args.name.now (rw c.self.view_is at c.self.invariant).1 (rw c.as_slice.ensures at c.in_default.ensures.cases.0))

pub returns : goal.returns
returns c =
    let texts = c.in-Ok.ensures.cases.0 ∙ c.as_slice.ensures in
    c.is_some.ensures ∙ looked_up c.args.self.now c.args.name.now c.in_ok-found.found c.self.inside.table (rw c.self.view_is at c.self.invariant).0 (rw texts at c.in_ok-found.ensures.none)
