use Rattle.std.proofs.Common.{◌≡◌, ◌+◌, ◌-◌, ◌≤◌, ◌++◌, ap, ap₂, arith, length, refl, sym, ◌∙◌}
use Rattle.tree_board.specs.CellMoves.{cells_by, cells_of_cases, closures_by, settled_as}
use Rattle.tree_board.proofs.CaseCells.{cells_length, closures_few, reasons_length}
use Rattle.tree_board.proofs.CaseReasons.{cases_here, cases_there, reasons_are}
use Rattle.tree_board.proofs.EventSeen.{seen_cases, seen_cells, seen_events, seen_extends, seen_grown, seen_kept, seen_opens, seen_some, seen_within}
use Rattle.tree_board.proofs.Restores.{on_ok}
use Rattle.tree_board.proofs.board.Board.append_by.Goals as goal

pub overflow_cast-len : goal.overflow_cast-len
overflow_cast-len c =
    let few = seen_cases _ _ c.self.view_is _ _ _ _ _ c.self.invariant _ c.requires.lawful _ (cases_there c.args.self.now c.args.event c.requires.lawful) in
    let size = ap length (reasons_are c.args.self.now c.args.event c.requires.lawful c.args.reasons.items c.requires.reasons) ∙ reasons_length (cases_here c.args.self.now c.args.event c.requires.lawful) in
    omega (arith, few, size, c.len.ensures, c.self.inside.closures.ok.0)

pub born-requires : goal.born-requires
born-requires c =
    let few = seen_cases _ _ c.self.view_is _ _ _ _ _ c.self.invariant _ c.requires.lawful _ (cases_there c.args.self.now c.args.event c.requires.lawful) in
    let size = ap length (reasons_are c.args.self.now c.args.event c.requires.lawful c.args.reasons.items c.requires.reasons) ∙ reasons_length (cases_here c.args.self.now c.args.event c.requires.lawful) in
    omega (arith, few, size, c.len.ensures, c.self.inside.closures.ok.0)

pub overflow_cast-len-2 : goal.overflow_cast-len-2
overflow_cast-len-2 c = let few = seen_events _ _ c.self.view_is _ _ _ _ _ c.self.invariant _ c.requires.lawful in omega (arith, few, c.len-2.ensures, c.self.inside.journal.ok.0)

pub overflow_cast-len-3 : goal.overflow_cast-len-3
overflow_cast-len-3 c = let few = seen_cells _ _ c.self.view_is _ _ _ _ _ c.self.invariant _ c.requires.lawful in omega (arith, few, c.len-3.ensures, c.self.inside.cells.ok.0)

pub grow-outcome-requires-clause-there : goal.grow-outcome-requires-clause-there
grow-outcome-requires-clause-there c = seen_within _ _ c.self.view_is _ _ _ _ _ c.self.invariant _ c.requires.lawful _ c.node-node.ensures

pub grow-outcome-requires-clause-some : goal.grow-outcome-requires-clause-some
grow-outcome-requires-clause-some c =
    let settled : c.settled_as-settled.result ≡ settled_as (length c.self.inside.journal.items) (length c.self.inside.cells.items) c.args.event =
    c.settled_as-settled.ensures ∙ ap₂ (λ events nodes. settled_as events nodes c.args.event) (c.len-2.ensures ∙ c.self.inside.journal.ok.0) (c.len-3.ensures ∙ c.self.inside.cells.ok.0) in
    let are = reasons_are c.args.self.now c.args.event c.requires.lawful c.args.reasons.items c.requires.reasons in
    let children : c.in_ok-children.children.cells.items ≡ cells_of_cases c.node-node.result (length c.self.inside.closures.items) (cases_here c.args.self.now c.args.event c.requires.lawful) =
    c.in_ok-children.ensures.cells ∙ ap₂ (λ first reasons. cells_by c.node-node.result first reasons) (c.len.ensures ∙ c.self.inside.closures.ok.0) are in
    seen_grown _ _ c.self.view_is _ _ _ _ _ c.self.invariant _ c.requires.lawful _ c.node-node.ensures _ (cases_there c.args.self.now c.args.event c.requires.lawful) _ settled _ c.in_ok-lemma.ensures _ children _ refl _ _ c.in_ok-push.ensures.items c.as_slice.ensures.value

pub invariant_of-self-2 : goal.invariant_of-self-2
invariant_of-self-2 c =
    let settled : c.settled_as-settled.result ≡ settled_as (length c.self.inside.journal.items) (length c.self.inside.cells.items) c.args.event =
    c.settled_as-settled.ensures ∙ ap₂ (λ events nodes. settled_as events nodes c.args.event) (c.len-2.ensures ∙ c.self.inside.journal.ok.0) (c.len-3.ensures ∙ c.self.inside.cells.ok.0) in
    let are = reasons_are c.args.self.now c.args.event c.requires.lawful c.args.reasons.items c.requires.reasons in
    let children : c.in_ok-children.children.cells.items ≡ cells_of_cases c.node-node.result (length c.self.inside.closures.items) (cases_here c.args.self.now c.args.event c.requires.lawful) =
    c.in_ok-children.ensures.cells ∙ ap₂ (λ first reasons. cells_by c.node-node.result first reasons) (c.len.ensures ∙ c.self.inside.closures.ok.0) are in
    let went = sym c.is_err.ensures.value ∙ c.if-is_err.false in
    let reasons = on_ok _ _ went c.grow-outcome.ensures.closures ∙ ap (λ more. c.self.inside.closures.items ++ more) (c.in_ok-children.ensures.closures ∙ ap closures_by are) in
    seen_kept _ _ c.self.view_is _ _ _ _ _ c.self.invariant _ c.requires.lawful _ c.node-node.ensures _ (cases_there c.args.self.now c.args.event c.requires.lawful) _ settled _ c.in_ok-lemma.ensures _ children _ reasons _ _ c.in_ok-push.ensures.items c.as_slice.ensures.value
    _ _ _ (on_ok _ _ went c.grow-outcome.ensures.ok) _ (c.opens.ensures ∙ ap₂ (λ born shut. born - shut) (ap length c.in_ok-children.ensures.cells ∙ (cells_length c.node-node.result c.len.result c.args.reasons.items ∙ (ap length are ∙ reasons_length (cases_here c.args.self.now c.args.event c.requires.lawful)))) (ap length c.in_ok-children.ensures.closures ∙ ap (λ list. length (closures_by list)) are)) _ c.after-tally.ensures

pub opens-requires-clause-reasons : goal.opens-requires-clause-reasons
opens-requires-clause-reasons c =
    let few = closures_few c.args.reasons.items in
    let shut = ap length c.in_ok-children.ensures.closures in
    let born = ap length c.in_ok-children.ensures.cells ∙ cells_length c.node-node.result c.len.result c.args.reasons.items in
    omega (arith, few, shut, born)

pub opens-requires-clause-size : goal.opens-requires-clause-size
opens-requires-clause-size c =
    let few = seen_cases _ _ c.self.view_is _ _ _ _ _ c.self.invariant _ c.requires.lawful _ (cases_there c.args.self.now c.args.event c.requires.lawful) in
    let size = ap length (reasons_are c.args.self.now c.args.event c.requires.lawful c.args.reasons.items c.requires.reasons) ∙ reasons_length (cases_here c.args.self.now c.args.event c.requires.lawful) in
    let born = ap length c.in_ok-children.ensures.cells ∙ cells_length c.node-node.result c.len.result c.args.reasons.items in
    omega (arith, few, size, born)

pub after-tally-requires-clause-extensions : goal.after-tally-requires-clause-extensions
after-tally-requires-clause-extensions c = seen_extends _ _ c.self.view_is _ _ _ _ _ c.self.invariant _ c.requires.lawful

pub after-tally-requires-clause-some : goal.after-tally-requires-clause-some
after-tally-requires-clause-some c = seen_some _ _ c.self.view_is _ _ _ _ _ c.self.invariant _ c.requires.lawful

pub after-tally-requires-clause-opens : goal.after-tally-requires-clause-opens
after-tally-requires-clause-opens c =
    let size = ap length (reasons_are c.args.self.now c.args.event c.requires.lawful c.args.reasons.items c.requires.reasons) ∙ reasons_length (cases_here c.args.self.now c.args.event c.requires.lawful) in
    let born = ap length c.in_ok-children.ensures.cells ∙ cells_length c.node-node.result c.len.result c.args.reasons.items in
    let own = c.opens.ensures in
    seen_opens _ _ c.self.view_is _ _ _ _ _ c.self.invariant _ c.requires.lawful _ (cases_there c.args.self.now c.args.event c.requires.lawful) _ (omega (arith, size, born, own))
