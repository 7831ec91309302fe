use Rattle.std.proofs.Common.{◌<◌, ◌≤◌, None, Some, arith, length, subst, sym}
use Rattle.tree_board.specs.NextOpen.{GoesOn}
use Rattle.tree_board.specs.Searches.{Search, board_of, setting_of}
use Rattle.tree_board.specs.Workers.{IsKnown}
use Rattle.tree_board.proofs.Pushing.{known_kept}
use Rattle.tree_board.proofs.TreeSteps.{goes_from_root, goes_into, goes_nowhere, goes_past}
use Rattle.tree_board.proofs.board.Board.ahead.Goals as goal

pub returns-in_default-clause-goes : goal.returns-in_default-clause-goes
returns-in_default-clause-goes c = subst (λ after. GoesOn (board_of c.args.self.now) after (Some 0)) (sym c.in_default.is) (goes_from_root _ _ c.self.view_is _ _ _ _ _ c.self.invariant _ c.as_slice-cells.ensures.value)

pub returns-in_default-clause-known : goal.returns-in_default-clause-known
returns-in_default-clause-known c = subst (λ (s : Search). IsKnown (setting_of s) (board_of s)) c.self.view_is (known_kept _ _ _ _ _ _ c.self.invariant)

pub returns-then-node-nodes-clause-goes : goal.returns-then-node-nodes-clause-goes
returns-then-node-nodes-clause-goes c =
    let past : length (board_of c.args.self.now).nodes ≤ c.in-Some.node = omega (arith, c.nodes.ensures) in
    subst (λ after. GoesOn (board_of c.args.self.now) after None) (sym c.in-Some.is) (goes_nowhere _ _ c.self.view_is _ _ _ _ _ c.self.invariant _ c.as_slice-cells.ensures.value c.in-Some.node past)

pub returns-then-node-nodes-clause-known : goal.returns-then-node-nodes-clause-known
returns-then-node-nodes-clause-known c = subst (λ (s : Search). IsKnown (setting_of s) (board_of s)) c.self.view_is (known_kept _ _ _ _ _ _ c.self.invariant)

pub returns-in_default-unclosed_first-clause-goes : goal.returns-in_default-unclosed_first-clause-goes
returns-in_default-unclosed_first-clause-goes c =
    let small : c.in-Some.node < length (board_of c.args.self.now).nodes = omega (arith, c.nodes.ensures) in
    subst (λ after. GoesOn (board_of c.args.self.now) after c.behind.result) (sym c.in-Some.is) (goes_past _ _ c.self.view_is _ _ _ _ _ c.self.invariant _ c.as_slice-cells.ensures.value c.in-Some.node small c.in_default-unclosed_first.ensures c.behind.result c.behind.ensures)

pub returns-in_default-unclosed_first-clause-known : goal.returns-in_default-unclosed_first-clause-known
returns-in_default-unclosed_first-clause-known c = subst (λ (s : Search). IsKnown (setting_of s) (board_of s)) c.self.view_is (known_kept _ _ _ _ _ _ c.self.invariant)

pub returns-clause-goes : goal.returns-clause-goes
returns-clause-goes c =
    let small : c.in-Some.node < length (board_of c.args.self.now).nodes = omega (arith, c.nodes.ensures) in
    subst (λ after. GoesOn (board_of c.args.self.now) after (Some c.in-Some-unclosed_first.child)) (sym c.in-Some.is) (goes_into _ _ c.self.view_is _ _ _ _ _ c.self.invariant _ c.as_slice-cells.ensures.value c.in-Some.node small _ c.in-Some-unclosed_first.ensures)

pub returns-clause-known : goal.returns-clause-known
returns-clause-known c = subst (λ (s : Search). IsKnown (setting_of s) (board_of s)) c.self.view_is (known_kept _ _ _ _ _ _ c.self.invariant)
