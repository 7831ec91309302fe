use Rattle.std.proofs.Common.{IfOk, Result, Ok, Err}
use Rattle.std.specs.Result.{IsOkAnd}
use Rattle.tree_board.proofs.BarredWays.{bars_end, bars_go, bars_start, bars_within}
use Rattle.tree_board.proofs.board.Board.barred_at.Goals as goal

pub up-init : goal.up-init
up-init c = bars_start _ _ c.requires _ c.new-barred.ensures.items

pub parent_at-parent-requires : goal.parent_at-parent-requires
parent_at-parent-requires c = bars_within _ _ c.self.view_is _ _ _ _ _ _ c.self.invariant _ c.as_slice-cells.ensures.value c.as_slice-journal.ensures.value _ _ _ c.up.invariant

pub up-smaller : goal.up-smaller
up-smaller c = (bars_go _ _ c.self.view_is _ _ _ _ _ _ c.self.invariant _ c.as_slice-cells.ensures.value c.as_slice-journal.ensures.value _ _ _ c.up.invariant c.up-test.true _ c.parent_at-parent.ensures _ _ c.earlier_at.ensures c.in_ok-push_copies.ensures).1

pub up-preserved : goal.up-preserved
up-preserved c = (bars_go _ _ c.self.view_is _ _ _ _ _ _ c.self.invariant _ c.as_slice-cells.ensures.value c.as_slice-journal.ensures.value _ _ _ c.up.invariant c.up-test.true _ c.parent_at-parent.ensures _ _ c.earlier_at.ensures c.in_ok-push_copies.ensures).0

-- what holds of a value that is there holds of one that may be
ok_weaker : {X E : Type 0} (P Q : X → Type 0) → ((x : X) → P x → Q x) → (answer : Result X E) → IsOkAnd answer P → IfOk answer Q
ok_weaker P Q then (Ok x) is = then x is
ok_weaker P Q then (Err e) bad = absurd bad

pub returns : goal.returns
returns c =
    ok_weaker _ _ (λ set is. bars_end _ _ c.self.view_is _ _ _ _ _ _ c.self.invariant _ c.as_slice-cells.ensures.value c.as_slice-journal.ensures.value _ _ _ c.up.invariant c.up-test.false set is) c.from_lits.result c.from_lits.ensures
