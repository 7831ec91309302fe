use Rattle.std.proofs.Common.{◌≡◌, ◌↔◌, ◌<◌, IsTrue, nat_le, subst, sym}
use Rattle.tree_board.specs.Boards.{count}
use Rattle.tree_board.specs.Claims.{IsSpent}
use Rattle.tree_board.specs.Searches.{Search, board_of}
use Rattle.tree_board.proofs.Claiming.{room_here, spent_here}
use Rattle.tree_board.proofs.board.Board.is_spent.Goals as goal

pub returns-in-Extend-clause-exact : goal.returns-in-Extend-clause-exact
returns-in-Extend-clause-exact c =
    subst (λ found. IsTrue (nat_le c.self.inside.limits.budget c.self.inside.tally.extensions) ↔ IsSpent c.args.self.now found) (sym c.in-Extend.is)
    (subst (λ (one : Search). IsTrue (nat_le c.self.inside.limits.budget c.self.inside.tally.extensions) ↔ (Unit {0} × (count (board_of one) ≡ one.limits.budget))) c.self.view_is (spent_here _ _ _ _ _ _ c.self.invariant))

pub returns-in-Extend-clause-room : goal.returns-in-Extend-clause-room
returns-in-Extend-clause-room c = λ not extends.
    subst (λ (one : Search). count (board_of one) < one.limits.budget) c.self.view_is (room_here _ _ _ _ _ _ c.self.invariant not)
