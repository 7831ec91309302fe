-- How a board stands.
use Rattle.std.specs.List.{list_any, position}
use Rattle.std.specs.Prelude.{ℕ, Bool, None, Option, Some, false, nat_le, true}
use Rattle.tree_board.specs.Boards.{Board, count, is_closed}
use Rattle.tree_board.specs.NodeStates.{is_found, is_heavy, is_open}
use Rattle.tree_board.specs.Settings.{Setting}
use Rattle.tree_board.specs.declared.mode.BoardState.{BoardState}
use Rattle.tree_board.specs.declared.mode.BoardState.TheVariants.{Blocked, Closed, Complete, Model, Running}
use Rattle.tree_board.specs.declared.mode.Limit.TheVariants.{Budget, Weight}
use Rattle.tree_board.specs.declared.mode.Mode.{Mode}
use Rattle.tree_board.specs.declared.mode.Mode.TheVariants.{List as ListAll, Refute}

abbrev pub some_open : Board → Bool
some_open board = list_any (λ node. is_open node.state) board.nodes

abbrev pub some_heavy : Board → Bool
some_heavy board = list_any (λ node. is_heavy node.state) board.nodes

-- in mode Refute, the least found node
abbrev pub model_of : Mode → Board → Option ℕ
model_of Refute board = position (λ node. is_found node.state) board.nodes
model_of ListAll board = None

-- the first that holds: the root is closed; a model; open nodes and the budget spent; open nodes; a heavy node; none of these
abbrev pub standing_by : Bool → Option ℕ → Bool → Bool → Bool → BoardState
standing_by true model opened spent heavy = Closed
standing_by false (Some node) opened spent heavy = Model node
standing_by false None true true heavy = Blocked Budget
standing_by false None true false heavy = Running
standing_by false None false spent true = Blocked Weight
standing_by false None false spent false = Complete

abbrev pub state_of : Setting → Board → BoardState
state_of setting board = standing_by (is_closed board 0) (model_of setting.mode board) (some_open board) (nat_le setting.limits.budget (count board)) (some_heavy board)
