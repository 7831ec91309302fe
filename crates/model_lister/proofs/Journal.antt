-- The journal of one worker, whatever the mode of its search.
use Rattle.std.proofs.Common.{◌∷◌, ◌⊎◌, List, [], refl}
use Rattle.tree_board.specs.Alone.{IsAlone, IsLeft}
use Rattle.tree_board.specs.Boards.{Board, opening}
use Rattle.tree_board.specs.Effects.{effect, replay_from}
use Rattle.tree_board.specs.Lawful.{AreLawful, IsReplay}
use Rattle.tree_board.specs.Settings.{Setting}
use Rattle.tree_board.specs.Standing.{state_of}
use Rattle.tree_board.specs.WorkerLaws.{IsEnd}
use Rattle.tree_board.specs.declared.event.Event.{Event}

-- the events of one worker are lawful
pub alone_lawful : (setting : Setting) (board : Board) (events : List Event) → IsAlone setting board events → AreLawful setting board events
alone_lawful setting board [] alone = tt
alone_lawful setting board (event ∷ events) (more, lawful, first, rest) = (lawful, alone_lawful setting (effect setting board event) events rest)

-- it leaves a replay
pub alone_replay : (setting : Setting) (events : List Event) → IsAlone setting opening events → IsReplay setting (replay_from setting opening events)
alone_replay setting events alone = record { events = events; lawful = alone_lawful setting opening events alone; is = refl }

-- where the search has ended, or can go no further
pub alone_end : (setting : Setting) (board : Board) (events : List Event) → IsAlone setting board events
    → IsEnd (state_of setting (replay_from setting board events)) ⊎ IsLeft setting (replay_from setting board events)
unfolding replay_from
alone_end setting board [] ended = ended
alone_end setting board (event ∷ events) (more, lawful, first, rest) = alone_end setting (effect setting board event) events rest
