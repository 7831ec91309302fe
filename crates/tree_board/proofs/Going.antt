-- Searches that go on, step after step.
use Rattle.std.proofs.Common.{◌≡◌, List, [], ◌∷◌, ◌++◌, refl, sym, ap, subst, ◌∙◌, ◌⊎◌, append_assoc}
use Rattle.std.proofs.lemmas.List.{append-nil}
use Rattle.tree_board.specs.declared.event.Event.{Event}
use Rattle.tree_board.specs.Alone.{IsLeft, IsAlone, Finishes}
use Rattle.tree_board.specs.Boards.{Board, opening}
use Rattle.tree_board.specs.Effects.{effect, replay_from}
use Rattle.tree_board.specs.Searches.{Search, board_of, setting_of}
use Rattle.tree_board.specs.Settings.{Setting}
use Rattle.tree_board.specs.Standing.{state_of}
use Rattle.tree_board.specs.WorkerLaws.{IsEnd}
use Rattle.tree_board.specs.Workers.{IsStep, AreSteps, GoesOnTo}
use Rattle.tree_board.proofs.Journals.{replay_more}

replay_append : (setting : Setting) (xs ys : List Event) (board : Board) → replay_from setting board (xs ++ ys) ≡ replay_from setting (replay_from setting board xs) ys
unfolding replay_from
replay_append setting [] ys board = refl
replay_append setting (event ∷ xs) ys board = replay_append setting xs ys (effect setting board event)

steps_append : (setting : Setting) (xs ys : List Event) (board : Board) → AreSteps setting board xs → AreSteps setting (replay_from setting board xs) ys → AreSteps setting board (xs ++ ys)
unfolding replay_from
steps_append setting [] ys board one two = two
steps_append setting (event ∷ xs) ys board one two = (one.0, steps_append setting xs ys (effect setting board event) one.1 two)

-- the board after one event more
pub board_more : (search : Search) (event : Event) → board_of (record search { journal = search.journal ++ event ∷ [] }) ≡ effect (setting_of search) (board_of search) event
board_more search event = replay_more (setting_of search) search.journal opening event

pub stays_there : (search : Search) → GoesOnTo search search
stays_there search = record { events = []; is = ap (λ (journal : List Event). let one : Search = record search { journal = journal } in one) (sym (append-nil search.journal)); steps = tt }

pub one_step : (before after : Search) (event : Event) → IsStep (setting_of before) (board_of before) event → after ≡ record before { journal = before.journal ++ event ∷ [] } → GoesOnTo before after
one_step before after event step is = record { events = event ∷ []; is = is; steps = (step, tt) }

-- one way, and on from its end
pub goes_on_to : (before middle after : Search) → GoesOnTo before middle → GoesOnTo middle after → GoesOnTo before after
goes_on_to before middle after one two =
    let Further : Search → Type 0 = λ search. GoesOnTo search after in
    further (subst Further one.is two)
  where
    further : GoesOnTo (record before { journal = before.journal ++ one.events }) after → GoesOnTo before after
    further more = record {
      events = one.events ++ more.events;
      is = more.is ∙ ap (λ (journal : List Event). let search : Search = record before { journal = journal } in search) (append_assoc before.journal one.events more.events);
      steps = steps_append (setting_of before) one.events more.events (board_of before) one.steps
          (subst (λ board. AreSteps (setting_of before) board more.events) (replay_append (setting_of before) before.journal one.events opening) more.steps);
    }

is_alone : (setting : Setting) (events : List Event) (board : Board) → AreSteps setting board events → IsEnd (state_of setting (replay_from setting board events)) ⊎ IsLeft setting (replay_from setting board events) → IsAlone setting board events
unfolding replay_from
is_alone setting [] board steps ended = ended
is_alone setting (event ∷ events) board steps ended = (steps.0.before_end, steps.0.lawful, steps.0.first, is_alone setting events (effect setting board event) steps.1 ended)

-- at the end of the way the search is done
pub finishes : (before after : Search) → GoesOnTo before after → IsEnd (state_of (setting_of after) (board_of after)) ⊎ IsLeft (setting_of after) (board_of after) → Finishes before after
finishes before after way ended = record {
  events = way.events;
  is = way.is;
  alone = is_alone (setting_of before) way.events (board_of before) way.steps
      (subst (λ board. IsEnd (state_of (setting_of before) board) ⊎ IsLeft (setting_of before) board) (replay_append (setting_of before) before.journal way.events opening)
      (subst (λ (search : Search). IsEnd (state_of (setting_of search) (board_of search)) ⊎ IsLeft (setting_of search) (board_of search)) way.is ended));
}
