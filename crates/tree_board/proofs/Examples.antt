-- Boards worked by hand: what journals leave of them.
use Rattle.std.proofs.Common.{◌≡◌, ℕ, false, List, [], ◌∷◌, map, Some, None, refl}
use Rattle.mg_word.specs.declared.lit.Lit.{Lit}
use Rattle.mg_word.specs.declared.form.Inst.{Inst}
use Rattle.mg_meaning.specs.Folding.{Pair}
use Rattle.case_split.specs.declared.child.Closure.TheVariants.{Barred}
use Rattle.branch_lemmas.specs.Leaves.{lemma_of}
use Rattle.tree_board.specs.declared.event.Event.TheVariants.{Extend, Reject, ByLemma, Saturated, Covered}
use Rattle.tree_board.specs.declared.mode.Mode.{Mode}
use Rattle.tree_board.specs.declared.mode.Mode.TheVariants.{Refute, List as ListAll}
use Rattle.tree_board.specs.declared.mode.Limit.TheVariants.{Budget}
use Rattle.tree_board.specs.declared.mode.BoardState.TheVariants.{Closed, Complete, Running, Blocked}
use Rattle.tree_board.specs.NodeStates.{Open, Shut}
use Rattle.tree_board.specs.Settings.{Setting, small}
use Rattle.tree_board.specs.Boards.{Board, opening, count}
use Rattle.tree_board.specs.Closings.{closed_at, climb}
use Rattle.tree_board.specs.Effects.{effect, replay_from}
use Rattle.tree_board.specs.Lawful.{lemma_for, cover_for}
use Rattle.tree_board.specs.Standing.{state_of}
use Rattle.tree_board.specs.FirstOpen.{first_open_from, first_open}
use Rattle.tree_board.specs.OpenLists.{opens_from, open_list}
use Rattle.std.specs.Prelude.{slice_get}

abbrev setting : Mode → ℕ → Setting
setting mode budget = record {
  problem = record { symbols = []; files = []; clauses = []; forms = [] };
  mode = mode;
  limits = record { budget = budget; weight = 10 };
  keeps = small;
}

-- a proposition by its symbol
abbrev lit : ℕ → Lit
lit symbol = record { negative = false; word = symbol ∷ [] }

abbrev inst : ℕ → List ℕ → List ℕ → Inst
inst number premises conclusions = record { form = number; subst = []; premises = map lit premises; conclusions = map lit conclusions }

abbrev pair : List ℕ → List ℕ → Pair
pair inside outside = record { inside = map lit inside; outside = map lit outside }

-- ---- p(a); ~p(X)|p(f(X)), with a, f, p: after three extensions a node is open, and the budget is spent

abbrev p_of : List ℕ → Lit
p_of term = record { negative = false; word = 2 ∷ term }

abbrev step : List ℕ → Inst
step term = record { form = 2; subst = term ∷ []; premises = p_of term ∷ []; conclusions = p_of (1 ∷ term) ∷ [] }

abbrev endless : Board
endless = replay_from (setting Refute 3) opening
    (Extend 0 (record { form = 1; subst = []; premises = []; conclusions = p_of (0 ∷ []) ∷ [] }) ∷ Extend 1 (step (0 ∷ [])) ∷ Extend 2 (step (1 ∷ 0 ∷ [])) ∷ [])

endless_count : count endless ≡ 3
unfolding replay_from effect climb closed_at
endless_count = refl

endless_node : slice_get endless.nodes 3 ≡ Some (record {
  path = 3 ∷ 2 ∷ 1 ∷ 0 ∷ [];
  lits = p_of (0 ∷ []) ∷ p_of (1 ∷ 0 ∷ []) ∷ p_of (1 ∷ 1 ∷ 0 ∷ []) ∷ [];
  barred = [];
  state = Open;
  own = None;
})
unfolding replay_from effect climb closed_at
endless_node = refl

endless_blocked : state_of (setting Refute 3) endless ≡ Blocked Budget
unfolding replay_from effect climb closed_at
endless_blocked = refl

-- ---- a|b; c|d; ~c; ~d, with a, b, c, d: node 1 closes with a lemma of two empty sets, which settles node 2

abbrev choices_start : Board
choices_start = replay_from (setting Refute 100) opening (Extend 0 (inst 1 [] (0 ∷ 1 ∷ [])) ∷ Extend 1 (inst 2 [] (2 ∷ 3 ∷ [])) ∷ Reject 3 (inst 3 (2 ∷ []) []) ∷ Reject 4 (inst 4 (3 ∷ []) []) ∷ [])

choices_kept : choices_start.kept ≡ record { node = 1; pair = pair [] [] } ∷ []
unfolding replay_from effect climb closed_at
choices_kept = refl

-- node 2 is the one that is left
choices_open : open_list choices_start ≡ 2 ∷ []
unfolding replay_from effect climb closed_at opens_from
choices_open = refl

choices_running : state_of (setting Refute 100) choices_start ≡ Running
unfolding replay_from effect climb closed_at
choices_running = refl

choices_closed : state_of (setting Refute 100) (effect (setting Refute 100) choices_start (ByLemma 2 1)) ≡ Closed
unfolding replay_from effect climb closed_at
choices_closed = refl

-- ---- x|y; ~x|a|b; ~y|a|b; ~b|a; ~a, with a, b, x, y: a barred child, and two closings of one event

abbrev barring_start : Board
barring_start = replay_from (setting Refute 100) opening
    (Extend 0 (inst 1 [] (2 ∷ 3 ∷ []))
    ∷ Extend 1 (inst 2 (2 ∷ []) (0 ∷ 1 ∷ []))
    ∷ Reject 3 (inst 5 (0 ∷ []) [])
    ∷ Extend 4 (inst 4 (1 ∷ []) (0 ∷ []))
    ∷ Extend 2 (inst 3 (3 ∷ []) (0 ∷ 1 ∷ []))
    ∷ Reject 6 (inst 5 (0 ∷ []) [])
    ∷ [])

-- below node 4, which bars a, the child of a is closed at once
barring_shut : slice_get barring_start.nodes 5 ≡ Some (record {
  path = 5 ∷ 4 ∷ 1 ∷ 0 ∷ [];
  lits = map lit (2 ∷ 1 ∷ 0 ∷ []);
  barred = map lit (0 ∷ []);
  state = Shut (Barred (lit 0));
  own = Some (lemma_of (Barred (lit 0)));
})
unfolding replay_from effect climb closed_at
barring_shut = refl

-- of the two closings of that event the lowest node's lemma is numbered first: b inside, a outside
barring_kept : barring_start.kept ≡ record { node = 4; pair = pair (1 ∷ []) (0 ∷ []) } ∷ record { node = 1; pair = pair (2 ∷ []) [] } ∷ []
unfolding replay_from effect climb closed_at
barring_kept = refl

-- node 7 holds y and b, and bars a and x: the first lemma applies, the second does not
barring_applies : lemma_for barring_start (record { path = 7 ∷ 2 ∷ 0 ∷ []; lits = map lit (3 ∷ 1 ∷ []); barred = map lit (0 ∷ 2 ∷ []); state = Open; own = None }) ≡ Some 1
unfolding replay_from effect climb closed_at
barring_applies = refl

barring_first : first_open barring_start ≡ Some 7
unfolding replay_from effect climb closed_at first_open_from
barring_first = refl

barring_closed : state_of (setting Refute 100) (effect (setting Refute 100) barring_start (ByLemma 7 1)) ≡ Closed
unfolding replay_from effect climb closed_at
barring_closed = refl

-- ---- p|q; ~p|q, with p, q: where node 2 is found first, the node with both is covered by it

abbrev covering_start : Board
covering_start = replay_from (setting ListAll 100) opening (Extend 0 (inst 1 [] (0 ∷ 1 ∷ [])) ∷ Saturated 2 ∷ Extend 1 (inst 2 (0 ∷ []) (1 ∷ [])) ∷ [])

covering_covers : cover_for ListAll covering_start (record { path = 3 ∷ 1 ∷ 0 ∷ []; lits = map lit (0 ∷ 1 ∷ []); barred = []; state = Open; own = None }) ≡ Some 2
unfolding replay_from effect climb closed_at
covering_covers = refl

-- in mode Refute no found set covers
covering_none : cover_for Refute covering_start (record { path = 3 ∷ 1 ∷ 0 ∷ []; lits = map lit (0 ∷ 1 ∷ []); barred = []; state = Open; own = None }) ≡ None
unfolding replay_from effect climb closed_at
covering_none = refl

covering_complete : state_of (setting ListAll 100) (effect (setting ListAll 100) covering_start (Covered 3 2)) ≡ Complete
unfolding replay_from effect climb closed_at
covering_complete = refl
