-- What one worker's search for all minimal sets has listed at its end.
use Rattle.std.proofs.Common.{◌≡◌, ◌++◌, ◌∷◌, ◌∙◌, ◌⊎◌, ℕ, All, Bool, List, None, Option, Some, [], ap, false, inl, inr, nat_le, refl, subst, sym, true, true≢false, ◌||◌}
use Rattle.std.specs.List.{list_any}
use Rattle.std.specs.Prelude.{IfOk, Result, Ok, Err}
use Rattle.mg_word.specs.Facts.{IsProblem, ProblemData}
use Rattle.mg_word.specs.Sets.{is_part, is_rising}
use Rattle.mg_word.specs.declared.lit.Lit.{Lit}
use Rattle.mg_word.specs.declared.memory.NoMemory.{NoMemory}
use Rattle.mg_word.proofs.RisingLists.{rising-set_of}
use Rattle.mg_meaning.specs.Excluding.{Covers}
use Rattle.mg_meaning.specs.Instances.{IsInstance}
use Rattle.mg_meaning.specs.Minimality.{ListsMinimal}
use Rattle.mg_meaning.proofs.ClauseTruth.{covering_none_refutes}
use Rattle.mg_meaning.proofs.Excluded.{covers_satisfying}
use Rattle.mg_meaning.proofs.Lists.{Among, contains_from}
use Rattle.mg_meaning.proofs.MinimalLists.{lists_from, lists_same}
use Rattle.tree_board.specs.Alone.{Finishes, FitsPlain, IsAlone, IsLeft}
use Rattle.tree_board.specs.Boards.{Board, count, is_closed, opening}
use Rattle.tree_board.specs.Effects.{replay_from}
use Rattle.tree_board.specs.Events.{insts_in}
use Rattle.tree_board.specs.Facts.{IsBoard}
use Rattle.tree_board.specs.Lawful.{IsReplay}
use Rattle.tree_board.specs.Leaves.{ListsMinimalFound}
use Rattle.tree_board.specs.Searches.{Search, board_of, setting_of}
use Rattle.tree_board.specs.Settings.{Setting}
use Rattle.tree_board.specs.Standing.{model_of, some_heavy, some_open, standing_by, state_of}
use Rattle.tree_board.specs.WorkerLaws.{IsEnd}
use Rattle.tree_board.specs.declared.mode.BoardState.{BoardState}
use Rattle.tree_board.specs.declared.mode.BoardState.TheVariants.{Blocked, Closed, Complete, Model, Running}
use Rattle.tree_board.specs.declared.mode.Limit.{Limit}
use Rattle.tree_board.specs.declared.mode.Limits.{Limits}
use Rattle.tree_board.specs.declared.mode.Mode.TheVariants.{List as ListAll}
use Rattle.tree_board.proofs.Counting.{stuck_exceeds}
use Rattle.tree_board.proofs.Covering.{complete_covers}
use Rattle.tree_board.proofs.Journals.{events_kept}
use Rattle.tree_board.proofs.Living.{all_used}
use Rattle.tree_board.proofs.Replays.{replay_board}
use Rattle.model_lister.specs.Listings.{AreOne, IsComplete, IsCutOff, IsListing, Lists}
use Rattle.model_lister.specs.Ends.{IsSearched, end_of}
use Rattle.model_lister.specs.Runs.{IsRun, limit_in, search_of}
use Rattle.model_lister.specs.declared.listing.Listing.{Listing}
use Rattle.model_lister.proofs.Journal.{alone_end, alone_lawful, alone_replay}

-- ---- a board with nothing left to do

-- a set of the list that is a part of the other
some_part : (sets : List (List Lit)) (set : List Lit) → list_any (λ one. is_part one set) sets ≡ true → (one : List Lit) × Among sets one × (is_part one set ≡ true)
some_part [] set e = absurd (true≢false (sym e))
some_part (first ∷ sets) set e = by (is_part first set) refl e (some_part sets set)
  where
    by : (passed : Bool) → is_part first set ≡ passed → (passed || list_any (λ one. is_part one set) sets) ≡ true
        → (list_any (λ one. is_part one set) sets ≡ true → (one : List Lit) × Among sets one × (is_part one set ≡ true)) → (one : List Lit) × Among (first ∷ sets) one × (is_part one set ≡ true)
    by true is any go = (first, inl refl, is)
    by false is any go = let (one, there, part) = go any in (one, inr there, part)

-- its minimal found sets are all minimal sets
complete_lists : (setting : Setting) (board : Board) → IsProblem setting.problem → IsReplay setting board → (state_of setting board ≡ Complete) ⊎ (state_of setting board ≡ Closed)
    → (sets : List (List Lit)) → ListsMinimalFound setting board sets → ListsMinimal sets setting.problem
complete_lists setting board real replay ended sets lists = lists_from setting.problem sets lists.rising
    (λ set there.
    let (found, minimal) = (lists.exact set).0 (contains_from sets set there) in
    (subst (λ one. is_rising one ≡ true) found.same (rising-set_of found.node.lits), minimal))
    (λ set satisfied. some_part sets set (covers_satisfying setting.problem (insts_in board.journal) sets
    (all_used setting board facts) (complete_covers setting board real facts ended sets lists) set satisfied))
  where
    facts : IsBoard setting board
    facts = replay_board setting board real replay

-- ---- how it stands

no_model : (setting : Setting) (board : Board) (node : ℕ) → setting.mode ≡ ListAll → state_of setting board ≡ Model node → ⊥
no_model setting board node all is = by (is_closed board 0) (some_open board) (nat_le setting.limits.budget (count board)) (some_heavy board)
    (subst (λ mode. standing_by (is_closed board 0) (model_of mode board) (some_open board) (nat_le setting.limits.budget (count board)) (some_heavy board) ≡ Model node) all is)
  where
    by : (closed opened spent heavy : Bool) → standing_by closed None opened spent heavy ≡ Model node → ⊥
    by true opened spent heavy e = cc
    by false true true heavy e = cc
    by false true false heavy e = cc
    by false false spent true e = cc
    by false false spent false e = cc

module _ (search : Search) (real : IsProblem search.problem) (all : search.mode ≡ ListAll) (searched : IsSearched search) (sets : List (List Lit)) (lists : ListsMinimalFound (setting_of search) (board_of search) sets) where
  replay : IsReplay (setting_of search) (board_of search)
  replay = alone_replay (setting_of search) search.journal searched

  ended : IsEnd (end_of search) ⊎ IsLeft (setting_of search) (board_of search)
  ended = alone_end (setting_of search) opening search.journal searched

  own_journal : (board_of search).journal ≡ search.journal
  own_journal = events_kept (setting_of search) search.journal opening (alone_lawful (setting_of search) opening search.journal searched)

  complete : (end_of search ≡ Complete) ⊎ (end_of search ≡ Closed) → IsComplete search sets
  complete is = record {
    ended = is;
    minimal = complete_lists (setting_of search) (board_of search) real replay is sets lists;
    used = used;
    covers = covers;
    refutes = λ none. covering_none_refutes search.problem real (insts_in search.journal) used (subst (Covers (insts_in search.journal)) none covers);
  }
    where
      facts : IsBoard (setting_of search) (board_of search)
      facts = replay_board (setting_of search) (board_of search) real replay

      used : All (IsInstance search.problem) (insts_in search.journal)
      used = subst (λ events. All (IsInstance search.problem) (insts_in events)) own_journal (all_used (setting_of search) (board_of search) facts)

      covers : Covers (insts_in search.journal) sets
      covers = subst (λ events. Covers (insts_in events) sets) own_journal (complete_covers (setting_of search) (board_of search) real facts is sets lists)

  cut_off : (limit : Limit) → end_of search ≡ Blocked limit → IsCutOff search limit sets
  cut_off limit is = record {
    blocked = is;
    found = lists;
    gives_up = record { board = board_of search; replay = replay; stuck = left.stuck; blocked = is; minimal = lists };
    exceeds = λ fits. stuck_exceeds (setting_of search) (board_of search) real replay left.stuck limit is fits.extends fits.few fits.plain;
  }
    where
      left : IsLeft (setting_of search) (board_of search)
      left = elim ended [
        | inl over ↦ absurd (subst IsEnd is over)
        | inr further ↦ further
      ]

  lists_at_end : (state : BoardState) → end_of search ≡ state → Lists search sets (limit_in state)
  lists_at_end Closed is = complete (inr is)
  lists_at_end Complete is = complete (inl is)
  lists_at_end (Blocked limit) is = cut_off limit is
  lists_at_end (Model node) is = absurd (no_model (setting_of search) (board_of search) node all is)
  lists_at_end Running is = absurd (elim ended [
    | inl over ↦ subst IsEnd is over
    | inr left ↦ left.still is
  ])

-- what one worker has listed
pub run_lists : (problem : ProblemData) (limits : Limits) (search : Search) → IsRun problem limits search → (sets : List (List Lit)) → ListsMinimalFound (setting_of search) (board_of search) sets
    → (gave_up : Option Limit) → gave_up ≡ limit_in (end_of search) → Lists search sets gave_up
run_lists problem limits search run sets lists gave_up is =
    let real : IsProblem search.problem = subst IsProblem (sym (ap (λ (one : Search). one.problem) run.over)) run.real in
    subst (Lists search sets) (sym is) (lists_at_end search real (ap (λ (one : Search). one.mode) run.over) run.searched sets lists (end_of search) refl)

-- ---- from its opening

-- what one worker makes of the opening is such a search
pub finished : (problem : ProblemData) (limits : Limits) (opened : Search) (result : Result Search NoMemory) → IsProblem problem → opened ≡ search_of problem limits [] → IfOk result (Finishes opened) → IfOk result (IsRun problem limits)
unfolding replay_from
finished problem limits opened (Ok after) real is finishes =
    let own : after ≡ search_of problem limits finishes.events = finishes.is ∙ ap (λ (search : Search). record search { journal = search.journal ++ finishes.events }) is in
    let alone : IsSearched (search_of problem limits finishes.events) = subst (λ (search : Search). IsAlone (setting_of search) (board_of search) finishes.events) is finishes.alone in
    record {
      real = real;
      over = own ∙ ap (search_of problem limits) (sym (ap (λ (search : Search). search.journal) own));
      searched = subst IsSearched (sym own) alone;
    }
finished problem limits opened (Err none) real is finishes = tt

-- ---- two listings

setting_same : (problem : ProblemData) (limits : Limits) (search : Search) → IsRun problem limits search → setting_of search ≡ setting_of (search_of problem limits [])
setting_same problem limits search run = ap setting_of run.over

-- where the plain tree fits, nothing stops the search
never_cut : (problem : ProblemData) (limits : Limits) (listing : Listing) → FitsPlain (setting_of (search_of problem limits [])) → IsListing problem limits listing → listing.gave_up ≡ None
never_cut problem limits listing fits is = by listing.gave_up refl is.lists
  where
    by : (gave_up : Option Limit) → listing.gave_up ≡ gave_up → Lists listing.board listing.sets.items gave_up → listing.gave_up ≡ None
    by None same lists = same
    by (Some limit) same lists = absurd (lists.exceeds (subst FitsPlain (sym (setting_same problem limits listing.board is.run)) fits))

-- and it lists all minimal sets
all_listed : (problem : ProblemData) (limits : Limits) (listing : Listing) → IsListing problem limits listing → listing.gave_up ≡ None → ListsMinimal listing.sets.items problem
all_listed problem limits listing is none =
    let complete : IsComplete listing.board listing.sets.items = subst (Lists listing.board listing.sets.items) none is.lists in
    subst (ListsMinimal listing.sets.items) (ap (λ (search : Search). search.problem) is.run.over) complete.minimal

pub one_listing : (problem : ProblemData) (limits : Limits) → FitsPlain (setting_of (search_of problem limits [])) → (one two : Listing) → IsListing problem limits one → IsListing problem limits two → AreOne one two
one_listing problem limits fits one two this that =
    let first = never_cut problem limits one fits this in
    let second = never_cut problem limits two fits that in
    record {
      sets = lists_same problem one.sets.items two.sets.items (all_listed problem limits one this first) (all_listed problem limits two that second);
      first = first;
      second = second;
    }
