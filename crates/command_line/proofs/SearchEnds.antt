-- What the board shows at the end of one worker's search.
use Rattle.std.proofs.Common.{◌≡◌, ℕ, zero, suc, ◌<◌, Bool, true, false, List, [], ◌∷◌, ◌++◌, length, get_or, slice_get, position, Option, Some, None, Result, Ok, Err, nat_le, refl, sym, ap, subst, ◌∙◌, ◌⊎◌, inl, inr, arith}
use Rattle.std.specs.Prelude.{IfOk, IsOkAnd}
use Rattle.std.specs.Option.{option_map}
use Rattle.std.proofs.lemmas.List.Quantifiers.{position-Some}
use Rattle.mg_word.specs.Facts.{ProblemData, IsProblem}
use Rattle.mg_word.specs.Sets.{set_of}
use Rattle.mg_word.specs.declared.lit.Lit.{Lit}
use Rattle.mg_word.specs.declared.memory.NoMemory.{NoMemory}
use Rattle.mg_word.proofs.Members.{part_of_itself}
use Rattle.mg_meaning.specs.Satisfaction.{Satisfies}
use Rattle.mg_meaning.proofs.Herbrand.{herbrand_model}
use Rattle.mg_meaning.proofs.PartsTried.{satisfies_same}
use Rattle.tree_board.specs.Alone.{Finishes, IsAlone, IsLeft, FitsPlain}
use Rattle.tree_board.specs.Boards.{Board, count, is_closed, opening}
use Rattle.tree_board.specs.Effects.{effect, replay_from}
use Rattle.tree_board.specs.Lawful.{AreLawful, IsReplay}
use Rattle.tree_board.specs.NodeStates.{Found, is_found}
use Rattle.tree_board.specs.Nodes.{Node}
use Rattle.tree_board.specs.Readers.{lits_of}
use Rattle.tree_board.specs.Searches.{Search, setting_of, board_of}
use Rattle.tree_board.specs.Settings.{Setting}
use Rattle.tree_board.specs.Standing.{model_of, some_heavy, some_open, standing_by, state_of}
use Rattle.tree_board.specs.Stuck.{GivesUp}
use Rattle.tree_board.specs.WorkerLaws.{IsEnd, IsOneWorker}
use Rattle.tree_board.specs.declared.event.Event.{Event}
use Rattle.tree_board.specs.declared.mode.BoardState.TheVariants.{Blocked, Closed, Complete, Model, Running}
use Rattle.tree_board.specs.declared.mode.Limit.{Limit}
use Rattle.tree_board.specs.declared.mode.Limits.{Limits}
use Rattle.tree_board.specs.declared.mode.Mode.TheVariants.{Refute}
use Rattle.tree_board.proofs.AloneLaws.{left_gives_up, one_alone}
use Rattle.tree_board.proofs.Cleaning.{part_of_set, part-set_of}
use Rattle.tree_board.proofs.Counting.{stuck_exceeds}
use Rattle.tree_board.proofs.Living.{found_satisfies}
use Rattle.tree_board.proofs.Places.{same_some}
use Rattle.tree_board.proofs.Refuting.{refute_is_never_complete}
use Rattle.tree_board.proofs.Replays.{replay_board}
use Rattle.tree_board.proofs.Settling.{found_state}
use Rattle.tree_checker.specs.Docs.{IsWellFormed, Accepts}
use Rattle.tree_checker.specs.declared.doc.Doc.{Doc}
use Rattle.tree_checker.proofs.Refuting.{Accepts-refutes}
use Rattle.board_tree.specs.Documents.{doc_of}
use Rattle.model_lister.specs.Ends.{IsSearched, end_of}
use Rattle.model_lister.proofs.Journal.{alone_end, alone_replay}
use Rattle.command_line.specs.Searched.{EndsWith, IsAtEnd, IsFound, IsGivenUp, IsRefuted, IsRun, IsSatisfied, search_of}
use Rattle.command_line.specs.Proves.{HasLines}
use Rattle.command_line.specs.declared.finding.Finding.{Finding}
use Rattle.command_line.specs.declared.finding.Finding.TheVariants.{Unsatisfiable, Satisfiable, GaveUp}

-- ---- how it stands

-- a limit blocks it, where the search has not ended
blocked_left : (setting : Setting) (board : Board) (limit : Limit) → state_of setting board ≡ Blocked limit → IsEnd (state_of setting board) ⊎ IsLeft setting board → IsLeft setting board
blocked_left setting board limit is (inl ended) = absurd (subst IsEnd is ended)
blocked_left setting board limit is (inr left) = left

never_running : (setting : Setting) (board : Board) → IsEnd (state_of setting board) ⊎ IsLeft setting board → state_of setting board ≡ Running → ⊥
never_running setting board (inl ended) is = subst IsEnd is ended
never_running setting board (inr left) is = left.still is

model_node : (closed : Bool) (model : Option ℕ) (opened spent heavy : Bool) (node : ℕ) → standing_by closed model opened spent heavy ≡ Model node → model ≡ Some node
model_node true model opened spent heavy node is = cc
model_node false (Some other) opened spent heavy node is = cc
model_node false None true true heavy node is = cc
model_node false None true false heavy node is = cc
model_node false None false spent true node is = cc
model_node false None false spent false node is = cc

-- ---- the first found node

found_at : (nodes : List Node) (number : ℕ) → (d : Node) → number < length nodes → slice_get nodes number ≡ Some (get_or nodes number d)
found_at [] number d small = absurd (omega (arith, small))
found_at (first ∷ nodes) zero d small = refl
found_at (first ∷ nodes) (suc number) d small = found_at nodes number d (omega (arith, small))

module _ (setting : Setting) (board : Board) (refute : setting.mode ≡ Refute) where
  first_found : model_of setting.mode board ≡ position (λ (node : Node). is_found node.state) board.nodes
  first_found = ap (λ mode. model_of mode board) refute

  -- the node that the board has for a model is found
  pub model_found : (number : ℕ) → state_of setting board ≡ Model number → (d : Node) → (slice_get board.nodes number ≡ Some (get_or board.nodes number d)) × ((get_or board.nodes number d).state ≡ Found)
  model_found number is d =
      let least = sym first_found ∙ model_node (is_closed board 0) (model_of setting.mode board) (some_open board) (nat_le setting.limits.budget (count board)) (some_heavy board) number is in
      let (small, passes, before) = position-Some (λ (node : Node). is_found node.state) board.nodes number d least in
      (found_at board.nodes number d small, found_state (get_or board.nodes number d).state passes)

  module _ (real : IsProblem setting.problem) (replay : IsReplay setting board) where
    exceeds : IsLeft setting board → (limit : Limit) → state_of setting board ≡ Blocked limit → FitsPlain setting → ⊥
    exceeds left limit is fits = stuck_exceeds setting board real replay left.stuck limit is fits.extends fits.few fits.plain

    same_limit : (one two : Limit) → state_of setting board ≡ Blocked one → state_of setting board ≡ Blocked two → one ≡ two
    same_limit one two these those = cc

    gives_up : IsLeft setting board → (limit : Limit) → state_of setting board ≡ Blocked limit → GivesUp setting limit []
    gives_up left limit is = elim (left_gives_up setting real refute board replay left) [
      | inl ended ↦ absurd (subst IsEnd is ended)
      | inr given ↦ subst (λ one. GivesUp setting one []) (same_limit given.limit limit given.blocked is) given.gives_up
    ]

-- ---- what the search ends with

module _ (search : Search) (at_end : IsAtEnd search) where
  replay : IsReplay (setting_of search) (board_of search)
  replay = alone_replay (setting_of search) search.journal at_end.searched

  ended : IsEnd (end_of search) ⊎ IsLeft (setting_of search) (board_of search)
  ended = alone_end (setting_of search) opening search.journal at_end.searched

  pub not_running : end_of search ≡ Running → ⊥
  not_running is = never_running (setting_of search) (board_of search) ended is

  pub not_complete : end_of search ≡ Complete → ⊥
  not_complete is = refute_is_never_complete (setting_of search) (board_of search) at_end.real replay at_end.refute is

  pub given_up : (limit : Limit) → end_of search ≡ Blocked limit → IsGivenUp search limit
  given_up limit is =
      let left = blocked_left (setting_of search) (board_of search) limit is ended in
      record { blocked = is; gives_up = gives_up (setting_of search) (board_of search) at_end.refute at_end.real replay left limit is; exceeds = exceeds (setting_of search) (board_of search) at_end.refute at_end.real replay left limit is }

  pub one_worker : FitsPlain (setting_of search) → IsOneWorker (setting_of search) opening search.journal
  one_worker fits = one_alone (setting_of search) at_end.real at_end.refute fits search.journal at_end.searched

  -- the set of the model's node
  pub satisfied : (number : ℕ) (lits : List Lit) → end_of search ≡ Model number → lits_of (board_of search).nodes number ≡ Some lits → IsSatisfied search (set_of lits)
  satisfied number lits is here = by (slice_get (board_of search).nodes number) refl
    where
      satisfying : Satisfies lits search.problem → IsSatisfied search (set_of lits)
      satisfying own =
          let set = satisfies_same search.problem (set_of lits) lits (part_of_set lits lits (part_of_itself lits)) (part-set_of lits (set_of lits) (part_of_itself (set_of lits))) own in
          record { node = number; lits = lits; model = is; here = here; is = refl; satisfies = set; herbrand = herbrand_model (set_of lits) search.problem at_end.real set }

      by : (found : Option Node) → slice_get (board_of search).nodes number ≡ found → IsSatisfied search (set_of lits)
      by None at = absurd (let none : lits_of (board_of search).nodes number ≡ None = ap (option_map (λ (node : Node). node.lits)) at in let bad : ⊥ = cc in bad)
      by (Some node) at =
          let own : lits ≡ node.lits = same_some lits node.lits (sym here ∙ ap (option_map (λ (node : Node). node.lits)) at) in
          let there = model_found (setting_of search) (board_of search) at_end.refute number is node in
          let same : get_or (board_of search).nodes number node ≡ node = same_some (get_or (board_of search).nodes number node) node (sym there.0 ∙ at) in
          let found : node.state ≡ Found = ap (λ (one : Node). one.state) (sym same) ∙ there.1 in
          satisfying
          (subst (λ all. Satisfies all search.problem) (sym own)
          (found_satisfies (setting_of search) (board_of search) (replay_board (setting_of search) (board_of search) at_end.real replay) number node at found))

  -- as a set is made of them
  pub satisfied_set : (number : ℕ) (lits : List Lit) (result : Result (List Lit) NoMemory) → end_of search ≡ Model number → lits_of (board_of search).nodes number ≡ Some lits → IsOkAnd result (λ set. set ≡ set_of lits) → IfOk result (IsSatisfied search)
  satisfied_set number lits (Ok set) is here same = subst (IsSatisfied search) (sym same) (satisfied number lits is here)
  satisfied_set number lits (Err none) is here same = tt

-- the document of a closed root
pub refuted : (search : Search) (doc : Doc) → IsAtEnd search → end_of search ≡ Closed → doc ≡ doc_of (board_of search) → IsWellFormed search.problem doc → Accepts search.problem doc → IsRefuted search doc
refuted search doc at_end is same well accepts = record { closed = is; is = same; well_formed = well; accepts = accepts; refuted = Accepts-refutes search.problem at_end.real.formed doc well accepts }

-- ---- from its opening

-- what one worker makes of the opening is a search at its end
pub finished : (problem : ProblemData) (limits : Limits) (opened : Search) (result : Result Search NoMemory) → IsProblem problem → opened ≡ search_of problem limits [] → IfOk result (Finishes opened) → IfOk result (IsRun problem limits)
unfolding replay_from
finished problem limits opened (Ok after) real is finishes =
    let own : after ≡ search_of problem limits finishes.events = finishes.is ∙ ap (λ (search : Search). record search { journal = search.journal ++ finishes.events }) is in
    let alone : IsSearched (search_of problem limits finishes.events) = subst (λ (search : Search). IsAlone (setting_of search) (board_of search) finishes.events) is finishes.alone in
    record {
      over = own ∙ ap (search_of problem limits) (sym (ap (λ (search : Search). search.journal) own));
      ended = record {
        real = subst IsProblem (sym (ap (λ (search : Search). search.problem) own)) real;
        refute = ap (λ (search : Search). search.mode) own;
        searched = subst IsSearched (sym own) alone;
      };
    }
finished problem limits opened (Err none) real is finishes = tt

-- what a search at its end ends with is found
pub ends_found : (search : Search) (finding : Finding) → IsAtEnd search → EndsWith search finding → IsFound search finding
ends_found search finding at_end ends = record { searched = at_end.searched; ends = ends; one_worker = one_worker search at_end }

-- and it has lines
pub found_lines : (search : Search) (finding : Finding) → EndsWith search finding → HasLines search.problem finding
found_lines search (Unsatisfiable doc) ends = ends.well_formed
found_lines search (Satisfiable set) ends = ends.satisfies.fitting
found_lines search (GaveUp limit) ends = tt
