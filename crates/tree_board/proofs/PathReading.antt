-- Kept lemmas and found sets that were read, on boards that go on.
use Rattle.std.proofs.Common.{◌≡◌, ◌≢◌, ℕ, zero, suc, ◌+◌, ◌<◌, ◌≤◌, Bool, true, false, List, [], ◌∷◌, ◌++◌, length, map, slice_get, Option, Some, None, option_map, refl, sym, ap, ap₂, subst, ◌∙◌, ◌⊎◌, inl, inr, arith}
use Rattle.std.proofs.lemmas.Bool.{cases_eq, cases_lt}
use Rattle.std.proofs.lemmas.Option.{slice_get_within}
use Rattle.mg_word.specs.Words.{numbered}
use Rattle.mg_word.specs.declared.lit.Lit.{Lit}
use Rattle.mg_meaning.specs.Folding.{Pair}
use Rattle.case_split.specs.Splitting.{children_of as cases_of}
use Rattle.case_split.specs.declared.child.Child.{Child}
use Rattle.case_split.specs.declared.child.Closure.{Closure}
use Rattle.model_extend.specs.Branches.{BranchData}
use Rattle.key_watch.specs.Keys.{keys_of}
use Rattle.key_watch.specs.Owned.{Owned}
use Rattle.key_watch.specs.declared.key.Key.{Key}
use Rattle.key_watch.specs.declared.owner.Owner.{Owner}
use Rattle.key_watch.specs.declared.owner.Owner.TheVariants.{Found as FoundSet, Lemma}
use Rattle.tree_board.specs.declared.cell.Cell.{Cell}
use Rattle.tree_board.specs.declared.event.Event.{Event}
use Rattle.tree_board.specs.declared.event.Event.TheVariants.{ByLemma, Covered as CoveredBy, Extend, Heavy as TooHeavy, Reject, Saturated}
use Rattle.tree_board.specs.declared.mode.Mode.{Mode}
use Rattle.tree_board.specs.declared.mode.Mode.TheVariants.{List as ListAll, Refute}
use Rattle.tree_board.specs.declared.path.Path.{Path}
use Rattle.tree_board.specs.Boards.{Board, Kept, opening, pair_at}
use Rattle.tree_board.specs.Children.{nodes_of_cases, state_at_birth}
use Rattle.tree_board.specs.Closings.{closed_at, closed_by, closed_node, due, kept_with}
use Rattle.tree_board.specs.Effects.{born, effect, moved, replay_from, settled}
use Rattle.tree_board.specs.Events.{node_of}
use Rattle.tree_board.specs.declared.tally.Tally.{Tally}
use Rattle.tree_board.specs.Keeping.{IsKeeping}
use Rattle.tree_board.specs.Lawful.{AreLawful, IsLawful}
use Rattle.tree_board.specs.NodeStates.{NodeState, Covered, Found, Heavy, Open, Rejected, Settled, Shut, Split}
use Rattle.tree_board.specs.Nodes.{Node}
use Rattle.tree_board.specs.PathReads.{AreOfFound, AreOfLemma, AreOwn, HasAllSets, HasRead, HasSetOf, IsRead, found_by}
use Rattle.tree_board.specs.Paths.{LeadsTo}
use Rattle.tree_board.specs.Searches.{Search, board_of, setting_of}
use Rattle.tree_board.specs.Settings.{Setting}
use Rattle.tree_board.proofs.Bare.{HasBare, bare, comes_apart, settles, stays}
use Rattle.tree_board.proofs.Going.{board_more}
use Rattle.tree_board.proofs.Journals.{effect_journal, events_kept}
use Rattle.tree_board.proofs.Places.{get-append, get_left, numbered_left, same_some}
use Rattle.tree_board.proofs.Replays.{climb_keeps, effect_is, replay_keeps}

pub nothing_read : (search : Search) → HasRead search [] 0 0
nothing_read search = record {
  own = λ place set is. absurd (let bad : ⊥ = cc in bad);
  lemma = λ number high low. absurd (omega (arith, high, low));
  event = λ place small. absurd (omega (arith, small));
}

-- ---- kept lemmas stay

abbrev KeepsAll : List Kept → Board → Type 0
KeepsAll kept board = (number : ℕ) (one : Kept) → numbered kept number ≡ Some one → numbered board.kept number ≡ Some one

closed_keeps : (setting : Setting) (kept : List Kept) (number : ℕ) (board : Board) → KeepsAll kept board → KeepsAll kept (closed_at setting board number)
unfolding closed_at
closed_keeps setting kept number board all = by (slice_get board.nodes number)
  where
    more : (keeps : Bool) (pair : Pair) (n : ℕ) (one : Kept) → numbered board.kept n ≡ Some one → numbered (kept_with keeps board.kept number pair) n ≡ Some one
    more true pair n one is = numbered_left board.kept (record { node = number; pair = pair } ∷ []) n one is
    more false pair n one is = is

    close : (node : Node) (pair : Option Pair) → KeepsAll kept (closed_by setting board number node pair)
    close node None = all
    close node (Some pair) = λ n one is. more (setting.keeps (length board.kept) number pair) pair n one (all n one is)

    by : (node : Option Node) → KeepsAll kept (closed_node setting board number node)
    by None = all
    by (Some node) = close node (due board.nodes node)

kept_stay : (setting : Setting) (board : Board) (event : Event) → IsLawful setting board event → KeepsAll board.kept (effect setting board event)
kept_stay setting board event lawful =
    subst (KeepsAll board.kept) (sym (effect_is setting board event lawful.node lawful.is))
    (climb_keeps setting (KeepsAll board.kept) (λ number one all. closed_keeps setting board.kept number one all) lawful.node.path (moved board lawful.node event) (λ n one is. is))

pair_stays : (setting : Setting) (board : Board) (event : Event) → IsLawful setting board event → (number : ℕ) (pair : Pair) → pair_at board.kept number ≡ Some pair → pair_at (effect setting board event).kept number ≡ Some pair
pair_stays setting board event lawful number pair e = by (numbered board.kept number) refl e
  where
    by : (one : Option Kept) → numbered board.kept number ≡ one → option_map (λ (kept : Kept). kept.pair) one ≡ Some pair → pair_at (effect setting board event).kept number ≡ Some pair
    by None is e = absurd (let bad : ⊥ = cc in bad)
    by (Some kept) is e = ap (option_map (λ (kept : Kept). kept.pair)) (kept_stay setting board event lawful number kept is) ∙ e

-- ---- found sets stay

record FoundThere (board : Board) (number : ℕ) (lits : List Lit) : Type 0 where
  pub node : Node
  pub is : slice_get board.nodes number ≡ Some node
  pub found : node.state ≡ Found
  pub lits_are : node.lits ≡ lits

not_open : (node : Node) → node.state ≡ Found → node.state ≡ Open → ⊥
not_open node found opened = let bad : Found ≡ Open = sym found ∙ opened in let worse : ⊥ = cc in worse

found_stays : (setting : Setting) (board : Board) (event : Event) → IsLawful setting board event → (number : ℕ) (node : Node) → slice_get board.nodes number ≡ Some node → node.state ≡ Found → FoundThere (effect setting board event) number node.lits
found_stays setting board event lawful number node is found = elim (cases_eq number (node_of event)) [
  | inl same ↦
      let own : lawful.node ≡ node = same_some lawful.node node (sym lawful.is ∙ (ap (slice_get board.nodes) (sym same) ∙ is)) in
      absurd (not_open node found (ap (λ (one : Node). one.state) (sym own) ∙ lawful.opened))
  | inr apart ↦
      let there = stays setting board event lawful number node apart is in
      record { node = there.other; is = there.is; found = ap (λ (one : Node). one.state) there.same ∙ found; lits_are = ap (λ (one : Node). one.lits) there.same }
]

-- ---- what was read stays

module _ (before after : Search) (event : Event) (lawful : IsLawful (setting_of before) (board_of before) event) (is : after ≡ record before { journal = before.journal ++ event ∷ [] }) where
  next : effect (setting_of before) (board_of before) event ≡ board_of after
  next = sym (ap board_of is ∙ board_more before event)

  own_on : (owner : Owner) (keys : List Key) → AreOwn before owner keys → AreOwn after owner keys
  own_on (Lemma number) keys own = record {
    pair = own.pair;
    is = ap (λ (one : Board). pair_at one.kept number) (sym next) ∙ pair_stays (setting_of before) (board_of before) event lawful number own.pair own.is;
    keys_are = own.keys_are;
  }
  own_on (FoundSet number) keys (mode, own) =
      let there = found_stays (setting_of before) (board_of before) event lawful number own.node own.is own.found in (
        ap (λ (one : Search). one.mode) is ∙ mode,
        record {
          node = there.node;
          is = ap (λ (one : Board). slice_get one.nodes number) (sym next) ∙ there.is;
          found = there.found;
          keys_are = own.keys_are ∙ ap (λ lits. keys_of lits []) (sym there.lits_are);
        },
      )

  set_on : (sets : List (Owned Key)) (owner : Owner) → HasSetOf before sets owner → HasSetOf after sets owner
  set_on sets owner one = record { place = one.place; set = one.set; is = one.is; owned = one.owned; own = own_on owner one.set.keys one.own }

  pub reads_on : (sets : List (Owned Key)) (lemmas events : ℕ) → HasRead before sets lemmas events → HasRead after sets lemmas events
  reads_on sets lemmas events reads = record {
    own = λ place set there. own_on set.owner set.keys (reads.own place set there);
    lemma = λ number high low. set_on sets (Lemma number) (reads.lemma number high low);
    event = λ place small.
        let one = reads.event place small in
        record {
          event = one.event;
          is = ap (λ (search : Search). slice_get search.journal place) is ∙ get_left before.journal (event ∷ []) place one.event one.is;
          found = λ number e. set_on sets (FoundSet number) (one.found number (ap (λ (search : Search). found_by search.mode one.event) (sym is) ∙ e));
        };
  }

-- ---- which events find sets

-- each found node has its event, and each such event a found node
pub record AreFoundByEvents (board : Board) : Type 0 where
  pub there : (place number : ℕ) → slice_get board.journal place ≡ Some (Saturated number) → (node : Node) × (slice_get board.nodes number ≡ Some node) × (node.state ≡ Found)
  pub all : (number : ℕ) (node : Node) → slice_get board.nodes number ≡ Some node → node.state ≡ Found → (place : ℕ) × (slice_get board.journal place ≡ Some (Saturated number))

none_found_yet : AreFoundByEvents opening
none_found_yet = record {
  there = λ place number e. absurd (let bad : ⊥ = cc in bad);
  all = λ number node is found. by number node is found;
}
  where
    by : (number : ℕ) (node : Node) → slice_get opening.nodes number ≡ Some node → node.state ≡ Found → (place : ℕ) × (slice_get opening.journal place ≡ Some (Saturated number))
    by zero node is found = absurd (not_open node found (sym (ap (λ (one : Node). one.state) (same_some (record { path = 0 ∷ []; lits = []; barred = []; state = Open; own = None }) node is))))
    by (suc number) node is found = absurd (let bad : ⊥ = cc in bad)

-- only such an event finds a set
finds : (board : Board) (node : Node) (event : Event) → (settled board node event).state ≡ Found → event ≡ Saturated (node_of event)
finds board node (Saturated number) e = refl
finds board node (Extend number inst) e = absurd (let bad : ⊥ = cc in bad)
finds board node (Reject number inst) e = absurd (let bad : ⊥ = cc in bad)
finds board node (ByLemma number lemma) e = absurd (let bad : ⊥ = cc in bad)
finds board node (CoveredBy number cover) e = absurd (let bad : ⊥ = cc in bad)
finds board node (TooHeavy number inst) e = absurd (let bad : ⊥ = cc in bad)

birth_unfound : (reason : Option Closure) → state_at_birth reason ≡ Found → ⊥
birth_unfound None e = let bad : ⊥ = cc in bad
birth_unfound (Some closure) e = let bad : ⊥ = cc in bad

cases_unfound : (first : ℕ) (path : List ℕ) (lits : List Lit) (cases : List Child) (j : ℕ) (node : Node) → slice_get (nodes_of_cases first path lits cases) j ≡ Some node → node.state ≡ Found → ⊥
cases_unfound first path lits [] j node is found = let bad : ⊥ = cc in bad
cases_unfound first path lits (one ∷ more) zero node is found = birth_unfound one.at_once (ap (λ (n : Node). n.state) (same_some _ node is) ∙ found)
cases_unfound first path lits (one ∷ more) (suc j) node is found = cases_unfound (suc first) path lits more j node is found

born_unfound : (board : Board) (node : Node) (event : Event) (j : ℕ) (child : Node) → slice_get (born board node event) j ≡ Some child → child.state ≡ Found → ⊥
born_unfound board node (Extend number inst) j child is found = cases_unfound (length board.nodes) node.path node.lits (cases_of node.lits node.barred inst.conclusions) j child is found
born_unfound board node (Reject number inst) j child is found = let bad : ⊥ = cc in bad
born_unfound board node (ByLemma number lemma) j child is found = let bad : ⊥ = cc in bad
born_unfound board node (Saturated number) j child is found = let bad : ⊥ = cc in bad
born_unfound board node (CoveredBy number cover) j child is found = let bad : ⊥ = cc in bad
born_unfound board node (TooHeavy number inst) j child is found = let bad : ⊥ = cc in bad

last_there : (journal : List Event) (event : Event) → slice_get (journal ++ event ∷ []) (length journal) ≡ Some event
last_there [] event = refl
last_there (first ∷ journal) event = last_there journal event

found_on : (setting : Setting) (board : Board) (event : Event) → AreFoundByEvents board → IsLawful setting board event → AreFoundByEvents (effect setting board event)
found_on setting board event old lawful = record {
  there = λ place number e. elim (get-append board.journal (event ∷ []) place (Saturated number) (sym (ap (λ journal. slice_get journal place) grown) ∙ e)) [
    | inl before ↦
        let (node, is, found) = old.there place number before in
        let now = found_stays setting board event lawful number node is found in
        (now.node, now.is, now.found)
    | inr (zero, at, is) ↦ here number (same_some event (Saturated number) is)
    | inr (suc j, at, is) ↦ absurd (let bad : ⊥ = cc in bad)
  ];
  all = λ number node is found. elim (cases_eq number (node_of event)) [
    | inl same ↦
        let now = settles setting board event lawful in
        let own : now.other ≡ node = same_some now.other node (sym now.is ∙ (ap (slice_get (effect setting board event).nodes) (sym same) ∙ is)) in
        let event_is : event ≡ Saturated (node_of event) = finds board lawful.node event (sym (ap (λ (one : Node). one.state) now.same) ∙ (ap (λ (one : Node). one.state) own ∙ found)) in
        (length board.journal, ap (λ journal. slice_get journal (length board.journal)) grown ∙ (last_there board.journal event ∙ ap Some (event_is ∙ ap Saturated (sym same))))
    | inr apart ↦ elim (comes_apart setting board event lawful number node apart is) [
      | inl before ↦
          let (place, there) = old.all number before.other before.is (ap (λ (one : Node). one.state) before.same ∙ found) in
          (place, ap (λ journal. slice_get journal place) grown ∙ get_left board.journal (event ∷ []) place (Saturated number) there)
      | inr (j, new) ↦ absurd (born_unfound board lawful.node event j new.other new.is (ap (λ (one : Node). one.state) new.same ∙ found))
    ]
  ];
}
  where
    grown : (effect setting board event).journal ≡ board.journal ++ event ∷ []
    grown = effect_journal setting board event lawful

    here : (number : ℕ) → event ≡ Saturated number → (node : Node) × (slice_get (effect setting board event).nodes number ≡ Some node) × (node.state ≡ Found)
    here number same =
        let now = settles setting board event lawful in
        let at : node_of event ≡ number = ap node_of same in
        (now.other, ap (slice_get (effect setting board event).nodes) (sym at) ∙ now.is, ap (λ (one : Node). one.state) now.same ∙ ap (λ one. (settled board lawful.node one).state) same)

-- of a search, by its own journal
pub record AreFoundBy (search : Search) : Type 0 where
  pub there : (place number : ℕ) → slice_get search.journal place ≡ Some (Saturated number) → (node : Node) × (slice_get (board_of search).nodes number ≡ Some node) × (node.state ≡ Found)
  pub all : (number : ℕ) (node : Node) → slice_get (board_of search).nodes number ≡ Some node → node.state ≡ Found → (place : ℕ) × (slice_get search.journal place ≡ Some (Saturated number))

pub found_by_events : (search : Search) → AreLawful (setting_of search) opening search.journal → AreFoundBy search
found_by_events search lawful =
    let all = replay_keeps (setting_of search) AreFoundByEvents (λ board event old one. found_on (setting_of search) board event old one) search.journal opening none_found_yet lawful in
    let journal : (board_of search).journal ≡ search.journal = events_kept (setting_of search) search.journal opening lawful in
    record {
      there = λ place number e. all.there place number (ap (λ events. slice_get events place) journal ∙ e);
      all = λ number node is found. let (place, there) = all.all number node is found in (place, sym (ap (λ events. slice_get events place) journal) ∙ there);
    }

-- ---- one more is read

set_more : (search : Search) (sets : List (Owned Key)) (set : Owned Key) (owner : Owner) → HasSetOf search sets owner → HasSetOf search (sets ++ set ∷ []) owner
set_more search sets set owner one = record { place = one.place; set = one.set; is = get_left sets (set ∷ []) one.place one.set one.is; owned = one.owned; own = one.own }

set_last : (sets : List (Owned Key)) (set : Owned Key) → slice_get (sets ++ set ∷ []) (length sets) ≡ Some set
set_last [] set = refl
set_last (first ∷ sets) set = set_last sets set

own_more : (search : Search) (sets : List (Owned Key)) (set : Owned Key) → ((place : ℕ) (one : Owned Key) → slice_get sets place ≡ Some one → AreOwn search one.owner one.keys) → AreOwn search set.owner set.keys
    → (place : ℕ) (one : Owned Key) → slice_get (sets ++ set ∷ []) place ≡ Some one → AreOwn search one.owner one.keys
own_more search sets set own new place one is = elim (get-append sets (set ∷ []) place one is) [
  | inl old ↦ own place one old
  | inr (zero, at, there) ↦ subst (λ (s : Owned Key). AreOwn search s.owner s.keys) (same_some set one there) new
  | inr (suc j, at, there) ↦ absurd (let bad : ⊥ = cc in bad)
]

pub lemma_read : (search : Search) (sets : List (Owned Key)) (lemmas events number : ℕ) → HasRead search sets lemmas events → number ≡ lemmas + 1 → (pair : Pair) → pair_at (board_of search).kept number ≡ Some pair
    → HasRead search (sets ++ record { keys = keys_of pair.inside pair.outside; owner = Lemma number } ∷ []) number events
lemma_read search sets lemmas events number reads next pair is =
    let set : Owned Key = record { keys = keys_of pair.inside pair.outside; owner = Lemma number } in
    let own : AreOfLemma (board_of search) number (keys_of pair.inside pair.outside) = record { pair = pair; is = is; keys_are = refl } in
    record {
      own = own_more search sets set reads.own own;
      lemma = λ n high low. elim (cases_lt n number) [
        | inl less ↦ set_more search sets set (Lemma n) (reads.lemma n high (omega (arith, less, next)))
        | inr more ↦ subst (λ m. HasSetOf search (sets ++ set ∷ []) (Lemma m)) (let e : number ≡ n = omega (arith, low, more) in e) (record { place = length sets; set = set; is = set_last sets set; owned = refl; own = own })
      ];
      event = λ place small.
          let one = reads.event place small in
          record { event = one.event; is = one.is; found = λ n e. set_more search sets set (FoundSet n) (one.found n e) };
    }

-- an event that found no set
pub event_read_none : (search : Search) (sets : List (Owned Key)) (lemmas events : ℕ) → HasRead search sets lemmas events → (event : Event) → slice_get search.journal events ≡ Some event → found_by search.mode event ≡ None → HasRead search sets lemmas (events + 1)
event_read_none search sets lemmas events reads event is none = record {
  own = reads.own;
  lemma = reads.lemma;
  event = λ place small. elim (cases_lt place events) [
    | inl less ↦ reads.event place less
    | inr more ↦
        let here : events ≡ place = omega (arith, small, more) in
        record { event = event; is = ap (slice_get search.journal) (sym here) ∙ is; found = λ n e. absurd (let bad : ⊥ = cc in bad) }
  ];
}

found_mode : (mode : Mode) (event : Event) (number : ℕ) → found_by mode event ≡ Some number → (mode ≡ ListAll) × (event ≡ Saturated number)
found_mode Refute event number e = absurd (let bad : ⊥ = cc in bad)
found_mode ListAll (Saturated n) number e = (refl, ap Saturated (same_some n number e))
found_mode ListAll (Extend n inst) number e = absurd (let bad : ⊥ = cc in bad)
found_mode ListAll (Reject n inst) number e = absurd (let bad : ⊥ = cc in bad)
found_mode ListAll (ByLemma n lemma) number e = absurd (let bad : ⊥ = cc in bad)
found_mode ListAll (CoveredBy n cover) number e = absurd (let bad : ⊥ = cc in bad)
found_mode ListAll (TooHeavy n inst) number e = absurd (let bad : ⊥ = cc in bad)

-- the node of an event that found a set
pub found_node : (search : Search) → AreFoundBy search → (place number : ℕ) (event : Event) → slice_get search.journal place ≡ Some event → found_by search.mode event ≡ Some number
    → (node : Node) × (slice_get (board_of search).nodes number ≡ Some node) × (node.state ≡ Found)
found_node search founds place number event is found = founds.there place number (is ∙ ap Some (found_mode search.mode event number found).1)

pub event_read : (search : Search) (sets : List (Owned Key)) (lemmas events : ℕ) → HasRead search sets lemmas events → (event : Event) → slice_get search.journal events ≡ Some event → (number : ℕ) → found_by search.mode event ≡ Some number
    → (node : Node) → slice_get (board_of search).nodes number ≡ Some node → node.state ≡ Found → HasRead search (sets ++ record { keys = keys_of node.lits []; owner = FoundSet number } ∷ []) lemmas (events + 1)
event_read search sets lemmas events reads event is number found node node_is state =
    let set : Owned Key = record { keys = keys_of node.lits []; owner = FoundSet number } in
    let own : (search.mode ≡ ListAll) × AreOfFound (board_of search) number (keys_of node.lits []) = ((found_mode search.mode event number found).0, record { node = node; is = node_is; found = state; keys_are = refl }) in
    record {
      own = own_more search sets set reads.own own;
      lemma = λ n high low. set_more search sets set (Lemma n) (reads.lemma n high low);
      event = λ place small. elim (cases_lt place events) [
        | inl less ↦
            let one = reads.event place less in
            record { event = one.event; is = one.is; found = λ n e. set_more search sets set (FoundSet n) (one.found n e) }
        | inr more ↦
            let here : events ≡ place = omega (arith, small, more) in
            record {
              event = event;
              is = ap (slice_get search.journal) (sym here) ∙ is;
              found = λ n e. subst (λ m. HasSetOf search (sets ++ set ∷ []) (FoundSet m)) (same_some number n (sym found ∙ e)) (record { place = length sets; set = set; is = set_last sets set; owned = refl; own = own });
            }
      ];
    }

-- where all was read, all sets are there
pub all_read : (search : Search) → AreFoundBy search → (sets : List (Owned Key)) (lemmas events : ℕ) → HasRead search sets lemmas events → length (board_of search).kept ≤ lemmas → length search.journal ≤ events → HasAllSets search sets
all_read search founds sets lemmas events reads lemmas_all events_all = record {
  own = reads.own;
  lemma = λ index small. reads.lemma (suc index) (omega arith) (omega (arith, small, lemmas_all));
  found = λ mode number node is state.
      let (place, there) = founds.all number node is state in
      let small = slice_get_within search.journal place (Saturated number) there in
      let read = reads.event place (omega (arith, small, events_all)) in
      let event : read.event ≡ Saturated number = same_some read.event (Saturated number) (sym read.is ∙ there) in
      read.found number (ap₂ found_by mode event);
}

-- ---- a path whose watch has more sets

pub leads_with : (search : Search) (path after : Path) → LeadsTo search path → after.node ≡ path.node → after.branch ≡ path.branch → after.barred ≡ path.barred → after.watch.path ≡ path.watch.path → HasRead search after.watch.sets after.lemmas_read after.events_read → LeadsTo search after
leads_with search path after leads node branch barred keys reads = record {
  node = leads.node;
  is = ap (slice_get (board_of search).nodes) node ∙ leads.is;
  problem = ap (λ (one : BranchData). one.problem) branch ∙ leads.problem;
  lits = ap (λ (one : BranchData). one.lits) branch ∙ leads.lits;
  barred = barred ∙ leads.barred;
  keys = keys ∙ leads.keys;
  reads = reads;
}

length_map : {X Y : Type 0} (f : X → Y) (xs : List X) → length (map f xs) ≡ length xs
length_map f [] = refl
length_map f (x ∷ xs) = ap suc (length_map f xs)

-- as many lemmas as are kept
pub kept_length : (value : Search) (cells : List Cell) (closures : List Closure) (lemmas : List Pair) (lemma_nodes : List ℕ) (tally : Tally) → IsKeeping value cells closures lemmas lemma_nodes tally → length lemmas ≡ length (board_of value).kept
kept_length value cells closures lemmas lemma_nodes tally keeping = ap length keeping.stand.pairs ∙ length_map (λ (one : Kept). one.pair) (board_of value).kept

-- a lemma within that number is there
pub lemma_there : (kept : List Kept) (number : ℕ) → number < length kept → pair_at kept (number + 1) ≡ None → ⊥
lemma_there kept number small none = by kept number small (ap (pair_at kept) (let e : suc number ≡ number + 1 = omega arith in e) ∙ none)
  where
    by : (kept : List Kept) (number : ℕ) → number < length kept → pair_at kept (suc number) ≡ None → ⊥
    by [] number small e = omega (arith, small)
    by (one ∷ kept) zero small e = let bad : ⊥ = cc in bad
    by (one ∷ kept) (suc number) small e = by kept number (omega (arith, small)) e
