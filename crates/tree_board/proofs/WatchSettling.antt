-- What the watch of a path answers: the lemma or the found set that settles the node to which the path leads.
use Rattle.std.proofs.Common.{◌≡◌, ◌≢◌, ℕ, zero, suc, ◌+◌, ◌<◌, ◌≤◌, Bool, true, false, true≢false, not, ◌||◌, ◌&&◌, List, [], ◌∷◌, ◌++◌, length, map, slice_get, Option, Some, None, option_map, refl, sym, ap, ap₂, subst, ◌∙◌, ◌⊎◌, inl, inr, arith}
use Rattle.std.specs.List.{list_all, list_any, position}
use Rattle.std.specs.Option.{option_to_list}
use Rattle.std.proofs.lemmas.Bool.{cases_eq, lt-ltb}
use Rattle.std.proofs.lemmas.List.Folds.{list_all-append}
use Rattle.std.proofs.lemmas.Option.{slice_get_within}
use Rattle.mg_word.specs.Words.{numbered}
use Rattle.mg_word.specs.Sets.{holds, is_part, is_proper_part, meets, same_lit}
use Rattle.mg_word.specs.declared.lit.Lit.{Lit}
use Rattle.mg_word.proofs.Members.{and_true, both_false, both_true, holds-append, meets_where, never_false, never_true, not_false, not_met, part_holds, two_cases}
use Rattle.mg_meaning.specs.Folding.{Pair, applies}
use Rattle.key_watch.specs.Keys.{IsLeast, Watched, barred_key, held_key, keys_of, same_key}
use Rattle.key_watch.specs.Owned.{Owned, has, stands}
use Rattle.key_watch.specs.Owners.{owner_lt}
use Rattle.key_watch.specs.declared.key.Key.{Key}
use Rattle.key_watch.specs.declared.owner.Owner.{Owner}
use Rattle.key_watch.specs.declared.owner.Owner.TheVariants.{Found as FoundSet, Lemma}
use Rattle.tree_board.specs.declared.event.Event.TheVariants.{ByLemma, Covered as CoveredBy}
use Rattle.tree_board.specs.declared.mode.Mode.{Mode}
use Rattle.tree_board.specs.declared.mode.Mode.TheVariants.{List as ListAll, Refute}
use Rattle.tree_board.specs.declared.path.Path.{Path}
use Rattle.tree_board.specs.Barring.{cases_before}
use Rattle.tree_board.specs.Boards.{Board, Kept, pair_at}
use Rattle.tree_board.specs.Facts.{IsAmong, IsBoard, IsClean, IsPath}
use Rattle.tree_board.specs.Lawful.{applies_at, cover_for, covers, lemma_for}
use Rattle.tree_board.specs.NodeStates.{Covered, Found, Heavy, NodeState, Open, Rejected, Settled, Shut, Split, is_found, is_shut}
use Rattle.tree_board.specs.Nodes.{Node}
use Rattle.tree_board.specs.PathReads.{AreOfFound, AreOfLemma, AreOwn, HasAllSets, HasSetOf, event_by}
use Rattle.tree_board.specs.Paths.{LeadsTo, bars_along, keys_along, literal_by}
use Rattle.tree_board.specs.Readers.{first_child_of, instance_of, shown}
use Rattle.tree_board.specs.Searches.{Search, board_of, setting_of}
use Rattle.tree_board.specs.Settings.{Setting}
use Rattle.tree_board.specs.Settling.{IsOpenAt, IsSettling, IsUntouched}
use Rattle.tree_board.proofs.AlongPaths.{bars_hold, below_parent}
use Rattle.tree_board.proofs.Below.{open_above_none}
use Rattle.tree_board.proofs.Living.{found_above_none}
use Rattle.tree_board.proofs.Places.{same_some}
use Rattle.tree_board.proofs.QuickSettling.{position_nowhere, position_there}

-- ---- keys on a path

has_more : (front back : List Key) (key : Key) → has same_key (front ++ back) key ≡ (has same_key front key || has same_key back key)
has_more [] back key = refl
has_more (one ∷ front) back key = by (same_key one key) (has_more front back key)
  where
    by : (same : Bool) → has same_key (front ++ back) key ≡ (has same_key front key || has same_key back key) → (same || has same_key (front ++ back) key) ≡ ((same || has same_key front key) || has same_key back key)
    by true e = refl
    by false e = e

held_has : (lits : List Lit) (lit : Lit) → has same_key (map held_key lits) (held_key lit) ≡ holds lits lit
held_has [] lit = refl
held_has (one ∷ lits) lit = ap (λ b. same_lit one lit || b) (held_has lits lit)

held_bars : (lits : List Lit) (lit : Lit) → has same_key (map held_key lits) (barred_key lit) ≡ false
held_bars [] lit = refl
held_bars (one ∷ lits) lit = held_bars lits lit

barred_has : (lits : List Lit) (lit : Lit) → has same_key (map barred_key lits) (barred_key lit) ≡ holds lits lit
barred_has [] lit = refl
barred_has (one ∷ lits) lit = ap (λ b. same_lit one lit || b) (barred_has lits lit)

barred_holds : (lits : List Lit) (lit : Lit) → has same_key (map barred_key lits) (held_key lit) ≡ false
barred_holds [] lit = refl
barred_holds (one ∷ lits) lit = barred_holds lits lit

or_none : (b : Bool) → (b || false) ≡ b
or_none true = refl
or_none false = refl

keys_held : (held barred : List Lit) (lit : Lit) → has same_key (keys_of held barred) (held_key lit) ≡ holds held lit
keys_held held barred lit = has_more (map held_key held) (map barred_key barred) (held_key lit) ∙ (ap₂ (λ a b. a || b) (held_has held lit) (barred_holds barred lit) ∙ or_none (holds held lit))

keys_barred : (held barred : List Lit) (lit : Lit) → has same_key (keys_of held barred) (barred_key lit) ≡ holds barred lit
keys_barred held barred lit = has_more (map held_key held) (map barred_key barred) (barred_key lit) ∙ ap₂ (λ a b. a || b) (held_bars held lit) (barred_has barred lit)

-- what the path bars
path_bars : (nodes : List Node) (path : List ℕ) (lit : Lit) → has same_key (keys_along nodes path) (barred_key lit) ≡ holds (bars_along nodes path) lit
path_bars nodes [] lit = refl
path_bars nodes (number ∷ []) lit = refl
path_bars nodes (number ∷ parent ∷ above) lit =
    let earlier = cases_before (shown instance_of nodes parent) (shown first_child_of nodes parent) number in
    has_more (keys_along nodes (parent ∷ above)) (keys_of (option_to_list (literal_by nodes number parent)) earlier) (barred_key lit)
    ∙ (ap₂ (λ a b. a || b) (path_bars nodes (parent ∷ above) lit) (keys_barred (option_to_list (literal_by nodes number parent)) earlier lit)
    ∙ sym (holds-append (bars_along nodes (parent ∷ above)) earlier lit))

tails_are : (a b : ℕ) (xs ys : List ℕ) → a ∷ xs ≡ b ∷ ys → xs ≡ ys
tails_are a b xs ys e = cc

module _ (setting : Setting) (board : Board) (facts : IsBoard setting board) where
  -- what the path holds
  path_holds : (number : ℕ) (above : List ℕ) → IsPath board.nodes (number ∷ above) → (here : Node) → slice_get board.nodes number ≡ Some here → here.path ≡ number ∷ above → (lit : Lit)
      → has same_key (keys_along board.nodes (number ∷ above)) (held_key lit) ≡ holds here.lits lit
  path_holds number [] zero_is here at path lit =
      let (root, root_at, root_path, lits, barred) = facts.root in
      let same : here ≡ root = same_some here root (sym at ∙ (ap (slice_get board.nodes) zero_is ∙ root_at)) in
      sym (ap (λ held. holds held lit) (ap (λ (one : Node). one.lits) same ∙ lits))
  path_holds number (parent ∷ above) rooted here at path lit =
      let below = below_parent setting board facts number parent here at rooted.0 in
      let up : below.node.path ≡ parent ∷ above = tails_are number number below.node.path (parent ∷ above) (sym below.path ∙ path) in
      let earlier = cases_before (shown instance_of board.nodes parent) (shown first_child_of board.nodes parent) number in
      ap (λ keys. has same_key keys (held_key lit)) (ap (keys_along board.nodes) (sym path) ∙ (below.keys ∙ ap (λ above. keys_along board.nodes above ++ keys_of (below.lit ∷ []) earlier) up))
      ∙ (has_more (keys_along board.nodes (parent ∷ above)) (keys_of (below.lit ∷ []) earlier) (held_key lit)
      ∙ (ap₂ (λ a b. a || b) (path_holds parent above rooted.1 below.node below.is up lit) (keys_held (below.lit ∷ []) earlier lit)
      ∙ (sym (holds-append below.node.lits (below.lit ∷ []) lit) ∙ ap (λ held. holds held lit) (sym below.lits))))

-- ---- sets on a path

all_same : (path : List Key) (key_of : Lit → Key) (whole lits : List Lit) → ((lit : Lit) → has same_key path (key_of lit) ≡ holds whole lit) → list_all (has same_key path) (map key_of lits) ≡ is_part lits whole
all_same path key_of whole [] same = refl
all_same path key_of whole (lit ∷ lits) same = ap₂ (λ a b. a && b) (same lit) (all_same path key_of whole lits same)

set_stands : (path : List Key) (held barred inside outside : List Lit) → ((lit : Lit) → has same_key path (held_key lit) ≡ holds held lit) → ((lit : Lit) → has same_key path (barred_key lit) ≡ holds barred lit)
    → list_all (has same_key path) (keys_of inside outside) ≡ (is_part inside held && is_part outside barred)
set_stands path held barred inside outside holds_same bars_same =
    list_all-append (has same_key path) (map held_key inside) (map barred_key outside) ∙ ap₂ (λ a b. a && b) (all_same path held_key held inside holds_same) (all_same path barred_key barred outside bars_same)

-- ---- covering

found_unshut : (state : NodeState) → state ≡ Found → is_shut state ≡ false
found_unshut state e = ap is_shut e

and_one : (b : Bool) → (b && true) ≡ b
and_one true = refl
and_one false = refl

-- a found set that an open node holds is a proper part
proper_part : (setting : Setting) (board : Board) → IsBoard setting board → (a b : ℕ) (one two : Node) → slice_get board.nodes a ≡ Some one → slice_get board.nodes b ≡ Some two → one.state ≡ Found → two.state ≡ Open → is_part one.lits two.lits ≡ true → is_proper_part one.lits two.lits ≡ true
proper_part setting board facts a b one two is_a is_b found opened part = and_true (is_part one.lits two.lits) (not (is_part two.lits one.lits)) part (not_false (is_part two.lits one.lits) (never_true (is_part two.lits one.lits) back))
  where
    states : Found ≡ Open → ⊥
    states e = let bad : ⊥ = cc in bad

    apart : a ≢ b
    apart e = states (sym found ∙ (ap (λ (n : Node). n.state) (same_some one two (sym is_a ∙ (ap (slice_get board.nodes) e ∙ is_b))) ∙ opened))

    clash : (x y : Node) → is_part x.lits y.lits ≡ true → IsClean y.lits y.barred → meets x.lits y.barred ≡ true → ⊥
    clash x y there clean met =
        let (lit, held, bars) = meets_where x.lits y.barred met in
        true≢false (sym bars ∙ not_met y.lits y.barred lit clean.unbarred (part_holds x.lits y.lits lit there held))

    open_unshut : is_shut two.state ≡ false
    open_unshut = ap is_shut opened

    back : is_part two.lits one.lits ≡ true → ⊥
    back whole = elim (facts.apart a b one two is_a is_b (found_unshut one.state found) open_unshut (found_above_none setting board facts a b one two is_a is_b found apart) (open_above_none setting board facts.each a one is_a b two is_b opened apart)) [
      | inl left ↦ clash one two part ((facts.each b two is_b).clean open_unshut) left
      | inr right ↦ clash two one whole ((facts.each a one is_a).clean (found_unshut one.state found)) right
    ]

found_state : (state : NodeState) → is_found state ≡ true → state ≡ Found
found_state Found e = refl
found_state Open e = absurd (true≢false (sym e))
found_state (Split inst first) e = absurd (true≢false (sym e))
found_state (Rejected inst) e = absurd (true≢false (sym e))
found_state (Settled lemma) e = absurd (true≢false (sym e))
found_state (Shut closure) e = absurd (true≢false (sym e))
found_state (Covered cover) e = absurd (true≢false (sym e))
found_state (Heavy inst) e = absurd (true≢false (sym e))

-- ---- what settles the node

module _ (search : Search) (facts : IsBoard (setting_of search) (board_of search)) (path : Path) (leads : LeadsTo search path) (all : HasAllSets search path.watch.sets) (opened : IsOpenAt (board_of search) path.node) where
  same_node : leads.node ≡ opened.node
  same_node = same_some leads.node opened.node (sym leads.is ∙ opened.is)

  sound : (lit : Lit) → (has same_key path.watch.path (held_key lit) ≡ holds opened.node.lits lit) × (has same_key path.watch.path (barred_key lit) ≡ holds opened.node.barred lit)
  sound lit =
      let own = facts.each path.node leads.node leads.is in
      let rooted = subst (IsPath (board_of search).nodes) own.path own.rooted in
      let keys : path.watch.path ≡ keys_along (board_of search).nodes (path.node ∷ own.above) = leads.keys ∙ ap (keys_along (board_of search).nodes) own.path in (
        ap (λ ks. has same_key ks (held_key lit)) keys ∙ (path_holds (setting_of search) (board_of search) facts path.node own.above rooted leads.node leads.is own.path lit ∙ ap (λ (one : Node). holds one.lits lit) same_node),
        ap (λ ks. has same_key ks (barred_key lit)) keys
            ∙ (path_bars (board_of search).nodes (path.node ∷ own.above) lit
            ∙ (bars_hold (setting_of search) (board_of search) facts path.node own.above rooted leads.node leads.is own.path lit ∙ ap (λ (one : Node). holds one.barred lit) same_node)),
      )

  set_is : (set : Owned Key) (inside outside : List Lit) → set.keys ≡ keys_of inside outside → stands same_key path.watch.path set ≡ (is_part inside opened.node.lits && is_part outside opened.node.barred)
  set_is set inside outside is = ap (list_all (has same_key path.watch.path)) is ∙ set_stands path.watch.path opened.node.lits opened.node.barred inside outside (λ lit. (sound lit).0) (λ lit. (sound lit).1)

  lemma_is : (set : Owned Key) (number : ℕ) (own : AreOfLemma (board_of search) number set.keys) → stands same_key path.watch.path set ≡ applies own.pair opened.node.lits opened.node.barred
  lemma_is set number own = set_is set own.pair.inside own.pair.outside own.keys_are

  found_is : (set : Owned Key) (number : ℕ) (own : AreOfFound (board_of search) number set.keys) → stands same_key path.watch.path set ≡ is_part own.node.lits opened.node.lits
  found_is set number own = set_is set own.node.lits [] own.keys_are ∙ and_one (is_part own.node.lits opened.node.lits)

  -- the set of a kept lemma
  kept_set : (index : ℕ) (one : Kept) → slice_get (board_of search).kept index ≡ Some one → (set : HasSetOf search path.watch.sets (Lemma (suc index))) × (stands same_key path.watch.path set.set ≡ applies_at opened.node one)
  kept_set index one is =
      let set = all.lemma index (slice_get_within (board_of search).kept index one is) in
      let same : set.own.pair ≡ one.pair = same_some set.own.pair one.pair (sym set.own.is ∙ ap (option_map (λ (kept : Kept). kept.pair)) is) in
      (set, lemma_is set.set (suc index) set.own ∙ ap (λ pair. applies pair opened.node.lits opened.node.barred) same)

  -- the set of a found node
  found_set : search.mode ≡ ListAll → (number : ℕ) (other : Node) → slice_get (board_of search).nodes number ≡ Some other → other.state ≡ Found → (set : HasSetOf search path.watch.sets (FoundSet number)) × (stands same_key path.watch.path set.set ≡ is_part other.lits opened.node.lits)
  found_set mode number other is state =
      let set = all.found mode number other is state in
      let same : set.own.1.node ≡ other = same_some set.own.1.node other (sym set.own.1.is ∙ is) in
      (set, found_is set.set number set.own.1 ∙ ap (λ (one : Node). is_part one.lits opened.node.lits) same)

  -- where no set of a lemma stands, none applies
  no_lemma : ((index : ℕ) (set : HasSetOf search path.watch.sets (Lemma (suc index))) → stands same_key path.watch.path set.set ≡ false) → lemma_for (board_of search) opened.node ≡ None
  no_lemma none = ap (option_map (λ index. suc index)) (position_nowhere (applies_at opened.node) (board_of search).kept (λ index one is. let (set, same) = kept_set index one is in sym same ∙ none index set))

  uncovered : (other : Node) → (is_found other.state ≡ true → is_part other.lits opened.node.lits ≡ false) → covers opened.node other ≡ false
  uncovered other unless = elim (two_cases (is_found other.state)) [
    | inl found ↦ ap₂ (λ a b. a && b) found (ap (λ b. b && not (is_part opened.node.lits other.lits)) (unless found))
    | inr unfound ↦ ap (λ a. a && is_proper_part other.lits opened.node.lits) unfound
  ]

  no_cover : ((number : ℕ) (set : HasSetOf search path.watch.sets (FoundSet number)) → stands same_key path.watch.path set.set ≡ false) → cover_for search.mode (board_of search) opened.node ≡ None
  no_cover none = by search.mode refl
    where
      by : (mode : Mode) → search.mode ≡ mode → cover_for mode (board_of search) opened.node ≡ None
      by Refute e = refl
      by ListAll e = position_nowhere (covers opened.node) (board_of search).nodes (λ number other is. uncovered other (λ found. let (set, same) = found_set e number other is (found_state other.state found) in sym same ∙ none number set))

  settled_none : IsLeast path.watch None → IsUntouched (setting_of search) (board_of search) path.node
  settled_none none node at =
      subst (λ (one : Node). (lemma_for (board_of search) one ≡ None) × (cover_for search.mode (board_of search) one ≡ None)) (same_some opened.node node (sym opened.is ∙ at))
      (no_lemma (λ index set. none set.place set.set set.is), no_cover (λ number set. none set.place set.set set.is))

  settled_by : (owner : Owner) → IsLeast path.watch (Some owner) → IsSettling (setting_of search) (board_of search) path.node (Some (event_by path.node owner))
  settled_by (Lemma number) least = by number least refl
    where
      before : (number : ℕ) → IsLeast path.watch (Some (Lemma number)) → (index : ℕ) → suc index < number → (one : Kept) → slice_get (board_of search).kept index ≡ Some one → applies_at opened.node one ≡ false
      before number least index less one is =
          let (set, same) = kept_set index one is in
          never_true (applies_at opened.node one) (λ e. true≢false (sym (lt-ltb (suc index) number less) ∙ (ap (λ owner. owner_lt owner (Lemma number)) (sym set.owned) ∙ least.1 set.place set.set set.is (same ∙ e))))

      by : (number : ℕ) → IsLeast path.watch (Some (Lemma number)) → number ≡ number → IsSettling (setting_of search) (board_of search) path.node (Some (ByLemma path.node number))
      by number least same =
          let own : AreOwn search (Lemma number) least.0.set.keys = subst (λ owner. AreOwn search owner least.0.set.keys) least.0.owned (all.own least.0.place least.0.set least.0.is) in
          (refl, tt, record { node = opened.node; is = opened.is; opened = opened.opened; due = due number least own })
        where
          due : (number : ℕ) → (least : IsLeast path.watch (Some (Lemma number))) → AreOwn search (Lemma number) least.0.set.keys → lemma_for (board_of search) opened.node ≡ Some number
          due zero least own = absurd (let bad : ⊥ = let no : None ≡ Some own.pair = own.is in cc in bad)
          due (suc index) least own = by_kept (slice_get (board_of search).kept index) refl
            where
              by_kept : (one : Option Kept) → slice_get (board_of search).kept index ≡ one → lemma_for (board_of search) opened.node ≡ Some (suc index)
              by_kept None none = absurd (let bad : ⊥ = let no : None ≡ Some own.pair = sym (ap (option_map (λ (kept : Kept). kept.pair)) none) ∙ own.is in cc in bad)
              by_kept (Some one) is =
                  let pair : own.pair ≡ one.pair = same_some own.pair one.pair (sym own.is ∙ ap (option_map (λ (kept : Kept). kept.pair)) is) in
                  let applied : applies_at opened.node one ≡ true = ap (λ pair. applies pair opened.node.lits opened.node.barred) (sym pair) ∙ (sym (lemma_is least.0.set (suc index) own) ∙ least.0.stands) in
                  ap (option_map (λ index. suc index)) (position_there (applies_at opened.node) (board_of search).kept index (λ k less other there. before (suc index) least k (omega (arith, less)) other there) one is applied)
  settled_by (FoundSet number) least =
      let own : AreOwn search (FoundSet number) least.0.set.keys = subst (λ owner. AreOwn search owner least.0.set.keys) least.0.owned (all.own least.0.place least.0.set least.0.is) in
      (refl, tt, record { node = opened.node; is = opened.is; opened = opened.opened; due = (no_lemma later, covered own.0 own.1 search.mode refl) })
    where
      later : (index : ℕ) (set : HasSetOf search path.watch.sets (Lemma (suc index))) → stands same_key path.watch.path set.set ≡ false
      later index set = never_true (stands same_key path.watch.path set.set) (λ e. true≢false (ap (λ owner. owner_lt owner (FoundSet number)) (sym set.owned) ∙ least.1 set.place set.set set.is e))

      covered : search.mode ≡ ListAll → (own : AreOfFound (board_of search) number least.0.set.keys) → (mode : Mode) → search.mode ≡ mode → cover_for mode (board_of search) opened.node ≡ Some number
      covered listing own Refute e = absurd (let bad : ⊥ = let no : ListAll ≡ Refute = sym listing ∙ e in cc in bad)
      covered listing own ListAll e =
          let part : is_part own.node.lits opened.node.lits ≡ true = sym (found_is least.0.set number own) ∙ least.0.stands in
          let proper = proper_part (setting_of search) (board_of search) facts number path.node own.node opened.node own.is opened.is own.found opened.opened part in
          position_there (covers opened.node) (board_of search).nodes number before own.node own.is (and_true (is_found own.node.state) (is_proper_part own.node.lits opened.node.lits) (ap is_found own.found) proper)
        where
          before : (k : ℕ) → k < number → (other : Node) → slice_get (board_of search).nodes k ≡ Some other → covers opened.node other ≡ false
          before k less other is = uncovered other (λ found.
              let (set, same) = found_set listing k other is (found_state other.state found) in
              never_true (is_part other.lits opened.node.lits) (λ e'. true≢false (sym (lt-ltb k number less) ∙ (ap (λ owner. owner_lt owner (FoundSet number)) (sym set.owned) ∙ least.1 set.place set.set set.is (same ∙ e')))))

  pub settles : (owner : Option Owner) → IsLeast path.watch owner → IsSettling (setting_of search) (board_of search) path.node (option_map (event_by path.node) owner)
  settles None least = settled_none least
  settles (Some owner) least = settled_by owner least
