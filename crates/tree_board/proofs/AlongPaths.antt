-- Paths that are moved along with the search.
use Rattle.std.proofs.Common.{◌≡◌, ◌≢◌, ◌+◌, ◌-◌, ◌<◌, ◌≤◌, min, ℕ, zero, suc, Bool, true, false, ◌||◌, nat_eq, List, [], ◌∷◌, ◌++◌, length, get_or, take, slice_get, OnOk, Option, Some, None, Result, Ok, Err, option_map, refl, sym, ap, ap₂, subst, ◌∙◌, ◌⊎◌, inl, inr, append_assoc, arith}
use Rattle.std.specs.Prelude.{option_and_then}
use Rattle.std.specs.Option.{option_to_list}
use Rattle.std.proofs.lemmas.Bool.{cases_eq, cond-false, ne_eqb}
use Rattle.std.proofs.lemmas.List.{append-nil, length-append, take_at, take_more}
use Rattle.mg_word.specs.Facts.{ProblemData}
use Rattle.mg_word.specs.Sets.{holds, same_lit, with_lit}
use Rattle.mg_word.specs.Words.{complement_of}
use Rattle.mg_word.specs.declared.form.Inst.{Inst}
use Rattle.mg_word.specs.declared.lit.Lit.{Lit}
use Rattle.mg_word.proofs.Members.{holds-append}
use Rattle.mg_word.proofs.RisingLists.{holds-with_lit}
use Rattle.mg_meaning.specs.Folding.{Pair}
use Rattle.model_extend.specs.Branches.{AreBranch, BranchData, CanPush}
use Rattle.model_extend.proofs.Held.{branch_last}
use Rattle.case_split.specs.Splitting.{closure_by, children_of as cases_of}
use Rattle.case_split.specs.declared.child.Closure.{Closure}
use Rattle.key_watch.specs.Keys.{Watched, keys_of}
use Rattle.key_watch.specs.Owned.{Owned}
use Rattle.key_watch.specs.declared.key.Key.{Key}
use Rattle.tree_board.specs.declared.cell.Cell.{Cell}
use Rattle.tree_board.specs.declared.event.Event.{Event}
use Rattle.tree_board.specs.declared.event.Event.TheVariants.{Extend, Reject, ByLemma, Saturated, Covered as CoveredBy, Heavy as TooHeavy}
use Rattle.tree_board.specs.declared.path.Path.{Path}
use Rattle.tree_board.specs.Barring.{cases_before, earlier_in}
use Rattle.tree_board.specs.Boards.{Board}
use Rattle.tree_board.specs.CellMoves.{reasons_of}
use Rattle.tree_board.specs.Cells.{parent_of}
use Rattle.tree_board.specs.Effects.{effect, settled}
use Rattle.tree_board.specs.Events.{node_of}
use Rattle.tree_board.specs.Facts.{IsBoard, IsChildOf, IsPath, IsSplit}
use Rattle.tree_board.specs.declared.tally.Tally.{Tally}
use Rattle.tree_board.specs.Keeping.{IsKeeping}
use Rattle.tree_board.specs.Lawful.{IsLawful}
use Rattle.tree_board.specs.NodeStates.{NodeState, Open, Split, is_shut}
use Rattle.tree_board.specs.Nodes.{Node}
use Rattle.tree_board.specs.PathReads.{HasRead}
use Rattle.tree_board.specs.Paths.{HasEntered, HasLeft, HasMet, IsAtRoot, IsUnshut, LeadsNear, LeadsTo, bars_along, keys_along, literal_by, reasons_from}
use Rattle.tree_board.specs.Readers.{case_in, first_child_of, instance_of, literal_from, literal_in, shown}
use Rattle.tree_board.specs.Searches.{Search, board_of, setting_of}
use Rattle.tree_board.specs.Settings.{Setting}
use Rattle.tree_board.specs.Settling.{IsOpenAt}
use Rattle.tree_board.proofs.Bare.{HasBare, bare, settles, stays}
use Rattle.tree_board.proofs.BarredWays.{holds-with_lits, parent_bars, root_bars}
use Rattle.tree_board.proofs.Below.{split_at}
use Rattle.tree_board.proofs.Climbing.{child_path, parent_path}
use Rattle.tree_board.proofs.Going.{board_more}
use Rattle.tree_board.proofs.Kept.{board_kept, nodes_kept, replay_kept}
use Rattle.tree_board.proofs.NodeBranches.{live_branch}
use Rattle.tree_board.proofs.Places.{same_some, within}
use Rattle.tree_board.proofs.Replays.{replay_board}
use Rattle.tree_board.proofs.Shown.{first_child_kept, instance_kept}
use Rattle.tree_board.proofs.PathReading.{nothing_read, reads_on}
use Rattle.tree_board.proofs.Ways.{ComesFrom, literal_is, origin, parent_is}

abbrev bars_at : List Node → ℕ → ℕ → List Lit
bars_at nodes parent number = cases_before (shown instance_of nodes parent) (shown first_child_of nodes parent) number

-- ---- a node and its parent

-- a node below its parent
pub record IsBelow (board : Board) (number parent : ℕ) (here : Node) : Type 0 where
  pub node : Node
  pub is : slice_get board.nodes parent ≡ Some node
  pub below : parent < number
  pub path : here.path ≡ number ∷ node.path
  pub lit : Lit
  pub lits : here.lits ≡ node.lits ++ lit ∷ []
  pub gives : literal_by board.nodes number (parent_of here.path) ≡ Some lit
  pub bars : bars_along board.nodes here.path ≡ bars_along board.nodes node.path ++ bars_at board.nodes parent number
  pub keys : keys_along board.nodes here.path ≡ keys_along board.nodes node.path ++ keys_of (lit ∷ []) (bars_at board.nodes parent number)

bars_more : (nodes : List Node) (number parent : ℕ) (above : List ℕ) → bars_along nodes (number ∷ parent ∷ above) ≡ bars_along nodes (parent ∷ above) ++ bars_at nodes parent number
bars_more nodes number parent above = refl

keys_more : (nodes : List Node) (number parent : ℕ) (above : List ℕ) → keys_along nodes (number ∷ parent ∷ above) ≡ keys_along nodes (parent ∷ above) ++ keys_of (option_to_list (literal_by nodes number parent)) (bars_at nodes parent number)
keys_more nodes number parent above = refl

tails_are : (a b : ℕ) (xs ys : List ℕ) → a ∷ xs ≡ b ∷ ys → xs ≡ ys
tails_are a b xs ys e = cc

heads_are : (a b : ℕ) (xs ys : List ℕ) → a ∷ xs ≡ b ∷ ys → a ≡ b
heads_are a b xs ys e = cc

-- the child of a node comes from it
pub below_parent : (setting : Setting) (board : Board) → IsBoard setting board → (number parent : ℕ) (here : Node) → slice_get board.nodes number ≡ Some here → IsChildOf board.nodes number parent → IsBelow board number parent here
below_parent setting board facts number parent here at child = by (origin setting board facts number here at)
  where
    own : here.path ≡ number ∷ child.node.path
    own = parent_path setting board facts number parent here at child

    split : IsSplit setting board parent child.node child.inst child.first
    split = split_at setting board facts.each parent child.node child.inst child.first child.is child.state

    up : (above : List ℕ) × (child.node.path ≡ parent ∷ above)
    up = let sound = facts.each parent child.node child.is in (sound.above, sound.path)

    parent_same : parent_of here.path ≡ parent
    parent_same = ap parent_of (own ∙ ap (λ path. number ∷ path) up.1)

    by : ((number ≡ 0) × (here.lits ≡ [])) ⊎ ComesFrom board.nodes number (parent_of here.path) here → IsBelow board number parent here
    by (inl root) = let low = split.later in let high = child.from in let zero_is = root.0 in absurd (omega (arith, low, high, zero_is))
    by (inr from) =
        let same : from.node ≡ child.node = same_some from.node child.node (sym from.is ∙ (ap (slice_get board.nodes) parent_same ∙ child.is)) in
        record {
          node = child.node;
          is = child.is;
          below = (let low = split.later in let high = child.from in omega (arith, low, high));
          path = own;
          lit = from.lit;
          lits = from.lits ∙ ap (λ (one : Node). one.lits ++ from.lit ∷ []) same;
          gives = from.gives;
          bars = ap (bars_along board.nodes) (own ∙ ap (λ path. number ∷ path) up.1) ∙ (bars_more board.nodes number parent up.0 ∙ ap (λ path. bars_along board.nodes path ++ bars_at board.nodes parent number) (sym up.1));
          keys = ap (keys_along board.nodes) (own ∙ ap (λ path. number ∷ path) up.1)
              ∙ (keys_more board.nodes number parent up.0
              ∙ ap₂ (λ path (lit : Option Lit). keys_along board.nodes path ++ keys_of (option_to_list lit) (bars_at board.nodes parent number)) (sym up.1) (ap (literal_by board.nodes number) (sym parent_same) ∙ from.gives));
        }

-- every node but the root is a child
record HasParent (board : Board) (number : ℕ) (here : Node) : Type 0 where
  pub parent : ℕ
  pub is : parent_of here.path ≡ parent
  pub child : IsChildOf board.nodes number parent

parent_there : (setting : Setting) (board : Board) → IsBoard setting board → (number : ℕ) (here : Node) → slice_get board.nodes number ≡ Some here → 0 < number → HasParent board number here
parent_there setting board facts number here at high = let own = facts.each number here at in by own.above own.path (subst (IsPath board.nodes) own.path own.rooted)
  where
    by : (above : List ℕ) → here.path ≡ number ∷ above → IsPath board.nodes (number ∷ above) → HasParent board number here
    by [] path zero_is = absurd (omega (arith, high, zero_is))
    by (parent ∷ above) path rooted = record { parent = parent; is = ap parent_of path; child = rooted.0 }

-- ---- what a path bars

pub bars_hold : (setting : Setting) (board : Board) → IsBoard setting board → (number : ℕ) (above : List ℕ) → IsPath board.nodes (number ∷ above) → (here : Node) → slice_get board.nodes number ≡ Some here → here.path ≡ number ∷ above → (lit : Lit)
    → holds (bars_along board.nodes (number ∷ above)) lit ≡ holds here.barred lit
bars_hold setting board facts number [] zero_is here at path lit = ap (λ lits. holds lits lit) (sym (root_bars setting board facts number here at zero_is))
bars_hold setting board facts number (parent ∷ above) rooted here at path lit =
    let child = rooted.0 in
    let below = below_parent setting board facts number parent here at child in
    let low = below.below in
    let from = parent_bars setting board facts number here at (λ e. let bad : ⊥ = omega (arith, e, low) in bad) in
    let own : parent_of here.path ≡ parent = ap parent_of path in
    let node_same : from.node ≡ below.node = same_some from.node below.node (sym from.is ∙ (ap (slice_get board.nodes) own ∙ below.is)) in
    let up : below.node.path ≡ parent ∷ above = tails_are number number below.node.path (parent ∷ above) (sym below.path ∙ path) in
    let small = from.small in
    let count : min (number - from.first) (length from.inst.conclusions) ≡ number - from.first = omega (arith, small) in
    let gives : bars_at board.nodes parent number ≡ take (number - from.first) from.inst.conclusions =
    ap (λ one. bars_at board.nodes one number) (sym own) ∙ (ap₂ (λ (i : Option Inst) (f : Option ℕ). cases_before i f number) from.insts from.firsts ∙ ap (λ n. take n from.inst.conclusions) count) in
    holds-append (bars_along board.nodes (parent ∷ above)) (bars_at board.nodes parent number) lit
    ∙ (ap₂ (λ a b. a || b) (bars_hold setting board facts parent above rooted.1 below.node below.is up lit ∙ ap (λ (one : Node). holds one.barred lit) (sym node_same)) (ap (λ lits. holds lits lit) gives)
    ∙ (sym (holds-with_lits from.node.barred (take (number - from.first) from.inst.conclusions) lit) ∙ ap (λ bars. holds bars lit) (sym from.barred)))

-- ---- why cases are closed at once

or_right : (a b c : Bool) → (a || (b || c)) ≡ ((a || b) || c)
or_right true b c = refl
or_right false b c = refl

or_turned : (a b : Bool) → (a || (b || false)) ≡ (b || a)
or_turned true true = refl
or_turned true false = refl
or_turned false true = refl
or_turned false false = refl

nothing_less : (a : Bool) → (a || false) ≡ a
nothing_less true = refl
nothing_less false = refl

reasons_same : (held bars barred earlier conclusions : List Lit) → ((lit : Lit) → (holds bars lit || holds earlier lit) ≡ holds barred lit) → reasons_from held bars earlier conclusions ≡ reasons_of (cases_of held barred conclusions)
reasons_same held bars barred earlier [] same = refl
reasons_same held bars barred earlier (lit ∷ more) same =
    ap₂ (λ first rest. first ∷ rest) (ap (λ is_barred. closure_by (holds held (complement_of lit)) is_barred lit) (same lit))
    (reasons_same held bars (with_lit barred lit) (earlier ++ lit ∷ []) more (λ one.
    ap (λ b. holds bars one || b) (holds-append earlier (lit ∷ []) one)
    ∙ (or_right (holds bars one) (holds earlier one) (holds (lit ∷ []) one)
    ∙ (ap (λ a. a || (same_lit lit one || false)) (same one) ∙ (or_turned (holds barred one) (same_lit lit one) ∙ sym (holds-with_lit barred lit one))))))

-- one more
pub reasons_push : (held bars earlier conclusions : List Lit) (last : Lit) → reasons_from held bars earlier (conclusions ++ last ∷ []) ≡ reasons_from held bars earlier conclusions ++ closure_by (holds held (complement_of last)) (holds bars last || holds (earlier ++ conclusions) last) last ∷ []
reasons_push held bars earlier [] last = ap (λ lits. closure_by (holds held (complement_of last)) (holds bars last || holds lits last) last ∷ []) (sym (append-nil earlier))
reasons_push held bars earlier (lit ∷ more) last =
    ap (λ rest. closure_by (holds held (complement_of lit)) (holds bars lit || holds earlier lit) lit ∷ rest)
    (reasons_push held bars (earlier ++ lit ∷ []) more last
    ∙ ap (λ lits. reasons_from held bars (earlier ++ lit ∷ []) more ++ closure_by (holds held (complement_of last)) (holds bars last || holds lits last) last ∷ []) (append_assoc earlier (lit ∷ []) more))

pub reasons_more : (held bars conclusions : List Lit) (index : ℕ) (lit : Lit) → index < length conclusions → lit ≡ get_or conclusions index lit
    → reasons_from held bars [] (take (index + 1) conclusions) ≡ reasons_from held bars [] (take index conclusions) ++ closure_by (holds held (complement_of lit)) (holds bars lit || holds (take index conclusions) lit) lit ∷ []
reasons_more held bars conclusions index lit small is =
    ap (reasons_from held bars []) (take_more conclusions index lit small ∙ ap (λ one. take index conclusions ++ one ∷ []) (sym is)) ∙ reasons_push held bars [] (take index conclusions) lit

-- ---- a board that grows

-- a node is still there, and split by the same if it was split
record StillThere (nodes : List Node) (number : ℕ) (node : Node) : Type 0 where
  pub other : Node
  pub is : slice_get nodes number ≡ Some other
  pub path : other.path ≡ node.path
  pub lits : other.lits ≡ node.lits
  pub split : (inst : Inst) (first : ℕ) → node.state ≡ Split inst first → other.state ≡ Split inst first

-- nodes of one state show the same
shows_same : {X : Type 0} (new old : List Node) (number : ℕ) (one two : Node) → slice_get new number ≡ Some one → slice_get old number ≡ Some two → one.state ≡ two.state → (show : NodeState → Option X) → shown show new number ≡ shown show old number
shows_same new old number one two one_is two_is same show =
    ap (option_and_then (λ (node : Node). show node.state)) one_is ∙ (ap show same ∙ sym (ap (option_and_then (λ (node : Node). show node.state)) two_is))

-- what settles a node leaves its path and its literals
settled_stays : (board : Board) (node : Node) (event : Event) → ((settled board node event).path ≡ node.path) × ((settled board node event).lits ≡ node.lits)
settled_stays board node (Extend number inst) = (refl, refl)
settled_stays board node (Reject number inst) = (refl, refl)
settled_stays board node (ByLemma number lemma) = (refl, refl)
settled_stays board node (Saturated number) = (refl, refl)
settled_stays board node (CoveredBy number cover) = (refl, refl)
settled_stays board node (TooHeavy number inst) = (refl, refl)

module _ (setting : Setting) (board : Board) (event : Event) (lawful : IsLawful setting board event) where
  still_there : (number : ℕ) (node : Node) → slice_get board.nodes number ≡ Some node → StillThere (effect setting board event).nodes number node
  still_there number node at = elim (cases_eq number (node_of event)) [
    | inl same ↦
        let own : lawful.node ≡ node = same_some lawful.node node (sym lawful.is ∙ (ap (slice_get board.nodes) (sym same) ∙ at)) in
        let there = settles setting board event lawful in
        let stay = settled_stays board lawful.node event in
        record {
          other = there.other;
          is = ap (slice_get (effect setting board event).nodes) same ∙ there.is;
          path = ap (λ (one : Node). one.path) there.same ∙ (stay.0 ∙ ap (λ (one : Node). one.path) own);
          lits = ap (λ (one : Node). one.lits) there.same ∙ (stay.1 ∙ ap (λ (one : Node). one.lits) own);
          split = λ inst first state. absurd (no_split inst first (sym state ∙ (ap (λ (one : Node). one.state) (sym own) ∙ lawful.opened)));
        }
    | inr apart ↦
        let there = stays setting board event lawful number node apart at in
        record {
          other = there.other;
          is = there.is;
          path = ap (λ (one : Node). one.path) there.same;
          lits = ap (λ (one : Node). one.lits) there.same;
          split = λ inst first state. ap (λ (one : Node). one.state) there.same ∙ state;
        }
  ]
    where
      no_split : (inst : Inst) (first : ℕ) → Split inst first ≡ Open → ⊥
      no_split inst first e = cc

  bars_stay : (path : List ℕ) → IsPath board.nodes path → bars_along (effect setting board event).nodes path ≡ bars_along board.nodes path
  bars_stay [] bad = absurd bad
  bars_stay (number ∷ []) rooted = refl
  bars_stay (number ∷ parent ∷ above) rooted =
      let child = rooted.0 in
      let there = still_there parent child.node child.is in
      let state : there.other.state ≡ child.node.state = there.split child.inst child.first child.state ∙ sym child.state in
      let insts = shows_same (effect setting board event).nodes board.nodes parent there.other child.node there.is child.is state instance_of in
      let firsts = shows_same (effect setting board event).nodes board.nodes parent there.other child.node there.is child.is state first_child_of in
      ap₂ (λ front back. front ++ back) (bars_stay (parent ∷ above) rooted.1) (ap₂ (λ (i : Option Inst) (f : Option ℕ). cases_before i f number) insts firsts)

  keys_stay : (path : List ℕ) → IsPath board.nodes path → keys_along (effect setting board event).nodes path ≡ keys_along board.nodes path
  keys_stay [] bad = absurd bad
  keys_stay (number ∷ []) rooted = refl
  keys_stay (number ∷ parent ∷ above) rooted =
      let child = rooted.0 in
      let there = still_there parent child.node child.is in
      let state : there.other.state ≡ child.node.state = there.split child.inst child.first child.state ∙ sym child.state in
      let insts = shows_same (effect setting board event).nodes board.nodes parent there.other child.node there.is child.is state instance_of in
      let firsts = shows_same (effect setting board event).nodes board.nodes parent there.other child.node there.is child.is state first_child_of in
      ap₂ (λ front back. front ++ back) (keys_stay (parent ∷ above) rooted.1)
      (ap₂ (λ (i : Option Inst) (f : Option ℕ). keys_of (option_to_list (option_and_then (λ first. option_and_then (λ (inst : Inst). case_in inst first number) i) f)) (cases_before i f number)) insts firsts)

-- the path still leads there
pub leads_on : (before after : Search) (event : Event) (lawful : IsLawful (setting_of before) (board_of before) event) → IsBoard (setting_of before) (board_of before) → after ≡ record before { journal = before.journal ++ event ∷ [] } → (path : Path) → LeadsTo before path → LeadsTo after path
leads_on before after event lawful facts is path leads =
    let setting = setting_of before in
    let board = board_of before in
    let next : effect setting board event ≡ board_of after = sym (ap board_of is ∙ board_more before event) in
    let there = still_there setting board event lawful path.node leads.node leads.is in
    record {
      node = there.other;
      is = ap (λ (one : Board). slice_get one.nodes path.node) (sym next) ∙ there.is;
      problem = leads.problem ∙ sym (ap (λ (one : Search). one.problem) is);
      lits = leads.lits ∙ sym there.lits;
      barred = leads.barred
          ∙ (sym (bars_stay setting board event lawful leads.node.path (facts.each path.node leads.node leads.is).rooted)
          ∙ (ap (λ (one : Board). bars_along one.nodes leads.node.path) next ∙ ap (bars_along (board_of after).nodes) (sym there.path)));
      keys = leads.keys
          ∙ (sym (keys_stay setting board event lawful leads.node.path (facts.each path.node leads.node leads.is).rooted)
          ∙ (ap (λ (one : Board). keys_along one.nodes leads.node.path) next ∙ ap (keys_along (board_of after).nodes) (sym there.path)));
      reads = reads_on before after event lawful is path.watch.sets path.lemmas_read path.events_read leads.reads;
    }

-- ---- up and down, of slices that show the fields and of the search that callers see

-- a child's literal may be pushed
pub record MayEnter (search : Search) (path : Path) (child : ℕ) (lit : Lit) (earlier : List Lit) : Type 0 where
  pub can : CanPush path.branch lit
  pub enters : (new : Path) → HasEntered path child lit earlier new → LeadsTo search new

-- the path may go back to the parent
pub record MayLeave (search : Search) (path : Path) (parent count : ℕ) : Type 0 where
  pub some : 0 < length path.branch.lits
  pub barred : count ≤ length path.barred
  pub keys : count < length path.watch.path
  pub up : parent < path.node
  pub leaves : (new : Path) → HasLeft path parent count new → LeadsTo search new

keys_length : (lit : Lit) (earlier : List Lit) → length (keys_of (lit ∷ []) earlier) ≡ length earlier + 1
keys_length lit earlier = by earlier
  where
    by : (lits : List Lit) → length (keys_of (lit ∷ []) lits) ≡ length lits + 1
    by [] = refl
    by (one ∷ lits) = let rest = by lits in omega (arith, rest)

-- what was read is the same
same_reads : (search : Search) (before after : Path) → HasRead search before.watch.sets before.lemmas_read before.events_read → (path : List Key) → after.watch ≡ record before.watch { path = path } → after.lemmas_read ≡ before.lemmas_read → after.events_read ≡ before.events_read
    → HasRead search after.watch.sets after.lemmas_read after.events_read
same_reads search before after reads path watch lemmas events =
    subst (λ (sets : List (Owned Key)). HasRead search sets after.lemmas_read after.events_read) (sym (ap (λ (one : Watched). one.sets) watch))
    (subst (λ n. HasRead search before.watch.sets n after.events_read) (sym lemmas) (subst (λ n. HasRead search before.watch.sets before.lemmas_read n) (sym events) reads))

taken : {X : Type 0} (xs ys zs : List X) (count : ℕ) → xs ≡ ys ++ zs → count ≡ length zs → take (length xs - count) xs ≡ ys
taken xs ys zs count is size =
    let sizes = ap length is ∙ length-append ys zs in
    let left : length xs - count ≡ length ys = omega (arith, sizes, size) in
    ap₂ (λ n list. take n list) left is ∙ take_at ys zs (length ys) refl

module _ (search value : Search) (same : search ≡ value) (cells seen_cells : List Cell) (closures : List Closure) (lemmas : List Pair) (lemma_nodes : List ℕ) (tally : Tally) (keeping : IsKeeping search cells closures lemmas lemma_nodes tally)
    (seen_journal : List Event) (cells_are : seen_cells ≡ cells) (journal_is : seen_journal ≡ search.journal) where
  kept_now : IsKeeping value cells closures lemmas lemma_nodes tally
  kept_now = subst (λ one. IsKeeping one cells closures lemmas lemma_nodes tally) same keeping

  facts_now : IsBoard (setting_of value) (board_of value)
  facts_now = board_kept value cells closures lemmas lemma_nodes tally kept_now

  pub seen_there : (number : ℕ) → number < length (board_of value).nodes → number < length seen_cells
  seen_there number small =
      let sizes = nodes_kept value cells closures lemmas lemma_nodes tally kept_now in
      let shown_size = ap length cells_are in
      omega (arith, small, sizes, shown_size)

  pub path_within : (path : Path) → LeadsTo value path → path.node < length seen_cells
  path_within path leads = seen_there path.node (within (board_of value).nodes path.node leads.node leads.is)

  -- the parent that a cell tells
  seen_parent : (number : ℕ) (here : Node) → slice_get (board_of value).nodes number ≡ Some here → (parent : ℕ) → option_map (λ (cell : Cell). cell.parent) (slice_get seen_cells number) ≡ Some parent → parent_of here.path ≡ parent
  seen_parent number here at parent told =
      same_some (parent_of here.path) parent (sym (parent_is value cells closures lemmas lemma_nodes tally kept_now number here at) ∙ (ap (λ (cs : List Cell). option_map (λ (cell : Cell). cell.parent) (slice_get cs number)) (sym cells_are) ∙ told))

  seen_earlier : (parent number : ℕ) → earlier_in seen_cells seen_journal parent number ≡ bars_at (board_of value).nodes parent number
  seen_earlier parent number =
      ap₂ (λ (cs : List Cell) (js : List Event). earlier_in cs js parent number) cells_are (journal_is ∙ ap (λ (one : Search). one.journal) same)
      ∙ ap₂ (λ (i : Option Inst) (f : Option ℕ). cases_before i f number) (instance_kept value cells closures lemmas lemma_nodes tally kept_now parent) (first_child_kept value cells closures lemmas lemma_nodes tally kept_now parent)

  seen_literal : (number : ℕ) (here : Node) → slice_get (board_of value).nodes number ≡ Some here → 0 < number → (lit : Lit) → literal_by (board_of value).nodes number (parent_of here.path) ≡ Some lit → literal_in seen_cells seen_journal number ≡ Some lit
  seen_literal number here at high lit gives =
      ap₂ (λ (cs : List Cell) (js : List Event). literal_in cs js number) cells_are (journal_is ∙ ap (λ (one : Search). one.journal) same)
      ∙ (cond-false (nat_eq number 0) None (option_and_then (λ (cell : Cell). literal_from cells value.journal number cell.parent) (slice_get cells number)) (ne_eqb number 0 (λ e. let bad : ⊥ = omega (arith, e, high) in bad))
      ∙ (literal_is value cells closures lemmas lemma_nodes tally kept_now number here at ∙ gives))

  -- a node's parent, as its cell tells it
  goes_below : (number : ℕ) (here : Node) → slice_get (board_of value).nodes number ≡ Some here → 0 < number → (parent : ℕ) → option_map (λ (cell : Cell). cell.parent) (slice_get seen_cells number) ≡ Some parent → IsBelow (board_of value) number parent here
  goes_below number here at high parent told =
      let own = parent_there (setting_of value) (board_of value) facts_now number here at high in
      let one : own.parent ≡ parent = sym own.is ∙ seen_parent number here at parent told in
      below_parent (setting_of value) (board_of value) facts_now number parent here at (subst (IsChildOf (board_of value).nodes number) one own.child)

  pub may_leave : (path : Path) → LeadsTo value path → 0 < path.node → (parent : ℕ) → option_map (λ (cell : Cell). cell.parent) (slice_get seen_cells path.node) ≡ Some parent
      → (earlier : List Lit) → earlier ≡ earlier_in seen_cells seen_journal parent path.node → (count : ℕ) → count ≡ length earlier → MayLeave value path parent count
  may_leave path leads high parent told earlier earlier_is count count_is =
      let below = goes_below path.node leads.node leads.is high parent told in
      let lits : path.branch.lits ≡ below.node.lits ++ below.lit ∷ [] = leads.lits ∙ below.lits in
      let bars : path.barred ≡ bars_along (board_of value).nodes below.node.path ++ earlier =
      leads.barred ∙ (below.bars ∙ ap (λ more. bars_along (board_of value).nodes below.node.path ++ more) (sym (earlier_is ∙ seen_earlier parent path.node))) in
      let keys : path.watch.path ≡ keys_along (board_of value).nodes below.node.path ++ keys_of (below.lit ∷ []) earlier =
      leads.keys ∙ (below.keys ∙ ap (λ more. keys_along (board_of value).nodes below.node.path ++ keys_of (below.lit ∷ []) more) (sym (earlier_is ∙ seen_earlier parent path.node))) in
      let keys_size = ap length keys ∙ length-append (keys_along (board_of value).nodes below.node.path) (keys_of (below.lit ∷ []) earlier) in
      let step_size = keys_length below.lit earlier in
      let size = ap length lits ∙ length-append below.node.lits (below.lit ∷ []) in
      let barred_size = ap length bars ∙ length-append (bars_along (board_of value).nodes below.node.path) earlier in
      record {
        some = omega (arith, size);
        barred = omega (arith, barred_size, count_is);
        keys = omega (arith, keys_size, step_size, count_is);
        up = below.below;
        leaves = λ new left. record {
          node = below.node;
          is = ap (slice_get (board_of value).nodes) left.node ∙ below.is;
          problem = ap (λ (one : BranchData). one.problem) left.branch ∙ leads.problem;
          lits = ap (λ (one : BranchData). one.lits) left.branch ∙ taken path.branch.lits below.node.lits (below.lit ∷ []) 1 lits refl;
          barred = left.barred ∙ taken path.barred (bars_along (board_of value).nodes below.node.path) earlier count bars count_is;
          keys = ap (λ (one : Watched). one.path) left.watch
              ∙ taken path.watch.path (keys_along (board_of value).nodes below.node.path) (keys_of (below.lit ∷ []) earlier) (count + 1) keys (omega (arith, step_size, count_is));
          reads = same_reads value path new leads.reads (take (length path.watch.path - (count + 1)) path.watch.path) left.watch left.lemmas left.events;
        };
      }

  -- the child of a split node
  child_there : (number parent : ℕ) → (child : IsChildOf (board_of value).nodes number parent) → (here : Node) × (slice_get (board_of value).nodes number ≡ Some here) × (0 < number)
  child_there number parent child =
      let split = split_at (setting_of value) (board_of value) facts_now.each parent child.node child.inst child.first child.is child.state in
      let (here, is, path) = child_path (board_of value).nodes child.first child.node.path child.node.lits child.node.barred child.inst.conclusions split.children number child.from child.below in
      let low = split.later in
      let high = child.from in
      (here, is, omega (arith, low, high))

  pub literal_there : (path : Path) → LeadsTo value path → (child : ℕ) → IsChildOf (board_of value).nodes child path.node → literal_in seen_cells seen_journal child ≡ None → ⊥
  literal_there path leads child is none =
      let (here, at, high) = child_there child path.node is in
      let below = below_parent (setting_of value) (board_of value) facts_now child path.node here at is in
      let some = seen_literal child here at high below.lit below.gives in
      let bad : ⊥ = cc in bad

  pub may_enter : (path : Path) → LeadsTo value path → (child : ℕ) → IsChildOf (board_of value).nodes child path.node → IsUnshut (board_of value) child → (lit : Lit) → Some lit ≡ literal_in seen_cells seen_journal child
      → (earlier : List Lit) → earlier ≡ earlier_in seen_cells seen_journal path.node child → MayEnter value path child lit earlier
  may_enter path leads child is unshut lit told earlier earlier_is =
      let (here, at, high) = child_there child path.node is in
      let below = below_parent (setting_of value) (board_of value) facts_now child path.node here at is in
      let own : below.lit ≡ lit = same_some below.lit lit (sym (seen_literal child here at high below.lit below.gives) ∙ sym told) in
      let node_same : below.node ≡ leads.node = same_some below.node leads.node (sym below.is ∙ leads.is) in
      let lits : here.lits ≡ path.branch.lits ++ lit ∷ [] = below.lits ∙ ap₂ (λ front last. front ++ last ∷ []) (ap (λ (one : Node). one.lits) node_same ∙ sym leads.lits) own in
      let are = live_branch (setting_of value) (board_of value) kept_now.problem (replay_kept value cells closures lemmas lemma_nodes tally kept_now) kept_now.budget kept_now.weight child here at (unshut here at) in
      let can = branch_last value.problem path.branch.lits lit (subst (AreBranch value.problem) lits are) in
      let branch_is : path.branch ≡ record { problem = value.problem; lits = path.branch.lits } = λ i. record { problem = leads.problem i; lits = path.branch.lits } in
      record {
        can = subst (λ (one : BranchData). CanPush one lit) (sym branch_is) can;
        enters = λ new entered. record {
          node = here;
          is = ap (slice_get (board_of value).nodes) entered.node ∙ at;
          problem = ap (λ (one : BranchData). one.problem) entered.branch ∙ leads.problem;
          lits = ap (λ (one : BranchData). one.lits) entered.branch ∙ sym lits;
          keys = ap (λ (one : Watched). one.path) entered.watch
              ∙ (ap₂ (λ front back. front ++ back) (leads.keys ∙ ap (λ (one : Node). keys_along (board_of value).nodes one.path) (sym node_same)) (ap₂ (λ one bars. keys_of (one ∷ []) bars) (sym own) (earlier_is ∙ seen_earlier path.node child))
              ∙ sym below.keys);
          reads = same_reads value path new leads.reads (path.watch.path ++ keys_of (lit ∷ []) earlier) entered.watch entered.lemmas entered.events;
          barred = entered.barred
              ∙ (ap₂ (λ front back. front ++ back) (leads.barred ∙ ap (λ (one : Node). bars_along (board_of value).nodes one.path) (sym node_same)) (earlier_is ∙ seen_earlier path.node child)
              ∙ sym below.bars);
        };
      }

  -- one node more is met on the way up
  pub meets_more : (number top : ℕ) (met : List ℕ) → HasMet (board_of value).nodes number top met → 0 < top → (parent : ℕ) → option_map (λ (cell : Cell). cell.parent) (slice_get seen_cells top) ≡ Some parent → (pushed : List ℕ) → pushed ≡ met ++ top ∷ []
      → HasMet (board_of value).nodes number parent pushed × (parent < top)
  meets_more number top met has high parent told pushed pushed_is =
      let below = goes_below top has.high has.is high parent told in (
        record {
          low = has.low;
          starts = has.starts;
          high = below.node;
          is = below.is;
          path = has.path ∙ (ap (λ path. met ++ path) below.path ∙ (sym (append_assoc met (top ∷ []) below.node.path) ∙ ap (λ front. front ++ below.node.path) (sym pushed_is)));
        },
        below.below,
      )

  pub met_within : (number top : ℕ) (met : List ℕ) → HasMet (board_of value).nodes number top met → top < length seen_cells
  met_within number top met has = seen_there top (within (board_of value).nodes top has.high has.is)

-- what follows of an answer
pub ok_then : {X E : Type 0} (answer : Result X E) (P Q : Type 0) → (P → Q) → OnOk answer P → OnOk answer Q
ok_then (Ok x) P Q then p = then p
ok_then (Err e) P Q then p = tt

pub ok_two : {X E : Type 0} (answer : Result X E) (P Q R : Type 0) → (P → Q → R) → OnOk answer P → OnOk answer Q → OnOk answer R
ok_two (Ok x) P Q R then p q = then p q
ok_two (Err e) P Q R then p q = tt

some_at : {X : Type 0} (xs : List X) (index : ℕ) → index < length xs → (x : X) × (slice_get xs index ≡ Some x)
some_at [] index small = absurd (omega (arith, small))
some_at (x ∷ xs) zero small = (x, refl)
some_at (x ∷ xs) (suc index) small = some_at xs index (omega (arith, small))

pub meets_none : (nodes : List Node) (number : ℕ) → number < length nodes → (met : List ℕ) → met ≡ [] → HasMet nodes number number met
meets_none nodes number small met none =
    let (here, is) = some_at nodes number small in
    record { low = here; starts = is; high = here; is = is; path = ap (λ some. some ++ here.path) (sym none) }

-- a path that goes on below a node goes to a child of it, which is its end or is split
path_goes : (nodes : List Node) (rest : List ℕ) (child top : ℕ) (above : List ℕ) → IsPath nodes (rest ++ child ∷ top ∷ above) → IsChildOf nodes child top × ((rest ≡ []) ⊎ ((low : ℕ) × IsChildOf nodes low child))
path_goes nodes [] child top above rooted = (rooted.0, inl refl)
path_goes nodes (low ∷ []) child top above rooted = (rooted.1.0, inr (low, rooted.0))
path_goes nodes (low ∷ next ∷ rest) child top above rooted =
    let (is, ends) = path_goes nodes (next ∷ rest) child top above rooted.1 in (
      is,
      elim ends [
        | inl none ↦ absurd (let bad : ⊥ = cc in bad)
        | inr more ↦ inr more
      ],
    )

-- a step down
pub record MayGoDown (search : Search) (number : ℕ) (path : Path) (child : ℕ) (rest : List ℕ) : Type 0 where
  pub child_of : IsChildOf (board_of search).nodes child path.node
  pub unshut : IsUnshut (board_of search) child
  pub near : (new : Path) → LeadsTo search new → new.node ≡ child → LeadsNear search number new rest

pub may_go_down : (search : Search) → IsBoard (setting_of search) (board_of search) → (number : ℕ) → IsOpenAt (board_of search) number → (path : Path) (met : List ℕ) → LeadsNear search number path met → (child : ℕ) (rest : List ℕ) → met ≡ rest ++ child ∷ [] → MayGoDown search number path child rest
may_go_down search facts number opened path met near child rest met_is =
    let has = near.1 in
    let sound = facts.each path.node has.high has.is in
    let low = facts.each number has.low has.starts in
    let whole : has.low.path ≡ rest ++ child ∷ has.high.path = has.path ∙ (ap (λ some. some ++ has.high.path) met_is ∙ append_assoc rest (child ∷ []) has.high.path) in
    let (is, ends) = path_goes (board_of search).nodes rest child path.node sound.above (subst (IsPath (board_of search).nodes) (whole ∙ ap (λ above. rest ++ child ∷ above) sound.path) low.rooted) in
    record {
      child_of = is;
      unshut = λ here at. elim ends [
        | inl none ↦
            let own : number ≡ child = heads_are number child low.above has.high.path (sym low.path ∙ (whole ∙ ap (λ some. some ++ child ∷ has.high.path) none)) in
            let node_same : opened.node ≡ here = same_some opened.node here (sym opened.is ∙ (ap (slice_get (board_of search).nodes) own ∙ at)) in
            ap (λ (one : Node). is_shut one.state) (sym node_same) ∙ ap is_shut opened.opened
        | inr (below, child_is) ↦ ap (λ (one : Node). is_shut one.state) (same_some here child_is.node (sym at ∙ child_is.is)) ∙ ap is_shut child_is.state
      ];
      near = λ new leads node.
          let own = parent_path (setting_of search) (board_of search) facts child path.node leads.node (ap (slice_get (board_of search).nodes) (sym node) ∙ leads.is) is in
          let up : is.node ≡ has.high = same_some is.node has.high (sym is.is ∙ has.is) in (
            leads,
            record {
              low = has.low;
              starts = has.starts;
              high = leads.node;
              is = leads.is;
              path = whole ∙ ap (λ path. rest ++ path) (sym (own ∙ ap (λ above. child ∷ above) (ap (λ (one : Node). one.path) up)));
            },
          );
    }

pub none_long : (xs : List ℕ) → length xs ≡ 0 → xs ≡ []
none_long [] e = refl
none_long (x ∷ xs) e = absurd (omega (arith, e))

-- the end of the way down
pub is_there : (search : Search) → IsBoard (setting_of search) (board_of search) → (number : ℕ) (path : Path) (met : List ℕ) → LeadsNear search number path met → met ≡ [] → path.node ≡ number
is_there search facts number path met near none =
    let has = near.1 in
    let sound = facts.each path.node has.high has.is in
    let low = facts.each number has.low has.starts in
    heads_are path.node number sound.above low.above (sym sound.path ∙ (sym (has.path ∙ ap (λ some. some ++ has.high.path) none) ∙ low.path))

-- why the cases of an extension are closed at once, at the path's node
pub reasons_there : (search : Search) → IsBoard (setting_of search) (board_of search) → (path : Path) → LeadsTo search path → (node : Node) → slice_get (board_of search).nodes path.node ≡ Some node → (conclusions : List Lit)
    → reasons_from path.branch.lits path.barred [] conclusions ≡ reasons_of (cases_of node.lits node.barred conclusions)
reasons_there search facts path leads node at conclusions =
    let own : leads.node ≡ node = same_some leads.node node (sym leads.is ∙ at) in
    let sound = facts.each path.node leads.node leads.is in
    let bars : (lit : Lit) → (holds path.barred lit || false) ≡ holds node.barred lit =
    λ lit. nothing_less (holds path.barred lit)
    ∙ (ap (λ lits. holds lits lit) (leads.barred ∙ ap (bars_along (board_of search).nodes) sound.path)
    ∙ (bars_hold (setting_of search) (board_of search) facts path.node sound.above (subst (IsPath (board_of search).nodes) sound.path sound.rooted) leads.node leads.is sound.path lit ∙ ap (λ (one : Node). holds one.barred lit) own)) in
    ap (λ held. reasons_from held path.barred [] conclusions) (leads.lits ∙ ap (λ (one : Node). one.lits) own) ∙ reasons_same node.lits path.barred node.barred [] conclusions bars

-- the way to the root
pub leads_root : (search : Search) → IsBoard (setting_of search) (board_of search) → (problem : ProblemData) → problem ≡ search.problem → (path : Path) → IsAtRoot problem path → LeadsTo search path
leads_root search facts problem same path at =
    let (root, root_at, root_path, lits, barred) = facts.root in
    record {
      node = root;
      is = ap (slice_get (board_of search).nodes) at.node ∙ root_at;
      problem = ap (λ (one : BranchData). one.problem) at.branch ∙ same;
      lits = ap (λ (one : BranchData). one.lits) at.branch ∙ sym lits;
      barred = at.barred ∙ sym (ap (bars_along (board_of search).nodes) root_path);
      keys = ap (λ (one : Watched). one.path) at.watch ∙ sym (ap (keys_along (board_of search).nodes) root_path);
      reads = subst (λ (sets : List (Owned Key)). HasRead search sets path.lemmas_read path.events_read) (sym (ap (λ (one : Watched). one.sets) at.watch))
          (subst (λ n. HasRead search [] n path.events_read) (sym at.lemmas) (subst (λ n. HasRead search [] 0 n) (sym at.events) (nothing_read search)));
    }
