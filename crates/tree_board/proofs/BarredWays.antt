-- The way up from a node gives what it bars.
use Rattle.std.proofs.Common.{◌≡◌, ◌≢◌, ◌+◌, ◌-◌, ◌<◌, ◌≤◌, min, ℕ, zero, suc, Bool, true, false, ◌||◌, List, [], ◌∷◌, ◌++◌, length, take, slice_get, Option, Some, option_map, refl, sym, ap, ap₂, subst, ◌∙◌, inl, inr, arith}
use Rattle.std.specs.Prelude.{option_and_then}
use Rattle.std.proofs.lemmas.Bool.{cases_eq}
use Rattle.std.proofs.lemmas.Option.{slice_get_within}
use Rattle.mg_word.specs.Sets.{holds, is_rising, same_lit, set_of, with_lit}
use Rattle.mg_word.specs.declared.form.Inst.{Inst}
use Rattle.mg_word.specs.declared.lit.Lit.{Lit}
use Rattle.mg_word.proofs.Members.{holds-append}
use Rattle.mg_word.proofs.RisingLists.{holds-with_lit, rising-with_lit, set_exact}
use Rattle.mg_meaning.specs.Folding.{Pair}
use Rattle.case_split.specs.Splitting.{barred_before, with_lits}
use Rattle.case_split.specs.declared.child.Closure.{Closure}
use Rattle.tree_board.specs.declared.cell.Cell.{Cell}
use Rattle.tree_board.specs.declared.event.Event.{Event}
use Rattle.tree_board.specs.Barring.{cases_before, earlier_in}
use Rattle.tree_board.specs.Boards.{Board}
use Rattle.tree_board.specs.Cells.{parent_of}
use Rattle.tree_board.specs.Facts.{HasChildren, IsBoard, IsPath}
use Rattle.tree_board.specs.declared.tally.Tally.{Tally}
use Rattle.tree_board.specs.Keeping.{IsKeeping}
use Rattle.tree_board.specs.Nodes.{Node}
use Rattle.tree_board.specs.Readers.{first_child_of, instance_of, shown}
use Rattle.tree_board.specs.Searches.{Search, board_of, setting_of}
use Rattle.tree_board.specs.Settings.{Setting}
use Rattle.tree_board.proofs.Below.{split_at}
use Rattle.tree_board.proofs.Kept.{board_kept, cell_at, nodes_kept}
use Rattle.tree_board.proofs.Places.{same_some}
use Rattle.tree_board.proofs.Shown.{first_child_kept, instance_kept}

-- ---- sets with more literals

rising-with_lits : (set lits : List Lit) → is_rising set ≡ true → is_rising (with_lits set lits) ≡ true
rising-with_lits set [] rising = rising
rising-with_lits set (lit ∷ lits) rising = rising-with_lits (with_lit set lit) lits (rising-with_lit set lit rising)

turn : (a b c : Bool) → ((a || b) || c) ≡ (b || (a || c))
turn true true c = refl
turn true false c = refl
turn false true c = refl
turn false false c = refl

join_or : (a b c : Bool) → ((a || b) || c) ≡ (a || (c || b))
join_or true b c = refl
join_or false true true = refl
join_or false true false = refl
join_or false false true = refl
join_or false false false = refl

nothing_more : (a : Bool) → a ≡ (a || false)
nothing_more true = refl
nothing_more false = refl

pub holds-with_lits : (set lits : List Lit) (lit : Lit) → holds (with_lits set lits) lit ≡ (holds set lit || holds lits lit)
holds-with_lits set [] lit = nothing_more (holds set lit)
holds-with_lits set (one ∷ lits) lit =
    holds-with_lits (with_lit set one) lits lit ∙ (ap (λ b. b || holds lits lit) (holds-with_lit set one lit) ∙ turn (same_lit one lit) (holds set lit) (holds lits lit))

-- ---- children

-- the child with this number bars the conclusions before its own
record IsBarring (nodes : List Node) (number index : ℕ) (bars conclusions : List Lit) : Type 0 where
  pub node : Node
  pub is : slice_get nodes number ≡ Some node
  pub barred : node.barred ≡ barred_before bars conclusions index

barring_child : (nodes : List Node) (first : ℕ) (above : List ℕ) (held bars conclusions : List Lit) → HasChildren nodes first above held bars conclusions → (number : ℕ) → first ≤ number → number < first + length conclusions → IsBarring nodes number (number - first) bars conclusions
barring_child nodes first above held bars [] children number from below = absurd (omega (arith, from, below))
barring_child nodes first above held bars (lit ∷ more) (child, children) number from below = elim (cases_eq number first) [
  | inl same ↦
      let none : number - first ≡ 0 = omega (arith, same) in
      record { node = child.node; is = ap (slice_get nodes) same ∙ child.is; barred = child.barred ∙ ap (barred_before bars (lit ∷ more)) (sym none) }
  | inr apart ↦
      let rest = barring_child nodes (suc first) above held (with_lit bars lit) more children number (omega (arith, from, apart)) (omega (arith, below)) in
      let place : number - first ≡ suc (number - suc first) = omega (arith, from, apart) in
      record { node = rest.node; is = rest.is; barred = rest.barred ∙ ap (barred_before bars (lit ∷ more)) (sym place) }
]

-- a node that is not the root, and its parent
pub record IsBelowParent (nodes : List Node) (number parent : ℕ) (here : Node) : Type 0 where
  pub node : Node
  pub is : slice_get nodes parent ≡ Some node
  pub below : parent < number
  pub inst : Inst
  pub first : ℕ
  pub insts : shown instance_of nodes parent ≡ Some inst
  pub firsts : shown first_child_of nodes parent ≡ Some first
  pub small : number - first < length inst.conclusions
  pub barred : here.barred ≡ barred_before node.barred inst.conclusions (number - first)

pub parent_bars : (setting : Setting) (board : Board) → IsBoard setting board → (number : ℕ) (here : Node) → slice_get board.nodes number ≡ Some here → number ≢ 0 → IsBelowParent board.nodes number (parent_of here.path) here
parent_bars setting board facts number here at apart = let own = facts.each number here at in by own.above own.path (subst (IsPath board.nodes) own.path own.rooted)
  where
    by : (above : List ℕ) → here.path ≡ number ∷ above → IsPath board.nodes (number ∷ above) → IsBelowParent board.nodes number (parent_of here.path) here
    by [] path zero_is = absurd (apart zero_is)
    by (parent ∷ above) path rooted =
        let child = rooted.0 in
        let split = split_at setting board facts.each parent child.node child.inst child.first child.is child.state in
        let own = barring_child board.nodes child.first child.node.path child.node.lits child.node.barred child.inst.conclusions split.children number child.from child.below in
        subst (λ one. IsBelowParent board.nodes number one here) (sym (ap parent_of path)) (record {
          node = child.node;
          is = child.is;
          below = (let low = split.later in let high = child.from in omega (arith, low, high));
          inst = child.inst;
          first = child.first;
          insts = ap (option_and_then (λ (node : Node). instance_of node.state)) child.is ∙ ap instance_of child.state;
          firsts = ap (option_and_then (λ (node : Node). first_child_of node.state)) child.is ∙ ap first_child_of child.state;
          small = (let low = child.from in let high = child.below in omega (arith, low, high));
          barred = ap (λ (node : Node). node.barred) (same_some here own.node (sym at ∙ own.is)) ∙ own.barred;
        })

pub root_bars : (setting : Setting) (board : Board) → IsBoard setting board → (number : ℕ) (here : Node) → slice_get board.nodes number ≡ Some here → number ≡ 0 → here.barred ≡ []
root_bars setting board facts number here at zero_is =
    let (root, root_at, root_path, lits, barred) = facts.root in
    ap (λ (node : Node). node.barred) (same_some here root (sym at ∙ (ap (slice_get board.nodes) zero_is ∙ root_at))) ∙ barred

-- ---- the way

-- from the start up to this node, these literals were met, which the start bars beside what this node bars
pub record IsBarredUpTo (nodes : List Node) (start number : ℕ) (met : List Lit) : Type 0 where
  pub top : Node
  pub starts : slice_get nodes start ≡ Some top
  pub here : Node
  pub is : slice_get nodes number ≡ Some here
  pub rising : is_rising here.barred ≡ true → is_rising top.barred ≡ true
  pub same : (lit : Lit) → holds top.barred lit ≡ (holds here.barred lit || holds met lit)

some_there : {X : Type 0} (xs : List X) (index : ℕ) → index < length xs → (x : X) × (slice_get xs index ≡ Some x)
some_there [] index small = absurd (omega (arith, small))
some_there (x ∷ xs) zero small = (x, refl)
some_there (x ∷ xs) (suc index) small = some_there xs index (omega (arith, small))

pub bars_start : (nodes : List Node) (start : ℕ) → start < length nodes → (met : List Lit) → met ≡ [] → IsBarredUpTo nodes start start met
bars_start nodes start small met none =
    let (here, is) = some_there nodes start small in
    record { top = here; starts = is; here = here; is = is; rising = λ e. e; same = λ lit. nothing_more (holds here.barred lit) ∙ ap (λ lits. holds here.barred lit || holds lits lit) (sym none) }

-- the same of slices that show the fields, and of the search that callers see
module _ (search value : Search) (same : search ≡ value) (cells seen_cells : List Cell) (closures : List Closure) (lemmas : List Pair) (lemma_nodes : List ℕ) (tally : Tally) (keeping : IsKeeping search cells closures lemmas lemma_nodes tally)
    (seen_journal : List Event) (cells_are : seen_cells ≡ cells) (journal_is : seen_journal ≡ search.journal) (start number : ℕ) (met : List Lit) (way : IsBarredUpTo (board_of value).nodes start number met) where
  kept_now : IsKeeping value cells closures lemmas lemma_nodes tally
  kept_now = subst (λ one. IsKeeping one cells closures lemmas lemma_nodes tally) same keeping

  facts_now : IsBoard (setting_of value) (board_of value)
  facts_now = board_kept value cells closures lemmas lemma_nodes tally kept_now

  pub bars_within : number < length seen_cells
  bars_within =
      let small = slice_get_within (board_of value).nodes number way.here way.is in
      let sizes = nodes_kept value cells closures lemmas lemma_nodes tally kept_now in
      let shown_size = ap length cells_are in
      omega (arith, small, sizes, shown_size)

  parent_seen : option_map (λ (cell : Cell). cell.parent) (slice_get seen_cells number) ≡ Some (parent_of way.here.path)
  parent_seen =
      let (cell, is, stands) = cell_at value.journal closures (board_of value).kept 0 cells (board_of value).nodes kept_now.stand.nodes number way.here way.is in
      ap (λ (cs : List Cell). option_map (λ (cell : Cell). cell.parent) (slice_get cs number)) cells_are ∙ (ap (option_map (λ (cell : Cell). cell.parent)) is ∙ ap Some stands.parent)

  earlier_seen : (parent : ℕ) → earlier_in seen_cells seen_journal parent number ≡ cases_before (shown instance_of (board_of value).nodes parent) (shown first_child_of (board_of value).nodes parent) number
  earlier_seen parent =
      ap₂ (λ (cs : List Cell) (js : List Event). earlier_in cs js parent number) cells_are (journal_is ∙ ap (λ (one : Search). one.journal) same)
      ∙ ap₂ (λ (i : Option Inst) (f : Option ℕ). cases_before i f number) (instance_kept value cells closures lemmas lemma_nodes tally kept_now parent) (first_child_kept value cells closures lemmas lemma_nodes tally kept_now parent)

  -- a step up
  pub bars_go : number ≢ 0 → (parent : ℕ) → option_map (λ (cell : Cell). cell.parent) (slice_get seen_cells number) ≡ Some parent → (pushed earlier : List Lit) → earlier ≡ earlier_in seen_cells seen_journal parent number → pushed ≡ met ++ earlier
      → IsBarredUpTo (board_of value).nodes start parent pushed × (parent < number)
  bars_go apart parent parent_is pushed earlier earlier_is pushed_is =
      let from = parent_bars (setting_of value) (board_of value) facts_now number way.here way.is apart in
      let same_parent : parent_of way.here.path ≡ parent = same_some (parent_of way.here.path) parent (sym parent_seen ∙ parent_is) in
      let small = from.small in
      let count : min (number - from.first) (length from.inst.conclusions) ≡ number - from.first = omega (arith, small) in
      let own : List Lit = take (number - from.first) from.inst.conclusions in
      let gives : earlier ≡ own =
      earlier_is ∙ (earlier_seen parent
      ∙ (ap (λ one. cases_before (shown instance_of (board_of value).nodes one) (shown first_child_of (board_of value).nodes one) number) (sym same_parent)
      ∙ (ap₂ (λ (i : Option Inst) (f : Option ℕ). cases_before i f number) from.insts from.firsts ∙ ap (λ n. take n from.inst.conclusions) count))) in
      let members : (lit : Lit) → holds way.top.barred lit ≡ (holds from.node.barred lit || holds pushed lit) =
      λ lit. way.same lit
      ∙ (ap (λ bars. holds bars lit || holds met lit) from.barred
      ∙ (ap (λ b. b || holds met lit) (holds-with_lits from.node.barred own lit)
      ∙ (join_or (holds from.node.barred lit) (holds own lit) (holds met lit)
      ∙ ap (λ b. holds from.node.barred lit || b) (sym (ap (λ lits. holds lits lit) (pushed_is ∙ ap (λ lits. met ++ lits) gives) ∙ holds-append met own lit))))) in (
        record {
          top = way.top;
          starts = way.starts;
          here = from.node;
          is = ap (slice_get (board_of value).nodes) (sym same_parent) ∙ from.is;
          rising = λ up. way.rising (ap is_rising from.barred ∙ rising-with_lits from.node.barred own up);
          same = members;
        },
        subst (λ one. one < number) same_parent from.below,
      )

  -- the end, at the root
  pub bars_end : number ≡ 0 → (set : List Lit) → set ≡ set_of met → option_map (λ (node : Node). node.barred) (slice_get (board_of value).nodes start) ≡ Some set
  bars_end zero_is set set_is =
      let none = root_bars (setting_of value) (board_of value) facts_now number way.here way.is zero_is in
      let whole : way.top.barred ≡ set_of met = set_exact met way.top.barred (way.rising (ap is_rising none)) (λ lit. way.same lit ∙ ap (λ bars. holds bars lit || holds met lit) none) in
      ap (option_map (λ (node : Node). node.barred)) way.starts ∙ ap Some (whole ∙ sym set_is)
