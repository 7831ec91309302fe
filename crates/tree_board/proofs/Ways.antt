-- The way up from a node gives its literals, last first.
use Rattle.std.proofs.Common.{◌≡◌, ◌+◌, ◌-◌, ◌<◌, ◌≤◌, ◌⊎◌, inl, inr, ℕ, zero, suc, false, nat_eq, nat_lt, List, [], ◌∷◌, ◌++◌, length, reverse, slice_get, Option, Some, None, option_map, refl, sym, ap, ap₂, subst, ◌∙◌, append_assoc, arith}
use Rattle.std.specs.Prelude.{option_and_then}
use Rattle.std.proofs.lemmas.Bool.{cases_eq, cond-true, cond-false, eq-eqb, ne_eqb, le-ltb}
use Rattle.std.proofs.lemmas.List.{append-nil, reverse-append}
use Rattle.std.proofs.lemmas.Option.{slice_get_within}
use Rattle.mg_word.specs.Sets.{with_lit}
use Rattle.mg_word.specs.declared.form.Inst.{Inst}
use Rattle.mg_word.specs.declared.lit.Lit.{Lit}
use Rattle.mg_meaning.specs.Folding.{Pair}
use Rattle.case_split.specs.declared.child.Closure.{Closure}
use Rattle.tree_board.specs.declared.cell.Cell.{Cell}
use Rattle.tree_board.specs.declared.event.Event.{Event}
use Rattle.tree_board.specs.Boards.{Board}
use Rattle.tree_board.specs.Cells.{parent_of}
use Rattle.tree_board.specs.Facts.{HasChildren, IsBoard, IsPath}
use Rattle.tree_board.specs.declared.tally.Tally.{Tally}
use Rattle.tree_board.specs.Keeping.{IsKeeping}
use Rattle.tree_board.specs.Nodes.{Node}
use Rattle.tree_board.specs.Paths.{literal_by}
use Rattle.tree_board.specs.Readers.{case_in, first_child_of, instance_of, literal_from, literal_in, lits_of, shown}
use Rattle.tree_board.specs.Settings.{Setting}
use Rattle.tree_board.specs.Searches.{Search, setting_of, board_of}
use Rattle.tree_board.proofs.Below.{split_at}
use Rattle.tree_board.proofs.Kept.{board_kept, cell_at, nodes_kept}
use Rattle.tree_board.proofs.Places.{same_some}
use Rattle.tree_board.proofs.Shown.{first_child_kept, instance_kept}

-- from the start up to this node, these literals were met
pub record IsOnWay (nodes : List Node) (start number : ℕ) (back : List Lit) : Type 0 where
  pub here : Node
  pub is : slice_get nodes number ≡ Some here
  pub lits : lits_of nodes start ≡ Some (here.lits ++ reverse back)

some_at : {X : Type 0} (xs : List X) (index : ℕ) → index < length xs → (x : X) × (slice_get xs index ≡ Some x)
some_at [] index small = absurd (omega (arith, small))
some_at (x ∷ xs) zero small = (x, refl)
some_at (x ∷ xs) (suc index) small = some_at xs index (omega (arith, small))

pub way_starts : (nodes : List Node) (start : ℕ) → start < length nodes → IsOnWay nodes start start []
way_starts nodes start small =
    let (here, is) = some_at nodes start small in
    record { here = here; is = is; lits = ap (option_map (λ (node : Node). node.lits)) is ∙ ap Some (sym (append-nil here.lits)) }

pub way_within : (nodes : List Node) (start number : ℕ) (back : List Lit) → IsOnWay nodes start number back → number < length nodes
way_within nodes start number back way = slice_get_within nodes number way.here way.is

-- the child for a conclusion
record IsCase (nodes : List Node) (first number : ℕ) (held conclusions : List Lit) : Type 0 where
  pub lit : Lit
  pub node : Node
  pub is : slice_get nodes number ≡ Some node
  pub lits : node.lits ≡ held ++ lit ∷ []
  pub gives : slice_get conclusions (number - first) ≡ Some lit

case_of : (nodes : List Node) (first : ℕ) (above : List ℕ) (held bars conclusions : List Lit) → HasChildren nodes first above held bars conclusions → (number : ℕ) → first ≤ number → number < first + length conclusions → IsCase nodes first number held conclusions
case_of nodes first above held bars [] children number from below = absurd (omega (arith, from, below))
case_of nodes first above held bars (lit ∷ more) (child, children) number from below = elim (cases_eq number first) [
  | inl same ↦
      let none : number - first ≡ 0 = omega (arith, same) in
      record {
        lit = lit;
        node = child.node;
        is = ap (slice_get nodes) same ∙ child.is;
        lits = child.lits;
        gives = ap (slice_get (lit ∷ more)) none;
      }
  | inr apart ↦
      let rest = case_of nodes (suc first) above held (with_lit bars lit) more children number (omega (arith, from, apart)) (omega (arith, below)) in
      let place : number - first ≡ suc (number - suc first) = omega (arith, from, apart) in
      record {
        lit = rest.lit;
        node = rest.node;
        is = rest.is;
        lits = rest.lits;
        gives = ap (slice_get (lit ∷ more)) place ∙ rest.gives;
      }
]

-- a node that its parent's event made
pub record ComesFrom (nodes : List Node) (number parent : ℕ) (here : Node) : Type 0 where
  pub node : Node
  pub is : slice_get nodes parent ≡ Some node
  pub below : parent < number
  pub lit : Lit
  pub lits : here.lits ≡ node.lits ++ lit ∷ []
  pub gives : literal_by nodes number parent ≡ Some lit

-- the root, or one that comes from its parent
pub origin : (setting : Setting) (board : Board) → IsBoard setting board → (number : ℕ) (here : Node) → slice_get board.nodes number ≡ Some here
    → ((number ≡ 0) × (here.lits ≡ [])) ⊎ ComesFrom board.nodes number (parent_of here.path) here
origin setting board facts number here at = let own = facts.each number here at in by own.above own.path (subst (IsPath board.nodes) own.path own.rooted)
  where
    by : (above : List ℕ) → here.path ≡ number ∷ above → IsPath board.nodes (number ∷ above) → ((number ≡ 0) × (here.lits ≡ [])) ⊎ ComesFrom board.nodes number (parent_of here.path) here
    by [] path zero_is =
        let (root, root_at, root_path, lits, barred) = facts.root in
        let same : here ≡ root = same_some here root (sym at ∙ (ap (slice_get board.nodes) zero_is ∙ root_at)) in
        inl (zero_is, ap (λ (node : Node). node.lits) same ∙ lits)
    by (parent ∷ above) path rooted =
        let child = rooted.0 in
        let split = split_at setting board facts.each parent child.node child.inst child.first child.is child.state in
        let own = case_of board.nodes child.first child.node.path child.node.lits child.node.barred child.inst.conclusions split.children number child.from child.below in
        let firsts : shown first_child_of board.nodes parent ≡ Some child.first = ap (option_and_then (λ (node : Node). first_child_of node.state)) child.is ∙ ap first_child_of child.state in
        let insts : shown instance_of board.nodes parent ≡ Some child.inst = ap (option_and_then (λ (node : Node). instance_of node.state)) child.is ∙ ap instance_of child.state in
        let gives : literal_by board.nodes number parent ≡ Some own.lit =
        ap₂ (λ (f : Option ℕ) (i : Option Inst). option_and_then (λ first. option_and_then (λ (inst : Inst). case_in inst first number) i) f) firsts insts
        ∙ (cond-false (nat_lt number child.first) None (slice_get child.inst.conclusions (number - child.first)) (le-ltb number child.first child.from) ∙ own.gives) in
        inr (subst (λ one. ComesFrom board.nodes number one here) (sym (ap parent_of path)) (record {
          node = child.node;
          is = child.is;
          below = (let low = split.later in let high = child.from in omega (arith, low, high));
          lit = own.lit;
          lits = ap (λ (node : Node). node.lits) (same_some here own.node (sym at ∙ own.is)) ∙ own.lits;
          gives = gives;
        }))

module _ (search : Search) (cells : List Cell) (closures : List Closure) (lemmas : List Pair) (lemma_nodes : List ℕ) (tally : Tally) (keeping : IsKeeping search cells closures lemmas lemma_nodes tally) where
  pub literal_is : (number : ℕ) (here : Node) → slice_get (board_of search).nodes number ≡ Some here
      → option_and_then (λ (cell : Cell). literal_from cells search.journal number cell.parent) (slice_get cells number) ≡ literal_by (board_of search).nodes number (parent_of here.path)
  literal_is number here at =
      let (cell, is, stands) = cell_at search.journal closures (board_of search).kept 0 cells (board_of search).nodes keeping.stand.nodes number here at in
      ap (option_and_then (λ (cell : Cell). literal_from cells search.journal number cell.parent)) is
      ∙ (ap₂ (λ (f : Option ℕ) (i : Option Inst). option_and_then (λ first. option_and_then (λ (inst : Inst). case_in inst first number) i) f)
      (first_child_kept search cells closures lemmas lemma_nodes tally keeping cell.parent)
      (instance_kept search cells closures lemmas lemma_nodes tally keeping cell.parent)
      ∙ ap (literal_by (board_of search).nodes number) stands.parent)

  pub parent_is : (number : ℕ) (here : Node) → slice_get (board_of search).nodes number ≡ Some here → option_map (λ (cell : Cell). cell.parent) (slice_get cells number) ≡ Some (parent_of here.path)
  parent_is number here at =
      let (cell, is, stands) = cell_at search.journal closures (board_of search).kept 0 cells (board_of search).nodes keeping.stand.nodes number here at in
      ap (option_map (λ (cell : Cell). cell.parent)) is ∙ ap Some stands.parent

  -- a step up
  pub way_goes : (start number : ℕ) (back : List Lit) → IsOnWay (board_of search).nodes start number back → (lit : Lit) → Some lit ≡ literal_in cells search.journal number → (next : ℕ) → option_map (λ (cell : Cell). cell.parent) (slice_get cells number) ≡ Some next
      → IsOnWay (board_of search).nodes start next (back ++ lit ∷ []) × (next < number)
  way_goes start number back way lit given next parent = by (origin (setting_of search) (board_of search) (board_kept search cells closures lemmas lemma_nodes tally keeping) number way.here way.is)
    where
      by : ((number ≡ 0) × (way.here.lits ≡ [])) ⊎ ComesFrom (board_of search).nodes number (parent_of way.here.path) way.here → IsOnWay (board_of search).nodes start next (back ++ lit ∷ []) × (next < number)
      by (inl root) =
          let none : Some lit ≡ None = given ∙ cond-true (nat_eq number 0) None (option_and_then (λ (cell : Cell). literal_from cells search.journal number cell.parent) (slice_get cells number)) (eq-eqb number 0 root.0) in
          absurd (let bad : ⊥ = cc in bad)
      by (inr from) =
          let low = from.below in
          let apart : nat_eq number 0 ≡ false = ne_eqb number 0 (λ e. let bad : ⊥ = omega (arith, e, low) in bad) in
          let own : Some lit ≡ Some from.lit =
          given ∙ (cond-false (nat_eq number 0) None (option_and_then (λ (cell : Cell). literal_from cells search.journal number cell.parent) (slice_get cells number)) apart
          ∙ (literal_is number way.here way.is ∙ from.gives)) in
          let same_lit : from.lit ≡ lit = sym (same_some lit from.lit own) in
          let same : parent_of way.here.path ≡ next = same_some (parent_of way.here.path) next (sym (parent_is number way.here way.is) ∙ parent) in
          let there : slice_get (board_of search).nodes next ≡ Some from.node = ap (slice_get (board_of search).nodes) (sym same) ∙ from.is in
          let lits : way.here.lits ++ reverse back ≡ from.node.lits ++ reverse (back ++ lit ∷ []) =
          ap (λ held. held ++ reverse back) (from.lits ∙ ap (λ one. from.node.lits ++ one ∷ []) same_lit)
          ∙ (append_assoc from.node.lits (lit ∷ []) (reverse back) ∙ ap (λ rest. from.node.lits ++ rest) (sym (reverse-append back (lit ∷ [])))) in
          (record { here = from.node; is = there; lits = way.lits ∙ ap Some lits }, subst (λ one. one < number) same low)

  -- the end, at the root
  pub way_ends : (start number : ℕ) (back : List Lit) → IsOnWay (board_of search).nodes start number back → None ≡ literal_in cells search.journal number → lits_of (board_of search).nodes start ≡ Some (reverse back)
  way_ends start number back way given = by (origin (setting_of search) (board_of search) (board_kept search cells closures lemmas lemma_nodes tally keeping) number way.here way.is)
    where
      by : ((number ≡ 0) × (way.here.lits ≡ [])) ⊎ ComesFrom (board_of search).nodes number (parent_of way.here.path) way.here → lits_of (board_of search).nodes start ≡ Some (reverse back)
      by (inl root) = way.lits ∙ ap (λ held. Some (held ++ reverse back)) root.1
      by (inr from) =
          let low = from.below in
          let apart : nat_eq number 0 ≡ false = ne_eqb number 0 (λ e. let bad : ⊥ = omega (arith, e, low) in bad) in
          let own : None ≡ Some from.lit =
          given ∙ (cond-false (nat_eq number 0) None (option_and_then (λ (cell : Cell). literal_from cells search.journal number cell.parent) (slice_get cells number)) apart
          ∙ (literal_is number way.here way.is ∙ from.gives)) in
          absurd (let bad : ⊥ = cc in bad)

-- ---- the same of slices that show the fields, and of the search that callers see

module _ (search value : Search) (same : search ≡ value) (cells seen_cells : List Cell) (closures : List Closure) (lemmas : List Pair) (lemma_nodes : List ℕ) (tally : Tally) (keeping : IsKeeping search cells closures lemmas lemma_nodes tally)
    (seen_journal : List Event) (cells_are : seen_cells ≡ cells) (journal_is : seen_journal ≡ search.journal) where
  kept_now : IsKeeping value cells closures lemmas lemma_nodes tally
  kept_now = subst (λ one. IsKeeping one cells closures lemmas lemma_nodes tally) same keeping

  literal_seen : (number : ℕ) → literal_in seen_cells seen_journal number ≡ literal_in cells value.journal number
  literal_seen number = ap₂ (λ (cs : List Cell) (js : List Event). literal_in cs js number) cells_are (journal_is ∙ ap (λ (one : Search). one.journal) same)

  pub seen_within : (start number : ℕ) (back : List Lit) → IsOnWay (board_of value).nodes start number back → number < length seen_cells
  seen_within start number back way =
      let small = way_within (board_of value).nodes start number back way in
      let sizes = nodes_kept value cells closures lemmas lemma_nodes tally kept_now in
      let shown_size = ap length cells_are in
      omega (arith, small, sizes, shown_size)

  pub seen_goes : (start number : ℕ) (back : List Lit) → IsOnWay (board_of value).nodes start number back → (lit : Lit) → Some lit ≡ literal_in seen_cells seen_journal number → (next : ℕ) → option_map (λ (cell : Cell). cell.parent) (slice_get seen_cells number) ≡ Some next
      → (copy : Lit) → copy ≡ lit → (pushed : List Lit) → pushed ≡ back ++ copy ∷ [] → IsOnWay (board_of value).nodes start next pushed × (next < number)
  seen_goes start number back way lit given next parent copy copy_is pushed pushed_is =
      let goes = way_goes value cells closures lemmas lemma_nodes tally kept_now start number back way lit (given ∙ literal_seen number) next (ap (λ (cs : List Cell). option_map (λ (cell : Cell). cell.parent) (slice_get cs number)) (sym cells_are) ∙ parent) in
      (subst (IsOnWay (board_of value).nodes start next) (sym (pushed_is ∙ ap (λ one. back ++ one ∷ []) copy_is)) goes.0, goes.1)

  pub seen_ends : (start number : ℕ) (back : List Lit) → IsOnWay (board_of value).nodes start number back → None ≡ literal_in seen_cells seen_journal number → (turned : List Lit) → turned ≡ reverse back → lits_of (board_of value).nodes start ≡ Some turned
  seen_ends start number back way given turned turned_is = way_ends value cells closures lemmas lemma_nodes tally kept_now start number back way (given ∙ literal_seen number) ∙ ap Some (sym turned_is)
