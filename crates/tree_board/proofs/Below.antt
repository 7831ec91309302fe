-- What lies below a closed node is closed, and nothing lies below an open one.
use Rattle.std.proofs.Common.{◌≡◌, ◌≢◌, ℕ, zero, suc, ◌+◌, ◌<◌, ◌≤◌, true, List, [], ◌∷◌, ◌++◌, length, slice_get, Some, None, refl, sym, ap, subst, ◌∙◌, inl, inr, arith}
use Rattle.std.proofs.lemmas.Bool.{cases_eq}
use Rattle.mg_word.specs.Sets.{holds, is_part, meets, with_lit}
use Rattle.mg_word.specs.declared.lit.Lit.{Lit}
use Rattle.mg_word.specs.declared.form.Inst.{Inst}
use Rattle.mg_word.proofs.Members.{meets_at, part_of_itself, part_of_part, part_holds, part_from}
use Rattle.mg_meaning.specs.Folding.{Pair}
use Rattle.case_split.specs.Splitting.{closure_of}
use Rattle.tree_board.specs.Boards.{Board, own_of}
use Rattle.tree_board.specs.Children.{state_at_birth, children_of}
use Rattle.tree_board.proofs.Births.{child}
use Rattle.tree_board.specs.Closings.{pairs_at}
use Rattle.tree_board.specs.Facts.{IsAmong, IsPath, IsSplit, StateHolds, IsSound}
use Rattle.tree_board.specs.NodeStates.{Open, Split, Settled}
use Rattle.tree_board.specs.Nodes.{Node}
use Rattle.tree_board.specs.Settings.{Setting}
use Rattle.tree_board.proofs.Places.{same_some}
use Rattle.tree_board.proofs.Growth.{cons_pair_parts, not_split}
use Rattle.tree_board.proofs.Cleaning.{barred_held, barred_kept, new_is_held}

-- where each child has a lemma, so has each of them
pub pairs_own : (nodes : List Node) (first : ℕ) (conclusions : List Lit) (pairs : List Pair) → pairs_at nodes first conclusions ≡ Some pairs → (number : ℕ) → first ≤ number → number < first + length conclusions → (pair : Pair) × (own_of (slice_get nodes number) ≡ Some pair)
pairs_own nodes first [] pairs e number from below = absurd (omega (arith, from, below))
pairs_own nodes first (lit ∷ more) pairs e number from below =
    let parts = cons_pair_parts (own_of (slice_get nodes first)) (pairs_at nodes (suc first) more) pairs e in
    elim (cases_eq number first) [
      | inl same ↦ (parts.0, ap (λ at. own_of (slice_get nodes at)) same ∙ parts.2)
      | inr apart ↦ pairs_own nodes (suc first) more parts.1 parts.3 number (omega (arith, from, apart)) (omega (arith, below))
    ]

module _ (setting : Setting) (board : Board) (each : (number : ℕ) (node : Node) → slice_get board.nodes number ≡ Some node → IsSound setting board number node) where
  -- what is split is so by its instance
  pub split_at : (number : ℕ) (node : Node) (inst : Inst) (first : ℕ) → slice_get board.nodes number ≡ Some node → node.state ≡ Split inst first → IsSplit setting board number node inst first
  split_at number node inst first is state = subst (StateHolds setting board number node) state (each number node is).state

  -- up a path, what is closed has the rest of the path closed below it
  pub closed_below : (number : ℕ) (above : List ℕ) → IsPath board.nodes (number ∷ above) → (top : ℕ) → IsAmong (number ∷ above) top → (pair : Pair) → own_of (slice_get board.nodes top) ≡ Some pair → (own : Pair) × (own_of (slice_get board.nodes number) ≡ Some own)
  closed_below number above path top (inl same) pair is = (pair, ap (λ at. own_of (slice_get board.nodes at)) same ∙ is)
  closed_below number [] path top (inr bad) pair is = absurd bad
  closed_below number (parent ∷ above) path top (inr there) pair is =
      let up = closed_below parent above path.1 top there pair is in
      let child = path.0 in
      let closed : child.node.own ≡ Some up.0 = ap own_of (sym child.is) ∙ up.1 in
      let folds = (split_at parent child.node child.inst child.first child.is child.state).folded up.0 closed in
      pairs_own board.nodes child.first child.inst.conclusions folds.0 folds.1 number child.from child.below

  -- all above a node is split
  pub split_above : (number : ℕ) (above : List ℕ) → IsPath board.nodes (number ∷ above) → (top : ℕ) → IsAmong above top → (node : Node) × (inst : Inst) × (first : ℕ) × (slice_get board.nodes top ≡ Some node) × (node.state ≡ Split inst first)
  split_above number [] path top bad = absurd bad
  split_above number (parent ∷ above) path top (inl same) = (path.0.node, path.0.inst, path.0.first, ap (slice_get board.nodes) (sym same) ∙ path.0.is, path.0.state)
  split_above number (parent ∷ above) path top (inr later) = split_above parent above path.1 top later

  -- a node's path, and the lemma of what is above it
  pub node_closed : (number : ℕ) (node : Node) → slice_get board.nodes number ≡ Some node → (top : ℕ) → IsAmong node.path top → (pair : Pair) → own_of (slice_get board.nodes top) ≡ Some pair → (own : Pair) × (node.own ≡ Some own)
  node_closed number node is top there pair closed =
      let one = each number node is in
      let found = closed_below number one.above (subst (IsPath board.nodes) one.path one.rooted) top (subst (λ path. IsAmong path top) one.path there) pair closed in
      (found.0, ap own_of (sym is) ∙ found.1)

  -- an open node is above no other
  pub open_above_none : (number : ℕ) (node : Node) → slice_get board.nodes number ≡ Some node → (top : ℕ) (other : Node) → slice_get board.nodes top ≡ Some other → other.state ≡ Open → number ≢ top → IsAmong node.path top → ⊥
  open_above_none number node is top other at opened apart there =
      let one = each number node is in
      elim (subst (λ path. IsAmong path top) one.path there) [
        | inl same ↦ apart same
        | inr later ↦
            let (parent, inst, first, found, state) = split_above number one.above (subst (IsPath board.nodes) one.path one.rooted) top later in
            let same : parent ≡ other = same_some parent other (sym found ∙ at) in
            not_split inst first parent.state state (ap (λ (n : Node). n.state) same ∙ opened)
      ]

-- ---- children as they are born

-- what is known of a child
pub record IsBorn (first : ℕ) (above : List ℕ) (held bars : List Lit) (j : ℕ) (x : Node) : Type 0 where
  pub lit : Lit
  pub path : x.path ≡ (first + j) ∷ above
  pub lits : x.lits ≡ held ++ lit ∷ []
  pub wider : is_part bars x.barred ≡ true
  pub state : (closure : _) × (x.state ≡ state_at_birth closure)

pub born_parts : (first : ℕ) (above : List ℕ) (held bars conclusions : List Lit) (j : ℕ) (x : Node) → slice_get (children_of first above held bars conclusions) j ≡ Some x → IsBorn first above held bars j x
born_parts first above held bars [] j x is = cc
born_parts first above held bars (lit ∷ more) zero x is =
    let same : child first above held bars lit ≡ x = same_some (child first above held bars lit) x is in
    subst (IsBorn first above held bars 0) same (record { lit = lit; path = ap (λ n. n ∷ above) (let e : first ≡ first + 0 = omega arith in e); lits = refl; wider = part_of_itself bars; state = (closure_of held bars lit, refl) })
born_parts first above held bars (lit ∷ more) (suc j) x is =
    let rest = born_parts (suc first) above held (with_lit bars lit) more j x is in
    record {
      lit = rest.lit;
      path = rest.path ∙ ap (λ n. n ∷ above) (let e : suc first + j ≡ first + suc j = omega arith in e);
      lits = rest.lits;
      wider = part_of_part bars (with_lit bars lit) x.barred (part_from bars (with_lit bars lit) (λ held there. barred_kept bars lit held there)) rest.wider;
      state = rest.state;
    }

-- a later child bars what an earlier one holds
pub siblings : (first : ℕ) (above : List ℕ) (held bars conclusions : List Lit) (i j : ℕ) (x y : Node) → i < j → slice_get (children_of first above held bars conclusions) i ≡ Some x → slice_get (children_of first above held bars conclusions) j ≡ Some y → meets x.lits y.barred ≡ true
siblings first above held bars [] i j x y less one two = cc
siblings first above held bars (lit ∷ more) i zero x y less one two = absurd (omega (arith, less))
siblings first above held bars (lit ∷ more) zero (suc j) x y less one two =
    let same : child first above held bars lit ≡ x = same_some (child first above held bars lit) x one in
    let rest = born_parts (suc first) above held (with_lit bars lit) more j y two in
    let own : holds x.lits lit ≡ true = subst (λ (n : Node). holds n.lits lit ≡ true) same (new_is_held held lit) in
    meets_at x.lits y.barred lit own (part_holds (with_lit bars lit) y.barred lit rest.wider (barred_held bars lit))
siblings first above held bars (lit ∷ more) (suc i) (suc j) x y less one two = siblings (suc first) above held (with_lit bars lit) more i j x y (omega (arith, less)) one two

-- a state of a child is no lemma's
pub state_by_not_settled : (closure : _) (lemma : ℕ) → state_at_birth closure ≡ Settled lemma → ⊥
state_by_not_settled None lemma e = cc
state_by_not_settled (Some closure) lemma e = cc
