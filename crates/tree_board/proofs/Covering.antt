-- Where nothing is left to do, the instances used cover the minimal sets among the leaves.
use Rattle.std.proofs.Common.{◌≡◌, ℕ, zero, suc, Bool, true, false, true≢false, nat_le, is_some, List, [], ◌∷◌, slice_get, Option, Some, None, refl, sym, ap, subst, ◌∙◌, ◌⊎◌, inl, inr}
use Rattle.std.specs.List.{list_any}
use Rattle.mg_word.specs.Sets.{is_part, is_rising, set_of}
use Rattle.mg_word.specs.Facts.{IsProblem}
use Rattle.mg_word.specs.declared.lit.Lit.{Lit}
use Rattle.mg_word.proofs.Members.{or_true, both_false, part_holds, part_from, part_of_part}
use Rattle.mg_word.proofs.RisingLists.{rising-set_of, holds-set_of, parts_same}
use Rattle.mg_meaning.specs.Minimality.{IsMinimal}
use Rattle.mg_meaning.specs.Excluding.{Covers}
use Rattle.mg_meaning.specs.Folding.{Pair}
use Rattle.mg_meaning.proofs.Decided.{minimal_below}
use Rattle.mg_meaning.proofs.Excluded.{passing_parts}
use Rattle.mg_meaning.proofs.Lists.{Among, among_from}
use Rattle.tree_board.specs.declared.mode.BoardState.TheVariants.{Closed, Complete}
use Rattle.tree_board.specs.Boards.{Board, own_of, is_closed, count}
use Rattle.tree_board.specs.Events.{insts_in}
use Rattle.tree_board.specs.Facts.{IsAmong, IsPath, StateHolds, IsBoard}
use Rattle.tree_board.specs.Laws.{PassesAt, PassesLive, IsSetOfFound, PassesUndone}
use Rattle.tree_board.specs.Leaves.{IsFoundSet, ListsMinimalFound}
use Rattle.tree_board.specs.NodeStates.{NodeState, Open, Split, Rejected, Settled, Shut, Found, Covered, Heavy, is_open, is_heavy, is_live}
use Rattle.tree_board.specs.Nodes.{Node}
use Rattle.tree_board.specs.Settings.{Setting}
use Rattle.tree_board.specs.Standing.{some_open, some_heavy, model_of, standing_by, state_of}
use Rattle.tree_board.proofs.Settling.{none_some}
use Rattle.tree_board.proofs.Below.{node_closed}
use Rattle.tree_board.proofs.Living.{passes_live, IncludesFound, covered_parts, minimal_kept, found_satisfies}

-- no node of a list passes a test that none passes
none_any : (test : Node → Bool) (nodes : List Node) → list_any test nodes ≡ false → (number : ℕ) (node : Node) → slice_get nodes number ≡ Some node → test node ≡ false
none_any test [] e number node is = absurd (let bad : ⊥ = cc in bad)
none_any test (first ∷ nodes) e zero node is =
    let same : first ≡ node = same_some first node is in
    ap test (sym same) ∙ (both_false (test first) (list_any test nodes) e).0
  where
    same_some : (x y : Node) → Some x ≡ Some y → x ≡ y
    same_some x y e = cc
none_any test (first ∷ nodes) e (suc number) node is = none_any test nodes (both_false (test first) (list_any test nodes) e).1 number node is

-- in a finished board no node is open and none is heavy
abbrev pub IsFinished : Board → Type 0
IsFinished board = (number : ℕ) (node : Node) → slice_get board.nodes number ≡ Some node → (is_open node.state ≡ false) × (is_heavy node.state ≡ false)

complete_tests : (closed : Bool) (model : Option ℕ) (opened spent heavy : Bool) → standing_by closed model opened spent heavy ≡ Complete → (opened ≡ false) × (heavy ≡ false)
complete_tests true model opened spent heavy e = cc
complete_tests false (Some node) opened spent heavy e = cc
complete_tests false None true true heavy e = cc
complete_tests false None true false heavy e = cc
complete_tests false None false spent true e = cc
complete_tests false None false spent false e = (refl, refl)

closed_tests : (closed : Bool) (model : Option ℕ) (opened spent heavy : Bool) → standing_by closed model opened spent heavy ≡ Closed → closed ≡ true
closed_tests true model opened spent heavy e = refl
closed_tests false (Some node) opened spent heavy e = cc
closed_tests false None true true heavy e = cc
closed_tests false None true false heavy e = cc
closed_tests false None false spent true e = cc
closed_tests false None false spent false e = cc

pub complete_finished : (setting : Setting) (board : Board) → state_of setting board ≡ Complete → IsFinished board
complete_finished setting board e number node is =
    let tests = complete_tests (is_closed board 0) (model_of setting.mode board) (some_open board) (nat_le setting.limits.budget (count board)) (some_heavy board) e in (
      none_any (λ (one : Node). is_open one.state) board.nodes tests.0 number node is,
      none_any (λ (one : Node). is_heavy one.state) board.nodes tests.1 number node is,
    )

-- the root is on each path
pub root_above : (nodes : List Node) (number : ℕ) (above : List ℕ) → IsPath nodes (number ∷ above) → IsAmong (number ∷ above) 0
root_above nodes number [] path = inl path
root_above nodes number (parent ∷ above) path = inr (root_above nodes parent above path.1)

pub closed_some : (own : Option Pair) → is_some own ≡ true → (pair : Pair) × (own ≡ Some pair)
closed_some None e = absurd (true≢false (sym e))
closed_some (Some pair) e = (pair, refl)

-- below a closed root all is closed, so nothing is live
pub closed_none_live : (setting : Setting) (board : Board) → IsBoard setting board → is_closed board 0 ≡ true → (number : ℕ) (node : Node) → slice_get board.nodes number ≡ Some node → is_live node.state ≡ false
closed_none_live setting board facts closed number node is =
    let one = facts.each number node is in
    let (root, own) = closed_some (own_of (slice_get board.nodes 0)) closed in
    let top = subst (λ path. IsAmong path 0) (sym one.path) (root_above board.nodes number one.above (subst (IsPath board.nodes) one.path one.rooted)) in
    let (pair, own_is) = node_closed setting board facts.each number node is 0 top root own in
    by node.state (one.state) pair own_is
  where
    by : (state : NodeState) → StateHolds setting board number node state → (pair : Pair) → node.own ≡ Some pair → is_live state ≡ false
    by Open holds pair own = absurd (none_some pair (sym holds ∙ own))
    by (Split inst first) holds pair own = refl
    by (Rejected inst) holds pair own = refl
    by (Settled lemma) holds pair own = refl
    by (Shut closure) holds pair own = refl
    by Found holds pair own = absurd (none_some pair (sym holds.1 ∙ own))
    by (Covered cover) holds pair own = absurd (none_some pair (sym holds.1 ∙ own))
    by (Heavy inst) holds pair own = absurd (none_some pair (sym holds.2 ∙ own))

not_live_finished : (state : NodeState) → is_live state ≡ false → (is_open state ≡ false) × (is_heavy state ≡ false)
not_live_finished Open e = absurd (true≢false e)
not_live_finished (Split inst first) e = (refl, refl)
not_live_finished (Rejected inst) e = (refl, refl)
not_live_finished (Settled lemma) e = (refl, refl)
not_live_finished (Shut closure) e = (refl, refl)
not_live_finished Found e = (refl, refl)
not_live_finished (Covered by) e = (refl, refl)
not_live_finished (Heavy inst) e = absurd (true≢false e)

pub closed_finished : (setting : Setting) (board : Board) → IsBoard setting board → state_of setting board ≡ Closed → IsFinished board
closed_finished setting board facts e number node is =
    not_live_finished node.state (closed_none_live setting board facts (closed_tests (is_closed board 0) (model_of setting.mode board) (some_open board) (nat_le setting.limits.budget (count board)) (some_heavy board) e) number node is)

-- in a finished board, what passes a live node includes a found set
finished_includes : (setting : Setting) (board : Board) → IsBoard setting board → IsFinished board → (set : List Lit) → PassesLive board set → IncludesFound board set
finished_includes setting board facts finished set live = by live.number live.node live.passing live.node.state refl live.live
  where
    by : (number : ℕ) (node : Node) → PassesAt board set number node → (state : NodeState) → node.state ≡ state → is_live state ≡ true → IncludesFound board set
    by number node passing Open is e = absurd (true≢false (sym (ap is_open is) ∙ (finished number node passing.is).0))
    by number node passing (Heavy inst) is e = absurd (true≢false (sym (ap is_heavy is) ∙ (finished number node passing.is).1))
    by number node passing Found is e = record { number = number; node = node; is = passing.is; found = is; part = (passing_parts set node.lits node.barred passing.passing).0 }
    by number node passing (Covered cover) is e = (covered_parts setting board facts number node cover passing.is is set (passing_parts set node.lits node.barred passing.passing).0).0
    by number node passing (Split inst first) is e = absurd (true≢false (sym e))
    by number node passing (Rejected inst) is e = absurd (true≢false (sym e))
    by number node passing (Settled lemma) is e = absurd (true≢false (sym e))
    by number node passing (Shut closure) is e = absurd (true≢false (sym e))

any_from : (set : List Lit) (sets : List (List Lit)) (one : List Lit) → Among sets one → is_part one set ≡ true → list_any (λ listed. is_part listed set) sets ≡ true
any_from set [] one there part = absurd there
any_from set (first ∷ sets) one (inl same) part = or_true (is_part first set) (list_any (λ listed. is_part listed set) sets) (inl (ap (λ lits. is_part lits set) same ∙ part))
any_from set (first ∷ sets) one (inr later) part = or_true (is_part first set) (list_any (λ listed. is_part listed set) sets) (inr (any_from set sets one later part))

-- in a finished board each minimal rising set is that of a found node
finished_minimal : (setting : Setting) (board : Board) → IsBoard setting board → IsFinished board → (set : List Lit) → is_rising set ≡ true → IsMinimal set setting.problem → IsFoundSet board set
finished_minimal setting board facts finished set rising minimal = by (minimal_kept setting board facts set minimal)
  where
    by : IsSetOfFound board set ⊎ PassesUndone board set → IsFoundSet board set
    by (inl one) = record {
      number = one.number;
      node = one.node;
      is = one.is;
      found = one.found;
      same = parts_same (set_of one.node.lits) set (rising-set_of one.node.lits) rising
          (part_from (set_of one.node.lits) set (λ lit there. part_holds one.node.lits set lit one.there (sym (holds-set_of one.node.lits lit) ∙ there)))
          (part_from set (set_of one.node.lits) (λ lit there. holds-set_of one.node.lits lit ∙ part_holds set one.node.lits lit one.back there));
    }
    by (inr one) = absurd (elim one.undone [
      | inl is ↦ true≢false (sym (ap is_open is) ∙ (finished one.number one.node one.passing.is).0)
      | inr heavy ↦ true≢false (sym (ap is_heavy heavy.1) ∙ (finished one.number one.node one.passing.is).1)
    ])

pub finished_covers : (setting : Setting) (board : Board) → IsProblem setting.problem → IsBoard setting board → IsFinished board → (sets : List (List Lit)) → ListsMinimalFound setting board sets → Covers (insts_in board.journal) sets
finished_covers setting board real facts finished sets lists set free obeying =
    let one = finished_includes setting board facts finished set (passes_live setting board facts set free obeying) in
    let (least, rising, minimal, inside) = minimal_below setting.problem real one.node.lits (found_satisfies setting board facts one.number one.node one.is one.found) in
    let listed = (lists.exact least).1 (finished_minimal setting board facts finished least rising minimal, minimal) in
    any_from set sets least (among_from sets least listed) (part_of_part least one.node.lits set inside one.part)

pub complete_covers : (setting : Setting) (board : Board) → IsProblem setting.problem → IsBoard setting board → (state_of setting board ≡ Complete) ⊎ (state_of setting board ≡ Closed) → (sets : List (List Lit)) → ListsMinimalFound setting board sets → Covers (insts_in board.journal) sets
complete_covers setting board real facts (inl e) = finished_covers setting board real facts (complete_finished setting board e)
complete_covers setting board real facts (inr e) = finished_covers setting board real facts (closed_finished setting board facts e)
