-- The literals of a live node are those of a branch.
use Rattle.std.proofs.Common.{◌≡◌, ◌≢◌, ℕ, zero, suc, ◌+◌, ◌<◌, ◌≤◌, true, false, true≢false, not, List, [], ◌∷◌, length, get_or, slice_get, All, AllPairs, Some, sym, ap, subst, ◌∙◌, inl, inr, arith}
use Rattle.std.proofs.lemmas.Bool.{cases_eq}
use Rattle.std.proofs.lemmas.List.{length-append}
use Rattle.mg_word.specs.Facts.{IsProblem}
use Rattle.mg_word.specs.Sets.{holds, with_lit}
use Rattle.mg_word.specs.declared.lit.Lit.{Lit}
use Rattle.mg_word.proofs.Members.{both_true, not_true, holds_first, holds_later}
use Rattle.model_extend.specs.Branches.{AreBranch}
use Rattle.tree_board.specs.declared.board.TheConstants.{MOST_BUDGET, MOST_WEIGHT}
use Rattle.tree_board.specs.Boards.{Board}
use Rattle.tree_board.specs.Facts.{all_different, IsPath, HasChildren, IsBoard}
use Rattle.tree_board.specs.Lawful.{IsReplay}
use Rattle.tree_board.specs.NodeStates.{Open, is_shut}
use Rattle.tree_board.specs.Nodes.{Node}
use Rattle.tree_board.specs.Settings.{Setting}
use Rattle.tree_board.proofs.Below.{split_at}
use Rattle.tree_board.proofs.Budgets.{few_nodes}
use Rattle.tree_board.proofs.Lightness.{literals_light}
use Rattle.tree_board.proofs.Places.{same_some, within}
use Rattle.tree_board.proofs.Replays.{replay_board}

-- ---- how many there are

record HasLonger (nodes : List Node) (number : ℕ) (held : List Lit) : Type 0 where
  pub node : Node
  pub is : slice_get nodes number ≡ Some node
  pub longer : length node.lits ≡ suc (length held)

child_longer : (nodes : List Node) (first : ℕ) (above : List ℕ) (held bars conclusions : List Lit) → HasChildren nodes first above held bars conclusions → (number : ℕ) → first ≤ number → number < first + length conclusions → HasLonger nodes number held
child_longer nodes first above held bars [] children number from below = absurd (omega (arith, from, below))
child_longer nodes first above held bars (lit ∷ more) (child, children) number from below = elim (cases_eq number first) [
  | inl same ↦ record {
    node = child.node;
    is = ap (slice_get nodes) same ∙ child.is;
    longer = let sizes = ap length child.lits ∙ length-append held (lit ∷ []) in omega (arith, sizes);
  }
  | inr apart ↦ child_longer nodes (suc first) above held (with_lit bars lit) more children number (omega (arith, from, apart)) (omega (arith, below))
]

-- no more than its number
lits_few : (setting : Setting) (board : Board) → IsBoard setting board → (number : ℕ) (above : List ℕ) → IsPath board.nodes (number ∷ above) → (node : Node) → slice_get board.nodes number ≡ Some node → length node.lits ≤ number
lits_few setting board facts number [] path node at =
    let (root, root_at, root_path, lits, barred) = facts.root in
    let same : node ≡ root = same_some node root (sym at ∙ (ap (slice_get board.nodes) path ∙ root_at)) in
    let none : length node.lits ≡ 0 = ap (λ (one : Node). length one.lits) same ∙ ap length lits in
    omega (arith, none)
lits_few setting board facts number (parent ∷ above) path node at =
    let child = path.0 in
    let split = split_at setting board facts.each parent child.node child.inst child.first child.is child.state in
    let own = child_longer board.nodes child.first child.node.path child.node.lits child.node.barred child.inst.conclusions split.children number child.from child.below in
    let fewer = lits_few setting board facts parent above path.1 child.node child.is in
    let same : length node.lits ≡ length own.node.lits = ap (λ (one : Node). length one.lits) (same_some node own.node (sym at ∙ own.is)) in
    let longer = own.longer in
    let low = split.later in
    let high = child.from in
    omega (arith, fewer, same, longer, low, high)

-- ---- that they are different

holds_at : (lits : List Lit) (j : ℕ) (d : Lit) → j < length lits → holds lits (get_or lits j d) ≡ true
holds_at [] j d small = absurd (omega (arith, small))
holds_at (lit ∷ lits) zero d small = holds_first lit lits
holds_at (lit ∷ lits) (suc j) d small = holds_later lit lits (get_or lits j d) (holds_at lits j d (omega (arith, small)))

pairs_different : (lits : List Lit) → all_different lits ≡ true → AllPairs (λ a b. a ≢ b) lits
pairs_different [] e i j d less small same = omega (arith, small)
pairs_different (lit ∷ lits) e i zero d less small same = omega (arith, less)
pairs_different (lit ∷ lits) e zero (suc j) d less small same =
    let alone = not_true (holds lits lit) (both_true (not (holds lits lit)) (all_different lits) e).0 in
    true≢false (sym (subst (λ one. holds lits one ≡ true) (sym same) (holds_at lits j d (omega (arith, small)))) ∙ alone)
pairs_different (lit ∷ lits) e (suc i) (suc j) d less small same = pairs_different lits (both_true (not (holds lits lit)) (all_different lits) e).1 i j d (omega (arith, less)) (omega (arith, small)) same

all_within : (limit most : ℕ) (lits : List Lit) → limit ≤ most → All (λ lit. length lit.word ≤ limit) lits → All (λ lit. length lit.word ≤ most) lits
all_within limit most lits small light = λ k d inside. let one = light k d inside in omega (arith, small, one)

pub live_branch : (setting : Setting) (board : Board) → IsProblem setting.problem → IsReplay setting board → setting.limits.budget ≤ MOST_BUDGET → setting.limits.weight ≤ MOST_WEIGHT → (number : ℕ) (node : Node) → slice_get board.nodes number ≡ Some node → is_shut node.state ≡ false → AreBranch setting.problem node.lits
live_branch setting board real replay budget weight number node at unshut =
    let facts = replay_board setting board real replay in
    let own = facts.each number node at in
    let clean = own.clean unshut in
    record {
      different = pairs_different node.lits clean.different;
      clash_free = clean.consistent;
      fitting = own.fitting;
      short = all_within setting.limits.weight 65536 node.lits (omega (arith, weight)) (literals_light setting board real replay number node at);
      few =
          let few = lits_few setting board facts number own.above (subst (IsPath board.nodes) own.path own.rooted) node at in
          let small = within board.nodes number node at in
          let nodes = few_nodes setting board real replay budget in
          omega (arith, few, small, nodes);
    }

pub open_branch : (setting : Setting) (board : Board) → IsProblem setting.problem → IsReplay setting board → setting.limits.budget ≤ MOST_BUDGET → setting.limits.weight ≤ MOST_WEIGHT → (number : ℕ) (node : Node) → slice_get board.nodes number ≡ Some node → node.state ≡ Open → AreBranch setting.problem node.lits
open_branch setting board real replay budget weight number node at opened = live_branch setting board real replay budget weight number node at (ap is_shut opened)
