-- The walk without a stack: each of its turns is an equation.
use Rattle.std.proofs.Common.{◌≡◌, ◌≢◌, ℕ, zero, suc, ◌+◌, ◌<◌, ◌≤◌, false, nat_eq, List, [], ◌∷◌, length, slice_get, Option, Some, None, refl, sym, ap, ap₂, ◌∙◌, inl, inr, arith}
use Rattle.std.proofs.lemmas.Bool.{cases_eq, eq-eqb, eqb-true}
use Rattle.mg_word.specs.Facts.{IsProblem}
use Rattle.mg_word.specs.declared.lit.Lit.{Lit}
use Rattle.mg_word.specs.declared.form.Inst.{Inst}
use Rattle.mg_word.proofs.Members.{never_true}
use Rattle.tree_board.specs.Boards.{Board}
use Rattle.tree_board.specs.Facts.{IsBoard}
use Rattle.tree_board.specs.FirstOpen.{first_of, first_among, first_by, first_at, first_open_from}
use Rattle.tree_board.specs.Lawful.{IsReplay}
use Rattle.tree_board.specs.NodeStates.{NodeState, Open, Split, Rejected, Settled, Shut, Found, Covered, Heavy}
use Rattle.tree_board.specs.Nodes.{Node}
use Rattle.tree_board.specs.Settings.{Setting}
use Rattle.tree_board.specs.Turns.{later_by, later_among, later_of, later_at, down, up, WalkTurns}
use Rattle.tree_board.proofs.Places.{within}
use Rattle.tree_board.proofs.Below.{split_at}
use Rattle.tree_board.proofs.Climbing.{child_path}
use Rattle.tree_board.proofs.Replays.{replay_board}

first_of_again : (a b c : Option ℕ) → first_of (first_of a b) c ≡ first_of a (first_of b c)
first_of_again None b c = refl
first_of_again (Some n) b c = refl

same_among : (go other : ℕ → Option ℕ) (first : ℕ) (conclusions : List Lit) → ((number : ℕ) → first ≤ number → number < first + length conclusions → go number ≡ other number) → first_among go first conclusions ≡ first_among other first conclusions
same_among go other first [] same = refl
same_among go other first (lit ∷ more) same = ap₂ first_of (same first (omega arith) (omega arith)) (same_among go other (suc first) more (λ number from below. same number (omega arith) (omega (arith, below))))

apart_test : (a b : ℕ) → a ≢ b → nat_eq a b ≡ false
apart_test a b apart = never_true (nat_eq a b) (λ e. apart (eqb-true a b e))

-- the first child has all others behind it
later_first : (go : ℕ → Option ℕ) (first : ℕ) (lit : Lit) (more : List Lit) → later_among go first (lit ∷ more) first ≡ first_among go (suc first) more
later_first go first lit more = ap (λ test. later_by test (first_among go (suc first) more) (later_among go (suc first) more first)) (eq-eqb first first refl)

-- behind a child stands the next, and what is behind that
later_next : (go : ℕ → Option ℕ) (first : ℕ) (conclusions : List Lit) (number : ℕ) → first ≤ number → suc number < first + length conclusions → later_among go first conclusions number ≡ first_of (go (suc number)) (later_among go first conclusions (suc number))
later_next go first [] number from below = absurd (omega (arith, from, below))
later_next go first (lit ∷ []) number from below = absurd (omega (arith, from, below))
later_next go first (lit ∷ second ∷ more) number from below = elim (cases_eq first number) [
  | inl same ↦
      let here : later_among go first (lit ∷ second ∷ more) number ≡ first_among go (suc first) (second ∷ more) = ap (λ test. later_by test (first_among go (suc first) (second ∷ more)) (later_among go (suc first) (second ∷ more) number)) (eq-eqb first number same) in
      let skip : later_among go first (lit ∷ second ∷ more) (suc number) ≡ later_among go (suc first) (second ∷ more) (suc number) =
      ap (λ test. later_by test (first_among go (suc first) (second ∷ more)) (later_among go (suc first) (second ∷ more) (suc number))) (apart_test first (suc number) (λ e. absurd (omega (arith, e, same)))) in
      let next : later_among go (suc first) (second ∷ more) (suc number) ≡ first_among go (suc (suc first)) more =
      ap (λ test. later_by test (first_among go (suc (suc first)) more) (later_among go (suc (suc first)) more (suc number))) (eq-eqb (suc first) (suc number) (ap suc same)) in
      here ∙ ap₂ first_of (ap (λ n. go (suc n)) same) (sym (skip ∙ next))
  | inr apart ↦
      let one = apart_test first number apart in
      let two = apart_test first (suc number) (λ e. absurd (omega (arith, e, from))) in
      ap (λ test. later_by test (first_among go (suc first) (second ∷ more)) (later_among go (suc first) (second ∷ more) number)) one
      ∙ (later_next go (suc first) (second ∷ more) number (omega (arith, from, apart)) (omega (arith, below))
      ∙ ap (first_of (go (suc number))) (sym (ap (λ test. later_by test (first_among go (suc first) (second ∷ more)) (later_among go (suc first) (second ∷ more) (suc number))) two)))
]

-- behind the last child there is no other
later_last : (go : ℕ → Option ℕ) (first : ℕ) (conclusions : List Lit) (number : ℕ) → first ≤ number → suc number ≡ first + length conclusions → later_among go first conclusions number ≡ None
later_last go first [] number from last = absurd (omega (arith, from, last))
later_last go first (lit ∷ more) number from last = elim (cases_eq first number) [
  | inl same ↦ ap (λ test. later_by test (first_among go (suc first) more) (later_among go (suc first) more number)) (eq-eqb first number same) ∙ none more (omega (arith, same, last))
  | inr apart ↦ ap (λ test. later_by test (first_among go (suc first) more) (later_among go (suc first) more number)) (apart_test first number apart) ∙ later_last go (suc first) more number (omega (arith, from, apart)) (omega (arith, last))
]
  where
    none : (rest : List Lit) → length rest ≡ 0 → first_among go (suc first) rest ≡ None
    none [] e = refl
    none (one ∷ rest) e = absurd (omega (arith, e))

open_one : (nodes : List Node) (fuel number : ℕ) (node : Node) → slice_get nodes number ≡ Some node → first_open_from nodes (suc fuel) number ≡ first_by (λ n. first_open_from nodes fuel n) number node.state
unfolding first_open_from
open_one nodes fuel number node at = ap (first_at (λ n. first_open_from nodes fuel n) number) at

module _ (setting : Setting) (board : Board) (facts : IsBoard setting board) where
  -- more fuel changes nothing
  enough : (f g number : ℕ) → length board.nodes ≤ number + f → length board.nodes ≤ number + g → (node : Node) → slice_get board.nodes number ≡ Some node → first_open_from board.nodes f number ≡ first_open_from board.nodes g number
  unfolding first_open_from
  enough zero g number far further node at = absurd (let small = within board.nodes number node at in omega (arith, far, small))
  enough (suc f) zero number far further node at = absurd (let small = within board.nodes number node at in omega (arith, further, small))
  enough (suc f) (suc g) number far further node at =
      ap (first_at (λ n. first_open_from board.nodes f n) number) at
      ∙ (by node.state refl (λ child later one one_at. enough f g child (omega (arith, far, later)) (omega (arith, further, later)) one one_at)
      ∙ sym (ap (first_at (λ n. first_open_from board.nodes g n) number) at))
    where
      by : (state : NodeState) → node.state ≡ state → ((child : ℕ) → number < child → (one : Node) → slice_get board.nodes child ≡ Some one → first_open_from board.nodes f child ≡ first_open_from board.nodes g child)
          → first_by (λ n. first_open_from board.nodes f n) number state ≡ first_by (λ n. first_open_from board.nodes g n) number state
      by (Split inst first) is go =
          let own = split_at setting board facts.each number node inst first at is in
          same_among (λ n. first_open_from board.nodes f n) (λ n. first_open_from board.nodes g n) first inst.conclusions (λ child from below.
          let (one, one_at, path) = child_path board.nodes first node.path node.lits node.barred inst.conclusions own.children child from below in
          go child (omega (arith, own.later, from)) one one_at)
      by Open is go = refl
      by (Rejected inst) is go = refl
      by (Settled lemma) is go = refl
      by (Shut closure) is go = refl
      by Found is go = refl
      by (Covered cover) is go = refl
      by (Heavy inst) is go = refl

  -- one level of the walk down
  down_is : (number : ℕ) (node : Node) → slice_get board.nodes number ≡ Some node → down board number ≡ first_by (λ n. down board n) number node.state
  down_is number node at = enough (length board.nodes) (suc (length board.nodes)) number (omega arith) (omega arith) node at ∙ opened (length board.nodes)
    where
      opened : (fuel : ℕ) → first_open_from board.nodes (suc fuel) number ≡ first_by (λ n. first_open_from board.nodes fuel n) number node.state
      opened fuel = open_one board.nodes fuel number node at

  pub turns : WalkTurns board
  turns = record {
    found = λ number node at opened. down_is number node at ∙ ap (first_by (λ n. down board n) number) opened;
    to_child = λ number node inst first at state some. by number node inst first at state inst.conclusions refl some;
    childless = λ number node at unopened none. down_is number node at ∙ dead number node.state unopened none;
    to_sibling = λ number parent above node inst first at state from below.
        ap (λ one. first_of one (up board (parent ∷ above))) (later_is number parent node inst first at state ∙ later_next (λ n. down board n) first inst.conclusions number from below)
        ∙ (first_of_again (down board (suc number)) (later_among (λ n. down board n) first inst.conclusions (suc number)) (up board (parent ∷ above))
        ∙ ap (λ one. first_of (down board (suc number)) (first_of one (up board (parent ∷ above)))) (sym (later_is (suc number) parent node inst first at state)));
    to_parent = λ number parent above node inst first at state from last.
        ap (λ one. first_of one (up board (parent ∷ above))) (later_is number parent node inst first at state ∙ later_last (λ n. down board n) first inst.conclusions number from last);
    ended = refl;
  }
    where
      later_is : (number parent : ℕ) (node : Node) (inst : Inst) (first : ℕ) → slice_get board.nodes parent ≡ Some node → node.state ≡ Split inst first → later_at (λ n. down board n) number (slice_get board.nodes parent) ≡ later_among (λ n. down board n) first inst.conclusions number
      later_is number parent node inst first at state = ap (later_at (λ n. down board n) number) at ∙ ap (later_of (λ n. down board n) number) state

      dead : (number : ℕ) (state : NodeState) → state ≢ Open → ((inst : Inst) (first : ℕ) → state ≡ Split inst first → inst.conclusions ≡ []) → first_by (λ n. down board n) number state ≡ None
      dead number Open unopened none = absurd (unopened refl)
      dead number (Split inst first) unopened none = ap (first_among (λ n. down board n) first) (none inst first refl)
      dead number (Rejected inst) unopened none = refl
      dead number (Settled lemma) unopened none = refl
      dead number (Shut closure) unopened none = refl
      dead number Found unopened none = refl
      dead number (Covered cover) unopened none = refl
      dead number (Heavy inst) unopened none = refl

      by : (number : ℕ) (node : Node) (inst : Inst) (first : ℕ) → slice_get board.nodes number ≡ Some node → node.state ≡ Split inst first → (conclusions : List Lit) → inst.conclusions ≡ conclusions → 0 < length inst.conclusions
          → first_of (down board number) (up board node.path) ≡ first_of (down board first) (up board (first ∷ node.path))
      by number node inst first at state [] same some = absurd (let none : length inst.conclusions ≡ 0 = ap length same in omega (arith, some, none))
      by number node inst first at state (lit ∷ more) same some =
          let one = facts.each number node at in
          let here : down board number ≡ first_of (down board first) (first_among (λ n. down board n) (suc first) more) = down_is number node at ∙ (ap (first_by (λ n. down board n) number) state ∙ ap (first_among (λ n. down board n) first) same) in
          let later : later_at (λ n. down board n) first (slice_get board.nodes number) ≡ first_among (λ n. down board n) (suc first) more = later_is first number node inst first at state ∙ (ap (λ list. later_among (λ n. down board n) first list first) same ∙ later_first (λ n. down board n) first lit more) in
          let further : up board (first ∷ node.path) ≡ first_of (first_among (λ n. down board n) (suc first) more) (up board node.path) =
          ap (λ path. up board (first ∷ path)) one.path ∙ (ap (λ x. first_of x (up board (number ∷ one.above))) later ∙ ap (λ path. first_of (first_among (λ n. down board n) (suc first) more) (up board path)) (sym one.path)) in
          ap (λ x. first_of x (up board node.path)) here
          ∙ (first_of_again (down board first) (first_among (λ n. down board n) (suc first) more) (up board node.path) ∙ ap (first_of (down board first)) (sym further))

pub walk_turns : (setting : Setting) (board : Board) → IsProblem setting.problem → IsReplay setting board → WalkTurns board
walk_turns setting board real replay = turns setting board (replay_board setting board real replay)
