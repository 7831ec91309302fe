-- Split nodes and the plain trees of open ones together: a sum that no event makes greater.
use Rattle.std.proofs.Common.{◌≡◌, ◌≢◌, ℕ, zero, suc, ◌+◌, ◌<◌, ◌≤◌, Bool, true, false, true≢false, ◌&&◌, ◌||◌, nat_eq, List, [], ◌∷◌, ◌++◌, slice_get, slice_set, Option, Some, None, refl, sym, ap, subst, ◌∙◌, inr, arith}
use Rattle.std.specs.List.{list_any}
use Rattle.std.proofs.lemmas.Bool.{eqb-true}
use Rattle.mg_word.specs.Words.{complement_of}
use Rattle.mg_word.specs.Sets.{holds, with_lit}
use Rattle.mg_word.specs.Facts.{ProblemData}
use Rattle.mg_word.specs.declared.lit.Lit.{Lit}
use Rattle.mg_word.specs.declared.form.Inst.{Inst}
use Rattle.mg_word.proofs.Members.{or_true, or_false, never_true}
use Rattle.mg_meaning.specs.PlainTree.{Shapes, none, shut, extends_in, extends_in_all, ArePlain, Plain, child as child_shape}
use Rattle.case_split.specs.Splitting.{closure_by, closure_of}
use Rattle.case_split.specs.declared.child.Closure.{Closure}
use Rattle.tree_board.specs.Children.{state_at_birth, children_of}
use Rattle.tree_board.proofs.Births.{child}
use Rattle.tree_board.specs.NodeStates.{NodeState, Open, Split, Rejected, Settled, Shut, Found, Covered, Heavy, is_split}
use Rattle.tree_board.specs.Nodes.{Node}
use Rattle.tree_board.specs.Splits.{is_below, one_if, splits_below}

-- what a node counts: a split one is one extension, an open one those of its plain tree, and a heavy one must not be
abbrev pub IsPart : ProblemData → ℕ → Node → ℕ → Bool → NodeState → Type 0
IsPart problem weight node own false state = own ≡ 0
IsPart problem weight node own true Open = Plain problem weight node.lits node.barred own
IsPart problem weight node own true (Split inst first) = own ≡ 1
IsPart problem weight node own true (Rejected inst) = own ≡ 0
IsPart problem weight node own true (Settled lemma) = own ≡ 0
IsPart problem weight node own true (Shut closure) = own ≡ 0
IsPart problem weight node own true Found = own ≡ 0
IsPart problem weight node own true (Covered by) = own ≡ 0
IsPart problem weight node own true (Heavy inst) = ⊥

-- the nodes at that one and below it count so many together
abbrev pub IsSum : ProblemData → ℕ → ℕ → List Node → ℕ → Type 0
IsSum problem weight top [] total = total ≡ 0
IsSum problem weight top (node ∷ nodes) total = (own : ℕ) × (rest : ℕ) × (total ≡ own + rest) × IsPart problem weight node own (is_below top node) node.state × IsSum problem weight top nodes rest

-- the part of one node, and the sum where another stands in its place
pub record IsSplitSum (problem : ProblemData) (weight top : ℕ) (nodes : List Node) (number : ℕ) (node : Node) (total : ℕ) : Type 0 where
  pub own : ℕ
  pub rest : ℕ
  pub sum : total ≡ own + rest
  pub part : IsPart problem weight node own (is_below top node) node.state
  pub again : (after : Node) (new : ℕ) → IsPart problem weight after new (is_below top after) after.state → IsSum problem weight top (slice_set nodes number after) (new + rest)

pub sum_at : (problem : ProblemData) (weight top : ℕ) (nodes : List Node) (number : ℕ) (node : Node) (total : ℕ) → slice_get nodes number ≡ Some node → IsSum problem weight top nodes total → IsSplitSum problem weight top nodes number node total
sum_at problem weight top [] number node total at sum = absurd (let bad : ⊥ = cc in bad)
sum_at problem weight top (first ∷ nodes) zero node total at (own, rest, is, part, more) =
    subst (λ one. IsSplitSum problem weight top (first ∷ nodes) zero one total) (same_some first node at) (record {
      own = own;
      rest = rest;
      sum = is;
      part = part;
      again = λ after new fine. (new, rest, refl, fine, more);
    })
  where
    same_some : (x y : Node) → Some x ≡ Some y → x ≡ y
    same_some x y e = cc
sum_at problem weight top (first ∷ nodes) (suc number) node total at (own, rest, is, part, more) =
    let later = sum_at problem weight top nodes number node rest at more in
    record {
      own = later.own;
      rest = own + later.rest;
      sum = omega (arith, is, later.sum);
      part = later.part;
      again = λ after new fine. (own, new + later.rest, omega arith, part, later.again after new fine);
    }

pub sum_append : (problem : ProblemData) (weight top : ℕ) (xs ys : List Node) (a b : ℕ) → IsSum problem weight top xs a → IsSum problem weight top ys b → IsSum problem weight top (xs ++ ys) (a + b)
sum_append problem weight top [] ys a b one two = subst (IsSum problem weight top ys) (let e : b ≡ a + b = omega (arith, one) in e) two
sum_append problem weight top (x ∷ xs) ys a b (own, rest, is, part, more) two = (own, rest + b, omega (arith, is), part, sum_append problem weight top xs ys rest b more two)

-- ---- children

below_parent : (top number : ℕ) (path : List ℕ) → list_any (nat_eq top) path ≡ true → list_any (nat_eq top) (number ∷ path) ≡ true
below_parent top number path e = or_true (nat_eq top number) (list_any (nat_eq top) path) (inr e)

not_below : (top number : ℕ) (path : List ℕ) → top ≢ number → list_any (nat_eq top) path ≡ false → list_any (nat_eq top) (number ∷ path) ≡ false
not_below top number path apart e = or_false (nat_eq top number) (list_any (nat_eq top) path) (never_true (nat_eq top number) (λ same. apart (eqb-true top number same))) e

-- where the children are those of a plain tree, they count its extensions
pub sum_children : (problem : ProblemData) (weight top : ℕ) (path : List ℕ) (lits barred conclusions : List Lit) (shapes : Shapes) (first : ℕ) → list_any (nat_eq top) path ≡ true → ArePlain problem weight lits barred conclusions shapes
    → IsSum problem weight top (children_of first path lits barred conclusions) (extends_in_all shapes)
sum_children problem weight top path lits barred [] none first below plain = refl
sum_children problem weight top path lits barred [] (shut shapes) first below plain = absurd plain
sum_children problem weight top path lits barred [] (child_shape shape shapes) first below plain = absurd plain
sum_children problem weight top path lits barred (lit ∷ more) none first below plain = absurd plain
sum_children problem weight top path lits barred (lit ∷ more) (shut shapes) first below plain =
    let rest = sum_children problem weight top path lits (with_lit barred lit) more shapes (suc first) below plain.1 in
    (0, extends_in_all shapes, omega arith, by (holds lits (complement_of lit)) (holds barred lit) plain.0 (list_any (nat_eq top) (first ∷ path)) (below_parent top first path below), rest)
  where
    by : (held bars : Bool) → (held || bars) ≡ true → (test : Bool) → test ≡ true → IsPart problem weight (child first path lits barred lit) 0 test (state_at_birth (closure_by held bars lit))
    by true bars e true is = refl
    by false true e true is = refl
    by false false e test is = absurd (true≢false (sym e))
    by held bars e false is = refl
sum_children problem weight top path lits barred (lit ∷ more) (child_shape shape shapes) first below plain =
    let rest = sum_children problem weight top path lits (with_lit barred lit) more shapes (suc first) below plain.2 in
    (extends_in shape, extends_in_all shapes, refl, by (holds lits (complement_of lit)) (holds barred lit) plain.0 (list_any (nat_eq top) (first ∷ path)) (below_parent top first path below), rest)
  where
    by : (held bars : Bool) → (held || bars) ≡ false → (test : Bool) → test ≡ true → IsPart problem weight (child first path lits barred lit) (extends_in shape) test (state_at_birth (closure_by held bars lit))
    by true bars e test is = absurd (true≢false e)
    by false true e test is = absurd (true≢false e)
    by false false e true is = (shape, plain.1, refl)
    by false false e false is = absurd (true≢false (sym is))

-- children of a node elsewhere count nothing
pub sum_elsewhere : (problem : ProblemData) (weight top : ℕ) (path : List ℕ) (lits barred conclusions : List Lit) (first : ℕ) → list_any (nat_eq top) path ≡ false → top < first → IsSum problem weight top (children_of first path lits barred conclusions) 0
sum_elsewhere problem weight top path lits barred [] first out early = refl
sum_elsewhere problem weight top path lits barred (lit ∷ more) first out early =
    (0, 0, refl, by (list_any (nat_eq top) (first ∷ path)) (not_below top first path (λ same. absurd (omega (arith, same, early))) out), sum_elsewhere problem weight top path lits (with_lit barred lit) more (suc first) out (omega arith))
  where
    by : (test : Bool) → test ≡ false → IsPart problem weight (child first path lits barred lit) 0 test (state_at_birth (closure_of lits barred lit))
    by false is = refl
    by true is = absurd (true≢false is)

-- nodes none of which is below
pub sum_none : (problem : ProblemData) (weight top : ℕ) (nodes : List Node) → ((k : ℕ) (node : Node) → slice_get nodes k ≡ Some node → is_below top node ≡ false) → IsSum problem weight top nodes 0
sum_none problem weight top [] none_below = refl
sum_none problem weight top (node ∷ nodes) none_below = (0, 0, refl, by (is_below top node) (none_below 0 node refl), sum_none problem weight top nodes (λ k one is. none_below (suc k) one is))
  where
    by : (test : Bool) → test ≡ false → IsPart problem weight node 0 test node.state
    by false is = refl
    by true is = absurd (true≢false is)

-- a child counts what its plain tree has, where it is open, and else nothing
pub child_sum : (problem : ProblemData) (weight : ℕ) (path : List ℕ) (lits barred conclusions : List Lit) (first j : ℕ) (x : Node) → slice_get (children_of first path lits barred conclusions) j ≡ Some x → list_any (nat_eq (first + j)) path ≡ false
    → (extends : ℕ) → Plain problem weight x.lits x.barred extends → (total : ℕ) × IsSum problem weight (first + j) (children_of first path lits barred conclusions) total × (total ≤ extends)
child_sum problem weight path lits barred [] first j x is out extends plain = absurd (let bad : ⊥ = cc in bad)
child_sum problem weight path lits barred (lit ∷ more) first zero x is out extends plain =
    let same : child first path lits barred lit ≡ x = same_some (child first path lits barred lit) x is in
    let own_plain : Plain problem weight (lits ++ lit ∷ []) barred extends = subst (λ (node : Node). Plain problem weight node.lits node.barred extends) (sym same) plain in
    let (one, part, small) = own (closure_of lits barred lit) (list_any (nat_eq (first + 0)) (first ∷ path)) own_plain in
    (one, (one, 0, omega arith, part, rest), small)
  where
    same_some : (x y : Node) → Some x ≡ Some y → x ≡ y
    same_some x y e = cc

    rest : IsSum problem weight (first + 0) (children_of (suc first) path lits (with_lit barred lit) more) 0
    rest = sum_elsewhere problem weight (first + 0) path lits (with_lit barred lit) more (suc first) out (omega arith)

    own : (closure : Option Closure) (test : Bool) → Plain problem weight (lits ++ lit ∷ []) barred extends → (one : ℕ) × IsPart problem weight (child first path lits barred lit) one test (state_at_birth closure) × (one ≤ extends)
    own closure false plain = (0, refl, omega arith)
    own None true plain = (extends, plain, omega arith)
    own (Some closure) true plain = (0, refl, omega arith)
child_sum problem weight path lits barred (lit ∷ more) first (suc j) x is out extends plain =
    let same : suc first + j ≡ first + suc j = omega arith in
    let (total, sum, small) = child_sum problem weight path lits (with_lit barred lit) more (suc first) j x is (ap (λ n. list_any (nat_eq n) path) same ∙ out) extends plain in
    let head : IsPart problem weight (child first path lits barred lit) 0 (list_any (nat_eq (first + suc j)) (first ∷ path)) (state_at_birth (closure_of lits barred lit)) = by (list_any (nat_eq (first + suc j)) (first ∷ path)) (not_below (first + suc j) first path (λ e. absurd (omega (arith, e))) out) in
    (total, (0, total, omega arith, head, subst (λ top. IsSum problem weight top (children_of (suc first) path lits (with_lit barred lit) more) total) same sum), small)
  where
    by : (test : Bool) → test ≡ false → IsPart problem weight (child first path lits barred lit) 0 test (state_at_birth (closure_of lits barred lit))
    by false is = refl
    by true is = absurd (true≢false is)

-- ---- what a sum bounds

and_false : (b : Bool) → (b && false) ≡ false
and_false true = refl
and_false false = refl

-- the split nodes at the node and below it are no more than the sum
pub sum_bounds : (problem : ProblemData) (weight top : ℕ) (nodes : List Node) (total : ℕ) → IsSum problem weight top nodes total → splits_below top nodes ≤ total
sum_bounds problem weight top [] total sum = omega arith
sum_bounds problem weight top (node ∷ nodes) total (own, rest, is, part, more) =
    let later = sum_bounds problem weight top nodes rest more in
    by node.state (is_below top node) part later
  where
    by : (state : NodeState) (below : Bool) → IsPart problem weight node own below state → splits_below top nodes ≤ rest → one_if (is_split state && below) + splits_below top nodes ≤ total
    by state false part later = rw (and_false (is_split state)) (omega (arith, is, part, later))
    by Open true part later = omega (arith, is, later)
    by (Split inst first) true part later = omega (arith, is, part, later)
    by (Rejected inst) true part later = omega (arith, is, part, later)
    by (Settled lemma) true part later = omega (arith, is, part, later)
    by (Shut closure) true part later = omega (arith, is, part, later)
    by Found true part later = omega (arith, is, part, later)
    by (Covered cover) true part later = omega (arith, is, part, later)
    by (Heavy inst) true part later = absurd part

-- with an open node there, whose plain tree has some extensions, they are fewer
pub open_bounds : (problem : ProblemData) (weight top : ℕ) (nodes : List Node) (total : ℕ) → IsSum problem weight top nodes total → (k : ℕ) (node : Node) → slice_get nodes k ≡ Some node → is_below top node ≡ true → node.state ≡ Open
    → ((extends : ℕ) → Plain problem weight node.lits node.barred extends → 0 < extends) → splits_below top nodes < total
open_bounds problem weight top [] total sum k node at below opened some = absurd (let bad : ⊥ = cc in bad)
open_bounds problem weight top (first ∷ nodes) total (own, rest, is, part, more) zero node at below opened some =
    let same : first ≡ node = same_some first node at in
    let later = sum_bounds problem weight top nodes rest more in
    let state : first.state ≡ Open = ap (λ (n : Node). n.state) same ∙ opened in
    let test : is_below top first ≡ true = ap (is_below top) same ∙ below in
    let plain : Plain problem weight first.lits first.barred own = subst (IsPart problem weight first own true) state (subst (λ t. IsPart problem weight first own t first.state) test part) in
    let few : 0 < own = some own (subst (λ (n : Node). Plain problem weight n.lits n.barred own) same plain) in
    let none : one_if (is_split first.state && is_below top first) ≡ 0 = ap (λ s. one_if (is_split s && is_below top first)) state in
    omega (arith, is, few, later, none)
  where
    same_some : (x y : Node) → Some x ≡ Some y → x ≡ y
    same_some x y e = cc
open_bounds problem weight top (first ∷ nodes) total (own, rest, is, part, more) (suc k) node at below opened some =
    let later = open_bounds problem weight top nodes rest more k node at below opened some in
    by first.state (is_below top first) part later
  where
    by : (state : NodeState) (test : Bool) → IsPart problem weight first own test state → splits_below top nodes < rest → one_if (is_split state && test) + splits_below top nodes < total
    by state false part later = rw (and_false (is_split state)) (omega (arith, is, part, later))
    by Open true part later = omega (arith, is, later)
    by (Split inst number) true part later = omega (arith, is, part, later)
    by (Rejected inst) true part later = omega (arith, is, part, later)
    by (Settled lemma) true part later = omega (arith, is, part, later)
    by (Shut closure) true part later = omega (arith, is, part, later)
    by Found true part later = omega (arith, is, part, later)
    by (Covered cover) true part later = omega (arith, is, part, later)
    by (Heavy inst) true part later = absurd part

-- and no heavy node is there
pub no_heavy : (problem : ProblemData) (weight top : ℕ) (nodes : List Node) (total : ℕ) → IsSum problem weight top nodes total → (k : ℕ) (node : Node) (inst : Inst) → slice_get nodes k ≡ Some node → is_below top node ≡ true → node.state ≡ Heavy inst → ⊥
no_heavy problem weight top [] total sum k node inst at below heavy = absurd (let bad : ⊥ = cc in bad)
no_heavy problem weight top (first ∷ nodes) total (own, rest, is, part, more) zero node inst at below heavy =
    let same : first ≡ node = same_some first node at in
    subst (IsPart problem weight first own true) (ap (λ (n : Node). n.state) same ∙ heavy) (subst (λ t. IsPart problem weight first own t first.state) (ap (is_below top) same ∙ below) part)
  where
    same_some : (x y : Node) → Some x ≡ Some y → x ≡ y
    same_some x y e = cc
no_heavy problem weight top (first ∷ nodes) total (own, rest, is, part, more) (suc k) node inst at below heavy = no_heavy problem weight top nodes rest more k node inst at below heavy
