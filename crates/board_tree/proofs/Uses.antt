-- Where the used lemmas stand, by their new numbers.
use Rattle.std.proofs.Common.{◌≡◌, ℕ, zero, suc, ◌+◌, ◌-◌, ◌<◌, ◌≤◌, Bool, true, false, if◌then◌else◌, List, [], ◌∷◌, slice_get, Some, refl, sym, ap, subst, ◌∙◌, inl, inr, arith}
use Rattle.std.proofs.lemmas.Bool.{eq-eqb}
use Rattle.mg_word.proofs.Members.{or_true}
use Rattle.tree_board.specs.Boards.{Kept}
use Rattle.tree_board.specs.NodeStates.{Settled}
use Rattle.tree_board.specs.Nodes.{Node}
use Rattle.tree_board.specs.Readers.{lemma_by}
use Rattle.tree_board.specs.Splits.{one_if}
use Rattle.tree_board.proofs.Places.{same_some}
use Rattle.board_tree.specs.Used.{is_number, is_used, new_number, used_from}

-- the lemma that settled a node is a used one
pub settled_used : (nodes : List Node) (number : ℕ) (node : Node) (lemma : ℕ) → slice_get nodes number ≡ Some node → node.state ≡ Settled lemma → is_used nodes lemma ≡ true
settled_used [] number node lemma at state = absurd (let bad : ⊥ = cc in bad)
settled_used (first ∷ nodes) zero node lemma at state =
    let here : lemma_by first.state ≡ Some lemma = ap lemma_by (ap (λ (one : Node). one.state) (same_some first node at) ∙ state) in
    or_true (is_number lemma (lemma_by first.state)) (is_used nodes lemma) (inl (ap (is_number lemma) here ∙ eq-eqb lemma lemma refl))
settled_used (first ∷ nodes) (suc number) node lemma at state =
    or_true (is_number lemma (lemma_by first.state)) (is_used nodes lemma) (inr (settled_used nodes number node lemma at state))

-- new numbers do not fall
one_more : (nodes : List Node) (lemma : ℕ) → new_number nodes lemma ≤ new_number nodes (suc lemma)
one_more nodes lemma = by (is_used nodes (suc lemma))
  where
    by : (test : Bool) → new_number nodes lemma ≤ one_if test + new_number nodes lemma
    by true = omega arith
    by false = omega arith

new_number_grows : (nodes : List Node) (distance lower upper : ℕ) → upper ≡ lower + distance → new_number nodes lower ≤ new_number nodes upper
new_number_grows nodes zero lower upper is =
    let same : lower ≡ upper = omega (arith, is) in
    subst (λ lemma. new_number nodes lower ≤ new_number nodes lemma) same (omega arith)
new_number_grows nodes (suc distance) lower zero is = absurd (omega (arith, is))
new_number_grows nodes (suc distance) lower (suc upper) is =
    let below = new_number_grows nodes distance lower upper (omega (arith, is)) in
    let last = one_more nodes upper in
    omega (arith, below, last)

-- a lemma adds one where it is used, and else nothing
used_next : (nodes : List Node) (lemma : ℕ) → is_used nodes (suc lemma) ≡ true → new_number nodes (suc lemma) ≡ suc (new_number nodes lemma)
used_next nodes lemma used =
    let one : one_if true + new_number nodes lemma ≡ suc (new_number nodes lemma) = omega arith in
    ap (λ test. one_if test + new_number nodes lemma) used ∙ one

unused_next : (nodes : List Node) (lemma : ℕ) → is_used nodes (suc lemma) ≡ false → new_number nodes (suc lemma) ≡ new_number nodes lemma
unused_next nodes lemma unused =
    let none : one_if false + new_number nodes lemma ≡ new_number nodes lemma = omega arith in
    ap (λ test. one_if test + new_number nodes lemma) unused ∙ none

-- a used lemma with a greater number has a greater new number
pub new_number_rises : (nodes : List Node) (lower upper : ℕ) → lower < upper → is_used nodes upper ≡ true → new_number nodes lower < new_number nodes upper
new_number_rises nodes lower zero less used = absurd (omega (arith, less))
new_number_rises nodes lower (suc upper) less used =
    let grows = new_number_grows nodes (upper - lower) lower upper (omega (arith, less)) in
    let next = used_next nodes upper used in
    omega (arith, grows, next)

-- of kept lemmas that are numbered behind that one: this one has that number and is used, and it stands there among the used ones
pub record StandsUsed (nodes : List Node) (start : ℕ) (kept : List Kept) (lemma : ℕ) (one : Kept) : Type 0 where
  pub place : ℕ
  pub is : slice_get (used_from nodes (suc start) kept) place ≡ Some one
  pub number : new_number nodes lemma ≡ suc place + new_number nodes start

pub used_stands : (nodes : List Node) (start : ℕ) (kept : List Kept) (lemma distance : ℕ) (one : Kept) → lemma ≡ suc start + distance → slice_get kept distance ≡ Some one → is_used nodes lemma ≡ true → StandsUsed nodes start kept lemma one
used_stands nodes start [] lemma distance one far at used = absurd (let bad : ⊥ = cc in bad)
used_stands nodes start (first ∷ kept) lemma zero one far at used =
    let here : suc start ≡ lemma = omega (arith, far) in
    let test : is_used nodes (suc start) ≡ true = ap (is_used nodes) here ∙ used in
    record {
      place = 0;
      is = ap (λ b. slice_get (if b then first ∷ used_from nodes (suc (suc start)) kept else used_from nodes (suc (suc start)) kept) 0) test ∙ at;
      number = ap (new_number nodes) (sym here) ∙ used_next nodes start test ∙ (let e : suc (new_number nodes start) ≡ 1 + new_number nodes start = omega arith in e);
    }
used_stands nodes start (first ∷ kept) lemma (suc distance) one far at used =
    let later = used_stands nodes (suc start) kept lemma distance one (omega (arith, far)) at used in
    by (is_used nodes (suc start)) refl later
  where
    by : (test : Bool) → is_used nodes (suc start) ≡ test → StandsUsed nodes (suc start) kept lemma one → StandsUsed nodes start (first ∷ kept) lemma one
    by true test later =
        let next = used_next nodes start test in
        record {
          place = suc later.place;
          is = ap (λ b. slice_get (if b then first ∷ used_from nodes (suc (suc start)) kept else used_from nodes (suc (suc start)) kept) (suc later.place)) test ∙ later.is;
          number = omega (arith, next, later.number);
        }
    by false test later =
        let next = unused_next nodes start test in
        record {
          place = later.place;
          is = ap (λ b. slice_get (if b then first ∷ used_from nodes (suc (suc start)) kept else used_from nodes (suc (suc start)) kept) later.place) test ∙ later.is;
          number = omega (arith, next, later.number);
        }

-- what stands at a place among the used ones: a kept lemma that is used
pub record ComesFrom (nodes : List Node) (start : ℕ) (kept : List Kept) (place : ℕ) (one : Kept) : Type 0 where
  pub distance : ℕ
  pub at : slice_get kept distance ≡ Some one
  pub used : is_used nodes (suc start + distance) ≡ true
  pub number : new_number nodes (suc start + distance) ≡ suc place + new_number nodes start

pub used_comes : (nodes : List Node) (start : ℕ) (kept : List Kept) (place : ℕ) (one : Kept) → slice_get (used_from nodes (suc start) kept) place ≡ Some one → ComesFrom nodes start kept place one
used_comes nodes start [] place one is = absurd (let bad : ⊥ = cc in bad)
used_comes nodes start (first ∷ kept) place one is = by (is_used nodes (suc start)) refl place is (λ at there. used_comes nodes (suc start) kept at one there)
  where
    rest : List Kept
    rest = used_from nodes (suc (suc start)) kept

    later : (at spot : ℕ) → new_number nodes (suc start) + at ≡ spot + new_number nodes start → ComesFrom nodes (suc start) kept at one → ComesFrom nodes start (first ∷ kept) spot one
    later at spot next found =
        let same : suc start + suc found.distance ≡ suc (suc start) + found.distance = omega arith in
        let number : new_number nodes (suc (suc start) + found.distance) ≡ suc spot + new_number nodes start = omega (arith, next, found.number) in
        record {
          distance = suc found.distance;
          at = found.at;
          used = ap (is_used nodes) same ∙ found.used;
          number = ap (new_number nodes) same ∙ number;
        }

    by : (test : Bool) → is_used nodes (suc start) ≡ test → (spot : ℕ) → slice_get (if test then first ∷ rest else rest) spot ≡ Some one → ((at : ℕ) → slice_get rest at ≡ Some one → ComesFrom nodes (suc start) kept at one) → ComesFrom nodes start (first ∷ kept) spot one
    by false test spot there go = let next = unused_next nodes start test in later spot spot (omega (arith, next)) (go spot there)
    by true test zero there go =
        let same : suc start + 0 ≡ suc start = omega arith in
        let next : suc (new_number nodes start) ≡ 1 + new_number nodes start = omega arith in
        record {
          distance = 0;
          at = there;
          used = ap (is_used nodes) same ∙ test;
          number = ap (new_number nodes) same ∙ used_next nodes start test ∙ next;
        }
    by true test (suc spot) there go = let next = used_next nodes start test in later spot (suc spot) (omega (arith, next)) (go spot there)
