-- The number of a node's kept lemma, where one more is kept.
use Rattle.std.proofs.Common.{◌≡◌, ◌≢◌, ℕ, suc, ◌+◌, Bool, true, false, not, cond, nat_eq, nat_lt, List, [], ◌∷◌, ◌++◌, length, get_or, slice_get, Option, Some, None, option_map, refl, sym, ap, ◌∙◌, inl, inr, arith}
use Rattle.std.specs.List.{position, position_or_len}
use Rattle.std.proofs.lemmas.Bool.{cases_lt, lt-ltb, le-ltb, eqb-true, eq-eqb, ne_eqb}
use Rattle.std.proofs.lemmas.List.Quantifiers.{position-Some}
use Rattle.std.proofs.lemmas.Option.{slice_get-get_or}
use Rattle.tree_board.specs.Boards.{Board, Kept}
use Rattle.tree_board.specs.Facts.{IsBoard}
use Rattle.tree_board.specs.Nodes.{Node}
use Rattle.tree_board.specs.Readers.{own_number}
use Rattle.tree_board.specs.Settings.{Setting}
use Rattle.tree_board.proofs.Places.{same_some}

module _ {X : Type 0} (p : X → Bool) where
  lt_more : (a b : ℕ) → nat_lt (1 + a) (suc b) ≡ nat_lt a b
  lt_more a b = elim (cases_lt a b) [
    | inl small ↦ lt-ltb (1 + a) (suc b) (omega (arith, small)) ∙ sym (lt-ltb a b small)
    | inr large ↦ le-ltb (1 + a) (suc b) (omega (arith, large)) ∙ sym (le-ltb a b large)
  ]

  -- the first place, by the first item
  first_or_later : Bool → Option ℕ → Option ℕ
  first_or_later true later = Some 0
  first_or_later false later = option_map (λ index. suc index) later

  position-cons : (x : X) (xs : List X) → position p (x ∷ xs) ≡ first_or_later (p x) (position p xs)
  unfolding first_or_later
  position-cons x xs = by (p x)
    where
      later : (test : Bool) → cond test (Some (1 + position_or_len p xs)) None ≡ option_map (λ index. suc index) (cond test (Some (position_or_len p xs)) None)
      later true = ap Some (let e : 1 + position_or_len p xs ≡ suc (position_or_len p xs) = omega arith in e)
      later false = refl

      by : (test : Bool) → cond (nat_lt (cond (not test) (1 + position_or_len p xs) 0) (suc (length xs))) (Some (cond (not test) (1 + position_or_len p xs) 0)) None ≡ first_or_later test (position p xs)
      by true = ap (λ small. cond small (Some 0) None) (lt-ltb 0 (suc (length xs)) (omega arith))
      by false = ap (λ small. cond small (Some (1 + position_or_len p xs)) None) (lt_more (position_or_len p xs) (length xs)) ∙ later (nat_lt (position_or_len p xs) (length xs))

  position_other : (xs : List X) (y : X) → p y ≡ false → position p (xs ++ y ∷ []) ≡ position p xs
  unfolding first_or_later
  position_other [] y other = position-cons y [] ∙ ap (λ test. first_or_later test None) other
  position_other (x ∷ xs) y other = position-cons x (xs ++ y ∷ []) ∙ (ap (first_or_later (p x)) (position_other xs y other) ∙ sym (position-cons x xs))

  later_none : (test : Bool) (later : Option ℕ) → first_or_later test later ≡ None → (test ≡ false) × (later ≡ None)
  unfolding first_or_later
  later_none true later none = absurd (let bad : ⊥ = cc in bad)
  later_none false None none = (refl, refl)
  later_none false (Some index) none = absurd (let bad : ⊥ = cc in bad)

  position_new : (xs : List X) (y : X) → p y ≡ true → position p xs ≡ None → position p (xs ++ y ∷ []) ≡ Some (length xs)
  unfolding first_or_later
  position_new [] y here none = position-cons y [] ∙ ap (λ test. first_or_later test None) here
  position_new (x ∷ xs) y here none =
      let (apart, rest) = later_none (p x) (position p xs) (sym (position-cons x xs) ∙ none) in
      position-cons x (xs ++ y ∷ []) ∙ (ap (λ test. first_or_later test (position p (xs ++ y ∷ []))) apart ∙ ap (option_map (λ index. suc index)) (position_new xs y here rest))

-- a lemma of another node leaves the number
pub number_other : (kept : List Kept) (one : Kept) (number : ℕ) → one.node ≢ number → own_number (kept ++ one ∷ []) number ≡ own_number kept number
number_other kept one number apart = ap (option_map (λ index. suc index)) (position_other (λ (other : Kept). nat_eq other.node number) kept one (ne_eqb one.node number apart))

-- where the node has none, its lemma has the last number
pub number_new : (kept : List Kept) (one : Kept) (number : ℕ) → one.node ≡ number → own_number kept number ≡ None → own_number (kept ++ one ∷ []) number ≡ Some (suc (length kept))
number_new kept one number same none = ap (option_map (λ index. suc index)) (position_new (λ (other : Kept). nat_eq other.node number) kept one (eq-eqb one.node number same) (unmapped (position (λ (other : Kept). nat_eq other.node number) kept) none))
  where
    unmapped : (found : Option ℕ) → option_map (λ index. suc index) found ≡ None → found ≡ None
    unmapped None e = refl
    unmapped (Some index) e = absurd (let bad : ⊥ = cc in bad)

-- of a node that is not closed, no lemma is kept
pub number_none : (setting : Setting) (board : Board) → IsBoard setting board → (number : ℕ) (node : Node) → slice_get board.nodes number ≡ Some node → node.own ≡ None → own_number board.kept number ≡ None
number_none setting board facts number node at unclosed = by (position (λ (one : Kept). nat_eq one.node number) board.kept) refl
  where
    by : (found : Option ℕ) → position (λ (one : Kept). nat_eq one.node number) board.kept ≡ found → own_number board.kept number ≡ None
    by None none = ap (option_map (λ index. suc index)) none
    by (Some index) some =
        let blank : Kept = record { node = 0; pair = record { inside = []; outside = [] } } in
        let (small, passes, before) = position-Some (λ (one : Kept). nat_eq one.node number) board.kept index blank some in
        let one : Kept = get_or board.kept index blank in
        let is_kept = facts.kept (suc index) one (slice_get-get_or board.kept index blank small) in
        let same : is_kept.node ≡ node = same_some is_kept.node node (sym is_kept.is ∙ (ap (slice_get board.nodes) (eqb-true one.node number passes) ∙ at)) in
        let bad : None ≡ Some one.pair = sym unclosed ∙ (ap (λ (n : Node). n.own) (sym same) ∙ is_kept.own) in
        absurd (let no_way : ⊥ = cc in no_way)
