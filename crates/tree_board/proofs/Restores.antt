-- Cells that were replaced are put back.
use Rattle.std.proofs.Common.{◌≡◌, ℕ, zero, suc, ◌+◌, ◌<◌, ◌≤◌, Bool, true, false, not, ◌&&◌, nat_eq, nat_lt, nat_le, List, [], ◌∷◌, ◌++◌, length, slice_get, slice_set, None, Some, refl, sym, ap, ap₂, take, true≢false, ◌∙◌, arith}
use Rattle.std.specs.Prelude.{Result, Ok, Err, OnOk, OnErr, is_err}
use Rattle.std.proofs.lemmas.Bool.{ltb-true}
use Rattle.std.proofs.lemmas.List.{length-append}
use Rattle.mg_word.proofs.Members.{both_true}
use Rattle.mg_meaning.specs.Folding.{Pair}
use Rattle.branch_lemmas.specs.declared.index.TheConstants.{MOST_LEMMAS, MOST_LITERALS}
use Rattle.tree_board.specs.Settings.{small}
use Rattle.tree_board.specs.declared.cell.Cell.{Cell}
use Rattle.tree_board.specs.declared.cell_climb.Before.{Before}
use Rattle.tree_board.specs.CellClimbs.{with_if, AreFew, restored}

module _ {X : Type 0} where
  -- the item that stood there
  pub set_back : (xs : List X) (n : ℕ) (old new : X) → slice_get xs n ≡ Some old → slice_set (slice_set xs n new) n old ≡ xs
  set_back [] n old new at = refl
  set_back (x ∷ xs) zero old new at = let same : x ≡ old = cc in ap (λ one. one ∷ xs) (sym same)
  set_back (x ∷ xs) (suc n) old new at = ap (λ rest. x ∷ rest) (set_back xs n old new at)

  -- past the end nothing is set
  pub set_past : (xs : List X) (n : ℕ) (new : X) → length xs ≤ n → slice_set xs n new ≡ xs
  set_past [] n new past = refl
  set_past (x ∷ xs) zero new past = absurd (omega (arith, past))
  set_past (x ∷ xs) (suc n) new past = ap (λ rest. x ∷ rest) (set_past xs n new (omega (arith, past)))

  -- in the first of two lists
  pub set_left : (xs ys : List X) (n : ℕ) (new : X) → n < length xs → slice_set (xs ++ ys) n new ≡ slice_set xs n new ++ ys
  set_left [] ys n new small = absurd (omega (arith, small))
  set_left (x ∷ xs) ys zero new small = refl
  set_left (x ∷ xs) ys (suc n) new small = ap (λ rest. x ∷ rest) (set_left xs ys n new (omega (arith, small)))

pub restored_push : (before : List Before) (one : Before) (cells : List Cell) → restored (before ++ one ∷ []) cells ≡ restored before (slice_set cells one.node one.cell)
restored_push [] one cells = refl
restored_push (first ∷ before) one cells = ap (λ rest. slice_set rest first.node first.cell) (restored_push before one cells)

-- a cell that was replaced is noted
pub noted : (cells new_cells : List Cell) (number : ℕ) (old new : Cell) → slice_get cells number ≡ Some old → new_cells ≡ slice_set cells number new → (before old_before pushed : List Before) → before ≡ old_before → pushed ≡ before ++ record { node = number; cell = old } ∷ []
    → restored pushed new_cells ≡ restored old_before cells
noted cells new_cells number old new at cells_are before old_before pushed same pushed_is =
    ap₂ restored pushed_is cells_are
    ∙ (restored_push before (record { node = number; cell = old }) (slice_set cells number new)
    ∙ ap₂ restored same (set_back cells number old new at))

-- ---- the lemmas that are to be kept

-- a small lemma more
pub few_more : (count number : ℕ) (pair : Pair) (more : List Pair) → AreFew count more → AreFew count (with_if (small (count + length more) number pair) more pair)
few_more count number pair more few = by (small (count + length more) number pair) refl
  where
    by : (keep : Bool) → small (count + length more) number pair ≡ keep → AreFew count (with_if keep more pair)
    by false is some = few some
    by true is some =
        let rest = (both_true (not (nat_eq number 0)) (nat_le (length pair.inside + length pair.outside) MOST_LITERALS && nat_lt (count + length more) MOST_LEMMAS) is).1 in
        let room = ltb-true (count + length more) MOST_LEMMAS (both_true (nat_le (length pair.inside + length pair.outside) MOST_LITERALS) (nat_lt (count + length more) MOST_LEMMAS) rest).1 in
        let long = length-append more (pair ∷ []) in
        omega (arith, room, long)

-- ---- small facts on lists and results

pub put_back_last : (before rest : List Before) (one : Before) → before ≡ rest ++ one ∷ [] → (cells new_cells : List Cell) → new_cells ≡ slice_set cells one.node one.cell → restored rest new_cells ≡ restored before cells
put_back_last before rest one before_is cells new_cells cells_are = ap (restored rest) cells_are ∙ (sym (restored_push rest one cells) ∙ ap (λ all. restored all cells) (sym before_is))

module _ {X : Type 0} where
  pub length_take : (xs : List X) (n : ℕ) → length (take n xs) ≤ n
  length_take [] zero = omega arith
  length_take [] (suc n) = omega arith
  length_take (x ∷ xs) zero = omega arith
  length_take (x ∷ xs) (suc n) = let rest = length_take xs n in omega (arith, rest)

  pub take_one : (xs : List X) (n : ℕ) (x : X) → Some x ≡ slice_get xs n → take (n + 1) xs ≡ take n xs ++ x ∷ []
  take_one xs n x at = ap (λ k. take k xs) (let e : n + 1 ≡ suc n = omega arith in e) ∙ by xs n at
    where
      by : (xs : List X) (n : ℕ) → Some x ≡ slice_get xs n → take (suc n) xs ≡ take n xs ++ x ∷ []
      by [] n at = absurd (let bad : ⊥ = cc in bad)
      by (y ∷ ys) zero at = let same : y ≡ x = cc in ap (λ one. one ∷ []) same
      by (y ∷ ys) (suc n) at = ap (λ rest. y ∷ rest) (by ys n at)

  pub none_within : (xs : List X) (n : ℕ) → n < length xs → None ≡ slice_get xs n → ⊥
  none_within [] n small none = omega (arith, small)
  none_within (x ∷ xs) zero small none = cc
  none_within (x ∷ xs) (suc n) small none = none_within xs n (omega (arith, small)) none

pub on_ok : {T E : Type 0} (r : Result T E) (P : Type 0) → is_err r ≡ false → OnOk r P → P
on_ok (Ok x) P no_err holds = holds
on_ok (Err e) P no_err holds = absurd (true≢false no_err)

pub on_err : {T E : Type 0} (r : Result T E) (P : Type 0) → is_err r ≡ true → OnErr r P → P
on_err (Ok x) P err holds = absurd (true≢false (sym err))
on_err (Err e) P err holds = holds

-- ---- a whole event is taken back

module _ {X : Type 0} where
  pub get_first : (xs ys : List X) (n : ℕ) → n < length xs → slice_get (xs ++ ys) n ≡ slice_get xs n
  get_first [] ys n small = absurd (omega (arith, small))
  get_first (x ∷ xs) ys zero small = refl
  get_first (x ∷ xs) ys (suc n) small = get_first xs ys n (omega (arith, small))

  take_front : (xs ys : List X) → take (length xs) (xs ++ ys) ≡ xs
  take_front [] ys = refl
  take_front (x ∷ xs) ys = ap (λ rest. x ∷ rest) (take_front xs ys)

  -- the item that was set is put back, and those that were added are cut off
  pub grown_back : (old more all set climbed put cut : List X) (n size : ℕ) (before after : X) → all ≡ old ++ more → slice_get all n ≡ Some before → set ≡ slice_set all n after → climbed ≡ set → put ≡ slice_set climbed n before → cut ≡ take size put → size ≡ length old → cut ≡ old
  grown_back old more all set climbed put cut n size before after all_is at set_is same put_is cut_is size_is =
      cut_is ∙ (ap₂ take size_is (put_is ∙ (ap (λ one. slice_set one n before) (same ∙ set_is) ∙ (set_back all n before after at ∙ all_is))) ∙ take_front old more)
