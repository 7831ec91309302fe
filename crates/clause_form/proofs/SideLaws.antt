-- The sides of a form, one more literal at a time.
use Rattle.std.proofs.Common.{◌≡◌, ℕ, ◌+◌, ◌<◌, Bool, true, false, ◌||◌, List, [], ◌∷◌, ◌++◌, length, get_or, take, drop, refl, sym, ◌∙◌, ap, arith, if◌then◌else◌}
use Rattle.std.proofs.lemmas.List.{take_more, length-take, take-append-drop}
use Rattle.mg_word.specs.Forms.{premises_of, conclusions_of, others_from, chosen_from, is_always_true, is_among, opposite}
use Rattle.mg_word.specs.declared.clause.ClauseLit.{ClauseLit}
use Rattle.mg_word.specs.declared.clause.ClauseLit.TheVariants.{True, False, Lit as Literal}

-- a choice before a list
chosen-append : {A : Type 0} (b : Bool) (x : A) (xs ys : List A) → (if b then x ∷ (xs ++ ys) else (xs ++ ys)) ≡ (if b then x ∷ xs else xs) ++ ys
chosen-append true x xs ys = refl
chosen-append false x xs ys = refl

unchosen-append : {A : Type 0} (b : Bool) (x : A) (xs ys : List A) → (if b then (xs ++ ys) else x ∷ (xs ++ ys)) ≡ (if b then xs else x ∷ xs) ++ ys
unchosen-append true x xs ys = refl
unchosen-append false x xs ys = refl

pub premises_of-append : (xs ys : List ClauseLit) → premises_of (xs ++ ys) ≡ premises_of xs ++ premises_of ys
premises_of-append [] ys = refl
premises_of-append (True ∷ xs) ys = premises_of-append xs ys
premises_of-append (False ∷ xs) ys = premises_of-append xs ys
premises_of-append (Literal lit ∷ xs) ys =
    ap (λ r. if lit.negative then opposite lit ∷ r else r) (premises_of-append xs ys) ∙ chosen-append lit.negative (opposite lit) (premises_of xs) (premises_of ys)

pub conclusions_of-append : (xs ys : List ClauseLit) → conclusions_of (xs ++ ys) ≡ conclusions_of xs ++ conclusions_of ys
conclusions_of-append [] ys = refl
conclusions_of-append (True ∷ xs) ys = conclusions_of-append xs ys
conclusions_of-append (False ∷ xs) ys = conclusions_of-append xs ys
conclusions_of-append (Literal lit ∷ xs) ys =
    ap (λ r. if lit.negative then r else lit ∷ r) (conclusions_of-append xs ys) ∙ unchosen-append lit.negative lit (conclusions_of xs) (conclusions_of ys)

next_position : {X : Type 0} (at : ℕ) (x : X) (xs : List X) → at + 1 + length xs ≡ at + length (x ∷ xs)
next_position at x xs = omega arith

pub chosen_from-append : (at : ℕ) (chosen : List ℕ) (xs ys : List ClauseLit) → chosen_from at chosen (xs ++ ys) ≡ chosen_from at chosen xs ++ chosen_from (at + length xs) chosen ys
chosen_from-append at chosen [] ys = ap (λ n. chosen_from n chosen ys) (omega arith)
chosen_from-append at chosen (True ∷ xs) ys = chosen_from-append (at + 1) chosen xs ys ∙ ap (λ n. chosen_from (at + 1) chosen xs ++ chosen_from n chosen ys) (next_position at True xs)
chosen_from-append at chosen (False ∷ xs) ys = chosen_from-append (at + 1) chosen xs ys ∙ ap (λ n. chosen_from (at + 1) chosen xs ++ chosen_from n chosen ys) (next_position at False xs)
chosen_from-append at chosen (Literal lit ∷ xs) ys =
    ap (λ r. if is_among chosen at then lit ∷ r else r) (chosen_from-append (at + 1) chosen xs ys)
    ∙ chosen-append (is_among chosen at) lit (chosen_from (at + 1) chosen xs) (chosen_from (at + 1 + length xs) chosen ys)
    ∙ ap (λ n. (if is_among chosen at then lit ∷ chosen_from (at + 1) chosen xs else chosen_from (at + 1) chosen xs) ++ chosen_from n chosen ys) (next_position at (Literal lit) xs)

pub others_from-append : (at : ℕ) (chosen : List ℕ) (xs ys : List ClauseLit) → others_from at chosen (xs ++ ys) ≡ others_from at chosen xs ++ others_from (at + length xs) chosen ys
others_from-append at chosen [] ys = ap (λ n. others_from n chosen ys) (omega arith)
others_from-append at chosen (True ∷ xs) ys = others_from-append (at + 1) chosen xs ys ∙ ap (λ n. others_from (at + 1) chosen xs ++ others_from n chosen ys) (next_position at True xs)
others_from-append at chosen (False ∷ xs) ys = others_from-append (at + 1) chosen xs ys ∙ ap (λ n. others_from (at + 1) chosen xs ++ others_from n chosen ys) (next_position at False xs)
others_from-append at chosen (Literal lit ∷ xs) ys =
    ap (λ r. if is_among chosen at then r else opposite lit ∷ r) (others_from-append (at + 1) chosen xs ys)
    ∙ unchosen-append (is_among chosen at) (opposite lit) (others_from (at + 1) chosen xs) (others_from (at + 1 + length xs) chosen ys)
    ∙ ap (λ n. (if is_among chosen at then others_from (at + 1) chosen xs else opposite lit ∷ others_from (at + 1) chosen xs) ++ others_from n chosen ys) (next_position at (Literal lit) xs)

pub always_true-append : (xs ys : List ClauseLit) → is_always_true (xs ++ ys) ≡ (is_always_true xs || is_always_true ys)
always_true-append [] ys = refl
always_true-append (True ∷ xs) ys = refl
always_true-append (False ∷ xs) ys = always_true-append xs ys
always_true-append (Literal lit ∷ xs) ys = always_true-append xs ys

-- the next literal's side of the plain form
pub premises_of-next : (xs : List ClauseLit) (i : ℕ) (d : ClauseLit) → i < length xs → premises_of (take (i + 1) xs) ≡ premises_of (take i xs) ++ premises_of (get_or xs i d ∷ [])
premises_of-next xs i d h = ap premises_of (take_more xs i d h) ∙ premises_of-append (take i xs) (get_or xs i d ∷ [])

pub conclusions_of-next : (xs : List ClauseLit) (i : ℕ) (d : ClauseLit) → i < length xs → conclusions_of (take (i + 1) xs) ≡ conclusions_of (take i xs) ++ conclusions_of (get_or xs i d ∷ [])
conclusions_of-next xs i d h = ap conclusions_of (take_more xs i d h) ∙ conclusions_of-append (take i xs) (get_or xs i d ∷ [])

taken_position : {X : Type 0} (xs : List X) (i : ℕ) → i < length xs → 1 + length (take i xs) ≡ i + 1
taken_position xs i h = omega (arith, length-take i xs)

-- and of a further form
pub others_from-next : (chosen : List ℕ) (xs : List ClauseLit) (i : ℕ) (d : ClauseLit) → i < length xs → others_from 1 chosen (take (i + 1) xs) ≡ others_from 1 chosen (take i xs) ++ others_from (i + 1) chosen (get_or xs i d ∷ [])
others_from-next chosen xs i d h =
    ap (others_from 1 chosen) (take_more xs i d h) ∙ others_from-append 1 chosen (take i xs) (get_or xs i d ∷ [])
    ∙ ap (λ n. others_from 1 chosen (take i xs) ++ others_from n chosen (get_or xs i d ∷ [])) (taken_position xs i h)

pub chosen_from-next : (chosen : List ℕ) (xs : List ClauseLit) (i : ℕ) (d : ClauseLit) → i < length xs → chosen_from 1 chosen (take (i + 1) xs) ≡ chosen_from 1 chosen (take i xs) ++ chosen_from (i + 1) chosen (get_or xs i d ∷ [])
chosen_from-next chosen xs i d h =
    ap (chosen_from 1 chosen) (take_more xs i d h) ∙ chosen_from-append 1 chosen (take i xs) (get_or xs i d ∷ [])
    ∙ ap (λ n. chosen_from 1 chosen (take i xs) ++ chosen_from n chosen (get_or xs i d ∷ [])) (taken_position xs i h)

pub always_true_next : (xs : List ClauseLit) (i : ℕ) (d : ClauseLit) → i < length xs → is_always_true (take (i + 1) xs) ≡ (is_always_true (take i xs) || is_always_true (get_or xs i d ∷ []))
always_true_next xs i d h = ap is_always_true (take_more xs i d h) ∙ always_true-append (take i xs) (get_or xs i d ∷ [])

or_true : (a b : Bool) → b ≡ true → (a || b) ≡ true
or_true true b e = refl
or_true false b e = e

true_before : (a b : List ClauseLit) → is_always_true a ≡ true → is_always_true (a ++ b) ≡ true
true_before a b e = always_true-append a b ∙ ap (λ t. t || is_always_true b) e

-- a literal that is always true makes its clause so
pub always_true_at : (xs : List ClauseLit) (i : ℕ) (d : ClauseLit) → i < length xs → is_always_true (get_or xs i d ∷ []) ≡ true → is_always_true xs ≡ true
always_true_at xs i d h e =
    ap is_always_true (sym (take-append-drop (i + 1) xs))
    ∙ true_before (take (i + 1) xs) (drop (i + 1) xs) (always_true_next xs i d h ∙ or_true (is_always_true (take i xs)) (is_always_true (get_or xs i d ∷ [])) e)

-- a list that is made piece by piece
pub grown : {X Y : Type 0} (F : List X → List Y) (G : X → List Y) (xs : List X) (i : ℕ) (x : X) (old new : List Y) → F (take (i + 1) xs) ≡ F (take i xs) ++ G (get_or xs i x) → x ≡ get_or xs i x → old ≡ F (take i xs) → new ≡ old ++ G x → new ≡ F (take (i + 1) xs)
grown F G xs i x old new law is before after = after ∙ ap (λ r. r ++ G x) before ∙ ap (λ y. F (take i xs) ++ G y) is ∙ sym law

-- one more literal that is not always true
pub none_true_next : (xs : List ClauseLit) (i : ℕ) (x : ClauseLit) → i < length xs → x ≡ get_or xs i x → is_always_true (take i xs) ≡ false → is_always_true (x ∷ []) ≡ false → is_always_true (take (i + 1) xs) ≡ false
none_true_next xs i x h is before here =
    always_true_next xs i x h ∙ ap (λ t. t || is_always_true (get_or xs i x ∷ [])) before ∙ ap (λ y. is_always_true (y ∷ [])) (sym is) ∙ here
