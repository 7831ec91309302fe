-- Lists of numbers from the end, and sums over them.
use Rattle.std.proofs.Common.{◌≡◌, ℕ, zero, suc, ◌+◌, ◌-◌, ◌<◌, ◌≤◌, List, [], ◌∷◌, ◌++◌, length, take, drop, get_or, reverse, sum_by, All, refl, sym, ap, ap₂, subst, ◌∙◌, add-one, drop-cons, arith}
use Rattle.std.proofs.lemmas.List.{reverse-append, length-reverse, length-drop, take-append-drop}
use Rattle.std.proofs.lemmas.List.Elements.{All-push, All-head, All-tail}
use Rattle.std.proofs.Math.Seq.{take-append_seam, drop-append_seam}
use Rattle.std.proofs.lemmas.List.Sums.{sum_by-cons}

pub reverse_cons : {X : Type 0} (x : X) (xs : List X) → reverse (x ∷ xs) ≡ reverse xs ++ x ∷ []
reverse_cons x xs = reverse-append (x ∷ []) xs

pub reverse_push : {X : Type 0} (xs : List X) (x : X) → reverse (xs ++ x ∷ []) ≡ x ∷ reverse xs
reverse_push xs x = reverse-append xs (x ∷ [])

-- within a list the default does not count
pub get_or_same : {X : Type 0} (xs : List X) (place : ℕ) (d e : X) → place < length xs → get_or xs place d ≡ get_or xs place e
get_or_same [] place d e within = absurd (omega arith)
get_or_same (x ∷ xs) zero d e within = refl
get_or_same (x ∷ xs) (suc place) d e within = get_or_same xs place d e (omega arith)

-- one more from the end
pub reverse_more : {X : Type 0} (xs : List X) (at : ℕ) (x : X) → at < length xs → x ≡ get_or xs at x → reverse (drop (at + 1) xs) ++ x ∷ [] ≡ reverse (drop at xs)
reverse_more xs at x within is =
    sym (ap reverse (drop-cons xs at x within) ∙ (reverse_cons (get_or xs at x) (drop (suc at) xs)
    ∙ ap₂ (λ n y. reverse (drop n xs) ++ y ∷ []) (sym (add-one at)) (sym is)))

pub sum_by_same : {X : Type 0} (f g : X → ℕ) (xs : List X) → All (λ x. f x ≡ g x) xs → sum_by f xs ≡ sum_by g xs
sum_by_same f g [] same = refl
sum_by_same f g (x ∷ xs) same =
    sum_by-cons f x xs ∙ (ap₂ (λ m n. m + n) (same zero x (omega arith)) (sum_by_same f g xs (λ k d within. same (suc k) d (omega arith))) ∙ sym (sum_by-cons g x xs))

-- the last numbers from the end, and those left
pub last_reversed : {X : Type 0} (xs : List X) (count : ℕ) → count ≤ length xs → reverse (drop (length xs - count) xs) ≡ take count (reverse xs)
last_reversed xs count within =
    let whole : reverse xs ≡ reverse (drop (length xs - count) xs) ++ reverse (take (length xs - count) xs) =
    ap reverse (sym (take-append-drop (length xs - count) xs)) ∙ reverse-append (take (length xs - count) xs) (drop (length xs - count) xs) in
    let many : length (reverse (drop (length xs - count) xs)) ≡ count = length-reverse (drop (length xs - count) xs) ∙ (length-drop (length xs - count) xs ∙ omega arith) in
    sym (ap₂ take (sym many) whole ∙ take-append_seam (reverse (drop (length xs - count) xs)) (reverse (take (length xs - count) xs)))

pub left_reversed : {X : Type 0} (xs : List X) (count : ℕ) → count ≤ length xs → reverse (take (length xs - count) xs) ≡ drop count (reverse xs)
left_reversed xs count within =
    let whole : reverse xs ≡ reverse (drop (length xs - count) xs) ++ reverse (take (length xs - count) xs) =
    ap reverse (sym (take-append-drop (length xs - count) xs)) ∙ reverse-append (take (length xs - count) xs) (drop (length xs - count) xs) in
    let many : length (reverse (drop (length xs - count) xs)) ≡ count = length-reverse (drop (length xs - count) xs) ∙ (length-drop (length xs - count) xs ∙ omega arith) in
    sym (ap₂ drop (sym many) whole ∙ drop-append_seam (reverse (drop (length xs - count) xs)) (reverse (take (length xs - count) xs)))

pub all_reversed : {X : Type 0} (P : X → Type 0) (xs : List X) → All P xs → All P (reverse xs)
all_reversed P [] all = all
all_reversed P (x ∷ xs) all =
    subst (λ l. All P l) (sym (reverse_cons x xs)) (All-push P (reverse xs) x (all_reversed P xs (All-tail P x xs all)) (All-head P x xs all))
