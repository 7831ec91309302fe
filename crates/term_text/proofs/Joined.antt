-- Items of a list as they are written one after another.
use Rattle.std.proofs.Common.{◌≡◌, ℕ, ◌+◌, ◌<◌, ◌≤◌, suc, List, [], ◌∷◌, ◌++◌, map, length, take, get_or, refl, sym, ap, ◌∙◌, append_assoc, append-nil, arith, zero}
use Rattle.std.proofs.lemmas.List.{take_more, take_all, map-append, length-map}
use Rattle.term_text.specs.Brackets.{after_items, in_brackets, listed, comma_before}

-- a comma before each item
abbrev pub after_first : List (List ℕ) → List ℕ
after_first [] = []
after_first (item ∷ items) = 44 ∷ (item ++ after_first items)

-- the items with commas between them
abbrev pub joined : List (List ℕ) → List ℕ
joined [] = []
joined (item ∷ items) = item ++ after_first items

after_push : (items : List (List ℕ)) (item : List ℕ) → after_first (items ++ item ∷ []) ≡ after_first items ++ 44 ∷ item
after_push [] item = ap (λ l. 44 ∷ l) (append-nil item)
after_push (first ∷ items) item = ap (λ l. 44 ∷ first ++ l) (after_push items item) ∙ ap (λ l. 44 ∷ l) (sym (append_assoc first (after_first items) (44 ∷ item)))

joined_push : (items : List (List ℕ)) (item : List ℕ) → joined (items ++ item ∷ []) ≡ (joined items ++ comma_before (length items)) ++ item
joined_push [] item = append-nil item
joined_push (first ∷ items) item =
    ap (λ l. first ++ l) (after_push items item)
    ∙ (sym (append_assoc first (after_first items) (44 ∷ item)) ∙ sym (append_assoc (first ++ after_first items) (44 ∷ []) item))

-- one item more
pub joined_more : {X : Type 0} (f : X → List ℕ) (xs : List X) (i : ℕ) (x : X) → i < length xs → x ≡ get_or xs i x → joined (map f (take (i + 1) xs)) ≡ (joined (map f (take i xs)) ++ comma_before i) ++ f x
joined_more f xs i x within is =
    let more : take (i + 1) xs ≡ take i xs ++ x ∷ [] = take_more xs i x within ∙ ap (λ y. take i xs ++ y ∷ []) (sym is) in
    let count : length (map f (take i xs)) ≡ i = length-map (take i xs) f ∙ omega (arith, length_take xs i within) in
    ap (λ l. joined (map f l)) more
    ∙ (ap joined (map-append f (take i xs) (x ∷ [])) ∙ (joined_push (map f (take i xs)) (f x) ∙ ap (λ n. (joined (map f (take i xs)) ++ comma_before n) ++ f x) count))
  where
    length_take : {Y : Type 0} (ys : List Y) (n : ℕ) → n < length ys → length (take n ys) ≡ n
    length_take [] n small = absurd (omega arith)
    length_take (y ∷ ys) zero small = refl
    length_take (y ∷ ys) (suc n) small = ap suc (length_take ys n (omega arith))

after_ends : (items : List (List ℕ)) → after_items items ≡ after_first items ++ 93 ∷ []
after_ends [] = refl
after_ends (item ∷ items) = ap (λ l. 44 ∷ item ++ l) (after_ends items) ∙ ap (λ l. 44 ∷ l) (sym (append_assoc item (after_first items) (93 ∷ [])))

-- all items, and the closing bracket
pub joined_ends : (items : List (List ℕ)) → in_brackets items ≡ joined items ++ 93 ∷ []
joined_ends [] = refl
joined_ends (item ∷ items) = ap (λ l. item ++ l) (after_ends items) ∙ sym (append_assoc item (after_first items) (93 ∷ []))

-- a list that is written up to an item, with that item
pub list_more : {X : Type 0} (f : X → List ℕ) (xs : List X) (i : ℕ) (x : X) (old now : List ℕ) → i < length xs → x ≡ get_or xs i x → now ≡ old ++ 91 ∷ joined (map f (take i xs))
    → (now ++ comma_before i) ++ f x ≡ old ++ 91 ∷ joined (map f (take (i + 1) xs))
list_more f xs i x old now within is so =
    ap (λ l. (l ++ comma_before i) ++ f x) so
    ∙ (append_assoc (old ++ 91 ∷ joined (map f (take i xs))) (comma_before i) (f x)
    ∙ (append_assoc old (91 ∷ joined (map f (take i xs))) (comma_before i ++ f x)
    ∙ ap (λ l. old ++ 91 ∷ l) (sym (append_assoc (joined (map f (take i xs))) (comma_before i) (f x)) ∙ sym (joined_more f xs i x within is))))

-- a list that is written up to its end, with the closing bracket
pub list_end : {X : Type 0} (f : X → List ℕ) (xs : List X) (i : ℕ) (old now : List ℕ) → length xs ≤ i → now ≡ old ++ 91 ∷ joined (map f (take i xs)) → now ++ 93 ∷ [] ≡ old ++ listed (map f xs)
list_end f xs i old now past so =
    ap (λ l. l ++ 93 ∷ []) (so ∙ ap (λ l. old ++ 91 ∷ joined (map f l)) (take_all i xs past))
    ∙ (append_assoc old (91 ∷ joined (map f xs)) (93 ∷ []) ∙ ap (λ l. old ++ 91 ∷ l) (sym (joined_ends (map f xs))))
