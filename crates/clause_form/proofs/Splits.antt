-- Lists as an element with those before and after it.
use Rattle.std.proofs.Common.{◌≡◌, ℕ, ◌+◌, ◌<◌, List, [], ◌∷◌, ◌++◌, length, get_or, take, drop, sym, ◌∙◌, ap, append_assoc}
use Rattle.std.proofs.lemmas.List.{take_more, take-append-drop}

pub split_at : {X : Type 0} (xs : List X) (i : ℕ) (x : X) → i < length xs → x ≡ get_or xs i x → xs ≡ take i xs ++ x ∷ drop (i + 1) xs
split_at xs i x h is =
    sym (take-append-drop (i + 1) xs) ∙ ap (λ r. r ++ drop (i + 1) xs) (take_more xs i x h) ∙ append_assoc (take i xs) (get_or xs i x ∷ []) (drop (i + 1) xs)
    ∙ ap (λ y. take i xs ++ y ∷ drop (i + 1) xs) (sym is)
