-- Items between square brackets.
use Rattle.std.specs.Prelude.{ℕ, zero, suc, List, [], ◌∷◌, ◌++◌}

-- behind an item of a list: a comma before each further one, and the closing bracket
abbrev pub after_items : List (List ℕ) → List ℕ
after_items [] = 93 ∷ []
after_items (item ∷ items) = 44 ∷ (item ++ after_items items)

-- behind the opening bracket of a list
abbrev pub in_brackets : List (List ℕ) → List ℕ
in_brackets [] = 93 ∷ []
in_brackets (item ∷ items) = item ++ after_items items

-- items between square brackets, separated by commas
abbrev pub listed : List (List ℕ) → List ℕ
listed items = 91 ∷ in_brackets items

-- what stands before the item with that index
abbrev pub comma_before : ℕ → List ℕ
comma_before zero = []
comma_before (suc index) = 44 ∷ []
