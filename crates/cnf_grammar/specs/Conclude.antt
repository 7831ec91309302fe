-- Which items of an info give conclusions, and when such an item is right.
use Rattle.std.specs.Prelude.{◌≡◌, ℕ, zero, suc, Bool, true, false, ◌&&◌, nat_lt, List, [], ◌∷◌, ◌++◌, Option, Some, None, map, filter, filter_map, codes, All}
use Rattle.std.specs.Str.Parse.{digits_value}
use Rattle.cnf_grammar.specs.Shapes.{Shape, Lower, Number, Punct, left_round, right_round, left_square, right_square, comma, is_keyword, is_mark}
use Rattle.cnf_grammar.specs.Trees.{predicate, Literal, positive, negative, Formula, bracketed, disjunction, Info, Annotations, no_annotations, annotations}
use Rattle.cnf_grammar.specs.Spelling.{spell_parts}

-- the literals of a formula, as written
abbrev pub literals_of : Formula → List Literal
literals_of (bracketed formula) = literals_of formula
literals_of (disjunction first more) = first ∷ more

-- the items of an info: the tokens between the commas outside inner brackets
abbrev pub items_of_info : Info → List (List Shape)
items_of_info info = spell_parts info.first ∷ map spell_parts info.more

-- the items of a clause's annotations
abbrev pub items_of : Annotations → List (List Shape)
items_of no_annotations = []
items_of (annotations source None) = []
items_of (annotations source (Some info)) = items_of_info info

-- whether an item gives conclusions: it begins with the word conclude and a round bracket
abbrev pub gives_conclusions : List Shape → Bool
gives_conclusions (word ∷ mark ∷ more) = is_keyword (codes "conclude") word && is_mark left_round mark
gives_conclusions _ = false

-- further plain numbers, each behind a comma
abbrev pub spell_more_numbers : List (List ℕ) → List Shape
spell_more_numbers [] = []
spell_more_numbers (text ∷ more) = Punct comma ∷ (Number text true ∷ spell_more_numbers more)

-- plain numbers with commas between them
abbrev pub spell_numbers : List (List ℕ) → List Shape
spell_numbers [] = []
spell_numbers (text ∷ more) = Number text true ∷ spell_more_numbers more

-- ]) at the end
abbrev pub item_end : List Shape
item_end = Punct right_square ∷ (Punct right_round ∷ [])

-- conclude([k1,..,kr])
abbrev pub conclude_item : List (List ℕ) → List Shape
conclude_item texts = Lower (codes "conclude") ∷ (Punct left_round ∷ (Punct left_square ∷ (spell_numbers texts ++ item_end)))

-- whether a literal has a word for its atom, and neither $true nor $false
abbrev pub has_word : Literal → Bool
has_word (positive (predicate word args)) = true
has_word (negative (predicate word args)) = true
has_word _ = false

-- which literals of a formula have a word for their atoms
abbrev pub words_of : Formula → List Bool
words_of formula = map has_word (literals_of formula)

-- whether the literal at this position, counted from 0, is there and has a word
abbrev pub has_word_at : List Bool → ℕ → Bool
has_word_at [] position = false
has_word_at (word ∷ words) zero = word
has_word_at (word ∷ words) (suc position) = has_word_at words position

-- whether the number, counted from 1, names a literal that has a word
abbrev pub names_literal : List Bool → ℕ → Bool
names_literal words zero = false
names_literal words (suc position) = has_word_at words position

-- whether the number may stand behind the last one: it is greater, and names a literal that has a word
abbrev pub may_follow : List Bool → ℕ → ℕ → Bool
may_follow words last k = nat_lt last k && names_literal words k

-- whether the numbers rise strictly from above the last one, and each names a literal that has a word
abbrev pub are_conclusions_above : List Bool → ℕ → List ℕ → Bool
are_conclusions_above words last [] = true
are_conclusions_above words last (k ∷ ks) = may_follow words last k && are_conclusions_above words k ks

-- the numbers that digits write
abbrev pub values : List (List ℕ) → List ℕ
values texts = map (digits_value 10) texts

-- the item is conclude([k1,..,kr]), where the k are plain numbers that rise strictly from 1 on, and each names a literal that has a
-- word; words tells which literals have one
abbrev pub IsConcludeItem : List Bool → List Shape → Type 0
IsConcludeItem words item = (texts : List (List ℕ)) × (item ≡ conclude_item texts) × (are_conclusions_above words 0 (values texts) ≡ true)

-- the tokens are the front of such an item
abbrev pub BeginsConcludeItem : List Bool → List Shape → Type 0
BeginsConcludeItem words tokens = (more : List Shape) × IsConcludeItem words (tokens ++ more)

-- the token is the first of an item that gives conclusions by which no end of it can be right
abbrev pub BreaksConcludeItem : List Bool → List Shape → Shape → Type 0
BreaksConcludeItem words tokens s = BeginsConcludeItem words tokens × (BeginsConcludeItem words (tokens ++ s ∷ []) → ⊥)

-- each item of the annotations that gives conclusions is right; all others are passed over
abbrev pub HasRightItems : Formula → Annotations → Type 0
HasRightItems formula notes = All (λ item. gives_conclusions item ≡ true → IsConcludeItem (words_of formula) item) (items_of notes)

-- the number of a number's token
abbrev pub number_of_token : Shape → Option ℕ
number_of_token (Number text plain) = Some (digits_value 10 text)
number_of_token _ = None

-- the conclusions that the items give, in order
abbrev pub conclusions_of : Annotations → List (List ℕ)
conclusions_of notes = map (filter_map number_of_token) (filter gives_conclusions (items_of notes))
