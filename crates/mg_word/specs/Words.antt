-- Words, literals and their instances, after the syntax of first-order logic.
use Rattle.std.specs.Prelude.{ℕ, zero, suc, ◌+◌, not, Bool, true, false, ◌&&◌, nat_lt, List, [], ◌∷◌, ◌++◌, map, slice_get, slice_index_or, Option, None}
use Rattle.std.specs.Option.{option_map_or}
use Rattle.mg_word.specs.Table.{Symbol}
use Rattle.mg_word.specs.declared.item.Item.{Item}
use Rattle.mg_word.specs.declared.item.Item.TheVariants.{Sym, Var}
use Rattle.mg_word.specs.declared.lit.Lit.{Lit}
use Rattle.mg_word.specs.declared.lit.PatLit.{PatLit}
use Rattle.mg_word.specs.declared.form.Form.{Form}
use Rattle.mg_word.specs.declared.form.Inst.{Inst}

-- the list is so many terms one after another, in prefix order by the arities of the table
abbrev pub are_terms : List Symbol → ℕ → List ℕ → Bool
are_terms table zero [] = true
are_terms table zero (symbol ∷ word) = false
are_terms table (suc wanted) [] = false
are_terms table (suc wanted) (symbol ∷ word) = option_map_or (λ entry. are_terms table (entry.arity + wanted) word) (slice_get table symbol) false

-- the word fits the table: it is one ground term or atom over it
abbrev pub fits : List Symbol → List ℕ → Bool
fits table word = are_terms table 1 word

-- the same of a pattern with so many variables, each of which stands for one term
abbrev pub are_patterns : List Symbol → ℕ → ℕ → List Item → Bool
are_patterns table variables zero [] = true
are_patterns table variables zero (item ∷ items) = false
are_patterns table variables (suc wanted) [] = false
are_patterns table variables (suc wanted) (Sym symbol ∷ items) =
    option_map_or (λ entry. are_patterns table variables (entry.arity + wanted) items) (slice_get table symbol) false
are_patterns table variables (suc wanted) (Var variable ∷ items) = nat_lt variable variables && are_patterns table variables wanted items

-- the pattern is one term or atom over the table and these variables
abbrev pub pattern_fits : List Symbol → ℕ → List Item → Bool
pattern_fits table variables pattern = are_patterns table variables 1 pattern

-- the same atom with the other sign
abbrev pub complement_of : Lit → Lit
complement_of lit = record { negative = not lit.negative; word = lit.word }

-- the symbols of an item where each variable stands for its term
abbrev pub item_word : List (List ℕ) → Item → List ℕ
item_word terms (Sym symbol) = symbol ∷ []
item_word terms (Var variable) = slice_index_or terms variable []

-- the pattern with each variable replaced by its term
abbrev pub instance_of : List (List ℕ) → List Item → List ℕ
instance_of terms [] = []
instance_of terms (item ∷ items) = item_word terms item ++ instance_of terms items

-- the literal with each variable replaced by its term
abbrev pub lit_instance : List (List ℕ) → PatLit → Lit
lit_instance terms lit = record { negative = lit.negative; word = instance_of terms lit.pattern }

abbrev pub lit_instances : List (List ℕ) → List PatLit → List Lit
lit_instances terms lits = map (lit_instance terms) lits

-- the ground instance of a form under the terms of its variables, with the form's number
abbrev pub form_instance : ℕ → List (List ℕ) → Form → Inst
form_instance number terms form = record {
  form = number;
  subst = terms;
  premises = lit_instances terms form.premises;
  conclusions = lit_instances terms form.conclusions;
}

-- items are numbered from 1
abbrev pub numbered : {X : Type 0} → List X → ℕ → Option X
numbered items zero = None
numbered items (suc index) = slice_get items index
