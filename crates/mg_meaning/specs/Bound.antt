-- How many extensions are enough where every literal that matters weighs at most so much.
use Rattle.std.specs.Prelude.{ℕ, ◌+◌, ◌*◌, ◌^◌, max, Bool, true, false, nat_eq, List, [], ◌∷◌, length, slice_get, All, IsTrue}
use Rattle.std.specs.List.{list_all}
use Rattle.std.specs.Option.{option_map_or}
use Rattle.mg_word.specs.Table.{Symbol}
use Rattle.mg_word.specs.Words.{lit_instances}
use Rattle.mg_word.specs.Forms.{conclusions_of}
use Rattle.mg_word.specs.Facts.{ProblemData}
use Rattle.mg_word.specs.declared.item.Item.{Item}
use Rattle.mg_word.specs.declared.item.Item.TheVariants.{Sym, Var}
use Rattle.mg_word.specs.declared.clause.ClauseLit.{ClauseLit}
use Rattle.mg_word.specs.declared.clause.ClauseLit.TheVariants.{True, False, Lit as Literal}
use Rattle.mg_word.specs.declared.clause.Clause.{Clause}
use Rattle.mg_word.specs.declared.form.Form.{Form}
use Rattle.mg_meaning.specs.Truth.{Ground}
use Rattle.mg_meaning.specs.Violation.{heaviest}

-- the most conclusions of a form, at least 1
abbrev pub most_conclusions : List Form → ℕ
most_conclusions [] = 1
most_conclusions (form ∷ forms) = max (length form.conclusions) (most_conclusions forms)

-- (m + 1) ^ (2 * (s + 1) ^ w), with m conclusions at most and s symbols
abbrev pub bound : ProblemData → ℕ → ℕ
bound problem weight = (most_conclusions problem.forms + 1) ^ (2 * (length problem.symbols + 1) ^ weight)

-- the number of symbols of the heaviest positive literal of a ground instance of a clause
abbrev pub positive_weight : List Clause → Ground → ℕ
positive_weight clauses instance = option_map_or (λ clause. heaviest (lit_instances instance.terms (conclusions_of clause.literals))) (slice_get clauses instance.clause) 0

-- the symbol has no arguments
abbrev pub is_constant : List Symbol → ℕ → Bool
is_constant table symbol = option_map_or (λ entry. nat_eq entry.arity 0) (slice_get table symbol) false

-- a variable, or a symbol without arguments
abbrev pub is_flat_item : List Symbol → Item → Bool
is_flat_item table (Sym symbol) = is_constant table symbol
is_flat_item table (Var variable) = true

-- what stands in the argument places of an atom
abbrev pub arguments_of : List Item → List Item
arguments_of [] = []
arguments_of (first ∷ arguments) = arguments

-- in its argument places the literal has variables and constants alone
abbrev pub is_flat : List Symbol → ClauseLit → Bool
is_flat table True = true
is_flat table False = true
is_flat table (Literal lit) = list_all (is_flat_item table) (arguments_of lit.pattern)

-- each symbol in an argument place of a clause is a constant
abbrev pub HasNoFunctions : ProblemData → Type 0
HasNoFunctions problem = All (λ (clause : Clause). IsTrue (list_all (is_flat problem.symbols) clause.literals)) problem.clauses

-- the greatest number of arguments of a symbol, or 0 where there is none
abbrev pub greatest_arity : List Symbol → ℕ
greatest_arity [] = 0
greatest_arity (symbol ∷ table) = max symbol.arity (greatest_arity table)
