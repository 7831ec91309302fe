-- How small problems are written by hand, and that they keep what each problem keeps.
use Rattle.std.proofs.Common.{◌≡◌, ℕ, zero, suc, add-one, get_or, Bool, ◌+◌, ◌<◌, ◌≤◌, ◌≢◌, AllPairs, ap, ◌∙◌, true, false, List, [], ◌∷◌, length, All, refl, sym, subst, arith, ◌&&◌, nat_le}
use Rattle.std.specs.List.{list_all, flat_map}
use Rattle.std.proofs.lemmas.List.Elements.{All-nil, All-cons}
use Rattle.mg_word.specs.Table.{Symbol}
use Rattle.std.specs.List.Sorted.{IsSorted}
use Rattle.std.specs.declared.cmp.Ordering.TheVariants.{Less}
use Rattle.std.specs.Ordering.{is_lt, ordering_reverse}
use Rattle.std.proofs.lemmas.Cmp.{tied_itself}
use Rattle.std.proofs.lemmas.Map.Keys.{sorted_from_all_adjacent, Less-from_sorted}
use Rattle.mg_word.specs.SymbolLaws.{symbol_total}
use Rattle.mg_word.proofs.RisingLists.{is_less}
use Rattle.mg_word.specs.SymbolOrder.{symbol_cmp}
use Rattle.mg_word.specs.Forms.{forms_of, is_among, is_restricted}
use Rattle.mg_word.specs.Facts.{ProblemData, IsProblem, IsClause, is_symbol, is_light_form, literal_fits, has_atom, literal_variables, are_choices}
use Rattle.mg_word.specs.declared.symbol.Kind.TheVariants.{Word}
use Rattle.mg_word.specs.declared.item.Item.{Item}
use Rattle.mg_word.specs.declared.lit.Lit.{Lit}
use Rattle.mg_word.specs.declared.clause.Clause.{Clause}
use Rattle.mg_word.specs.declared.clause.ClauseLit.{ClauseLit}
use Rattle.mg_word.specs.declared.clause.ClauseLit.TheVariants.{Lit as Literal}
use Rattle.std.proofs.lemmas.Bool.{leb-true}
use Rattle.mg_word.proofs.Members.{both_true}
use Rattle.mg_word.proofs.Narrow.{few_positive, forms_narrow}

-- how the problems are written
abbrev pub word_symbol : ℕ → ℕ → Symbol
word_symbol byte arity = record { name = byte ∷ []; arity = arity; kind = Word }

abbrev pub plus : List Item → ClauseLit
plus pattern = Literal (record { negative = false; pattern = pattern })

abbrev pub minus : List Item → ClauseLit
minus pattern = Literal (record { negative = true; pattern = pattern })

abbrev pub clause_of : List ClauseLit → List (List ℕ) → List (List ℕ) → Clause
clause_of literals variables conclude = record {
  name = record { kind = Word; text = 99 ∷ [] };
  place = record { file = 0; line = 1; column = 1 };
  literals = literals;
  variables = variables;
  conclude = conclude;
}

abbrev pub problem_of : List Symbol → List Clause → ProblemData
problem_of symbols clauses = record { symbols = symbols; files = (112 ∷ []) ∷ []; clauses = clauses; forms = forms_of clauses }

abbrev pub positive : List ℕ → Lit
positive word = record { negative = false; word = word }

abbrev pub negative : List ℕ → Lit
negative word = record { negative = true; word = word }

-- a clause without variables keeps what each clause keeps where its tests pass
pub ground_clause : (table : List Symbol) (literals : List ClauseLit) (conclude : List (List ℕ)) → list_all (literal_fits table 0) literals ≡ true → list_all has_atom literals ≡ true → list_all (are_choices 0 literals) conclude ≡ true
    → list_all (λ chosen. nat_le (length chosen) 64) conclude ≡ true → length literals ≤ 64 → IsClause table 1 (clause_of literals [] conclude)
ground_clause table literals conclude fine atoms chosen short few = record {
  fitting = fine;
  atoms = atoms;
  occurring = λ variable below. absurd (omega (arith, below));
  choices = chosen;
  positives = let positive = few_positive literals in omega (arith, few, positive);
  positions = each conclude short;
  place = omega arith;
  literals = omega (arith, few);
  variables = omega arith;
}
  where
    each : (conclude : List (List ℕ)) → list_all (λ chosen. nat_le (length chosen) 64) conclude ≡ true → All (λ chosen. length chosen ≤ 64) conclude
    each [] all = All-nil (λ chosen. length chosen ≤ 64)
    each (chosen ∷ conclude) all =
        let both = both_true (nat_le (length chosen) 64) (list_all (λ chosen. nat_le (length chosen) 64) conclude) all in
        All-cons (λ chosen. length chosen ≤ 64) chosen conclude (leb-true (length chosen) 64 both.0) (each conclude both.1)

-- and so does one with one variable, which is in a literal
pub clause_of_one : (table : List Symbol) (literals : List ClauseLit) → list_all (literal_fits table 1) literals ≡ true → list_all has_atom literals ≡ true → is_among (flat_map literal_variables literals) 0 ≡ true → length literals ≤ 64
    → IsClause table 1 (clause_of literals ((88 ∷ []) ∷ []) [])
clause_of_one table literals fine atoms there few = record {
  fitting = fine;
  atoms = atoms;
  occurring = λ variable below. subst (λ n. is_among (flat_map literal_variables literals) n ≡ true) (let same : 0 ≡ variable = omega (arith, below) in same) there;
  choices = refl;
  positives = let positive = few_positive literals in omega (arith, few, positive);
  positions = All-nil (λ chosen. length chosen ≤ 64);
  place = omega arith;
  literals = omega (arith, few);
  variables = omega arith;
}

-- each symbol of the table stands before the next
abbrev pub stands_in_order : List Symbol → Bool
stands_in_order [] = true
stands_in_order (symbol ∷ []) = true
stands_in_order (symbol ∷ next ∷ table) = is_lt (symbol_cmp symbol next) && stands_in_order (next ∷ table)

-- so the symbols are sorted and all different
strict_table : (table : List Symbol) → stands_in_order table ≡ true → (k : ℕ) (d : Symbol) → k + 1 < length table → symbol_cmp (get_or table k d) (get_or table (k + 1) d) ≡ Less
strict_table table test k d below = subst (λ next. symbol_cmp (get_or table k d) (get_or table next d) ≡ Less) (sym (add-one k)) (each table test k (omega arith))
  where
    each : (table : List Symbol) → stands_in_order table ≡ true → (k : ℕ) → suc k < length table → symbol_cmp (get_or table k d) (get_or table (suc k) d) ≡ Less
    each [] test k below = absurd (omega arith)
    each (symbol ∷ []) test k below = absurd (omega arith)
    each (symbol ∷ next ∷ table) test zero below = is_less (symbol_cmp symbol next) (both_true (is_lt (symbol_cmp symbol next)) (stands_in_order (next ∷ table)) test).0
    each (symbol ∷ next ∷ table) test (suc k) below = each (next ∷ table) (both_true (is_lt (symbol_cmp symbol next)) (stands_in_order (next ∷ table)) test).1 k (omega arith)

sorted_table : (table : List Symbol) → stands_in_order table ≡ true → IsSorted symbol_cmp table
sorted_table table test k d above below = not_less_back (get_or table k d) (get_or table (k + 1) d) (strict_table table test k d below)
  where
    not_less_back : (a b : Symbol) → symbol_cmp a b ≡ Less → is_lt (symbol_cmp b a) ≡ false
    not_less_back a b less = ap is_lt (symbol_total.antisymm b a ∙ ap ordering_reverse less)

different_table : (table : List Symbol) → stands_in_order table ≡ true → AllPairs (λ a b. a ≢ b) table
different_table table test i j d before within same =
    let sorted = sorted_from_all_adjacent symbol_total table d (λ k. strict_table table test k d) in
    let less = Less-from_sorted symbol_cmp table i j d sorted before within in
    let tied = ap (symbol_cmp (get_or table i d)) (sym same) ∙ tied_itself symbol_total (get_or table i d) in
    cc

-- clauses over one file, whose tests pass, make a problem
pub problem_is_real : (symbols : List Symbol) (clauses : List Clause) → list_all is_symbol symbols ≡ true → All (IsClause symbols 1) clauses → length clauses ≤ 64 → list_all is_restricted (forms_of clauses) ≡ true
    → stands_in_order symbols ≡ true → list_all is_light_form (forms_of clauses) ≡ true → length (forms_of clauses) ≤ 64 → IsProblem (problem_of symbols clauses)
problem_is_real symbols clauses named each few restricted ordered light few_forms = record {
  input = record {
    named = named;
    different = different_table symbols ordered;
    each = each;
    few = omega (arith, few);
  };
  formed = refl;
  restricted = restricted;
  narrow = forms_narrow symbols 1 clauses each;
  ordered = sorted_table symbols ordered;
  light = light;
  few_forms = omega (arith, few_forms);
}
