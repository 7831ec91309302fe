-- The facts of an input hold of its clauses over the sorted symbols.
use Rattle.std.proofs.Common.{◌≡◌, ℕ, zero, suc, ◌+◌, Bool, true, false, ◌&&◌, List, [], ◌∷◌, ◌++◌, length, map, refl, sym, ◌∙◌, ap, arith, All, Option, Some, None, slice_get, slice_index_or, nat_lt, IsPermutation, true≢false, if◌then◌else◌}
use Rattle.std.proofs.lemmas.List.{length-map}
use Rattle.std.proofs.lemmas.List.Elements.{All-nil, All-cons, All-head, All-tail}
use Rattle.std.proofs.lemmas.List.Sorted.{All-permutation}
use Rattle.std.proofs.lemmas.Option.{slice_get-map, slice_get_within}
use Rattle.std.specs.List.{list_all, flat_map}
use Rattle.std.specs.Option.{option_map, option_map_or}
use Rattle.mg_word.specs.Table.{Symbol}
use Rattle.mg_word.specs.Words.{are_patterns, numbered}
use Rattle.mg_word.specs.Forms.{conclusions_of, is_among}
use Rattle.mg_word.specs.Facts.{IsClause, begins_with_symbol, has_atom, literal_fits, literal_variables, is_choosable, are_choices, is_symbol}
use Rattle.mg_word.specs.SymbolOrder.{IsRenumbering}
use Rattle.mg_word.specs.declared.item.Item.{Item}
use Rattle.mg_word.specs.declared.item.Item.TheVariants.{Sym, Var}
use Rattle.mg_word.specs.declared.clause.ClauseLit.{ClauseLit}
use Rattle.mg_word.specs.declared.clause.ClauseLit.TheVariants.{True, False, Lit as Literal}
use Rattle.mg_word.specs.declared.clause.Clause.{Clause}
use Rattle.clause_form.specs.Renumbering.{pattern_renumbered, lit_renumbered, literal_renumbered, clause_renumbered}
use Rattle.mg_word.proofs.Members.{both_true}
use Rattle.clause_form.proofs.Renumbered.{all_mapped, variables_mapped}

-- a symbol that is held by the table, where its arguments are right, and by the other table
known_symbol : (before after : List Symbol) (n : List ℕ) (symbol : ℕ) (found : Option Symbol) (rest rest' : ℕ → Bool) → IsRenumbering before after n → slice_get before symbol ≡ found → ((k : ℕ) → rest k ≡ true → rest' k ≡ true)
    → option_map_or (λ (entry : Symbol). rest entry.arity) found false ≡ true → option_map_or (λ (entry : Symbol). rest' entry.arity) (slice_get after (slice_index_or n symbol 0)) false ≡ true
known_symbol before after n symbol None rest rest' r is on e = absurd (true≢false (sym e))
known_symbol before after n symbol (Some entry) rest rest' r is on e =
    let same = r.same symbol (slice_get_within before symbol entry is) in
    ap (λ found. option_map_or (λ (other : Symbol). rest' other.arity) found false) (same ∙ is) ∙ on entry.arity e

-- the pattern fits the other table
fits_mapped : (before after : List Symbol) (n : List ℕ) (variables wanted : ℕ) (items : List Item) → IsRenumbering before after n → are_patterns before variables wanted items ≡ true → are_patterns after variables wanted (pattern_renumbered n items) ≡ true
fits_mapped before after n variables zero [] r e = refl
fits_mapped before after n variables zero (item ∷ items) r e = absurd (true≢false (sym e))
fits_mapped before after n variables (suc wanted) [] r e = absurd (true≢false (sym e))
fits_mapped before after n variables (suc wanted) (Sym symbol ∷ items) r e =
    known_symbol before after n symbol (slice_get before symbol) (λ k. are_patterns before variables (k + wanted) items) (λ k. are_patterns after variables (k + wanted) (pattern_renumbered n items))
    r refl (λ k h. fits_mapped before after n variables (k + wanted) items r h) e
fits_mapped before after n variables (suc wanted) (Var variable ∷ items) r e =
    let both = both_true (nat_lt variable variables) (are_patterns before variables wanted items) e in
    rw both.0 (fits_mapped before after n variables wanted items r both.1)

literal_fits_mapped : (before after : List Symbol) (n : List ℕ) (variables : ℕ) (literal : ClauseLit) → IsRenumbering before after n → literal_fits before variables literal ≡ true → literal_fits after variables (literal_renumbered n literal) ≡ true
literal_fits_mapped before after n variables True r e = refl
literal_fits_mapped before after n variables False r e = refl
literal_fits_mapped before after n variables (Literal lit) r e = fits_mapped before after n variables 1 lit.pattern r e

literals_fit_mapped : (before after : List Symbol) (n : List ℕ) (variables : ℕ) (literals : List ClauseLit) → IsRenumbering before after n → list_all (literal_fits before variables) literals ≡ true → list_all (literal_fits after variables) (map (literal_renumbered n) literals) ≡ true
literals_fit_mapped before after n variables [] r e = refl
literals_fit_mapped before after n variables (literal ∷ literals) r e =
    let both = both_true (literal_fits before variables literal) (list_all (literal_fits before variables) literals) e in
    rw (literal_fits_mapped before after n variables literal r both.0) (literals_fit_mapped before after n variables literals r both.1)

begins_mapped : (n : List ℕ) (items : List Item) → begins_with_symbol (pattern_renumbered n items) ≡ begins_with_symbol items
begins_mapped n [] = refl
begins_mapped n (Sym symbol ∷ items) = refl
begins_mapped n (Var variable ∷ items) = refl

atom_mapped : (n : List ℕ) (literal : ClauseLit) → has_atom (literal_renumbered n literal) ≡ has_atom literal
atom_mapped n True = refl
atom_mapped n False = refl
atom_mapped n (Literal lit) = begins_mapped n lit.pattern

literal_variables_mapped : (n : List ℕ) (literals : List ClauseLit) → flat_map literal_variables (map (literal_renumbered n) literals) ≡ flat_map literal_variables literals
literal_variables_mapped n [] = refl
literal_variables_mapped n (True ∷ literals) = literal_variables_mapped n literals
literal_variables_mapped n (False ∷ literals) = literal_variables_mapped n literals
literal_variables_mapped n (Literal lit ∷ literals) =
    ap (λ r. r ++ flat_map literal_variables (map (literal_renumbered n) literals)) (variables_mapped n lit.pattern)
    ∙ ap (λ r. literal_variables (Literal lit) ++ r) (literal_variables_mapped n literals)

choosable_mapped : (n : List ℕ) (found : Option ClauseLit) → option_map_or is_choosable (option_map (literal_renumbered n) found) false ≡ option_map_or is_choosable found false
choosable_mapped n None = refl
choosable_mapped n (Some True) = refl
choosable_mapped n (Some False) = refl
choosable_mapped n (Some (Literal lit)) = refl

choosable_at : (n : List ℕ) (literals : List ClauseLit) (at : ℕ) → option_map_or is_choosable (numbered (map (literal_renumbered n) literals) at) false ≡ option_map_or is_choosable (numbered literals at) false
choosable_at n literals zero = refl
choosable_at n literals (suc k) = ap (λ found. option_map_or is_choosable found false) (slice_get-map (literal_renumbered n) literals k) ∙ choosable_mapped n (slice_get literals k)

choices_mapped : (n : List ℕ) (literals : List ClauseLit) (above : ℕ) (chosen : List ℕ) → are_choices above (map (literal_renumbered n) literals) chosen ≡ are_choices above literals chosen
choices_mapped n literals above [] = refl
choices_mapped n literals above (at ∷ chosen) =
    ap (λ b. nat_lt above at && (b && are_choices at (map (literal_renumbered n) literals) chosen)) (choosable_at n literals at)
    ∙ ap (λ b. nat_lt above at && (option_map_or is_choosable (numbered literals at) false && b)) (choices_mapped n literals at chosen)

all_choices_mapped : (n : List ℕ) (literals : List ClauseLit) (items : List (List ℕ)) → list_all (are_choices 0 (map (literal_renumbered n) literals)) items ≡ list_all (are_choices 0 literals) items
all_choices_mapped n literals [] = refl
all_choices_mapped n literals (chosen ∷ items) =
    ap (λ b. b && list_all (are_choices 0 (map (literal_renumbered n) literals)) items) (choices_mapped n literals 0 chosen) ∙ ap (λ b. are_choices 0 literals chosen && b) (all_choices_mapped n literals items)

conclusions_count : (n : List ℕ) (literals : List ClauseLit) → length (conclusions_of (map (literal_renumbered n) literals)) ≡ length (conclusions_of literals)
conclusions_count n [] = refl
conclusions_count n (True ∷ literals) = conclusions_count n literals
conclusions_count n (False ∷ literals) = conclusions_count n literals
conclusions_count n (Literal lit ∷ literals) = by_sign lit.negative (conclusions_count n literals)
  where
    by_sign : (negative : Bool) → length (conclusions_of (map (literal_renumbered n) literals)) ≡ length (conclusions_of literals)
        → length (if negative then conclusions_of (map (literal_renumbered n) literals) else lit_renumbered n lit ∷ conclusions_of (map (literal_renumbered n) literals)) ≡ length (if negative then conclusions_of literals else lit ∷ conclusions_of literals)
    by_sign true same = same
    by_sign false same = ap suc same

-- a clause keeps its facts
pub clause_kept : (before after : List Symbol) (n : List ℕ) (files : ℕ) (clause : Clause) → IsRenumbering before after n → IsClause before files clause → IsClause after files (clause_renumbered n clause)
clause_kept before after n files clause r facts = record {
  fitting = literals_fit_mapped before after n (length clause.variables) clause.literals r facts.fitting;
  atoms = all_mapped has_atom (literal_renumbered n) (atom_mapped n) clause.literals ∙ facts.atoms;
  occurring = λ variable h. ap (λ vs. is_among vs variable) (literal_variables_mapped n clause.literals) ∙ facts.occurring variable h;
  choices = all_choices_mapped n clause.literals clause.conclude ∙ facts.choices;
  positives = let e = conclusions_count n clause.literals in omega (arith, e, facts.positives);
  positions = facts.positions;
  place = facts.place;
  literals = let e = length-map clause.literals (literal_renumbered n) in omega (arith, facts.literals);
  variables = facts.variables;
}

All-from_list_all : {X : Type 0} (p : X → Bool) (xs : List X) → list_all p xs ≡ true → All (λ x. p x ≡ true) xs
All-from_list_all p [] e = All-nil (λ x. p x ≡ true)
All-from_list_all p (x ∷ xs) e =
    let both = both_true (p x) (list_all p xs) e in All-cons (λ x. p x ≡ true) x xs both.0 (All-from_list_all p xs both.1)

pub list_all-from_All : {X : Type 0} (p : X → Bool) (xs : List X) → All (λ x. p x ≡ true) xs → list_all p xs ≡ true
list_all-from_All p [] all = refl
list_all-from_All p (x ∷ xs) all = rw (All-head (λ x. p x ≡ true) x xs all) (list_all-from_All p xs (All-tail (λ x. p x ≡ true) x xs all))

-- the symbols are right in any order
pub symbols_kept : (before after : List Symbol) → IsPermutation before after → list_all is_symbol before ≡ true → list_all is_symbol after ≡ true
symbols_kept before after permuted e = list_all-from_All is_symbol after (All-permutation (λ symbol. is_symbol symbol ≡ true) before after permuted (All-from_list_all is_symbol before e))
