-- The forms of clauses with few conclusions have few conclusions.
use Rattle.std.proofs.Common.{◌≡◌, ◌≤◌, ◌<◌, ℕ, suc, ◌+◌, Bool, true, false, ◌||◌, List, [], ◌∷◌, map, length, nat_eq, nat_le, All, refl, arith, if◌then◌else◌}
use Rattle.std.proofs.lemmas.Bool.Decides.{nat_tests}
use Rattle.std.proofs.lemmas.List.Elements.{All-nil, All-cons, All-head, All-tail, All-append, All-map, All-weaker}
use Rattle.mg_word.specs.Facts.{IsClause, IsNarrow, most_conclusions}
use Rattle.mg_word.specs.Forms.{is_among, chosen_from, conclusions_of, is_always_true, plain_form, further_form, clause_forms, forms_from, forms_of}
use Rattle.mg_word.specs.Table.{Symbol}
use Rattle.mg_word.specs.declared.clause.Clause.{Clause}
use Rattle.mg_word.specs.declared.clause.ClauseLit.{ClauseLit}
use Rattle.mg_word.specs.declared.clause.ClauseLit.TheVariants.{True, False, Lit as Literal}

-- how many of the positions are that one or later
abbrev count_from : ℕ → List ℕ → ℕ
count_from at [] = 0
count_from at (k ∷ chosen) = if nat_le at k then suc (count_from at chosen) else count_from at chosen

counts_all : (at : ℕ) (chosen : List ℕ) → count_from at chosen ≤ length chosen
counts_all at [] = omega arith
counts_all at (k ∷ chosen) = by_test (nat_le at k) (counts_all at chosen)
  where
    by_test : (test : Bool) → count_from at chosen ≤ length chosen → (if test then suc (count_from at chosen) else count_from at chosen) ≤ length (k ∷ chosen)
    by_test true h = omega (arith, h)
    by_test false h = omega (arith, h)

-- of later positions there are no more
falls : (at : ℕ) (chosen : List ℕ) → count_from (at + 1) chosen ≤ count_from at chosen
falls at [] = omega arith
falls at (k ∷ chosen) = by_tests (nat_le (at + 1) k) (nat_le at k) refl refl (falls at chosen)
  where
    by_tests : (later here : Bool) → nat_le (at + 1) k ≡ later → nat_le at k ≡ here → count_from (at + 1) chosen ≤ count_from at chosen
        → (if later then suc (count_from (at + 1) chosen) else count_from (at + 1) chosen) ≤ (if here then suc (count_from at chosen) else count_from at chosen)
    by_tests true true a b h = omega (arith, h)
    by_tests true false a b h = absurd (grind (arith, nat_tests))
    by_tests false true a b h = omega (arith, h)
    by_tests false false a b h = omega (arith, h)

-- and fewer, where that position is among them
drops : (at : ℕ) (chosen : List ℕ) → is_among chosen at ≡ true → count_from (at + 1) chosen < count_from at chosen
drops at [] e = absurd cc
drops at (k ∷ chosen) e = by_tests (nat_eq k at) (nat_le (at + 1) k) (nat_le at k) refl refl refl (drops at chosen) e
  where
    by_tests : (same later here : Bool) → nat_eq k at ≡ same → nat_le (at + 1) k ≡ later → nat_le at k ≡ here → (is_among chosen at ≡ true → count_from (at + 1) chosen < count_from at chosen) → (same || is_among chosen at) ≡ true
        → (if later then suc (count_from (at + 1) chosen) else count_from (at + 1) chosen) < (if here then suc (count_from at chosen) else count_from at chosen)
    by_tests true true here s a b go t = absurd (grind (arith, nat_tests))
    by_tests true false false s a b go t = absurd (grind (arith, nat_tests))
    by_tests true false true s a b go t = let h = falls at chosen in omega (arith, h)
    by_tests false true true s a b go t = let h = go t in omega (arith, h)
    by_tests false true false s a b go t = absurd (grind (arith, nat_tests))
    by_tests false false true s a b go t = let h = go t in omega (arith, h)
    by_tests false false false s a b go t = go t

-- each chosen literal has a position of its own
few_chosen : (at : ℕ) (chosen : List ℕ) (literals : List ClauseLit) → length (chosen_from at chosen literals) ≤ count_from at chosen
few_chosen at chosen [] = omega arith
few_chosen at chosen (True ∷ literals) = let h = few_chosen (at + 1) chosen literals in let f = falls at chosen in omega (arith, h, f)
few_chosen at chosen (False ∷ literals) = let h = few_chosen (at + 1) chosen literals in let f = falls at chosen in omega (arith, h, f)
few_chosen at chosen (Literal lit ∷ literals) = by_test (is_among chosen at) refl (few_chosen (at + 1) chosen literals)
  where
    by_test : (test : Bool) → is_among chosen at ≡ test → length (chosen_from (at + 1) chosen literals) ≤ count_from (at + 1) chosen
        → length (if test then lit ∷ chosen_from (at + 1) chosen literals else chosen_from (at + 1) chosen literals) ≤ count_from at chosen
    by_test true e h = let f = drops at chosen e in omega (arith, h, f)
    by_test false e h = let f = falls at chosen in omega (arith, h, f)

-- a clause has no more positive literals than literals
pub few_positive : (literals : List ClauseLit) → length (conclusions_of literals) ≤ length literals
few_positive [] = omega arith
few_positive (True ∷ literals) = let h = few_positive literals in omega (arith, h)
few_positive (False ∷ literals) = let h = few_positive literals in omega (arith, h)
few_positive (Literal lit ∷ literals) = by_sign lit.negative (few_positive literals)
  where
    by_sign : (negative : Bool) → length (conclusions_of literals) ≤ length literals → length (if negative then conclusions_of literals else lit ∷ conclusions_of literals) ≤ suc (length literals)
    by_sign true h = omega (arith, h)
    by_sign false h = omega (arith, h)

further_narrow : (index : ℕ) (clause : Clause) (chosen : List ℕ) → length chosen ≤ most_conclusions → IsNarrow (further_form index clause chosen)
further_narrow index clause chosen few =
    let each = few_chosen 1 chosen clause.literals in
    let all = counts_all 1 chosen in
    omega (arith, few, each, all)

clause_narrow : (index : ℕ) (clause : Clause) (test : Bool) → length (conclusions_of clause.literals) ≤ most_conclusions → All (λ chosen. length chosen ≤ most_conclusions) clause.conclude
    → All IsNarrow (if test then [] else plain_form index clause ∷ map (further_form index clause) clause.conclude)
clause_narrow index clause true positives positions = All-nil IsNarrow
clause_narrow index clause false positives positions =
    All-cons IsNarrow (plain_form index clause) (map (further_form index clause) clause.conclude) positives
    (All-map IsNarrow (further_form index clause) clause.conclude (All-weaker (λ chosen. length chosen ≤ most_conclusions) (λ chosen. IsNarrow (further_form index clause chosen)) (further_narrow index clause) clause.conclude positions))

narrow_from : (table : List Symbol) (files at : ℕ) (clauses : List Clause) → All (IsClause table files) clauses → All IsNarrow (forms_from at clauses)
narrow_from table files at [] all = All-nil IsNarrow
narrow_from table files at (clause ∷ clauses) all =
    let first = All-head (IsClause table files) clause clauses all in
    All-append IsNarrow (clause_forms at clause) (forms_from (at + 1) clauses)
    (clause_narrow at clause (is_always_true clause.literals) first.positives first.positions)
    (narrow_from table files (at + 1) clauses (All-tail (IsClause table files) clause clauses all))

-- the forms of an input's clauses have few enough conclusions
pub forms_narrow : (table : List Symbol) (files : ℕ) (clauses : List Clause) → All (IsClause table files) clauses → All IsNarrow (forms_of clauses)
forms_narrow table files clauses all = narrow_from table files 0 clauses all
