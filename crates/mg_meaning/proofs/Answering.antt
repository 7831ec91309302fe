-- What the tests of words and sets answer.
use Rattle.std.proofs.Common.{◌≡◌, ℕ, Bool, true, false, true≢false, List, [], ◌∷◌, length, take, Some, None, Contains, IsTrue, ◌↔◌, nat_eq, refl, sym, ap, ◌∙◌, append-nil}
use Rattle.std.proofs.lemmas.Bool.{eqb-true, eq-eqb}
use Rattle.mg_word.specs.Table.{Symbol}
use Rattle.mg_word.specs.Words.{are_terms, fits, complement_of}
use Rattle.mg_word.specs.Sets.{same_lit, is_clash_free}
use Rattle.mg_word.specs.OrderLaws.{lits_equal}
use Rattle.mg_word.specs.Facts.{ProblemData}
use Rattle.mg_word.specs.declared.lit.Lit.{Lit}
use Rattle.mg_word.specs.declared.form.Inst.{Inst}
use Rattle.mg_word.proofs.Members.{same_tests, never_true}
use Rattle.mg_meaning.specs.Instances.{are_literals, IsInstance}
use Rattle.mg_meaning.specs.Satisfaction.{Satisfies}
use Rattle.mg_meaning.specs.Violation.{is_violated}
use Rattle.mg_meaning.specs.Matching.{terms_length}
use Rattle.mg_meaning.proofs.Lists.{Contains-first}
use Rattle.mg_meaning.proofs.Terms.{terms_length_fits, terms_length-append}
use Rattle.mg_meaning.proofs.Excluded.{satisfied_fine, satisfies_where_saturated}
use Rattle.mg_meaning.proofs.Listings.{take_all}
use Rattle.mg_meaning.proofs.LeastSteps.{none_listed, empty_list}

-- a word that fits is one term from its front to its end
whole_length : (table : List Symbol) (word : List ℕ) → fits table word ≡ true → terms_length table 1 word ≡ Some (length word)
whole_length table word fine = ap (terms_length table 1) (sym (append-nil word)) ∙ terms_length-append table word [] 1 fine

pub fits_size : (table : List Symbol) (word : List ℕ) (size : ℕ) → terms_length table 1 word ≡ Some size → nat_eq size (length word) ≡ fits table word
fits_size table word size found = same_tests (nat_eq size (length word)) (fits table word)
    (λ e. let whole : size ≡ length word = eqb-true size (length word) e in
    ap (are_terms table 1) (sym (ap (λ n. take n word) whole ∙ take_all word)) ∙ terms_length_fits table word 1 size found)
    (λ fine. let there = whole_length table word fine in let same : size ≡ length word = cc in eq-eqb size (length word) same)

pub fits_none : (table : List Symbol) (word : List ℕ) → terms_length table 1 word ≡ None → fits table word ≡ false
fits_none table word found = never_true (fits table word) (λ fine. let there = whole_length table word fine in let bad : ⊥ = cc in bad)

pub opposite_test : (held lit : Lit) (answer : Bool) → (IsTrue answer ↔ (held ≡ complement_of lit)) → answer ≡ same_lit held (complement_of lit)
opposite_test held lit answer exact = same_tests answer (same_lit held (complement_of lit)) (λ e. (lits_equal held (complement_of lit)).1 (exact.0 e)) (λ e. exact.1 ((lits_equal held (complement_of lit)).0 e))

-- of a clash-free set over the symbols: it satisfies the problem where no violated instance is listed
pub satisfying_test : (problem : ProblemData) (set : List Lit) (insts : List Inst) (answer : Bool) → ((inst : Inst) → Contains insts inst ↔ (IsInstance problem inst × IsTrue (is_violated set inst)))
    → is_clash_free set ≡ true → are_literals problem.symbols set ≡ true → answer ≡ nat_eq (length insts) 0 → IsTrue answer ↔ Satisfies set problem
satisfying_test problem set insts answer exact free fine is = (
  (λ e. (satisfies_where_saturated set problem).1 (free, fine, none_listed problem set insts exact (empty_list insts (eqb-true (length insts) 0 (sym is ∙ e))))),
  (λ satisfied. is ∙ eq-eqb (length insts) 0 (none_there insts exact satisfied)),
)
  where
    none_there : (some : List Inst) → ((inst : Inst) → Contains some inst ↔ (IsInstance problem inst × IsTrue (is_violated set inst))) → Satisfies set problem → length some ≡ 0
    none_there [] exact satisfied = refl
    none_there (inst ∷ some) exact satisfied =
        let own = (exact inst).0 (Contains-first inst some) in
        absurd (true≢false (sym own.1 ∙ satisfied_fine set problem satisfied inst own.0))
