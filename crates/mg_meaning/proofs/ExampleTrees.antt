-- Plain trees and a fold, worked by hand.
use Rattle.std.proofs.Common.{◌≡◌, ℕ, List, [], ◌∷◌, All, Contains, IsTrue, ◌↔◌, refl, sym, subst, inl, inr, arith}
use Rattle.std.specs.declared.cmp.Ordering.TheVariants.{Less, Equal, Greater}
use Rattle.std.proofs.lemmas.List.Elements.{All-nil, All-cons}
use Rattle.mg_word.specs.Facts.{ProblemData, IsProblem, IsClause}
use Rattle.mg_word.specs.declared.item.Item.TheVariants.{Sym, Var}
use Rattle.mg_word.specs.declared.lit.Lit.{Lit}
use Rattle.mg_word.specs.declared.form.Inst.{Inst}
use Rattle.mg_meaning.specs.Violation.{inst_cmp, IsLeast, IsSaturated}
use Rattle.mg_meaning.specs.Listing.{violated_in}
use Rattle.mg_meaning.specs.Folding.{folded}
use Rattle.mg_meaning.specs.PlainTree.{saturated, split, none, shut, child, Plain}
use Rattle.mg_meaning.specs.Instances.{IsInstance}
use Rattle.mg_meaning.specs.Violation.{is_violated}
use Rattle.mg_meaning.proofs.Lists.{among_from, Contains-first}
use Rattle.mg_meaning.proofs.Listings.{violated_exact}
use Rattle.mg_meaning.proofs.LeastSteps.{none_listed, least_listed, least_one}
use Rattle.mg_meaning.proofs.PlainShapes.{heavy_not_plain, heavy_child}
use Rattle.mg_meaning.proofs.ExampleProblems.{word_symbol, plus, minus, clause_of, problem_of, positive, ground_clause, clause_of_one, problem_is_real}

-- what is listed alone is the least violated instance, and where nothing is listed the branch is saturated
least_alone : (problem : ProblemData) → IsProblem problem → (held : List Lit) (inst : Inst) → violated_in problem held ≡ inst ∷ [] → IsLeast problem held inst
least_alone problem real held inst only =
    least_listed problem held (inst ∷ []) 0 inst (λ one. subst (λ list. Contains list one ↔ (IsInstance problem one × IsTrue (is_violated held one))) only (violated_exact problem real held one)) (omega arith) (least_one (inst ∷ [])) refl

saturated_empty : (problem : ProblemData) → IsProblem problem → (held : List Lit) → violated_in problem held ≡ [] → IsSaturated problem held
saturated_empty problem real held empty = none_listed problem held (violated_in problem held) (violated_exact problem real held) empty

-- ---- p|p: the second child is closed at once, since its literal is barred

abbrev p : Lit
p = positive (0 ∷ [])

abbrev twice : ProblemData
twice = problem_of (word_symbol 112 0 ∷ []) (clause_of (plus (Sym 0 ∷ []) ∷ plus (Sym 0 ∷ []) ∷ []) [] [] ∷ [])

each_twice : All (IsClause twice.symbols 1) twice.clauses
each_twice =
    All-cons (IsClause twice.symbols 1) (clause_of (plus (Sym 0 ∷ []) ∷ plus (Sym 0 ∷ []) ∷ []) [] []) []
    (ground_clause twice.symbols (plus (Sym 0 ∷ []) ∷ plus (Sym 0 ∷ []) ∷ []) [] refl refl refl refl (omega arith))
    (All-nil (IsClause twice.symbols 1))

twice_real : IsProblem twice
twice_real = problem_is_real twice.symbols twice.clauses refl each_twice (omega arith) refl refl refl (omega arith)

abbrev twice_inst : Inst
twice_inst = record { form = 1; subst = []; premises = []; conclusions = p ∷ p ∷ [] }

one_extension : Plain twice 1 [] [] 1
one_extension = (
  split twice_inst (child saturated (shut none)),
  (
    least_alone twice twice_real [] twice_inst refl,
    omega arith,
    omega arith,
    (refl, saturated_empty twice twice_real (p ∷ []) refl, (refl, tt)),
  ),
  refl,
)

-- ---- p(a); ~p(X)|p(f(X)): each branch comes to a heavy instance

abbrev endless : ProblemData
endless = problem_of (word_symbol 97 0 ∷ word_symbol 102 1 ∷ word_symbol 112 1 ∷ [])
    (clause_of (plus (Sym 2 ∷ Sym 0 ∷ []) ∷ []) [] [] ∷ clause_of (minus (Sym 2 ∷ Var 0 ∷ []) ∷ plus (Sym 2 ∷ Sym 1 ∷ Var 0 ∷ []) ∷ []) ((88 ∷ []) ∷ []) [] ∷ [])

each_endless : All (IsClause endless.symbols 1) endless.clauses
each_endless =
    All-cons (IsClause endless.symbols 1) (clause_of (plus (Sym 2 ∷ Sym 0 ∷ []) ∷ []) [] []) (clause_of (minus (Sym 2 ∷ Var 0 ∷ []) ∷ plus (Sym 2 ∷ Sym 1 ∷ Var 0 ∷ []) ∷ []) ((88 ∷ []) ∷ []) [] ∷ [])
    (ground_clause endless.symbols (plus (Sym 2 ∷ Sym 0 ∷ []) ∷ []) [] refl refl refl refl (omega arith))
    (All-cons (IsClause endless.symbols 1) (clause_of (minus (Sym 2 ∷ Var 0 ∷ []) ∷ plus (Sym 2 ∷ Sym 1 ∷ Var 0 ∷ []) ∷ []) ((88 ∷ []) ∷ []) []) []
    (clause_of_one endless.symbols (minus (Sym 2 ∷ Var 0 ∷ []) ∷ plus (Sym 2 ∷ Sym 1 ∷ Var 0 ∷ []) ∷ []) refl refl refl (omega arith))
    (All-nil (IsClause endless.symbols 1)))

endless_real : IsProblem endless
endless_real = problem_is_real endless.symbols endless.clauses refl each_endless (omega arith) refl refl refl (omega arith)

abbrev first_inst : Inst
first_inst = record { form = 1; subst = []; premises = []; conclusions = positive (2 ∷ 0 ∷ []) ∷ [] }

abbrev second_inst : Inst
second_inst = record { form = 2; subst = (0 ∷ []) ∷ []; premises = positive (2 ∷ 0 ∷ []) ∷ []; conclusions = positive (2 ∷ 1 ∷ 0 ∷ []) ∷ [] }

-- with the limit 1 the root itself is heavy
none_at_one : (count : ℕ) → Plain endless 1 [] [] count → ⊥
none_at_one count plain = heavy_not_plain endless 1 [] [] first_inst (least_alone endless endless_real [] first_inst refl) (omega arith) count plain

-- with the limit 2 its child is
none_at_two : (count : ℕ) → Plain endless 2 [] [] count → ⊥
none_at_two count plain =
    heavy_child endless 2 [] [] first_inst (positive (2 ∷ 0 ∷ [])) [] (least_alone endless endless_real [] first_inst refl) refl refl
    (heavy_not_plain endless 2 (positive (2 ∷ 0 ∷ []) ∷ []) [] second_inst (least_alone endless endless_real (positive (2 ∷ 0 ∷ []) ∷ []) second_inst refl) (omega arith)) count plain

-- ---- a fold: b -> x;y, where the lemma of the second child has x and z outside

folded_example : folded (record { form = 1; subst = []; premises = positive (0 ∷ []) ∷ []; conclusions = positive (1 ∷ []) ∷ positive (2 ∷ []) ∷ [] })
    (record { inside = positive (1 ∷ []) ∷ []; outside = [] } ∷ record { inside = positive (2 ∷ []) ∷ positive (4 ∷ []) ∷ []; outside = positive (1 ∷ []) ∷ positive (3 ∷ []) ∷ [] } ∷ [])
    ≡ record { inside = positive (0 ∷ []) ∷ positive (4 ∷ []) ∷ []; outside = positive (3 ∷ []) ∷ [] }
folded_example = refl

-- ---- ~r(X)|p(X); ~s(X)|p(X) at r(b), s(a): of two instances of one weight the form decides, though the other has the lesser term

abbrev tie : ProblemData
tie = problem_of (word_symbol 97 0 ∷ word_symbol 98 0 ∷ word_symbol 112 1 ∷ word_symbol 114 1 ∷ word_symbol 115 1 ∷ [])
    (clause_of (minus (Sym 3 ∷ Var 0 ∷ []) ∷ plus (Sym 2 ∷ Var 0 ∷ []) ∷ []) ((88 ∷ []) ∷ []) [] ∷ clause_of (minus (Sym 4 ∷ Var 0 ∷ []) ∷ plus (Sym 2 ∷ Var 0 ∷ []) ∷ []) ((88 ∷ []) ∷ []) [] ∷ [])

each_tie : All (IsClause tie.symbols 1) tie.clauses
each_tie =
    All-cons (IsClause tie.symbols 1) (clause_of (minus (Sym 3 ∷ Var 0 ∷ []) ∷ plus (Sym 2 ∷ Var 0 ∷ []) ∷ []) ((88 ∷ []) ∷ []) []) (clause_of (minus (Sym 4 ∷ Var 0 ∷ []) ∷ plus (Sym 2 ∷ Var 0 ∷ []) ∷ []) ((88 ∷ []) ∷ []) [] ∷ [])
    (clause_of_one tie.symbols (minus (Sym 3 ∷ Var 0 ∷ []) ∷ plus (Sym 2 ∷ Var 0 ∷ []) ∷ []) refl refl refl (omega arith))
    (All-cons (IsClause tie.symbols 1) (clause_of (minus (Sym 4 ∷ Var 0 ∷ []) ∷ plus (Sym 2 ∷ Var 0 ∷ []) ∷ []) ((88 ∷ []) ∷ []) []) []
    (clause_of_one tie.symbols (minus (Sym 4 ∷ Var 0 ∷ []) ∷ plus (Sym 2 ∷ Var 0 ∷ []) ∷ []) refl refl refl (omega arith))
    (All-nil (IsClause tie.symbols 1)))

tie_real : IsProblem tie
tie_real = problem_is_real tie.symbols tie.clauses refl each_tie (omega arith) refl refl refl (omega arith)

abbrev by_first_form : Inst
by_first_form = record { form = 1; subst = (1 ∷ []) ∷ []; premises = positive (3 ∷ 1 ∷ []) ∷ []; conclusions = positive (2 ∷ 1 ∷ []) ∷ [] }

abbrev by_second_form : Inst
by_second_form = record { form = 2; subst = (0 ∷ []) ∷ []; premises = positive (4 ∷ 0 ∷ []) ∷ []; conclusions = positive (2 ∷ 0 ∷ []) ∷ [] }

abbrev tie_held : List Lit
tie_held = positive (3 ∷ 1 ∷ []) ∷ positive (4 ∷ 0 ∷ []) ∷ []

both_listed : violated_in tie tie_held ≡ by_first_form ∷ by_second_form ∷ []
both_listed = refl

form_decides : IsLeast tie tie_held by_first_form
form_decides = record {
  instance = own.0;
  violated = own.1;
  first = λ other real violated less. elim (among_from (violated_in tie tie_held) other ((violated_exact tie tie_real tie_held other).1 (real, violated))) [
    | inl same ↦ let bad : Equal ≡ Less = subst (λ (one : Inst). inst_cmp one by_first_form ≡ Less) (sym same) less in cc
    | inr later ↦ elim later [
      | inl same ↦ let bad : Greater ≡ Less = subst (λ (one : Inst). inst_cmp one by_first_form ≡ Less) (sym same) less in cc
      | inr bad ↦ bad
    ]
  ];
}
  where
    own : IsInstance tie by_first_form × IsTrue (is_violated tie_held by_first_form)
    own = (violated_exact tie tie_real tie_held by_first_form).0 (Contains-first by_first_form (by_second_form ∷ []))
