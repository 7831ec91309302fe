-- What a formula's tree adds to an empty draft is the meaning of its literals.
use Rattle.cnf_grammar.proofs.Common.{◌≡◌, ℕ, suc, pred, Bool, true, false, List, [], ◌∷◌, ◌++◌, map, length, refl, sym, ◌∙◌, ap, ap₂, append_assoc, append-nil, Term, variable, number, distinct, compound, Arguments, no_arguments, arguments, Terms, no_terms, then_term, truth, falsity, predicate, Literal, positive, negative, Formula, bracketed, disjunction, Kind, word_kind, word_text, Symbol, Item, symbol_item, variable_item, count_terms, count_arguments, variables_of_term, variables_of_arguments, variables_of_terms, variables_of_literal, each_once, items_of_term, items_of_arguments, items_of_terms, ClauseLiteral, clause_literal, Draft, empty_draft, with_variable, add_argument, first_argument, close_arguments, finish, draft_of}
use Rattle.std.proofs.Common.{flat_map}
use Rattle.cnf_grammar.proofs.Variables.{with_variables, with_variables-append, Extends, extends_with, index_final, once_is}
use Rattle.cnf_grammar.proofs.Collected.{add_term, add_arguments, add_terms, add_literal, add_literals, add_formula}

abbrev pub draft : List ClauseLiteral → Bool → List Item → List ℕ → List (List ℕ) → Draft
draft literals is_negative atom open_words variables = record { literals = literals; is_negative = is_negative; atom = atom; open_words = open_words; variables = variables }

abbrev pub symbol : Kind → List ℕ → ℕ → Symbol
symbol kind text arity = record { kind = kind; text = text; arity = arity }

-- one more argument behind the items a
argument_added : (a : List Item) (kind : Kind) (text : List ℕ) (k : ℕ) (b : List Item) → add_argument (length a) (a ++ symbol_item (symbol kind text k) ∷ b) ≡ a ++ symbol_item (symbol kind text (suc k)) ∷ b
argument_added [] kind text k b = refl
argument_added (x ∷ a) kind text k b = ap (λ u. x ∷ u) (argument_added a kind text k b)

length_last : (a : List Item) (x : Item) → length (a ++ x ∷ []) ≡ suc (length a)
length_last [] x = refl
length_last (y ∷ a) x = ap suc (length_last a x)

first_added : (ls : List ClauseLiteral) (n : Bool) (a : List Item) (kind : Kind) (text : List ℕ) (o : List ℕ) (v : List (List ℕ)) → first_argument (draft ls n (a ++ symbol_item (symbol kind text 0) ∷ []) o v) ≡ draft ls n (a ++ symbol_item (symbol kind text 1) ∷ []) (length a ∷ o) v
first_added ls n a kind text o v =
    ap (λ k. draft ls n (add_argument (pred k) (a ++ symbol_item (symbol kind text 0) ∷ [])) (pred k ∷ o) v) (length_last a (symbol_item (symbol kind text 0)))
    ∙ ap (λ u. draft ls n u (length a ∷ o) v) (argument_added a kind text 0 [])

-- the arity when terms were added one by one
abbrev after_terms : ℕ → Terms → ℕ
after_terms k no_terms = k
after_terms k (then_term term more) = after_terms (suc k) more

after_suc : (k : ℕ) (more : Terms) → after_terms (suc k) more ≡ suc (after_terms k more)
after_suc k no_terms = refl
after_suc k (then_term term more) = after_suc (suc k) more

after_zero : (more : Terms) → after_terms 0 more ≡ count_terms more
after_zero no_terms = refl
after_zero (then_term term more) = after_suc 0 more ∙ ap suc (after_zero more)

split_extends : (final v xs ys : List (List ℕ)) → Extends final (with_variables v (xs ++ ys)) → Extends final (with_variables (with_variables v xs) ys)
split_extends final v xs ys h = (h.0, h.1 ∙ ap (λ u. u ++ h.0) (with_variables-append v xs ys))

mutual
  pub adds-term : (term : Term) (ls : List ClauseLiteral) (n : Bool) (a : List Item) (o : List ℕ) (v final : List (List ℕ)) → Extends final (with_variables v (variables_of_term term)) → add_term term (draft ls n a o v) ≡ draft ls n (a ++ items_of_term final term) o (with_variables v (variables_of_term term))
  adds-term (variable text) ls n a o v final h = ap (λ i. draft ls n (a ++ variable_item i ∷ []) o (with_variable v text)) (index_final final v text h)
  adds-term (number text) ls n a o v final h = refl
  adds-term (distinct text) ls n a o v final h = refl
  adds-term (compound word args) ls n a o v final h = adds-arguments args ls n a word_kind (word_text word) o v final h

  pub adds-arguments : (args : Arguments) (ls : List ClauseLiteral) (n : Bool) (a : List Item) (kind : Kind) (text : List ℕ) (o : List ℕ) (v final : List (List ℕ)) → Extends final (with_variables v (variables_of_arguments args)) → add_arguments args (draft ls n (a ++ symbol_item (symbol kind text 0) ∷ []) o v) ≡ draft ls n (a ++ symbol_item (symbol kind text (count_arguments args)) ∷ items_of_arguments final args) o (with_variables v (variables_of_arguments args))
  adds-arguments no_arguments ls n a kind text o v final h = refl
  adds-arguments (arguments term more) ls n a kind text o v final h =
      let v1 = with_variables v (variables_of_term term) in
      let v2 = with_variables v1 (variables_of_terms more) in
      let h2 = split_extends final v (variables_of_term term) (variables_of_terms more) h in
      let h1 = extends_with final v1 (variables_of_terms more) h2 in
      let items = items_of_term final term in
      let first = ap (λ d. close_arguments (add_terms more (add_term term d))) (first_added ls n a kind text o v) in
      let second = ap (λ d. close_arguments (add_terms more d)) (adds-term term ls n (a ++ symbol_item (symbol kind text 1) ∷ []) (length a ∷ o) v final h1) in
      let third = ap (λ u. close_arguments (add_terms more (draft ls n u (length a ∷ o) v1))) (append_assoc a (symbol_item (symbol kind text 1) ∷ []) items) in
      let fourth = ap close_arguments (adds-terms more ls n a kind text 1 items o v1 final h2) in
      let fifth = ap₂ (λ k w. draft ls n (a ++ symbol_item (symbol kind text k) ∷ (items ++ items_of_terms final more)) o w) (after_suc 0 more ∙ ap suc (after_zero more)) (sym (with_variables-append v (variables_of_term term) (variables_of_terms more))) in
      first ∙ (second ∙ (third ∙ (fourth ∙ fifth)))

  pub adds-terms : (more : Terms) (ls : List ClauseLiteral) (n : Bool) (a : List Item) (kind : Kind) (text : List ℕ) (k : ℕ) (b : List Item) (o : List ℕ) (v final : List (List ℕ)) → Extends final (with_variables v (variables_of_terms more)) → add_terms more (draft ls n (a ++ symbol_item (symbol kind text k) ∷ b) (length a ∷ o) v) ≡ draft ls n (a ++ symbol_item (symbol kind text (after_terms k more)) ∷ (b ++ items_of_terms final more)) (length a ∷ o) (with_variables v (variables_of_terms more))
  adds-terms no_terms ls n a kind text k b o v final h = ap (λ u. draft ls n (a ++ symbol_item (symbol kind text k) ∷ u) (length a ∷ o) v) (sym (append-nil b))
  adds-terms (then_term term more) ls n a kind text k b o v final h =
      let v1 = with_variables v (variables_of_term term) in
      let h2 = split_extends final v (variables_of_term term) (variables_of_terms more) h in
      let h1 = extends_with final v1 (variables_of_terms more) h2 in
      let items = items_of_term final term in
      let first = ap (λ u. add_terms more (add_term term (draft ls n u (length a ∷ o) v))) (argument_added a kind text k b) in
      let second = ap (add_terms more) (adds-term term ls n (a ++ symbol_item (symbol kind text (suc k)) ∷ b) (length a ∷ o) v final h1) in
      let third = ap (λ u. add_terms more (draft ls n u (length a ∷ o) v1)) (append_assoc a (symbol_item (symbol kind text (suc k)) ∷ b) items) in
      let fourth = adds-terms more ls n a kind text (suc k) (b ++ items) o v1 final h2 in
      let fifth = ap₂ (λ u w. draft ls n (a ++ symbol_item (symbol kind text (after_terms (suc k) more)) ∷ u) (length a ∷ o) w) (append_assoc b items (items_of_terms final more)) (sym (with_variables-append v (variables_of_term term) (variables_of_terms more))) in
      first ∙ (second ∙ (third ∙ (fourth ∙ fifth)))

pub adds-literal : (literal : Literal) (ls : List ClauseLiteral) (v final : List (List ℕ)) → Extends final (with_variables v (variables_of_literal literal)) → finish (add_literal literal (draft ls false [] [] v)) ≡ draft (ls ++ clause_literal final literal ∷ []) false [] [] (with_variables v (variables_of_literal literal))
adds-literal (positive truth) ls v final h = refl
adds-literal (positive falsity) ls v final h = refl
adds-literal (negative truth) ls v final h = refl
adds-literal (negative falsity) ls v final h = refl
adds-literal (positive (predicate word args)) ls v final h = ap finish (adds-arguments args ls false [] word_kind (word_text word) [] v final h)
adds-literal (negative (predicate word args)) ls v final h = ap finish (adds-arguments args ls true [] word_kind (word_text word) [] v final h)

pub adds-literals : (more : List Literal) (d : Draft) (ls : List ClauseLiteral) (v final : List (List ℕ)) → finish d ≡ draft ls false [] [] v → Extends final (with_variables v (flat_map variables_of_literal more)) → finish (add_literals more d) ≡ draft (ls ++ map (clause_literal final) more) false [] [] (with_variables v (flat_map variables_of_literal more))
adds-literals [] d ls v final e h = e ∙ ap (λ u. draft u false [] [] v) (sym (append-nil ls))
adds-literals (literal ∷ more) d ls v final e h =
    let v1 = with_variables v (variables_of_literal literal) in
    let h2 = split_extends final v (variables_of_literal literal) (flat_map variables_of_literal more) h in
    let h1 = extends_with final v1 (flat_map variables_of_literal more) h2 in
    let next : finish (add_literal literal (finish d)) ≡ draft (ls ++ clause_literal final literal ∷ []) false [] [] v1 = ap (λ x. finish (add_literal literal x)) e ∙ adds-literal literal ls v final h1 in
    adds-literals more (add_literal literal (finish d)) (ls ++ clause_literal final literal ∷ []) v1 final next h2
    ∙ ap₂ (λ u w. draft u false [] [] w) (append_assoc ls (clause_literal final literal ∷ []) (map (clause_literal final) more)) (sym (with_variables-append v (variables_of_literal literal) (flat_map variables_of_literal more)))

-- a formula's tree adds its literals and variables
pub drafted : (formula : Formula) → add_formula formula empty_draft ≡ draft_of formula
drafted (bracketed formula) = drafted formula
drafted (disjunction first more) =
    let all = variables_of_literal first ++ flat_map variables_of_literal more in
    let final = each_once all in
    let v1 = with_variables [] (variables_of_literal first) in
    let h : Extends final (with_variables [] all) = ([], sym (once_is all) ∙ sym (append-nil (with_variables [] all))) in
    let h2 = split_extends final [] (variables_of_literal first) (flat_map variables_of_literal more) h in
    let h1 = extends_with final v1 (flat_map variables_of_literal more) h2 in
    adds-literals more (add_literal first empty_draft) (clause_literal final first ∷ []) v1 final (adds-literal first [] [] final h1) h2
    ∙ ap (λ w. draft (clause_literal final first ∷ map (clause_literal final) more) false [] [] w) (sym (with_variables-append [] (variables_of_literal first) (flat_map variables_of_literal more)) ∙ once_is all)
