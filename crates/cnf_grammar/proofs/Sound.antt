-- Each clause that a statement says is sound: its literals are whole atoms, and its variables are those that occur.
use Rattle.cnf_grammar.proofs.Common.{◌≡◌, ℕ, suc, ◌+◌, ◌<◌, Bool, true, false, ◌&&◌, inl, inr, cond, nat_eq, List, [], ◌∷◌, ◌++◌, map, length, refl, sym, ◌∙◌, ap, arith, append_assoc, append-nil, zero-add, suc-add, bytes_eq, nat_tests, bytes_eq-Decides, list_all, flat_map, and_true, or_true, Name, Term, variable, number as numeral, distinct, compound, Arguments, no_arguments, arguments, Terms, no_terms, then_term, truth, falsity, predicate, Literal, positive, negative, Formula, Annotations, literals_of, Item, count_arguments, count_terms, variables_of_term, variables_of_arguments, variables_of_terms, variables_of_literal, variables_of, index_of, items_of_term, items_of_arguments, items_of_terms, clause_literal, clause_of, has_text, are_terms, is_whole, item_variables, literal_variables, IsSound}
use Rattle.std.proofs.lemmas.Grind.{flat_map-append}
use Rattle.std.proofs.lemmas.List.{map-append}
use Rattle.mg_word.specs.Forms.{is_among}
use Rattle.cnf_grammar.proofs.Once.{Covers, covers_first, covers_second, once_covers, once_numbered, number_known}

-- terms one after another
whole_both : (n count wanted : ℕ) (one more rest : List Item) → ((w : ℕ) (r : List Item) → are_terms n (suc w) (one ++ r) ≡ are_terms n w r) → are_terms n (count + wanted) (more ++ rest) ≡ are_terms n wanted rest → are_terms n (suc count + wanted) ((one ++ more) ++ rest) ≡ are_terms n wanted rest
whole_both n count wanted one more rest first later =
    ap (λ k. are_terms n k ((one ++ more) ++ rest)) (suc-add count wanted) ∙ (ap (are_terms n (suc (count + wanted))) (append_assoc one more rest) ∙ (first (count + wanted) (more ++ rest) ∙ later))

mutual
  -- the items of a term over the variables are one term
  pub whole-term : (variables : List (List ℕ)) → (term : Term) (wanted : ℕ) (rest : List Item) → Covers variables (variables_of_term term) → are_terms (length variables) (suc wanted) (items_of_term variables term ++ rest) ≡ are_terms (length variables) wanted rest
  whole-term variables (variable text) wanted rest all =
      let itself : bytes_eq text text ≡ true = (bytes_eq-Decides text text).1 refl in
      let there = all text (ap (λ c. cond c true false) itself) in
      ap (λ b. b && are_terms (length variables) wanted rest) (number_known variables text ∙ there)
  whole-term variables (numeral text) wanted rest all = ap (λ k. are_terms (length variables) k rest) (zero-add wanted)
  whole-term variables (distinct text) wanted rest all = ap (λ k. are_terms (length variables) k rest) (zero-add wanted)
  whole-term variables (compound word args) wanted rest all = whole-arguments variables args wanted rest all

  -- those of arguments are so many terms
  pub whole-arguments : (variables : List (List ℕ)) → (args : Arguments) (wanted : ℕ) (rest : List Item) → Covers variables (variables_of_arguments args) → are_terms (length variables) (count_arguments args + wanted) (items_of_arguments variables args ++ rest) ≡ are_terms (length variables) wanted rest
  whole-arguments variables no_arguments wanted rest all = ap (λ k. are_terms (length variables) k rest) (zero-add wanted)
  whole-arguments variables (arguments first more) wanted rest all =
      whole_both (length variables) (count_terms more) wanted (items_of_term variables first) (items_of_terms variables more) rest
      (λ w r. whole-term variables first w r (covers_first variables (variables_of_term first) (variables_of_terms more) all))
      (whole-terms variables more wanted rest (covers_second variables (variables_of_term first) (variables_of_terms more) all))

  -- those of terms too
  pub whole-terms : (variables : List (List ℕ)) → (terms : Terms) (wanted : ℕ) (rest : List Item) → Covers variables (variables_of_terms terms) → are_terms (length variables) (count_terms terms + wanted) (items_of_terms variables terms ++ rest) ≡ are_terms (length variables) wanted rest
  whole-terms variables no_terms wanted rest all = ap (λ k. are_terms (length variables) k rest) (zero-add wanted)
  whole-terms variables (then_term term more) wanted rest all =
      whole_both (length variables) (count_terms more) wanted (items_of_term variables term) (items_of_terms variables more) rest
      (λ w r. whole-term variables term w r (covers_first variables (variables_of_term term) (variables_of_terms more) all))
      (whole-terms variables more wanted rest (covers_second variables (variables_of_term term) (variables_of_terms more) all))

whole_atom : (variables : List (List ℕ)) → (args : Arguments) → Covers variables (variables_of_arguments args) → are_terms (length variables) (count_arguments args + 0) (items_of_arguments variables args) ≡ true
whole_atom variables args all = ap (are_terms (length variables) (count_arguments args + 0)) (sym (append-nil (items_of_arguments variables args))) ∙ whole-arguments variables args 0 [] all

-- a literal over the variables is whole
pub whole_literal : (variables : List (List ℕ)) → (literal : Literal) → Covers variables (variables_of_literal literal) → is_whole (length variables) (clause_literal variables literal) ≡ true
whole_literal variables (positive truth) all = refl
whole_literal variables (positive falsity) all = refl
whole_literal variables (positive (predicate word args)) all = whole_atom variables args all
whole_literal variables (negative truth) all = refl
whole_literal variables (negative falsity) all = refl
whole_literal variables (negative (predicate word args)) all = whole_atom variables args all

-- and so are several
pub whole_literals : (variables : List (List ℕ)) → (literals : List Literal) → Covers variables (flat_map variables_of_literal literals) → list_all (is_whole (length variables)) (map (clause_literal variables) literals) ≡ true
whole_literals variables [] all = refl
whole_literals variables (literal ∷ more) all =
    and_true (is_whole (length variables) (clause_literal variables literal)) (list_all (is_whole (length variables)) (map (clause_literal variables) more))
    (whole_literal variables literal (covers_first variables (variables_of_literal literal) (flat_map variables_of_literal more) all))
    (whole_literals variables more (covers_second variables (variables_of_literal literal) (flat_map variables_of_literal more) all))

numbered_both : (variables xs ys : List (List ℕ)) (items others : List Item) → flat_map item_variables items ≡ map (index_of variables) xs → flat_map item_variables others ≡ map (index_of variables) ys → flat_map item_variables (items ++ others) ≡ map (index_of variables) (xs ++ ys)
numbered_both variables xs ys items others one two =
    flat_map-append item_variables items others
    ∙ (ap (λ l. l ++ flat_map item_variables others) one ∙ (ap (λ l. map (index_of variables) xs ++ l) two ∙ sym (map-append (index_of variables) xs ys)))

mutual
  -- the variables of a term's items are those of the term, by number
  pub numbered-term : (variables : List (List ℕ)) → (term : Term) → flat_map item_variables (items_of_term variables term) ≡ map (index_of variables) (variables_of_term term)
  numbered-term variables (variable text) = refl
  numbered-term variables (numeral text) = refl
  numbered-term variables (distinct text) = refl
  numbered-term variables (compound word args) = numbered-arguments variables args

  -- the same of arguments
  pub numbered-arguments : (variables : List (List ℕ)) → (args : Arguments) → flat_map item_variables (items_of_arguments variables args) ≡ map (index_of variables) (variables_of_arguments args)
  numbered-arguments variables no_arguments = refl
  numbered-arguments variables (arguments first more) =
      numbered_both variables (variables_of_term first) (variables_of_terms more) (items_of_term variables first) (items_of_terms variables more) (numbered-term variables first) (numbered-terms variables more)

  -- the same of terms
  pub numbered-terms : (variables : List (List ℕ)) → (terms : Terms) → flat_map item_variables (items_of_terms variables terms) ≡ map (index_of variables) (variables_of_terms terms)
  numbered-terms variables no_terms = refl
  numbered-terms variables (then_term term more) =
      numbered_both variables (variables_of_term term) (variables_of_terms more) (items_of_term variables term) (items_of_terms variables more) (numbered-term variables term) (numbered-terms variables more)

numbered_literal : (variables : List (List ℕ)) → (literal : Literal) → literal_variables (clause_literal variables literal) ≡ map (index_of variables) (variables_of_literal literal)
numbered_literal variables (positive truth) = refl
numbered_literal variables (positive falsity) = refl
numbered_literal variables (positive (predicate word args)) = numbered-arguments variables args
numbered_literal variables (negative truth) = refl
numbered_literal variables (negative falsity) = refl
numbered_literal variables (negative (predicate word args)) = numbered-arguments variables args

-- the variables of a clause's literals are those of the written ones, by number
pub numbered_literals : (variables : List (List ℕ)) → (literals : List Literal) → flat_map literal_variables (map (clause_literal variables) literals) ≡ map (index_of variables) (flat_map variables_of_literal literals)
numbered_literals variables [] = refl
numbered_literals variables (literal ∷ more) =
    ap (λ l. l ++ flat_map literal_variables (map (clause_literal variables) more)) (numbered_literal variables literal)
    ∙ (ap (λ l. map (index_of variables) (variables_of_literal literal) ++ l) (numbered_literals variables more)
    ∙ sym (map-append (index_of variables) (variables_of_literal literal) (flat_map variables_of_literal more)))

equals_itself : (n : ℕ) → nat_eq n n ≡ true
equals_itself n = grind (arith, nat_tests)

-- the number of a text that is there is among the numbers of all
number_among : (variables texts : List (List ℕ)) (x : List ℕ) → has_text texts x ≡ true → is_among (map (index_of variables) texts) (index_of variables x) ≡ true
number_among variables [] x h = h
number_among variables (t ∷ texts) x h = by (bytes_eq t x) refl h (number_among variables texts x)
  where
    by : (b : Bool) → bytes_eq t x ≡ b → cond b true (has_text texts x) ≡ true → (has_text texts x ≡ true → is_among (map (index_of variables) texts) (index_of variables x) ≡ true) → is_among (map (index_of variables) (t ∷ texts)) (index_of variables x) ≡ true
    by true same k rest = or_true (nat_eq (index_of variables t) (index_of variables x)) (is_among (map (index_of variables) texts) (index_of variables x)) (inl (ap (λ y. nat_eq (index_of variables t) (index_of variables y)) (sym ((bytes_eq-Decides t x).0 same)) ∙ equals_itself (index_of variables t)))
    by false apart k rest = or_true (nat_eq (index_of variables t) (index_of variables x)) (is_among (map (index_of variables) texts) (index_of variables x)) (inr (rest k))

occurs : (formula : Formula) (number : ℕ) → number < length (variables_of formula) → is_among (flat_map literal_variables (map (clause_literal (variables_of formula)) (literals_of formula))) number ≡ true
occurs formula number below =
    let texts = flat_map variables_of_literal (literals_of formula) in
    let found = once_numbered texts number below in
    ap (λ l. is_among l number) (numbered_literals (variables_of formula) (literals_of formula))
    ∙ (ap (is_among (map (index_of (variables_of formula)) texts)) (sym found.1.1) ∙ number_among (variables_of formula) texts found.0 found.1.0)

-- each clause that the grammar says is sound
pub clause_sound : (name : Name) (role : List ℕ) (formula : Formula) (notes : Annotations) → IsSound (clause_of name role formula notes)
clause_sound name role formula notes = record {
  whole = whole_literals (variables_of formula) (literals_of formula) (once_covers (flat_map variables_of_literal (literals_of formula)));
  occurring = occurs formula;
}
