-- What small statements say, as worked by hand.
use Rattle.cnf_grammar.proofs.Common.{◌≡◌, Bool, true, false, List, [], ◌∷◌, Some, None, codes, refl, Round, Square, Lower, Number, Punct, left_round, right_round, left_square, right_square, comma, bare_word, quoted_word, quoted_file, variable, compound, no_arguments, arguments, no_terms, then_term, truth, falsity, predicate, positive, negative, Formula, bracketed, disjunction, no_tokens, then_token, then_group, single, group, Annotations, annotations, every_clause, include, conclude_item, are_conclusions_above, words_of, names_literal, conclusions_of, unquoted, word_kind, symbol_item, variable_item, variables_of, never, signed, clause_literal, meaning, read_include}

-- 'it\'s' is it's
escaped_quote : unquoted (39 ∷ (105 ∷ (116 ∷ (92 ∷ (39 ∷ (115 ∷ (39 ∷ []))))))) ≡ codes "it's"
escaped_quote = refl

-- '' is empty
nothing_quoted : unquoted (codes "''") ≡ []
nothing_quoted = refl

-- p(Y,f(X,Y)) | ~q
abbrev two_literals : Formula
two_literals =
    bracketed (disjunction
    (positive (predicate (bare_word (codes "p")) (arguments (variable (codes "Y")) (then_term (compound (bare_word (codes "f")) (arguments (variable (codes "X")) (then_term (variable (codes "Y")) no_terms))) no_terms))))
    (negative (predicate (quoted_word (codes "'q'")) no_arguments) ∷ []))

-- Y comes first
first_occurrences : variables_of two_literals ≡ codes "Y" ∷ (codes "X" ∷ [])
first_occurrences = refl

-- p/2 0 f/2 1 0
prefix_order : clause_literal (variables_of two_literals) (positive (predicate (bare_word (codes "p")) (arguments (variable (codes "Y")) (then_term (compound (bare_word (codes "f")) (arguments (variable (codes "X")) (then_term (variable (codes "Y")) no_terms))) no_terms))))
    ≡ signed false (symbol_item (record { kind = word_kind; text = codes "p"; arity = 2 }) ∷ (variable_item 0 ∷ (symbol_item (record { kind = word_kind; text = codes "f"; arity = 2 }) ∷ (variable_item 1 ∷ (variable_item 0 ∷ [])))))
prefix_order = refl

-- ~$true never holds
not_true : clause_literal [] (negative truth) ≡ never
not_true = refl

-- [conclude([1,2]),other,conclude([])]
abbrev noted : Annotations
noted = annotations (record { first = single (Lower (codes "s")) refl refl; more = [] })
    (Some (record {
      first = single (Lower (codes "conclude")) refl refl ∷ (group Round (then_group Square (then_token (Number (codes "1") true) refl (then_token (Punct comma) refl (then_token (Number (codes "2") true) refl no_tokens))) no_tokens) ∷ []);
      more = (single (Lower (codes "other")) refl refl ∷ []) ∷ ((single (Lower (codes "conclude")) refl refl ∷ (group Round (then_group Square no_tokens no_tokens) ∷ [])) ∷ []);
    }))

two_items : conclusions_of noted ≡ (1 ∷ (2 ∷ [])) ∷ ([] ∷ [])
two_items = refl

-- an item with no number is conclude([])
empty_item : conclude_item [] ≡ Lower (codes "conclude") ∷ (Punct left_round ∷ (Punct left_square ∷ (Punct right_square ∷ (Punct right_round ∷ []))))
empty_item = refl

-- p | $false has one literal that a number may name
abbrev one_word : List Bool
one_word = words_of (disjunction (positive (predicate (bare_word (codes "p")) no_arguments)) (positive falsity ∷ []))

first_named : names_literal one_word 1 ≡ true
first_named = refl

second_not_named : names_literal one_word 2 ≡ false
second_not_named = refl

third_not_named : names_literal one_word 3 ≡ false
third_not_named = refl

-- numbers rise strictly from 1
abbrev three_words : List Bool
three_words = true ∷ (true ∷ (true ∷ []))

rising : are_conclusions_above three_words 0 (1 ∷ (3 ∷ [])) ≡ true
rising = refl

not_rising : are_conclusions_above three_words 0 (2 ∷ (2 ∷ [])) ≡ false
not_rising = refl

no_zero : are_conclusions_above three_words 0 (0 ∷ []) ≡ false
no_zero = refl

no_fourth : are_conclusions_above three_words 0 (1 ∷ (4 ∷ [])) ≡ false
no_fourth = refl

-- include('a b').
included : meaning (include (quoted_file (codes "'a b'") refl) every_clause) ≡ read_include (codes "a b") None
included = refl
