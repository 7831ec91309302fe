-- Where tokens are clean, names are right for their kinds: what a tree says of its tokens holds of what it means.
use Rattle.cnf_grammar.proofs.Common.{◌≡◌, ℕ, zero, suc, ◌-◌, Bool, true, false, cond, ◌&&◌, ◌==◌, List, [], ◌∷◌, ◌++◌, map, length, take, drop, refl, sym, ◌∙◌, list_all, both_true, and_true, Distinct, Number, Punct, right_round, dot, Word, bare_word, quoted_word, Name, FileName, bare_file, quoted_file, Term, variable, number, distinct, compound, Arguments, no_arguments, arguments, Terms, no_terms, then_term, truth, falsity, predicate, Literal, positive, negative, Formula, bracketed, disjunction, Annotations, Selection, clause, include, literals_of, unescaped, unquoted, word_text, variables_of, items_of_term, items_of_arguments, items_of_terms, signed, clause_literal, clause_of, file_text, word_token, file_token, spell_term, spell_arguments, spell_terms, spell_literal, spell_literals, spell_formula, spell_annotations, spell_selection, spell_statement, item_suits, literal_suits, is_clean}
use Rattle.std.proofs.lemmas.List.Folds.{list_all-append}
use Rattle.mg_word.specs.Facts.{is_name_byte, is_plain_number}

-- a test that all elements pass, those of each part pass
all_first : {X : Type 0} (p : X → Bool) (xs ys : List X) → list_all p (xs ++ ys) ≡ true → list_all p xs ≡ true
all_first p xs ys h = (both_true (list_all p xs) (list_all p ys) (sym (list_all-append p xs ys) ∙ h)).0

all_second : {X : Type 0} (p : X → Bool) (xs ys : List X) → list_all p (xs ++ ys) ≡ true → list_all p ys ≡ true
all_second p xs ys h = (both_true (list_all p xs) (list_all p ys) (sym (list_all-append p xs ys) ∙ h)).1

all_joined : {X : Type 0} (p : X → Bool) (xs ys : List X) → list_all p xs ≡ true → list_all p ys ≡ true → list_all p (xs ++ ys) ≡ true
all_joined p xs ys h k = list_all-append p xs ys ∙ and_true (list_all p xs) (list_all p ys) h k

all_head : {X : Type 0} (p : X → Bool) (x : X) (xs : List X) → list_all p (x ∷ xs) ≡ true → p x ≡ true
all_head p x xs h = (both_true (p x) (list_all p xs) h).0

all_tail : {X : Type 0} (p : X → Bool) (x : X) (xs : List X) → list_all p (x ∷ xs) ≡ true → list_all p xs ≡ true
all_tail p x xs h = (both_true (p x) (list_all p xs) h).1

all_taken : {X : Type 0} (p : X → Bool) (n : ℕ) (xs : List X) → list_all p xs ≡ true → list_all p (take n xs) ≡ true
all_taken p zero xs h = refl
all_taken p (suc n) [] h = refl
all_taken p (suc n) (x ∷ xs) h = and_true (p x) (list_all p (take n xs)) (all_head p x xs h) (all_taken p n xs (all_tail p x xs h))

all_dropped : {X : Type 0} (p : X → Bool) (n : ℕ) (xs : List X) → list_all p xs ≡ true → list_all p (drop n xs) ≡ true
all_dropped p zero xs h = h
all_dropped p (suc n) [] h = refl
all_dropped p (suc n) (x ∷ xs) h = all_dropped p n xs (all_tail p x xs h)

-- taking escapes away leaves a part of the bytes
all_unescaped : (p : ℕ → Bool) (escaped : Bool) (bytes : List ℕ) → list_all p bytes ≡ true → list_all p (unescaped escaped bytes) ≡ true
all_unescaped p escaped [] h = refl
all_unescaped p true (byte ∷ bytes) h = and_true (p byte) (list_all p (unescaped false bytes)) (all_head p byte bytes h) (all_unescaped p false bytes (all_tail p byte bytes h))
all_unescaped p false (byte ∷ bytes) h =
    by (byte == 92) (all_unescaped p true bytes (all_tail p byte bytes h)) (and_true (p byte) (list_all p (unescaped false bytes)) (all_head p byte bytes h) (all_unescaped p false bytes (all_tail p byte bytes h)))
  where
    by : (b : Bool) → list_all p (unescaped true bytes) ≡ true → list_all p (byte ∷ unescaped false bytes) ≡ true → list_all p (cond b (unescaped true bytes) (byte ∷ unescaped false bytes)) ≡ true
    by true k l = k
    by false k l = l

-- and so does taking the quotes away
pub all_unquoted : (p : ℕ → Bool) (text : List ℕ) → list_all p text ≡ true → list_all p (unquoted text) ≡ true
all_unquoted p text h = all_unescaped p false (take (length text - 2) (drop 1 text)) (all_taken p (length text - 2) (drop 1 text) (all_dropped p 1 text h))

-- the text of a clean word has name bytes alone
pub clean_word : (word : Word) → is_clean (word_token word) ≡ true → list_all is_name_byte (word_text word) ≡ true
clean_word (bare_word text) h = h
clean_word (quoted_word text) h = all_unquoted is_name_byte text h

-- the name of a clean file too
pub clean_file : (file : FileName) → is_clean (file_token file) ≡ true → list_all is_name_byte (file_text file) ≡ true
clean_file (bare_file text) h = h
clean_file (quoted_file text _) h = all_unquoted is_name_byte text h

mutual
  -- the symbols of a clean term are right
  pub clean-term : (variables : List (List ℕ)) → (term : Term) → list_all is_clean (spell_term term) ≡ true → list_all item_suits (items_of_term variables term) ≡ true
  clean-term variables (variable text) h = refl
  clean-term variables (number text) h = and_true (is_plain_number text && true) true (and_true (is_plain_number text) true (all_head is_clean (Number text true) [] h) refl) refl
  clean-term variables (distinct text) h =
      and_true (list_all is_name_byte (unquoted text) && true) true (and_true (list_all is_name_byte (unquoted text)) true (all_unquoted is_name_byte text (all_head is_clean (Distinct text) [] h)) refl) refl
  clean-term variables (compound word args) h =
      and_true (list_all is_name_byte (word_text word)) (list_all item_suits (items_of_arguments variables args))
      (clean_word word (all_head is_clean (word_token word) (spell_arguments args) h)) (clean-arguments variables args (all_tail is_clean (word_token word) (spell_arguments args) h))

  -- those of clean arguments
  pub clean-arguments : (variables : List (List ℕ)) → (args : Arguments) → list_all is_clean (spell_arguments args) ≡ true → list_all item_suits (items_of_arguments variables args) ≡ true
  clean-arguments variables no_arguments h = refl
  clean-arguments variables (arguments first more) h =
      all_joined item_suits (items_of_term variables first) (items_of_terms variables more)
      (clean-term variables first (all_first is_clean (spell_term first) (spell_terms more ++ Punct right_round ∷ []) h))
      (clean-terms variables more (all_first is_clean (spell_terms more) (Punct right_round ∷ []) (all_second is_clean (spell_term first) (spell_terms more ++ Punct right_round ∷ []) h)))

  -- those of clean terms
  pub clean-terms : (variables : List (List ℕ)) → (terms : Terms) → list_all is_clean (spell_terms terms) ≡ true → list_all item_suits (items_of_terms variables terms) ≡ true
  clean-terms variables no_terms h = refl
  clean-terms variables (then_term term more) h =
      all_joined item_suits (items_of_term variables term) (items_of_terms variables more)
      (clean-term variables term (all_first is_clean (spell_term term) (spell_terms more) h)) (clean-terms variables more (all_second is_clean (spell_term term) (spell_terms more) h))

clean_atom : (variables : List (List ℕ)) → (word : Word) (args : Arguments) (is_negative : Bool) → list_all is_clean (word_token word ∷ spell_arguments args) ≡ true → literal_suits (signed is_negative (items_of_term variables (compound word args))) ≡ true
clean_atom variables word args is_negative h = clean-term variables (compound word args) h

-- those of a clean literal
pub clean_literal : (variables : List (List ℕ)) → (literal : Literal) → list_all is_clean (spell_literal literal) ≡ true → literal_suits (clause_literal variables literal) ≡ true
clean_literal variables (positive truth) h = refl
clean_literal variables (positive falsity) h = refl
clean_literal variables (positive (predicate word args)) h = clean_atom variables word args false h
clean_literal variables (negative truth) h = refl
clean_literal variables (negative falsity) h = refl
clean_literal variables (negative (predicate word args)) h = clean_atom variables word args true h

clean_literals : (variables : List (List ℕ)) → (literals : List Literal) → list_all is_clean (spell_literals literals) ≡ true → list_all literal_suits (map (clause_literal variables) literals) ≡ true
clean_literals variables [] h = refl
clean_literals variables (literal ∷ more) h =
    and_true (literal_suits (clause_literal variables literal)) (list_all literal_suits (map (clause_literal variables) more))
    (clean_literal variables literal (all_first is_clean (spell_literal literal) (spell_literals more) h)) (clean_literals variables more (all_second is_clean (spell_literal literal) (spell_literals more) h))

-- those of a clean formula
pub clean_formula : (variables : List (List ℕ)) → (formula : Formula) → list_all is_clean (spell_formula formula) ≡ true → list_all literal_suits (map (clause_literal variables) (literals_of formula)) ≡ true
clean_formula variables (bracketed formula) h = clean_formula variables formula (all_first is_clean (spell_formula formula) (Punct right_round ∷ []) h)
clean_formula variables (disjunction first more) h =
    and_true (literal_suits (clause_literal variables first)) (list_all literal_suits (map (clause_literal variables) more))
    (clean_literal variables first (all_first is_clean (spell_literal first) (spell_literals more) h)) (clean_literals variables more (all_second is_clean (spell_literal first) (spell_literals more) h))

-- where a clause's tokens are clean, its symbols are right
pub clause_clean : (name : Name) (role : List ℕ) (formula : Formula) (notes : Annotations) → list_all is_clean (spell_statement (clause name role formula notes)) ≡ true → list_all literal_suits (clause_of name role formula notes).literals ≡ true
clause_clean name role formula notes h =
    let behind = spell_formula formula ++ (spell_annotations notes ++ Punct right_round ∷ (Punct dot ∷ [])) in
    let own : list_all is_clean behind ≡ true = all_dropped is_clean 6 (spell_statement (clause name role formula notes)) h in
    clean_formula (variables_of formula) formula (all_first is_clean (spell_formula formula) (spell_annotations notes ++ Punct right_round ∷ (Punct dot ∷ [])) own)

-- where an include's tokens are clean, its file's name has name bytes alone
pub include_clean : (file : FileName) (selection : Selection) → list_all is_clean (spell_statement (include file selection)) ≡ true → list_all is_name_byte (file_text file) ≡ true
include_clean file selection h = clean_file file (all_head is_clean (file_token file) (spell_selection selection ++ Punct right_round ∷ (Punct dot ∷ [])) (all_dropped is_clean 2 (spell_statement (include file selection)) h))
