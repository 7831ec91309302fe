-- Words over a table as lists of symbols.
use Rattle.std.proofs.Common.{◌≡◌, ◌≢◌, ℕ, zero, suc, ◌+◌, ◌^◌, ◌≤◌, ◌<◌, Bool, true, false, true≢false, List, [], ◌∷◌, ◌++◌, map, length, slice_index_or, slice_get, Some, All, AllPairs, refl, sym, ap, ◌∙◌, subst, arith}
use Rattle.std.specs.List.{list_all}
use Rattle.std.specs.Option.{option_map_or, option_to_list}
use Rattle.std.proofs.lemmas.Option.{slice_get_within, get_or_from_slice_get}
use Rattle.std.proofs.lemmas.List.Elements.{All-head, All-tail, All-cons, All-nil, All-map}
use Rattle.mg_word.specs.Table.{Symbol}
use Rattle.mg_word.specs.Words.{are_terms}
use Rattle.mg_word.specs.Facts.{is_symbol}
use Rattle.mg_word.specs.Spelling.{spelled, spelled_symbols, symbols_at}
use Rattle.mg_word.proofs.AppliedWords.{at_symbol}
use Rattle.mg_word.proofs.Different.{number_unique}
use Rattle.term_text.specs.Words.{IsWordOf}
use Rattle.term_text.specs.OwnTerms.{are_own_terms, IsOwnTerm, IsSymbolOf, AllKnown, AreNumbers, AreWords, IsLight}
use Rattle.mg_word.proofs.Members.{both_true, and_true}

pub passes_at : {X : Type 0} (p : X → Bool) (xs : List X) (i : ℕ) (x : X) → list_all p xs ≡ true → slice_get xs i ≡ Some x → p x ≡ true
passes_at p [] i x all is = cc
passes_at p (y ∷ xs) zero x all is = let same : y ≡ x = cc in ap p (sym same) ∙ (both_true (p y) (list_all p xs) all).0
passes_at p (y ∷ xs) (suc i) x all is = passes_at p xs i x (both_true (p y) (list_all p xs) all).1 is

module _ (table : List Symbol) (named : list_all is_symbol table ≡ true) where
  pub symbols_cons : (symbol : ℕ) (word : List ℕ) (entry : Symbol) → slice_get table symbol ≡ Some entry → symbols_at table (symbol ∷ word) ≡ entry ∷ symbols_at table word
  symbols_cons symbol word entry is = ap (λ found. option_to_list found ++ symbols_at table word) is

  pub own_word : (wanted : ℕ) (word : List ℕ) → are_terms table wanted word ≡ true → are_own_terms wanted (symbols_at table word) ≡ true
  own_word zero [] fit = refl
  own_word zero (symbol ∷ word) fit = absurd (true≢false (sym fit))
  own_word (suc wanted) [] fit = absurd (true≢false (sym fit))
  own_word (suc wanted) (symbol ∷ word) fit =
      let rest = λ (n : ℕ). own_word n word in
      at_symbol table symbol wanted word fit (λ entry is fit'. subst (λ l. are_own_terms (suc wanted) l ≡ true) (sym (symbols_cons symbol word entry is)) (and_true (is_symbol entry) (are_own_terms (entry.arity + wanted) (symbols_at table word)) (passes_at is_symbol table symbol entry named is) (rest (entry.arity + wanted) fit')))

  pub numbers_word : (wanted : ℕ) (word : List ℕ) → are_terms table wanted word ≡ true → AreNumbers table word (symbols_at table word)
  numbers_word zero [] fit = tt
  numbers_word zero (symbol ∷ word) fit = absurd (true≢false (sym fit))
  numbers_word (suc wanted) [] fit = absurd (true≢false (sym fit))
  numbers_word (suc wanted) (symbol ∷ word) fit =
      let rest = λ (n : ℕ). numbers_word n word in
      at_symbol table symbol wanted word fit (λ entry is fit'. subst (AreNumbers table (symbol ∷ word)) (sym (symbols_cons symbol word entry is)) (is, rest (entry.arity + wanted) fit'))

  pub wanted_within : (wanted : ℕ) (word : List ℕ) → are_terms table wanted word ≡ true → wanted ≤ length word
  wanted_within zero word fit = omega arith
  wanted_within (suc wanted) [] fit = absurd (true≢false (sym fit))
  wanted_within (suc wanted) (symbol ∷ word) fit =
      let rest = λ (n : ℕ). wanted_within n word in
      at_symbol table symbol wanted word fit (λ entry is fit'. omega (arith, rest (entry.arity + wanted) fit'))

  pub known_word : (wanted : ℕ) (word : List ℕ) → are_terms table wanted word ≡ true → length word < 2 ^ 32 → AllKnown table (symbols_at table word)
  known_word zero [] fit short = All-nil (IsSymbolOf table)
  known_word zero (symbol ∷ word) fit short = absurd (true≢false (sym fit))
  known_word (suc wanted) [] fit short = absurd (true≢false (sym fit))
  known_word (suc wanted) (symbol ∷ word) fit short =
      let rest = λ (n : ℕ). known_word n word in
      at_symbol table symbol wanted word fit (λ entry is fit'. subst (AllKnown table) (sym (symbols_cons symbol word entry is)) (All-cons (IsSymbolOf table) entry (symbols_at table word) (record { held = (symbol, slice_get_within table symbol entry is, get_or_from_slice_get table symbol entry entry is); small = omega (arith, wanted_within (entry.arity + wanted) word fit', short) }) (rest (entry.arity + wanted) fit' (omega (arith, short)))))

  pub symbols_of_numbers : (word : List ℕ) (term : List Symbol) → AreNumbers table word term → symbols_at table word ≡ term
  symbols_of_numbers [] [] are = refl
  symbols_of_numbers [] (symbol ∷ term) are = elim are [ ]
  symbols_of_numbers (number ∷ word) [] are = elim are [ ]
  symbols_of_numbers (number ∷ word) (symbol ∷ term) are = symbols_cons number word symbol are.0 ∙ ap (λ l. symbol ∷ l) (symbols_of_numbers word term are.1)

  pub numbers_fit : (wanted : ℕ) (word : List ℕ) (term : List Symbol) → AreNumbers table word term → are_own_terms wanted term ≡ true → are_terms table wanted word ≡ true
  numbers_fit zero [] [] are own = refl
  numbers_fit (suc wanted) [] [] are own = own
  numbers_fit wanted [] (symbol ∷ term) are own = elim are [ ]
  numbers_fit wanted (number ∷ word) [] are own = elim are [ ]
  numbers_fit zero (number ∷ word) (symbol ∷ term) are own = own
  numbers_fit (suc wanted) (number ∷ word) (symbol ∷ term) are own =
      ap (λ found. option_map_or (λ entry. are_terms table (entry.arity + wanted) word) found false) are.0
      ∙ numbers_fit (symbol.arity + wanted) word term are.1 (both_true (is_symbol symbol) (are_own_terms (symbol.arity + wanted) term) own).1

  pub numbers_length : (word : List ℕ) (term : List Symbol) → AreNumbers table word term → length word ≡ length term
  numbers_length [] [] are = refl
  numbers_length [] (symbol ∷ term) are = elim are [ ]
  numbers_length (number ∷ word) [] are = elim are [ ]
  numbers_length (number ∷ word) (symbol ∷ term) are = ap suc (numbers_length word term are.1)

  module _ (different : AllPairs (λ a b. a ≢ b) table) where
    pub numbers_same : (a b : List ℕ) (term : List Symbol) → AreNumbers table a term → AreNumbers table b term → a ≡ b
    numbers_same [] [] [] p q = refl
    numbers_same [] b (s ∷ term) p q = elim p [ ]
    numbers_same a [] (s ∷ term) p q = elim q [ ]
    numbers_same (x ∷ a) b [] p q = elim p [ ]
    numbers_same a (y ∷ b) [] p q = elim q [ ]
    numbers_same (x ∷ a) (y ∷ b) (s ∷ term) p q =
        let first = number_unique table different x y s p.0 q.0 in
        let rest = numbers_same a b term p.1 q.1 in
        cc

    pub words_same : (words others : List (List ℕ)) (terms : List (List Symbol)) → AreWords table words terms → All (IsWordOf table) others → map (symbols_at table) others ≡ terms → others ≡ words
    words_same [] [] terms are fit same = refl
    words_same [] (other ∷ others) [] are fit same = cc
    words_same [] (other ∷ others) (term ∷ terms) are fit same = elim are [ ]
    words_same (word ∷ words) others [] are fit same = elim are [ ]
    words_same (word ∷ words) [] (term ∷ terms) are fit same = cc
    words_same (word ∷ words) (other ∷ others) (term ∷ terms) are fit same =
        let head : symbols_at table other ≡ term = cc in
        let rest : map (symbols_at table) others ≡ terms = cc in
        let here = All-head (IsWordOf table) other others fit in
        let first = numbers_same other word term (subst (AreNumbers table other) head (numbers_word 1 other here.0)) are.0 in
        let last = words_same words others terms are.1 (All-tail (IsWordOf table) other others fit) rest in
        cc

  -- the terms of a line as lists of symbols
  abbrev pub terms_of : List (List ℕ) → List (List Symbol)
  terms_of words = map (symbols_at table) words

  pub line_own : (words : List (List ℕ)) → All (IsWordOf table) words → All IsOwnTerm (terms_of words)
  line_own words fit = All-map IsOwnTerm (symbols_at table) words (λ k d within. own_word 1 (slice_index_or words k d) (fit k d within).0)

pub map_map : (table : List Symbol) (words : List (List ℕ)) → map spelled_symbols (map (symbols_at table) words) ≡ map (spelled table) words
map_map table [] = refl
map_map table (word ∷ words) = ap (λ l. spelled table word ∷ l) (map_map table words)

pub terms_of_words : (table : List Symbol) (named : list_all is_symbol table ≡ true) (words : List (List ℕ)) (terms : List (List Symbol)) → AreWords table words terms → map (symbols_at table) words ≡ terms
terms_of_words table named [] [] are = refl
terms_of_words table named [] (term ∷ terms) are = elim are [ ]
terms_of_words table named (word ∷ words) [] are = elim are [ ]
terms_of_words table named (word ∷ words) (term ∷ terms) are =
    let first = symbols_of_numbers table named word term are.0 in
    let rest = terms_of_words table named words terms are.1 in
    cc

pub words_fit : (table : List Symbol) (named : list_all is_symbol table ≡ true) (words : List (List ℕ)) (terms : List (List Symbol)) → AreWords table words terms → All IsOwnTerm terms → All IsLight terms → All (IsWordOf table) words
words_fit table named [] [] are own light = All-nil (IsWordOf table)
words_fit table named [] (term ∷ terms) are own light = elim are [ ]
words_fit table named (word ∷ words) [] are own light = elim are [ ]
words_fit table named (word ∷ words) (term ∷ terms) are own light =
    All-cons (IsWordOf table) word words
    (numbers_fit table named 1 word term are.0 (All-head IsOwnTerm term terms own), omega (arith, numbers_length table named word term are.0, All-head IsLight term terms light))
    (words_fit table named words terms are.1 (All-tail IsOwnTerm term terms own) (All-tail IsLight term terms light))

pub length_at : (table : List Symbol) (named : list_all is_symbol table ≡ true) (word : List ℕ) → are_terms table 1 word ≡ true → length (symbols_at table word) ≡ length word
length_at table named word fit = sym (numbers_length table named word (symbols_at table word) (numbers_word table named 1 word fit))
