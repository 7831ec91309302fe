-- A spelled word or literal over a table tells which it is.
use Rattle.std.proofs.Common.{◌≡◌, ◌≢◌, ℕ, zero, suc, ◌+◌, Bool, true, false, true≢false, List, [], ◌∷◌, ◌++◌, map, Some, slice_get, AllPairs, refl, sym, ap, ◌∙◌, append_assoc}
use Rattle.std.specs.List.{list_all}
use Rattle.std.specs.Option.{option_to_list}
use Rattle.std.proofs.lemmas.Bool.{and_parts, and_from}
use Rattle.mg_word.specs.Table.{Symbol}
use Rattle.mg_word.specs.Words.{are_terms, fits}
use Rattle.mg_word.specs.Facts.{is_symbol}
use Rattle.mg_word.specs.Spelling.{symbols_at, spelled_name, behind, open_behind, spelled_within, symbol_piece, spelled_symbols, spelled}
use Rattle.mg_word.specs.OneSpelling.{make_terms, WordsAreSpelledApart, LitsAreSpelledApart}
use Rattle.mg_word.proofs.AppliedWords.{at_symbol}
use Rattle.mg_word.proofs.Different.{number_unique}
use Rattle.mg_word.proofs.SpelledNames.{no_sign_first}
use Rattle.mg_word.proofs.SpelledTerms.{symbols_apart}

-- the first symbol of a word that fits, and what follows it
record First (table : List Symbol) (symbol : ℕ) (word : List ℕ) (wanted : ℕ) : Type 0 where
  before : ℕ
  held : Symbol
  is_one : wanted ≡ suc before
  found : slice_get table symbol ≡ Some held
  rest : are_terms table (held.arity + before) word ≡ true

first_of : (table : List Symbol) (symbol : ℕ) (word : List ℕ) (wanted : ℕ) → are_terms table wanted (symbol ∷ word) ≡ true → First table symbol word wanted
first_of table symbol word zero fit = absurd (true≢false (sym fit))
first_of table symbol word (suc wanted) fit = at_symbol table symbol wanted word fit (λ held is rest. record { before = wanted; held = held; is_one = refl; found = is; rest = rest })

symbols_first : (table : List Symbol) (symbol : ℕ) (word : List ℕ) (held : Symbol) → slice_get table symbol ≡ Some held → symbols_at table (symbol ∷ word) ≡ held ∷ symbols_at table word
symbols_first table symbol word held found = ap (λ o. option_to_list o ++ symbols_at table word) found

-- the symbols of terms make as many terms
fit_terms : (table : List Symbol) (word : List ℕ) (wanted : ℕ) → are_terms table wanted word ≡ true → make_terms wanted (symbols_at table word) ≡ true
fit_terms table [] zero fit = refl
fit_terms table [] (suc wanted) fit = absurd (true≢false (sym fit))
fit_terms table (symbol ∷ word) wanted fit =
    let first = first_of table symbol word wanted fit in
    rw (first.is_one, symbols_first table symbol word first.held first.found) (fit_terms table word (first.held.arity + first.before) first.rest)

holds_at : (table : List Symbol) (symbol : ℕ) (held : Symbol) → list_all is_symbol table ≡ true → slice_get table symbol ≡ Some held → is_symbol held ≡ true
holds_at [] symbol held all found = cc
holds_at (one ∷ table) zero held all found =
    let same : one ≡ held = cc in
    rw (← same) (and_parts (is_symbol one) (list_all is_symbol table) all).0
holds_at (one ∷ table) (suc symbol) held all found = holds_at table symbol held (and_parts (is_symbol one) (list_all is_symbol table) all).1 found

-- each symbol of a word is a symbol
fit_symbols : (table : List Symbol) (word : List ℕ) (wanted : ℕ) → list_all is_symbol table ≡ true → are_terms table wanted word ≡ true → list_all is_symbol (symbols_at table word) ≡ true
fit_symbols table [] wanted all fit = refl
fit_symbols table (symbol ∷ word) wanted all fit =
    let first = first_of table symbol word wanted fit in
    rw (symbols_first table symbol word first.held first.found)
    (and_from (is_symbol first.held) (list_all is_symbol (symbols_at table word)) (holds_at table symbol first.held all first.found) (fit_symbols table word (first.held.arity + first.before) all first.rest))

-- the symbols of a word tell their numbers
numbers_same : (table : List Symbol) → AllPairs (λ a b. a ≢ b) table → (word other : List ℕ) (wanted needed : ℕ) → are_terms table wanted word ≡ true → are_terms table needed other ≡ true → symbols_at table word ≡ symbols_at table other → word ≡ other
numbers_same table apart [] [] wanted needed fit fit' same = refl
numbers_same table apart [] (number ∷ other) wanted needed fit fit' same =
    let first = first_of table number other needed fit' in
    let none : [] ≡ first.held ∷ symbols_at table other = same ∙ symbols_first table number other first.held first.found in
    cc
numbers_same table apart (symbol ∷ word) [] wanted needed fit fit' same =
    let first = first_of table symbol word wanted fit in
    let none : first.held ∷ symbols_at table word ≡ [] = sym (symbols_first table symbol word first.held first.found) ∙ same in
    cc
numbers_same table apart (symbol ∷ word) (number ∷ other) wanted needed fit fit' same =
    let first = first_of table symbol word wanted fit in
    let second = first_of table number other needed fit' in
    let both : first.held ∷ symbols_at table word ≡ second.held ∷ symbols_at table other =
    sym (symbols_first table symbol word first.held first.found) ∙ same ∙ symbols_first table number other second.held second.found in
    let heads : first.held ≡ second.held = cc in
    let tails : symbols_at table word ≡ symbols_at table other = cc in
    let numbers = number_unique table apart symbol number first.held first.found (second.found ∙ ap Some (sym heads)) in
    let rest = numbers_same table apart word other (first.held.arity + first.before) (second.held.arity + second.before) first.rest second.rest tails in
    cc

-- words over a table with one spelling are the same
pub words_apart : WordsAreSpelledApart
words_apart table word other more further apart all fit fit' end stop e =
    let same = symbols_apart (symbols_at table word) (symbols_at table other) more further (fit_terms table word 1 fit) (fit_terms table other 1 fit') (fit_symbols table word 1 all fit) (fit_symbols table other 1 all fit') end stop e in
    (numbers_same table apart word other 1 1 fit fit' same.0, same.1)

-- no word begins with `~`
unsigned : (table : List Symbol) (word more rest : List ℕ) → list_all is_symbol table ≡ true → fits table word ≡ true → spelled table word ++ more ≡ 126 ∷ rest → ⊥
unsigned table [] more rest all fit e = true≢false (sym fit)
unsigned table (symbol ∷ word) more rest all fit e =
    let first = first_of table symbol word 1 fit in
    let name = spelled_name first.held.kind first.held.name in
    let after = behind first.held.arity [] ++ spelled_within (open_behind first.held.arity []) (map symbol_piece (symbols_at table word)) in
    let spelling : (name ++ after) ++ more ≡ 126 ∷ rest = sym (ap (λ symbols. spelled_symbols symbols ++ more) (symbols_first table symbol word first.held first.found)) ∙ e in
    no_sign_first first.held.kind first.held.name first.held.arity (after ++ more) rest (holds_at table symbol first.held all first.found) (sym (append_assoc name after more) ∙ spelling)

-- literals over a table with one spelling are the same
pub lits_apart : LitsAreSpelledApart
lits_apart table lit other more further apart all fit fit' end stop e = by lit.negative other.negative refl refl
  where
    by : (sign mark : Bool) → lit.negative ≡ sign → other.negative ≡ mark → (lit ≡ other) × (more ≡ further)
    by false false is is' =
        let words : spelled table lit.word ++ more ≡ spelled table other.word ++ further = rw (is, is') at e in
        let same = words_apart table lit.word other.word more further apart all fit fit' end stop words in
        let signs = is ∙ sym is' in
        (λ i. record { negative = signs i; word = same.0 i }, same.1)
    by true true is is' =
        let words : 126 ∷ (spelled table lit.word ++ more) ≡ 126 ∷ (spelled table other.word ++ further) = rw (is, is') at e in
        let same = words_apart table lit.word other.word more further apart all fit fit' end stop cc in
        let signs = is ∙ sym is' in
        (λ i. record { negative = signs i; word = same.0 i }, same.1)
    by false true is is' =
        let words : spelled table lit.word ++ more ≡ 126 ∷ (spelled table other.word ++ further) = rw (is, is') at e in
        absurd (unsigned table lit.word more (spelled table other.word ++ further) all fit words)
    by true false is is' =
        let words : 126 ∷ (spelled table lit.word ++ more) ≡ spelled table other.word ++ further = rw (is, is') at e in
        absurd (unsigned table other.word further (spelled table lit.word ++ more) all fit' (sym words))
