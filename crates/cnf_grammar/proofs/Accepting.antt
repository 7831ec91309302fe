-- A position by its parts, and what the tests of the table say of a token.
use Rattle.cnf_grammar.proofs.Common.{◌≡◌, ℕ, Bool, true, false, not, ◌==◌, ◌⊎◌, inl, inr, List, [], ◌∷◌, Option, Some, None, codes, refl, sym, ap, subst, bytes_eq, arith, nat_tests, bytes_eq-Decides, Bracket, State, Position, Shape, Lower, Upper, Quoted, Distinct, Dollar, Number, NotEqual, Punct, is_mark, is_keyword, is_defined, is_lower, is_word, is_name, is_simple_term, is_file_name, Word, bare_word, quoted_word, Name, word_name, number_name, FileName, bare_file, quoted_file, Term, variable, number, distinct, word_token, name_token, file_token, spell_term, or_else, when, step, run_from, is_end}

-- the position with these parts
abbrev pub position : State → ℕ → ℕ → List Bracket → Position
position state level depth brackets = record { state = state; level = level; depth = depth; brackets = brackets }

-- bytes that pass the test of equal bytes are equal
pub equal_bytes : (xs ys : List ℕ) → bytes_eq xs ys ≡ true → xs ≡ ys
equal_bytes xs ys h = (bytes_eq-Decides xs ys).0 h

-- and numbers that pass the test are equal
pub equal_numbers : (m n : ℕ) → (m == n) ≡ true → m ≡ n
equal_numbers m n h = grind (arith, nat_tests)

-- a token that passes the test of a mark is this mark
pub mark_is : (byte : ℕ) (s : Shape) → is_mark byte s ≡ true → s ≡ Punct byte
mark_is byte (Punct b) h = ap Punct (equal_numbers b byte h)
mark_is byte s h = cc

-- a token that passes the test of a keyword is this lower-case word
pub keyword_is : (word : List ℕ) (s : Shape) → is_keyword word s ≡ true → s ≡ Lower word
keyword_is word (Lower text) h = ap Lower (equal_bytes text word h)
keyword_is word s h = cc

-- a token that passes the test of a defined word is this word with a dollar sign
pub defined_is : (word : List ℕ) (s : Shape) → is_defined word s ≡ true → s ≡ Dollar word
defined_is word (Dollar text) h = ap Dollar (equal_bytes text word h)
defined_is word s h = cc

-- a token that passes the test of names is the token of a name
pub name_is : (s : Shape) → is_name s ≡ true → (name : Name) × (s ≡ name_token name)
name_is (Lower text) h = (word_name (bare_word text), refl)
name_is (Quoted text) h = (word_name (quoted_word text), refl)
name_is (Number text plain) h = (number_name text, ap (Number text) h)
name_is s h = absurd cc

-- what is not is false
pub negated : (b : Bool) → not b ≡ true → b ≡ false
negated true h = cc
negated false h = refl
