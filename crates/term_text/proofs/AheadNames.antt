-- Where an argument begins its first symbol's name stands, and behind it what the symbol's arguments allow.
use Rattle.std.proofs.Common.{◌≡◌, ℕ, zero, suc, ◌+◌, true, true≢false, not, ◌||◌, nat_eq, List, [], ◌∷◌, ◌++◌, map, length, refl, sym, ap, ◌∙◌, subst, append_assoc, eqb-true, arith}
use Rattle.std.proofs.lemmas.Bool.Decides.{nat_tests}
use Rattle.mg_word.specs.Table.{Symbol, symbol_of}
use Rattle.mg_word.specs.Facts.{suits}
use Rattle.mg_word.specs.Spelling.{is_word_byte, symbol_piece, spelled_name, behind, open_behind, spelled_within}
use Rattle.mg_word.specs.declared.symbol.Kind.{Kind}
use Rattle.mg_word.specs.declared.symbol.Kind.TheVariants.{Word, Integer, Distinct}
use Rattle.term_text.specs.OwnTerms.{are_own_terms}
use Rattle.term_text.specs.Names.{IsNameAt, ends_name}
use Rattle.term_text.specs.Terms.{ends_term, Level, total, IsAhead}
use Rattle.mg_word.proofs.Members.{both_true, and_true}
use Rattle.term_text.proofs.Texts.{heads}

ends_byte : (byte : ℕ) → (nat_eq byte 44 || nat_eq byte 93) ≡ true → not (is_word_byte byte) ≡ true
ends_byte byte ends = grind (arith, nat_tests)

ends_term_name : (tail : List ℕ) → ends_term tail ≡ true → ends_name tail ≡ true
ends_term_name [] ends = refl
ends_term_name (byte ∷ tail) ends = ends_byte byte ends

good_name : (kind : Kind) (name : List ℕ) (arity : ℕ) → suits kind name arity ≡ true → suits kind name 0 ≡ true
good_name Word name arity good = good
good_name Integer name arity good = and_true _ true (both_true _ (nat_eq arity 0) good).0 refl
good_name Distinct name arity good = and_true _ true (both_true _ (nat_eq arity 0) good).0 refl

joined_count : (more : ℕ) (counts : List ℕ) → suc (more + total counts) ≡ suc more + total counts
joined_count more counts = omega arith

-- the terms that are wanted behind a comma
pub own_more : (more : ℕ) (counts : List ℕ) (symbols : List Symbol) → are_own_terms (suc (more + total counts)) symbols ≡ true → are_own_terms (suc more + total counts) symbols ≡ true
own_more more counts symbols own = subst (λ n. are_own_terms n symbols ≡ true) {x = suc (more + total counts)} (joined_count more counts) own

-- the other way round
pub own_less : (more : ℕ) (counts : List ℕ) (symbols : List Symbol) → are_own_terms (suc more + total counts) symbols ≡ true → are_own_terms (suc (more + total counts)) symbols ≡ true
own_less more counts symbols own = subst (λ n. are_own_terms n symbols ≡ true) {x = suc more + total counts} (sym (joined_count more counts)) own

-- no argument more is wanted
pub none_more : (count : ℕ) → count ≡ 0 + count
none_more count = omega arith

-- what stands behind a symbol's name
abbrev pub after_name : ℕ → List ℕ → List Symbol → List ℕ → List ℕ
after_name arity counts symbols tail = (behind arity counts ++ spelled_within (open_behind arity counts) (map symbol_piece symbols)) ++ tail

-- no more symbols are wanted
pub none_wanted : (symbols : List Symbol) → are_own_terms 0 symbols ≡ true → symbols ≡ []
none_wanted [] own = refl
none_wanted (symbol ∷ symbols) own = absurd (true≢false (sym own))

after_ends : (arity : ℕ) (counts : List ℕ) (symbols : List Symbol) (tail : List ℕ) → are_own_terms (arity + total counts) symbols ≡ true → ends_term tail ≡ true → ends_name (after_name arity counts symbols tail) ≡ true
after_ends (suc arity) counts symbols tail own ends = refl
after_ends zero (zero ∷ counts) symbols tail own ends = refl
after_ends zero (suc more ∷ counts) symbols tail own ends = refl
after_ends zero [] symbols tail own ends = subst (λ l. ends_name (after_name 0 [] l tail) ≡ true) (sym (none_wanted symbols own)) (ends_term_name tail ends)

-- a bracket is opened behind a symbol with arguments alone
pub no_bracket : (counts : List ℕ) (symbols : List Symbol) (tail rest : List ℕ) → are_own_terms (0 + total counts) symbols ≡ true → ends_term tail ≡ true → after_name 0 counts symbols tail ≡ 40 ∷ rest → ⊥
no_bracket (zero ∷ counts) symbols tail rest own ends same = omega (arith, heads 41 40 _ rest same)
no_bracket (suc more ∷ counts) symbols tail rest own ends same = omega (arith, heads 44 40 _ rest same)
no_bracket [] symbols tail rest own ends same =
    let empty = none_wanted symbols own in
    let is : tail ≡ 40 ∷ rest = subst (λ l. after_name 0 [] l tail ≡ 40 ∷ rest) empty same in
    true≢false (sym ends ∙ ap ends_term is)

-- a symbol with its name stands where an argument begins
pub ahead_name : (levels : List Level) (rest counts name : List ℕ) (arity : ℕ) (kind : Kind) (symbols : List Symbol) (tail : List ℕ)
    → IsAhead levels rest counts (symbol_of name arity kind ∷ symbols) tail → IsNameAt rest kind name (after_name arity counts symbols tail)
ahead_name levels rest counts name arity kind symbols tail is =
    let parts = both_true (suits kind name arity) (are_own_terms (arity + total counts) symbols) is.own in
    record {
      good = good_name kind name arity parts.0;
      text = sym (append_assoc (spelled_name kind name) (behind arity counts ++ spelled_within (open_behind arity counts) (map symbol_piece symbols)) tail) ∙ is.text;
      ends = after_ends arity counts symbols tail parts.1 is.ends;
    }

-- behind a name stands what may follow its symbol
pub ahead_of_name : (levels : List Level) (rest counts name : List ℕ) (arity : ℕ) (kind : Kind) (symbols : List Symbol) (tail after : List ℕ) → IsNameAt rest kind name after → length counts ≡ length levels
    → suits kind name arity ≡ true → are_own_terms (arity + total counts) symbols ≡ true → ends_term tail ≡ true → after_name arity counts symbols tail ≡ after → IsAhead levels rest counts (symbol_of name arity kind ∷ symbols) tail
ahead_of_name levels rest counts name arity kind symbols tail after is same good own ends text = record {
  same = same;
  own = and_true (suits kind name arity) (are_own_terms (arity + total counts) symbols) good own;
  ends = ends;
  text = append_assoc (spelled_name kind name) (behind arity counts ++ spelled_within (open_behind arity counts) (map symbol_piece symbols)) tail ∙ (ap (λ l. spelled_name kind name ++ l) text ∙ is.text);
}

no_arguments : (arity : ℕ) → nat_eq (suc arity) 0 ≡ true → ⊥
no_arguments arity none = omega (arith, eqb-true (suc arity) 0 none)

-- a symbol with arguments is a word
pub word_has_arguments : (kind : Kind) (name : List ℕ) (arity : ℕ) → suits kind name (suc arity) ≡ true → kind ≡ Word
word_has_arguments Word name arity good = refl
word_has_arguments Integer name arity good = absurd (no_arguments arity (both_true _ (nat_eq (suc arity) 0) good).1)
word_has_arguments Distinct name arity good = absurd (no_arguments arity (both_true _ (nat_eq (suc arity) 0) good).1)
