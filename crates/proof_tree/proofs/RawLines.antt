-- A right line as it is spelled: its words as terms by their own symbols.
use Rattle.std.proofs.Common.{◌≡◌, ℕ, zero, suc, ◌-◌, ◌^◌, ◌<◌, true≢false, List, [], ◌∷◌, ◌++◌, map, length, slice_index_or, slice_get, Option, Some, None, IsSome, All, refl, sym, ap, codes, arith}
use Rattle.std.specs.Fmt.{decimal}
use Rattle.std.proofs.lemmas.Option.{slice_get_within}
use Rattle.std.proofs.lemmas.List.Elements.{All-map, All-nil, All-cons, All-head, All-tail}
use Rattle.mg_word.specs.Table.{Symbol}
use Rattle.mg_word.specs.Words.{numbered}
use Rattle.mg_word.specs.Facts.{ProblemData, IsProblem}
use Rattle.mg_word.specs.Spelling.{spelled, spelled_symbols, symbols_at}
use Rattle.mg_word.specs.declared.form.Form.{Form}
use Rattle.term_text.specs.Words.{IsWordOf}
use Rattle.term_text.specs.OwnTerms.{IsOwnTerm}
use Rattle.term_text.specs.Brackets.{listed}
use Rattle.term_text.proofs.SymbolWords.{own_word}
use Rattle.proof_tree.specs.DocLines.{DocLine, header_line, lemma_line, inside_line, outside_line, root_line, form_line, clash_line, barred_line, by_line, line_text}
use Rattle.term_text.specs.Lits.{LineLit, lit_text}
use Rattle.proof_tree.specs.Standing.{Place, kind_of, lit_of, IsRight}
use Rattle.proof_tree.specs.FirstFaults.{RawLine, words_of, HasSmallNumber, IsSpelled}

-- the literal with its atom as a term
abbrev pub raw_lit : List Symbol → LineLit (List ℕ) → LineLit (List Symbol)
raw_lit table lit = record { negative = lit.negative; atom = symbols_at table lit.atom }

-- the line with its words as terms
abbrev pub raw_line : List Symbol → DocLine (List ℕ) → RawLine
raw_line table header_line = header_line
raw_line table (lemma_line number) = lemma_line number
raw_line table (inside_line lits) = inside_line (map (raw_lit table) lits)
raw_line table (outside_line lits) = outside_line (map (raw_lit table) lits)
raw_line table root_line = root_line
raw_line table (form_line number terms) = form_line number (map (symbols_at table) terms)
raw_line table (clash_line lit) = clash_line (raw_lit table lit)
raw_line table (barred_line lit) = barred_line (raw_lit table lit)
raw_line table (by_line number) = by_line number

lits_map : (table : List Symbol) (lits : List (LineLit (List ℕ))) → map (lit_text spelled_symbols) (map (raw_lit table) lits) ≡ map (lit_text (spelled table)) lits
lits_map table [] = refl
lits_map table (lit ∷ lits) = ap (λ l. lit_text (spelled table) lit ∷ l) (lits_map table lits)

terms_map : (table : List Symbol) (terms : List (List ℕ)) → map spelled_symbols (map (symbols_at table) terms) ≡ map (spelled table) terms
terms_map table [] = refl
terms_map table (term ∷ terms) = ap (λ l. spelled table term ∷ l) (terms_map table terms)

-- both have one text
pub raw_text : (table : List Symbol) (line : DocLine (List ℕ)) → line_text spelled_symbols (raw_line table line) ≡ line_text (spelled table) line
raw_text table header_line = refl
raw_text table (lemma_line number) = refl
raw_text table (inside_line lits) = ap (λ l. codes "inside " ++ listed l) (lits_map table lits)
raw_text table (outside_line lits) = ap (λ l. codes "outside " ++ listed l) (lits_map table lits)
raw_text table root_line = refl
raw_text table (form_line number terms) = ap (λ l. codes "form " ++ (decimal number ++ 32 ∷ listed l)) (terms_map table terms)
raw_text table (clash_line lit) = refl
raw_text table (barred_line lit) = refl
raw_text table (by_line number) = refl

pub raw_kind : (table : List Symbol) (line : DocLine (List ℕ)) → kind_of (raw_line table line) ≡ kind_of line
raw_kind table header_line = refl
raw_kind table (lemma_line number) = refl
raw_kind table (inside_line lits) = refl
raw_kind table (outside_line lits) = refl
raw_kind table root_line = refl
raw_kind table (form_line number terms) = refl
raw_kind table (clash_line lit) = refl
raw_kind table (barred_line lit) = refl
raw_kind table (by_line number) = refl

pub small_number : (forms : List Form) (number : ℕ) → length forms < 2 ^ 32 - 1 → IsSome (numbered forms number) → number < 2 ^ 32
small_number forms zero few some = omega arith
small_number forms (suc index) few some = by (slice_get forms index) refl some
  where
    by : (o : Option Form) → slice_get forms index ≡ o → IsSome o → suc index < 2 ^ 32
    by (Some form) is some = omega (arith, slice_get_within forms index form is)
    by None is some = absurd (true≢false (sym some))

-- what holds of the term of each word of a problem holds of the words of each of its lines
module _ (problem : ProblemData) (place : Place) (P : List Symbol → Type 0) (each : (word : List ℕ) → IsWordOf problem.symbols word → P (symbols_at problem.symbols word)) where
  terms_all : (terms : List (List ℕ)) → All (IsWordOf problem.symbols) terms → All P (map (symbols_at problem.symbols) terms)
  terms_all terms fit = All-map P (symbols_at problem.symbols) terms (λ k d within. each (slice_index_or terms k d) (fit k d within))

  lits_all : (lits : List (LineLit (List ℕ))) → All (λ lit. IsWordOf problem.symbols lit.word) (map lit_of lits) → All P (map (λ lit. lit.atom) (map (raw_lit problem.symbols) lits))
  lits_all [] fit = All-nil P
  lits_all (lit ∷ lits) fit =
      All-cons P (symbols_at problem.symbols lit.atom) (map (λ l. l.atom) (map (raw_lit problem.symbols) lits)) (each lit.atom (All-head (λ l. IsWordOf problem.symbols l.word) (lit_of lit) (map lit_of lits) fit))
      (lits_all lits (All-tail (λ l. IsWordOf problem.symbols l.word) (lit_of lit) (map lit_of lits) fit))

  pub raw_words : (line : DocLine (List ℕ)) → IsRight problem place line → All P (words_of (raw_line problem.symbols line))
  raw_words header_line right = All-nil P
  raw_words (lemma_line number) right = All-nil P
  raw_words (inside_line lits) right = lits_all lits right.words
  raw_words (outside_line lits) right = lits_all lits right.words
  raw_words root_line right = All-nil P
  raw_words (form_line number terms) right = terms_all terms right.1
  raw_words (clash_line lit) right = All-cons P (symbols_at problem.symbols lit.atom) [] (each lit.atom right) (All-nil P)
  raw_words (barred_line lit) right = All-cons P (symbols_at problem.symbols lit.atom) [] (each lit.atom right) (All-nil P)
  raw_words (by_line number) right = All-nil P

module _ (problem : ProblemData) (is : IsProblem problem) where
  raw_small : (place : Place) (line : DocLine (List ℕ)) → IsRight problem place line → HasSmallNumber (raw_line problem.symbols line)
  raw_small place header_line right = tt
  raw_small place (lemma_line number) right = right.1
  raw_small place (inside_line lits) right = tt
  raw_small place (outside_line lits) right = tt
  raw_small place root_line right = tt
  raw_small place (form_line number terms) right = small_number problem.forms number (omega (arith, is.few_forms)) right.0
  raw_small place (clash_line lit) right = tt
  raw_small place (barred_line lit) right = tt
  raw_small place (by_line number) right = right

  -- a right line is spelled as the same line with its words as terms
  pub raw_spelled : (place : Place) (line : DocLine (List ℕ)) → IsRight problem place line → IsSpelled (line_text (spelled problem.symbols) line) (raw_line problem.symbols line)
  raw_spelled place line right = record { small = raw_small place line right; own = raw_words problem place IsOwnTerm (λ word fit. own_word problem.symbols is.input.named 1 word fit.0) line right; is = raw_text problem.symbols line }
