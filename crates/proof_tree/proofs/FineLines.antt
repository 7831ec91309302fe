-- A line that stands rightly has no fault, since it is spelled as one raw line alone.
use Rattle.std.proofs.Common.{◌≡◌, ℕ, zero, suc, true, true≢false, List, [], ◌∷◌, ◌++◌, map, IsSome, All, refl, sym, ap, ◌∙◌, subst, arith}
use Rattle.std.proofs.lemmas.List.Elements.{All-head, All-tail, All-nil, All-cons}
use Rattle.mg_word.specs.Table.{Symbol}
use Rattle.mg_word.specs.Sets.{is_rising}
use Rattle.mg_word.specs.Facts.{ProblemData, IsProblem}
use Rattle.mg_word.specs.Spelling.{spelled, spelled_symbols, symbols_at}
use Rattle.mg_word.specs.declared.lit.Lit.{Lit}
use Rattle.term_text.specs.Words.{IsWordOf}
use Rattle.term_text.specs.OwnTerms.{IsOwnTerm, IsSymbolOf, HasUnknown, AllKnown, IsHeavy, IsLight}
use Rattle.term_text.proofs.Once.{term_once}
use Rattle.term_text.proofs.Apart.{AreApart, no_term_at_end}
use Rattle.term_text.proofs.LitItems.{unsigned}
use Rattle.term_text.proofs.SymbolWords.{known_word, length_at, numbers_word, numbers_same}
use Rattle.tree_checker.specs.Docs.{IsLemmaSet}
use Rattle.proof_tree.specs.DocLines.{DocLine, header_line, lemma_line, inside_line, outside_line, root_line, form_line, clash_line, barred_line, by_line, line_text}
use Rattle.term_text.specs.Lits.{LineLit}
use Rattle.proof_tree.specs.Standing.{Place, at_header, at_block, at_inside, at_outside, in_block, in_root, kind_of, may_stand, lit_of, IsRight, StandsAt}
use Rattle.proof_tree.specs.FirstFaults.{RawLine, words_of, HasSmallNumber, IsSpelled, HasOtherNumber, HasNoForm, AreUnordered, HasNoOrder, RawFault, StandsNowhere, LineFault}
use Rattle.term_text.specs.Lits.{AreLits}
use Rattle.tree_checker.specs.declared.doc_fault.DocKind.{DocKind}
use Rattle.tree_checker.specs.declared.doc_fault.DocKind.TheVariants.{Header, Syntax, Block, FormNumber, Unknown, Heavy, Order}
use Rattle.proof_tree.proofs.Quantified.{any_all}
use Rattle.proof_tree.proofs.LinesApart.{HasParts, line_apart}
use Rattle.proof_tree.proofs.RawLines.{raw_lit, raw_line, raw_kind, raw_words, raw_spelled}

own_apart : AreApart spelled_symbols IsOwnTerm
own_apart = record {
  apart = λ a b more further here there end stop same. term_once a b more further here there end stop same;
  some = λ a more further here end same. no_term_at_end further a more (record { own = here; text = same; ends = end });
}

pub lits_own : (lits : List (LineLit (List Symbol))) → All IsOwnTerm (map (λ lit. lit.atom) lits) → All (λ lit. IsOwnTerm lit.atom) lits
lits_own [] own = All-nil (λ lit. IsOwnTerm lit.atom)
lits_own (lit ∷ lits) own =
    All-cons (λ l. IsOwnTerm l.atom) lit lits (All-head IsOwnTerm lit.atom (map (λ l. l.atom) lits) own) (lits_own lits (All-tail IsOwnTerm lit.atom (map (λ l. l.atom) lits) own))

parts : (line : RawLine) → HasSmallNumber line → All IsOwnTerm (words_of line) → HasParts IsOwnTerm line
parts header_line small own = tt
parts (lemma_line number) small own = small
parts (inside_line lits) small own = lits_own lits own
parts (outside_line lits) small own = lits_own lits own
parts root_line small own = tt
parts (form_line number terms) small own = (small, own)
parts (clash_line lit) small own = All-head IsOwnTerm lit.atom [] own
parts (barred_line lit) small own = All-head IsOwnTerm lit.atom [] own
parts (by_line number) small own = small

-- a text is that of one raw line at most
pub raw_once : (text : List ℕ) (a b : RawLine) → IsSpelled text a → IsSpelled text b → a ≡ b
raw_once text a b here there =
    (line_apart spelled_symbols IsOwnTerm own_apart unsigned a b [] [] (parts a here.small here.own) (parts b there.small there.own) (ap (λ t. t ++ 10 ∷ []) (here.is ∙ sym there.is))).0

module _ (problem : ProblemData) (is : IsProblem problem) where
  nowhere : (place : Place) (line : DocLine (List ℕ)) → StandsAt problem place line → StandsNowhere place (line_text (spelled problem.symbols) line) → ⊥
  nowhere place line at none = none (raw_line problem.symbols line) (raw_spelled problem is place line at.right) (ap (may_stand place) (raw_kind problem.symbols line) ∙ at.kind)

  all_known : (place : Place) (line : DocLine (List ℕ)) → IsRight problem place line → All (AllKnown problem.symbols) (words_of (raw_line problem.symbols line))
  all_known place line right = raw_words problem place (AllKnown problem.symbols) (λ word fit. known_word problem.symbols is.input.named 1 word fit.0 (omega (arith, fit.1))) line right

  all_light : (place : Place) (line : DocLine (List ℕ)) → IsRight problem place line → All IsLight (words_of (raw_line problem.symbols line))
  all_light place line right = raw_words problem place IsLight (λ word fit. omega (arith, fit.1, length_at problem.symbols is.input.named word fit.0)) line right

  lits_same : (others : List Lit) (lits : List (LineLit (List ℕ))) → AreLits problem.symbols others (map (raw_lit problem.symbols) lits) → All (λ lit. IsWordOf problem.symbols lit.word) (map lit_of lits) → others ≡ map lit_of lits
  lits_same [] [] are fit = refl
  lits_same [] (lit ∷ lits) are fit = elim are [ ]
  lits_same (other ∷ others) [] are fit = elim are [ ]
  lits_same (other ∷ others) (lit ∷ lits) are fit =
      let here = All-head (λ l. IsWordOf problem.symbols l.word) (lit_of lit) (map lit_of lits) fit in
      let word = numbers_same problem.symbols is.input.named is.input.different other.word lit.atom (symbols_at problem.symbols lit.atom) are.0.1 (numbers_word problem.symbols is.input.named 1 lit.atom here.0) in
      let rest = lits_same others lits are.1 (All-tail (λ l. IsWordOf problem.symbols l.word) (lit_of lit) (map lit_of lits) fit) in
      let sign = are.0.0 in
      λ i. record { negative = sign i; word = word i } ∷ rest i

  ordered : (lits : List (LineLit (List ℕ))) → IsLemmaSet problem.symbols (map lit_of lits) → AreUnordered problem.symbols (map (raw_lit problem.symbols) lits) → ⊥
  ordered lits set (others, are, falls) = true≢false (sym set.rising ∙ (ap is_rising (sym (lits_same others lits are set.words)) ∙ falls))

  no_order : (place : Place) (line : DocLine (List ℕ)) → IsRight problem place line → HasNoOrder problem.symbols (raw_line problem.symbols line) → ⊥
  no_order place (inside_line lits) right none = ordered lits right none
  no_order place (outside_line lits) right none = ordered lits right none
  no_order place header_line right none = none
  no_order place (lemma_line number) right none = none
  no_order place root_line right none = none
  no_order place (form_line number terms) right none = none
  no_order place (clash_line lit) right none = none
  no_order place (barred_line lit) right none = none
  no_order place (by_line number) right none = none

  has_form : (place : Place) (line : DocLine (List ℕ)) → IsRight problem place line → HasNoForm problem (raw_line problem.symbols line) → ⊥
  has_form place (form_line number terms) right none = true≢false (sym (subst IsSome none right.0))
  has_form place header_line right none = none
  has_form place (lemma_line number) right none = none
  has_form place (inside_line lits) right none = none
  has_form place (outside_line lits) right none = none
  has_form place root_line right none = none
  has_form place (clash_line lit) right none = none
  has_form place (barred_line lit) right none = none
  has_form place (by_line number) right none = none

  its_number : (place : Place) (line : DocLine (List ℕ)) → IsRight problem place line → HasOtherNumber place (raw_line problem.symbols line) → ⊥
  its_number place (lemma_line number) right other = other right.0
  its_number place header_line right other = other
  its_number place (inside_line lits) right other = other
  its_number place (outside_line lits) right other = other
  its_number place root_line right other = other
  its_number place (form_line number terms) right other = other
  its_number place (clash_line lit) right other = other
  its_number place (barred_line lit) right other = other
  its_number place (by_line number) right other = other

  raw_fine : (place : Place) (line : DocLine (List ℕ)) (kind : DocKind) → IsRight problem place line → RawFault problem place (raw_line problem.symbols line) kind → ⊥
  raw_fine place line Block right fault = its_number place line right fault
  raw_fine place line FormNumber right fault = has_form place line right fault
  raw_fine place line Unknown right fault =
      any_all (HasUnknown problem.symbols) (AllKnown problem.symbols) (words_of (raw_line problem.symbols line))
      (λ term some all. any_all (λ symbol. IsSymbolOf problem.symbols symbol → ⊥) (IsSymbolOf problem.symbols) term (λ symbol no held. no held) some all) fault.1 (all_known place line right)
  raw_fine place line Heavy right fault =
      any_all IsHeavy IsLight (words_of (raw_line problem.symbols line)) (λ term long short. omega (arith, long, short)) fault.2 (all_light place line right)
  raw_fine place line Order right fault = no_order place line right fault.2
  raw_fine place line kind right fault = fault

  -- what is wrong with the line's text is so of the line
  other : (place : Place) (line : DocLine (List ℕ)) (kind : DocKind) → StandsAt problem place line
      → (raw : RawLine) × IsSpelled (line_text (spelled problem.symbols) line) raw × (may_stand place (kind_of raw) ≡ true) × RawFault problem place raw kind → ⊥
  other place line kind at (raw, spells, stands, fault) =
      raw_fine place line kind at.right
      (subst (λ r. RawFault problem place r kind) (raw_once (line_text (spelled problem.symbols) line) raw (raw_line problem.symbols line) spells (raw_spelled problem is place line at.right)) fault)

  -- a line that stands rightly has no fault
  pub fine : (place : Place) (line : DocLine (List ℕ)) (kind : DocKind) → StandsAt problem place line → LineFault problem place (line_text (spelled problem.symbols) line) kind → ⊥
  fine at_header line Header at fault = nowhere at_header line at fault
  fine at_header line kind at fault = fault
  fine (in_root zero) line kind at fault = true≢false (sym at.kind)
  fine (at_block blocks) line Syntax at fault = nowhere (at_block blocks) line at fault
  fine (at_block blocks) line kind at fault = other (at_block blocks) line kind at fault
  fine (at_inside blocks) line Syntax at fault = nowhere (at_inside blocks) line at fault
  fine (at_inside blocks) line kind at fault = other (at_inside blocks) line kind at fault
  fine (at_outside blocks) line Syntax at fault = nowhere (at_outside blocks) line at fault
  fine (at_outside blocks) line kind at fault = other (at_outside blocks) line kind at fault
  fine (in_block blocks wanted) line Syntax at fault = nowhere (in_block blocks wanted) line at fault
  fine (in_block blocks wanted) line kind at fault = other (in_block blocks wanted) line kind at fault
  fine (in_root (suc wanted)) line Syntax at fault = nowhere (in_root (suc wanted)) line at fault
  fine (in_root (suc wanted)) line kind at fault = other (in_root (suc wanted)) line kind at fault
