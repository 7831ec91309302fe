-- A text of a document has no first fault.
use Rattle.std.proofs.Common.{◌≡◌, ℕ, ◌^◌, ◌<◌, Bool, true, false, List, [], ◌∷◌, ◌++◌, map, All, refl, sym, ◌∙◌, subst, append_assoc, arith}
use Rattle.std.specs.Fmt.{decimal}
use Rattle.std.proofs.lemmas.List.Elements.{All-head, All-tail, All-nil, All-cons}
use Rattle.mg_word.specs.Facts.{ProblemData, IsProblem}
use Rattle.mg_word.specs.Spelling.{spelled, symbols_at}
use Rattle.ascii_text.specs.Bytes.{is_digit, is_in_line}
use Rattle.ascii_text.proofs.Digits.{decimal_digits}
use Rattle.term_text.specs.Words.{IsWordOf}
use Rattle.term_text.specs.Brackets.{after_items, listed}
use Rattle.term_text.proofs.Texts.{all_weaker}
use Rattle.term_text.proofs.Apart.{terms_apart}
use Rattle.term_text.proofs.SymbolWords.{own_word}
use Rattle.tree_checker.specs.Docs.{IsWellFormed}
use Rattle.tree_checker.specs.declared.doc.Doc.{Doc}
use Rattle.tree_checker.specs.declared.doc_fault.DocKind.{DocKind}
use Rattle.tree_checker.specs.declared.doc_fault.DocKind.TheVariants.{Early}
use Rattle.proof_tree.specs.DocLines.{DocLine, header_line, lemma_line, inside_line, outside_line, root_line, form_line, clash_line, barred_line, by_line, line_text, ended}
use Rattle.term_text.specs.Lits.{LineLit, lit_text}
use Rattle.proof_tree.specs.DocText.{doc_lines, doc_text}
use Rattle.proof_tree.specs.Standing.{Place, at_header, in_root, lit_of, place_behind, IsRight, Leads}
use Rattle.proof_tree.specs.FirstFaults.{has_no_feed, LineFault, FaultAt, FirstFault}
use Rattle.proof_tree.proofs.LineFeeds.{no_feed_append, digit_no_feed, within_no_feed, symbols_named, feed_in, line_unique}
use Rattle.proof_tree.proofs.LinesApart.{HasParts, line_apart}
use Rattle.proof_tree.proofs.RawLines.{small_number}
use Rattle.term_text.proofs.LitItems.{unsigned}
use Rattle.proof_tree.proofs.FineLines.{fine}
use Rattle.proof_tree.proofs.DocLeads.{doc_leads}

-- no line feed is in a list of items that have none
after_none : {X : Type 0} (f : X → List ℕ) (xs : List X) → All (λ x. has_no_feed (f x) ≡ true) xs → has_no_feed (after_items (map f xs)) ≡ true
after_none f [] all = refl
after_none f (x ∷ xs) all = no_feed_append (f x) (after_items (map f xs)) (All-head (λ y. has_no_feed (f y) ≡ true) x xs all) (after_none f xs (All-tail (λ y. has_no_feed (f y) ≡ true) x xs all))

list_none : {X : Type 0} (f : X → List ℕ) (xs : List X) → All (λ x. has_no_feed (f x) ≡ true) xs → has_no_feed (listed (map f xs)) ≡ true
list_none f [] all = refl
list_none f (x ∷ xs) all = no_feed_append (f x) (after_items (map f xs)) (All-head (λ y. has_no_feed (f y) ≡ true) x xs all) (after_none f xs (All-tail (λ y. has_no_feed (f y) ≡ true) x xs all))

number_none : (n : ℕ) → n < 2 ^ 32 → has_no_feed (decimal n) ≡ true
number_none n small = all_weaker is_digit is_in_line digit_no_feed (decimal n) (decimal_digits n small)

pub no_text : (line after : List ℕ) → [] ≡ line ++ 10 ∷ after → ⊥
no_text [] after same = cc
no_text (byte ∷ line) after same = cc

module _ (problem : ProblemData) (is : IsProblem problem) where
  abbrev text_at : DocLine (List ℕ) → List ℕ
  text_at line = line_text (spelled problem.symbols) line

  word_none : (word : List ℕ) → has_no_feed (spelled problem.symbols word) ≡ true
  word_none word = within_no_feed [] (symbols_at problem.symbols word) (symbols_named problem.symbols word is.input.named)

  lit_none : (negative : Bool) (atom : List ℕ) → has_no_feed (lit_text (spelled problem.symbols) (record { negative = negative; atom = atom })) ≡ true
  lit_none true atom = word_none atom
  lit_none false atom = word_none atom

  pub line_none : (line : DocLine (List ℕ)) → HasParts (IsWordOf problem.symbols) line → has_no_feed (text_at line) ≡ true
  line_none header_line parts = refl
  line_none root_line parts = refl
  line_none (lemma_line n) parts = number_none n parts
  line_none (by_line n) parts = number_none n parts
  line_none (inside_line lits) parts = list_none (lit_text (spelled problem.symbols)) lits (λ k d within. lit_none _ _)
  line_none (outside_line lits) parts = list_none (lit_text (spelled problem.symbols)) lits (λ k d within. lit_none _ _)
  line_none (form_line n terms) parts = no_feed_append (decimal n) (32 ∷ listed (map (spelled problem.symbols) terms)) (number_none n parts.0) (list_none (spelled problem.symbols) terms (λ k d within. word_none _))
  line_none (clash_line lit) parts = lit_none lit.negative lit.atom
  line_none (barred_line lit) parts = lit_none lit.negative lit.atom

  lits_parts : (lits : List (LineLit (List ℕ))) → All (λ lit. IsWordOf problem.symbols lit.word) (map lit_of lits) → All (λ lit. IsWordOf problem.symbols lit.atom) lits
  lits_parts [] all = All-nil (λ lit. IsWordOf problem.symbols lit.atom)
  lits_parts (lit ∷ lits) all =
      All-cons (λ l. IsWordOf problem.symbols l.atom) lit lits (All-head (λ l. IsWordOf problem.symbols l.word) (lit_of lit) (map lit_of lits) all) (lits_parts lits (All-tail (λ l. IsWordOf problem.symbols l.word) (lit_of lit) (map lit_of lits) all))

  pub right_parts : (place : Place) (line : DocLine (List ℕ)) → IsRight problem place line → HasParts (IsWordOf problem.symbols) line
  right_parts place header_line right = tt
  right_parts place (lemma_line n) right = right.1
  right_parts place (inside_line lits) right = lits_parts lits right.words
  right_parts place (outside_line lits) right = lits_parts lits right.words
  right_parts place root_line right = tt
  right_parts place (form_line n terms) right = (small_number problem.forms n (omega (arith, is.few_forms)) right.0, right.1)
  right_parts place (clash_line lit) right = right
  right_parts place (barred_line lit) right = right
  right_parts place (by_line n) right = right

  words_unsigned : (word : List ℕ) (more further : List ℕ) → IsWordOf problem.symbols word → spelled problem.symbols word ++ more ≡ 126 ∷ further → ⊥
  words_unsigned word more further fit same = unsigned (symbols_at problem.symbols word) more further (own_word problem.symbols is.input.named 1 word fit.0) same

  pub lines_apart : (place there : Place) (a b : DocLine (List ℕ)) (more further : List ℕ) → IsRight problem place a → IsRight problem there b → text_at a ++ 10 ∷ more ≡ text_at b ++ 10 ∷ further → (a ≡ b) × (more ≡ further)
  lines_apart place there a b more further right also same =
      line_apart (spelled problem.symbols) (IsWordOf problem.symbols) (terms_apart problem.symbols is.input.named is.input.different) words_unsigned a b more further (right_parts place a right) (right_parts there b also) same

  -- where the rest of a document stands, nothing is wrong
  rest_fine : (place : Place) (lines : List (DocLine (List ℕ))) (rest : List ℕ) (kind : DocKind) → Leads problem place lines (in_root 0) → ended (map text_at lines) ≡ rest → FaultAt problem place rest kind → ⊥
  rest_fine place [] rest Early leads same fault = fault.1 (sym same) leads
  rest_fine place [] rest kind leads same fault = no_text fault.0 fault.1 (same ∙ fault.2.split)
  rest_fine place (line ∷ lines) rest Early leads same fault = feed_in (text_at line) (ended (map text_at lines)) (subst (λ t. has_no_feed t ≡ true) (sym same) fault.0)
  rest_fine place (line ∷ lines) rest kind leads same fault =
      let one = line_unique (text_at line) fault.0 (ended (map text_at lines)) fault.1 (line_none line (right_parts place line leads.0.right)) fault.2.one (same ∙ fault.2.split) in
      fine problem is place line kind leads.0 (subst (λ t. LineFault problem place t kind) (sym one.0) fault.3)

  -- a front of a document leads to where the document goes on
  front_fine : (place last : Place) (before lines : List (DocLine (List ℕ))) (rest : List ℕ) (kind : DocKind) → Leads problem place before last → Leads problem place lines (in_root 0)
      → ended (map text_at lines) ≡ ended (map text_at before) ++ rest → FaultAt problem last rest kind → ⊥
  front_fine place last [] lines rest kind front leads same fault = rest_fine place lines rest kind leads same (subst (λ p. FaultAt problem p rest kind) (sym front) fault)
  front_fine place last (line ∷ before) [] rest kind front leads same fault = no_text (text_at line) (ended (map text_at before) ++ rest) (same ∙ append_assoc (text_at line) (10 ∷ ended (map text_at before)) rest)
  front_fine place last (line ∷ before) (next ∷ lines) rest kind front leads same fault =
      let one = lines_apart place place next line (ended (map text_at lines)) (ended (map text_at before) ++ rest) leads.0.right front.0.right (same ∙ append_assoc (text_at line) (10 ∷ ended (map text_at before)) rest) in
      front_fine (place_behind problem.forms place line) last before lines rest kind front.1 (subst (λ l. Leads problem (place_behind problem.forms place l) lines (in_root 0)) one.0 leads.1) one.1 fault

  -- the text of a well-formed document has no first fault
  pub doc_or_fault : (doc : Doc) (text : List ℕ) (number : ℕ) (kind : DocKind) → IsWellFormed problem doc → text ≡ doc_text problem doc → FirstFault problem text number kind → ⊥
  doc_or_fault doc text number kind well same first = front_fine at_header first.place first.before (doc_lines doc) first.rest kind first.front (doc_leads problem doc well) (sym same ∙ first.split) first.fault
