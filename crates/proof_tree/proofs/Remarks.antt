-- Lines that begin with `%` may stand between the lines of a document.
use Rattle.std.proofs.Common.{◌≡◌, ℕ, Bool, true, false, List, [], ◌∷◌, ◌++◌, map, if◌then◌else◌, All, refl, ap, ◌∙◌}
use Rattle.std.proofs.lemmas.List.Elements.{All-head, All-tail, All-cons, All-nil}
use Rattle.mg_word.specs.Facts.{ProblemData, IsProblem}
use Rattle.mg_word.specs.Spelling.{spelled}
use Rattle.term_text.specs.Fronts.{begins_with}
use Rattle.tree_checker.specs.Docs.{IsWellFormed}
use Rattle.tree_checker.specs.declared.doc.Doc.{Doc}
use Rattle.proof_tree.specs.Bare.{bare, counted}
use Rattle.proof_tree.specs.DocLines.{DocLine, header_line, lemma_line, inside_line, outside_line, root_line, form_line, clash_line, barred_line, by_line, line_text, ended}
use Rattle.proof_tree.specs.DocText.{doc_lines, doc_text, IsDocText}
use Rattle.proof_tree.specs.Standing.{Place, at_header, in_root, place_behind, Leads}
use Rattle.proof_tree.specs.FirstFaults.{has_no_feed}
use Rattle.proof_tree.proofs.BareLines.{line_kept, line_passed}
use Rattle.proof_tree.proofs.DocLeads.{doc_leads}
use Rattle.proof_tree.proofs.DocOrFault.{line_none, right_parts}

abbrev IsWhole : List ℕ → Type 0
IsWhole line = has_no_feed line ≡ true

-- the first byte of a line tells whether it is passed over
first_tells : (line after : List ℕ) → begins_with (37 ∷ []) (line ++ 10 ∷ after) ≡ begins_with (37 ∷ []) line
first_tells [] after = refl
first_tells (byte ∷ line) after = refl

-- of lines those stay that do not begin with `%`
bare_counted : (lines : List (List ℕ)) → All IsWhole lines → bare (ended lines) ≡ ended (counted lines)
bare_counted [] whole = refl
bare_counted (line ∷ lines) whole = by (begins_with (37 ∷ []) line) (first_tells line (ended lines)) (bare_counted lines (All-tail IsWhole line lines whole))
  where
    by : (b : Bool) → begins_with (37 ∷ []) (line ++ 10 ∷ ended lines) ≡ b → bare (ended lines) ≡ ended (counted lines) → bare (line ++ 10 ∷ ended lines) ≡ ended (if b then counted lines else line ∷ counted lines)
    by true is rest = line_passed line (ended lines) (All-head IsWhole line lines whole) is ∙ rest
    by false is rest = (line_kept line (ended lines) (All-head IsWhole line lines whole) is).split ∙ ap (λ t. line ++ 10 ∷ t) rest

pub among_remarks : (problem : ProblemData) (doc : Doc) → IsWellFormed problem doc → (lines : List (List ℕ)) → All IsWhole lines → counted lines ≡ map (line_text (spelled problem.symbols)) (doc_lines doc) → IsDocText problem doc (ended lines)
among_remarks problem doc well lines whole same = record { well_formed = well; text = bare_counted lines whole ∙ ap ended same }

-- no line of a document begins with `%`
not_passed : (spell : List ℕ → List ℕ) (line : DocLine (List ℕ)) → begins_with (37 ∷ []) (line_text spell line) ≡ false
not_passed spell header_line = refl
not_passed spell (lemma_line number) = refl
not_passed spell (inside_line lits) = refl
not_passed spell (outside_line lits) = refl
not_passed spell root_line = refl
not_passed spell (form_line number terms) = refl
not_passed spell (clash_line lit) = refl
not_passed spell (barred_line lit) = refl
not_passed spell (by_line number) = refl

all_counted : (spell : List ℕ → List ℕ) (lines : List (DocLine (List ℕ))) → counted (map (line_text spell) lines) ≡ map (line_text spell) lines
all_counted spell [] = refl
all_counted spell (line ∷ lines) =
    ap (λ b. if b then counted (map (line_text spell) lines) else line_text spell line ∷ counted (map (line_text spell) lines)) (not_passed spell line) ∙ ap (λ l. line_text spell line ∷ l) (all_counted spell lines)

module _ (problem : ProblemData) (is : IsProblem problem) where
  all_whole : (place last : Place) (lines : List (DocLine (List ℕ))) → Leads problem place lines last → All IsWhole (map (line_text (spelled problem.symbols)) lines)
  all_whole place last [] leads = All-nil IsWhole
  all_whole place last (line ∷ lines) leads =
      All-cons IsWhole (line_text (spelled problem.symbols) line) (map (line_text (spelled problem.symbols)) lines) (line_none problem is line (right_parts problem is place line leads.0.right)) (all_whole (place_behind problem.forms place line) last lines leads.1)

  -- the text of a document is that of the document
  pub own_text : (doc : Doc) → IsWellFormed problem doc → IsDocText problem doc (doc_text problem doc)
  own_text doc well = among_remarks problem doc well (map (line_text (spelled problem.symbols)) (doc_lines doc)) (all_whole at_header (in_root 0) (doc_lines doc) (doc_leads problem doc well)) (all_counted (spelled problem.symbols) (doc_lines doc))
