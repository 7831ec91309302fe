-- What is printed of a proof is the text of its document, but for the lines that begin with `%`.
use Rattle.std.proofs.Common.{◌≡◌, ℕ, true, false, List, [], ◌∷◌, ◌++◌, map, Option, Some, refl, sym, ap, ◌∙◌, subst, codes, append-nil, append_assoc}
use Rattle.mg_word.specs.Facts.{ProblemData, IsProblem}
use Rattle.mg_word.specs.Spelling.{spelled}
use Rattle.mg_outside.specs.Reading.{Table}
use Rattle.term_text.specs.Fronts.{begins_with}
use Rattle.tree_checker.specs.Docs.{IsWellFormed}
use Rattle.tree_checker.specs.declared.doc.Doc.{Doc}
use Rattle.proof_tree.specs.Bare.{bare}
use Rattle.proof_tree.specs.DocLines.{DocLine, header_line, lemma_line, inside_line, outside_line, root_line, form_line, clash_line, barred_line, by_line, line_text, ended}
use Rattle.proof_tree.specs.DocText.{doc_lines, doc_text}
use Rattle.proof_tree.specs.FirstFaults.{has_no_feed}
use Rattle.proof_tree.specs.Standing.{Place, at_header, in_root, Leads, place_behind}
use Rattle.proof_tree.proofs.BareLines.{line_kept, line_passed}
use Rattle.proof_tree.proofs.DocLeads.{doc_leads}
use Rattle.proof_tree.proofs.DocOrFault.{line_none, right_parts}
use Rattle.szs_report.specs.Lines.{joined, line_of, status_line}
use Rattle.szs_report.specs.Names.{name_of}
use Rattle.szs_report.specs.Outputs.{end_line, start_line}
use Rattle.szs_report.specs.Printing.{text_of}
use Rattle.szs_report.specs.ProveLines.{proof_lines}
use Rattle.szs_report.specs.declared.check.CheckAnswer.TheVariants.{Accepted}
use Rattle.tree_board.specs.declared.mode.Limits.{Limits}
use Rattle.command_line.specs.Checks.{IsChecked}
use Rattle.command_line.specs.Proves.{Proved, IsProved, prove_printout}
use Rattle.command_line.specs.Searched.{EndsWith, search_of}
use Rattle.command_line.specs.Sources.{OfFile}
use Rattle.command_line.specs.declared.finding.Finding.TheVariants.{Unsatisfiable}

-- a line of parts that begins with `%` and has no line feed is passed over
remark : (parts : List (List ℕ)) (after : List ℕ) → has_no_feed (joined parts) ≡ true → begins_with (37 ∷ []) (joined parts ++ 10 ∷ after) ≡ true → bare (line_of parts ++ after) ≡ bare after
remark parts after none begins = ap bare (append_assoc (joined parts) (10 ∷ []) after) ∙ line_passed (joined parts) after none begins

module _ (name : List ℕ) (none : has_no_feed name ≡ true) where
  none_behind : has_no_feed (name ++ []) ≡ true
  none_behind = ap has_no_feed (append-nil name) ∙ none

  status_passed : (after : List ℕ) → bare (status_line (codes "Unsatisfiable") name ++ after) ≡ bare after
  status_passed after = remark (codes "% SZS status " ∷ codes "Unsatisfiable" ∷ codes " for " ∷ name ∷ []) after none_behind refl

  start_passed : (after : List ℕ) → bare (start_line (codes "Proof") name ++ after) ≡ bare after
  start_passed after = remark (codes "% SZS output start " ∷ codes "Proof" ∷ codes " for " ∷ name ∷ []) after none_behind refl

  end_passed : (after : List ℕ) → bare (end_line (codes "Proof") name ++ after) ≡ bare after
  end_passed after = remark (codes "% SZS output end " ∷ codes "Proof" ∷ codes " for " ∷ name ∷ []) after none_behind refl

  module _ (problem : ProblemData) (is : IsProblem problem) where
    abbrev text_at : DocLine (List ℕ) → List ℕ
    text_at line = line_text (spelled problem.symbols) line

    no_remark : (line : DocLine (List ℕ)) (after : List ℕ) → begins_with (37 ∷ []) (text_at line ++ 10 ∷ after) ≡ false
    no_remark header_line after = refl
    no_remark (lemma_line number) after = refl
    no_remark (inside_line lits) after = refl
    no_remark (outside_line lits) after = refl
    no_remark root_line after = refl
    no_remark (form_line number terms) after = refl
    no_remark (clash_line lit) after = refl
    no_remark (barred_line lit) after = refl
    no_remark (by_line number) after = refl

    -- the lines of a document count, whatever stands behind them
    lines_kept : (place last : Place) (lines : List (DocLine (List ℕ))) → Leads problem place lines last → (after : List ℕ) → bare (ended (map text_at lines) ++ after) ≡ ended (map text_at lines) ++ bare after
    lines_kept place last [] leads after = refl
    lines_kept place last (line ∷ lines) leads after =
        let more = ended (map text_at lines) in
        let one = line_kept (text_at line) (more ++ after) (line_none problem is line (right_parts problem is place line leads.0.right)) (no_remark line (more ++ after)) in
        ap bare (append_assoc (text_at line) (10 ∷ more) after)
        ∙ (one.split
        ∙ (ap (λ t. text_at line ++ 10 ∷ t) (lines_kept (place_behind problem.forms place line) last lines leads.1 after)
        ∙ sym (append_assoc (text_at line) (10 ∷ more) (bare after))))

    -- the lines of a proof without those that begin with `%`
    pub proof_bare : (doc : Doc) → IsWellFormed problem doc → bare (text_of (proof_lines name (doc_text problem doc))) ≡ doc_text problem doc
    proof_bare doc well =
        let text = doc_text problem doc in
        status_passed (start_line (codes "Proof") name ++ (text ++ (end_line (codes "Proof") name ++ [])))
        ∙ (start_passed (text ++ (end_line (codes "Proof") name ++ []))
        ∙ (lines_kept at_header (in_root 0) (doc_lines doc) (doc_leads problem doc well) (end_line (codes "Proof") name ++ [])
        ∙ (ap (λ t. text ++ t) (end_passed []) ∙ append-nil text)))

-- all that is printed of a proof is a tree that is accepted
pub proofs_are_accepted : (files : Table) (file tree : List ℕ) (root : Option (List ℕ)) (limits : Limits) (answer : Proved) (doc : Doc) → IsProved (Some files) (OfFile file root) limits answer → answer.finding ≡ Unsatisfiable doc
    → has_no_feed (name_of file) ≡ true → files tree ≡ Some (text_of (prove_printout (name_of file) limits answer).out) → IsChecked (Some files) (OfFile file root) tree Accepted
proofs_are_accepted files file tree root limits answer doc right finding none there =
    let ends = subst (EndsWith (search_of answer.problem limits right.journal)) finding right.found.ends in
    record {
      problem = answer.problem;
      is = right.is;
      text = text_of (prove_printout (name_of file) limits answer).out;
      there = there;
      judged = record {
        doc = doc;
        read = record {
          well_formed = ends.well_formed;
          text = ap (λ one. bare (text_of (prove_printout (name_of file) limits (record { problem = answer.problem; finding = one })).out)) finding ∙ proof_bare (name_of file) none answer.problem right.is.sound doc ends.well_formed;
        };
        accepts = ends.accepts;
        refuted = ends.refuted;
      };
    }
