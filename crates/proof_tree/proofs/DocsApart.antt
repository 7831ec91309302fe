-- No text of a document is the text of another one: its lines are the same, and tell the document.
use Rattle.std.proofs.Common.{◌≡◌, ℕ, ◌+◌, Bool, true, false, true≢false, List, [], ◌∷◌, ◌++◌, map, refl, sym, ap, ◌∙◌, subst, append_assoc}
use Rattle.mg_word.specs.Facts.{ProblemData, IsProblem}
use Rattle.mg_word.specs.Spelling.{spelled}
use Rattle.mg_word.specs.declared.lit.Lit.{Lit}
use Rattle.term_text.specs.Lits.{LineLit}
use Rattle.term_text.proofs.Texts.{heads, tails}
use Rattle.tree_checker.specs.Docs.{IsWellFormed}
use Rattle.tree_checker.specs.declared.doc.Doc.{Doc}
use Rattle.tree_checker.specs.declared.doc.LemmaBlock.{LemmaBlock}
use Rattle.tree_checker.specs.declared.doc.TreeLine.{TreeLine}
use Rattle.tree_checker.specs.declared.doc.TreeLine.TheVariants.{Form as FormLine, Clash, Barred, By}
use Rattle.proof_tree.specs.DocLines.{DocLine, header_line, lemma_line, inside_line, outside_line, root_line, form_line, clash_line, barred_line, by_line, line_text}
use Rattle.proof_tree.specs.DocText.{lit_in_line, tree_line, block_lines, blocks_lines, doc_lines, doc_text, text_of}
use Rattle.proof_tree.specs.Standing.{Place, at_header, in_root, lit_of, place_behind, Leads}
use Rattle.proof_tree.proofs.DocLeads.{doc_leads, same_lits}
use Rattle.proof_tree.proofs.DocOrFault.{lines_apart, no_text}

module _ (problem : ProblemData) (is : IsProblem problem) where
  -- lines that stand rightly from one place on and have one text are the same
  pub same_lines : (place last end : Place) (lines others : List (DocLine (List ℕ))) → Leads problem place lines last → Leads problem place others end → text_of problem lines ≡ text_of problem others → lines ≡ others
  same_lines place last end [] [] here there same = refl
  same_lines place last end [] (line ∷ others) here there same = absurd (no_text (line_text (spelled problem.symbols) line) (text_of problem others) same)
  same_lines place last end (line ∷ lines) [] here there same = absurd (no_text (line_text (spelled problem.symbols) line) (text_of problem lines) (sym same))
  same_lines place last end (line ∷ lines) (next ∷ others) here there same =
      let one = lines_apart problem is place place next line (text_of problem others) (text_of problem lines) there.0.right here.0.right (sym same) in
      let rest = same_lines (place_behind problem.forms place line) last end lines others here.1 (subst (λ l. Leads problem (place_behind problem.forms place l) others end) one.0 there.1) (sym one.1) in
      let first = sym one.0 in
      λ i. first i ∷ rest i

-- the line of a tree that a line of a document is
abbrev node_of : DocLine (List ℕ) → TreeLine
node_of (form_line number terms) = FormLine number terms
node_of (clash_line lit) = Clash (lit_of lit)
node_of (barred_line lit) = Barred (lit_of lit)
node_of (by_line number) = By number
node_of line = By 0

node_again : (line : TreeLine) → node_of (tree_line line) ≡ line
node_again (FormLine number terms) = refl
node_again (Clash lit) = refl
node_again (Barred lit) = refl
node_again (By number) = refl

same_node : (a b : TreeLine) → tree_line a ≡ tree_line b → a ≡ b
same_node a b same = sym (node_again a) ∙ (ap node_of same ∙ node_again b)

-- a line of no tree comes first, or nothing
abbrev behind_tree : List (DocLine (List ℕ)) → Bool
behind_tree [] = true
behind_tree (lemma_line number ∷ lines) = true
behind_tree (root_line ∷ lines) = true
behind_tree (line ∷ lines) = false

node_first : (line : TreeLine) (lines : List (DocLine (List ℕ))) → behind_tree (tree_line line ∷ lines) ≡ false
node_first (FormLine number terms) lines = refl
node_first (Clash lit) lines = refl
node_first (Barred lit) lines = refl
node_first (By number) lines = refl

trees_apart : (a b : List TreeLine) (more further : List (DocLine (List ℕ))) → behind_tree more ≡ true → behind_tree further ≡ true → map tree_line a ++ more ≡ map tree_line b ++ further → (a ≡ b) × (more ≡ further)
trees_apart [] [] more further end stop same = (refl, same)
trees_apart [] (y ∷ b) more further end stop same = absurd (true≢false (sym end ∙ (ap behind_tree same ∙ node_first y (map tree_line b ++ further))))
trees_apart (x ∷ a) [] more further end stop same = absurd (true≢false (sym stop ∙ (ap behind_tree (sym same) ∙ node_first x (map tree_line a ++ more))))
trees_apart (x ∷ a) (y ∷ b) more further end stop same =
    let first = same_node x y (heads (tree_line x) (tree_line y) (map tree_line a ++ more) (map tree_line b ++ further) same) in
    let rest = trees_apart a b more further end stop (tails (tree_line x) (tree_line y) (map tree_line a ++ more) (map tree_line b ++ further) same) in
    ((λ i. first i ∷ rest.0 i), rest.1)

-- the literals of a line of a set
abbrev set_in : DocLine (List ℕ) → List (LineLit (List ℕ))
set_in (inside_line lits) = lits
set_in (outside_line lits) = lits
set_in line = []

same_set : (a b : List Lit) → map lit_in_line a ≡ map lit_in_line b → a ≡ b
same_set a b same = sym (same_lits a) ∙ (ap (map lit_of) same ∙ same_lits b)

blocks_end : (number : ℕ) (blocks : List LemmaBlock) (root : List (DocLine (List ℕ))) → behind_tree (blocks_lines number blocks ++ root_line ∷ root) ≡ true
blocks_end number [] root = refl
blocks_end number (block ∷ blocks) root = refl

other_start : (number : ℕ) (lines more : List (DocLine (List ℕ))) → root_line ∷ lines ≡ lemma_line number ∷ more → ⊥
other_start number lines more same = cc

blocks_apart : (number : ℕ) (a b : List LemmaBlock) (root other : List (DocLine (List ℕ))) → blocks_lines number a ++ root_line ∷ root ≡ blocks_lines number b ++ root_line ∷ other → (a ≡ b) × (root ≡ other)
blocks_apart number [] [] root other same = (refl, tails root_line root_line root other same)
blocks_apart number [] (y ∷ b) root other same = absurd (other_start number root _ same)
blocks_apart number (x ∷ a) [] root other same = absurd (other_start number other _ (sym same))
blocks_apart number (x ∷ a) (y ∷ b) root other same =
    let left = blocks_lines (number + 1) a ++ root_line ∷ root in
    let right = blocks_lines (number + 1) b ++ root_line ∷ other in
    let whole = sym (append_assoc (block_lines number x) (blocks_lines (number + 1) a) (root_line ∷ root)) ∙ (same ∙ append_assoc (block_lines number y) (blocks_lines (number + 1) b) (root_line ∷ other)) in
    let first = tails (lemma_line number) (lemma_line number) _ _ whole in
    let insides = same_set x.inside y.inside (ap set_in (heads _ _ _ _ first)) in
    let second = tails _ _ _ _ first in
    let outsides = same_set x.outside y.outside (ap set_in (heads _ _ _ _ second)) in
    let trees = trees_apart x.tree y.tree left right (blocks_end (number + 1) a root) (blocks_end (number + 1) b other) (tails _ _ _ _ second) in
    let rest = blocks_apart (number + 1) a b root other trees.1 in
    ((λ i. record { inside = insides i; outside = outsides i; tree = trees.0 i } ∷ rest.0 i), rest.1)

-- the lines of a document tell it
pub same_doc : (a b : Doc) → doc_lines a ≡ doc_lines b → a ≡ b
same_doc a b same =
    let blocks = blocks_apart 1 a.lemmas b.lemmas (map tree_line a.root) (map tree_line b.root) (tails header_line header_line _ _ same) in
    let roots = trees_apart a.root b.root [] [] refl refl (ap (λ l. l ++ []) blocks.1) in
    λ i. record { lemmas = blocks.0 i; root = roots.0 i }

pub docs_apart : (problem : ProblemData) → IsProblem problem → (a b : Doc) → IsWellFormed problem a → IsWellFormed problem b → doc_text problem a ≡ doc_text problem b → a ≡ b
docs_apart problem is a b here there same = same_doc a b (same_lines problem is at_header (in_root 0) (in_root 0) (doc_lines a) (doc_lines b) (doc_leads problem a here) (doc_leads problem b there) same)
