-- The lines of a well-formed document stand rightly, up to the end of the root's tree.
use Rattle.std.proofs.Common.{◌≡◌, ◌≢◌, ℕ, zero, suc, ◌+◌, ◌^◌, ◌<◌, List, [], ◌∷◌, ◌++◌, map, length, Option, Some, None, All, refl, sym, ap, ◌∙◌, subst, arith}
use Rattle.std.specs.Option.{option_map_or}
use Rattle.std.proofs.lemmas.List.Elements.{All-head, All-tail}
use Rattle.mg_word.specs.Words.{numbered}
use Rattle.mg_word.specs.Facts.{ProblemData}
use Rattle.mg_word.specs.declared.lit.Lit.{Lit}
use Rattle.mg_word.specs.declared.form.Form.{Form}
use Rattle.tree_checker.specs.Trees.{conclusions_at, conclusions_under}
use Rattle.tree_checker.specs.Docs.{LineFits, IsKnown, AreLines, IsBlock, IsLemmaSet, IsWellFormed}
use Rattle.tree_checker.specs.declared.doc.Doc.{Doc}
use Rattle.tree_checker.specs.declared.doc.LemmaBlock.{LemmaBlock}
use Rattle.tree_checker.specs.declared.doc.TreeLine.{TreeLine}
use Rattle.tree_checker.specs.declared.doc.TreeLine.TheVariants.{Form as FormLine, Clash, Barred, By}
use Rattle.proof_tree.proofs.TreeCounts.{trees_left, tree_counted}
use Rattle.proof_tree.specs.DocLines.{DocLine, root_line}
use Rattle.tree_checker.specs.declared.doc_fault.DocKind.{DocKind}
use Rattle.tree_checker.specs.declared.doc_fault.DocKind.TheVariants.{Syntax}
use Rattle.proof_tree.specs.FirstFaults.{LineFault}
use Rattle.proof_tree.specs.Reading.{IsTreeAt}
use Rattle.proof_tree.specs.DocText.{lit_in_line, tree_line, block_lines, blocks_lines, doc_lines}
use Rattle.proof_tree.specs.Standing.{Place, at_header, at_block, in_block, in_root, node, kind_of, may_stand, children, behind_block, place_behind, lit_of, IsRight, Leads}

pub Leads-append : (problem : ProblemData) (first middle last : Place) (lines more : List (DocLine (List ℕ))) → Leads problem first lines middle → Leads problem middle more last → Leads problem first (lines ++ more) last
Leads-append problem first middle last [] more here there = subst (λ p. Leads problem p more last) (sym here) there
Leads-append problem first middle last (line ∷ lines) more here there = (here.0, Leads-append problem (place_behind problem.forms first line) middle last lines more here.1 there)

length_map : {X Y : Type 0} (f : X → Y) (xs : List X) → length (map f xs) ≡ length xs
length_map f [] = refl
length_map f (x ∷ xs) = ap suc (length_map f xs)

-- as many trees stand below a line as it has conclusions
children_is : (forms : List Form) (line : TreeLine) → children forms (tree_line line) ≡ length (conclusions_at forms line)
children_is forms (FormLine number terms) = by (numbered forms number)
  where
    by : (form : Option Form) → option_map_or (λ f. length f.conclusions) form 0 ≡ length (conclusions_under terms form)
    by None = refl
    by (Some form) = sym (length_map _ form.conclusions)
children_is forms (Clash lit) = refl
children_is forms (Barred lit) = refl
children_is forms (By number) = refl

same_lit : (lit : Lit) → lit_of (lit_in_line lit) ≡ lit
same_lit lit = refl

pub same_lits : (lits : List Lit) → map lit_of (map lit_in_line lits) ≡ lits
same_lits [] = refl
same_lits (lit ∷ lits) = ap (λ l. lit ∷ l) (same_lits lits)

right_line : (problem : ProblemData) (place : Place) (line : TreeLine) → LineFits problem.symbols line → IsKnown problem.forms line → IsRight problem place (tree_line line)
right_line problem place (FormLine number terms) fits known = (known, fits)
right_line problem place (Clash lit) fits known = fits
right_line problem place (Barred lit) fits known = fits
right_line problem place (By number) fits known = fits

is_node : (line : TreeLine) → kind_of (tree_line line) ≡ node
is_node (FormLine number terms) = refl
is_node (Clash lit) = refl
is_node (Barred lit) = refl
is_node (By number) = refl

not_root : (wanted : ℕ) → in_root (suc wanted) ≢ in_root 0
not_root wanted same = cc

pub root_places : (problem : ProblemData) → IsTreeAt problem in_root
root_places problem = record {
  stands = λ wanted line. ap (may_stand (in_root (suc wanted))) (is_node line);
  next = λ wanted line. refl;
  fault = λ wanted text kind fault. later wanted text kind fault;
  early = not_root;
}
  where
    later : (wanted : ℕ) (text : List ℕ) (kind : DocKind) → LineFault problem (in_root 1) text kind → LineFault problem (in_root (suc wanted)) text kind
    later wanted text Syntax fault = fault
    later wanted text kind fault = fault

not_block : (blocks wanted : ℕ) → in_block blocks (suc wanted) ≢ in_root 0
not_block blocks wanted same = cc

pub block_places : (problem : ProblemData) (blocks : ℕ) → IsTreeAt problem (behind_block blocks)
block_places problem blocks = record {
  stands = λ wanted line. ap (may_stand (in_block blocks (suc wanted))) (is_node line);
  next = λ wanted line. refl;
  fault = λ wanted text kind fault. later wanted text kind fault;
  early = not_block blocks;
}
  where
    later : (wanted : ℕ) (text : List ℕ) (kind : DocKind) → LineFault problem (in_root 1) text kind → LineFault problem (in_block blocks (suc wanted)) text kind
    later wanted text Syntax fault = fault
    later wanted text kind fault = fault

module _ (problem : ProblemData) (places : ℕ → Place) (at : IsTreeAt problem places) where
  pub counted_leads : (lines : List TreeLine) (wanted left : ℕ) → All (LineFits problem.symbols) lines → All (IsKnown problem.forms) lines → trees_left problem.forms wanted lines ≡ Some left
      → Leads problem (places wanted) (map tree_line lines) (places left)
  counted_leads [] wanted left fits known is = let same : wanted ≡ left = cc in ap places same
  counted_leads (line ∷ lines) zero left fits known is = absurd (none is)
    where
      none : None ≡ Some left → ⊥
      none e = cc
  counted_leads (line ∷ lines) (suc wanted) left fits known is = (
    record { kind = at.stands wanted line; right = right_line problem (places (suc wanted)) line (All-head (LineFits problem.symbols) line lines fits) (All-head (IsKnown problem.forms) line lines known) },
    subst (λ p. Leads problem p (map tree_line lines) (places left)) (sym (at.next wanted line ∙ ap (λ n. places (n + wanted)) (children_is problem.forms line)))
        (counted_leads lines (length (conclusions_at problem.forms line) + wanted) left (All-tail (LineFits problem.symbols) line lines fits) (All-tail (IsKnown problem.forms) line lines known) is),
  )

  pub tree_leads : (lines : List TreeLine) → AreLines problem lines → Leads problem (places 1) (map tree_line lines) (places 0)
  tree_leads lines are = counted_leads lines 1 0 are.fitting are.known (tree_counted problem.forms lines are.tree)

pub lemma_set : (problem : ProblemData) (lits : List Lit) → IsLemmaSet problem.symbols lits → IsLemmaSet problem.symbols (map lit_of (map lit_in_line lits))
lemma_set problem lits is = subst (IsLemmaSet problem.symbols) (sym (same_lits lits)) is

module _ (problem : ProblemData) where
  pub block_leads : (blocks : ℕ) (block : LemmaBlock) → suc blocks < 2 ^ 32 → IsBlock problem block → Leads problem (at_block blocks) (block_lines (suc blocks) block) (at_block (suc blocks))
  block_leads blocks block small is = (
    record { kind = refl; right = (refl, small) },
    (
      record { kind = refl; right = lemma_set problem block.inside is.inside },
      (record { kind = refl; right = lemma_set problem block.outside is.outside }, tree_leads problem (behind_block blocks) (block_places problem blocks) block.tree is.lines),
    ),
  )

  pub blocks_lead : (passed : ℕ) (blocks : List LemmaBlock) → passed + length blocks < 2 ^ 32 → All (IsBlock problem) blocks → Leads problem (at_block passed) (blocks_lines (passed + 1) blocks) (at_block (passed + length blocks))
  blocks_lead passed [] small all = let same : passed ≡ passed + 0 = omega arith in ap at_block same
  blocks_lead passed (block ∷ blocks) small all =
      let next : passed + 1 ≡ suc passed = omega arith in
      let last : suc passed + length blocks ≡ passed + length (block ∷ blocks) = omega arith in
      let rest = blocks_lead (suc passed) blocks (omega arith) (All-tail (IsBlock problem) block blocks all) in
      Leads-append problem (at_block passed) (at_block (suc passed)) (at_block (passed + length (block ∷ blocks))) (block_lines (passed + 1) block) (blocks_lines (passed + 1 + 1) blocks)
      (subst (λ n. Leads problem (at_block passed) (block_lines n block) (at_block (suc passed))) (sym next) (block_leads passed block (omega arith) (All-head (IsBlock problem) block blocks all)))
      (subst (λ n. Leads problem (at_block (suc passed)) (blocks_lines (n + 1) blocks) (at_block (passed + length (block ∷ blocks)))) (sym next) (subst (λ n. Leads problem (at_block (suc passed)) (blocks_lines (suc passed + 1) blocks) (at_block n)) last rest))

  -- the lines of a document lead from the header to the end of the root's tree
  pub doc_leads : (doc : Doc) → IsWellFormed problem doc → Leads problem at_header (doc_lines doc) (in_root 0)
  doc_leads doc is = (
    record { kind = refl; right = tt },
    Leads-append problem (at_block 0) (at_block (0 + length doc.lemmas)) (in_root 0) (blocks_lines 1 doc.lemmas) (root_line ∷ map tree_line doc.root)
        (blocks_lead 0 doc.lemmas (omega (arith, is.few)) is.blocks)
        (record { kind = refl; right = tt }, tree_leads problem in_root (root_places problem) doc.root is.root),
  )
