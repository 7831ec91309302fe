-- What the parts of a text say of it as a whole.
use Rattle.std.proofs.Common.{◌≡◌, ◌≢◌, ℕ, ◌+◌, ◌^◌, ◌<◌, true≢false, List, [], ◌∷◌, ◌++◌, map, length, refl, sym, ap, ◌∙◌, append-nil, codes, arith}
use Rattle.std.proofs.lemmas.List.{length-map}
use Rattle.mg_word.specs.Facts.{ProblemData, IsProblem}
use Rattle.tree_checker.specs.Docs.{lines_before}
use Rattle.tree_checker.specs.declared.doc.Doc.{Doc}
use Rattle.tree_checker.specs.declared.doc.LemmaBlock.{LemmaBlock}
use Rattle.tree_checker.specs.declared.doc.TreeLine.{TreeLine}
use Rattle.tree_checker.specs.declared.doc_fault.DocKind.{DocKind}
use Rattle.tree_checker.specs.declared.doc_fault.DocKind.TheVariants.{Header}
use Rattle.tree_checker.specs.declared.doc_fault.DocFault.{DocFault}
use Rattle.tree_checker.specs.declared.doc_fault.DocFault.TheVariants.{Line, NoMemory}
use Rattle.proof_tree.specs.Bare.{bare}
use Rattle.proof_tree.specs.DocLines.{header_line, root_line}
use Rattle.proof_tree.specs.DocText.{tree_line, blocks_lines, doc_lines, doc_text, text_of, IsDocText}
use Rattle.proof_tree.specs.Standing.{at_header, at_block, in_root}
use Rattle.proof_tree.specs.FirstFaults.{StandsNowhere, BeginsWithLine, FaultAt, IsDocFault}
use Rattle.proof_tree.specs.Reading.{IsFaultFrom, BeginsWithTree, BeginsWithBlocks}
use Rattle.proof_tree.proofs.DocLeads.{root_places, tree_leads}
use Rattle.proof_tree.proofs.DocOrFault.{doc_or_fault}
use Rattle.proof_tree.proofs.DocsApart.{docs_apart}
use Rattle.proof_tree.proofs.FaultsFrom.{fault_behind, start_fault, text_on, one_line, wrong_here}
use Rattle.proof_tree.proofs.BareLength.{bare_short, lines_short, lines_counted}

-- the first line is no header
pub header_wrong : (problem : ProblemData) (text line after : List ℕ) → BeginsWithLine text line after → (line ≡ codes "mgtp tree 1" → ⊥) → IsFaultFrom problem at_header text 1 (Line 1 Header)
header_wrong problem text line after begins other = wrong_here problem at_header text line after 1 Header begins by
  where
    by : StandsNowhere at_header line
    by header_line is stands = other (sym is.is)
    by raw is stands = true≢false (sym stands)

module _ (problem : ProblemData) (text behind : List ℕ) (header : BeginsWithLine text (codes "mgtp tree 1") behind) where
  -- a fault behind the header
  pub header_behind : (fault : DocFault) → IsFaultFrom problem (at_block 0) behind 2 fault → IsFaultFrom problem at_header text 1 fault
  header_behind fault wrong =
      fault_behind problem at_header (at_block 0) text behind (header_line ∷ []) 1 2 fault (record { kind = refl; right = tt }, refl) (header.split ∙ one_line problem header_line behind) refl wrong

  module _ (rest tree : List ℕ) (blocks : List LemmaBlock) (number : ℕ) (so : BeginsWithBlocks problem behind (codes "root" ++ 10 ∷ rest) blocks) (counted : number ≡ length (blocks_lines 1 blocks) + 3) where
    -- a fault in the root's tree
    pub root_behind : (fault : DocFault) → IsFaultFrom problem (in_root 1) rest number fault → IsFaultFrom problem at_header text 1 fault
    root_behind fault wrong =
        header_behind fault (start_fault problem behind (codes "root" ++ 10 ∷ rest) blocks 2 (length (blocks_lines 1 blocks) + 2) fault so refl
        (fault_behind problem (at_block (length blocks)) (in_root 1) (codes "root" ++ 10 ∷ rest) rest (root_line ∷ []) (length (blocks_lines 1 blocks) + 2) number fault (record { kind = refl; right = tt }, refl) (one_line problem root_line rest) (omega (arith, counted)) wrong))

    module _ (root : List TreeLine) (read : BeginsWithTree problem rest tree root) where
      -- a fault behind the root's tree
      pub behind_root : (kind : DocKind) (next : ℕ) → next ≡ number + length root → FaultAt problem (in_root 0) tree kind → IsFaultFrom problem at_header text 1 (Line next kind)
      behind_root kind next is fault =
          root_behind (Line next kind)
          (fault_behind problem (in_root 1) (in_root 0) rest tree (map tree_line root) number next (Line next kind) (tree_leads problem in_root (root_places problem) root read.are) read.split (omega (arith, is, length-map root tree_line))
          (record { before = []; place = in_root 0; front = refl; rest = tree; split = refl; number_is = omega arith; fault = fault }))

      whole_text : tree ≡ [] → text ≡ doc_text problem (record { lemmas = blocks; root = root })
      whole_text none =
          let third = read.split ∙ (ap (λ l. text_of problem (map tree_line root) ++ l) none ∙ append-nil (text_of problem (map tree_line root))) in
          let second = text_on problem behind (codes "root" ++ 10 ∷ rest) [] (blocks_lines 1 blocks) (root_line ∷ map tree_line root) so.split (ap (λ l. codes "root" ++ 10 ∷ l) third ∙ sym (append-nil (text_of problem (root_line ∷ map tree_line root)))) in
          header.split ∙ ap (λ l. codes "mgtp tree 1" ++ 10 ∷ l) (second ∙ append-nil (text_of problem (blocks_lines 1 blocks ++ root_line ∷ map tree_line root)))

      -- the document that the parts are
      pub doc_is : (bytes : List ℕ) → length bytes < 2 ^ 63 → bare bytes ≡ text → tree ≡ [] → IsDocText problem (record { lemmas = blocks; root = root }) bytes
      doc_is bytes small same none = record {
        well_formed = record { blocks = so.are; root = read.are; few = so.few; short = short };
        text = same ∙ whole_text none;
      }
        where
          short : lines_before blocks + 1 + length root < 2 ^ 63
          short = omega (arith, small, bare_short bytes, ap length (same ∙ whole_text none), lines_short problem (doc_lines (record { lemmas = blocks; root = root })), lines_counted blocks root)

-- no document has a text with a first fault, and one alone has a text with none
pub no_doc : (problem : ProblemData) → IsProblem problem → (bytes : List ℕ) (fault : DocFault) → IsDocFault problem bytes fault → fault ≢ NoMemory → (doc : Doc) → IsDocText problem doc bytes → ⊥
no_doc problem is bytes (Line number kind) fault some doc at = doc_or_fault problem is doc (bare bytes) number kind at.well_formed at.text fault
no_doc problem is bytes NoMemory fault some doc at = some refl

pub one_doc : (problem : ProblemData) → IsProblem problem → (bytes : List ℕ) (a b : Doc) → IsDocText problem a bytes → IsDocText problem b bytes → b ≡ a
one_doc problem is bytes a b here there = docs_apart problem is b a there.well_formed here.well_formed (sym there.text ∙ here.text)

pub doc_fault : (problem : ProblemData) (bytes : List ℕ) (fault : DocFault) → IsFaultFrom problem at_header (bare bytes) 1 fault → IsDocFault problem bytes fault
doc_fault problem bytes (Line number kind) fault = fault
doc_fault problem bytes NoMemory fault = tt
