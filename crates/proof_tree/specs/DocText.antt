-- The lines of a document, and the text that they are.
use Rattle.std.specs.Prelude.{◌≡◌, ℕ, ◌+◌, List, [], ◌∷◌, ◌++◌, map}
use Rattle.mg_word.specs.Facts.{ProblemData}
use Rattle.mg_word.specs.Spelling.{spelled}
use Rattle.mg_word.specs.declared.lit.Lit.{Lit}
use Rattle.term_text.specs.Lits.{LineLit}
use Rattle.tree_checker.specs.Docs.{IsWellFormed}
use Rattle.tree_checker.specs.declared.doc.Doc.{Doc}
use Rattle.tree_checker.specs.declared.doc.LemmaBlock.{LemmaBlock}
use Rattle.tree_checker.specs.declared.doc.TreeLine.{TreeLine}
use Rattle.tree_checker.specs.declared.doc.TreeLine.TheVariants.{Form as FormLine, Clash, Barred, By}
use Rattle.proof_tree.specs.Bare.{bare}
use Rattle.proof_tree.specs.DocLines.{DocLine, header_line, lemma_line, inside_line, outside_line, root_line, form_line, clash_line, barred_line, by_line, line_text, ended}

-- a literal as it stands in a line: its atom is a word
abbrev pub lit_in_line : Lit → LineLit (List ℕ)
lit_in_line lit = record { negative = lit.negative; atom = lit.word }

-- a line of a tree
abbrev pub tree_line : TreeLine → DocLine (List ℕ)
tree_line (FormLine number terms) = form_line number terms
tree_line (Clash lit) = clash_line (lit_in_line lit)
tree_line (Barred lit) = barred_line (lit_in_line lit)
tree_line (By number) = by_line number

-- the lines of a block behind the first
abbrev pub inner_lines : LemmaBlock → List (DocLine (List ℕ))
inner_lines block = inside_line (map lit_in_line block.inside) ∷ outside_line (map lit_in_line block.outside) ∷ map tree_line block.tree

-- the lines of a block with that number
abbrev pub block_lines : ℕ → LemmaBlock → List (DocLine (List ℕ))
block_lines number block = lemma_line number ∷ inner_lines block

-- the lines of blocks that are numbered from that number
abbrev pub blocks_lines : ℕ → List LemmaBlock → List (DocLine (List ℕ))
blocks_lines number [] = []
blocks_lines number (block ∷ blocks) = block_lines number block ++ blocks_lines (number + 1) blocks

-- the lines of a document: the header, the blocks, and the root's tree
abbrev pub doc_lines : Doc → List (DocLine (List ℕ))
doc_lines doc = header_line ∷ (blocks_lines 1 doc.lemmas ++ root_line ∷ map tree_line doc.root)

-- the text of lines of a problem, each ended by a line feed
abbrev pub text_of : ProblemData → List (DocLine (List ℕ)) → List ℕ
text_of problem lines = ended (map (line_text (spelled problem.symbols)) lines)

-- the text of a document
abbrev pub doc_text : ProblemData → Doc → List ℕ
doc_text problem doc = text_of problem (doc_lines doc)

-- the text is that of the document, but for lines that begin with `%`
pub record IsDocText (problem : ProblemData) (doc : Doc) (bytes : List ℕ) : Type 0 where
  pub well_formed : IsWellFormed problem doc
  pub text : bare bytes ≡ doc_text problem doc
