-- The ground instances of clauses that a document's lines name.
use Rattle.std.specs.Prelude.{ℕ, List, [], ◌∷◌, ◌++◌, Option, Some, None}
use Rattle.mg_word.specs.Words.{numbered}
use Rattle.mg_word.specs.Facts.{ProblemData}
use Rattle.mg_word.specs.declared.form.Form.{Form}
use Rattle.mg_meaning.specs.Truth.{Ground}
use Rattle.tree_checker.specs.declared.doc.Doc.{Doc}
use Rattle.tree_checker.specs.declared.doc.LemmaBlock.{LemmaBlock}
use Rattle.tree_checker.specs.declared.doc.TreeLine.{TreeLine}
use Rattle.tree_checker.specs.declared.doc.TreeLine.TheVariants.{Form as FormLine, Clash, Barred, By}

-- the instance of the form's clause
abbrev pub instance_under : List (List ℕ) → Option Form → List Ground
instance_under terms None = []
instance_under terms (Some form) = record { clause = form.clause; terms = terms } ∷ []

-- the instance that a line names, if it names one
abbrev pub line_instances : List Form → TreeLine → List Ground
line_instances forms (FormLine number terms) = instance_under terms (numbered forms number)
line_instances forms (Clash lit) = []
line_instances forms (Barred lit) = []
line_instances forms (By number) = []

-- those that the lines of a tree name
abbrev pub tree_instances : List Form → List TreeLine → List Ground
tree_instances forms [] = []
tree_instances forms (line ∷ lines) = line_instances forms line ++ tree_instances forms lines

-- those that the trees of blocks name
abbrev pub block_instances : List Form → List LemmaBlock → List Ground
block_instances forms [] = []
block_instances forms (block ∷ blocks) = tree_instances forms block.tree ++ block_instances forms blocks

-- for each line of the blocks and the root that names a form, the instance of its clause
abbrev pub instances_of : ProblemData → Doc → List Ground
instances_of problem doc = block_instances problem.forms doc.lemmas ++ tree_instances problem.forms doc.root
