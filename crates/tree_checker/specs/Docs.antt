-- Documents: which are well formed, which are accepted, and which line is the first that breaks a rule.
use Rattle.std.specs.Prelude.{◌≡◌, ℕ, ◌+◌, ◌^◌, ◌<◌, ◌≤◌, List, [], ◌∷◌, length, take, map, All, IsSome, IsTrue, Some, slice_get, ◌⊎◌}
use Rattle.mg_word.specs.Table.{Symbol}
use Rattle.mg_word.specs.Words.{numbered}
use Rattle.term_text.specs.Words.{IsWordOf, AreLitsOf}
use Rattle.mg_word.specs.Sets.{is_rising}
use Rattle.mg_word.specs.Facts.{ProblemData}
use Rattle.mg_word.specs.declared.lit.Lit.{Lit}
use Rattle.mg_word.specs.declared.form.Form.{Form}
use Rattle.tree_checker.specs.Trees.{Branch, IsTree, empty_branch}
use Rattle.mg_meaning.specs.Folding.{Pair}
use Rattle.tree_checker.specs.Closing.{Closes, FirstBreak}
use Rattle.tree_checker.specs.declared.doc.Doc.{Doc}
use Rattle.tree_checker.specs.declared.doc.LemmaBlock.{LemmaBlock}
use Rattle.tree_checker.specs.declared.doc.TreeLine.{TreeLine}
use Rattle.tree_checker.specs.declared.doc.TreeLine.TheVariants.{Form as FormLine, Clash, Barred, By}
use Rattle.tree_checker.specs.declared.doc.Reject.{Reject}
use Rattle.tree_checker.specs.declared.doc.Reject.TheVariants.{Line, NoMemory}

-- the lemma that a block states
abbrev pub lemma_of : LemmaBlock → Pair
lemma_of block = record { inside = block.inside; outside = block.outside }

-- the lemmas of blocks, which their numbers name
abbrev pub lemmas_of : List LemmaBlock → List Pair
lemmas_of blocks = map lemma_of blocks

-- what a block's tree closes: its inside held and its outside barred
abbrev pub branch_of : LemmaBlock → Branch
branch_of block = record { held = block.inside; barred = block.outside }

-- the terms and literals of the line are words of the table, and its number of a block fits 32 bits
abbrev pub LineFits : List Symbol → TreeLine → Type 0
LineFits table (FormLine number terms) = All (IsWordOf table) terms
LineFits table (Clash lit) = IsWordOf table lit.word
LineFits table (Barred lit) = IsWordOf table lit.word
LineFits table (By number) = number < 2 ^ 32

-- the form of the line is there
abbrev pub IsKnown : List Form → TreeLine → Type 0
IsKnown forms (FormLine number terms) = IsSome (numbered forms number)
IsKnown forms (Clash lit) = Unit {0}
IsKnown forms (Barred lit) = Unit {0}
IsKnown forms (By number) = Unit {0}

-- lines of known forms, over the symbols, that are one tree
pub record AreLines (problem : ProblemData) (lines : List TreeLine) : Type 0 where
  pub fitting : All (LineFits problem.symbols) lines
  pub known : All (IsKnown problem.forms) lines
  pub tree : IsTree problem.forms lines

-- the literals are words of the table, and rise strictly
pub record IsLemmaSet (table : List Symbol) (lits : List Lit) : Type 0 where
  pub words : AreLitsOf table lits
  pub rising : IsTrue (is_rising lits)

-- the sets of a block are sets of the problem's literals, and its tree is one of the problem
pub record IsBlock (problem : ProblemData) (block : LemmaBlock) : Type 0 where
  pub inside : IsLemmaSet problem.symbols block.inside
  pub outside : IsLemmaSet problem.symbols block.outside
  pub lines : AreLines problem block.tree

-- the lines before all blocks: the header
abbrev pub header_count : ℕ
header_count = 1

-- the lines of a block before its tree: its number, its inside and its outside
abbrev pub block_head_count : ℕ
block_head_count = 3

-- the lines of the root before its tree: the word `root`
abbrev pub root_head_count : ℕ
root_head_count = 1

-- how many lines a text has up to the end of these blocks
abbrev pub lines_before : List LemmaBlock → ℕ
lines_before [] = header_count
lines_before (block ∷ blocks) = lines_before blocks + (block_head_count + length block.tree)

-- the document is one of the problem: the condition of all that is said of documents
pub record IsWellFormed (problem : ProblemData) (doc : Doc) : Type 0 where
  pub blocks : All (IsBlock problem) doc.lemmas
  pub root : AreLines problem doc.root
  -- numbers of blocks fit 32 bits
  pub few : length doc.lemmas < 2 ^ 32
  -- and those of lines 63: all before the root's, one for the root and those of its tree
  pub short : lines_before doc.lemmas + root_head_count + length doc.root < 2 ^ 63

-- of the first n blocks, each one's tree closes from its own sets, with the blocks before it as lemmas
abbrev pub BlocksClose : List Form → List LemmaBlock → ℕ → Type 0
BlocksClose forms blocks n =
    (j : ℕ) (block : LemmaBlock) → j < n → slice_get blocks j ≡ Some block → Closes forms (lemmas_of (take j blocks)) (branch_of block) block.tree

-- each block closes, and then the root from two empty sets, with all blocks as lemmas
pub record Accepts (problem : ProblemData) (doc : Doc) : Type 0 where
  pub blocks : BlocksClose problem.forms doc.lemmas (length doc.lemmas)
  pub root : Closes problem.forms (lemmas_of doc.lemmas) empty_branch doc.root

-- of a tree's lines, counted from that number, the first that breaks a rule is named
abbrev pub RejectsAt : List Form → List Pair → Branch → List TreeLine → ℕ → Reject → Type 0
RejectsAt forms lemmas start lines first (Line line why) = (at : ℕ) × (line ≡ first + at) × FirstBreak forms lemmas start lines at why
RejectsAt forms lemmas start lines first NoMemory = Unit {0}

-- the first broken line is in the tree of the block with this index
pub record InBlock (problem : ProblemData) (doc : Doc) (reject : Reject) : Type 0 where
  pub at : ℕ
  pub block : LemmaBlock
  pub block_is : slice_get doc.lemmas at ≡ Some block
  pub before : BlocksClose problem.forms doc.lemmas at
  pub rejects : RejectsAt problem.forms (lemmas_of (take at doc.lemmas)) (branch_of block) block.tree (lines_before (take at doc.lemmas) + block_head_count + 1) reject

-- the first broken line is in the root's tree
pub record InRoot (problem : ProblemData) (doc : Doc) (reject : Reject) : Type 0 where
  pub before : BlocksClose problem.forms doc.lemmas (length doc.lemmas)
  pub rejects : RejectsAt problem.forms (lemmas_of doc.lemmas) empty_branch doc.root (lines_before doc.lemmas + root_head_count + 1) reject

-- the answer names the first line that breaks a rule and the first rule that it breaks, or that memory ran out
abbrev pub Rejects : ProblemData → Doc → Reject → Type 0
Rejects problem doc reject = InBlock problem doc reject ⊎ InRoot problem doc reject
