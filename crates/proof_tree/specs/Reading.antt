-- What the reading of lines, sets, trees and blocks answers. No public clause cites this module.
use Rattle.std.specs.Prelude.{◌≡◌, ◌≢◌, ℕ, suc, ◌+◌, ◌<◌, ◌≤◌, ◌^◌, Bool, true, false, List, [], ◌∷◌, ◌++◌, map, length, codes, All, Any}
use Rattle.std.specs.Fmt.{decimal}
use Rattle.mg_word.specs.Table.{Symbol}
use Rattle.mg_word.specs.Facts.{ProblemData}
use Rattle.mg_word.specs.Sets.{is_rising}
use Rattle.mg_word.specs.Spelling.{spelled}
use Rattle.mg_word.specs.declared.lit.Lit.{Lit}
use Rattle.term_text.specs.Brackets.{listed}
use Rattle.term_text.specs.Lits.{RawLit, raw_text, lit_text, IsOwnLit, atoms}
use Rattle.term_text.specs.Lists.{NoLit}
use Rattle.term_text.specs.OwnTerms.{HasUnknown, AllKnown, IsHeavy, IsLight}
use Rattle.term_text.specs.Words.{IsWordOf}
use Rattle.tree_checker.specs.Docs.{LineFits, IsKnown, IsLemmaSet, IsBlock, AreLines}
use Rattle.tree_checker.specs.declared.doc.LemmaBlock.{LemmaBlock}
use Rattle.tree_checker.specs.declared.doc.TreeLine.{TreeLine}
use Rattle.tree_checker.specs.declared.doc_fault.DocKind.{DocKind}
use Rattle.tree_checker.specs.declared.doc_fault.DocKind.TheVariants.{Syntax, FormNumber, Unknown, Heavy, Order}
use Rattle.tree_checker.specs.declared.doc_fault.DocFault.{DocFault}
use Rattle.tree_checker.specs.declared.doc_fault.DocFault.TheVariants.{Line, NoMemory as OutOfMemory}
use Rattle.proof_tree.specs.DocLines.{line_text}
use Rattle.proof_tree.specs.DocText.{lit_in_line, tree_line, inner_lines, blocks_lines, text_of}
use Rattle.proof_tree.specs.Standing.{Place, in_root, kind_of, may_stand, children, place_behind}
use Rattle.proof_tree.specs.FirstFaults.{AreUnordered, LineFault, has_no_feed, FaultFrom}
use Rattle.proof_tree.specs.declared.lines.TextEnd.{TextEnd}
use Rattle.proof_tree.specs.declared.lines.TextEnd.TheVariants.{Whole, Unended}
use Rattle.proof_tree.specs.declared.blocks.BlockStart.{BlockStart}
use Rattle.proof_tree.specs.declared.blocks.BlockStart.TheVariants.{Root, Lemma}
use Rattle.proof_tree.specs.declared.line_fault.LineFault.{LineFault as Fault}
use Rattle.proof_tree.specs.declared.line_fault.LineFault.TheVariants.{Wrong, NoMemory}

-- how a text without a further line ends
abbrev pub EndsSo : List ℕ → TextEnd → Type 0
EndsSo text Whole = text ≡ []
EndsSo text Unended = (text ≢ []) × (has_no_feed text ≡ true)

-- the text is that line of a tree, all of the problem
pub record IsNode (problem : ProblemData) (text : List ℕ) (line : TreeLine) : Type 0 where
  pub fits : LineFits problem.symbols line
  pub known : IsKnown problem.forms line
  pub spelled_is : line_text (spelled problem.symbols) (tree_line line) ≡ text

-- what is wrong with the text as a line of a tree
abbrev pub IsNoNode : ProblemData → List ℕ → Fault → Type 0
IsNoNode problem text (Wrong kind) = LineFault problem (in_root 1) text kind
IsNoNode problem text NoMemory = Unit {0}

-- behind `form` stand a number, and this behind the bracket that opens the list
pub record IsSplitSo (text : List ℕ) (number : ℕ) (list : List ℕ) : Type 0 where
  pub small : number < 2 ^ 32
  pub text_is : decimal number ++ 32 ∷ 91 ∷ list ≡ text

-- a form has the number, where there are so many
abbrev pub IsNumbered : ℕ → ℕ → Type 0
IsNumbered forms number = (0 < number) × (number ≤ forms)

-- the first of the faults of a line whose syntax is right
abbrev pub IsRefused : ℕ → ℕ → Bool → Bool → Fault → Type 0
IsRefused forms number unknown heavy (Wrong FormNumber) = ¬ IsNumbered forms number
IsRefused forms number unknown heavy (Wrong Unknown) = IsNumbered forms number × (unknown ≡ true)
IsRefused forms number unknown heavy (Wrong Heavy) = IsNumbered forms number × (unknown ≡ false) × (heavy ≡ true)
IsRefused forms number unknown heavy (Wrong kind) = ⊥
IsRefused forms number unknown heavy NoMemory = ⊥

-- the text is that of the literal, all of the problem
pub record IsLitText (table : List Symbol) (text : List ℕ) (lit : Lit) : Type 0 where
  pub fits : IsWordOf table lit.word
  pub spelled_is : lit_text (spelled table) (lit_in_line lit) ≡ text

-- what is wrong with the text of a literal
abbrev pub LitFault : List Symbol → List ℕ → DocKind → Type 0
LitFault table text Syntax = NoLit text
LitFault table text Unknown = (raw : RawLit) × IsOwnLit raw × (raw_text raw ≡ text) × HasUnknown table raw.atom
LitFault table text Heavy = (raw : RawLit) × IsOwnLit raw × (raw_text raw ≡ text) × AllKnown table raw.atom × IsHeavy raw.atom
LitFault table text kind = ⊥

abbrev pub IsNoLitText : List Symbol → List ℕ → Fault → Type 0
IsNoLitText table text (Wrong kind) = LitFault table text kind
IsNoLitText table text NoMemory = Unit {0}

-- the text is that word and the list of the literals of a set, all of the problem
pub record IsSetText (table : List Symbol) (word text : List ℕ) (set : List Lit) : Type 0 where
  pub is : IsLemmaSet table set
  pub spelled_is : word ++ listed (map (lit_text (spelled table)) (map lit_in_line set)) ≡ text

-- the text is that word and the list of these literals by their own symbols
pub record IsRawSet (word text : List ℕ) (raws : List RawLit) : Type 0 where
  pub own : All IsOwnLit raws
  pub text_is : word ++ listed (map raw_text raws) ≡ text

-- what is wrong with the text of a set behind that word
abbrev pub SetFault : List Symbol → List ℕ → List ℕ → DocKind → Type 0
SetFault table word text Syntax = (raws : List RawLit) → IsRawSet word text raws → ⊥
SetFault table word text Unknown = (raws : List RawLit) × IsRawSet word text raws × Any (HasUnknown table) (atoms raws)
SetFault table word text Heavy = (raws : List RawLit) × IsRawSet word text raws × All (AllKnown table) (atoms raws) × Any IsHeavy (atoms raws)
SetFault table word text Order = (raws : List RawLit) × IsRawSet word text raws × All (AllKnown table) (atoms raws) × All IsLight (atoms raws) × AreUnordered table raws
SetFault table word text kind = ⊥

abbrev pub IsNoSetText : List Symbol → List ℕ → List ℕ → Fault → Type 0
IsNoSetText table word text (Wrong kind) = SetFault table word text kind
IsNoSetText table word text NoMemory = Unit {0}

-- these literals are the set, where no flag stands
abbrev pub IsSetOf : List Lit → Bool → Bool → List Lit → Type 0
IsSetOf lits unknown heavy set = (unknown ≡ false) × (heavy ≡ false) × (is_rising lits ≡ true) × (set ≡ lits)

-- the first of the faults of a list whose syntax is right
abbrev pub IsRefusedSet : List Lit → Bool → Bool → Fault → Type 0
IsRefusedSet lits unknown heavy (Wrong Unknown) = unknown ≡ true
IsRefusedSet lits unknown heavy (Wrong Heavy) = (unknown ≡ false) × (heavy ≡ true)
IsRefusedSet lits unknown heavy (Wrong Order) = (unknown ≡ false) × (heavy ≡ false) × (is_rising lits ≡ false)
IsRefusedSet lits unknown heavy (Wrong kind) = ⊥
IsRefusedSet lits unknown heavy NoMemory = Unit {0}

-- the fault of a line with that number
abbrev pub fault_of : ℕ → Fault → DocFault
fault_of number (Wrong kind) = Line number kind
fault_of number NoMemory = OutOfMemory

-- the fault of a text from a place on, where its first line has that number
abbrev pub IsFaultFrom : ProblemData → Place → List ℕ → ℕ → DocFault → Type 0
IsFaultFrom problem start text from (Line number kind) = FaultFrom problem start text from number kind
IsFaultFrom problem start text from OutOfMemory = Unit {0}

-- at the place stands a set behind that word
pub record IsSetAt (problem : ProblemData) (place : Place) (word : List ℕ) : Type 0 where
  pub fault : (text : List ℕ) (kind : DocKind) → SetFault problem.symbols word text kind → LineFault problem place text kind
  pub early : place ≢ in_root 0

-- the places in a tree, by how many trees are still to come
pub record IsTreeAt (problem : ProblemData) (places : ℕ → Place) : Type 0 where
  pub stands : (wanted : ℕ) (line : TreeLine) → may_stand (places (suc wanted)) (kind_of (tree_line line)) ≡ true
  pub next : (wanted : ℕ) (line : TreeLine) → place_behind problem.forms (places (suc wanted)) (tree_line line) ≡ places (children problem.forms (tree_line line) + wanted)
  pub fault : (wanted : ℕ) (text : List ℕ) (kind : DocKind) → LineFault problem (in_root 1) text kind → LineFault problem (places (suc wanted)) text kind
  pub early : (wanted : ℕ) → places (suc wanted) ≢ in_root 0

-- the text begins with a line that is that word and the list of a set's literals
pub record BeginsWithSet (table : List Symbol) (word text after : List ℕ) (set : List Lit) : Type 0 where
  pub is : IsLemmaSet table set
  pub split : text ≡ (word ++ listed (map (lit_text (spelled table)) (map lit_in_line set))) ++ 10 ∷ after

-- the text begins with the lines of that tree
pub record BeginsWithTree (problem : ProblemData) (text after : List ℕ) (lines : List TreeLine) : Type 0 where
  pub are : AreLines problem lines
  pub split : text ≡ text_of problem (map tree_line lines) ++ after

-- the text begins with the lines of that block behind the first
pub record BeginsWithBlock (problem : ProblemData) (text after : List ℕ) (block : LemmaBlock) : Type 0 where
  pub is : IsBlock problem block
  pub split : text ≡ text_of problem (inner_lines block) ++ after

-- the line is `root`, or the first of the block with that number
abbrev pub IsStart : ℕ → List ℕ → BlockStart → Type 0
IsStart number line Root = line ≡ codes "root"
IsStart number line Lemma = (line ≡ codes "lemma " ++ decimal number) × (number < 2 ^ 32)

-- the text begins with the lines of these blocks
pub record BeginsWithBlocks (problem : ProblemData) (text after : List ℕ) (blocks : List LemmaBlock) : Type 0 where
  pub are : All (IsBlock problem) blocks
  pub few : length blocks < 2 ^ 32
  pub split : text ≡ text_of problem (blocks_lines 1 blocks) ++ after
