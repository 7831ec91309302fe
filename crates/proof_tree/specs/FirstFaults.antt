-- The first fault of a text that is no document: what stands before it, and what is wrong with its line.
use Rattle.std.specs.Prelude.{◌≡◌, ◌≢◌, ℕ, zero, ◌+◌, ◌<◌, ◌^◌, Bool, true, false, List, [], ◌∷◌, ◌++◌, map, length, All, Any, None}
use Rattle.std.specs.List.{list_all}
use Rattle.mg_word.specs.Table.{Symbol}
use Rattle.mg_word.specs.Words.{numbered}
use Rattle.mg_word.specs.Sets.{is_rising}
use Rattle.mg_word.specs.Facts.{ProblemData}
use Rattle.mg_word.specs.Spelling.{spelled, spelled_symbols}
use Rattle.mg_word.specs.declared.lit.Lit.{Lit}
use Rattle.ascii_text.specs.Bytes.{is_in_line}
use Rattle.term_text.specs.OwnTerms.{IsOwnTerm, HasUnknown, AllKnown, IsHeavy, IsLight}
use Rattle.term_text.specs.Lits.{LineLit, AreLits, atoms}
use Rattle.tree_checker.specs.declared.doc_fault.DocKind.{DocKind}
use Rattle.tree_checker.specs.declared.doc_fault.DocKind.TheVariants.{Header, Syntax, Block, FormNumber, Unknown, Heavy, Order, Early, Rest}
use Rattle.tree_checker.specs.declared.doc_fault.DocFault.{DocFault}
use Rattle.tree_checker.specs.declared.doc_fault.DocFault.TheVariants.{Line, NoMemory}
use Rattle.proof_tree.specs.DocLines.{DocLine, lemma_line, inside_line, outside_line, form_line, clash_line, barred_line, by_line, line_text, ended}
use Rattle.proof_tree.specs.Bare.{bare}
use Rattle.proof_tree.specs.Standing.{Place, at_header, in_root, next_number, kind_of, may_stand, Leads}

-- a line as it is spelled: its words are terms by their own symbols, which may be in no table
abbrev pub RawLine : Type 0
RawLine = DocLine (List Symbol)

-- the words that a line names
abbrev pub words_of : {W : Type 0} → DocLine W → List W
words_of (inside_line lits) = atoms lits
words_of (outside_line lits) = atoms lits
words_of (form_line number terms) = terms
words_of (clash_line lit) = lit.atom ∷ []
words_of (barred_line lit) = lit.atom ∷ []
words_of line = []

-- its numbers fit 32 bits
abbrev pub HasSmallNumber : {W : Type 0} → DocLine W → Type 0
HasSmallNumber (lemma_line number) = number < 2 ^ 32
HasSmallNumber (form_line number terms) = number < 2 ^ 32
HasSmallNumber (by_line number) = number < 2 ^ 32
HasSmallNumber line = Unit {0}

-- the text is that of the raw line
pub record IsSpelled (text : List ℕ) (line : RawLine) : Type 0 where
  pub small : HasSmallNumber line
  pub own : All IsOwnTerm (words_of line)
  pub is : line_text spelled_symbols line ≡ text

-- the literals do not rise strictly
abbrev pub AreUnordered : List Symbol → List (LineLit (List Symbol)) → Type 0
AreUnordered table raws = (lits : List Lit) × AreLits table lits raws × (is_rising lits ≡ false)

-- the line has another number than that of the next block
abbrev pub HasOtherNumber : Place → RawLine → Type 0
HasOtherNumber place (lemma_line number) = number ≢ next_number place
HasOtherNumber place line = ⊥

-- the line names a form that is not there
abbrev pub HasNoForm : ProblemData → RawLine → Type 0
HasNoForm problem (form_line number terms) = numbered problem.forms number ≡ None
HasNoForm problem line = ⊥

-- the line is a set that does not rise strictly
abbrev pub HasNoOrder : List Symbol → RawLine → Type 0
HasNoOrder table (inside_line lits) = AreUnordered table lits
HasNoOrder table (outside_line lits) = AreUnordered table lits
HasNoOrder table line = ⊥

-- what is wrong with a line of a kind that may stand at that place, by the first of these that stands
abbrev pub RawFault : ProblemData → Place → RawLine → DocKind → Type 0
RawFault problem place line Block = HasOtherNumber place line
RawFault problem place line FormNumber = HasNoForm problem line
RawFault problem place line Unknown = (HasNoForm problem line → ⊥) × Any (HasUnknown problem.symbols) (words_of line)
RawFault problem place line Heavy = (HasNoForm problem line → ⊥) × All (AllKnown problem.symbols) (words_of line) × Any IsHeavy (words_of line)
RawFault problem place line Order = All (AllKnown problem.symbols) (words_of line) × All IsLight (words_of line) × HasNoOrder problem.symbols line
RawFault problem place line kind = ⊥

-- no line that may stand at the place is spelled so
abbrev pub StandsNowhere : Place → List ℕ → Type 0
StandsNowhere place text = (line : RawLine) → IsSpelled text line → may_stand place (kind_of line) ≡ true → ⊥

-- what is wrong with a line at a place, by the first kind that stands
abbrev pub LineFault : ProblemData → Place → List ℕ → DocKind → Type 0
LineFault problem at_header text Header = StandsNowhere at_header text
LineFault problem at_header text kind = ⊥
LineFault problem (in_root zero) text Rest = Unit {0}
LineFault problem (in_root zero) text kind = ⊥
LineFault problem place text Syntax = StandsNowhere place text
LineFault problem place text kind = (line : RawLine) × IsSpelled text line × (may_stand place (kind_of line) ≡ true) × RawFault problem place line kind

-- no line feed is in the text
abbrev pub has_no_feed : List ℕ → Bool
has_no_feed text = list_all is_in_line text

-- the text begins with that line, and goes on behind it
pub record BeginsWithLine (text line after : List ℕ) : Type 0 where
  pub one : has_no_feed line ≡ true
  pub split : text ≡ line ++ 10 ∷ after

-- what is wrong with the line that the text begins with, at that place
abbrev pub FaultAt : ProblemData → Place → List ℕ → DocKind → Type 0
FaultAt problem place text Early = (has_no_feed text ≡ true) × (text ≡ [] → place ≢ in_root 0)
FaultAt problem place text kind = (line : List ℕ) × (after : List ℕ) × BeginsWithLine text line after × LineFault problem place line kind

-- the fault of a text that begins at a place, where its first line has that number: it is the first behind lines that lead on from there
pub record FaultFrom (problem : ProblemData) (start : Place) (text : List ℕ) (from number : ℕ) (kind : DocKind) : Type 0 where
  pub before : List (DocLine (List ℕ))
  pub place : Place
  pub front : Leads problem start before place
  pub rest : List ℕ
  pub split : text ≡ ended (map (line_text (spelled problem.symbols)) before) ++ rest
  pub number_is : number ≡ length before + from
  pub fault : FaultAt problem place rest kind

-- a line with a fault stands behind lines that are the front of a document
abbrev pub FirstFault : ProblemData → List ℕ → ℕ → DocKind → Type 0
FirstFault problem text number kind = FaultFrom problem at_header text 1 number kind

-- the fault is the first of the text, whose lines that begin with `%` are passed over and not counted
abbrev pub IsDocFault : ProblemData → List ℕ → DocFault → Type 0
IsDocFault problem bytes (Line number kind) = FirstFault problem (bare bytes) number kind
IsDocFault problem bytes NoMemory = Unit {0}
