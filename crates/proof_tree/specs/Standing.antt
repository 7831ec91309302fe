-- Where the lines of a document stand, and what comes next.
use Rattle.std.specs.Prelude.{◌≡◌, ℕ, zero, suc, ◌+◌, ◌<◌, ◌^◌, Bool, true, false, List, [], ◌∷◌, length, map, All, IsSome}
use Rattle.std.specs.Option.{option_map_or}
use Rattle.mg_word.specs.Words.{numbered}
use Rattle.mg_word.specs.Facts.{ProblemData}
use Rattle.mg_word.specs.declared.lit.Lit.{Lit}
use Rattle.mg_word.specs.declared.form.Form.{Form}
use Rattle.term_text.specs.Words.{IsWordOf}
use Rattle.term_text.specs.Lits.{LineLit}
use Rattle.tree_checker.specs.Docs.{IsLemmaSet}
use Rattle.proof_tree.specs.DocLines.{DocLine, header_line, lemma_line, inside_line, outside_line, root_line, form_line, clash_line, barred_line, by_line}

-- what comes next: the header; the next block or the root, behind so many blocks; the inside or the outside of the next
-- block; a line of its tree, or of the root's, with so many trees still to come
pub data Place : Type 0 where
  at_header : Place
  at_block : (blocks : ℕ) → Place
  at_inside : (blocks : ℕ) → Place
  at_outside : (blocks : ℕ) → Place
  in_block : (blocks wanted : ℕ) → Place
  in_root : (wanted : ℕ) → Place

-- the kinds of lines
pub data LineKind : Type 0 where
  header : LineKind
  lemma : LineKind
  inside : LineKind
  outside : LineKind
  root : LineKind
  node : LineKind

-- the four kinds of lines of trees stand at the same places
abbrev pub kind_of : {W : Type 0} → DocLine W → LineKind
kind_of header_line = header
kind_of (lemma_line number) = lemma
kind_of (inside_line lits) = inside
kind_of (outside_line lits) = outside
kind_of root_line = root
kind_of (form_line number terms) = node
kind_of (clash_line lit) = node
kind_of (barred_line lit) = node
kind_of (by_line number) = node

-- a line of this kind may stand there
abbrev pub may_stand : Place → LineKind → Bool
may_stand at_header header = true
may_stand (at_block blocks) lemma = true
may_stand (at_block blocks) root = true
may_stand (at_inside blocks) inside = true
may_stand (at_outside blocks) outside = true
may_stand (in_block blocks (suc wanted)) node = true
may_stand (in_root (suc wanted)) node = true
may_stand place kind = false

-- how many trees stand below the line
abbrev pub children : {W : Type 0} → List Form → DocLine W → ℕ
children forms (form_line number terms) = option_map_or (λ form. length form.conclusions) (numbered forms number) 0
children forms line = 0

-- behind a line of a block's tree: the tree goes on, or the next block or the root comes
abbrev pub behind_block : ℕ → ℕ → Place
behind_block blocks zero = at_block (suc blocks)
behind_block blocks (suc wanted) = in_block blocks (suc wanted)

-- what comes behind a line that stands rightly
abbrev pub place_behind : {W : Type 0} → List Form → Place → DocLine W → Place
place_behind forms at_header line = at_block 0
place_behind forms (at_block blocks) root_line = in_root 1
place_behind forms (at_block blocks) line = at_inside blocks
place_behind forms (at_inside blocks) line = at_outside blocks
place_behind forms (at_outside blocks) line = in_block blocks 1
place_behind forms (in_block blocks zero) line = in_block blocks zero
place_behind forms (in_block blocks (suc wanted)) line = behind_block blocks (children forms line + wanted)
place_behind forms (in_root zero) line = in_root zero
place_behind forms (in_root (suc wanted)) line = in_root (children forms line + wanted)

-- the literals of a line as literals
abbrev pub lit_of : LineLit (List ℕ) → Lit
lit_of lit = record { negative = lit.negative; word = lit.atom }

-- the number of the block that comes next
abbrev pub next_number : Place → ℕ
next_number (at_block blocks) = suc blocks
next_number place = 0

-- all that the line names is of the problem
abbrev pub IsRight : ProblemData → Place → DocLine (List ℕ) → Type 0
IsRight problem place (lemma_line number) = (number ≡ next_number place) × (number < 2 ^ 32)
IsRight problem place (inside_line lits) = IsLemmaSet problem.symbols (map lit_of lits)
IsRight problem place (outside_line lits) = IsLemmaSet problem.symbols (map lit_of lits)
IsRight problem place (form_line number terms) = IsSome (numbered problem.forms number) × All (IsWordOf problem.symbols) terms
IsRight problem place (clash_line lit) = IsWordOf problem.symbols lit.atom
IsRight problem place (barred_line lit) = IsWordOf problem.symbols lit.atom
IsRight problem place (by_line number) = number < 2 ^ 32
IsRight problem place line = Unit {0}

-- the line may stand there, and is right
pub record StandsAt (problem : ProblemData) (place : Place) (line : DocLine (List ℕ)) : Type 0 where
  pub kind : may_stand place (kind_of line) ≡ true
  pub right : IsRight problem place line

-- each of the lines stands rightly, the first one there, and behind the last one comes that
abbrev pub Leads : ProblemData → Place → List (DocLine (List ℕ)) → Place → Type 0
Leads problem place [] last = place ≡ last
Leads problem place (line ∷ lines) last = StandsAt problem place line × Leads problem (place_behind problem.forms place line) lines last
