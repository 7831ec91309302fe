-- A text has at most one first fault: two fronts of it are one, or one goes on where the other has a fault.
use Rattle.std.proofs.Common.{◌≡◌, ◌≢◌, ℕ, zero, suc, ◌+◌, true, List, [], ◌∷◌, ◌++◌, map, length, All, Any, refl, sym, ap, ◌∙◌, subst, append_assoc, arith}
use Rattle.mg_word.specs.Table.{Symbol}
use Rattle.mg_word.specs.Facts.{ProblemData, IsProblem}
use Rattle.mg_word.specs.Spelling.{spelled}
use Rattle.term_text.specs.OwnTerms.{IsSymbolOf, HasUnknown, AllKnown, IsHeavy, IsLight}
use Rattle.tree_checker.specs.declared.doc_fault.DocKind.{DocKind}
use Rattle.tree_checker.specs.declared.doc_fault.DocKind.TheVariants.{Header, Syntax, Block, FormNumber, Unknown, Heavy, Order, Early, Rest}
use Rattle.tree_checker.specs.declared.doc_fault.DocFault.{DocFault}
use Rattle.tree_checker.specs.declared.doc_fault.DocFault.TheVariants.{Line, NoMemory}
use Rattle.proof_tree.specs.DocLines.{DocLine, header_line, lemma_line, inside_line, outside_line, root_line, form_line, clash_line, barred_line, by_line, line_text, ended}
use Rattle.proof_tree.specs.Standing.{Place, at_header, at_block, at_inside, at_outside, in_block, in_root, kind_of, may_stand, place_behind, StandsAt, Leads}
use Rattle.proof_tree.specs.FirstFaults.{RawLine, words_of, IsSpelled, HasOtherNumber, HasNoForm, HasNoOrder, RawFault, StandsNowhere, LineFault, has_no_feed, BeginsWithLine, FaultAt, IsDocFault}
use Rattle.proof_tree.proofs.Quantified.{any_all}
use Rattle.proof_tree.proofs.LineFeeds.{feed_in, line_unique}
use Rattle.proof_tree.proofs.FineLines.{raw_once, fine}
use Rattle.proof_tree.proofs.DocOrFault.{line_none, right_parts, lines_apart}

-- what is wrong with a line that may stand there, kind by kind
data RawSeen (problem : ProblemData) (place : Place) (line : RawLine) (kind : DocKind) : Type 0 where
  block : kind ≡ Block → HasOtherNumber place line → RawSeen problem place line kind
  no_form : kind ≡ FormNumber → HasNoForm problem line → RawSeen problem place line kind
  unknown : kind ≡ Unknown → (HasNoForm problem line → ⊥) → Any (HasUnknown problem.symbols) (words_of line) → RawSeen problem place line kind
  heavy : kind ≡ Heavy → (HasNoForm problem line → ⊥) → All (AllKnown problem.symbols) (words_of line) → Any IsHeavy (words_of line) → RawSeen problem place line kind
  order : kind ≡ Order → All (AllKnown problem.symbols) (words_of line) → All IsLight (words_of line) → HasNoOrder problem.symbols line → RawSeen problem place line kind

raw_seen : (problem : ProblemData) (place : Place) (line : RawLine) (kind : DocKind) → RawFault problem place line kind → RawSeen problem place line kind
raw_seen problem place line Block fault = block refl fault
raw_seen problem place line FormNumber fault = no_form refl fault
raw_seen problem place line Unknown fault = unknown refl fault.0 fault.1
raw_seen problem place line Heavy fault = heavy refl fault.0 fault.1 fault.2
raw_seen problem place line Order fault = order refl fault.0 fault.1 fault.2
raw_seen problem place line kind fault = absurd fault

none_of : {X : Type 0} (P : X → Type 0) → Any P [] → ⊥
none_of P some = omega (arith, some.2)

-- a line with another number names no word, no form and no set
number_alone : (problem : ProblemData) (place : Place) (line : RawLine) → HasOtherNumber place line → (HasNoForm problem line → ⊥) × ((P : List Symbol → Type 0) → Any P (words_of line) → ⊥) × (HasNoOrder problem.symbols line → ⊥)
number_alone problem place (lemma_line number) other = (λ none. none, λ P some. none_of P some, λ none. none)
number_alone problem place header_line other = absurd other
number_alone problem place (inside_line lits) other = absurd other
number_alone problem place (outside_line lits) other = absurd other
number_alone problem place root_line other = absurd other
number_alone problem place (form_line number terms) other = absurd other
number_alone problem place (clash_line lit) other = absurd other
number_alone problem place (barred_line lit) other = absurd other
number_alone problem place (by_line number) other = absurd other

-- a line that names a form is no set
form_alone : (problem : ProblemData) (line : RawLine) → HasNoForm problem line → HasNoOrder problem.symbols line → ⊥
form_alone problem (form_line number terms) none unsorted = unsorted
form_alone problem header_line none unsorted = none
form_alone problem (lemma_line number) none unsorted = none
form_alone problem (inside_line lits) none unsorted = none
form_alone problem (outside_line lits) none unsorted = none
form_alone problem root_line none unsorted = none
form_alone problem (clash_line lit) none unsorted = none
form_alone problem (barred_line lit) none unsorted = none
form_alone problem (by_line number) none unsorted = none

known_or_not : (table : List Symbol) (terms : List (List Symbol)) → Any (HasUnknown table) terms → All (AllKnown table) terms → ⊥
known_or_not table terms = any_all (HasUnknown table) (AllKnown table) terms (λ term missing all. any_all (λ symbol. IsSymbolOf table symbol → ⊥) (IsSymbolOf table) term (λ symbol no has. no has) missing all)

light_or_not : (terms : List (List Symbol)) → Any IsHeavy terms → All IsLight terms → ⊥
light_or_not terms = any_all IsHeavy IsLight terms (λ term long short. omega (arith, long, short))

seen_once : (problem : ProblemData) (place : Place) (line : RawLine) (kind other : DocKind) → RawSeen problem place line kind → RawSeen problem place line other → kind ≡ other
seen_once problem place line kind other (block is a) (block is' b) = is ∙ sym is'
seen_once problem place line kind other (block is a) (no_form is' b) = absurd ((number_alone problem place line a).0 b)
seen_once problem place line kind other (block is a) (unknown is' b c) = absurd ((number_alone problem place line a).1 (HasUnknown problem.symbols) c)
seen_once problem place line kind other (block is a) (heavy is' b c d) = absurd ((number_alone problem place line a).1 IsHeavy d)
seen_once problem place line kind other (block is a) (order is' b c d) = absurd ((number_alone problem place line a).2 d)
seen_once problem place line kind other (no_form is a) (block is' b) = absurd ((number_alone problem place line b).0 a)
seen_once problem place line kind other (no_form is a) (no_form is' b) = is ∙ sym is'
seen_once problem place line kind other (no_form is a) (unknown is' b c) = absurd (b a)
seen_once problem place line kind other (no_form is a) (heavy is' b c d) = absurd (b a)
seen_once problem place line kind other (no_form is a) (order is' b c d) = absurd (form_alone problem line a d)
seen_once problem place line kind other (unknown is a e) (block is' b) = absurd ((number_alone problem place line b).1 (HasUnknown problem.symbols) e)
seen_once problem place line kind other (unknown is a e) (no_form is' b) = absurd (a b)
seen_once problem place line kind other (unknown is a e) (unknown is' b c) = is ∙ sym is'
seen_once problem place line kind other (unknown is a e) (heavy is' b c d) = absurd (known_or_not problem.symbols (words_of line) e c)
seen_once problem place line kind other (unknown is a e) (order is' b c d) = absurd (known_or_not problem.symbols (words_of line) e b)
seen_once problem place line kind other (heavy is a e f) (block is' b) = absurd ((number_alone problem place line b).1 IsHeavy f)
seen_once problem place line kind other (heavy is a e f) (no_form is' b) = absurd (a b)
seen_once problem place line kind other (heavy is a e f) (unknown is' b c) = absurd (known_or_not problem.symbols (words_of line) c e)
seen_once problem place line kind other (heavy is a e f) (heavy is' b c d) = is ∙ sym is'
seen_once problem place line kind other (heavy is a e f) (order is' b c d) = absurd (light_or_not (words_of line) f c)
seen_once problem place line kind other (order is a e f) (block is' b) = absurd ((number_alone problem place line b).2 f)
seen_once problem place line kind other (order is a e f) (no_form is' b) = absurd (form_alone problem line b f)
seen_once problem place line kind other (order is a e f) (unknown is' b c) = absurd (known_or_not problem.symbols (words_of line) c a)
seen_once problem place line kind other (order is a e f) (heavy is' b c d) = absurd (light_or_not (words_of line) d e)
seen_once problem place line kind other (order is a e f) (order is' b c d) = is ∙ sym is'

-- a fault of a line: it is not the header, it stands behind the end, no line that may stand there is spelled so, or such a line is wrong
data LineSeen (problem : ProblemData) (place : Place) (text : List ℕ) (kind : DocKind) : Type 0 where
  first : kind ≡ Header → place ≡ at_header → LineSeen problem place text kind
  behind : kind ≡ Rest → place ≡ in_root 0 → LineSeen problem place text kind
  nowhere : kind ≡ Syntax → StandsNowhere place text → (place ≢ at_header) → (place ≢ in_root 0) → LineSeen problem place text kind
  wrong : (line : RawLine) → IsSpelled text line → may_stand place (kind_of line) ≡ true → RawSeen problem place line kind → (place ≢ at_header) → (place ≢ in_root 0) → LineSeen problem place text kind

module _ (problem : ProblemData) (text : List ℕ) (kind : DocKind) where
  at_line : (place : Place) → (place ≢ at_header) → (place ≢ in_root 0) → (line : RawLine) × IsSpelled text line × (may_stand place (kind_of line) ≡ true) × RawFault problem place line kind → LineSeen problem place text kind
  at_line place not not' fault = wrong fault.0 fault.1 fault.2 (raw_seen problem place fault.0 kind fault.3) not not'

line_seen : (problem : ProblemData) (place : Place) (text : List ℕ) (kind : DocKind) → LineFault problem place text kind → LineSeen problem place text kind
line_seen problem at_header text Header fault = first refl refl
line_seen problem at_header text kind fault = absurd fault
line_seen problem (in_root zero) text Rest fault = behind refl refl
line_seen problem (in_root zero) text kind fault = absurd fault
line_seen problem (at_block blocks) text Syntax fault = nowhere refl fault (λ same. cc) (λ same. cc)
line_seen problem (at_block blocks) text kind fault = at_line problem text kind (at_block blocks) (λ same. cc) (λ same. cc) fault
line_seen problem (at_inside blocks) text Syntax fault = nowhere refl fault (λ same. cc) (λ same. cc)
line_seen problem (at_inside blocks) text kind fault = at_line problem text kind (at_inside blocks) (λ same. cc) (λ same. cc) fault
line_seen problem (at_outside blocks) text Syntax fault = nowhere refl fault (λ same. cc) (λ same. cc)
line_seen problem (at_outside blocks) text kind fault = at_line problem text kind (at_outside blocks) (λ same. cc) (λ same. cc) fault
line_seen problem (in_block blocks wanted) text Syntax fault = nowhere refl fault (λ same. cc) (λ same. cc)
line_seen problem (in_block blocks wanted) text kind fault = at_line problem text kind (in_block blocks wanted) (λ same. cc) (λ same. cc) fault
line_seen problem (in_root (suc wanted)) text Syntax fault = nowhere refl fault (λ same. cc) (λ same. cc)
line_seen problem (in_root (suc wanted)) text kind fault = at_line problem text kind (in_root (suc wanted)) (λ same. cc) (λ same. cc) fault

line_once : (problem : ProblemData) (place : Place) (text : List ℕ) (kind other : DocKind) → LineSeen problem place text kind → LineSeen problem place text other → kind ≡ other
line_once problem place text kind other (first is at) (first is' at') = is ∙ sym is'
line_once problem place text kind other (first is at) (behind is' at') = let bad : ⊥ = cc (at, at') in absurd bad
line_once problem place text kind other (first is at) (nowhere is' none not not') = absurd (not at)
line_once problem place text kind other (first is at) (wrong line spells stands fault not not') = absurd (not at)
line_once problem place text kind other (behind is at) (first is' at') = let bad : ⊥ = cc (at, at') in absurd bad
line_once problem place text kind other (behind is at) (behind is' at') = is ∙ sym is'
line_once problem place text kind other (behind is at) (nowhere is' none not not') = absurd (not' at)
line_once problem place text kind other (behind is at) (wrong line spells stands fault not not') = absurd (not' at)
line_once problem place text kind other (nowhere is none not not') (first is' at') = absurd (not at')
line_once problem place text kind other (nowhere is none not not') (behind is' at') = absurd (not' at')
line_once problem place text kind other (nowhere is none not not') (nowhere is' none' never never') = is ∙ sym is'
line_once problem place text kind other (nowhere is none not not') (wrong line spells stands fault never never') = absurd (none line spells stands)
line_once problem place text kind other (wrong line spells stands fault not not') (first is' at') = absurd (not at')
line_once problem place text kind other (wrong line spells stands fault not not') (behind is' at') = absurd (not' at')
line_once problem place text kind other (wrong line spells stands fault not not') (nowhere is' none never never') = absurd (none line spells stands)
line_once problem place text kind other (wrong line spells stands fault not not') (wrong line' spells' stands' fault' never never') =
    seen_once problem place line kind other fault (subst (λ l. RawSeen problem place l other) (raw_once text line' line spells' spells) fault')

-- a fault of a text: it has no further line, or its line is wrong
data TextSeen (problem : ProblemData) (place : Place) (text : List ℕ) (kind : DocKind) : Type 0 where
  ends : kind ≡ Early → has_no_feed text ≡ true → TextSeen problem place text kind
  at : (line after : List ℕ) → BeginsWithLine text line after → LineFault problem place line kind → TextSeen problem place text kind

text_seen : (problem : ProblemData) (place : Place) (text : List ℕ) (kind : DocKind) → FaultAt problem place text kind → TextSeen problem place text kind
text_seen problem place text Early fault = ends refl fault.0
text_seen problem place text kind fault = at fault.0 fault.1 fault.2 fault.3

no_line : (text line after : List ℕ) → has_no_feed text ≡ true → BeginsWithLine text line after → ⊥
no_line text line after none begins = feed_in line after (subst (λ t. has_no_feed t ≡ true) begins.split none)

text_once : (problem : ProblemData) (place : Place) (text : List ℕ) (kind other : DocKind) → TextSeen problem place text kind → TextSeen problem place text other → kind ≡ other
text_once problem place text kind other (ends is none) (ends is' none') = is ∙ sym is'
text_once problem place text kind other (ends is none) (at line after begins fault) = absurd (no_line text line after none begins)
text_once problem place text kind other (at line after begins fault) (ends is none) = absurd (no_line text line after none begins)
text_once problem place text kind other (at line after begins fault) (at line' after' begins' fault') =
    let same = (line_unique line' line after' after begins'.one begins.one (sym begins'.split ∙ begins.split)).0 in
    line_once problem place line kind other (line_seen problem place line kind fault) (line_seen problem place line other (subst (λ l. LineFault problem place l other) same fault'))

-- at a place a text has one kind of fault
pub one_kind : (problem : ProblemData) (place : Place) (text : List ℕ) (kind other : DocKind) → FaultAt problem place text kind → FaultAt problem place text other → kind ≡ other
one_kind problem place text kind other a b = text_once problem place text kind other (text_seen problem place text kind a) (text_seen problem place text other b)

module _ (problem : ProblemData) (is : IsProblem problem) where
  abbrev text_at : DocLine (List ℕ) → List ℕ
  text_at line = line_text (spelled problem.symbols) line

  -- a text that begins with a line that stands rightly has no fault there
  begun_fine : (place : Place) (line : DocLine (List ℕ)) (after text : List ℕ) (kind : DocKind) → StandsAt problem place line → text ≡ text_at line ++ 10 ∷ after → TextSeen problem place text kind → ⊥
  begun_fine place line after text kind stands same (ends early none) = feed_in (text_at line) after (subst (λ t. has_no_feed t ≡ true) same none)
  begun_fine place line after text kind stands same (at found further begins fault) =
      let one = line_unique found (text_at line) further after begins.one (line_none problem is line (right_parts problem is place line stands.right)) (sym begins.split ∙ same) in
      fine problem is place line kind stands (subst (λ t. LineFault problem place t kind) one.0 fault)

  -- two fronts of a text with a fault behind each
  walked : (place last end : Place) (lines others : List (DocLine (List ℕ))) (rest tail : List ℕ) (kind other : DocKind) → Leads problem place lines last → Leads problem place others end
      → ended (map text_at lines) ++ rest ≡ ended (map text_at others) ++ tail → FaultAt problem last rest kind → FaultAt problem end tail other → (length lines ≡ length others) × (kind ≡ other)
  walked place last end [] [] rest tail kind other front front' same fault fault' = (
    refl,
    one_kind problem place rest kind other (subst (λ p. FaultAt problem p rest kind) (sym front) fault)
        (subst (λ t. FaultAt problem place t other) (sym same) (subst (λ p. FaultAt problem p tail other) (sym front') fault')),
  )
  walked place last end [] (line ∷ others) rest tail kind other front front' same fault fault' =
      absurd (begun_fine place line (ended (map text_at others) ++ tail) rest kind front'.0 (same ∙ append_assoc (text_at line) (10 ∷ ended (map text_at others)) tail) (text_seen problem place rest kind (subst (λ p. FaultAt problem p rest kind) (sym front) fault)))
  walked place last end (line ∷ lines) [] rest tail kind other front front' same fault fault' =
      absurd (begun_fine place line (ended (map text_at lines) ++ rest) tail other front.0 (sym same ∙ append_assoc (text_at line) (10 ∷ ended (map text_at lines)) rest) (text_seen problem place tail other (subst (λ p. FaultAt problem p tail other) (sym front') fault')))
  walked place last end (line ∷ lines) (next ∷ others) rest tail kind other front front' same fault fault' =
      let one = lines_apart problem is place place next line (ended (map text_at others) ++ tail) (ended (map text_at lines) ++ rest) front'.0.right front.0.right
      (sym (append_assoc (text_at next) (10 ∷ ended (map text_at others)) tail) ∙ (sym same ∙ append_assoc (text_at line) (10 ∷ ended (map text_at lines)) rest)) in
      let further = walked (place_behind problem.forms place line) last end lines others rest tail kind other front.1 (subst (λ l. Leads problem (place_behind problem.forms place l) others end) one.0 front'.1) (sym one.1) fault fault' in
      (ap suc further.0, further.1)

  -- a text has at most one first fault
  pub one_first_fault : (text : List ℕ) (a b : DocFault) → a ≢ NoMemory → b ≢ NoMemory → IsDocFault problem text a → IsDocFault problem text b → a ≡ b
  one_first_fault text NoMemory b some some' fault fault' = absurd (some refl)
  one_first_fault text (Line n kind) NoMemory some some' fault fault' = absurd (some' refl)
  one_first_fault text (Line n kind) (Line m other) some some' a b =
      let same = walked at_header a.place b.place a.before b.before a.rest b.rest kind other a.front b.front (sym a.split ∙ b.split) a.fault b.fault in
      let numbers : n ≡ m = a.number_is ∙ (ap (λ k. k + 1) same.0 ∙ sym b.number_is) in
      let kinds : kind ≡ other = same.1 in
      cc
