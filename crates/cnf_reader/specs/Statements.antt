-- A statement under way: what each of its tokens adds, and the fault that stands at one.
use Rattle.std.specs.Prelude.{◌≡◌, ℕ, Bool, true, false, not, ◌&&◌, List, [], ◌∷◌, ◌++◌, map, Option, Some, None, Result, Ok, Err, if◌then◌else◌}
use Rattle.mg_word.specs.declared.symbol.Kind.TheVariants.{Word}
use Rattle.mg_word.specs.declared.clause.Name.{Name}
use Rattle.cnf_grammar.specs.declared.brackets.Bracket.{Bracket}
use Rattle.cnf_grammar.specs.declared.state.State.{State}
use Rattle.cnf_grammar.specs.declared.state.State.TheVariants.{Statement, NameStart, InfoStart, Info, FileStart, SelectionStart, SelectionOpen, SelectedStart}
use Rattle.cnf_grammar.specs.declared.position.Position.{Position}
use Rattle.cnf_grammar.specs.Shapes.{Shape, Lower, Quoted, is_name}
use Rattle.cnf_grammar.specs.Meaning.{unquoted}
use Rattle.cnf_grammar.specs.Table.{step, start}
use Rattle.cnf_grammar.specs.Draft.{empty_draft, collect_at}
use Rattle.cnf_grammar.specs.Items.{item_step}
use Rattle.cnf_grammar.specs.declared.item.ItemState.TheVariants.{Start as item_start, Closed as item_closed, NumberRead as number_read}
use Rattle.cnf_grammar.specs.declared.item.ItemState.{ItemState}
use Rattle.cnf_reader.specs.declared.fault.ReadKind.{ReadKind}
use Rattle.cnf_reader.specs.declared.fault.ReadKind.TheVariants.{BadConclude, TooDeep}
use Rattle.cnf_reader.specs.declared.pending.Asked.{Asked}
use Rattle.cnf_reader.specs.declared.pending.Pending.{Pending}
use Rattle.cnf_reader.specs.Faults.{name_of, has_word, refusal, limit_fault, is_too_deep, ends_item}

-- nothing is asked for
abbrev pub nothing_asked : Asked
nothing_asked = record { file = []; line = 0; column = 0; names = None }

-- no token of the statement was read
abbrev pub fresh : Pending
fresh = record {
  position = start;
  line = 0;
  column = 0;
  name = record { kind = Word; text = [] };
  draft = empty_draft;
  words = [];
  item = item_start;
  chosen = [];
  conclude = [];
  asked = nothing_asked;
}

-- no bracket is open
abbrev pub is_outermost : List Bracket → Bool
is_outermost [] = true
is_outermost (bracket ∷ outer) = false

-- whether the token stands between the items of the info, or ends them
abbrev pub is_outside_items : Position → Shape → Bool
is_outside_items p s = is_outermost p.brackets && ends_item p s

-- the item is broken where no end of it can be right
abbrev pub is_broken : Option ItemState → Bool
is_broken None = true
is_broken (Some position) = false

-- whether the token breaks a conclude item
abbrev pub breaks_item : State → Pending → Shape → Bool
breaks_item Info p s = not (is_outside_items p.position s) && is_broken (item_step p.words p.item s)
breaks_item _ p s = false

-- the fault at a token that leads to this place, if to any
abbrev pub fault_before : Bool → List (Option (List Name)) → Pending → Shape → Option Position → Option ReadKind
fault_before is_full selections p s None = Some (refusal p.position.state s)
fault_before is_full selections p s (Some next) = if is_too_deep next then Some TooDeep else limit_fault is_full selections p.position.state p.draft s

-- which fault stands at the token
abbrev pub fault_here : Bool → List (Option (List Name)) → Pending → Shape → Option ReadKind
fault_here is_full selections p s = if breaks_item p.position.state p s then Some BadConclude else fault_before is_full selections p s (step p.position s)

-- the place where the token leads
abbrev pub position_or : Position → Option Position → Position
position_or position None = position
position_or position (Some next) = next

-- the numbers with the one that was read
abbrev pub with_number : List ℕ → ItemState → List ℕ
with_number chosen (number_read k) = chosen ++ k ∷ []
with_number chosen _ = chosen

-- the items with the one that ends, where it gives conclusions
abbrev pub with_item : List (List ℕ) → List ℕ → ItemState → List (List ℕ)
with_item conclude chosen item_closed = conclude ++ chosen ∷ []
with_item conclude chosen _ = conclude

-- the item that ends gives its conclusions, and another begins
abbrev pub end_item : Pending → Pending
end_item p = record p { conclude = with_item p.conclude p.chosen p.item; chosen = []; item = item_start }

-- a token of an item
abbrev pub take_item : Pending → Option ItemState → Pending
take_item p None = p
take_item p (Some item) = record p { item = item; chosen = with_number p.chosen item }

-- a token of the info; `is_outside`: it stands between the items or ends them
abbrev pub take_info : Bool → Pending → Shape → Pending
take_info is_outside p s = if is_outside then end_item p else take_item p (item_step p.words p.item s)

-- a file's name, without quotes and escapes
abbrev pub file_text : Shape → List ℕ
file_text (Lower text) = text
file_text (Quoted text) = unquoted text
file_text _ = []

abbrev pub add_name : Name → Option (List Name) → Option (List Name)
add_name name None = Some (name ∷ [])
add_name name (Some names) = Some (names ++ name ∷ [])

-- one more name of the selection, where the token is a name
abbrev pub with_name : Asked → Shape → Asked
with_name asked s = if is_name s then record asked { names = add_name (name_of s) asked.names } else asked

-- what the token at this line and column adds
abbrev pub add_at : State → ℕ → Bool → Pending → Shape → ℕ → ℕ → Pending
add_at Statement depth is_outside p s line column = record p { line = line; column = column }
add_at NameStart depth is_outside p s line column = record p { name = name_of s }
add_at InfoStart depth is_outside p s line column = record p { words = map has_word p.draft.literals }
add_at Info depth is_outside p s line column = take_info is_outside p s
add_at FileStart depth is_outside p s line column = record p { asked = record { file = file_text s; line = line; column = column; names = None } }
add_at SelectionStart depth is_outside p s line column = record p { asked = record p.asked { names = Some [] } }
add_at SelectionOpen depth is_outside p s line column = record p { asked = with_name p.asked s }
add_at SelectedStart depth is_outside p s line column = record p { asked = with_name p.asked s }
add_at state depth is_outside p s line column = record p { draft = collect_at state depth s p.draft }

-- the statement with this token, which leads to that place
abbrev pub with_token : Pending → Shape → ℕ → ℕ → Position → Pending
with_token p s line column next = record (add_at p.position.state p.position.depth (is_outside_items p.position s) p s line column) { position = next }

-- what follows where no fault, or this one, stands at the token
abbrev pub taken : Option ReadKind → Pending → Shape → ℕ → ℕ → Result Pending ReadKind
taken (Some kind) p s line column = Err kind
taken None p s line column = Ok (with_token p s line column (position_or p.position (step p.position s)))

-- the fact, where no fault was met
abbrev pub IfNoFault : Option ReadKind → Type 0 → Type 0
IfNoFault None P = P
IfNoFault (Some kind) P = Unit {0}

-- the call took the token, or answered the fault that stands there
abbrev pub Takes : Result Pending ReadKind → Option ReadKind → Pending → Type 0
Takes (Ok p) None new = new ≡ p
Takes (Ok p) (Some kind) new = ⊥
Takes (Err wanted) None new = ⊥
Takes (Err wanted) (Some kind) new = kind ≡ wanted

-- the statement with the token, or the fault that stands there
unfoldable pub take : Bool → List (Option (List Name)) → Pending → Shape → ℕ → ℕ → Result Pending ReadKind
take is_full selections p s line column = taken (fault_here is_full selections p s) p s line column
