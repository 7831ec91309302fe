-- What limits hold of a statement under way. No public clause of the reading of a problem cites this module.
use Rattle.std.specs.Prelude.{◌≡◌, ℕ, zero, suc, ◌+◌, ◌≤◌, Bool, false, ◌&&◌, List, [], ◌∷◌, length, map, Option, All, IsTrue}
use Rattle.std.specs.List.{list_all}
use Rattle.mg_word.specs.declared.clause.Name.{Name}
use Rattle.cnf_grammar.specs.declared.state.State.{State}
use Rattle.cnf_grammar.specs.declared.state.State.TheVariants.{Statement, ClauseWord, NameStart, LiteralStart, WordRead, TermStart, TermRead, FormulaClosed, SourceStart, Source, InfoStart, Info, InfoClosed, ClauseClosed, IncludeWord, FileStart, FileRead, SelectionStart, SelectionOpen, SelectedStart, SelectedRead, SelectionClosed, IncludeClosed}
use Rattle.cnf_grammar.specs.declared.item.ItemState.{ItemState}
use Rattle.cnf_grammar.specs.declared.item.ItemState.TheVariants.{Start as item_start, WordRead as word_read, Open as item_open, ListOpen as list_open, NumberRead as number_read, NumberStart as number_start, ListClosed as list_closed, Closed as item_closed, Other as other_item}
use Rattle.cnf_grammar.specs.Meaning.{Item}
use Rattle.cnf_grammar.specs.Conclude.{are_conclusions_above}
use Rattle.cnf_grammar.specs.Draft.{Draft}
use Rattle.cnf_reader.specs.Faults.{has_word, is_selected, most_literals, most_variables}
use Rattle.cnf_reader.specs.Sound.{count_items, HasFew, IsNarrow}
use Rattle.cnf_reader.specs.declared.pending.Pending.{Pending}

-- one more argument of each symbol can be counted, and one more variable
pub record IsRoomy (d : Draft) : Type 0 where
  pub arguments : All (HasFew 4294967294) d.atom
  pub variables : length d.variables ≤ most_variables

-- the same of the draft, and the places of its literals can be counted
pub record IsRoomyPending (p : Pending) : Type 0 where
  pub draft : IsRoomy p.draft
  pub words : length p.words ≤ most_literals

-- of so many tokens there are no more items, no symbol has more arguments, and the variables are not too many
pub record IsSpare (taken : ℕ) (d : Draft) : Type 0 where
  pub variables : length d.variables ≤ most_variables
  pub items : count_items d.literals + length d.atom ≤ taken
  pub literals : All (IsNarrow taken) d.literals
  pub atom : All (HasFew taken) d.atom

-- one where an atom is under way
abbrev pub begun : List Item → ℕ
begun [] = 0
begun (item ∷ items) = 1

-- the literals, with the one under way, are no more than that
abbrev pub HasAtMost : ℕ → Draft → Type 0
HasAtMost most d = length d.literals + begun d.atom ≤ most

-- there is room for the literal under way, where so many brackets of arguments are open
abbrev pub HasRoomBehind : ℕ → Draft → Type 0
HasRoomBehind zero d = HasAtMost 64 d
HasRoomBehind (suc depth) d = length d.literals ≤ 63

-- there is room for the literals that come before the next test of their number, where the next token is read with this mode
abbrev pub HasRoom : State → ℕ → Draft → Type 0
HasRoom LiteralStart depth d = d.atom ≡ []
HasRoom WordRead depth d = length d.literals ≤ 63
HasRoom TermStart depth d = length d.literals ≤ 63
HasRoom TermRead depth d = HasRoomBehind depth d
HasRoom FormulaClosed depth d = length d.literals ≤ 64
HasRoom SourceStart depth d = length d.literals ≤ 64
HasRoom Source depth d = length d.literals ≤ 64
HasRoom InfoStart depth d = length d.literals ≤ 64
HasRoom Info depth d = length d.literals ≤ 64
HasRoom InfoClosed depth d = length d.literals ≤ 64
HasRoom ClauseClosed depth d = length d.literals ≤ 64
HasRoom _ depth d = HasAtMost 63 d

-- no item of an info was read
abbrev pub HasNoItems : Pending → Type 0
HasNoItems p = (p.conclude ≡ []) × (p.chosen ≡ []) × (p.item ≡ item_start)

-- the items that are whole choose literals that have a word, by numbers that rise
abbrev pub AreChosen : Pending → Type 0
AreChosen p = IsTrue (list_all (are_conclusions_above (map has_word p.draft.literals) 0) p.conclude)

-- the last of the numbers, or this one where there is none
abbrev pub last_of : ℕ → List ℕ → ℕ
last_of last [] = last
last_of last (k ∷ ks) = last_of k ks

-- the numbers rise to this one, and each names a literal that has a word
abbrev pub RiseTo : List Bool → List ℕ → ℕ → Type 0
RiseTo words chosen last = IsTrue (are_conclusions_above words 0 chosen) × (last_of 0 chosen ≡ last)

-- the same of the item under way, where it gives conclusions
abbrev pub ItemRises : List Bool → List ℕ → ItemState → Type 0
ItemRises words chosen item_start = RiseTo words chosen 0
ItemRises words chosen word_read = RiseTo words chosen 0
ItemRises words chosen item_open = RiseTo words chosen 0
ItemRises words chosen list_open = RiseTo words chosen 0
ItemRises words chosen (number_read last) = RiseTo words chosen last
ItemRises words chosen (number_start last) = RiseTo words chosen last
ItemRises words chosen list_closed = IsTrue (are_conclusions_above words 0 chosen)
ItemRises words chosen item_closed = IsTrue (are_conclusions_above words 0 chosen)
ItemRises words chosen other_item = Unit {0}

-- what holds of the items within an info
abbrev pub InfoRises : Pending → Type 0
InfoRises p = (p.words ≡ map has_word p.draft.literals) × AreChosen p × ItemRises p.words p.chosen p.item

-- what holds of the items of the info where the next token is read with this mode
abbrev pub HasItems : State → Pending → Type 0
HasItems Info p = InfoRises p
HasItems InfoClosed p = AreChosen p
HasItems ClauseClosed p = AreChosen p
HasItems _ p = HasNoItems p

-- the clause is not to be kept, or there is room for it
abbrev pub IsAllowed : Bool → List (Option (List Name)) → Pending → Type 0
IsAllowed is_full selections p = (is_full && is_selected selections p.name) ≡ false

-- the same behind the clause's name
abbrev pub IsNamed : Bool → List (Option (List Name)) → State → Pending → Type 0
IsNamed is_full selections Statement p = Unit {0}
IsNamed is_full selections ClauseWord p = Unit {0}
IsNamed is_full selections NameStart p = Unit {0}
IsNamed is_full selections IncludeWord p = Unit {0}
IsNamed is_full selections FileStart p = Unit {0}
IsNamed is_full selections FileRead p = Unit {0}
IsNamed is_full selections SelectionStart p = Unit {0}
IsNamed is_full selections SelectionOpen p = Unit {0}
IsNamed is_full selections SelectedStart p = Unit {0}
IsNamed is_full selections SelectedRead p = Unit {0}
IsNamed is_full selections SelectionClosed p = Unit {0}
IsNamed is_full selections IncludeClosed p = Unit {0}
IsNamed is_full selections _ p = IsAllowed is_full selections p

-- what holds of the statement where the next token is read with this mode and so many brackets of arguments open
abbrev pub IsGoing : Bool → List (Option (List Name)) → State → ℕ → Pending → Type 0
IsGoing is_full selections state depth p = HasRoom state depth p.draft × HasItems state p × IsNamed is_full selections state p

-- what holds of a statement behind so many of its tokens
pub record IsWithin (is_full : Bool) (selections : List (Option (List Name))) (taken : ℕ) (p : Pending) : Type 0 where
  pub spare : IsSpare taken p.draft
  pub words : length p.words ≤ most_literals
  pub going : IsGoing is_full selections p.position.state p.position.depth p
