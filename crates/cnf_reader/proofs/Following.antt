-- Each token that is taken adds to the statement under way what the grammar gathers.
use Rattle.std.proofs.Common.{◌≡◌, ℕ, zero, suc, Bool, true, false, not, cond, ◌||◌, ◌⊎◌, inl, inr, List, [], ◌∷◌, ◌++◌, map, Option, Some, None, refl, sym, ◌∙◌, ap, subst, codes}
use Rattle.std.proofs.lemmas.List.{map-append}
use Rattle.mg_word.specs.declared.clause.Name.{Name}
use Rattle.cnf_grammar.specs.declared.brackets.Bracket.{Bracket}
use Rattle.cnf_grammar.specs.declared.state.State.{State}
use Rattle.cnf_grammar.specs.declared.state.State.TheVariants.{Statement, ClauseWord, NameStart, NameRead, RoleStart, RoleRead, FormulaStart, LiteralStart, AtomStart, WordRead, TermStart, TermRead, FormulaClosed, SourceStart, Source, InfoStart, Info, InfoClosed, ClauseClosed, IncludeWord, FileStart, FileRead, SelectionStart, SelectionOpen, SelectedStart, SelectedRead, SelectionClosed, IncludeClosed}
use Rattle.cnf_grammar.specs.declared.position.Position.{Position}
use Rattle.cnf_grammar.specs.declared.item.ItemState.{ItemState}
use Rattle.cnf_grammar.specs.declared.item.ItemState.TheVariants.{Start as item_start}
use Rattle.cnf_grammar.specs.Shapes.{Shape, Lower, Upper, Quoted, Distinct, Dollar, Number, NotEqual, Punct, left_round, right_round, left_square, right_square, comma, dot, bar, tilde, is_mark, is_bracket, is_name, is_word, is_defined, is_file_name, is_simple_term, is_keyword, is_lower}
use Rattle.cnf_grammar.specs.Spelling.{closing}
use Rattle.cnf_grammar.specs.Table.{or_else, when, to, step_at, atom_start, literal_start, after_formula, after_term, any_token, within}
use Rattle.cnf_grammar.specs.Meaning.{Named, ReadStatement}
use Rattle.cnf_grammar.specs.Gathering.{Gathered, token_name, token_text, gather_at, gather_item}
use Rattle.cnf_grammar.specs.Gathering as gathering
use Rattle.cnf_reader.specs.declared.pending.Pending.{Pending}
use Rattle.cnf_reader.specs.Faults.{name_of}
use Rattle.cnf_reader.specs.Statements.{file_text, add_name}
use Rattle.cnf_reader.specs.Meanings.{name_seen, names_seen}
use Rattle.cnf_grammar.proofs.Edges.{Edge, clause_begins, edge_at}
use Rattle.cnf_reader.proofs.InItems.{InItem, conclusions}
pub use Rattle.cnf_grammar.proofs.Accepting.{position}

-- where the opening bracket of a list of names must come
abbrev pub is_selection_start : State → Bool
is_selection_start SelectionStart = true
is_selection_start _ = false

-- behind the token that follows a file name
abbrev pub is_late : State → Bool
is_late SelectionStart = true
is_late SelectionOpen = true
is_late SelectedStart = true
is_late SelectedRead = true
is_late SelectionClosed = true
is_late IncludeClosed = true
is_late _ = false

-- the next place is late exactly where this one is, and not where a list of names must open; a file name and the dot are apart
abbrev pub forbidden : State → State → Bool
forbidden FileRead m = false
forbidden IncludeClosed m = false
forbidden SelectionStart m = is_selection_start m || not (is_late m)
forbidden SelectionOpen m = is_selection_start m || not (is_late m)
forbidden SelectedStart m = is_selection_start m || not (is_late m)
forbidden SelectedRead m = is_selection_start m || not (is_late m)
forbidden SelectionClosed m = is_selection_start m || not (is_late m)
forbidden _ m = is_late m

avoided : (p : Position) (s : Shape) (q : Position) → Edge p s q → forbidden p.state q.state ≡ false
avoided _ _ _ (clause_begins l d bs) = refl
avoided _ _ _ _ = refl

pub goes_there : (state : State) (level depth : ℕ) (brackets : List Bracket) (s : Shape) (next : Position) → step_at state (position state level depth brackets) s ≡ Some next → forbidden state next.state ≡ false
goes_there state level depth brackets s next goes = avoided (position state level depth brackets) s next (edge_at state level depth brackets s next goes)

pub true_false : (b : Bool) → b ≡ true → b ≡ false → ⊥
true_false b h k = cc

early_no_start : (state : State) → is_late state ≡ false → is_selection_start state ≡ false
early_no_start SelectionStart h = cc
early_no_start state h = refl

late_parts : (a b : Bool) → (a || not b) ≡ false → (a ≡ false) × (b ≡ true)
late_parts true b h = cc
late_parts false true h = (refl, refl)
late_parts false false h = cc

-- the names that were read; where the opening bracket of their list must come, the grammar has the list already
pub record NamesFollow (state : State) (read : Option (List Name)) (names : Option (List Named)) : Type 0 where
  pub opening : is_selection_start state ≡ true → names ≡ Some []
  pub same : is_selection_start state ≡ false → names_seen read ≡ names
  pub early : is_late state ≡ false → names ≡ None

pub names_early : (state : State) (read : Option (List Name)) (names : Option (List Named)) → is_late state ≡ false → names_seen read ≡ names → names ≡ None → NamesFollow state read names
names_early state read names h same none = record { opening = λ e. absurd (true_false (is_selection_start state) e (early_no_start state h)); same = λ e. same; early = λ e. none }

pub names_late : (state : State) (read : Option (List Name)) (names : Option (List Named)) → (is_selection_start state || not (is_late state)) ≡ false → names_seen read ≡ names → NamesFollow state read names
names_late state read names h same =
    let parts = late_parts (is_selection_start state) (is_late state) h in
    record { opening = λ e. absurd (true_false (is_selection_start state) e parts.0); same = λ e. same; early = λ e. absurd (true_false (is_late state) parts.1 e) }

-- no item is under way
abbrev pub NoItem : ItemState → List ℕ → List Shape → Type 0
NoItem item chosen tokens = (item ≡ item_start) × (tokens ≡ []) × (chosen ≡ [])

-- in an info the item is followed, and elsewhere none is under way
abbrev pub ItemFollows : State → List Bracket → ItemState → List ℕ → List Shape → Type 0
ItemFollows state brackets item chosen tokens = ((state ≡ Info) × InItem brackets item chosen tokens) ⊎ NoItem item chosen tokens

-- in an info either way
pub in_item : (state : State) (brackets : List Bracket) (item : ItemState) (chosen : List ℕ) (tokens : List Shape) → ItemFollows state brackets item chosen tokens → InItem brackets item chosen tokens
in_item state brackets item chosen tokens (inl h) = h.1
in_item state brackets item chosen tokens (inr h) = subst (λ x. InItem brackets x chosen tokens) (sym h.0) (h.1, h.2)

-- the statement under way holds what was gathered
pub record Follows (before : List ReadStatement) (state : State) (brackets : List Bracket) (p : Pending) (g : Gathered) : Type 0 where
  pub statements : g.statements ≡ before
  pub name : name_seen p.name ≡ g.name
  pub draft : p.draft ≡ g.formula
  pub file : p.asked.file ≡ g.file
  pub names : NamesFollow state p.asked.names g.names
  pub conclude : p.conclude ≡ conclusions g.items
  pub item : ItemFollows state brackets p.item p.chosen g.item

-- the same name, file and names by the two ways to see a token
pub name_same : (s : Shape) → name_seen (name_of s) ≡ token_name s
name_same (Lower text) = refl
name_same (Quoted text) = refl
name_same (Number text plain) = refl
name_same (Upper text) = refl
name_same (Distinct text) = refl
name_same (Dollar text) = refl
name_same NotEqual = refl
name_same (Punct byte) = refl

pub file_same : (s : Shape) (p next : Position) → when (is_file_name s) p ≡ Some next → file_text s ≡ token_text s
file_same (Lower text) p next h = refl
file_same (Quoted text) p next h = refl
file_same (Number text plain) p next h = absurd cc
file_same (Upper text) p next h = refl
file_same (Distinct text) p next h = refl
file_same (Dollar text) p next h = refl
file_same NotEqual p next h = refl
file_same (Punct byte) p next h = refl

pub names_same : (s : Shape) (read : Option (List Name)) (names : Option (List Named)) → names_seen read ≡ names → names_seen (add_name (name_of s) read) ≡ gathering.with_name names (token_name s)
names_same s None names h = ap (λ n. Some (n ∷ [])) (name_same s) ∙ ap (λ u. gathering.with_name u (token_name s)) h
names_same s (Some read) names h =
    ap Some (map-append name_seen read (name_of s ∷ []))
    ∙ (ap (λ n. Some (map name_seen read ++ n ∷ [])) (name_same s) ∙ ap (λ u. gathering.with_name u (token_name s)) h)

-- behind an item, no item is under way
pub outside_info : (state : State) (brackets : List Bracket) (item : ItemState) (chosen : List ℕ) (tokens : List Shape) → (state ≡ Info → ⊥) → ItemFollows state brackets item chosen tokens → NoItem item chosen tokens
outside_info state brackets item chosen tokens h (inl k) = absurd (h k.0)
outside_info state brackets item chosen tokens h (inr k) = k
