-- Where a statement under way begins, and where it names a file, by the tokens that were taken of it.
use Rattle.std.proofs.Common.{◌≡◌, ℕ, zero, suc, Bool, true, false, not, cond, ◌||◌, List, [], ◌∷◌, ◌++◌, Option, Some, None, Ok, codes, refl, sym, ap, ◌∙◌, subst, if◌then◌else◌}
use Rattle.mg_word.specs.declared.clause.Name.{Name}
use Rattle.cnf_grammar.specs.declared.brackets.Bracket.{Bracket}
use Rattle.cnf_grammar.specs.declared.state.State.{State}
use Rattle.cnf_grammar.specs.declared.state.State.TheVariants.{Statement, ClauseWord, NameStart, NameRead, RoleStart, RoleRead, FormulaStart, LiteralStart, AtomStart, WordRead, TermStart, TermRead, FormulaClosed, SourceStart, Source, InfoStart, Info, InfoClosed, ClauseClosed, IncludeWord, FileStart, FileRead, SelectionStart, SelectionOpen, SelectedStart, SelectedRead, SelectionClosed, IncludeClosed}
use Rattle.cnf_grammar.specs.declared.position.Position.{Position}
use Rattle.cnf_grammar.specs.declared.item.ItemState.{ItemState}
use Rattle.cnf_grammar.specs.Items.{item_step}
use Rattle.cnf_grammar.specs.Shapes.{Shape, left_round, right_round, left_square, right_square, comma, bar, tilde, is_mark, is_bracket, is_keyword, is_defined, is_lower, is_word, is_name, is_simple_term, is_file_name}
use Rattle.cnf_grammar.specs.Spelling.{closing}
use Rattle.cnf_grammar.specs.Table.{or_else, to, step_at, any_token, within, atom_start, literal_start, after_formula, after_term, is_end_state, is_end}
use Rattle.cnf_reader.specs.declared.pending.Asked.{Asked}
use Rattle.cnf_reader.specs.declared.pending.Pending.{Pending}
use Rattle.cnf_reader.specs.Faults.{name_of}
use Rattle.cnf_reader.specs.Files.{BeginAt, NameFileAt}
use Rattle.cnf_reader.specs.Meanings.{Written, ends_statement}
use Rattle.cnf_reader.specs.Statements.{fresh, take, add_at, add_name, take_info, take_item, is_outside_items, with_name}
use Rattle.cnf_grammar.proofs.Edges as edges
use Rattle.cnf_grammar.proofs.Edges.{Edge, edge}
use Rattle.cnf_reader.proofs.Taking.{was_taken}

-- one token
abbrev pub AreOne : List Written → Type 0
AreOne (first ∷ []) = Unit {0}
AreOne _ = ⊥

-- two tokens
abbrev pub AreTwo : List Written → Type 0
AreTwo (first ∷ second ∷ []) = Unit {0}
AreTwo _ = ⊥

-- how far these tokens of a statement lead in this mode, where it asks for a file that is named at this line and column
abbrev pub Lie : State → List Written → ℕ → ℕ → Type 0
Lie Statement tokens line column = tokens ≡ []
Lie IncludeWord tokens line column = AreOne tokens
Lie FileStart tokens line column = AreTwo tokens
Lie FileRead tokens line column = NameFileAt tokens line column
Lie SelectionStart tokens line column = NameFileAt tokens line column
Lie SelectionOpen tokens line column = NameFileAt tokens line column
Lie SelectedStart tokens line column = NameFileAt tokens line column
Lie SelectedRead tokens line column = NameFileAt tokens line column
Lie SelectionClosed tokens line column = NameFileAt tokens line column
Lie IncludeClosed tokens line column = NameFileAt tokens line column
Lie state tokens line column = Unit {0}

-- the statement under way begins where the first of its tokens stands, and names its file where the third does
pub record Stands (tokens : List Written) (p : Pending) : Type 0 where
  pub begins : (p.position.state ≡ Statement → ⊥) → BeginAt tokens p.line p.column
  pub lies : Lie p.position.state tokens p.asked.line p.asked.column

begin_longer : (tokens : List Written) (t : Written) (line column : ℕ) → BeginAt tokens line column → BeginAt (tokens ++ t ∷ []) line column
begin_longer [] t line column h = absurd h
begin_longer (first ∷ tokens) t line column h = h

name_longer : (tokens : List Written) (t : Written) (line column : ℕ) → NameFileAt tokens line column → NameFileAt (tokens ++ t ∷ []) line column
name_longer [] t line column h = absurd h
name_longer (word ∷ []) t line column h = absurd h
name_longer (word ∷ bracket ∷ []) t line column h = absurd h
name_longer (word ∷ bracket ∷ file ∷ tokens) t line column h = h

first_one : (tokens : List Written) (t : Written) → tokens ≡ [] → AreOne (tokens ++ t ∷ [])
first_one [] t none = tt
first_one (first ∷ tokens) t none = absurd cc

then_two : (tokens : List Written) (t : Written) → AreOne tokens → AreTwo (tokens ++ t ∷ [])
then_two [] t one = absurd one
then_two (first ∷ []) t one = tt
then_two (first ∷ second ∷ tokens) t one = absurd one

third_named : (tokens : List Written) (t : Written) → AreTwo tokens → NameFileAt (tokens ++ t ∷ []) t.line t.column
third_named [] t two = absurd two
third_named (first ∷ []) t two = absurd two
third_named (first ∷ second ∷ []) t two = (refl, refl)
third_named (first ∷ second ∷ third ∷ tokens) t two = absurd two

-- a name of a list leaves the place of the file name
name_leaves : (asked : Asked) (s : Shape) (is : Bool) → let after = if is then record asked { names = add_name (name_of s) asked.names } else asked in (after.line ≡ asked.line) × (after.column ≡ asked.column)
name_leaves asked s true = (refl, refl)
name_leaves asked s false = (refl, refl)

item_leaves : (p : Pending) (o : Option ItemState) → ((take_item p o).line ≡ p.line) × ((take_item p o).column ≡ p.column)
item_leaves p None = (refl, refl)
item_leaves p (Some item) = (refl, refl)

info_leaves : (is_outside : Bool) (p : Pending) (s : Shape) → ((take_info is_outside p s).line ≡ p.line) × ((take_info is_outside p s).column ≡ p.column)
info_leaves true p s = (refl, refl)
info_leaves false p s = item_leaves p (item_step p.words p.item s)

module _ (p : Pending) (t : Written) (tokens : List Written) (is_outside : Bool) where
  abbrev Added : State → ℕ → Shape → Pending
  Added state depth s = add_at state depth is_outside p s t.line t.column

  longer : NameFileAt tokens p.asked.line p.asked.column → NameFileAt (tokens ++ t ∷ []) p.asked.line p.asked.column
  longer h = name_longer tokens t p.asked.line p.asked.column h

  listed : (s : Shape) → NameFileAt tokens p.asked.line p.asked.column → NameFileAt (tokens ++ t ∷ []) (with_name p.asked s).line (with_name p.asked s).column
  listed s h =
      let same = name_leaves p.asked s (is_name s) in
      subst (λ l. NameFileAt (tokens ++ t ∷ []) l (with_name p.asked s).column) (sym same.0) (subst (λ c. NameFileAt (tokens ++ t ∷ []) p.asked.line c) (sym same.1) (longer h))

  -- one more token
  lies_on : (from : Position) (s : Shape) (next : Position) → Edge from s next → ends_statement from.state ≡ false → Lie from.state tokens p.asked.line p.asked.column
      → Lie next.state (tokens ++ t ∷ []) (Added from.state from.depth s).asked.line (Added from.state from.depth s).asked.column
  lies_on _ _ _ (edges.include_begins l d bs) goes h = first_one tokens t h
  lies_on _ _ _ (edges.include_opens l d bs) goes h = then_two tokens t h
  lies_on _ _ _ (edges.file_bare l d bs text) goes h = third_named tokens t h
  lies_on _ _ _ (edges.file_quoted l d bs text full) goes h = third_named tokens t h
  lies_on _ _ _ (edges.file_selects l d bs) goes h = longer h
  lies_on _ _ _ (edges.file_ends l d bs) goes h = longer h
  lies_on _ _ _ (edges.selection_opens l d bs) goes h = longer h
  lies_on _ _ _ (edges.first_selected l d bs s name) goes h = listed s h
  lies_on _ _ _ (edges.none_selected l d bs) goes h = longer h
  lies_on _ _ _ (edges.next_selected l d bs s name) goes h = listed s h
  lies_on _ _ _ (edges.selected_comma l d bs) goes h = longer h
  lies_on _ _ _ (edges.selection_ends l d bs) goes h = longer h
  lies_on _ _ _ (edges.selection_behind l d bs) goes h = longer h
  lies_on _ _ _ (edges.clause_ends l d bs) goes h = absurd cc
  lies_on _ _ _ (edges.include_ends l d bs) goes h = absurd cc
  lies_on _ _ _ _ goes h = tt

  begins_on : (state : State) (depth : ℕ) → (state ≡ Statement → tokens ≡ []) → ((state ≡ Statement → ⊥) → BeginAt tokens p.line p.column) → BeginAt (tokens ++ t ∷ []) (add_at state depth is_outside p t.shape t.line t.column).line (add_at state depth is_outside p t.shape t.line t.column).column
  begins_on Statement depth none h = subst (λ u. BeginAt (u ++ t ∷ []) t.line t.column) (sym (none refl)) (refl, refl)
  begins_on Info depth none h =
      let same = info_leaves is_outside p t.shape in
      subst (λ l. BeginAt (tokens ++ t ∷ []) l (take_info is_outside p t.shape).column) (sym same.0) (subst (λ c. BeginAt (tokens ++ t ∷ []) p.line c) (sym same.1) (begin_longer tokens t p.line p.column (h (λ e. cc))))
  begins_on state depth none h = begin_longer tokens t p.line p.column (h (λ e. cc))

-- no token of a statement was taken
pub fresh_stands : Stands [] fresh
fresh_stands = record { begins = λ apart. absurd (apart refl); lies = refl }

-- where no statement is under way, no token of one was taken
pub none_taken : (tokens : List Written) (p : Pending) → Stands tokens p → is_end p.position ≡ true → tokens ≡ []
none_taken tokens p h ends = at p.position.state ends h.lies
  where
    at : (state : State) → is_end_state state ≡ true → Lie state tokens p.asked.line p.asked.column → tokens ≡ []
    at Statement is lies = lies
    at state is lies = absurd cc

module _ (is_full : Bool) (selections : List (Option (List Name))) (p : Pending) (tokens : List Written) (t : Written) (next : Pending) (h : Stands tokens p) (takes : take is_full selections p t.shape t.line t.column ≡ Ok next) where
  -- with one more token it begins where the first of its tokens stands
  pub begins_next : BeginAt (tokens ++ t ∷ []) next.line next.column
  begins_next =
      let k = was_taken is_full selections p t.shape t.line t.column next takes in
      subst (λ (q : Pending). BeginAt (tokens ++ t ∷ []) q.line q.column) k.is
      (begins_on p t tokens (is_outside_items p.position t.shape) p.position.state p.position.depth (λ e. subst (λ m. Lie m tokens p.asked.line p.asked.column) e h.lies) h.begins)

  -- with one more token, which ends no statement, it still does
  pub stands_on : ends_statement p.position.state ≡ false → Stands (tokens ++ t ∷ []) next
  stands_on goes =
      let k = was_taken is_full selections p t.shape t.line t.column next takes in
      let outside = is_outside_items p.position t.shape in
      record {
        begins = λ apart. begins_next;
        lies = subst (λ (q : Pending). Lie q.position.state (tokens ++ t ∷ []) q.asked.line q.asked.column) k.is
            (lies_on p t tokens outside p.position t.shape k.next (edge p.position t.shape k.next k.leads) goes h.lies);
      }

  -- behind the dot of an include its file is named where its third token stands
  pub include_names : p.position.state ≡ IncludeClosed → NameFileAt (tokens ++ t ∷ []) next.asked.line next.asked.column
  include_names is =
      let k = was_taken is_full selections p t.shape t.line t.column next takes in
      let same : p.asked ≡ next.asked = ap (λ m. (add_at m p.position.depth (is_outside_items p.position t.shape) p t.shape t.line t.column).asked) (sym is) ∙ ap (λ (q : Pending). q.asked) k.is in
      subst (λ (a : Asked). NameFileAt (tokens ++ t ∷ []) a.line a.column) same (name_longer tokens t p.asked.line p.asked.column (subst (λ m. Lie m tokens p.asked.line p.asked.column) is h.lies))
