-- What holds of a statement where a token is read holds of it where the token leads.
use Rattle.std.proofs.Common.{◌≡◌, ℕ, zero, suc, ◌≤◌, Bool, true, false, cond, ◌&&◌, nat_le, List, [], ◌∷◌, length, map, Option, Some, None, codes, refl, sym, ap, subst, arith, if◌then◌else◌}
use Rattle.std.specs.List.{list_all}
use Rattle.std.proofs.lemmas.Bool.Decides.{nat_tests}
use Rattle.mg_word.specs.declared.clause.Name.{Name}
use Rattle.cnf_grammar.specs.declared.brackets.Bracket.{Bracket}
use Rattle.cnf_grammar.specs.declared.brackets.Bracket.TheVariants.{Round, Square}
use Rattle.cnf_grammar.specs.declared.state.State.{State}
use Rattle.cnf_grammar.specs.declared.state.State.TheVariants.{Statement, ClauseWord, NameStart, NameRead, RoleStart, RoleRead, FormulaStart, LiteralStart, AtomStart, WordRead, TermStart, TermRead, FormulaClosed, SourceStart, Source, InfoStart, Info, InfoClosed, ClauseClosed, IncludeWord, FileStart, FileRead, SelectionStart, SelectionOpen, SelectedStart, SelectedRead, SelectionClosed, IncludeClosed}
use Rattle.cnf_grammar.specs.declared.position.Position.{Position}
use Rattle.cnf_grammar.specs.declared.item.ItemState.{ItemState}
use Rattle.cnf_grammar.specs.declared.item.ItemState.TheVariants.{Start as item_start}
use Rattle.cnf_grammar.specs.Items.{item_step}
use Rattle.cnf_grammar.specs.Shapes.{Shape, left_round, right_round, left_square, right_square, comma, bar, tilde, is_mark, is_keyword, is_name, is_word, is_simple_term}
use Rattle.cnf_grammar.specs.Spelling.{closing}
use Rattle.cnf_grammar.specs.Table.{or_else, when, to, step_at, any_token, within, in_info, in_source, after_formula, after_literal, after_term, atom_start, literal_start, formula_start, term_start}
use Rattle.cnf_grammar.specs.Draft.{Draft, next_argument, close_arguments, first_argument, finish, begin_literal, begin_term, end_term}
use Rattle.cnf_reader.specs.declared.fault.ReadKind.{ReadKind}
use Rattle.cnf_reader.specs.declared.pending.Pending.{Pending}
use Rattle.cnf_reader.specs.Faults.{limit_fault, name_of, is_selected, ends_item, has_word}
use Rattle.cnf_reader.specs.Statements.{add_at, take_info, take_item, is_outermost}
use Rattle.cnf_reader.specs.Limits.{begun, HasAtMost, HasRoomBehind, HasNoItems, AreChosen, RiseTo, ItemRises, InfoRises, IsAllowed, IsGoing}
use Rattle.cnf_reader.proofs.Following.{position}
use Rattle.cnf_reader.proofs.Rising.{info_rises}
use Rattle.cnf_reader.proofs.Rooming.{room_any, room_begun, room_at_word, room_at_mark, term_leaves, next_leaves, close_leaves, room_finished}

-- it holds of the place where a token leads, if to any
abbrev pub Leads : (Position → Type 0) → Option Position → Type 0
Leads P None = Unit {0}
Leads P (Some next) = P next

either : (P : Position → Type 0) (test : Bool) (next : Position) (other : Option Position) → (test ≡ true → P next) → (test ≡ false → Leads P other) → Leads P (or_else test next other)
either P true next other h k = h refl
either P false next other h k = k refl

only : (P : Position → Type 0) (test : Bool) (next : Position) → P next → Leads P (when test next)
only P true next h = h
only P false next h = tt

-- of two drafts, the one that goes with the place
choose : (P : Draft → Position → Type 0) (test : Bool) (next : Position) (other : Option Position) (d e : Draft) → P d next → Leads (P e) other → Leads (P (cond test d e)) (or_else test next other)
choose P true next other d e h k = h
choose P false next other d e h k = k

-- a token of an annotation leaves the mode
any_leads : (P : Position → Type 0) (q : Position) (s : Shape) → ((brackets : List Bracket) → P (record q { brackets = brackets })) → Leads P (any_token q s)
any_leads P q s h = either P (is_mark left_round s) _ _ (λ e. h (Round ∷ q.brackets)) (λ e. either P (is_mark left_square s) _ _ (λ e. h (Square ∷ q.brackets)) (λ e. only P _ q (h q.brackets)))

within_leads : (P : Position → Type 0) (bracket : Bracket) (outer : List Bracket) (q : Position) (s : Shape) → ((brackets : List Bracket) → P (record q { brackets = brackets })) → Leads P (within bracket outer q s)
within_leads P bracket outer q s h = either P (is_mark (closing bracket) s) _ _ (λ e. h outer) (λ e. any_leads P q s h)

source_leads : (P : Position → Type 0) (brackets : List Bracket) (q : Position) (s : Shape) → P (to InfoStart q) → P (to ClauseClosed q) → ((brackets : List Bracket) → P (record q { brackets = brackets })) → Leads P (in_source brackets q s)
source_leads P [] q s info closed h = either P (is_mark comma s) _ _ (λ e. info) (λ e. either P (is_mark right_round s) _ _ (λ e. closed) (λ e. any_leads P q s h))
source_leads P (bracket ∷ outer) q s info closed h = within_leads P bracket outer q s h

info_leads : (P : Position → Type 0) (brackets : List Bracket) (q : Position) (s : Shape) → P (to InfoClosed q) → ((brackets : List Bracket) → P (record q { brackets = brackets })) → Leads P (in_info brackets q s)
info_leads P [] q s closed h = either P (is_mark right_square s) _ _ (λ e. closed) (λ e. any_leads P q s h)
info_leads P (bracket ∷ outer) q s closed h = within_leads P bracket outer q s h

formula_leads : (P : Position → Type 0) (level : ℕ) (q : Position) (s : Shape) → P (to SourceStart q) → P (to ClauseClosed q) → ((level : ℕ) → P (record q { state = FormulaClosed; level = level })) → Leads P (after_formula level q s)
formula_leads P zero q s source closed h = either P (is_mark comma s) _ _ (λ e. source) (λ e. only P _ _ closed)
formula_leads P (suc level) q s source closed h = only P _ _ (h level)

-- where no item was read, all are right
none_chosen : (p : Pending) → HasNoItems p → AreChosen p
none_chosen p h = ap (list_all _) h.0

-- the first item begins
first_rises : (words : List Bool) (chosen : List ℕ) (item : ItemState) → chosen ≡ [] → item ≡ item_start → ItemRises words chosen item
first_rises words chosen item none start = subst (ItemRises words chosen) (sym start) (subst (λ c. RiseTo words c 0) (sym none) (refl, refl))

-- a limit that was not passed
allowed_by : (test : Bool) (fault : ReadKind) → (if test then Some fault else None) ≡ None → test ≡ false
allowed_by true fault h = absurd cc
allowed_by false fault h = refl

less_by : (count : ℕ) → nat_le 64 count ≡ false → count ≤ 63
less_by count test = grind (arith, nat_tests)

module _ (is_full : Bool) (selections : List (Option (List Name))) (p : Pending) (s : Shape) where
  abbrev Held : Draft → Position → Type 0
  Held d next = IsGoing is_full selections next.state next.depth (record p { draft = d; position = next })

  -- no info was read yet, and the clause may be kept
  abbrev IsBare : Type 0
  IsBare = HasNoItems p × IsAllowed is_full selections p

  -- behind a formula
  whole_leads : (q : Position) (d : Draft) → length d.literals ≤ 64 → IsBare → Leads (Held d) (after_formula q.level q s)
  whole_leads q d few h = formula_leads (Held d) q.level q s (few, h.0, h.1) (few, none_chosen (record p { draft = d }) h.0, h.1) (λ level. (few, h.0, h.1))

  -- behind a literal
  literal_leads : (q : Position) (d : Draft) → (length d.literals ≤ 64) × (d.atom ≡ []) → IsBare → Leads (Held d) (after_literal q s)
  literal_leads q d room h = either (Held d) (is_mark bar s) _ _ (λ e. (room.1, h.0, h.1)) (λ e. whole_leads (to FormulaClosed q) d room.0 h)

  -- behind a term or an atom
  term_leads : (depth : ℕ) (q : Position) → HasRoomBehind depth p.draft → IsBare → Leads (Held (end_term depth s p.draft)) (after_term depth q s)
  term_leads zero q room h = literal_leads q (finish p.draft) (room_finished p.draft.atom p.draft refl room) h
  term_leads (suc depth) q room h =
      let next : length (next_argument p.draft).literals ≡ length p.draft.literals = ap length (next_leaves p.draft.open_words p.draft) in
      let close : length (close_arguments p.draft).literals ≡ length p.draft.literals = ap length (close_leaves p.draft.open_words p.draft) in
      choose Held (is_mark comma s) _ _ (next_argument p.draft) (close_arguments p.draft) (omega (arith, next, room), h.0, h.1)
      (only (Held (close_arguments p.draft)) _ _ (room_any depth (close_arguments p.draft) (omega (arith, close, room)), h.0, h.1))

  -- where an atom, a literal or a formula begins
  atom_leads : (q : Position) → HasAtMost 63 p.draft → IsBare → Leads (Held (begin_literal s p.draft)) (atom_start q s)
  atom_leads q room h = either (Held (begin_literal s p.draft)) (is_word s) _ _ (λ e. (room_at_word s p.draft e room, h.0, h.1)) (λ e. only (Held (begin_literal s p.draft)) _ _ (room_begun s p.draft room, h.0, h.1))

  begin_leads : (q : Position) → HasAtMost 63 p.draft → IsBare → Leads (Held (begin_literal s p.draft)) (literal_start q s)
  begin_leads q room h = either (Held (begin_literal s p.draft)) (is_mark tilde s) _ _ (λ e. (room_at_mark tilde s p.draft e room, h.0, h.1)) (λ e. atom_leads q room h)

  open_leads : (level depth : ℕ) (brackets : List Bracket) → HasAtMost 63 p.draft → IsBare → Leads (Held (begin_literal s p.draft)) (formula_start (position FormulaStart level depth brackets) s)
  open_leads level depth brackets room h =
      either (Held (begin_literal s p.draft)) (is_mark left_round s) _ _ (λ e. (room_at_mark left_round s p.draft e room, h.0, h.1)) (λ e. begin_leads (position FormulaStart level depth brackets) room h)

  -- where a term begins
  argument_leads : (q : Position) → length p.draft.literals ≤ 63 → IsBare → Leads (Held (begin_term s p.draft)) (term_start q s)
  argument_leads q room h =
      let same : length (begin_term s p.draft).literals ≡ length p.draft.literals = ap length (term_leaves s p.draft) in
      let few : length (begin_term s p.draft).literals ≤ 63 = omega (arith, same, room) in
      either (Held (begin_term s p.draft)) (is_simple_term s) _ _ (λ e. (room_any q.depth (begin_term s p.draft) few, h.0, h.1)) (λ e. only (Held (begin_term s p.draft)) _ _ (few, h.0, h.1))

  -- a token of an info
  item_going : (depth : ℕ) (o : Option ItemState) → IsGoing is_full selections Info depth p → InfoRises (take_item p o) → IsGoing is_full selections Info depth (take_item p o)
  item_going depth None h more = h
  item_going depth (Some item) h more = (h.0, more, h.2)

  info_going : (depth : ℕ) (is_outside : Bool) → IsGoing is_full selections Info depth p → IsGoing is_full selections Info depth (take_info is_outside p s)
  info_going depth true h = (h.0, info_rises true p s h.1, h.2)
  info_going depth false h = item_going depth (item_step p.words p.item s) h (info_rises false p s h.1)

  source_begins : (test : Bool) (q : Position) → ((brackets : List Bracket) → Held p.draft (record q { brackets = brackets })) → Leads (Held p.draft) (cond test None (any_token q s))
  source_begins true q h = tt
  source_begins false q h = any_leads (Held p.draft) q s h

  module _ (line column level depth : ℕ) (brackets : List Bracket) where
    abbrev Goes : State → Position → Type 0
    Goes state next = IsGoing is_full selections next.state next.depth (record (add_at state depth (is_outermost brackets && ends_item p.position s) p s line column) { position = next })

    -- what holds where a token is read holds of where it leads
    pub going : (state : State) → limit_fault is_full selections state p.draft s ≡ None → (state ≡ ClauseClosed → ⊥) → IsGoing is_full selections state depth p → Leads (Goes state) (step_at state (position state level depth brackets) s)
    going Statement room apart h = either (Goes Statement) (is_keyword (codes "cnf") s) _ _ (λ e. h) (λ e. only (Goes Statement) _ _ h)
    going ClauseWord room apart h = only (Goes ClauseWord) _ _ h
    going NameStart room apart h = only (Goes NameStart) _ _ (h.0, h.1, allowed_by (is_full && is_selected selections (name_of s)) _ room)
    going NameRead room apart h = only (Goes NameRead) _ _ h
    going RoleStart room apart h = only (Goes RoleStart) _ _ h
    going RoleRead room apart h = only (Goes RoleRead) _ _ h
    going FormulaStart room apart h = open_leads level depth brackets h.0 (h.1, h.2)
    going LiteralStart room apart h =
        let none : begun p.draft.atom ≡ 0 = ap begun h.0 in
        let few : length p.draft.literals ≤ 63 = less_by (length p.draft.literals) (allowed_by (nat_le 64 (length p.draft.literals)) _ room) in
        begin_leads (position LiteralStart level depth brackets) (omega (arith, none, few)) (h.1, h.2)
    going AtomStart room apart h = atom_leads (position AtomStart level depth brackets) h.0 (h.1, h.2)
    going WordRead room apart h = choose Held (is_mark left_round s) _ _ (first_argument p.draft) (end_term depth s p.draft) (h.0, h.1, h.2) (term_leads depth (position TermRead level depth brackets) (room_any depth p.draft h.0) (h.1, h.2))
    going TermStart room apart h = argument_leads (position TermStart level depth brackets) h.0 (h.1, h.2)
    going TermRead room apart h = term_leads depth (position TermRead level depth brackets) h.0 (h.1, h.2)
    going FormulaClosed room apart h = whole_leads (position FormulaClosed level depth brackets) p.draft h.0 (h.1, h.2)
    going SourceStart room apart h = source_begins (is_mark comma s) (position Source level depth []) (λ b. h)
    going Source room apart h = source_leads (Goes Source) brackets (position Source level depth brackets) s h (h.0, none_chosen p h.1, h.2) (λ b. h)
    going InfoStart room apart h = only (Goes InfoStart) _ _ (h.0, (refl, none_chosen p h.1, first_rises (map has_word p.draft.literals) p.chosen p.item h.1.1 h.1.2), h.2)
    going Info room apart h =
        let more = info_going depth (is_outermost brackets && ends_item p.position s) h in
        info_leads (Goes Info) brackets (position Info level depth brackets) s (more.0, more.1.1, more.2) (λ b. more)
    going InfoClosed room apart h = only (Goes InfoClosed) _ _ h
    going ClauseClosed room apart h = absurd (apart refl)
    going IncludeWord room apart h = only (Goes IncludeWord) _ _ h
    going FileStart room apart h = only (Goes FileStart) _ _ h
    going FileRead room apart h = either (Goes FileRead) (is_mark comma s) _ _ (λ e. h) (λ e. only (Goes FileRead) _ _ h)
    going SelectionStart room apart h = only (Goes SelectionStart) _ _ h
    going SelectionOpen room apart h = either (Goes SelectionOpen) (is_name s) _ _ (λ e. h) (λ e. only (Goes SelectionOpen) _ _ h)
    going SelectedStart room apart h = only (Goes SelectedStart) _ _ h
    going SelectedRead room apart h = either (Goes SelectedRead) (is_mark comma s) _ _ (λ e. h) (λ e. only (Goes SelectedRead) _ _ h)
    going SelectionClosed room apart h = only (Goes SelectionClosed) _ _ h
    going IncludeClosed room apart h = only (Goes IncludeClosed) _ _ h
