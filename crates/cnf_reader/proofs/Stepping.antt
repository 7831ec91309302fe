-- A token that is taken adds to the statement under way what the grammar gathers, in each mode.
use Rattle.std.proofs.Common.{◌≡◌, ℕ, Bool, true, false, not, cond, ◌&&◌, ◌||◌, inl, inr, List, [], ◌∷◌, ◌++◌, Option, Some, None, refl, sym, ap, subst, if◌then◌else◌}
use Rattle.cnf_grammar.specs.declared.brackets.Bracket.{Bracket}
use Rattle.cnf_grammar.specs.declared.state.State.{State}
use Rattle.cnf_grammar.specs.declared.state.State.TheVariants.{Statement, ClauseWord, NameStart, NameRead, RoleStart, RoleRead, FormulaStart, LiteralStart, AtomStart, WordRead, TermStart, TermRead, FormulaClosed, SourceStart, Source, InfoStart, Info, InfoClosed, ClauseClosed, IncludeWord, FileStart, FileRead, SelectionStart, SelectionOpen, SelectedStart, SelectedRead, SelectionClosed, IncludeClosed}
use Rattle.cnf_grammar.specs.declared.position.Position.{Position}
use Rattle.cnf_grammar.specs.declared.item.ItemState.{ItemState}
use Rattle.cnf_grammar.specs.Items.{item_step}
use Rattle.cnf_grammar.specs.Shapes.{Shape, comma, left_round, left_square, right_round, right_square, is_mark, is_bracket, is_name}
use Rattle.cnf_grammar.specs.Spelling.{closing}
use Rattle.cnf_grammar.specs.Table.{or_else, when, step_at, any_token, within, in_info}
use Rattle.cnf_grammar.specs.Meaning.{ReadStatement}
use Rattle.cnf_grammar.specs.Draft.{collect_at}
use Rattle.cnf_grammar.specs.Gathering.{Gathered, token_name, token_text, gather_at, gather_item}
use Rattle.cnf_grammar.specs.Gathering as gathering
use Rattle.cnf_reader.specs.declared.pending.Pending.{Pending}
use Rattle.cnf_reader.specs.Faults.{name_of, ends_item}
use Rattle.cnf_reader.specs.Statements.{is_outermost, is_broken, add_at, take_info, take_item, end_item, add_name}
use Rattle.cnf_reader.specs.Meanings.{ends_statement}
use Rattle.cnf_reader.proofs.InItems.{info_position, InItem, item_added, item_ended}
use Rattle.cnf_reader.proofs.Following.{position, is_selection_start, is_late, goes_there, true_false, NamesFollow, names_early, names_late, ItemFollows, in_item, outside_info, Follows, name_same, file_same, names_same}

-- a token within an info stays in it
abbrev InInfo : Option Position → Type 0
InInfo None = Unit {0}
InInfo (Some p) = p.state ≡ Info

stay : (test : Bool) (p : Position) (o : Option Position) → p.state ≡ Info → InInfo o → InInfo (or_else test p o)
stay true p o h k = h
stay false p o h k = k

stay_any : (p : Position) (s : Shape) → p.state ≡ Info → InInfo (any_token p s)
stay_any p s h = stay (is_mark left_round s) _ _ h (stay (is_mark left_square s) _ _ h (stay (not (is_bracket s)) p None h tt))

pass : (test other : Bool) (p : Position) (o : Option Position) → (other || test) ≡ false → InInfo o → InInfo (or_else test p o)
pass true true p o h k = cc
pass true false p o h k = cc
pass false other p o h k = k

stays : (level depth : ℕ) (brackets : List Bracket) (s : Shape) → (is_outermost brackets && (is_mark comma s || is_mark right_square s)) ≡ false → InInfo (in_info brackets (info_position level depth brackets) s)
stays level depth [] s h = pass (is_mark right_square s) (is_mark comma s) _ _ h (stay_any (info_position level depth []) s refl)
stays level depth (bracket ∷ outer) s h = stay (is_mark (closing bracket) s) _ _ refl (stay_any (info_position level depth (bracket ∷ outer)) s refl)

-- what the grammar gathers of an info's token
pub gathers_more : (brackets : List Bracket) (s : Shape) (g : Gathered) → (is_outermost brackets && (is_mark comma s || is_mark right_square s)) ≡ false → record g { item = g.item ++ s ∷ [] } ≡ gather_item brackets s g
gathers_more [] s g h = ap (λ b. cond b (record g { items = g.items ++ g.item ∷ []; item = [] }) (record g { item = g.item ++ s ∷ [] })) (sym h)
gathers_more (bracket ∷ outer) s g h = refl

pub gathers_end : (brackets : List Bracket) (s : Shape) (g : Gathered) → (is_outermost brackets && (is_mark comma s || is_mark right_square s)) ≡ true → record g { items = g.items ++ g.item ∷ []; item = [] } ≡ gather_item brackets s g
gathers_end [] s g h = ap (λ b. cond b (record g { items = g.items ++ g.item ∷ []; item = [] }) (record g { item = g.item ++ s ∷ [] })) (sym h)
gathers_end (bracket ∷ outer) s g h = cc

no_bracket : (brackets : List Bracket) (b : Bool) → (is_outermost brackets && b) ≡ true → brackets ≡ []
no_bracket [] b h = refl
no_bracket (bracket ∷ outer) b h = cc

module _ (before : List ReadStatement) (level depth : ℕ) (brackets : List Bracket) (p : Pending) (g : Gathered) (s : Shape) (line column : ℕ) (next : Position) where
  -- whether the token stands between items or ends them
  abbrev pub outside : Bool
  outside = is_outermost brackets && ends_item p.position s

  abbrev pub Goes : State → Type 0
  Goes state = step_at state (position state level depth brackets) s ≡ Some next

  -- the names are left as they were
  left_early : (state : State) → is_late state ≡ false → is_late next.state ≡ false → Follows before state brackets p g → NamesFollow next.state p.asked.names g.names
  left_early SelectionStart early there h = cc
  left_early state early there h = names_early next.state p.asked.names g.names there (h.names.same refl) (h.names.early early)

  item_left : (state : State) → (state ≡ Info → ⊥) → Follows before state brackets p g → ItemFollows next.state next.brackets p.item p.chosen g.item
  item_left state apart h = inr (outside_info state brackets p.item p.chosen g.item apart h.item)

  -- a token that adds nothing
  idle : (state : State) → is_late state ≡ false → is_late next.state ≡ false → (state ≡ Info → ⊥) → Follows before state brackets p g → Follows before next.state next.brackets p g
  idle state early there apart h = record { statements = h.statements; name = h.name; draft = h.draft; file = h.file; names = left_early state early there h; conclude = h.conclude; item = item_left state apart h }

  idle_late : (state : State) → is_selection_start state ≡ false → (is_selection_start next.state || not (is_late next.state)) ≡ false → (state ≡ Info → ⊥) → Follows before state brackets p g → Follows before next.state next.brackets p g
  idle_late state start there apart h = record { statements = h.statements; name = h.name; draft = h.draft; file = h.file; names = names_late next.state p.asked.names g.names there (h.names.same start); conclude = h.conclude; item = item_left state apart h }

  -- a token of a formula
  in_formula : (state : State) → is_late state ≡ false → is_late next.state ≡ false → (state ≡ Info → ⊥) → Follows before state brackets p g
      → Follows before next.state next.brackets (record p { draft = collect_at state depth s p.draft }) (record g { formula = collect_at state depth s g.formula })
  in_formula state early there apart h = record { statements = h.statements; name = h.name; draft = ap (collect_at state depth s) h.draft; file = h.file; names = left_early state early there h; conclude = h.conclude; item = item_left state apart h }

  -- a name of a list
  listed : (state : State) → is_selection_start state ≡ false → (is_selection_start next.state || not (is_late next.state)) ≡ false → (state ≡ Info → ⊥) → Follows before state brackets p g
      → (is : Bool) → Follows before next.state next.brackets (record p { asked = if is then record p.asked { names = add_name (name_of s) p.asked.names } else p.asked }) (cond is (record g { names = gathering.with_name g.names (token_name s) }) g)
  listed state start there apart h true = record {
    statements = h.statements;
    name = h.name;
    draft = h.draft;
    file = h.file;
    names = names_late next.state (add_name (name_of s) p.asked.names) (gathering.with_name g.names (token_name s)) there (names_same s p.asked.names g.names (h.names.same start));
    conclude = h.conclude;
    item = item_left state apart h;
  }
  listed state start there apart h false = idle_late state start there apart h

  -- the token behind a file name
  behind_file : (is round : Bool) → Follows before FileRead brackets p g → or_else is (position SelectionStart level depth brackets) (when round (position IncludeClosed level depth brackets)) ≡ Some next
      → Follows before next.state next.brackets p (cond is (record g { names = Some [] }) g)
  behind_file true round h goes = let same : position SelectionStart level depth brackets ≡ next = cc in record {
    statements = h.statements;
    name = h.name;
    draft = h.draft;
    file = h.file;
    names = record { opening = λ e. refl; same = λ e. absurd (true_false (is_selection_start next.state) (sym (ap (λ q. is_selection_start q.state) same)) e); early = λ e. absurd (true_false (is_late next.state) (sym (ap (λ q. is_late q.state) same)) e) };
    conclude = h.conclude;
    item = item_left FileRead (λ e. cc) h;
  }
  behind_file false true h goes = let same : position IncludeClosed level depth brackets ≡ next = cc in record {
    statements = h.statements;
    name = h.name;
    draft = h.draft;
    file = h.file;
    names = names_late next.state p.asked.names g.names (sym (ap (λ q. is_selection_start q.state || not (is_late q.state)) same)) (h.names.same refl);
    conclude = h.conclude;
    item = item_left FileRead (λ e. cc) h;
  }
  behind_file false false h goes = absurd cc

  -- a token of an item
  in_the_item : (o : Option ItemState) → item_step p.words p.item s ≡ o → is_broken o ≡ false → outside ≡ false → is_late next.state ≡ false → Follows before Info brackets p g → Goes Info
      → Follows before next.state next.brackets (take_item p o) (record g { item = g.item ++ s ∷ [] })
  in_the_item None e whole inside there h goes = absurd cc
  in_the_item (Some q) e whole inside there h goes = record {
    statements = h.statements;
    name = h.name;
    draft = h.draft;
    file = h.file;
    names = left_early Info refl there h;
    conclude = h.conclude;
    item = inl (subst InInfo goes (stays level depth brackets s inside), item_added p.words level depth brackets next p.chosen g.item p.item q s (in_item Info brackets p.item p.chosen g.item h.item) goes e);
  }

  -- a token of an info
  in_the_info : (is : Bool) → outside ≡ is → (not is && is_broken (item_step p.words p.item s)) ≡ false → is_late next.state ≡ false → Follows before Info brackets p g → Goes Info
      → Follows before next.state next.brackets (take_info is p s) (gather_item brackets s g)
  in_the_info true at whole there h goes =
      let none = no_bracket brackets (ends_item p.position s) at in
      subst (Follows before next.state next.brackets (end_item p)) (gathers_end brackets s g at) (record {
        statements = h.statements;
        name = h.name;
        draft = h.draft;
        file = h.file;
        names = left_early Info refl there h;
        conclude = item_ended p.item p.chosen g.item p.conclude g.items (subst (λ b. InItem b p.item p.chosen g.item) none (in_item Info brackets p.item p.chosen g.item h.item)) h.conclude;
        item = inr (refl, refl, refl);
      })
  in_the_info false at whole there h goes =
      subst (Follows before next.state next.brackets (take_item p (item_step p.words p.item s))) (gathers_more brackets s g at)
      (in_the_item (item_step p.words p.item s) refl whole at there h goes)

  pub follows : (state : State) → Follows before state brackets p g → Goes state → ends_statement state ≡ false → (state ≡ Info → (not outside && is_broken (item_step p.words p.item s)) ≡ false)
      → Follows before next.state next.brackets (add_at state depth outside p s line column) (gather_at state (position state level depth brackets) s g)
  follows Statement h goes within whole =
      let k = idle Statement refl (goes_there Statement level depth brackets s next goes) (λ e. cc) h in
      record { statements = k.statements; name = k.name; draft = k.draft; file = k.file; names = k.names; conclude = k.conclude; item = k.item }
  follows ClauseWord h goes within whole =
      let k = idle ClauseWord refl (goes_there ClauseWord level depth brackets s next goes) (λ e. cc) h in
      record { statements = k.statements; name = k.name; draft = k.draft; file = k.file; names = k.names; conclude = k.conclude; item = k.item }
  follows NameStart h goes within whole =
      let k = idle NameStart refl (goes_there NameStart level depth brackets s next goes) (λ e. cc) h in
      record { statements = k.statements; name = name_same s; draft = k.draft; file = k.file; names = k.names; conclude = k.conclude; item = k.item }
  follows NameRead h goes within whole = idle NameRead refl (goes_there NameRead level depth brackets s next goes) (λ e. cc) h
  follows RoleStart h goes within whole =
      let k = idle RoleStart refl (goes_there RoleStart level depth brackets s next goes) (λ e. cc) h in
      record { statements = k.statements; name = k.name; draft = k.draft; file = k.file; names = k.names; conclude = k.conclude; item = k.item }
  follows RoleRead h goes within whole = idle RoleRead refl (goes_there RoleRead level depth brackets s next goes) (λ e. cc) h
  follows FormulaStart h goes within whole = in_formula FormulaStart refl (goes_there FormulaStart level depth brackets s next goes) (λ e. cc) h
  follows LiteralStart h goes within whole = in_formula LiteralStart refl (goes_there LiteralStart level depth brackets s next goes) (λ e. cc) h
  follows AtomStart h goes within whole = in_formula AtomStart refl (goes_there AtomStart level depth brackets s next goes) (λ e. cc) h
  follows WordRead h goes within whole = in_formula WordRead refl (goes_there WordRead level depth brackets s next goes) (λ e. cc) h
  follows TermStart h goes within whole = in_formula TermStart refl (goes_there TermStart level depth brackets s next goes) (λ e. cc) h
  follows TermRead h goes within whole = in_formula TermRead refl (goes_there TermRead level depth brackets s next goes) (λ e. cc) h
  follows FormulaClosed h goes within whole = idle FormulaClosed refl (goes_there FormulaClosed level depth brackets s next goes) (λ e. cc) h
  follows SourceStart h goes within whole = idle SourceStart refl (goes_there SourceStart level depth brackets s next goes) (λ e. cc) h
  follows Source h goes within whole = idle Source refl (goes_there Source level depth brackets s next goes) (λ e. cc) h
  follows InfoStart h goes within whole =
      let k = idle InfoStart refl (goes_there InfoStart level depth brackets s next goes) (λ e. cc) h in
      record { statements = k.statements; name = k.name; draft = k.draft; file = k.file; names = k.names; conclude = k.conclude; item = k.item }
  follows Info h goes within whole = in_the_info outside refl (whole refl) (goes_there Info level depth brackets s next goes) h goes
  follows InfoClosed h goes within whole = idle InfoClosed refl (goes_there InfoClosed level depth brackets s next goes) (λ e. cc) h
  follows ClauseClosed h goes within whole = absurd cc
  follows IncludeWord h goes within whole = idle IncludeWord refl (goes_there IncludeWord level depth brackets s next goes) (λ e. cc) h
  follows FileStart h goes within whole =
      let there = goes_there FileStart level depth brackets s next goes in
      record {
        statements = h.statements;
        name = h.name;
        draft = h.draft;
        file = file_same s (position FileRead level depth brackets) next goes;
        names = names_early next.state None g.names there (sym (h.names.early refl)) (h.names.early refl);
        conclude = h.conclude;
        item = item_left FileStart (λ e. cc) h;
      }
  follows FileRead h goes within whole = behind_file (is_mark comma s) (is_mark right_round s) h goes
  follows SelectionStart h goes within whole =
      let there = goes_there SelectionStart level depth brackets s next goes in
      record {
        statements = h.statements;
        name = h.name;
        draft = h.draft;
        file = h.file;
        names = names_late next.state (Some []) g.names there (sym (h.names.opening refl));
        conclude = h.conclude;
        item = item_left SelectionStart (λ e. cc) h;
      }
  follows SelectionOpen h goes within whole = listed SelectionOpen refl (goes_there SelectionOpen level depth brackets s next goes) (λ e. cc) h (is_name s)
  follows SelectedStart h goes within whole = listed SelectedStart refl (goes_there SelectedStart level depth brackets s next goes) (λ e. cc) h (is_name s)
  follows SelectedRead h goes within whole = idle_late SelectedRead refl (goes_there SelectedRead level depth brackets s next goes) (λ e. cc) h
  follows SelectionClosed h goes within whole = idle_late SelectionClosed refl (goes_there SelectionClosed level depth brackets s next goes) (λ e. cc) h
  follows IncludeClosed h goes within whole = absurd cc
