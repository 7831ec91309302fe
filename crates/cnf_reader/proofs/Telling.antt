-- What holds of a statement under way, by the tokens that were taken of it, is told on by each further token.
use Rattle.std.proofs.Common.{◌≡◌, ℕ, suc, ◌+◌, ◌≤◌, Bool, true, false, not, cond, ◌&&◌, List, [], ◌∷◌, ◌++◌, length, map, filter_map, Option, Some, None, Ok, refl, sym, ap, ◌∙◌, subst, arith, append_assoc}
use Rattle.std.proofs.lemmas.Bool.Decides.{nat_tests}
use Rattle.std.proofs.lemmas.List.{length-append}
use Rattle.std.proofs.lemmas.List.Elements.{filter_map-append}
use Rattle.mg_word.specs.declared.clause.Name.{Name}
use Rattle.cnf_grammar.specs.declared.state.State.{State}
use Rattle.cnf_grammar.specs.declared.state.State.TheVariants.{Statement, InfoStart, Info, ClauseClosed}
use Rattle.cnf_grammar.specs.declared.position.Position.{Position}
use Rattle.cnf_grammar.specs.declared.item.ItemState.{ItemState}
use Rattle.cnf_grammar.specs.declared.brackets.Bracket.{Bracket}
use Rattle.cnf_grammar.specs.declared.item.ItemState.TheVariants.{Start as item_start}
use Rattle.cnf_grammar.specs.Items.{item_step, item_run}
use Rattle.cnf_grammar.specs.Draft.{collect_at}
use Rattle.cnf_grammar.specs.Shapes.{Shape, Punct, left_round, right_round, bar, is_mark}
use Rattle.cnf_grammar.specs.Spelling.{opening, closing}
use Rattle.cnf_grammar.specs.Table.{step, run_from, run, start}
use Rattle.cnf_grammar.specs.Gathering.{Gathered, gathered, gather_item, gather, gather_from}
use Rattle.cnf_grammar.proofs.Edges as edges
use Rattle.cnf_grammar.proofs.Edges.{Edge, edge}
use Rattle.cnf_grammar.proofs.Joined.{run_step}
use Rattle.cnf_reader.specs.declared.pending.Pending.{Pending}
use Rattle.cnf_reader.specs.Faults.{has_word, ends_item, is_too_deep}
use Rattle.cnf_reader.specs.Limits.{IsWithin}
use Rattle.cnf_reader.specs.Meanings.{ends_statement}
use Rattle.cnf_reader.specs.Rows.{count_marks, variable_text, variables_in, said_by, item_in}
use Rattle.cnf_reader.specs.Statements.{fresh, take, with_token, add_at, breaks_item, is_broken, is_outermost, is_outside_items, take_info, take_item}
use Rattle.cnf_reader.proofs.Following.{Follows, outside_info, true_false}
use Rattle.cnf_reader.proofs.Meant.{fresh_follows, placed}
use Rattle.cnf_reader.proofs.Stepping.{follows, gathers_more, gathers_end}
use Rattle.cnf_reader.proofs.Taking.{was_taken}
use Rattle.cnf_reader.proofs.Tallies.{count_more, Headed, headed_on, Barred, barred_on, Varied, varied_on, Opened, opened_on}
use Rattle.cnf_reader.proofs.Within.{fresh_within, stays_within, added}

-- tokens that were gathered, and one more
gather_none : (o : Option Position) (g : Gathered) → gather_from o g [] ≡ g
gather_none None g = refl
gather_none (Some p) g = refl

pub gather_more : (o : Option Position) (g : Gathered) (own : List Shape) (p : Position) (s : Shape) → run_from o own ≡ Some p → gather_from o g (own ++ s ∷ []) ≡ gather p s (gather_from o g own)
gather_more None g own p s e = absurd cc
gather_more (Some q) g [] p s e = let same : q ≡ p = cc in gather_none (step q s) (gather q s g) ∙ ap (λ r. gather r s g) same
gather_more (Some q) g (t ∷ own) p s e = gather_more (step q t) (gather q t g) own p s e

item_none : (words : List Bool) (o : Option ItemState) → item_run words o [] ≡ o
item_none words None = refl
item_none words (Some p) = refl

-- tokens of an item, and one more
pub item_more : (words : List Bool) (o : Option ItemState) (tokens : List Shape) (p : ItemState) (s : Shape) → item_run words o tokens ≡ Some p → item_run words o (tokens ++ s ∷ []) ≡ item_step words p s
item_more words None tokens p s e = absurd cc
item_more words (Some q) [] p s e = let same : q ≡ p = cc in item_none words (item_step words q s) ∙ ap (λ r. item_step words r s) same
item_more words (Some q) (t ∷ tokens) p s e = item_more words (item_step words q t) tokens p s e

-- in an info the item under way stands where its tokens lead, by the words of the clause's literals
abbrev pub Itemed : State → Pending → List Shape → Type 0
Itemed Info p tokens = (p.words ≡ map has_word p.draft.literals) × (item_run p.words (Some item_start) tokens ≡ Some p.item)
Itemed _ p tokens = Unit {0}

-- what the tokens of a statement under way tell of it
pub record Tells (is_full : Bool) (selections : List (Option (List Name))) (own : List Shape) (p : Pending) : Type 0 where
  pub runs : run start own ≡ Some p.position
  pub headed : Headed p.position.state own
  pub barred : Barred p.position.state p.position.depth p.draft (count_marks bar own)
  pub varied : Varied p.position.state p.draft (variables_in own)
  pub opened : Opened p.position.state p.position.level p.position.depth (count_marks left_round own) (count_marks right_round own)
  pub few : p.position.level + p.position.depth ≤ 100
  pub follows : Follows [] p.position.state p.position.brackets p (said_by own)
  pub itemed : Itemed p.position.state p (item_in own)
  pub within : IsWithin is_full selections (length own) p

-- no token was taken
pub fresh_tells : (is_full : Bool) (selections : List (Option (List Name))) → Tells is_full selections [] fresh
fresh_tells is_full selections = record {
  runs = refl;
  headed = refl;
  barred = (refl, refl, refl);
  varied = refl;
  opened = (refl, refl, refl);
  few = omega arith;
  follows = fresh_follows [];
  itemed = tt;
  within = fresh_within is_full selections;
}

shallow_few : (q : Position) → is_too_deep q ≡ false → q.level + q.depth ≤ 100
shallow_few q shallow = grind (arith, nat_tests)

-- an info's token leaves the words and the literals
module _ (p : Pending) (s : Shape) (tokens : List Shape) (is : (p.words ≡ map has_word p.draft.literals) × (item_run p.words (Some item_start) tokens ≡ Some p.item)) where
  item_by : (o : Option ItemState) → item_step p.words p.item s ≡ o → is_broken o ≡ false → Itemed Info (take_item p o) (tokens ++ s ∷ [])
  item_by None e whole = absurd cc
  item_by (Some q) e whole = (is.0, item_more p.words (Some item_start) tokens p.item s is.1 ∙ e)

  info_by : (outside : Bool) (brackets : List Bracket) (g : Gathered) → g.item ≡ tokens → (is_outermost brackets && ends_item p.position s) ≡ outside → (not outside && is_broken (item_step p.words p.item s)) ≡ false
      → Itemed Info (take_info outside p s) (gather_item brackets s g).item
  info_by true brackets g same at whole = subst (λ (h : Gathered). Itemed Info (take_info true p s) h.item) (gathers_end brackets s g at) (is.0, refl)
  info_by false brackets g same at whole =
      subst (λ (h : Gathered). Itemed Info (take_info false p s) h.item) (gathers_more brackets s g at)
      (subst (λ u. Itemed Info (take_item p (item_step p.words p.item s)) (u ++ s ∷ [])) (sym same) (item_by (item_step p.words p.item s) refl whole))

module _ (p : Pending) (line column : ℕ) (g : Gathered) where
  abbrev Goes : Shape → Position → Position → Type 0
  Goes s from next = Itemed next.state (add_at from.state from.depth (is_outermost from.brackets && ends_item p.position s) p s line column) (gather from s g).item

  within_info : (s : Shape) (brackets : List Bracket) → Itemed Info p g.item → (Info ≡ Info → (not (is_outermost brackets && ends_item p.position s) && is_broken (item_step p.words p.item s)) ≡ false)
      → Itemed Info (take_info (is_outermost brackets && ends_item p.position s) p s) (gather_item brackets s g).item
  within_info s brackets is whole = info_by p s g.item is (is_outermost brackets && ends_item p.position s) brackets g refl refl (whole refl)

  -- a token leads on with the item
  itemed_on : (s : Shape) (from next : Position) → Edge from s next → Itemed from.state p g.item → (from.state ≡ InfoStart → (p.item ≡ item_start) × (g.item ≡ []))
      → (from.state ≡ Info → (not (is_outermost from.brackets && ends_item p.position s) && is_broken (item_step p.words p.item s)) ≡ false) → Goes s from next
  itemed_on _ _ _ (edges.info_opens l d bs) is first whole = (refl, ap (λ u. item_run (map has_word p.draft.literals) (Some item_start) u) (first refl).1 ∙ ap Some (sym (first refl).0))
  itemed_on _ _ _ (edges.info_inner l d bs b) is first whole = within_info (opening b) bs is whole
  itemed_on _ _ _ (edges.info_token l d bs t plain) is first whole = within_info t bs is whole
  itemed_on _ _ _ (edges.info_closes l d bs b) is first whole = within_info (Punct (closing b)) (b ∷ bs) is whole
  itemed_on _ _ _ _ is first whole = tt

itemed_placed : (state : State) (q : Pending) (next : Position) (tokens : List Shape) → Itemed state q tokens → Itemed state (record q { position = next }) tokens
itemed_placed Info q next tokens h = h
itemed_placed state q next tokens h = tt

start_or_info : InfoStart ≡ Info → ⊥
start_or_info e = absurd cc

module _ (is_full : Bool) (selections : List (Option (List Name))) (own : List Shape) (p next : Pending) (s : Shape) (line column : ℕ) where
  -- one more token, which ends no statement
  pub tells_on : Tells is_full selections own p → ends_statement p.position.state ≡ false → take is_full selections p s line column ≡ Ok next → Tells is_full selections (own ++ s ∷ []) next
  tells_on t goes takes =
      let k = was_taken is_full selections p s line column next takes in
      let at = p.position in
      let q = k.next in
      let outside = is_outside_items at s in
      let added_to = add_at at.state at.depth outside p s line column in
      let collected = collect_at at.state at.depth s p.draft in
      let on = edge at s q k.leads in
      let draft : collected ≡ added_to.draft = sym (added p s line column outside at.state at.depth) in
      let whole = λ (e : at.state ≡ Info). subst (λ m. breaks_item m p s ≡ false) e k.whole in
      let said : gather at s (said_by own) ≡ said_by (own ++ s ∷ []) = sym (gather_more (Some start) (gathered []) own at s t.runs) in
      let left = count_marks left_round own in
      let right = count_marks right_round own in
      let longer : length (own ++ s ∷ []) ≡ suc (length own) = let e = length-append own (s ∷ []) in omega (arith, e) in
      let none_yet : at.state ≡ InfoStart → (p.item ≡ item_start) × ((said_by own).item ≡ []) = λ e. let none = outside_info at.state at.brackets p.item p.chosen (said_by own).item (λ i. start_or_info (sym e ∙ i)) t.follows.item in (none.0, none.1) in
      subst (Tells is_full selections (own ++ s ∷ [])) k.is (record {
        runs = run_step own at s t.runs ∙ k.leads;
        headed = headed_on at s q on goes own t.headed;
        barred = subst (λ d. Barred q.state q.depth d (count_marks bar (own ++ s ∷ []))) draft (subst (λ n. Barred q.state q.depth collected n) (sym (count_more bar own s)) (barred_on at s q on goes p.draft (count_marks bar own) t.barred));
        varied = subst (λ d. Varied q.state d (variables_in (own ++ s ∷ []))) draft (subst (λ v. Varied q.state collected v) (sym (filter_map-append variable_text own (s ∷ []))) (varied_on at s q on goes p.draft (variables_in own) t.varied));
        opened = subst (λ n. Opened q.state q.level q.depth n (count_marks right_round (own ++ s ∷ []))) (sym (count_more left_round own s))
            (subst (λ n. Opened q.state q.level q.depth (left + cond (is_mark left_round s) 1 0) n) (sym (count_more right_round own s)) (opened_on at s q on goes left right t.opened));
        few = shallow_few q k.shallow;
        follows = subst (λ g. Follows [] q.state q.brackets (with_token p s line column q) g) said
            (placed [] q.state q.brackets added_to (gather at s (said_by own)) q (follows [] at.level at.depth at.brackets p (said_by own) s line column q at.state t.follows k.leads goes whole));
        itemed = subst (λ (g : Gathered). Itemed q.state (with_token p s line column q) g.item) said
            (itemed_placed q.state added_to q (gather at s (said_by own)).item (itemed_on p line column (said_by own) s at q on t.itemed none_yet whole));
        within = subst (λ n. IsWithin is_full selections n (with_token p s line column q)) (sym longer)
            (subst (IsWithin is_full selections (suc (length own))) (sym k.is) (stays_within is_full selections p next s line column (length own) t.within (λ e. true_false (ends_statement at.state) (ap ends_statement e) goes) takes));
      })
