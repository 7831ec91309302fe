-- A statement under way keeps its limits, token by token, up to a clause that is whole.
use Rattle.std.proofs.Common.{◌≡◌, ℕ, suc, ◌≤◌, Bool, true, false, ◌&&◌, List, length, Option, Some, None, Ok, refl, sym, ap, ◌∙◌, subst, arith}
use Rattle.std.proofs.lemmas.List.{length-map}
use Rattle.std.proofs.lemmas.List.Elements.{All-nil}
use Rattle.mg_word.specs.declared.clause.Name.{Name}
use Rattle.cnf_grammar.specs.declared.state.State.{State}
use Rattle.cnf_grammar.specs.declared.state.State.TheVariants.{Statement, InfoStart, Info, ClauseClosed}
use Rattle.cnf_grammar.specs.declared.position.Position.{Position}
use Rattle.cnf_grammar.specs.declared.item.ItemState.{ItemState}
use Rattle.cnf_grammar.specs.Items.{item_step}
use Rattle.cnf_grammar.specs.Shapes.{Shape}
use Rattle.cnf_grammar.specs.Draft.{collect_at}
use Rattle.cnf_reader.specs.declared.pending.Pending.{Pending}
use Rattle.cnf_reader.specs.Faults.{is_selected, has_word}
use Rattle.cnf_reader.specs.Statements.{fresh, take, add_at, take_info, take_item, is_outside_items, with_token}
use Rattle.cnf_reader.specs.Sound.{IsLimited, HasFew, IsNarrow}
use Rattle.cnf_reader.specs.Limits.{IsRoomyPending, IsSpare, IsGoing, IsWithin}
use Rattle.cnf_reader.proofs.Taking.{was_taken}
use Rattle.cnf_reader.proofs.Sparing.{all_few, all_narrow, spare_stays}
use Rattle.cnf_reader.proofs.Limiting.{Leads, going}

-- no token was read
pub fresh_within : (is_full : Bool) (selections : List (Option (List Name))) → IsWithin is_full selections 0 fresh
fresh_within is_full selections = record {
  spare = record { variables = omega arith; items = omega arith; literals = All-nil (IsNarrow 0); atom = All-nil (HasFew 0) };
  words = omega arith;
  going = (omega arith, (refl, refl, refl), tt);
}

-- of so many tokens as a file can have, each number that counts them has room for one more
pub within_roomy : (is_full : Bool) (selections : List (Option (List Name))) (taken : ℕ) (p : Pending) → IsWithin is_full selections taken p → taken ≤ 16777216 → IsRoomyPending p
within_roomy is_full selections taken p h few = record {
  draft = record { arguments = all_few taken 4294967294 (omega (arith, few)) p.draft.atom h.spare.atom; variables = h.spare.variables };
  words = h.words;
}

-- a token of an info adds no literal, and changes none of the words
item_leaves : (p : Pending) (o : Option ItemState) → ((take_item p o).draft ≡ p.draft) × ((take_item p o).words ≡ p.words)
item_leaves p None = (refl, refl)
item_leaves p (Some item) = (refl, refl)

info_leaves : (is_outside : Bool) (p : Pending) (s : Shape) → ((take_info is_outside p s).draft ≡ p.draft) × ((take_info is_outside p s).words ≡ p.words)
info_leaves true p s = (refl, refl)
info_leaves false p s = item_leaves p (item_step p.words p.item s)

module _ (p : Pending) (s : Shape) (line column : ℕ) (is_outside : Bool) where
  -- what a token adds to the draft
  pub added : (state : State) (depth : ℕ) → (add_at state depth is_outside p s line column).draft ≡ collect_at state depth s p.draft
  added Info depth = (info_leaves is_outside p s).0
  added state depth = refl

  -- the words are as many as the literals, or as before
  words_stay : (is_full : Bool) (selections : List (Option (List Name))) (state : State) (depth : ℕ) → IsGoing is_full selections state depth p → length p.words ≤ 64 → length (add_at state depth is_outside p s line column).words ≤ 64
  words_stay is_full selections InfoStart depth h few = let same = length-map p.draft.literals has_word in let small = h.0 in omega (arith, same, small)
  words_stay is_full selections Info depth h few = let same : length (take_info is_outside p s).words ≡ length p.words = ap length (info_leaves is_outside p s).1 in omega (arith, same, few)
  words_stay is_full selections state depth h few = few

-- a token that was taken leaves the statement within its limits
pub stays_within : (is_full : Bool) (selections : List (Option (List Name))) (p q : Pending) (s : Shape) (line column taken : ℕ) → IsWithin is_full selections taken p → (p.position.state ≡ ClauseClosed → ⊥) → take is_full selections p s line column ≡ Ok q
    → IsWithin is_full selections (suc taken) q
stays_within is_full selections p q s line column taken h apart e =
    let k = was_taken is_full selections p s line column q e in
    let is_outside = is_outside_items p.position s in
    subst (IsWithin is_full selections (suc taken)) k.is (record {
      spare = subst (IsSpare (suc taken)) (sym (added p s line column is_outside p.position.state p.position.depth)) (spare_stays taken p.draft h.spare is_full selections p.position.state p.position.depth s k.room);
      words = words_stay p s line column is_outside is_full selections p.position.state p.position.depth h.going h.words;
      going = subst (Leads (λ next. IsGoing is_full selections next.state next.depth (with_token p s line column next))) k.leads
          (going is_full selections p s line column p.position.level p.position.depth p.position.brackets p.position.state k.room apart h.going);
    })

-- behind the dot of a clause, the clause is within the limits, and there is room for it if it is to be kept
pub clause_limited : (is_full : Bool) (selections : List (Option (List Name))) (p q : Pending) (s : Shape) (line column taken : ℕ) → IsWithin is_full selections taken p → p.position.state ≡ ClauseClosed → take is_full selections p s line column ≡ Ok q
    → IsLimited (suc taken) q × ((is_full && is_selected selections q.name) ≡ false)
clause_limited is_full selections p q s line column taken h closed e =
    let k = was_taken is_full selections p s line column q e in
    let same : record p { position = k.next } ≡ q = ap (λ m. record (add_at m p.position.depth (is_outside_items p.position s) p s line column) { position = k.next }) (sym closed) ∙ k.is in
    let g = subst (λ m. IsGoing is_full selections m p.position.depth p) closed h.going in
    let many = h.spare.items in
    subst (λ x. IsLimited (suc taken) x × ((is_full && is_selected selections x.name) ≡ false)) same (
      record { literals = g.0; variables = h.spare.variables; items = omega (arith, many); arities = all_narrow taken (suc taken) (omega arith) p.draft.literals h.spare.literals; choices = g.1 },
      g.2,
    )
