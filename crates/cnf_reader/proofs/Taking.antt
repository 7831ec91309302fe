-- How a token that is no fault moves the statement under way.
use Rattle.std.proofs.Common.{◌≡◌, ℕ, ◌+◌, ◌≤◌, Bool, true, false, true≢false, List, Option, Some, None, Ok, Err, refl, sym, ap, ◌∙◌, arith, if◌then◌else◌}
use Rattle.std.proofs.lemmas.Bool.Decides.{nat_tests}
use Rattle.mg_word.specs.declared.clause.Name.{Name}
use Rattle.cnf_grammar.specs.declared.state.State.{State}
use Rattle.cnf_grammar.specs.declared.state.State.TheVariants.{Info}
use Rattle.cnf_grammar.specs.declared.position.Position.{Position}
use Rattle.cnf_grammar.specs.declared.item.ItemState.{ItemState}
use Rattle.cnf_grammar.specs.Shapes.{Shape}
use Rattle.cnf_grammar.specs.Table.{step}
use Rattle.cnf_grammar.specs.Moving.{Moves}
use Rattle.cnf_grammar.specs.Items.{item_step}
use Rattle.cnf_reader.specs.declared.fault.ReadKind.{ReadKind}
use Rattle.cnf_reader.specs.declared.fault.ReadKind.TheVariants.{BadConclude, TooDeep}
use Rattle.cnf_reader.specs.declared.pending.Pending.{Pending}
use Rattle.cnf_reader.specs.Faults.{limit_fault, is_too_deep}
use Rattle.cnf_reader.specs.Statements.{take, taken, fault_here, fault_before, breaks_item, add_at, with_token, position_or, take_info, take_item, is_outside_items, Takes}

-- where the place moved, the table had that place
pub moved_to : (found : Option Position) (moved : Bool) (old new : Position) → Moves found moved old new → moved ≡ true → found ≡ Some new
moved_to None moved old new (stays, is) test = absurd (true≢false (sym test ∙ stays))
moved_to (Some next) moved old new (goes, is) test = ap Some (sym is)

-- where it did not, the table had none
pub stayed : (found : Option Position) (moved : Bool) (old new : Position) → Moves found moved old new → moved ≡ false → found ≡ None
stayed None moved old new (stays, is) test = refl
stayed (Some next) moved old new (goes, is) test = absurd (true≢false (sym goes ∙ test))

moved_item : (p : Pending) (next : Position) (item : Option ItemState) → take_item (record p { position = next }) item ≡ record (take_item p item) { position = next }
moved_item p next None = refl
moved_item p next (Some item) = refl

moved_info : (is_outside : Bool) (p : Pending) (next : Position) (s : Shape) → take_info is_outside (record p { position = next }) s ≡ record (take_info is_outside p s) { position = next }
moved_info true p next s = refl
moved_info false p next s = moved_item p next (item_step p.words p.item s)

-- what a token adds does not depend on the place
pub moved : (state : State) (depth : ℕ) (is_outside : Bool) (p : Pending) (next : Position) (s : Shape) (line column : ℕ)
    → add_at state depth is_outside (record p { position = next }) s line column ≡ record (add_at state depth is_outside p s line column) { position = next }
moved Info depth is_outside p next s line column = moved_info is_outside p next s
moved state depth is_outside p next s line column = refl

-- a token at which no fault stands is taken
pub took : (is_full : Bool) (selections : List (Option (List Name))) (p : Pending) (s : Shape) (line column : ℕ) (next : Position) (new : Pending) → breaks_item p.position.state p s ≡ false → step p.position s ≡ Some next
    → is_too_deep next ≡ false → limit_fault is_full selections p.position.state p.draft s ≡ None → new ≡ add_at p.position.state p.position.depth (is_outside_items p.position s) (record p { position = next }) s line column
    → Takes (take is_full selections p s line column) None new
unfolding take
took is_full selections p s line column next new whole leads few none is =
    let no_fault : fault_here is_full selections p s ≡ None = rw (whole, leads, few, none) refl in
    rw (no_fault, leads) (is ∙ moved p.position.state p.position.depth (is_outside_items p.position s) p next s line column)

-- a token that breaks an item is that fault
pub broke : (is_full : Bool) (selections : List (Option (List Name))) (p : Pending) (s : Shape) (line column : ℕ) (new : Pending) → breaks_item p.position.state p s ≡ true → Takes (take is_full selections p s line column) (Some BadConclude) new
unfolding take
broke is_full selections p s line column new breaks = rw breaks refl

-- brackets within the limit are few enough
pub few_open : (next : Position) → next.level + next.depth ≤ 100 → is_too_deep next ≡ false
few_open next few = grind (arith, nat_tests)

-- what is known of a token that was taken
pub record Took (is_full : Bool) (selections : List (Option (List Name))) (p : Pending) (s : Shape) (line column : ℕ) (q : Pending) : Type 0 where
  pub next : Position
  pub leads : step p.position s ≡ Some next
  pub whole : breaks_item p.position.state p s ≡ false
  pub shallow : is_too_deep next ≡ false
  pub room : limit_fault is_full selections p.position.state p.draft s ≡ None
  pub is : with_token p s line column next ≡ q

no_limit : (is_full : Bool) (selections : List (Option (List Name))) (p : Pending) (s : Shape) (deep : Bool) → (if deep then Some TooDeep else limit_fault is_full selections p.position.state p.draft s) ≡ None
    → (limit_fault is_full selections p.position.state p.draft s ≡ None) × (deep ≡ false)
no_limit is_full selections p s true h = absurd cc
no_limit is_full selections p s false h = (h, refl)

none_stands : (is_full : Bool) (selections : List (Option (List Name))) (p : Pending) (s : Shape) (breaks : Bool) (o : Option Position) → (if breaks then Some BadConclude else fault_before is_full selections p s o) ≡ None
    → (breaks ≡ false) × (limit_fault is_full selections p.position.state p.draft s ≡ None) × (next : Position) × (o ≡ Some next) × (is_too_deep next ≡ false)
none_stands is_full selections p s true o h = absurd cc
none_stands is_full selections p s false None h = absurd cc
none_stands is_full selections p s false (Some next) h = let k = no_limit is_full selections p s (is_too_deep next) h in (refl, k.0, next, refl, k.1)

no_fault_met : (p : Pending) (s : Shape) (line column : ℕ) (q : Pending) (fault : Option ReadKind) → taken fault p s line column ≡ Ok q → (fault ≡ None) × (with_token p s line column (position_or p.position (step p.position s)) ≡ q)
no_fault_met p s line column q None e = (refl, cc)
no_fault_met p s line column q (Some kind) e = absurd cc

-- no fault stands at a token that was taken
pub took_no_fault : (is_full : Bool) (selections : List (Option (List Name))) (p : Pending) (s : Shape) (line column : ℕ) (q : Pending) → take is_full selections p s line column ≡ Ok q → fault_here is_full selections p s ≡ None
unfolding take
took_no_fault is_full selections p s line column q e = (no_fault_met p s line column q (fault_here is_full selections p s) e).0

was_refused : (p : Pending) (s : Shape) (line column : ℕ) (kind : ReadKind) (fault : Option ReadKind) → taken fault p s line column ≡ Err kind → fault ≡ Some kind
was_refused p s line column kind None e = absurd cc
was_refused p s line column kind (Some other) e = cc

-- the fault that is answered for a token stands there
pub took_fault : (is_full : Bool) (selections : List (Option (List Name))) (p : Pending) (s : Shape) (line column : ℕ) (kind : ReadKind) → take is_full selections p s line column ≡ Err kind → fault_here is_full selections p s ≡ Some kind
unfolding take
took_fault is_full selections p s line column kind e = was_refused p s line column kind (fault_here is_full selections p s) e

-- a token that was taken was no fault
pub was_taken : (is_full : Bool) (selections : List (Option (List Name))) (p : Pending) (s : Shape) (line column : ℕ) (q : Pending) → take is_full selections p s line column ≡ Ok q → Took is_full selections p s line column q
unfolding take
was_taken is_full selections p s line column q e =
    let w = no_fault_met p s line column q (fault_here is_full selections p s) e in
    let n = none_stands is_full selections p s (breaks_item p.position.state p s) (step p.position s) w.0 in
    record { next = n.2; leads = n.3; whole = n.0; shallow = n.4; room = n.1; is = ap (λ o. with_token p s line column (position_or p.position o)) (sym n.3) ∙ w.1 }
