-- A fault is answered for a token exactly where a row of the table of faults tells it.
use Rattle.std.proofs.Common.{◌≡◌, ℕ, Bool, List, [], ◌∷◌, ◌++◌, nat_le, Option, Some, Ok, Err, ◌↔◌, refl, sym, ap, subst, append_assoc, append-nil}
use Rattle.mg_word.specs.declared.clause.Name.{Name}
use Rattle.cnf_grammar.specs.Shapes.{Shape}
use Rattle.cnf_reader.specs.declared.fault.ReadKind.{ReadKind}
use Rattle.cnf_reader.specs.declared.pending.Pending.{Pending}
use Rattle.cnf_reader.specs.Meanings.{Written, shapes_of, TakesFront}
use Rattle.cnf_reader.specs.Rows.{FaultAt}
use Rattle.cnf_reader.specs.Statements.{fresh, take, taken, fault_here}
use Rattle.cnf_reader.proofs.RowsMet.{fault_stands, fault_met}
use Rattle.cnf_reader.proofs.Taking.{took_fault}
use Rattle.cnf_reader.proofs.Telling.{Tells, fresh_tells, tells_on}

module _ (is_full : Bool) (selections : List (Option (List Name))) where
  -- what tokens tell is told on by further tokens
  front_tells : (passed : List Shape) (p : Pending) (tokens : List Written) (q : Pending) → Tells is_full selections passed p → TakesFront is_full selections p tokens q → Tells is_full selections (passed ++ shapes_of tokens) q
  front_tells passed p [] q told same = subst (λ u. Tells is_full selections u q) (sym (append-nil passed)) (subst (Tells is_full selections passed) same told)
  front_tells passed p (t ∷ tokens) q told (goes, next, takes, more) =
      subst (λ u. Tells is_full selections u q) (append_assoc passed (t.shape ∷ []) (shapes_of tokens))
      (front_tells (passed ++ t.shape ∷ []) next tokens q (tells_on is_full selections passed p next t.shape t.line t.column told goes takes) more)

answered : (is_full : Bool) (selections : List (Option (List Name))) (p : Pending) (s : Shape) (line column : ℕ) (kind : ReadKind) → fault_here is_full selections p s ≡ Some kind → take is_full selections p s line column ≡ Err kind
unfolding take
answered is_full selections p s line column kind e = ap (λ fault. taken fault p s line column) e

-- behind tokens that were taken
pub rows_tell : (clauses : ℕ) (selections : List (Option (List Name))) (own : List Written) (p : Pending) (token : Written) (kind : ReadKind) → TakesFront (nat_le 20000 clauses) selections fresh own p
    → (take (nat_le 20000 clauses) selections p token.shape token.line token.column ≡ Err kind) ↔ FaultAt clauses selections (shapes_of own) token.shape kind
rows_tell clauses selections own p token kind front =
    let full = nat_le 20000 clauses in
    let tells = front_tells full selections [] fresh own p (fresh_tells full selections) front in (
      λ e. fault_stands full selections (shapes_of own) p tells clauses refl token.shape kind (took_fault full selections p token.shape token.line token.column kind e),
      λ stands. answered full selections p token.shape token.line token.column kind (fault_met full selections (shapes_of own) p tells clauses refl token.shape kind stands),
    )
