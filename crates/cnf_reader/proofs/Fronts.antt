-- The tokens of a statement, one more at a time.
use Rattle.std.proofs.Common.{◌≡◌, Bool, true, false, List, [], ◌∷◌, ◌++◌, Option, Ok, refl, sym, subst}
use Rattle.mg_word.specs.declared.clause.Name.{Name}
use Rattle.cnf_reader.specs.declared.pending.Pending.{Pending}
use Rattle.cnf_reader.specs.Statements.{take}
use Rattle.cnf_reader.specs.Meanings.{Written, ends_statement, TakesFront, TakesStatement}

module _ (is_full : Bool) (selections : List (Option (List Name))) where
  -- with one more token, which ends no statement
  pub front_grows : (p : Pending) (tokens : List Written) (q : Pending) (t : Written) (next : Pending) → TakesFront is_full selections p tokens q → ends_statement q.position.state ≡ false → take is_full selections q t.shape t.line t.column ≡ Ok next
      → TakesFront is_full selections p (tokens ++ t ∷ []) next
  front_grows p [] q t next same goes takes =
      (subst (λ (r : Pending). ends_statement r.position.state ≡ false) (sym same) goes, next, subst (λ (r : Pending). take is_full selections r t.shape t.line t.column ≡ Ok next) (sym same) takes, refl)
  front_grows p (first ∷ tokens) q t next (within, then, first_takes, more) goes takes = (within, then, first_takes, front_grows then tokens q t next more goes takes)

  -- with a token that ends the statement, it is whole
  pub front_ends : (p : Pending) (tokens : List Written) (q : Pending) (t : Written) (whole : Pending) → TakesFront is_full selections p tokens q → ends_statement q.position.state ≡ true → take is_full selections q t.shape t.line t.column ≡ Ok whole
      → TakesStatement is_full selections p (tokens ++ t ∷ []) q.position.state whole
  front_ends p [] q t whole same ends takes =
      subst (λ (r : Pending). TakesStatement is_full selections r (t ∷ []) q.position.state whole) (sym same) (refl, ends, takes)
  front_ends p (first ∷ []) q t whole (within, then, first_takes, more) ends takes = (within, then, first_takes, front_ends then [] q t whole more ends takes)
  front_ends p (first ∷ second ∷ tokens) q t whole (within, then, first_takes, more) ends takes = (within, then, first_takes, front_ends then (second ∷ tokens) q t whole more ends takes)
