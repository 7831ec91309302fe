-- The variables of a form that are in a conclusion and in no premise.
use Rattle.std.specs.Prelude.{◌≡◌, ℕ, ◌<◌, ◌≤◌, Bool, true, false, not, ◌&&◌, List, Option, Some, None, nat_lt, if◌then◌else◌}
use Rattle.mg_word.specs.Forms.{is_among, lits_variables}
use Rattle.mg_word.specs.declared.form.Form.{Form}

-- the variable is in a conclusion and in no premise
abbrev pub is_free : Form → ℕ → Bool
is_free form variable = is_among (lits_variables form.conclusions) variable && not (is_among (lits_variables form.premises) variable)

-- the least of the free variables of a form
pub record IsLeastFree (form : Form) (variable : ℕ) : Type 0 where
  pub free : is_free form variable ≡ true
  pub least : (other : ℕ) → other < variable → is_free form other ≡ false

-- No public clause cites what follows.

-- the least of the numbers from that one on
abbrev pub IsLeastFrom : List ℕ → ℕ → Option ℕ → Type 0
IsLeastFrom numbers from None = (other : ℕ) → from ≤ other → is_among numbers other ≡ false
IsLeastFrom numbers from (Some number) =
    (from ≤ number) × (is_among numbers number ≡ true) × ((other : ℕ) → from ≤ other → other < number → is_among numbers other ≡ false)

-- the lesser of two numbers that may be there
abbrev pub lesser : Option ℕ → Option ℕ → Option ℕ
lesser None b = b
lesser (Some a) None = Some a
lesser (Some a) (Some b) = if nat_lt a b then Some a else Some b
