-- When the clauses of an input give no problem: which fault stands first.
use Rattle.std.specs.Prelude.{◌≡◌, ℕ, ◌+◌, ◌≤◌, Bool, true, false, ◌&&◌, nat_le, List, ◌∷◌, ◌++◌, length}
use Rattle.std.specs.List.{list_all}
use Rattle.mg_word.specs.Facts.{most_forms, is_light_lit}
use Rattle.mg_word.specs.Forms.{forms_of, clause_forms, is_restricted}
use Rattle.mg_word.specs.declared.clause.ClauseLit.{ClauseLit}
use Rattle.mg_word.specs.declared.clause.ClauseLit.TheVariants.{True, False, Lit as Literal}
use Rattle.mg_word.specs.declared.clause.Clause.{Clause}
use Rattle.mg_word.specs.declared.form.Form.{Form}
use Rattle.clause_form.specs.Free.{IsLeastFree}
use Rattle.clause_form.specs.declared.fault.FormFault.{FormFault}
use Rattle.clause_form.specs.declared.fault.FormFault.TheVariants.{TooHeavy, TooManyForms, NotRestricted, NoMemory}

-- the literal is not too heavy
abbrev pub is_light : ClauseLit → Bool
is_light True = true
is_light False = true
is_light (Literal lit) = is_light_lit lit

-- no literal of the clause is too heavy
abbrev pub is_light_clause : Clause → Bool
is_light_clause clause = list_all is_light clause.literals

-- no literal is too heavy, no form is one too many, and each form is restricted
abbrev pub is_faultless : List Clause → Bool
is_faultless clauses =
    list_all is_light_clause clauses && (nat_le (length (forms_of clauses)) most_forms && list_all is_restricted (forms_of clauses))

-- the first literal of a clause that is too heavy, by its position
pub record IsFirstHeavy (literals : List ClauseLit) (position : ℕ) : Type 0 where
  pub before : List ClauseLit
  pub literal : ClauseLit
  pub after : List ClauseLit
  pub literals_are : literals ≡ before ++ literal ∷ after
  pub position_is : position ≡ length before + 1
  pub light : list_all is_light before ≡ true
  pub heavy : is_light literal ≡ false

-- in a clause: too heavy, where the clauses before it have no fault
pub record StandsHeavy (clauses : List Clause) (index position : ℕ) : Type 0 where
  pub before : List Clause
  pub clause : Clause
  pub after : List Clause
  pub clauses_are : clauses ≡ before ++ clause ∷ after
  pub index_is : index ≡ length before
  pub faultless : is_faultless before ≡ true
  pub first : IsFirstHeavy clause.literals position

-- a form by its number, where the clauses before its own have no fault, no literal of its own is too heavy, and its
-- clause's forms before it are restricted and not too many
pub record IsReached (clauses : List Clause) (index number : ℕ) (form : Form) : Type 0 where
  pub before : List Clause
  pub clause : Clause
  pub after : List Clause
  pub clauses_are : clauses ≡ before ++ clause ∷ after
  pub index_is : index ≡ length before
  pub faultless : is_faultless before ≡ true
  pub light : is_light_clause clause ≡ true
  pub earlier : List Form
  pub later : List Form
  pub forms_are : clause_forms index clause ≡ earlier ++ form ∷ later
  pub number_is : number ≡ length (forms_of before) + length earlier + 1
  pub few : number ≤ most_forms + 1
  pub restricted : list_all is_restricted earlier ≡ true

-- the fault is the first that the clauses have; want of memory has no cause in them
abbrev pub Stands : List Clause → FormFault → Type 0
Stands clauses (TooHeavy index position) = StandsHeavy clauses index position
Stands clauses (TooManyForms index) = (form : Form) × IsReached clauses index (most_forms + 1) form
Stands clauses (NotRestricted index number variable) =
    (form : Form) × IsReached clauses index number form × (number ≤ most_forms) × IsLeastFree form variable
Stands clauses NoMemory = Unit {0}
