-- What the steps of forming answer. No public clause cites this module.
use Rattle.std.specs.Prelude.{◌≡◌, ℕ, ◌+◌, ◌≤◌, ◌<◌, true, List, ◌∷◌, ◌++◌, length}
use Rattle.std.specs.List.{list_all}
use Rattle.mg_word.specs.Facts.{most_parts, most_forms}
use Rattle.mg_word.specs.Forms.{is_restricted, clause_forms}
use Rattle.mg_word.specs.declared.clause.Clause.{Clause}
use Rattle.mg_word.specs.declared.form.Form.{Form}
use Rattle.clause_form.specs.Free.{IsLeastFree}
use Rattle.clause_form.specs.Faults.{is_light_clause, IsFirstHeavy}
use Rattle.clause_form.specs.declared.fault.FormFault.{FormFault}
use Rattle.clause_form.specs.declared.fault.FormFault.TheVariants.{TooHeavy, TooManyForms, NotRestricted, NoMemory}

-- the form may not come after so many others
abbrev pub IsRefused : ℕ → Form → FormFault → Type 0
IsRefused count form (TooHeavy index position) = ⊥
IsRefused count form (TooManyForms index) = (index ≡ form.clause) × (count ≡ most_forms)
IsRefused count form (NotRestricted index number variable) =
    (index ≡ form.clause) × (count < most_forms) × (number ≡ count + 1) × IsLeastFree form variable
IsRefused count form NoMemory = Unit {0}

-- some form of the list may not come after so many others and those before it
pub record RefusesForm (count : ℕ) (forms : List Form) (fault : FormFault) : Type 0 where
  pub earlier : List Form
  pub form : Form
  pub later : List Form
  pub forms_are : forms ≡ earlier ++ form ∷ later
  pub restricted : list_all is_restricted earlier ≡ true
  pub refused : IsRefused (count + length earlier) form fault

-- the clause with that index has a literal that is too heavy, or a form that may not come after so many others
abbrev pub RefusesClause : ℕ → ℕ → Clause → FormFault → Type 0
RefusesClause count index clause (TooHeavy at position) = (at ≡ index) × IsFirstHeavy clause.literals position
RefusesClause count index clause (TooManyForms at) = (is_light_clause clause ≡ true) × RefusesForm count (clause_forms index clause) (TooManyForms at)
RefusesClause count index clause (NotRestricted at number variable) =
    (is_light_clause clause ≡ true) × RefusesForm count (clause_forms index clause) (NotRestricted at number variable)
RefusesClause count index clause NoMemory = Unit {0}

-- the clause has no fault, and its forms stand behind the others
pub record IsPushed (old new : List Form) (index : ℕ) (clause : Clause) : Type 0 where
  pub light : is_light_clause clause ≡ true
  pub added : new ≡ old ++ clause_forms index clause
  pub few : length new ≤ most_forms
  pub restricted : list_all is_restricted (clause_forms index clause) ≡ true

-- the literals and the variables of the clause are few enough to be counted
pub record HasFewParts (clause : Clause) : Type 0 where
  pub literals : length clause.literals ≤ most_parts
  pub variables : length clause.variables ≤ most_parts
