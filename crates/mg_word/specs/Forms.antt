-- The arrow forms of clauses, after MGTP and CMGTP, and which of them are range restricted.
use Rattle.std.specs.Prelude.{ℕ, ◌+◌, Bool, true, false, not, nat_eq, List, [], ◌∷◌, ◌++◌, map, length, if◌then◌else◌}
use Rattle.std.specs.List.{list_any, list_all, flat_map}
use Rattle.mg_word.specs.declared.item.Item.{Item}
use Rattle.mg_word.specs.declared.item.Item.TheVariants.{Sym, Var}
use Rattle.mg_word.specs.declared.lit.PatLit.{PatLit}
use Rattle.mg_word.specs.declared.clause.ClauseLit.{ClauseLit}
use Rattle.mg_word.specs.declared.clause.ClauseLit.TheVariants.{True, False, Lit as Literal}
use Rattle.mg_word.specs.declared.clause.Clause.{Clause}
use Rattle.mg_word.specs.declared.form.Form.{Form}

-- the same literal with the other sign
abbrev pub opposite : PatLit → PatLit
opposite lit = record { negative = not lit.negative; pattern = lit.pattern }

-- the atoms of the negative literals, in written order
abbrev pub premises_of : List ClauseLit → List PatLit
premises_of [] = []
premises_of (True ∷ literals) = premises_of literals
premises_of (False ∷ literals) = premises_of literals
premises_of (Literal lit ∷ literals) = if lit.negative then opposite lit ∷ premises_of literals else premises_of literals

-- the positive literals, in written order
abbrev pub conclusions_of : List ClauseLit → List PatLit
conclusions_of [] = []
conclusions_of (True ∷ literals) = conclusions_of literals
conclusions_of (False ∷ literals) = conclusions_of literals
conclusions_of (Literal lit ∷ literals) = if lit.negative then conclusions_of literals else lit ∷ conclusions_of literals

-- the number is one of these
abbrev pub is_among : List ℕ → ℕ → Bool
is_among numbers number = list_any (λ other. nat_eq other number) numbers

-- of literals that are counted from that position: those at the chosen positions, in written order
abbrev pub chosen_from : ℕ → List ℕ → List ClauseLit → List PatLit
chosen_from at chosen [] = []
chosen_from at chosen (True ∷ literals) = chosen_from (at + 1) chosen literals
chosen_from at chosen (False ∷ literals) = chosen_from (at + 1) chosen literals
chosen_from at chosen (Literal lit ∷ literals) =
    if is_among chosen at then lit ∷ chosen_from (at + 1) chosen literals else chosen_from (at + 1) chosen literals

-- the complements of all other literals, in written order
abbrev pub others_from : ℕ → List ℕ → List ClauseLit → List PatLit
others_from at chosen [] = []
others_from at chosen (True ∷ literals) = others_from (at + 1) chosen literals
others_from at chosen (False ∷ literals) = others_from (at + 1) chosen literals
others_from at chosen (Literal lit ∷ literals) =
    if is_among chosen at then others_from (at + 1) chosen literals else opposite lit ∷ others_from (at + 1) chosen literals

-- a clause with a literal that is always true has no form
abbrev pub is_always_true : List ClauseLit → Bool
is_always_true [] = false
is_always_true (True ∷ literals) = true
is_always_true (False ∷ literals) = is_always_true literals
is_always_true (Literal lit ∷ literals) = is_always_true literals

-- negative literals to premises, positive ones to conclusions
abbrev pub plain_form : ℕ → Clause → Form
plain_form index clause = record {
  clause = index;
  variables = length clause.variables;
  premises = premises_of clause.literals;
  conclusions = conclusions_of clause.literals;
}

-- the literals at the chosen positions, counted from 1, are the conclusions
abbrev pub further_form : ℕ → Clause → List ℕ → Form
further_form index clause chosen = record {
  clause = index;
  variables = length clause.variables;
  premises = others_from 1 chosen clause.literals;
  conclusions = chosen_from 1 chosen clause.literals;
}

-- the plain form first, then one for each item that chooses conclusions
abbrev pub clause_forms : ℕ → Clause → List Form
clause_forms index clause =
    if is_always_true clause.literals then [] else plain_form index clause ∷ map (further_form index clause) clause.conclude

-- of clauses that are counted from that index
abbrev pub forms_from : ℕ → List Clause → List Form
forms_from index [] = []
forms_from index (clause ∷ clauses) = clause_forms index clause ++ forms_from (index + 1) clauses

-- the forms of all clauses, clause by clause; form numbers count from 1
abbrev pub forms_of : List Clause → List Form
forms_of clauses = forms_from 0 clauses

-- the variables of an item
abbrev pub item_variables : Item → List ℕ
item_variables (Sym symbol) = []
item_variables (Var variable) = variable ∷ []

abbrev pub pattern_variables : List Item → List ℕ
pattern_variables items = flat_map item_variables items

abbrev pub lits_variables : List PatLit → List ℕ
lits_variables lits = flat_map (λ lit. pattern_variables lit.pattern) lits

-- range restricted: each variable of a conclusion is in a premise
abbrev pub is_restricted : Form → Bool
is_restricted form = list_all (λ variable. is_among (lits_variables form.premises) variable) (lits_variables form.conclusions)
