-- The literals of a set as places, and what a problem asks of its parts as rules.
use Rattle.std.specs.Prelude.{ℕ, suc, ◌+◌, Bool, false, List, [], ◌∷◌, ◌++◌, length, slice_get, Option, None, Some, if◌then◌else◌}
use Rattle.std.specs.List.{filter_map, flat_map}
use Rattle.std.specs.Option.{option_map, option_map_or}
use Rattle.mg_word.specs.Table.{Symbol}
use Rattle.mg_word.specs.Words.{fits, complement_of, lit_instances}
use Rattle.mg_word.specs.Sets.{same_lit, holds}
use Rattle.mg_word.specs.declared.lit.Lit.{Lit}
use Rattle.mg_word.specs.declared.form.Form.{Form}
use Rattle.mg_meaning.specs.Matches.{terms_of}
use Rattle.mg_meaning.specs.Matching.{matches}
use Rattle.minimal_test.specs.declared.rule.Rule.{Rule}

-- the place of a literal in a set, where it is in it
abbrev pub place_of : List Lit → Lit → Option ℕ
place_of [] lit = None
place_of (first ∷ set) lit = if same_lit first lit then Some 0 else option_map suc (place_of set lit)

-- the places of those literals that are in the set
abbrev pub places_of : List Lit → List Lit → List ℕ
places_of set lits = filter_map (place_of set) lits

-- where all of the premises are in a part, one of the conclusions is, so far as they are in the set
abbrev pub rule_of : List Lit → List Lit → List Lit → Rule
rule_of set premises conclusions = record { premises = places_of set premises; conclusions = places_of set conclusions }

-- no part holds a literal and its complement
abbrev pub clash_rules : List Lit → Lit → List Rule
clash_rules set lit = if holds set (complement_of lit) then rule_of set (lit ∷ complement_of lit ∷ []) [] ∷ [] else []

-- no part holds a literal that is none of the problem's
abbrev pub stray_rules : List Symbol → List Lit → Lit → List Rule
stray_rules table set lit = if fits table lit.word then [] else rule_of set (lit ∷ []) [] ∷ []

-- one rule for each instance of a form whose premises are in the set
abbrev pub instance_rule : List Lit → Form → List (Option (List ℕ)) → Rule
instance_rule set form terms = rule_of set (lit_instances (terms_of terms) form.premises) (lit_instances (terms_of terms) form.conclusions)

abbrev pub form_rules : List Symbol → List Lit → Form → List Rule
form_rules table set form = flat_map (λ terms. instance_rule set form terms ∷ []) (matches table form (length form.premises) set)

-- what is asked of a proper part that satisfies a problem with these symbols and forms: not to clash, to be the problem's, to obey each instance, and not to be the whole set
abbrev pub rules_of : List Symbol → List Form → List Lit → List Rule
rules_of table forms set = flat_map (clash_rules set) set ++ (flat_map (stray_rules table set) set ++ (flat_map (form_rules table set) forms ++ rule_of set set [] ∷ []))

-- the choice that a part makes of a set's places
abbrev pub chosen_by : List Lit → List Lit → ℕ → Bool
chosen_by set part place = option_map_or (holds part) (slice_get set place) false

-- the literals that a choice puts in, of literals whose places count from there
abbrev pub chosen_from : (ℕ → Bool) → ℕ → List Lit → List Lit
chosen_from chosen at [] = []
chosen_from chosen at (lit ∷ lits) = (if chosen at then lit ∷ [] else []) ++ chosen_from chosen (at + 1) lits
