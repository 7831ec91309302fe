-- What clap adds at the end: the value `false` for each flag that was not given.
use Rattle.std.proofs.Common.{◌≡◌, ◌||◌, ◌+◌, ℕ, Bool, cond, true, false, List, [], ◌∷◌, ◌++◌, fold, Option, Some, None, is_some, refl, sym, ap, ap₂, ◌∙◌, subst, append_assoc, append-nil}
use Rattle.std.specs.Prelude.{codes, find, option_map, option_and_then, slice_get}
use Rattle.std.specs.Option.{option_map_or}
use Rattle.std.specs.Str.{bytes_eq}
use Rattle.std.proofs.lemmas.Bool.{cond-true, or_right, true≢false}
use Rattle.std.proofs.lemmas.List.Folds.{list_any-append}
use Rattle.std.proofs.lemmas.Slice.Eq.{bytes_eq-Decides}
use Rattle.clap.specs.Facts.{explicit_source}
use Rattle.clap.specs.Values.{reading_of}
use Rattle.clap.specs.Walk.{is_empty, Row, Rule, first_of, has_row, more_values, with_default}
use Rattle.clap.specs.Takes.{is_given}
use Rattle.clap.specs.Kinds.{Kinds, or_else}
use Rattle.clap.specs.Faults.{default_fault, defaults_fault, given_default_fault}
use Rattle.clap.specs.declared.builder.value_parser.ValueParser.TheVariants as parser
use Rattle.clap.specs.declared.parser.matches.ValueSource.TheVariants.{DefaultValue}
use Rattle.command_words.specs.Given.{Word, Values, Row as OptionRow, completed, flag, flags_off, value_of}
use Rattle.command_words.proofs.Rules.{built_option, built_place, built_rules, places_from, row_of}
use Rattle.command_words.proofs.Settling.{at_no_row, has_row-rows, row, rows}

-- an argument with no default
kept : (all : List Row) (rule : Rule) → rule.defaults ≡ [] → with_default all rule ≡ all
kept all rule none = rw none (go (has_row rule.id all))
  where
    go : (b : Bool) → cond b all all ≡ all
    go true = refl
    go false = refl

no_default : (all : List Row) (rule : Rule) → rule.defaults ≡ [] → default_fault all rule ≡ []
no_default all rule none = cond-true (has_row rule.id all || is_empty rule.defaults) [] (given_default_fault rule rule.defaults) (or_right (has_row rule.id all) _ (ap is_empty none))

-- no default is refused
option_default : (all : List Row) (name : Word) (takes_value : Bool) → default_fault all (built_option (row_of name takes_value)) ≡ []
option_default all name true = no_default all (built_option (row_of name true)) refl
option_default all name false = go (has_row name all)
  where
    go : (b : Bool) → ◌≡◌ {A = Kinds} (cond (b || false) [] []) []
    go true = refl
    go false = refl

place_faults : (all : List Row) (i : ℕ) (places : List Word) → defaults_fault all (places_from i places) ≡ []
unfolding defaults_fault
place_faults all i [] = refl
place_faults all i (place ∷ places) = ap₂ or_else (no_default all (built_place i place) refl) (place_faults (with_default all (built_place i place)) (i + 1) places)

pub no_faults : (all : List Row) (options : List OptionRow) (places : List Word) → defaults_fault all (built_rules options places) ≡ []
unfolding defaults_fault
no_faults all [] places = place_faults all 1 places
no_faults all (option ∷ options) places = ap₂ or_else (option_default all option.name option.takes_value) (no_faults (with_default all (built_option option)) options places)

-- the row of a flag that was not given
abbrev off : Word → Row
off name = record { id = name; values = codes "false" ∷ []; count = None; source = Some DefaultValue; reading = reading_of parser.Bool }

flag_off : (all : List Row) (name : Word) → has_row name all ≡ false → with_default all (built_option (flag name)) ≡ all ++ off name ∷ []
flag_off all name none = rw none (at_no_row name (more_values DefaultValue (codes "false" ∷ [])) (off name ∷ []) all none)

-- ---- what is given stays so

is_given-off : (all : List Row) (name id : Word) → is_given id (all ++ off name ∷ []) ≡ is_given id all
is_given-off [] name id = go (bytes_eq name id)
  where
    go : (b : Bool) → option_map_or (λ r. explicit_source r.source) (cond b (Some (off name)) None) false ≡ false
    go true = refl
    go false = refl
is_given-off (r ∷ all) name id = go (bytes_eq r.id id) (is_given-off all name id)
  where
    go : (b : Bool) → is_given id (all ++ off name ∷ []) ≡ is_given id all
        → option_map_or (λ s. explicit_source s.source) (cond b (Some r) (find (λ s. bytes_eq s.id id) (all ++ off name ∷ []))) false ≡ option_map_or (λ s. explicit_source s.source) (cond b (Some r) (find (λ s. bytes_eq s.id id) all)) false
    go true rest = refl
    go false rest = rest

is_given-flag : (all : List Row) (name id : Word) (b : Bool) → has_row name all ≡ b → is_given id (with_default all (built_option (flag name))) ≡ is_given id all
is_given-flag all name id true some = rw some refl
is_given-flag all name id false none = ap (is_given id) (flag_off all name none) ∙ is_given-off all name id

is_given-option : (all : List Row) (name id : Word) (takes_value : Bool) → is_given id (with_default all (built_option (row_of name takes_value))) ≡ is_given id all
is_given-option all name id true = ap (is_given id) (kept all (built_option (row_of name true)) refl)
is_given-option all name id false = is_given-flag all name id (has_row name all) refl

finished_places : (all : List Row) (i : ℕ) (places : List Word) → fold with_default all (places_from i places) ≡ all
finished_places all i [] = refl
finished_places all i (place ∷ places) = ap (λ r. fold with_default r (places_from (i + 1) places)) (kept all (built_place i place) refl) ∙ finished_places all (i + 1) places

pub is_given-finished : (all : List Row) (options : List OptionRow) (places : List Word) (id : Word) → is_given id (fold with_default all (built_rules options places)) ≡ is_given id all
is_given-finished all [] places id = ap (is_given id) (finished_places all 1 places)
is_given-finished all (option ∷ options) places id = is_given-finished (with_default all (built_option option)) options places id ∙ is_given-option all option.name id option.takes_value

-- ---- the values at the end

-- the rows have these values
pub record Show (all : List Row) (values : Values) : Type 0 where
  pub has : (id : Word) → has_row id all ≡ is_some (value_of id values)
  pub first : (id : Word) → first_of id all ≡ value_of id values

first_of-rows : (id : Word) (values : Values) → first_of id (rows values) ≡ value_of id values
first_of-rows id [] = refl
first_of-rows id (value ∷ values) = go (bytes_eq value.0 id) (first_of-rows id values)
  where
    go : (b : Bool) → first_of id (rows values) ≡ value_of id values
        → option_and_then (λ r. slice_get r.values 0) (cond b (Some (row value)) (find (λ r. bytes_eq r.id id) (rows values))) ≡ option_map (λ v. v.1) (cond b (Some value) (find (λ v. bytes_eq v.0 id) values))
    go true rest = refl
    go false rest = rest

pub Show-rows : (values : Values) → Show (rows values) values
Show-rows values = record { has = λ id. has_row-rows id values; first = λ id. first_of-rows id values }

first_of-append : (id : Word) (all more : List Row) → first_of id (all ++ more) ≡ cond (has_row id all) (first_of id all) (first_of id more)
first_of-append id [] more = refl
first_of-append id (r ∷ all) more = go (bytes_eq r.id id) (first_of-append id all more)
  where
    go : (b : Bool) → first_of id (all ++ more) ≡ cond (has_row id all) (first_of id all) (first_of id more)
        → option_and_then (λ s. slice_get s.values 0) (cond b (Some r) (find (λ s. bytes_eq s.id id) (all ++ more)))
        ≡ cond (b || has_row id all) (option_and_then (λ s. slice_get s.values 0) (cond b (Some r) (find (λ s. bytes_eq s.id id) all))) (first_of id more)
    go true rest = refl
    go false rest = rest

value_of-append : (id : Word) (values more : Values) → value_of id (values ++ more) ≡ cond (is_some (value_of id values)) (value_of id values) (value_of id more)
value_of-append id [] more = refl
value_of-append id (value ∷ values) more = go (bytes_eq value.0 id) (value_of-append id values more)
  where
    go : (b : Bool) → value_of id (values ++ more) ≡ cond (is_some (value_of id values)) (value_of id values) (value_of id more)
        → option_map (λ v. v.1) (cond b (Some value) (find (λ v. bytes_eq v.0 id) (values ++ more)))
        ≡ cond (is_some (option_map (λ v. v.1) (cond b (Some value) (find (λ v. bytes_eq v.0 id) values)))) (option_map (λ v. v.1) (cond b (Some value) (find (λ v. bytes_eq v.0 id) values))) (value_of id more)
    go true rest = refl
    go false rest = rest

is_some-or : (a b : Option Word) → is_some (cond (is_some a) a b) ≡ (is_some a || is_some b)
is_some-or None b = refl
is_some-or (Some v) b = refl

Show-append : (all more : List Row) (values others : Values) → Show all values → Show more others → Show (all ++ more) (values ++ others)
Show-append all more values others here there = record {
  has = λ id.
      list_any-append (λ r. bytes_eq r.id id) all more
      ∙ (ap₂ (λ a b. a || b) (here.has id) (there.has id) ∙ (sym (is_some-or (value_of id values) (value_of id others)) ∙ ap is_some (sym (value_of-append id values others))));
  first = λ id.
      first_of-append id all more
      ∙ (ap (λ b. cond b (first_of id all) (first_of id more)) (here.has id)
      ∙ (ap₂ (λ a b. cond (is_some (value_of id values)) a b) (here.first id) (there.first id) ∙ sym (value_of-append id values others)));
}

abbrev value_if : Bool → Word × Word → Option Word
value_if b value = option_map (λ v. v.1) (cond b (Some value) None)

Show-off : (name : Word) → Show (off name ∷ []) ((name, codes "false") ∷ [])
Show-off name = record { has = λ id. has (bytes_eq name id); first = λ id. first (bytes_eq name id) }
  where
    has : (b : Bool) → (b || false) ≡ is_some (value_if b (name, codes "false"))
    has true = refl
    has false = refl

    first : (b : Bool) → option_and_then (λ r. slice_get r.values 0) (cond b (Some (off name)) None) ≡ value_if b (name, codes "false")
    first true = refl
    first false = refl

-- a second value of a name does not count
hidden : (values : Values) (name value id : Word) → is_some (value_of name values) ≡ true → value_of id (values ++ (name, value) ∷ []) ≡ value_of id values
hidden values name value id some = value_of-append id values ((name, value) ∷ []) ∙ go (value_of id values) refl
  where
    none_there : (b : Bool) → bytes_eq name id ≡ b → value_of id values ≡ None → value_if b (name, value) ≡ None
    none_there true is none = absurd (true≢false (sym some ∙ (ap (λ n. is_some (value_of n values)) ((bytes_eq-Decides name id).0 is) ∙ ap is_some none)))
    none_there false is none = refl

    go : (o : Option Word) → value_of id values ≡ o → cond (is_some o) o (value_of id ((name, value) ∷ [])) ≡ o
    go None is = none_there (bytes_eq name id) refl is
    go (Some v) is = refl

Show-flag : (all : List Row) (values : Values) (name : Word) (b : Bool) → has_row name all ≡ b → Show all values → Show (with_default all (built_option (flag name))) (values ++ (name, codes "false") ∷ [])
Show-flag all values name false none here = subst (λ r. Show r (values ++ (name, codes "false") ∷ [])) (sym (flag_off all name none)) (Show-append all (off name ∷ []) values ((name, codes "false") ∷ []) here (Show-off name))
Show-flag all values name true some here =
    let stays : with_default all (built_option (flag name)) ≡ all = rw some refl in
    let given : is_some (value_of name values) ≡ true = sym (here.has name) ∙ some in
    subst (λ r. Show r (values ++ (name, codes "false") ∷ [])) (sym stays)
    (record {
      has = λ id. here.has id ∙ ap is_some (sym (hidden values name (codes "false") id given));
      first = λ id. here.first id ∙ sym (hidden values name (codes "false") id given);
    })

finished_option : (name : Word) (takes_value : Bool) (options : List OptionRow) (places : List Word)
    → ((all : List Row) (values : Values) → Show all values → Show (fold with_default all (built_rules options places)) (completed options values))
    → (all : List Row) (values : Values) → Show all values → Show (fold with_default all (built_rules (row_of name takes_value ∷ options) places)) (completed (row_of name takes_value ∷ options) values)
finished_option name true options places rest all values here =
    rest (with_default all (built_option (row_of name true))) values (subst (λ r. Show r values) (sym (kept all (built_option (row_of name true)) refl)) here)
finished_option name false options places rest all values here =
    subst (Show (fold with_default all (built_rules (flag name ∷ options) places))) (append_assoc values ((name, codes "false") ∷ []) (flags_off options))
    (rest (with_default all (built_option (flag name))) (values ++ (name, codes "false") ∷ []) (Show-flag all values name (has_row name all) refl here))

pub Show-finished : (options : List OptionRow) (places : List Word) (all : List Row) (values : Values) → Show all values → Show (fold with_default all (built_rules options places)) (completed options values)
Show-finished [] places all values here =
    subst (Show (fold with_default all (places_from 1 places))) (sym (append-nil values)) (subst (λ r. Show r values) (sym (finished_places all 1 places)) here)
Show-finished (option ∷ options) places all values here = finished_option option.name option.takes_value options places (Show-finished options places) all values here
