-- What clap reads of the options and the places of a command.
use Rattle.std.proofs.Common.{◌≡◌, ◌<◌, ◌+◌, ◌||◌, ℕ, Bool, cond, true, false, List, [], ◌∷◌, ◌++◌, map, length, Option, Some, None, refl, sym, ap, ap₂, ◌∙◌, min, arith}
use Rattle.std.specs.Prelude.{find, option_map}
use Rattle.std.specs.List.{list_any}
use Rattle.std.specs.Str.{bytes_eq}
use Rattle.std.proofs.lemmas.Bool.{eq-eqb, ne_eqb, or_parts}
use Rattle.std.proofs.lemmas.Slice.Eq.{bytes_eq-Decides}
use Rattle.clap.specs.Lexer.{usize_max}
use Rattle.clap.specs.Walk.{Rule, arg_by_id, arg_by_index, arg_by_long, arg_by_short}
use Rattle.clap.specs.Simple.{filled, filled_from, with_index}
use Rattle.command_words.specs.Given.{Word, Row, takes_value_of}
use Rattle.command_words.specs.Clap.{option_rule, place_rule}

abbrev pub rules : List Row → List Word → List Rule
rules options places = map option_rule options ++ map place_rule places

-- the rules of the command when it is built
abbrev pub built_option : Row → Rule
built_option row = filled (option_rule row)

abbrev pub built_place : ℕ → Word → Rule
built_place i name = with_index i (filled (place_rule name))

abbrev pub places_from : ℕ → List Word → List Rule
places_from i [] = []
places_from i (place ∷ places) = built_place i place ∷ places_from (i + 1) places

abbrev pub built_rules : List Row → List Word → List Rule
built_rules options places = map built_option options ++ places_from 1 places

places_filled : (i : ℕ) (places : List Word) → i + length places < usize_max → filled_from i (map place_rule places) ≡ places_from i places
places_filled i [] small = refl
places_filled i (place ∷ places) small =
    let next : min (i + 1) usize_max ≡ i + 1 = omega arith in
    ap (λ rest. built_place i place ∷ rest) (ap (λ k. filled_from k (map place_rule places)) next ∙ places_filled (i + 1) places (omega arith))

pub all_filled : (options : List Row) (places : List Word) → length places < 10 → filled_from 1 (rules options places) ≡ built_rules options places
all_filled [] places small = places_filled 1 places (omega arith)
all_filled (option ∷ options) places small = ap (λ rest. built_option option ∷ rest) (all_filled options places small)

abbrev pub row_names : List Row → List Word
row_names = map (λ row. row.name)

-- the name is among the names
abbrev pub is_among : List Word → Word → Bool
is_among names name = list_any (λ other. bytes_eq other name) names

-- the row of an option that has this name
abbrev pub row_of : Word → Bool → Row
row_of name takes_value = record { name = name; takes_value = takes_value }

abbrev pub option_found : Option Bool → Word → Option Rule
option_found found name = option_map (λ takes_value. built_option (row_of name takes_value)) found

-- a name that no option has
pub no_option : (options : List Row) (name : Word) → is_among (row_names options) name ≡ false → takes_value_of options name ≡ None
no_option [] name none = refl
no_option (option ∷ options) name none =
    let parts = or_parts (bytes_eq option.name name) (is_among (row_names options) name) none in
    rw parts.0 (no_option options name parts.1)

-- a name that an option has
pub some_option : (options : List Row) (name : Word) (takes_value : Bool) → takes_value_of options name ≡ Some takes_value → is_among (row_names options) name ≡ true
some_option [] name takes_value is = let none : ◌≡◌ {A = Option Bool} None (Some takes_value) = is in absurd (cc)
some_option (option ∷ options) name takes_value is = go (bytes_eq option.name name) is (some_option options name takes_value)
  where
    go : (b : Bool) → option_map (λ row. row.takes_value) (cond b (Some option) (find (λ row. bytes_eq row.name name) options)) ≡ Some takes_value
        → (takes_value_of options name ≡ Some takes_value → is_among (row_names options) name ≡ true) → (b || is_among (row_names options) name) ≡ true
    go true is rest = refl
    go false is rest = rest is

-- the option that a long name names
no_long : (i : ℕ) (places : List Word) (name : Word) → arg_by_long (places_from i places) name ≡ None
no_long i [] name = refl
no_long i (place ∷ places) name = no_long (i + 1) places name

pub by_long : (options : List Row) (places : List Word) (name : Word) → arg_by_long (built_rules options places) name ≡ option_found (takes_value_of options name) name
by_long [] places name = no_long 1 places name
by_long (option ∷ options) places name = go (bytes_eq option.name name) refl (by_long options places name)
  where
    go : (b : Bool) → bytes_eq option.name name ≡ b → arg_by_long (built_rules options places) name ≡ option_found (takes_value_of options name) name
        → cond (b || false) (Some (built_option option)) (arg_by_long (built_rules options places) name)
        ≡ option_found (option_map (λ row. row.takes_value) (cond b (Some option) (find (λ row. bytes_eq row.name name) options))) name
    go true is rest = ap (λ word. Some (built_option (row_of word option.takes_value))) ((bytes_eq-Decides option.name name).0 is)
    go false is rest = rest

-- no argument has a short name
no_short : (i : ℕ) (places : List Word) (x : ℕ) → arg_by_short (places_from i places) x ≡ None
no_short i [] x = refl
no_short i (place ∷ places) x = no_short (i + 1) places x

pub by_short : (options : List Row) (places : List Word) (x : ℕ) → arg_by_short (built_rules options places) x ≡ None
by_short [] places x = no_short 1 places x
by_short (option ∷ options) places x = by_short options places x

-- the first place of these
abbrev pub first_place : ℕ → List Word → Option Rule
first_place i [] = None
first_place i (place ∷ places) = Some (built_place i place)

place_at : (i j : ℕ) (filled_places left : List Word) → j ≡ i + length filled_places → arg_by_index (places_from i (filled_places ++ left)) j ≡ first_place j left
place_at i j [] [] at = refl
place_at i j [] (place ∷ left) at =
    let same : i ≡ j = omega arith in
    rw (eq-eqb i j same) (ap (λ k. Some (built_place k place)) same)
place_at i j (place ∷ places) left at =
    let other : i ≡ j → ⊥ = λ is. absurd (omega arith) in
    rw (ne_eqb i j other) (place_at (i + 1) j places left (omega arith))

pub by_index : (options : List Row) (filled_places left : List Word) (j : ℕ) → j ≡ 1 + length filled_places → arg_by_index (built_rules options (filled_places ++ left)) j ≡ first_place j left
by_index [] filled_places left j at = place_at 1 j filled_places left at
by_index (option ∷ options) filled_places left j at = by_index options filled_places left j at

-- an option by its name
pub option_by_id : (options : List Row) (places : List Word) (name : Word) (takes_value : Bool) → takes_value_of options name ≡ Some takes_value
    → arg_by_id (built_rules options places) name ≡ Some (built_option (row_of name takes_value))
option_by_id [] places name takes_value is = let none : ◌≡◌ {A = Option Bool} None (Some takes_value) = is in absurd (cc)
option_by_id (option ∷ options) places name takes_value is = go (bytes_eq option.name name) refl is (option_by_id options places name takes_value)
  where
    go : (b : Bool) → bytes_eq option.name name ≡ b → option_map (λ row. row.takes_value) (cond b (Some option) (find (λ row. bytes_eq row.name name) options)) ≡ Some takes_value
        → (takes_value_of options name ≡ Some takes_value → arg_by_id (built_rules options places) name ≡ Some (built_option (row_of name takes_value)))
        → cond b (Some (built_option option)) (arg_by_id (built_rules options places) name) ≡ Some (built_option (row_of name takes_value))
    go true same is rest =
        let of_value : option.takes_value ≡ takes_value = let e : Some option.takes_value ≡ Some takes_value = is in cc in
        ap₂ (λ word value. Some (built_option (row_of word value))) ((bytes_eq-Decides option.name name).0 same) of_value
    go false same is rest = rest is

-- a place by its name, where no option and no place before it has the name
place_by_id : (i : ℕ) (filled_places left : List Word) (place : Word) → is_among filled_places place ≡ false
    → arg_by_id (places_from i (filled_places ++ place ∷ left)) place ≡ Some (built_place (i + length filled_places) place)
place_by_id i [] left place none =
    rw ((bytes_eq-Decides place place).1 refl) (ap (λ k. Some (built_place k place)) (omega arith))
place_by_id i (first ∷ places) left place none =
    let parts = or_parts (bytes_eq first place) (is_among places place) none in
    rw parts.0 (place_by_id (i + 1) places left place parts.1 ∙ ap (λ k. Some (built_place k place)) (omega arith))

pub by_id : (options : List Row) (filled_places left : List Word) (place : Word) → is_among (row_names options) place ≡ false → is_among filled_places place ≡ false
    → arg_by_id (built_rules options (filled_places ++ place ∷ left)) place ≡ Some (built_place (1 + length filled_places) place)
by_id [] filled_places left place no_option none = place_by_id 1 filled_places left place none
by_id (option ∷ options) filled_places left place no_option none =
    let parts = or_parts (bytes_eq option.name place) (is_among (row_names options) place) no_option in
    rw parts.0 (by_id options filled_places left place parts.1 none)
