-- Clap takes the words of a command exactly where they give values to its options and places, and then has these values.
use Rattle.std.proofs.Common.{◌≡◌, ◌⊎◌, ◌&&◌, ◌||◌, ◌<◌, ◌+◌, ℕ, Bool, cond, true, false, not, List, [], ◌∷◌, ◌++◌, map, length, fold, Option, Some, None, is_some, refl, sym, ap, ap₂, ◌∙◌, subst, ⊎_elim, append-nil, unwrap_or, Contains, nat_lt}
use Rattle.std.specs.Prelude.{find, option_map}
use Rattle.std.specs.List.{AllByRecursion, filter_map, list_any, list_all}
use Rattle.std.specs.Option.{option_map_or}
use Rattle.std.specs.Str.{bytes_eq, IsUtf8}
use Rattle.std.proofs.lemmas.Bool.{true≢false, cond-true, or_cases, or_from, or_left, or_parts, or_right, and_parts, false_from_ne_true, ltb-true, not-true}
use Rattle.std.proofs.lemmas.List.{map-append}
use Rattle.std.proofs.lemmas.List.Folds.{list_any-append}
use Rattle.std.proofs.lemmas.Slice.Eq.{bytes_eq-Decides}
use Rattle.clap.specs.Facts.{explicit_source}
use Rattle.clap.specs.Walk.{is_empty, Held, Row, Rule, has_row, nothing_held, rows_after, settled, walk, with_default}
use Rattle.clap.specs.Simple.{App, Shape, built, entered, matches_of, names_of}
use Rattle.clap.specs.Takes.{is_given}
use Rattle.clap.specs.Kinds.{Kinds, or_else}
use Rattle.clap.specs.Faults.{built_fault, default_fault, defaults_fault, entered_fault, fault_of, given_default_fault, level_fault, settle_fault, walk_fault}
use Rattle.clap.specs.declared.error.kind.ErrorKind.TheVariants as error
use Rattle.command_words.specs.Clap.{app, are_apart, are_names, is_option_name}
use Rattle.command_words.specs.Given.{Word, Values, Row as OptionRow, Argument, Pair, Joined, Flag, Placed, completed, flags_off, given, filled, takes_value_of, IsProper, Give, AreOnce, value_of}
use Rattle.command_words.proofs.Rules.{built_option, built_place, built_rules, all_filled, is_among, some_option, row_names, places_from}
use Rattle.command_words.proofs.Reading.{Read, reading}
use Rattle.command_words.proofs.Settling.{Fresh, Outcome, held, row, rows}
use Rattle.command_words.proofs.Defaults.{Show, Show-finished, Show-rows, is_given-finished, no_faults}
use Rattle.command_words.proofs.Walking.{AreApart, fault_from, end_from, at, stands, top, or_else_assoc, some_fault}
use Rattle.command_words.proofs.Grammar.{AreOptionNames, IsOptionName, Lacks-from_test, Part, part_read, read_part}
use Rattle.clap.specs.Walk.{idle}

-- ---- names of values

abbrev names : Values → List Word
names = map (λ value. value.0)

given_name : (name : Word) (values : Values) → is_some (value_of name values) ≡ is_among (names values) name
given_name name [] = refl
given_name name (value ∷ values) = go (bytes_eq value.0 name) (given_name name values)
  where
    go : (b : Bool) → is_some (value_of name values) ≡ is_among (names values) name
        → is_some (option_map (λ v. v.1) (cond b (Some value) (find (λ v. bytes_eq v.0 name) values))) ≡ (b || is_among (names values) name)
    go true rest = refl
    go false rest = rest

none_given : (name : Word) (values : Values) → is_among (names values) name ≡ false → value_of name values ≡ None
none_given name values none = go (value_of name values) (given_name name values ∙ none)
  where
    go : (o : Option Word) → is_some o ≡ false → o ≡ None
    go None e = refl
    go (Some v) e = absurd (true≢false e)

none_named : (name : Word) (values : Values) → value_of name values ≡ None → is_among (names values) name ≡ false
none_named name values none = sym (given_name name values) ∙ ap is_some none

names_more : (before : Values) (value : Word × Word) (name : Word) → is_among (names (before ++ value ∷ [])) name ≡ (is_among (names before) name || (bytes_eq value.0 name || false))
names_more before value name = ap (λ all. is_among all name) (map-append (λ v. v.0) before (value ∷ [])) ∙ list_any-append (λ option. bytes_eq option name) (names before) (value.0 ∷ [])

same : (name : Word) → bytes_eq name name ≡ true
same name = (bytes_eq-Decides name name).1 refl

-- values that are new have other names than those before
fresh_apart : (before values : Values) → Fresh before values → (name : Word) → is_among (names before) name ≡ true → is_among (names values) name ≡ false
fresh_apart before [] fresh name among = refl
fresh_apart before (value ∷ values) fresh name among =
    let other : bytes_eq value.0 name ≡ false =
    false_from_ne_true (bytes_eq value.0 name) (λ is.
    let none : is_among (names before) name ≡ false = ap (is_among (names before)) (sym ((bytes_eq-Decides value.0 name).0 is)) ∙ none_named value.0 before fresh.0 in
    true≢false (sym among ∙ none)) in
    or_from (bytes_eq value.0 name) _ other (fresh_apart (before ++ value ∷ []) values fresh.1 name (names_more before value name ∙ or_left _ _ among))

fresh_once : (before values : Values) → Fresh before values → AreOnce values
fresh_once before [] fresh = tt
fresh_once before (value ∷ values) fresh = (
  none_given value.0 values (fresh_apart (before ++ value ∷ []) values fresh.1 value.0 (names_more before value value.0 ∙ or_right (is_among (names before) value.0) _ (or_left _ false (same value.0)))),
  fresh_once (before ++ value ∷ []) values fresh.1,
)

once_fresh : (before values : Values) → AreOnce values → ((name : Word) → is_among (names before) name ≡ true → is_among (names values) name ≡ false) → Fresh before values
once_fresh before [] once apart = tt
once_fresh before (value ∷ values) once apart =
    let new : is_among (names before) value.0 ≡ false =
    false_from_ne_true (is_among (names before) value.0) (λ is. true≢false (sym (same value.0) ∙ (or_parts (bytes_eq value.0 value.0) _ (apart value.0 is)).0)) in
    let later : (name : Word) → (is_among (names before) name ≡ true) ⊎ ((bytes_eq value.0 name || false) ≡ true) → is_among (names values) name ≡ false =
    λ name among. ⊎_elim (λ is. (or_parts (bytes_eq value.0 name) _ (apart name is)).1)
    (λ is. let is_it : value.0 ≡ name = (bytes_eq-Decides value.0 name).0 (⊎_elim (λ e. e) (λ e. absurd (true≢false (sym e))) (or_cases (bytes_eq value.0 name) false is)) in
    ap (is_among (names values)) (sym is_it) ∙ none_named value.0 values once.0) among in
    (none_given value.0 before new, once_fresh (before ++ value ∷ []) values once.1 (λ name among. later name (or_cases (is_among (names before) name) _ (sym (names_more before value name) ∙ among))))

-- ---- the places that are filled

-- a name that is no option's, and no filled place's, has no value
module _ (options : List OptionRow) (name : Word) (none_has : is_among (row_names options) name ≡ false) where
  other : (option : Word) (takes_value : Bool) → takes_value_of options option ≡ Some takes_value → bytes_eq option name ≡ false
  other option takes_value among =
      false_from_ne_true (bytes_eq option name) (λ is. true≢false (sym (some_option options option takes_value among) ∙ (ap (is_among (row_names options)) ((bytes_eq-Decides option name).0 is) ∙ none_has)))

  unnamed : (arguments : List Argument) (rest : Values) → AllByRecursion (IsProper options) arguments → is_among (filter_map filled arguments ++ names rest) name ≡ false → is_among (names (map given arguments ++ rest)) name ≡ false
  unnamed [] rest proper none = none
  unnamed (Pair option value ∷ arguments) rest proper none = or_from (bytes_eq option name) _ (other option true proper.0.0) (unnamed arguments rest proper.1 none)
  unnamed (Joined option value ∷ arguments) rest proper none = or_from (bytes_eq option name) _ (other option true proper.0) (unnamed arguments rest proper.1 none)
  unnamed (Flag option ∷ arguments) rest proper none = or_from (bytes_eq option name) _ (other option false proper.0) (unnamed arguments rest proper.1 none)
  unnamed (Placed place value ∷ arguments) rest proper none =
      let parts = or_parts (bytes_eq place name) _ none in
      or_from (bytes_eq place name) _ parts.0 (unnamed arguments rest proper.1 parts.1)

filled_named : (arguments : List Argument) (rest : Values) (name : Word) → is_among (filter_map filled arguments ++ names rest) name ≡ true → is_among (names (map given arguments ++ rest)) name ≡ true
filled_named [] rest name among = among
filled_named (Pair option value ∷ arguments) rest name among = or_right (bytes_eq option name) _ (filled_named arguments rest name among)
filled_named (Joined option value ∷ arguments) rest name among = or_right (bytes_eq option name) _ (filled_named arguments rest name among)
filled_named (Flag option ∷ arguments) rest name among = or_right (bytes_eq option name) _ (filled_named arguments rest name among)
filled_named (Placed place value ∷ arguments) rest name among = ⊎_elim (λ is. or_left (bytes_eq place name) _ is) (λ is. or_right (bytes_eq place name) _ (filled_named arguments rest name is)) (or_cases (bytes_eq place name) _ among)

covered : (all some : List Word) → ((name : Word) → is_among some name ≡ true → is_among all name ≡ true) → list_any (λ place. not (is_among all place)) some ≡ false
covered all [] among = refl
covered all (first ∷ some) among =
    let here : is_among all first ≡ true = among first (or_left (bytes_eq first first) _ (same first)) in
    rw here (covered all some (λ name is. among name (or_right (bytes_eq first name) _ is)))

uncovered : (all used left : List Word) (place : Word) → is_among all place ≡ false → list_any (λ p. not (is_among all p)) (used ++ place ∷ left) ≡ true
uncovered all [] left place none = rw none refl
uncovered all (first ∷ used) left place none = or_right (not (is_among all first)) _ (uncovered all used left place none)

-- ---- the places that clap wants

is_given-rows : (name : Word) (values : Values) → is_given name (rows values) ≡ is_among (names values) name
is_given-rows name [] = refl
is_given-rows name (value ∷ values) = go (bytes_eq value.0 name) (is_given-rows name values)
  where
    go : (b : Bool) → is_given name (rows values) ≡ is_among (names values) name
        → option_map_or (λ r. explicit_source r.source) (cond b (Some (row value)) (find (λ r. bytes_eq r.id name) (rows values))) false ≡ (b || is_among (names values) name)
    go true rest = refl
    go false rest = rest

wanted_places : (i : ℕ) (places : List Word) (values : Values) → list_any (λ a. a.required && not (is_given a.id (rows values))) (places_from i places) ≡ list_any (λ place. not (is_among (names values) place)) places
wanted_places i [] values = refl
wanted_places i (place ∷ places) values = ap₂ (λ a b. not a || b) (is_given-rows place values) (wanted_places (i + 1) places values)

wanted : (options : List OptionRow) (places : List Word) (values : Values) → list_any (λ a. a.required && not (is_given a.id (rows values))) (built_rules options places) ≡ list_any (λ place. not (is_among (names values) place)) places
wanted [] places values = wanted_places 1 places values
wanted (option ∷ options) places values = wanted options places values

-- ---- the faults of a command

abbrev pub base : Word → Shape
base name = (built (app name [] [])).top

abbrev pub ready : Word → List OptionRow → List Word → App
ready name options places = record { top = top (base name) options places; subs = [] }

pub built_ready : (name : Word) (options : List OptionRow) (places : List Word) → length places < 10 → built (app name options places) ≡ ready name options places
built_ready name options places few =
    ap (λ all. record { top = record (base name) { rules = all; args_override_self = false; is_leaf = true }; subs = [] }) (all_filled options places few)

entered_none : (t : Shape) (stop : Option (Word × List Word)) → entered (record { top = t; subs = [] }) stop ≡ None
entered_none t None = refl
entered_none t (Some p) = refl

entered_fault_none : (t : Shape) (stop : Option (Word × List Word)) → entered_fault (record { top = t; subs = [] }) stop ≡ []
entered_fault_none t None = refl
entered_fault_none t (Some p) = refl

abbrev missing : Bool → Kinds
missing b = cond b (error.MissingRequiredArgument ∷ []) []

module _ (name : Word) (options : List OptionRow) (places words : List Word) (bin : Word) where
  abbrev end : Held
  end = end_from (base name) options places (at (base name) options places (held [] None) idle 1 false) words

  abbrev walk_faults : Kinds
  walk_faults = fault_from (base name) options places (at (base name) options places (held [] None) idle 1 false) words

  abbrev c : List Rule
  c = built_rules options places

  abbrev wants : List Row → Bool
  wants all = list_any (λ a. a.required && not (is_given a.id all)) c

  wants_same : (all : List Row) → wants (fold with_default all c) ≡ wants all
  wants_same all = λ i. list_any (λ a. a.required && not (is_given-finished all options places a.id i)) c

  level : level_fault (top (base name) options places) [] nothing_held words false [] ≡ or_else walk_faults (missing (wants (settled c end).rows))
  level =
      let ended : List Row = (settled c end).rows in
      sym (or_else_assoc (walk_fault (top (base name) options places) [] (at (base name) options places (held [] None) idle 1 false) words) (settle_fault c false end)
      (or_else (defaults_fault ended c) (missing (wants (fold with_default ended c)))))
      ∙ ap₂ (λ d w. or_else walk_faults (or_else d (missing w))) (no_faults ended options places) (wants_same ended)

  fault_is : length places < 10 → fault_of (app name options places) (bin ∷ words) ≡ or_else walk_faults (missing (wants (settled c end).rows))
  fault_is few =
      let stop : Option (Word × List Word) = (walk c [] nothing_held words).stopped in
      ap (λ a. built_fault a nothing_held words) (built_ready name options places few)
      ∙ (ap₂ (λ o f. level_fault (top (base name) options places) [] nothing_held words (is_some o) f) (entered_none (top (base name) options places) stop) (entered_fault_none (top (base name) options places) stop) ∙ level)

  matches_are : length places < 10 → matches_of (app name options places) (bin ∷ words) ≡ fold with_default (settled c end).rows c
  matches_are few = ap (λ a. rows_after a.top.rules (names_of a) words) (built_ready name options places few)

-- ---- the names of options and places

option_names : (options : List Word) → list_all is_option_name options ≡ true → (name : Word) → is_among options name ≡ true → IsOptionName name
option_names [] named name among = absurd (true≢false (sym among))
option_names (option ∷ options) named name among =
    let parts = and_parts (is_option_name option) _ named in
    ⊎_elim (λ is. subst IsOptionName ((bytes_eq-Decides option name).0 is) (go option parts.0)) (option_names options parts.1 name) (or_cases (bytes_eq option name) _ among)
  where
    go : (option : Word) → is_option_name option ≡ true → IsOptionName option
    go [] is = absurd (true≢false (sym is))
    go (head ∷ tail) is = record { head = head; tail = tail; name_is = refl; lacks = Lacks-from_test (head ∷ tail) (not-true _ is) }

apart_from : (taken places : List Word) → are_apart taken places ≡ true → (used left : List Word) (place : Word) → used ++ place ∷ left ≡ places → (is_among taken place ≡ false) × (is_among used place ≡ false)
apart_from taken [] are [] left place is = let n : place ∷ left ≡ [] = is in absurd (cc)
apart_from taken [] are (first ∷ used) left place is = let n : first ∷ (used ++ place ∷ left) ≡ [] = is in absurd (cc)
apart_from taken (head ∷ places) are [] left place is =
    let head_is : place ≡ head = let n : place ∷ left ≡ head ∷ places = is in cc in
    (ap (is_among taken) head_is ∙ not-true _ (and_parts (not (is_among taken head)) _ are).0, refl)
apart_from taken (head ∷ places) are (first ∷ used) left place is =
    let e : first ∷ (used ++ place ∷ left) ≡ head ∷ places = is in
    let head_is : first ≡ head = cc in
    let tail_is : used ++ place ∷ left ≡ places = cc in
    let rest = apart_from (head ∷ taken) places (and_parts (not (is_among taken head)) _ are).1 used left place tail_is in
    let parts = or_parts (bytes_eq head place) (is_among taken place) rest.0 in
    (parts.1, or_from (bytes_eq first place) _ (ap (λ n. bytes_eq n place) head_is ∙ parts.0) rest.1)

pub record AreNamed (options : List OptionRow) (places : List Word) : Type 0 where
  pub few : length places < 10
  pub option_are : AreOptionNames options
  pub apart : AreApart options places

pub named : (options : List OptionRow) (places : List Word) → are_names options places ≡ true → AreNamed options places
named options places are =
    let first = and_parts (nat_lt (length places) 10) _ are in
    let second = and_parts (list_all is_option_name (row_names options)) _ first.1 in
    let few : length places < 10 = ltb-true _ _ first.0 in
    record {
      few = few;
      option_are = λ name takes_value is. option_names (row_names options) second.0 name (some_option options name takes_value is);
      apart = record { few = few; apart = apart_from (row_names options) places second.1 };
    }

-- ---- the join

or_else_parts : (a b : Kinds) → or_else a b ≡ [] → (a ≡ []) × (b ≡ [])
or_else_parts [] b none = (refl, none)
or_else_parts (k ∷ ks) b none = absurd (some_fault k ks none)

missing_none : (b : Bool) → missing b ≡ [] → b ≡ false
missing_none true none = absurd (some_fault _ _ none)
missing_none false none = refl

module _ (name : Word) (options : List OptionRow) (places words : List Word) (bin : Word) (utf8 : AllByRecursion IsUtf8 words) (are : are_names options places ≡ true) where
  abbrev all_named : AreNamed options places
  all_named = named options places are

  start : Outcome (c name options places words bin) [] (reading options words places None) (walk_faults name options places words bin) (end name options places words bin)
  start = (stands (base name) options places all_named.apart words utf8).0 [] None [] places refl tt

  -- all places are filled where clap misses none
  none_left : (values : Values) (left : List Word) → Part options words places values left → list_any (λ place. not (is_among (names values) place)) places ≡ false → left ≡ []
  none_left values [] part none = refl
  none_left values (place ∷ left) part none =
      let rest = unwrap_or part.rest [] in
      let used = filter_map filled part.arguments ++ names rest in
      let apart = all_named.apart.apart used left place part.in_places in
      let unnamed_is : is_among (names values) place ≡ false = ap (λ vs. is_among (names vs) place) part.gives ∙ unnamed options place apart.0 part.arguments rest part.proper apart.1 in
      absurd (true≢false (sym (uncovered (names values) used left place unnamed_is) ∙ (ap (list_any (λ p. not (is_among (names values) p))) part.in_places ∙ none)))

  none_missing : (values : Values) → Part options words places values [] → list_any (λ place. not (is_among (names values) place)) places ≡ false
  none_missing values part =
      let rest = unwrap_or part.rest [] in
      let used = filter_map filled part.arguments ++ names rest in
      ap (list_any (λ p. not (is_among (names values) p))) (sym part.in_places ∙ append-nil used)
      ∙ (ap (λ vs. list_any (λ p. not (is_among (names vs) p)) used) part.gives ∙ covered (names (map given part.arguments ++ rest)) used (filled_named part.arguments rest))

  as_given : (values : Values) → Part options words places values [] → AreOnce values → Give options places words values
  as_given values part once = record {
    arguments = part.arguments;
    rest = part.rest;
    spelled = part.spelled;
    proper = part.proper;
    gives = part.gives;
    once = once;
    in_places = sym (append-nil _) ∙ part.in_places;
  }

  as_part : (values : Values) → Give options places words values → Part options words places values []
  as_part values give = record {
    arguments = give.arguments;
    rest = give.rest;
    spelled = give.spelled;
    proper = give.proper;
    gives = give.gives;
    in_places = append-nil _ ∙ give.in_places;
  }

  pub record IsTaken : Type 0 where
    pub values : Values
    pub give : Give options places words values
    pub shows : Show (matches_of (app name options places) (bin ∷ words)) (completed options values)

  -- what clap takes gives values, which are its matches
  pub taken : fault_of (app name options places) (bin ∷ words) ≡ [] → IsTaken
  taken none = go (reading options words places None) refl start
    where
      parts : (walk_faults name options places words bin ≡ []) × (missing (wants name options places words bin (settled (c name options places words bin) (end name options places words bin)).rows) ≡ [])
      parts = or_else_parts _ _ (sym (fault_is name options places words bin all_named.few) ∙ none)

      done : (values : Values) (left : List Word) → Part options words places values left → Fresh [] values → settled (c name options places words bin) (end name options places words bin) ≡ held values None → IsTaken
      done values left part fresh ends =
          let ended = ap (λ h. h.rows) ends in
          let no_place : list_any (λ place. not (is_among (names values) place)) places ≡ false = sym (wanted options places values) ∙ (ap (wants name options places words bin) (sym ended) ∙ missing_none _ parts.1) in
          let full : Part options words places values [] = subst (Part options words places values) (none_left values left part no_place) part in
          let matched = matches_are name options places words bin all_named.few ∙ ap (λ r. fold with_default r (c name options places words bin)) ended in
          record {
            values = values;
            give = as_given values full (fresh_once [] values fresh);
            shows = subst (λ r. Show r (completed options values)) (sym matched) (Show-finished options places (rows values) values (Show-rows values));
          }

      go : (read : Read) → reading options words places None ≡ read → Outcome (c name options places words bin) [] read (walk_faults name options places words bin) (end name options places words bin) → IsTaken
      go None is fails = absurd (fails parts.0)
      go (Some read) is outcome = done read.0 read.1 (part_read options words places read.1 read.0 is) (outcome.0 parts.0) (outcome.1 (outcome.0 parts.0)).1

  -- words that give values are taken
  pub takes : (values : Values) → Give options places words values → fault_of (app name options places) (bin ∷ words) ≡ []
  takes values give =
      let part = as_part values give in
      let read = read_part options all_named.option_are words places [] values part in
      let outcome : Outcome (c name options places words bin) [] (Some (values, [])) (walk_faults name options places words bin) (end name options places words bin) =
      subst (λ r. Outcome (c name options places words bin) [] r (walk_faults name options places words bin) (end name options places words bin)) read start in
      let fresh = once_fresh [] values give.once (λ n among. absurd (true≢false (sym among))) in
      let passed = outcome.1 fresh in
      let ended = ap (λ h. h.rows) passed.1 in
      fault_is name options places words bin all_named.few
      ∙ ap₂ (λ a b. or_else a (missing b)) passed.0 (ap (wants name options places words bin) ended ∙ (wanted options places values ∙ none_missing values part))

-- words give values in one way
pub one_give : (options : List OptionRow) (places words : List Word) → are_names options places ≡ true → (a b : Values) → Give options places words a → Give options places words b → a ≡ b
one_give options places words are a b first second =
    let option_are = (named options places are).option_are in
    let both : ◌≡◌ {A = Read} (Some (a, [])) (Some (b, [])) = sym (read_part options option_are words places [] a (part_of first)) ∙ read_part options option_are words places [] b (part_of second) in
    let pair : ◌≡◌ {A = Values × List Word} (a, []) (b, []) = cc in
    ap (λ p. p.0) pair
  where
    part_of : {values : Values} → Give options places words values → Part options words places values []
    part_of give = record {
      arguments = give.arguments;
      rest = give.rest;
      spelled = give.spelled;
      proper = give.proper;
      gives = give.gives;
      in_places = append-nil _ ∙ give.in_places;
    }
