-- What clap says of a command with these options and places, and what its matches hold.
use Rattle.std.proofs.Common.{◌≡◌, ◌≢◌, ◌&&◌, ◌+◌, ℕ, Bool, cond, true, false, not, List, [], ◌∷◌, ◌++◌, map, drop, fold, Some, refl, sym, ap, ap₂, ◌∙◌, subst, inl, inr, append_assoc, append-nil}
use Rattle.std.specs.Prelude.{find, option_map, option_and_then, slice_get, string_bytes, String}
use Rattle.std.specs.Global.{Global}
use Rattle.std.specs.List.{AllByRecursion, list_all, list_any}
use Rattle.std.specs.Str.{bytes_eq, IsUtf8}
use Rattle.std.specs.Borrow.{Bor}
use Rattle.std.proofs.lemmas.Bool.{and_from}
use Rattle.std.proofs.lemmas.Str.{IsUtf8-string_bytes}
use Rattle.clap.specs.Matches.{first_value, found_of}
use Rattle.clap.specs.Values.{kind_of}
use Rattle.clap.specs.Walk.{Rule, first_of, is_early_multiple, rows_of}
use Rattle.clap.specs.Simple.{App, HasMatchesOf, Shape, built, is_ready, is_simple, matches_of, new_shape, with_rule}
use Rattle.clap.specs.Kinds.{HasKind}
use Rattle.clap.specs.Faults.{fault_of, is_free_app, is_simple_and_free}
use Rattle.clap.specs.declared.error.Error.{Error}
use Rattle.clap.specs.declared.error.kind.ErrorKind.TheVariants.{OutOfMemory}
use Rattle.clap.specs.declared.parser.matches.ArgMatches.{ArgMatches}
use Rattle.clap.proofs.WalkLemmas.{first_value-rows}
use Rattle.command_words.specs.Clap.{app, are_names, option_rule, place_rule, row_seen}
use Rattle.command_words.specs.Given.{Word, Values, Row, Give, completed, value_of}
use Rattle.command_words.specs.declared.options.OptionRow.{OptionRow}
use Rattle.command_words.proofs.Rules.{built_option, built_place, built_rules, places_from, rules}
use Rattle.command_words.proofs.Joined.{IsTaken, built_ready, named, ready, taken, takes}

abbrev pub texts : List (Bor Word) → List Word
texts = map (λ name. name.now)

abbrev pub rows_seen : List OptionRow → List Row
rows_seen = map row_seen

map-texts : (f : Word → Rule) (all : List (Bor Word)) → map (λ name. f name.now) all ≡ map f (texts all)
map-texts f [] = refl
map-texts f (name ∷ all) = ap (λ rest. f name.now ∷ rest) (map-texts f all)

map-rows : (all : List OptionRow) → map (λ row. option_rule (row_seen row)) all ≡ map option_rule (rows_seen all)
map-rows [] = refl
map-rows (row ∷ all) = ap (λ rest. option_rule (row_seen row) ∷ rest) (map-rows all)

fold_rules : (s : Shape) (added : List Rule) → fold with_rule (record { top = s; subs = [] }) added ≡ record { top = record s { rules = s.rules ++ added }; subs = [] }
fold_rules s [] = ap (λ all. record { top = record s { rules = all }; subs = [] }) (sym (append-nil s.rules))
fold_rules s (rule ∷ added) =
    fold_rules (record s { rules = s.rules ++ rule ∷ [] }) added ∙ ap (λ all. record { top = record s { rules = all }; subs = [] }) (append_assoc s.rules (rule ∷ []) added)

abbrev pub bare : Word → App
bare name = record { top = record (new_shape name) { disable_help_flag = true }; subs = [] }

pub made : (name : Word) (options : List OptionRow) (places : List (Bor Word)) (start half : App) → start ≡ bare name → half ≡ fold with_rule start (map (λ row. option_rule (row_seen row)) options)
    → fold with_rule half (map (λ n. place_rule n.now) places) ≡ app name (rows_seen options) (texts places)
made name options places start half is made_half =
    let first : half ≡ record { top = record (new_shape name) { disable_help_flag = true; rules = map option_rule (rows_seen options) }; subs = [] } =
    made_half ∙ (ap₂ (fold with_rule) is (map-rows options) ∙ fold_rules (record (new_shape name) { disable_help_flag = true }) (map option_rule (rows_seen options))) in
    ap₂ (fold with_rule) first (map-texts place_rule places)
    ∙ fold_rules (record (new_shape name) { disable_help_flag = true; rules = map option_rule (rows_seen options) }) (map place_rule (texts places))

-- ---- the command is simple

module _ (p : Rule → Bool) where
  all_places : ((i : ℕ) (place : Word) → p (built_place i place) ≡ true) → (i : ℕ) (places : List Word) → list_all p (places_from i places) ≡ true
  all_places each i [] = refl
  all_places each i (place ∷ places) = and_from _ _ (each i place) (all_places each (i + 1) places)

  all_built : ((option : Row) → p (built_option option) ≡ true) → ((i : ℕ) (place : Word) → p (built_place i place) ≡ true) → (options : List Row) (places : List Word) → list_all p (built_rules options places) ≡ true
  all_built option_is place_is [] places = all_places place_is 1 places
  all_built option_is place_is (option ∷ options) places = and_from _ _ (option_is option) (all_built option_is place_is options places)

  place_rules : ((place : Word) → p (place_rule place) ≡ true) → (places : List Word) → list_all p (map place_rule places) ≡ true
  place_rules each [] = refl
  place_rules each (place ∷ places) = and_from _ _ (each place) (place_rules each places)

  all_rules : ((option : Row) → p (option_rule option) ≡ true) → ((place : Word) → p (place_rule place) ≡ true) → (options : List Row) (places : List Word) → list_all p (rules options places) ≡ true
  all_rules option_is place_is [] places = place_rules place_is places
  all_rules option_is place_is (option ∷ options) places = and_from _ _ (option_is option) (all_rules option_is place_is options places)

early_places : (n i : ℕ) (places : List Word) → list_any (is_early_multiple n) (places_from i places) ≡ false
early_places n i [] = refl
early_places n i (place ∷ places) = early_places n (i + 1) places

early : (n : ℕ) (options : List Row) (places : List Word) → list_any (is_early_multiple n) (built_rules options places) ≡ false
early n [] places = early_places n 1 places
early n (option ∷ options) places = early n options places

simple_ready : (name : Word) (options : List Row) (places : List Word) → (is_ready (ready name options places).top && list_all (λ s. s.is_leaf && is_ready s) (ready name options places).subs) ≡ true
simple_ready name options places =
    and_from _ true (and_from _ _ (all_built (λ a. a.is_simple) (λ option. refl) (λ i place. refl) options places) (ap not (early _ options places))) refl

free_ready : (name : Word) (options : List Row) (places : List Word) → is_free_app (ready name options places) ≡ true
free_ready name options places = and_from _ true (all_built (λ a. a.is_free) (λ option. refl) (λ i place. refl) options places) refl

module _ (name : Word) (options : List Row) (places : List Word) (are : are_names options places ≡ true) where
  is_built : built (app name options places) ≡ ready name options places
  is_built = built_ready name options places (named options places are).few

  simple : is_simple (app name options places) ≡ true
  simple =
      and_from _ _ (and_from _ true (all_rules (λ a. a.is_simple) (λ option. refl) (λ place. refl) options places) refl)
      (ap (λ a. is_ready a.top && list_all (λ s. s.is_leaf && is_ready s) a.subs) is_built ∙ simple_ready name options places)

  pub simple_and_free : is_simple_and_free (app name options places) ≡ true
  simple_and_free = and_from _ _ simple (ap is_free_app is_built ∙ free_ready name options places)

  -- ---- what a parse says

  module _ (words : List (String Global)) where
    abbrev given_words : List Word
    given_words = map string_bytes words

    each_utf8 : (all : List (String Global)) → AllByRecursion IsUtf8 (map string_bytes all)
    each_utf8 [] = tt
    each_utf8 (word ∷ all) = (IsUtf8-string_bytes word, each_utf8 all)

    utf8 : (all : List (String Global)) → AllByRecursion IsUtf8 (drop 1 (map string_bytes all))
    utf8 [] = tt
    utf8 (word ∷ all) = each_utf8 all

    -- clap takes the words
    module _ (m : ArgMatches) (made_app : App) (is : made_app ≡ app name options places) (has : HasMatchesOf made_app given_words m) (fine : fault_of made_app given_words ≡ []) where
      the_taken : IsTaken name options places (drop 1 given_words) [] (utf8 words) are
      the_taken = taken name options places (drop 1 given_words) [] (utf8 words) are (ap (λ a. fault_of a given_words) (sym is) ∙ fine)

      pub gives : (values : Values) × Give options places (drop 1 given_words) values × ((id : Word) → first_value (found_of m) id ≡ value_of id (completed options values))
      gives =
          let matched : rows_of (found_of m) ≡ matches_of (app name options places) given_words = (subst (λ a. HasMatchesOf a given_words m) is has simple).0 in
          (the_taken.values, the_taken.give, λ id. first_value-rows (found_of m) id ∙ (ap (first_of id) matched ∙ the_taken.shows.first id))

    -- clap refuses the words, and not for want of memory
    pub refuses : (e : Error) (made_app : App) → made_app ≡ app name options places → HasKind (fault_of made_app given_words) e → kind_of e ≢ OutOfMemory → (values : Values) → Give options places (drop 1 given_words) values → ⊥
    refuses e made_app is fails other values give =
        let none : fault_of made_app given_words ≡ [] = ap (λ a. fault_of a given_words) is ∙ takes name options places (drop 1 given_words) [] (utf8 words) are values give in
        go (subst (λ k. HasKind k e) none fails)
      where
        go : HasKind [] e → ⊥
        go (inl memory) = other memory
        go (inr among) = among
