-- What the words of a command ask for, by the values that they give.
use Rattle.std.proofs.Common.{◌≡◌, ◌<◌, ℕ, Bool, true, false, List, [], ◌∷◌, map, drop, length, get_or, Option, Some, None, MatchOption, refl, sym, ap, ◌∙◌, subst, arith, string_bytes, codes}
use Rattle.std.specs.Prelude.{MatchBool}
use Rattle.std.specs.Str.{bytes_eq}
use Rattle.std.specs.Prelude.{String}
use Rattle.std.specs.Global.{Global}
use Rattle.std.proofs.lemmas.Bool.{true≢false}
use Rattle.std.proofs.lemmas.Slice.Eq.{bytes_eq-Decides}
use Rattle.command_words.specs.Clap.{are_names}
use Rattle.command_words.specs.Given.{Word, Row, Values, Give, completed}
use Rattle.command_words.specs.Asking.{AreWords, Asks, Request, Prove, Models, Check, Forms, Sample, Search}
use Rattle.command_words.specs.Clap.{Hold}
use Rattle.command_words.specs.Asking.{IsCheck, IsForms, IsSample, IsSearch, search_options, sample_options, root_option, file_place, tree_places, size_place}
use Rattle.command_words.specs.Requests.{search_seen}
use Rattle.command_words.specs.declared.arguments.Arguments.{Arguments}
use Rattle.command_words.specs.declared.request.Search.{Search as FoundSearch}
use Rattle.std.specs.Borrow.{Bor}
use Rattle.std.specs.Prelude.{option_map}
use Rattle.command_words.proofs.Joined.{one_give}

-- the first word is the command
module _ (command : Word) where
  abbrev pub IsFirst : List Word → Bool → Type 0
  IsFirst words r = MatchBool r ((arguments : List Word) × (words ≡ command ∷ arguments)) ((arguments : List Word) → words ≡ command ∷ arguments → ⊥)

  pub no_words : (words : List (String Global)) → length words ≡ 0 → (arguments : List Word) → map string_bytes words ≡ command ∷ arguments → ⊥
  no_words [] none arguments is = let e : ◌≡◌ {A = List Word} [] (command ∷ arguments) = is in cc
  no_words (word ∷ words) none arguments is = absurd (omega arith)

  pub first_word : (words : List (String Global)) (first : String Global) (r : Bool) → 0 < length words → first ≡ get_or words 0 first → r ≡ bytes_eq (string_bytes first) command → IsFirst (map string_bytes words) r
  first_word [] first r some at tested = absurd (omega arith)
  first_word (word ∷ words) first true some at tested =
      (map string_bytes words, ap (λ w. w ∷ map string_bytes words) (ap string_bytes (sym at) ∙ (bytes_eq-Decides (string_bytes first) command).0 (sym tested)))
  first_word (word ∷ words) first false some at tested =
      λ arguments is.
      let e : string_bytes word ∷ map string_bytes words ≡ command ∷ arguments = is in
      let head_is : string_bytes word ≡ command = cc in
      true≢false (sym ((bytes_eq-Decides (string_bytes first) command).1 (ap string_bytes at ∙ head_is)) ∙ sym tested)

module _ (command : Word) (options : List Row) (places words : List Word) (P : Values → Type 0) where
  pub not_asked : ((arguments : List Word) → words ≡ command ∷ arguments → ⊥) → AreWords command options places words P → ⊥
  not_asked none asked = none asked.0 asked.2

  give_of : (asked : AreWords command options places words P) → Give options places (drop 1 words) asked.1
  give_of asked = subst (λ w. Give options places w asked.1) (ap (drop 1) (sym asked.2)) asked.3

  pub not_given : ((values : Values) → Give options places (drop 1 words) values → ⊥) → AreWords command options places words P → ⊥
  not_given none asked = none asked.1 (give_of asked)

  module _ (values : Values) (give : Give options places (drop 1 words) values) where
    pub not_so : are_names options places ≡ true → (P (completed options values) → ⊥) → AreWords command options places words P → ⊥
    not_so are none asked = none (subst (λ vs. P (completed options vs)) (one_give options places (drop 1 words) are asked.1 values (give_of asked) give) asked.4)

    pub are_words : (arguments : List Word) → words ≡ command ∷ arguments → P (completed options values) → AreWords command options places words P
    are_words arguments is so = (arguments, values, is, subst (λ w. Give options places w values) (ap (drop 1) is) give, so)

-- what the reading of arguments says
abbrev pub NoGive : List Row → (places words : List Word) → Type 0
NoGive options places words = (values : Values) → Give options places (drop 1 words) values → ⊥

abbrev pub Gives : List Row → (places words : List Word) → Arguments → Type 0
Gives options places words given = (values : Values) × Give options places (drop 1 words) values × Hold given (completed options values)

module _ (options : List Row) (places words : List Word) (their_options : List Row) (their_places : List Word) (same_options : their_options ≡ options) (same_places : their_places ≡ places) (found : Option Arguments)
    (says : MatchOption found (NoGive their_options their_places words) (Gives their_options their_places words)) where
  pub none_given : (command : Word) (P : Values → Type 0) → found ≡ None → AreWords command options places words P → ⊥
  none_given command P none =
      not_given command options places words P
      (subst (λ o. NoGive o places words) same_options (subst (λ p. NoGive their_options p words) same_places
      (subst (λ o. MatchOption o (NoGive their_options their_places words) (Gives their_options their_places words)) none says)))

  pub some_given : (given : Arguments) → found ≡ Some given → Gives options places words given
  some_given given is =
      subst (λ o. Gives o places words given) same_options (subst (λ p. Gives their_options p words given) same_places
      (subst (λ o. MatchOption o (NoGive their_options their_places words) (Gives their_options their_places words)) is says))

pub check_result : (words : List Word) (given : Arguments) → Gives root_option tree_places words given → (arguments : List Word) × (words ≡ codes "check" ∷ arguments) → (found : Option (Bor (List ℕ) × Bor (List ℕ) × Option (Bor (List ℕ))))
    → ((values : Values) → Hold given values → MatchOption found ((name tree : Word) (folder : Option Word) → IsCheck name tree folder values → ⊥) (λ f. IsCheck f.0.now f.1.now (option_map (λ folder. folder.now) f.2) values))
    → MatchOption found ((name tree : Word) (folder : Option Word) → Asks words (Check name tree folder) → ⊥) (λ f. Asks words (Check f.0.now f.1.now (option_map (λ folder. folder.now) f.2)))
check_result words given gives first None says = λ name tree folder asked. not_so (codes "check") root_option tree_places words (IsCheck name tree folder) gives.0 gives.1 refl (says (completed root_option gives.0) gives.2 name tree folder) asked
check_result words given gives first (Some f) says = are_words (codes "check") root_option tree_places words (IsCheck f.0.now f.1.now (option_map (λ folder. folder.now) f.2)) gives.0 gives.1 first.0 first.1 (says (completed root_option gives.0) gives.2)

pub forms_result : (words : List Word) (given : Arguments) → Gives root_option file_place words given → (arguments : List Word) × (words ≡ codes "forms" ∷ arguments) → (found : Option (Bor (List ℕ) × Option (Bor (List ℕ))))
    → ((values : Values) → Hold given values → MatchOption found ((name : Word) (folder : Option Word) → IsForms name folder values → ⊥) (λ f. IsForms f.0.now (option_map (λ folder. folder.now) f.1) values))
    → MatchOption found ((name : Word) (folder : Option Word) → Asks words (Forms name folder) → ⊥) (λ f. Asks words (Forms f.0.now (option_map (λ folder. folder.now) f.1)))
forms_result words given gives first None says = λ name folder asked. not_so (codes "forms") root_option file_place words (IsForms name folder) gives.0 gives.1 refl (says (completed root_option gives.0) gives.2 name folder) asked
forms_result words given gives first (Some f) says = are_words (codes "forms") root_option file_place words (IsForms f.0.now (option_map (λ folder. folder.now) f.1)) gives.0 gives.1 first.0 first.1 (says (completed root_option gives.0) gives.2)

pub sample_result : (words : List Word) (given : Arguments) → Gives sample_options size_place words given → (arguments : List Word) × (words ≡ codes "sample" ∷ arguments) → (found : Option (ℕ × ℕ × ℕ))
    → ((values : Values) → Hold given values → MatchOption found ((k n m : ℕ) → IsSample k n m values → ⊥) (λ f. IsSample f.0 f.1 f.2 values))
    → MatchOption found ((k n m : ℕ) → Asks words (Sample k n m) → ⊥) (λ f. Asks words (Sample f.0 f.1 f.2))
sample_result words given gives first None says = λ k n m asked. not_so (codes "sample") sample_options size_place words (IsSample k n m) gives.0 gives.1 refl (says (completed sample_options gives.0) gives.2 k n m) asked
sample_result words given gives first (Some f) says = are_words (codes "sample") sample_options size_place words (IsSample f.0 f.1 f.2) gives.0 gives.1 first.0 first.1 (says (completed sample_options gives.0) gives.2)

pub search_result : (command : Word) (words : List Word) (given : Arguments) → Gives search_options file_place words given → (arguments : List Word) × (words ≡ command ∷ arguments) → (found : Option FoundSearch)
    → ((values : Values) → Hold given values → MatchOption found ((wanted : Search) → IsSearch wanted values → ⊥) (λ f. IsSearch (search_seen f) values))
    → MatchOption found ((wanted : Search) → AreWords command search_options file_place words (IsSearch wanted) → ⊥) (λ f. AreWords command search_options file_place words (IsSearch (search_seen f)))
search_result command words given gives first None says = λ wanted asked. not_so command search_options file_place words (IsSearch wanted) gives.0 gives.1 refl (says (completed search_options gives.0) gives.2 wanted) asked
search_result command words given gives first (Some f) says = are_words command search_options file_place words (IsSearch (search_seen f)) gives.0 gives.1 first.0 first.1 (says (completed search_options gives.0) gives.2)

-- the words ask for nothing, where they ask for nothing by any command
pub asks_nothing : (words : List Word) → ((search : Search) → Asks words (Prove search) → ⊥) → ((search : Search) → Asks words (Models search) → ⊥)
    → ((file tree : Word) (folder : Option Word) → Asks words (Check file tree folder) → ⊥) → ((file : Word) (folder : Option Word) → Asks words (Forms file folder) → ⊥)
    → ((k n m : ℕ) → Asks words (Sample k n m) → ⊥) → (wanted : Request) → Asks words wanted → ⊥
asks_nothing words prove models check forms sample (Prove search) = prove search
asks_nothing words prove models check forms sample (Models search) = models search
asks_nothing words prove models check forms sample (Check file tree folder) = check file tree folder
asks_nothing words prove models check forms sample (Forms file folder) = forms file folder
asks_nothing words prove models check forms sample (Sample k n m) = sample k n m
