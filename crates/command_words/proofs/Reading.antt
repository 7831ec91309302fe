-- The reading of words, word after word.
use Rattle.std.proofs.Common.{◌≡◌, ◌⊎◌, Bool, cond, true, false, List, [], ◌∷◌, Option, Some, None, refl, inl, inr}
use Rattle.std.specs.Prelude.{option_map}
use Rattle.std.specs.Str.{bytes_eq}
use Rattle.clap.specs.Lexer.{long_of, short_of}
use Rattle.std.specs.Prelude.{codes}
use Rattle.command_words.specs.Given.{Word, Values, Row, takes_value_of}

-- what words are: `--`, an option that waits for its value, an option with its value, a flag, a word that is refused, or any other
-- word
pub data Kind : Type 0 where
  marker : Kind
  opening : (name : Word) → Kind
  whole : (name value : Word) → Kind
  lone : (name : Word) → Kind
  wrong : Kind
  free : Kind

abbrev pub named : Option Bool → Word → Option Word → Kind
named None name value = wrong
named (Some true) name None = opening name
named (Some true) name (Some value) = whole name value
named (Some false) name None = lone name
named (Some false) name (Some value) = wrong

abbrev pub short_kind : Option Word → Kind
short_kind None = free
short_kind (Some flags) = wrong

abbrev pub long_kind : List Row → Word → Option (Word × Option Word) → Kind
long_kind options word None = short_kind (short_of word)
long_kind options word (Some p) = named (takes_value_of options p.0) p.0 p.1

abbrev pub kind : List Row → Word → Kind
kind options word = cond (bytes_eq word (45 ∷ 45 ∷ [])) marker (long_kind options word (long_of word))

-- no option has the name, or it is a flag's with a value
abbrev pub IsMisnamed : List Row → Word → Option Word → Type 0
IsMisnamed options name None = takes_value_of options name ≡ None
IsMisnamed options name (Some value) = (takes_value_of options name ≡ None) ⊎ (takes_value_of options name ≡ Some false)

-- the word is of this kind
abbrev pub IsKind : List Row → Word → Kind → Type 0
IsKind options word marker = bytes_eq word (45 ∷ 45 ∷ []) ≡ true
IsKind options word (opening name) = (bytes_eq word (45 ∷ 45 ∷ []) ≡ false) × (long_of word ≡ Some (name, None)) × (takes_value_of options name ≡ Some true)
IsKind options word (whole name value) = (bytes_eq word (45 ∷ 45 ∷ []) ≡ false) × (long_of word ≡ Some (name, Some value)) × (takes_value_of options name ≡ Some true)
IsKind options word (lone name) = (bytes_eq word (45 ∷ 45 ∷ []) ≡ false) × (long_of word ≡ Some (name, None)) × (takes_value_of options name ≡ Some false)
IsKind options word wrong = (bytes_eq word (45 ∷ 45 ∷ []) ≡ false)
    × (((p : Word × Option Word) × (long_of word ≡ Some p) × IsMisnamed options p.0 p.1) ⊎ ((long_of word ≡ None) × ((flags : Word) × (short_of word ≡ Some flags))))
IsKind options word free = (bytes_eq word (45 ∷ 45 ∷ []) ≡ false) × (long_of word ≡ None) × (short_of word ≡ None)

module _ (options : List Row) (word : Word) (none : bytes_eq word (45 ∷ 45 ∷ []) ≡ false) where
  named_is : (o : Option Bool) (name : Word) (value : Option Word) → long_of word ≡ Some (name, value) → takes_value_of options name ≡ o → IsKind options word (named o name value)
  named_is None name None long is = (none, inl ((name, None), long, is))
  named_is None name (Some value) long is = (none, inl ((name, Some value), long, inl is))
  named_is (Some true) name None long is = (none, long, is)
  named_is (Some true) name (Some value) long is = (none, long, is)
  named_is (Some false) name None long is = (none, long, is)
  named_is (Some false) name (Some value) long is = (none, inl ((name, Some value), long, inr is))

  short_is : (o : Option Word) → long_of word ≡ None → short_of word ≡ o → IsKind options word (short_kind o)
  short_is None long is = (none, long, is)
  short_is (Some flags) long is = (none, inr (long, (flags, is)))

  long_is : (o : Option (Word × Option Word)) → long_of word ≡ o → IsKind options word (long_kind options word o)
  long_is None long = short_is (short_of word) long refl
  long_is (Some p) long = named_is (takes_value_of options p.0) p.0 p.1 long refl

pub kind_is : (options : List Row) (word : Word) → IsKind options word (kind options word)
kind_is options word = go (bytes_eq word (45 ∷ 45 ∷ [])) refl
  where
    go : (b : Bool) → bytes_eq word (45 ∷ 45 ∷ []) ≡ b → IsKind options word (cond b marker (long_kind options word (long_of word)))
    go true is = is
    go false is = long_is options word is (long_of word) refl

-- what is read: the values, and the places that are left
abbrev pub Read : Type 0
Read = Option (Values × List Word)

abbrev pub more : Word × Word → Read → Read
more value = option_map (λ read. (value ∷ read.0, read.1))

-- behind `--`
abbrev pub trailing : List Word → List Word → Read
trailing [] places = Some ([], places)
trailing (word ∷ words) [] = None
trailing (word ∷ words) (place ∷ places) = more (place, word) (trailing words places)

abbrev pub placed : Word → List Word → (List Word → Option Word → Read) → Read
placed word [] next = None
placed word (place ∷ places) next = more (place, word) (next places None)

-- the word is read, where an option waits for its value or none does
abbrev pub step : Kind → Option Word → Word → List Word → List Word → (List Word → Option Word → Read) → Read
step marker None word words places next = trailing words places
step marker (Some waiting) word words places next = None
step (opening name) None word words places next = next places (Some name)
step (opening name) (Some waiting) word words places next = None
step (whole name value) None word words places next = more (name, value) (next places None)
step (whole name value) (Some waiting) word words places next = None
step (lone name) None word words places next = more (name, codes "true") (next places None)
step (lone name) (Some waiting) word words places next = None
step wrong None word words places next = None
step wrong (Some waiting) word words places next = None
step free None word words places next = placed word places next
step free (Some waiting) word words places next = more (waiting, word) (next places None)

-- what is read of the words, where these places are left
abbrev pub reading : List Row → List Word → List Word → Option Word → Read
reading options [] places None = Some ([], places)
reading options [] places (Some waiting) = None
reading options (word ∷ words) places waiting = step (kind options word) waiting word words places (reading options words)
