-- How words give values to the options and the places of a command.
use Rattle.std.specs.Prelude.{◌≡◌, ℕ, Bool, true, false, List, [], ◌∷◌, ◌++◌, Option, Some, None, map, nat_eq, find, option_map, codes, unwrap_or, if◌then◌else◌}
use Rattle.std.specs.List.{AllByRecursion, filter_map, flat_map}
use Rattle.std.specs.Str.{bytes_eq}

abbrev pub Word : Type 0
Word = List ℕ

-- a row of a command's options: the name, and whether a value belongs to it; an option without a value is a flag
pub record Row : Type 0 where
  pub name : Word
  pub takes_value : Bool

abbrev pub valued : Word → Row
valued name = record { name = name; takes_value = true }

abbrev pub flag : Word → Row
flag name = record { name = name; takes_value = false }

-- whether a value belongs to the option of the name, if there is such an option
abbrev pub takes_value_of : List Row → Word → Option Bool
takes_value_of options name = option_map (λ row. row.takes_value) (find (λ row. bytes_eq row.name name) options)

-- values, each behind the name of its option or place
abbrev pub Values : Type 0
Values = List (Word × Word)

-- an argument, as it is written: an option in two words, an option in one word with `=`, a flag, or a word in a place
pub data Argument : Type 0 where
  Pair : (name value : Word) → Argument
  Joined : (name value : Word) → Argument
  Flag : (name : Word) → Argument
  Placed : (place value : Word) → Argument

-- the words of an argument
abbrev pub written : Argument → List Word
written (Pair name value) = (codes "--" ++ name) ∷ value ∷ []
written (Joined name value) = (codes "--" ++ (name ++ (codes "=" ++ value))) ∷ []
written (Flag name) = (codes "--" ++ name) ∷ []
written (Placed place value) = value ∷ []

-- what an argument gives: the value, behind its name; the value of a flag is `true`
abbrev pub given : Argument → Word × Word
given (Pair name value) = (name, value)
given (Joined name value) = (name, value)
given (Flag name) = (name, codes "true")
given (Placed place value) = (place, value)

-- the place that an argument fills, if it fills one
abbrev pub filled : Argument → Option Word
filled (Pair name value) = None
filled (Joined name value) = None
filled (Flag name) = None
filled (Placed place value) = Some place

-- the word begins with `-` and is longer than `-`
abbrev pub is_dashed : Word → Bool
is_dashed [] = false
is_dashed (first ∷ []) = false
is_dashed (first ∷ second ∷ rest) = nat_eq first 45

-- the argument may stand before `--`: it names one of these options, with a value exactly where one belongs to it, and no
-- dashed word of its own is a value
abbrev pub IsProper : List Row → Argument → Type 0
IsProper options (Pair name value) = (takes_value_of options name ≡ Some true) × (is_dashed value ≡ false)
IsProper options (Joined name value) = takes_value_of options name ≡ Some true
IsProper options (Flag name) = takes_value_of options name ≡ Some false
IsProper options (Placed place value) = is_dashed value ≡ false

-- what may stand behind the arguments: nothing, or `--` and words in places, whatever they are
abbrev pub ending : Option Values → List Word
ending None = []
ending (Some rest) = codes "--" ∷ map (λ value. value.1) rest

-- the value of an option or a place, if it is given
abbrev pub value_of : Word → Values → Option Word
value_of name values = option_map (λ value. value.1) (find (λ value. bytes_eq value.0 name) values)

-- no name has two values
abbrev pub AreOnce : Values → Type 0
AreOnce [] = Unit {0}
AreOnce (value ∷ values) = (value_of value.0 values ≡ None) × AreOnce values

-- the words give these values to options and places, in the order of the words: each option at most once, and each place
-- once, in the order of the places
pub record Give (options : List Row) (places words : List Word) (values : Values) : Type 0 where
  pub arguments : List Argument
  pub rest : Option Values
  pub spelled : words ≡ flat_map written arguments ++ ending rest
  pub proper : AllByRecursion (IsProper options) arguments
  pub gives : values ≡ map given arguments ++ unwrap_or rest []
  pub once : AreOnce values
  pub in_places : filter_map filled arguments ++ map (λ value. value.0) (unwrap_or rest []) ≡ places

-- the value `false` for each flag
abbrev pub flags_off : List Row → Values
flags_off = filter_map (λ row. if row.takes_value then None else Some (row.name, codes "false"))

-- the values that are given, and `false` for each flag that is not: of two values of a name the first counts
abbrev pub completed : List Row → Values → Values
completed options values = values ++ flags_off options
