-- What the words after the program's name ask for.
use Rattle.std.specs.Prelude.{◌≡◌, ◌≢◌, ◌≤◌, ℕ, List, [], ◌∷◌, Option, Some, MatchOption, codes}
use Rattle.ascii_text.specs.Numbers.{IsValue}
use Rattle.sample_maker.specs.declared.limits.TheConstants.{LEAST_SIZE, MOST_SIZE}
use Rattle.command_words.specs.Given.{Word, Row, Values, Give, completed, valued, value_of}

-- what a search is asked for: the problem's file, the folder of includes, and the numbers
pub record Search : Type 0 where
  pub file : Word
  pub root : Option Word
  pub workers : ℕ
  pub budget : ℕ
  pub weight : ℕ

-- a command, with what it is given
pub data Request : Type 0 where
  Prove : (search : Search) → Request
  Models : (search : Search) → Request
  Check : (file tree : Word) (root : Option Word) → Request
  Forms : (file : Word) (root : Option Word) → Request
  Sample : (size workers budget : ℕ) → Request

-- an option whose value is a number: its name, the least and the greatest number, and the number that stands where the option is not given
pub record NumberRow : Type 0 where
  pub name : Word
  pub least : ℕ
  pub most : ℕ
  pub default : ℕ

abbrev pub workers : NumberRow
workers = record { name = codes "workers"; least = 1; most = 64; default = 1 }

abbrev pub budget : NumberRow
budget = record { name = codes "budget"; least = 0; most = 1000000; default = 100000 }

abbrev pub weight : NumberRow
weight = record { name = codes "weight"; least = 1; most = 4096; default = 256 }

-- the option whose value is the folder of includes
abbrev pub root : Word
root = codes "root"

-- the text is the decimal spelling of the number, which is from the least to the greatest
abbrev pub IsNumberIn : (least most : ℕ) → Word → ℕ → Type 0
IsNumberIn least most text number = IsValue text number × (least ≤ number) × (number ≤ most)

-- the option has this number, which is the default where the option is not given
abbrev pub HasNumber : NumberRow → Values → ℕ → Type 0
HasNumber row values number = MatchOption (value_of row.name values) (number ≡ row.default) (λ text. IsNumberIn row.least row.most text number)

-- the option has this folder, or there is none where it is not given
abbrev pub HasRoot : Values → Option Word → Type 0
HasRoot values folder = (value_of root values ≡ folder) × (folder ≢ Some [])

-- the place has this name of a file
abbrev pub HasFile : Word → Values → Word → Type 0
HasFile place values name = (value_of place values ≡ Some name) × (name ≢ [])

-- the place has this number, which is the size of a sample
abbrev pub HasSize : Word → Values → ℕ → Type 0
HasSize place values size = MatchOption (value_of place values) ⊥ (λ text. IsNumberIn LEAST_SIZE MOST_SIZE text size)

-- the words are the command and words that give such values to its options and places
abbrev pub AreWords : Word → List Row → (places words : List Word) → (Values → Type 0) → Type 0
AreWords command options places words IsAsked =
    (arguments : List Word) × (values : Values) × (words ≡ command ∷ arguments) × Give options places arguments values × IsAsked (completed options values)

-- the values are those of a search
abbrev pub IsSearch : Search → Values → Type 0
IsSearch search values = HasFile (codes "FILE") values search.file × HasRoot values search.root
    × HasNumber workers values search.workers × HasNumber budget values search.budget × HasNumber weight values search.weight

-- the values are those of the check of a tree
abbrev pub IsCheck : (file tree : Word) → Option Word → Values → Type 0
IsCheck file tree folder values = HasFile (codes "FILE") values file × HasFile (codes "TREE") values tree × HasRoot values folder

-- the values are those of the forms of a problem
abbrev pub IsForms : Word → Option Word → Values → Type 0
IsForms file folder values = HasFile (codes "FILE") values file × HasRoot values folder

-- the values are those of a problem that is made
abbrev pub IsSample : ℕ → ℕ → ℕ → Values → Type 0
IsSample size workers_asked budget_asked values = HasSize (codes "K") values size × HasNumber workers values workers_asked × HasNumber budget values budget_asked

-- the options and the places of each command
abbrev pub search_options : List Row
search_options = valued workers.name ∷ valued budget.name ∷ valued weight.name ∷ valued root ∷ []

abbrev pub sample_options : List Row
sample_options = valued workers.name ∷ valued budget.name ∷ []

abbrev pub root_option : List Row
root_option = valued root ∷ []

abbrev pub file_place : List Word
file_place = codes "FILE" ∷ []

abbrev pub tree_places : List Word
tree_places = codes "FILE" ∷ codes "TREE" ∷ []

abbrev pub size_place : List Word
size_place = codes "K" ∷ []

-- the words ask for it
abbrev pub Asks : List Word → Request → Type 0
Asks words (Prove search) = AreWords (codes "prove") search_options file_place words (IsSearch search)
Asks words (Models search) = AreWords (codes "models") search_options file_place words (IsSearch search)
Asks words (Check file tree folder) = AreWords (codes "check") root_option tree_places words (IsCheck file tree folder)
Asks words (Forms file folder) = AreWords (codes "forms") root_option file_place words (IsForms file folder)
Asks words (Sample size workers_asked budget_asked) = AreWords (codes "sample") sample_options size_place words (IsSample size workers_asked budget_asked)
