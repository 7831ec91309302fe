-- What a read may answer, and what each answer says.
use Rattle.std.specs.Prelude.{◌≡◌, ℕ, ◌^◌, ◌-◌, ◌<◌, ◌≤◌, nat_le, List, ◌++◌, length, Option, Some, None, IfSome, IsSomeAnd, if◌then◌else◌}
use Rattle.mg_outside.specs.declared.files.ReadAnswer.{ReadAnswer}
use Rattle.mg_outside.specs.declared.files.ReadAnswer.TheVariants.{Done, Absent, TooLong}

-- files by their names: the bytes of each, and nothing where there is no file of that name
abbrev pub Table : Type 0
Table = List ℕ → Option (List ℕ)

-- of files that are not told
abbrev pub untold : Option Table
untold = None

-- the whole file, of at most limit bytes, was appended; told files have these bytes under the name
pub record TakesFile (table : Option Table) (name : List ℕ) (limit : ℕ) (old new : List ℕ) : Type 0 where
  pub bytes : List ℕ
  pub appended : new ≡ old ++ bytes
  pub within : length bytes ≤ limit
  pub told : IfSome table (λ files. files name ≡ Some bytes)

-- told files have no file of this name
abbrev pub IsAbsent : Option Table → List ℕ → Type 0
IsAbsent table name = IfSome table (λ files. files name ≡ None)

-- the limit is one that some file can pass; told files have more bytes than that there
pub record IsTooLong (table : Option Table) (name : List ℕ) (limit : ℕ) : Type 0 where
  pub limited : limit < 2 ^ 64 - 1
  pub told : IfSome table (λ files. IsSomeAnd (files name) (λ bytes. limit < length bytes))

-- what a file, or the want of one, answers to a read with this limit
abbrev pub told_answer : Option (List ℕ) → ℕ → ReadAnswer
told_answer None limit = Absent
told_answer (Some bytes) limit = if nat_le (length bytes) limit then Done else TooLong

-- the second list is the first with more at its end
abbrev pub Extends : List ℕ → List ℕ → Type 0
Extends old new = (bytes : List ℕ) × (new ≡ old ++ bytes)
