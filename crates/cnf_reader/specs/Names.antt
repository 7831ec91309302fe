-- Under which names an included file is looked for.
use Rattle.std.specs.Prelude.{ℕ, ◌+◌, ◌-◌, slice_get, Bool, false, cond, ◌==◌, List, [], ◌∷◌, ◌++◌, length, take, Option, Some, None, if◌then◌else◌}

-- the byte /
abbrev pub slash : ℕ
slash = 47

-- whether the byte is a slash
abbrev pub is_slash : Option ℕ → Bool
is_slash None = false
is_slash (Some byte) = byte == slash

-- whether the last byte is a slash
abbrev pub ends_with_slash : List ℕ → Bool
ends_with_slash bytes = is_slash (slice_get bytes (length bytes - 1))

-- the number of bytes up to the last slash, where `at` bytes were passed and `so_far` of them come up to a slash
abbrev pub up_to_slash : ℕ → ℕ → List ℕ → ℕ
up_to_slash at so_far [] = so_far
up_to_slash at so_far (byte ∷ bytes) = up_to_slash (at + 1) (if byte == slash then at + 1 else so_far) bytes

-- the part of a file's name up to its last slash
abbrev pub folder_of : List ℕ → List ℕ
folder_of name = take (up_to_slash 0 0 name) name

-- whether a name begins with a slash, and so is tried as it is
abbrev pub is_absolute : List ℕ → Bool
is_absolute [] = false
is_absolute (byte ∷ bytes) = byte == slash

-- the folder with one slash behind it
abbrev pub with_slash : List ℕ → List ℕ
with_slash folder = cond (ends_with_slash folder) folder (folder ++ slash ∷ [])

-- the tries at the root, if one is given
abbrev pub tries_at : Option (List ℕ) → List ℕ → List (List ℕ)
tries_at None file = []
tries_at (Some root) file = (with_slash root ++ file) ∷ []

-- the names to try, in order, for a file that is included by another
abbrev pub tries : Option (List ℕ) → List ℕ → List ℕ → List (List ℕ)
tries root including file = if is_absolute file then file ∷ [] else (folder_of including ++ file) ∷ tries_at root file
