-- The name of a problem in the lines that are printed.
use Rattle.std.specs.Prelude.{ℕ, Bool, ◌&&◌, nat_eq, nat_lt, ◌-◌, List, [], ◌∷◌, ◌++◌, length, take, codes, decimal, if◌then◌else◌}
use Rattle.std.specs.List.{list_any, ends_with}

abbrev pub is_slash : ℕ → Bool
is_slash byte = nat_eq byte 47

-- what stands behind the last slash of a path, and the whole path where it has none
abbrev pub last_part : List ℕ → List ℕ
last_part [] = []
last_part (byte ∷ bytes) = if list_any is_slash bytes then last_part bytes else (if is_slash byte then bytes else byte ∷ bytes)

-- the name without a final .p, where something stands before that
abbrev pub stem_of : List ℕ → List ℕ
stem_of name = if ends_with nat_eq name (codes ".p") && nat_lt 2 (length name) then take (length name - 2) name else name

-- the last part of the path, without a final .p where something stands before it
abbrev pub name_of : List ℕ → List ℕ
name_of path = stem_of (last_part path)

-- the name of the sample problem of that size
abbrev pub sample_name : ℕ → List ℕ
sample_name size = codes "sample-" ++ decimal size
