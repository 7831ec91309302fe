-- Files by name, read from pairs of names and bytes.
use Rattle.std.proofs.Common.{◌≡◌, ℕ, true, false, List, [], ◌∷◌, Some, refl, cond}
use Rattle.std.specs.List.{find}
use Rattle.std.specs.Option.{option_map}
use Rattle.std.specs.Str.{bytes_eq}
use Rattle.std.specs.declared.vec.Vec.{Vec}
use Rattle.std.specs.declared.alloc.Global.{Global}
use Rattle.mg_outside.specs.FilesRule.{file_named, named_file, named_files}

-- the file of a name is that of the first pair with the name
pub find_named : (pairs : List (List ℕ × Vec ℕ Global)) (name : List ℕ) →
    file_named (named_files pairs) name ≡ option_map (λ pair. pair.1.items) (find (λ pair. bytes_eq pair.0 name) pairs)
find_named [] name = refl
find_named (pair ∷ pairs) name = elim (bytes_eq pair.0 name) as (λ same.
    option_map (λ file. file.bytes) (cond same (Some (named_file pair)) (find (λ file. bytes_eq file.name name) (named_files pairs)))
    ≡ option_map (λ pair. pair.1.items) (cond same (Some pair) (find (λ pair. bytes_eq pair.0 name) pairs)))
    [ true ↦ refl | false ↦ find_named pairs name ]
