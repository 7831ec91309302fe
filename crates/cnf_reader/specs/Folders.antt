-- The folder of a file, without a scan of its name.
use Rattle.std.specs.Prelude.{◌≡◌, ◌⊎◌, ℕ, List, [], ◌∷◌, ◌++◌, Contains}
use Rattle.cnf_reader.specs.Names.{slash}

-- the folder is what comes before the last part of the name: no slash is in that part, and the folder is empty or ends with one
pub record IsFolder (name folder : List ℕ) : Type 0 where
  pub last : List ℕ
  pub joined : name ≡ folder ++ last
  pub plain : Contains last slash → ⊥
  pub ended : (folder ≡ []) ⊎ ((more : List ℕ) × (folder ≡ more ++ slash ∷ []))
