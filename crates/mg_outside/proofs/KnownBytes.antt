-- What a row of reads took of a reader whose bytes are known.
use Rattle.std.proofs.Common.{◌≡◌, ℕ, List, ◌++◌}
use Rattle.std.specs.Io.KnownBytes.{Consumes}
use Rattle.std.specs.Prelude.{Option}

-- the bytes that were appended are those that the reader no longer has
pub record HasRead (before now : Option (List ℕ)) (old new : List ℕ) : Type 0 where
  pub bytes : List ℕ
  pub appended : new ≡ old ++ bytes
  pub consumed : Consumes before now bytes
