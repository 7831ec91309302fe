-- Facts on the check of one line.
use Rattle.std.proofs.Common.{◌≡◌, ℕ, zero, suc, List, map, refl}
use Rattle.std.specs.Option.{option_map}
use Rattle.std.proofs.lemmas.Option.{slice_get-map}
use Rattle.mg_word.specs.Words.{numbered}

pub numbered-map : {A B : Type 0} (f : A → B) (items : List A) (number : ℕ) → numbered (map f items) number ≡ option_map f (numbered items number)
numbered-map f items zero = refl
numbered-map f items (suc i) = slice_get-map f items i
