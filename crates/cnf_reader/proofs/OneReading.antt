-- Where files are told, a problem reads as one thing.
use Rattle.std.proofs.Common.{◌≡◌, inl, inr, ℕ, false, List, Option, Some, Result, Ok, Err, refl, sym, ap, ◌∙◌}
use Rattle.mg_word.specs.Facts.{InputData}
use Rattle.mg_outside.specs.Reading.{Table}
use Rattle.cnf_reader.specs.declared.fault.ReadFault.{ReadFault}
use Rattle.cnf_reader.specs.declared.kept.Kept.{Kept}
use Rattle.cnf_reader.specs.Keeping.{input_of}
use Rattle.cnf_reader.specs.Reading.{World, AreTold, NeverFails, reading_of, Reads, StandsFirst, IsReadSome}

-- the told files, at each read
told_world : Table → World
told_world told = record { files = λ number. told; fails = λ number. false }

same_world : (told : Table) (world : World) → AreTold (Some told) world → NeverFails world → world ≡ told_world told
unfolding told_world
same_world told world files whole = λ i. record { files = λ number. files number i; fails = λ number. whole number i }

-- two readings of told files are one
same_reading : (told : Table) (name : List ℕ) (root : Option (List ℕ)) (one other : World) → AreTold (Some told) one → NeverFails one → AreTold (Some told) other → NeverFails other → reading_of one root name ≡ reading_of other root name
same_reading told name root one other first whole second sound = ap (λ w. reading_of w root name) (same_world told one first whole ∙ sym (same_world told other second sound))

same_ok : (r : Result Kept ReadFault) (a b : Kept) → r ≡ Ok a → r ≡ Ok b → a ≡ b
same_ok r a b e f = cc

same_err : (r : Result Kept ReadFault) (a b : ReadFault) → r ≡ Err a → r ≡ Err b → a ≡ b
same_err r a b e f = cc

apart : (r : Result Kept ReadFault) (a : Kept) (b : ReadFault) → r ≡ Ok a → r ≡ Err b → ⊥
apart r a b e f = cc

pub one_input : (told : Table) (name : List ℕ) (root : Option (List ℕ)) (input other : InputData) → Reads (Some told) name root input → Reads (Some told) name root other → input ≡ other
one_input told name root input other first second =
    let kept = same_ok _ first.kept second.kept first.reading (same_reading told name root first.world second.world first.files first.whole second.files second.whole ∙ second.reading) in
    first.is ∙ ap input_of kept ∙ sym second.is

pub one_fault : (told : Table) (name : List ℕ) (root : Option (List ℕ)) (fault other : ReadFault) → StandsFirst (Some told) name root fault → StandsFirst (Some told) name root other → fault ≡ other
one_fault told name root fault other first second = same_err _ fault other first.reading (same_reading told name root first.world second.world first.files first.whole second.files second.whole ∙ second.reading)

pub not_both : (told : Table) (name : List ℕ) (root : Option (List ℕ)) (input : InputData) (fault : ReadFault) → Reads (Some told) name root input → StandsFirst (Some told) name root fault → ⊥
not_both told name root input fault first second = apart _ first.kept fault first.reading (same_reading told name root first.world second.world first.files first.whole second.files second.whole ∙ second.reading)

read_by : (told : Table) (name : List ℕ) (root : Option (List ℕ)) (r : Result Kept ReadFault) → reading_of (told_world told) root name ≡ r → IsReadSome told name root
unfolding told_world
read_by told name root (Ok kept) is = inl (input_of kept, record { world = told_world told; files = λ number. refl; whole = λ number. refl; kept = kept; reading = is; is = refl })
read_by told name root (Err fault) is = inr (fault, record { world = told_world told; files = λ number. refl; whole = λ number. refl; reading = is })

pub some_reading : (told : Table) (name : List ℕ) (root : Option (List ℕ)) → IsReadSome told name root
some_reading told name root = read_by told name root (reading_of (told_world told) root name) refl
