-- What a read answers is what some files, the told ones where files are told, give to a try.
use Rattle.std.proofs.Common.{◌≡◌, ℕ, zero, suc, ◌<◌, ◌≤◌, true, false, List, [], ◌∷◌, ◌++◌, length, Option, Some, None, IfSome, String, Global, string_bytes, refl, sym, ap, ◌∙◌, arith, subst, nat_le}
use Rattle.std.proofs.lemmas.Bool.Decides.{nat_tests}
use Rattle.std.specs.Option.{IsSomeAnd}
use Rattle.std.specs.declared.vec.Vec.{Vec}
use Rattle.mg_outside.specs.Reading.{Table, TakesFile, IsAbsent, IsTooLong}
use Rattle.cnf_reader.specs.declared.opening.Tried.TheVariants.{Opened as TriedOpened, Absent as TriedAbsent, TooLong as TriedTooLong, Failed as TriedFailed}
use Rattle.cnf_reader.specs.declared.opening.Found.TheVariants.{Opened, Absent, TooLong, Failed}
use Rattle.cnf_reader.specs.Reading.{opened, none_found, open_first}
use Rattle.cnf_reader.specs.Openings.{Finding, IsTry, IsOpening}

-- a finding of which nothing is needed
pub nothing_found : (told : Option Table) → (finding : Finding told) × (finding.fails ≡ false)
nothing_found None = (record { files = λ name. None; is_told = tt; fails = false }, refl)
nothing_found (Some told) = (record { files = told; is_told = refl; fails = false }, refl)

-- files with that under the name
pub found_with : (told : Option Table) (name : List ℕ) (found : Option (List ℕ)) → IfSome told (λ files. files name ≡ found) → (finding : Finding told) × (finding.files name ≡ found) × (finding.fails ≡ false)
found_with None name found is = (record { files = λ other. found; is_told = tt; fails = false }, refl, refl)
found_with (Some told) name found is = (record { files = told; is_told = refl; fails = false }, is, refl)

longer : (n : ℕ) → (bytes : List ℕ) × (n < length bytes)
longer zero = (0 ∷ [], omega arith)
longer (suc n) = let more = longer n in (0 ∷ more.0, omega (arith, more.1))

some_and : (found : Option (List ℕ)) (limit : ℕ) → IsSomeAnd found (λ bytes. limit < length bytes) → (bytes : List ℕ) × (found ≡ Some bytes) × (limit < length bytes)
some_and None limit is = absurd is
some_and (Some bytes) limit is = (bytes, refl, is)

long_with : (told : Option Table) (name : List ℕ) (limit : ℕ) → IfSome told (λ files. IsSomeAnd (files name) (λ bytes. limit < length bytes))
    → (finding : Finding told) × ((bytes : List ℕ) × (finding.files name ≡ Some bytes) × (limit < length bytes)) × (finding.fails ≡ false)
long_with None name limit is = let more = longer limit in (record { files = λ other. Some more.0; is_told = tt; fails = false }, (more.0, refl, more.1), refl)
long_with (Some told) name limit is = (record { files = told; is_told = refl; fails = false }, some_and (told name) limit is, refl)

failing : (told : Option Table) → (finding : Finding told) × (finding.fails ≡ true)
failing None = (record { files = λ name. None; is_told = tt; fails = true }, refl)
failing (Some told) = (record { files = told; is_told = refl; fails = true }, refl)

fits : (n limit : ℕ) → n ≤ limit → nat_le n limit ≡ true
fits n limit within = grind (arith, nat_tests)

passes : (n limit : ℕ) → limit < n → nat_le n limit ≡ false
passes n limit more = grind (arith, nat_tests)

module _ (told : Option Table) (name : List ℕ) (limit : ℕ) where
  pub try_opened : (bytes : Vec ℕ Global) (old : List ℕ) → old ≡ [] → TakesFile told name limit old bytes.items → IsTry told name limit (TriedOpened bytes)
  try_opened bytes old none takes =
      let is : bytes.items ≡ takes.bytes = takes.appended ∙ ap (λ l. l ++ takes.bytes) none in
      let found = found_with told name (Some takes.bytes) takes.told in
      let short : nat_le (length takes.bytes) limit ≡ true = fits (length takes.bytes) limit takes.within in
      record {
        finding = found.0;
        gives = λ next. rw (found.1, found.2, short) (ap (λ l. opened name l) (sym is));
        whole = found.2;
        fits = subst (λ l. length l ≤ limit) (sym is) takes.within;
      }

  pub try_absent : IsAbsent told name → IsTry told name limit TriedAbsent
  try_absent absent =
      let found = found_with told name None absent in
      record { finding = found.0; gives = λ next. rw (found.1, found.2) refl; whole = found.2; fits = tt }

  pub try_too_long : IsTooLong told name limit → IsTry told name limit TriedTooLong
  try_too_long long =
      let found = long_with told name limit long.told in
      let past : nat_le (length found.1.0) limit ≡ false = passes (length found.1.0) limit found.1.2 in
      record { finding = found.0; gives = λ next. rw (found.1.1, found.2, past) refl; whole = found.2; fits = tt }

  pub try_failed : IsTry told name limit TriedFailed
  try_failed = let found = failing told in record { finding = found.0; gives = λ next. rw found.1 refl; whole = found.1; fits = tt }

module _ (told : Option Table) (name : List ℕ) (more : List (List ℕ)) (limit : ℕ) where
  pub open_opened : (text : String Global) (bytes : Vec ℕ Global) → name ≡ string_bytes text → IsTry told name limit (TriedOpened bytes) → IsOpening told (name ∷ more) limit (Opened text bytes)
  open_opened text bytes named tried =
      let spare = nothing_found told in
      record {
        first = tried.finding;
        second = spare.0;
        gives = λ number world finds. rw (finds.0, finds.1) (tried.gives (open_first world (suc number) limit more)) ∙ ap (λ n. opened n bytes.items) named;
        whole = (tried.whole, spare.1);
        fits = tried.fits;
      }

  pub open_too_long : IsTry told name limit TriedTooLong → IsOpening told (name ∷ more) limit TooLong
  open_too_long tried =
      let spare = nothing_found told in
      record {
        first = tried.finding;
        second = spare.0;
        gives = λ number world finds. rw (finds.0, finds.1) (tried.gives (open_first world (suc number) limit more));
        whole = (tried.whole, spare.1);
        fits = tt;
      }

  pub open_failed : IsTry told name limit TriedFailed → IsOpening told (name ∷ more) limit Failed
  open_failed tried =
      let spare = nothing_found told in
      record {
        first = tried.finding;
        second = spare.0;
        gives = λ number world finds. rw (finds.0, finds.1) (tried.gives (open_first world (suc number) limit more));
        whole = tt;
        fits = tt;
      }

  pub open_absent : more ≡ [] → IsTry told name limit TriedAbsent → IsOpening told (name ∷ more) limit Absent
  open_absent none tried =
      let spare = nothing_found told in
      record {
        first = tried.finding;
        second = spare.0;
        gives = λ number world finds. rw (finds.0, finds.1) (tried.gives (open_first world (suc number) limit more) ∙ ap (λ l. open_first world (suc number) limit l) none);
        whole = (tried.whole, spare.1);
        fits = tt;
      }

module _ (told : Option Table) (name second : List ℕ) (limit : ℕ) (first_try : IsTry told name limit TriedAbsent) where
  pub second_opened : (text : String Global) (bytes : Vec ℕ Global) → second ≡ string_bytes text → IsTry told second limit (TriedOpened bytes) → IsOpening told (name ∷ second ∷ []) limit (Opened text bytes)
  second_opened text bytes named tried = record {
    first = first_try.finding;
    second = tried.finding;
    gives = λ number world finds. rw (finds.0, finds.1, finds.2, finds.3) (first_try.gives _ ∙ tried.gives none_found) ∙ ap (λ n. opened n bytes.items) named;
    whole = (first_try.whole, tried.whole);
    fits = tried.fits;
  }

  pub second_absent : IsTry told second limit TriedAbsent → IsOpening told (name ∷ second ∷ []) limit Absent
  second_absent tried = record {
    first = first_try.finding;
    second = tried.finding;
    gives = λ number world finds. rw (finds.0, finds.1, finds.2, finds.3) (first_try.gives _ ∙ tried.gives none_found);
    whole = (first_try.whole, tried.whole);
    fits = tt;
  }

  pub second_too_long : IsTry told second limit TriedTooLong → IsOpening told (name ∷ second ∷ []) limit TooLong
  second_too_long tried = record {
    first = first_try.finding;
    second = tried.finding;
    gives = λ number world finds. rw (finds.0, finds.1, finds.2, finds.3) (first_try.gives _ ∙ tried.gives none_found);
    whole = (first_try.whole, tried.whole);
    fits = tt;
  }

  pub second_failed : IsTry told second limit TriedFailed → IsOpening told (name ∷ second ∷ []) limit Failed
  second_failed tried = record {
    first = first_try.finding;
    second = tried.finding;
    gives = λ number world finds. rw (finds.0, finds.1, finds.2, finds.3) (first_try.gives _ ∙ tried.gives none_found);
    whole = tt;
    fits = tt;
  }
