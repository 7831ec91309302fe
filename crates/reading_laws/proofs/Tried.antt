-- The names that are tried are those of their rules.
use Rattle.std.proofs.Common.{◌≡◌, ◌⊎◌, inl, inr, ℕ, ◌+◌, ◌-◌, Bool, true, false, true≢false, cond, ◌==◌, List, [], ◌∷◌, ◌++◌, length, take, get_or, slice_get, Option, Some, None, refl, sym, ap, ◌∙◌, arith, if◌then◌else◌, length-append}
use Rattle.std.proofs.lemmas.Bool.{eqb-true}
use Rattle.std.proofs.lemmas.List.{take_all, take_more, get_or-append-add}
use Rattle.std.proofs.lemmas.Option.{slice_get_within, get_or_from_slice_get, slice_get-get_or}
use Rattle.cnf_reader.specs.Names.{slash, is_slash, ends_with_slash, folder_of, is_absolute, with_slash, tries_at, tries}
use Rattle.cnf_reader.proofs.Folding.{folder_is, one_folder}
use Rattle.reading_laws.specs.Rules.{BeginsWithSlash, EndsWithSlash, IsRooted, has_slash, gets_slash, AreTries, as_it_is, beside, beside_then_root}

-- a name begins with a slash exactly where the test says so
begins-cases : (name : List ℕ) → (BeginsWithSlash name × (is_absolute name ≡ true)) ⊎ ((BeginsWithSlash name → ⊥) × (is_absolute name ≡ false))
begins-cases [] = inr (λ begins. absurd (nothing begins.0 begins.1), refl)
  where
    nothing : (rest : List ℕ) → [] ≡ slash ∷ rest → ⊥
    nothing rest e = cc
begins-cases (byte ∷ name) = by (byte == slash) refl
  where
    by : (t : Bool) → byte == slash ≡ t → (BeginsWithSlash (byte ∷ name) × (is_absolute (byte ∷ name) ≡ true)) ⊎ ((BeginsWithSlash (byte ∷ name) → ⊥) × (is_absolute (byte ∷ name) ≡ false))
    by true e = inl ((name, ap (λ b. b ∷ name) (eqb-true byte slash e)), e)
    by false e = inr (λ begins. let same : byte ≡ slash = cc in true≢false (sym (ap (λ b. b == slash) same) ∙ e), e)

slash-last : (name : List ℕ) → ends_with_slash name ≡ true → EndsWithSlash name
slash-last name e = by (slice_get name (length name - 1)) refl e
  where
    by : (last : Option ℕ) → slice_get name (length name - 1) ≡ last → is_slash last ≡ true → EndsWithSlash name
    by None f is = absurd (true≢false (sym is))
    by (Some byte) f is =
        let within = slice_get_within name (length name - 1) byte f in
        let at = get_or_from_slice_get name (length name - 1) byte 0 f in (
          take (length name - 1) name,
          sym (take_all (length name - 1 + 1) name (omega (arith, within))) ∙ take_more name (length name - 1) 0 within ∙ ap (λ b. take (length name - 1) name ++ b ∷ []) (at ∙ eqb-true byte slash is),
        )

last-slash : (name : List ℕ) → EndsWithSlash name → ends_with_slash name ≡ true
last-slash name (front, is) =
    let long : length (front ++ slash ∷ []) ≡ length front + 1 = length-append front (slash ∷ []) in
    let size : length (front ++ slash ∷ []) - 1 ≡ length front + 0 = omega (arith, long) in
    let last : get_or (front ++ slash ∷ []) (length (front ++ slash ∷ []) - 1) 0 ≡ slash = ap (λ n. get_or (front ++ slash ∷ []) n 0) size ∙ get_or-append-add front (slash ∷ []) 0 0 in
    ap ends_with_slash is ∙ ap is_slash (slice_get-get_or (front ++ slash ∷ []) (length (front ++ slash ∷ []) - 1) 0 (omega (arith, long)) ∙ ap Some last)

rooted-as : (root front : List ℕ) → IsRooted root front → front ≡ with_slash root
rooted-as root front (has_slash ends is) = is ∙ sym (ap (λ t. cond t root (root ++ slash ∷ [])) (last-slash root ends))
rooted-as root front (gets_slash none is) = is ∙ sym (by (ends_with_slash root) refl)
  where
    by : (t : Bool) → ends_with_slash root ≡ t → cond t root (root ++ slash ∷ []) ≡ root ++ slash ∷ []
    by true e = absurd (none (slash-last root e))
    by false e = refl

rooted-so : (root : List ℕ) → IsRooted root (with_slash root)
rooted-so root = by (ends_with_slash root) refl
  where
    by : (t : Bool) → ends_with_slash root ≡ t → IsRooted root (cond t root (root ++ slash ∷ []))
    by true e = has_slash (slash-last root e) refl
    by false e = gets_slash (λ ends. true≢false (sym (last-slash root ends) ∙ e)) refl

module _ (root : Option (List ℕ)) (including file : List ℕ) where
  not-begun : (BeginsWithSlash file → ⊥) → tries root including file ≡ (folder_of including ++ file) ∷ tries_at root file
  not-begun none = by (begins-cases file)
    where
      by : (BeginsWithSlash file × (is_absolute file ≡ true)) ⊎ ((BeginsWithSlash file → ⊥) × (is_absolute file ≡ false)) → tries root including file ≡ (folder_of including ++ file) ∷ tries_at root file
      by (inl (begins, e)) = absurd (none begins)
      by (inr (never, e)) = ap (λ t. if t then file ∷ [] else (folder_of including ++ file) ∷ tries_at root file) e

  begun : BeginsWithSlash file → tries root including file ≡ file ∷ []
  begun begins = by (begins-cases file)
    where
      by : (BeginsWithSlash file × (is_absolute file ≡ true)) ⊎ ((BeginsWithSlash file → ⊥) × (is_absolute file ≡ false)) → tries root including file ≡ file ∷ []
      by (inl (same, e)) = ap (λ t. if t then file ∷ [] else (folder_of including ++ file) ∷ tries_at root file) e
      by (inr (never, e)) = absurd (never begins)

  pub tries-as : (names : List (List ℕ)) → AreTries root including file names → names ≡ tries root including file
  tries-as names (as_it_is begins is) = is ∙ sym (begun begins)
  tries-as names (beside folder none no_root in_folder is) =
      is ∙ ap (λ f. (f ++ file) ∷ []) (one_folder including folder (folder_of including) in_folder (folder_is including))
      ∙ ap (λ r. (folder_of including ++ file) ∷ tries_at r file) (sym no_root) ∙ sym (not-begun none)
  tries-as names (beside_then_root folder top front none some_root in_folder rooted is) =
      is ∙ (λ i. (one_folder including folder (folder_of including) in_folder (folder_is including) i ++ file) ∷ ((rooted-as top front rooted i ++ file) ∷ []))
      ∙ ap (λ r. (folder_of including ++ file) ∷ tries_at r file) (sym some_root) ∙ sym (not-begun none)

  pub tries-so : AreTries root including file (tries root including file)
  tries-so = by (begins-cases file) root refl
    where
      by : (BeginsWithSlash file × (is_absolute file ≡ true)) ⊎ ((BeginsWithSlash file → ⊥) × (is_absolute file ≡ false)) → (at : Option (List ℕ)) → root ≡ at → AreTries root including file (tries root including file)
      by (inl (begins, e)) at is = as_it_is begins (begun begins)
      by (inr (none, e)) None is = beside (folder_of including) none is (folder_is including) (not-begun none ∙ ap (λ r. (folder_of including ++ file) ∷ tries_at r file) is)
      by (inr (none, e)) (Some top) is =
          beside_then_root (folder_of including) top (with_slash top) none is (folder_is including) (rooted-so top) (not-begun none ∙ ap (λ r. (folder_of including ++ file) ∷ tries_at r file) is)
