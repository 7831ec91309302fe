-- The last part of a path, slash by slash, and the stem of a name.
use Rattle.std.proofs.Common.{◌≡◌, ◌≢◌, ◌<◌, ◌-◌, ℕ, suc, Bool, true, false, true≢false, nat_eq, ◌||◌, List, [], ◌∷◌, ◌++◌, length, get_or, take, drop, refl, sym, ap, ◌∙◌, arith, eqb-true}
use Rattle.std.specs.Prelude.{codes}
use Rattle.std.specs.List.{list_any, ends_with}
use Rattle.std.specs.Bool.{if◌then◌else◌}
use Rattle.std.specs.Cmp.Lexicographic.{bytes_decides}
use Rattle.std.proofs.lemmas.List.{take-append-drop}
use Rattle.szs_report.specs.Names.{is_slash, last_part, stem_of}

choice_false : {X : Type 0} (b : Bool) (x y : X) → b ≡ false → (if b then x else y) ≡ y
choice_false b x y is = rw is refl

choice_true : {X : Type 0} (b : Bool) (x y : X) → b ≡ true → (if b then x else y) ≡ x
choice_true b x y is = rw is refl

-- a path without slashs has none in its first place, nor behind that
no_slashs : (path : List ℕ) → ((i : ℕ) → i < length path → get_or path i 0 ≢ 47) → list_any is_slash path ≡ false
no_slashs [] none = refl
no_slashs (byte ∷ path) none = by (is_slash byte) refl (no_slashs path (λ i within is. none (suc i) (omega arith) is))
  where
    by : (b : Bool) → is_slash byte ≡ b → list_any is_slash path ≡ false → list_any is_slash (byte ∷ path) ≡ false
    by true is rest = absurd (none 0 (omega arith) (eqb-true byte 47 is))
    by false is rest = ap (λ b. b || list_any is_slash path) is ∙ rest

whole : (path : List ℕ) → list_any is_slash path ≡ false → last_part path ≡ path
whole [] none = refl
whole (byte ∷ path) none =
    let rest : list_any is_slash path ≡ false = second (is_slash byte) (list_any is_slash path) none in
    let here : is_slash byte ≡ false = first (is_slash byte) (list_any is_slash path) none in
    choice_false (list_any is_slash path) (last_part path) (if is_slash byte then path else byte ∷ path) rest ∙ choice_false (is_slash byte) path (byte ∷ path) here
  where
    first : (a b : Bool) → (a || b) ≡ false → a ≡ false
    first true b is = is
    first false b is = refl

    second : (a b : Bool) → (a || b) ≡ false → b ≡ false
    second true b is = absurd (true≢false is)
    second false b is = is

-- a path without slashs is its own last part
pub whole_is_last : (path : List ℕ) → ((i : ℕ) → i < length path → get_or path i 0 ≢ 47) → last_part path ≡ path
whole_is_last path none = whole path (no_slashs path none)

slash_there : (front behind : List ℕ) → list_any is_slash (front ++ 47 ∷ behind) ≡ true
slash_there [] behind = refl
slash_there (byte ∷ front) behind = either (is_slash byte) (list_any is_slash (front ++ 47 ∷ behind)) (slash_there front behind)
  where
    either : (a b : Bool) → b ≡ true → (a || b) ≡ true
    either true b is = refl
    either false b is = is

-- what stands before a slash is no part of the last part
pub behind_is_last : (front behind : List ℕ) → last_part (front ++ 47 ∷ behind) ≡ last_part behind
behind_is_last [] behind = by (list_any is_slash behind) refl
  where
    by : (b : Bool) → list_any is_slash behind ≡ b → last_part (47 ∷ behind) ≡ last_part behind
    by true some = choice_true (list_any is_slash behind) (last_part behind) behind some
    by false none = choice_false (list_any is_slash behind) (last_part behind) behind none ∙ sym (whole behind none)
behind_is_last (byte ∷ front) behind =
    choice_true (list_any is_slash (front ++ 47 ∷ behind)) (last_part (front ++ 47 ∷ behind)) (if is_slash byte then front ++ 47 ∷ behind else byte ∷ (front ++ 47 ∷ behind)) (slash_there front behind)
    ∙ behind_is_last front behind

-- what stands behind the last slash is the last part
pub slash_at : (path behind : List ℕ) (i j : ℕ) → drop i path ≡ 47 ∷ drop j path → behind ≡ drop j path → ((k : ℕ) → k < length (drop j path) → get_or (drop j path) k 0 ≢ 47) → behind ≡ last_part path
slash_at path behind i j split is none =
    is
    ∙ (sym (whole_is_last (drop j path) none)
    ∙ (sym (behind_is_last (take i path) (drop j path))
    ∙ ap last_part (ap (λ rest. take i path ++ rest) (sym split) ∙ take-append-drop i path)))

-- a name that does not end with .p is its own stem
pub own_stem : (name : List ℕ) → ((front : List ℕ) → name ≢ front ++ codes ".p") → name ≡ stem_of name
own_stem name none = by (ends_with nat_eq name (codes ".p")) refl
  where
    by : (b : Bool) → ends_with nat_eq name (codes ".p") ≡ b → name ≡ stem_of name
    by true is =
        absurd
        (none (take (length name - 2) name)
        (sym (take-append-drop (length name - 2) name) ∙ ap (λ rest. take (length name - 2) name ++ rest) (sym ((bytes_decides (codes ".p") (drop (length name - 2) name)).0 is))))
    by false is = rw is refl
