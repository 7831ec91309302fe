-- A spelled name tells its kind and its bytes, whatever follows it.
use Rattle.std.proofs.Common.{◌≡◌, ◌≢◌, ℕ, ◌+◌, ◌<◌, Bool, true, false, true≢false, ◌||◌, nat_eq, nat_le, List, [], ◌∷◌, ◌++◌, flat_map, if◌then◌else◌, inl, inr, ◌⊎◌, refl, sym, ap, ◌∙◌, arith, append_assoc}
use Rattle.std.specs.List.{list_all}
use Rattle.std.proofs.lemmas.Bool.{and_parts, and_from, or_right}
use Rattle.std.proofs.lemmas.Bool.Decides.{nat_tests}
use Rattle.mg_word.specs.Facts.{is_digit, is_plain_number, suits}
use Rattle.mg_word.specs.Spelling.{is_lower_letter, is_upper_letter, is_word_byte, begins_lower, is_lower_word, escaped, quoted, spelled_name}
use Rattle.mg_word.specs.declared.symbol.Kind.{Kind}
use Rattle.mg_word.specs.declared.symbol.Kind.TheVariants.{Word, Integer, Distinct}

-- no byte of a word stands first
abbrev pub Stops : List ℕ → Type 0
Stops [] = Unit {0}
Stops (byte ∷ bytes) = is_word_byte byte ≡ false

-- bytes of words end at the same place
words_same : (a b more further : List ℕ) → list_all is_word_byte a ≡ true → list_all is_word_byte b ≡ true → Stops more → Stops further → a ++ more ≡ b ++ further → (a ≡ b) × (more ≡ further)
words_same [] [] more further all_a all_b stops halts e = (refl, e)
words_same [] (y ∷ b) [] further all_a all_b stops halts e = cc
words_same [] (y ∷ b) (x ∷ more) further all_a all_b stops halts e =
    let first : x ≡ y = cc in
    absurd (true≢false (sym (and_parts (is_word_byte y) (list_all is_word_byte b) all_b).0 ∙ ap is_word_byte (sym first) ∙ stops))
words_same (x ∷ a) [] more [] all_a all_b stops halts e = cc
words_same (x ∷ a) [] more (y ∷ further) all_a all_b stops halts e =
    let first : x ≡ y = cc in
    absurd (true≢false (sym (and_parts (is_word_byte x) (list_all is_word_byte a) all_a).0 ∙ ap is_word_byte first ∙ halts))
words_same (x ∷ a) (y ∷ b) more further all_a all_b stops halts e =
    let first : x ≡ y = cc in
    let rest : a ++ more ≡ b ++ further = cc in
    let same = words_same a b more further (and_parts (is_word_byte x) (list_all is_word_byte a) all_a).1 (and_parts (is_word_byte y) (list_all is_word_byte b) all_b).1 stops halts rest in
    (cc, same.1)

-- a byte stands behind a backslash, or it is neither the quote nor a backslash
escape_cases : (quote byte : ℕ) → (escaped quote byte ≡ 92 ∷ byte ∷ []) ⊎ ((escaped quote byte ≡ byte ∷ []) × (byte ≢ quote) × (byte ≢ 92))
escape_cases quote byte = by (nat_eq byte quote) refl (nat_eq byte 92) refl
  where
    apart : (n m : ℕ) → nat_eq n m ≡ false → n ≢ m
    apart n m differ same = grind (arith, nat_tests)

    by : (first : Bool) → nat_eq byte quote ≡ first → (second : Bool) → nat_eq byte 92 ≡ second → (escaped quote byte ≡ 92 ∷ byte ∷ []) ⊎ ((escaped quote byte ≡ byte ∷ []) × (byte ≢ quote) × (byte ≢ 92))
    by true is second is' = inl (ap (λ b. if b || nat_eq byte 92 then 92 ∷ byte ∷ [] else byte ∷ []) is)
    by false is true is' = inl (ap (λ b. if b || nat_eq byte 92 then 92 ∷ byte ∷ [] else byte ∷ []) is ∙ ap (λ b. if b then 92 ∷ byte ∷ [] else byte ∷ []) is')
    by false is false is' = inr (ap (λ b. if b || nat_eq byte 92 then 92 ∷ byte ∷ [] else byte ∷ []) is ∙ ap (λ b. if b then 92 ∷ byte ∷ [] else byte ∷ []) is', apart byte quote is, apart byte 92 is')

-- the bytes between quotes end at the closing one
quotes_same : (quote : ℕ) → quote ≢ 92 → (a b more further : List ℕ) → flat_map (escaped quote) a ++ quote ∷ more ≡ flat_map (escaped quote) b ++ quote ∷ further → (a ≡ b) × (more ≡ further)
quotes_same quote plain [] [] more further e = (refl, cc)
quotes_same quote plain [] (y ∷ b) more further e = elim (escape_cases quote y) [
  | inl is ↦ let e' : quote ∷ more ≡ 92 ∷ y ∷ (flat_map (escaped quote) b ++ quote ∷ further) = rw is at e in absurd (plain cc)
  | inr is ↦ let e' : quote ∷ more ≡ y ∷ (flat_map (escaped quote) b ++ quote ∷ further) = rw is.0 at e in absurd (is.1 cc)
]
quotes_same quote plain (x ∷ a) [] more further e = elim (escape_cases quote x) [
  | inl is ↦ let e' : 92 ∷ x ∷ (flat_map (escaped quote) a ++ quote ∷ more) ≡ quote ∷ further = rw is at e in absurd (plain cc)
  | inr is ↦ let e' : x ∷ (flat_map (escaped quote) a ++ quote ∷ more) ≡ quote ∷ further = rw is.0 at e in absurd (is.1 cc)
]
quotes_same quote plain (x ∷ a) (y ∷ b) more further e = by (escape_cases quote x) (escape_cases quote y) (quotes_same quote plain a b more further)
  where
    by : (escaped quote x ≡ 92 ∷ x ∷ []) ⊎ ((escaped quote x ≡ x ∷ []) × (x ≢ quote) × (x ≢ 92)) → (escaped quote y ≡ 92 ∷ y ∷ []) ⊎ ((escaped quote y ≡ y ∷ []) × (y ≢ quote) × (y ≢ 92))
        → (flat_map (escaped quote) a ++ quote ∷ more ≡ flat_map (escaped quote) b ++ quote ∷ further → (a ≡ b) × (more ≡ further)) → (x ∷ a ≡ y ∷ b) × (more ≡ further)
    by (inl is) (inl is') further_same =
        let e' : 92 ∷ x ∷ (flat_map (escaped quote) a ++ quote ∷ more) ≡ 92 ∷ y ∷ (flat_map (escaped quote) b ++ quote ∷ further) = rw (is, is') at e in
        let first : x ≡ y = cc in
        let same = further_same cc in
        (cc, same.1)
    by (inl is) (inr is') further_same =
        let e' : 92 ∷ x ∷ (flat_map (escaped quote) a ++ quote ∷ more) ≡ y ∷ (flat_map (escaped quote) b ++ quote ∷ further) = rw (is, is'.0) at e in
        absurd (is'.2 cc)
    by (inr is) (inl is') further_same =
        let e' : x ∷ (flat_map (escaped quote) a ++ quote ∷ more) ≡ 92 ∷ y ∷ (flat_map (escaped quote) b ++ quote ∷ further) = rw (is.0, is') at e in
        absurd (is.2 cc)
    by (inr is) (inr is') further_same =
        let e' : x ∷ (flat_map (escaped quote) a ++ quote ∷ more) ≡ y ∷ (flat_map (escaped quote) b ++ quote ∷ further) = rw (is.0, is'.0) at e in
        let first : x ≡ y = cc in
        let same = further_same cc in
        (cc, same.1)

quoted_same : (quote : ℕ) → quote ≢ 92 → (a b more further : List ℕ) → quoted quote a ++ more ≡ quoted quote b ++ further → (a ≡ b) × (more ≡ further)
quoted_same quote plain a b more further e =
    let rest : (flat_map (escaped quote) a ++ quote ∷ []) ++ more ≡ (flat_map (escaped quote) b ++ quote ∷ []) ++ further = cc in
    let left = append_assoc (flat_map (escaped quote) a) (quote ∷ []) more in
    let right = append_assoc (flat_map (escaped quote) b) (quote ∷ []) further in
    quotes_same quote plain a b more further (sym left ∙ rest ∙ right)

digit_word : (byte : ℕ) → is_digit byte ≡ true → is_word_byte byte ≡ true
digit_word byte is = or_right (is_lower_letter byte) (is_upper_letter byte || (is_digit byte || nat_eq byte 95)) (or_right (is_upper_letter byte) (is_digit byte || nat_eq byte 95) (ap (λ b. b || nat_eq byte 95) is))

digits_words : (bytes : List ℕ) → list_all is_digit bytes ≡ true → list_all is_word_byte bytes ≡ true
digits_words [] all = refl
digits_words (byte ∷ bytes) all =
    let parts = and_parts (is_digit byte) (list_all is_digit bytes) all in
    and_from (is_word_byte byte) (list_all is_word_byte bytes) (digit_word byte parts.0) (digits_words bytes parts.1)

number_words : (name : List ℕ) → is_plain_number name ≡ true → list_all is_word_byte name ≡ true
number_words [] plain = cc
number_words (digit ∷ []) plain = and_from (is_word_byte digit) true (digit_word digit plain) refl
number_words (digit ∷ second ∷ digits) plain = digits_words (digit ∷ second ∷ digits) (and_parts (nat_le 49 digit) (list_all is_digit (digit ∷ second ∷ digits)) plain).1

first : List ℕ → ℕ
first [] = 0
first (byte ∷ bytes) = byte

-- what kind of byte it is: a lower-case letter, a digit, or any other one by itself
tag : ℕ → ℕ
tag byte = if is_lower_letter byte then 0 else if is_digit byte then 1 else byte + 2

not_lower : (byte : ℕ) → is_digit byte ≡ true → is_lower_letter byte ≡ false
not_lower byte is = grind (arith, nat_tests)

lower_tag : (byte : ℕ) → is_lower_letter byte ≡ true → tag byte ≡ 0
unfolding tag
lower_tag byte is = ap (λ b. if b then 0 else if is_digit byte then 1 else byte + 2) is

digit_tag : (byte : ℕ) → is_digit byte ≡ true → tag byte ≡ 1
unfolding tag
digit_tag byte is = ap (λ b. if b then 0 else if is_digit byte then 1 else byte + 2) (not_lower byte is) ∙ ap (λ b. if b then 1 else byte + 2) is

-- the four ways in which names are spelled
data View (kind : Kind) (name : List ℕ) : Type 0 where
  bare : kind ≡ Word → is_lower_word name ≡ true → spelled_name kind name ≡ name → View kind name
  word : kind ≡ Word → spelled_name kind name ≡ quoted 39 name → View kind name
  number : kind ≡ Integer → is_plain_number name ≡ true → spelled_name kind name ≡ name → View kind name
  text : kind ≡ Distinct → spelled_name kind name ≡ quoted 34 name → View kind name

view : (kind : Kind) (name : List ℕ) (arity : ℕ) → suits kind name arity ≡ true → View kind name
view Word name arity suit = by (is_lower_word name) refl
  where
    by : (lower : Bool) → is_lower_word name ≡ lower → View Word name
    by true is = bare refl is (ap (λ b. if b then name else quoted 39 name) is)
    by false is = word refl (ap (λ b. if b then name else quoted 39 name) is)
view Integer name arity suit = number refl (and_parts (is_plain_number name) (nat_eq arity 0) suit).0 refl
view Distinct name arity suit = text refl refl

view_tag : {kind : Kind} {name : List ℕ} → View kind name → ℕ
view_tag (bare k lower is) = 0
view_tag (word k is) = 41
view_tag (number k plain is) = 1
view_tag (text k is) = 36

bare_first : (name more : List ℕ) → is_lower_word name ≡ true → tag (first (name ++ more)) ≡ 0
unfolding first
bare_first [] more lower = cc
bare_first (byte ∷ name) more lower = lower_tag byte (and_parts (is_lower_letter byte) (list_all is_word_byte (byte ∷ name)) lower).0

number_first : (name more : List ℕ) → is_plain_number name ≡ true → tag (first (name ++ more)) ≡ 1
unfolding first
number_first [] more plain = cc
number_first (digit ∷ []) more plain = digit_tag digit plain
number_first (digit ∷ second ∷ digits) more plain =
    digit_tag digit (and_parts (is_digit digit) (list_all is_digit (second ∷ digits)) (and_parts (nat_le 49 digit) (list_all is_digit (digit ∷ second ∷ digits)) plain).1).0

view_first : {kind : Kind} {name : List ℕ} (v : View kind name) (more : List ℕ) → tag (first (spelled_name kind name ++ more)) ≡ view_tag v
unfolding view_tag first tag
view_first {kind} {name} (bare k lower is) more = rw is (bare_first name more lower)
view_first {kind} {name} (word k is) more = rw is refl
view_first {kind} {name} (number k plain is) more = rw is (number_first name more plain)
view_first {kind} {name} (text k is) more = rw is refl

-- equal texts begin alike
begin_alike : {kind other : Kind} {name called : List ℕ} (v : View kind name) (w : View other called) (more further : List ℕ) → spelled_name kind name ++ more ≡ spelled_name other called ++ further → view_tag v ≡ view_tag w
begin_alike v w more further e = sym (view_first v more) ∙ ap (λ bytes. tag (first bytes)) e ∙ view_first w further

views_same : {kind other : Kind} {name called : List ℕ} (v : View kind name) (w : View other called) (more further : List ℕ) → Stops more → Stops further → spelled_name kind name ++ more ≡ spelled_name other called ++ further
    → view_tag v ≡ view_tag w → (kind ≡ other) × (name ≡ called) × (more ≡ further)
unfolding view_tag
views_same {kind} {other} {name} {called} (bare k lower is) (bare k' lower' is') more further stops halts e alike =
    let e' : name ++ more ≡ called ++ further = rw (is, is') at e in
    let same = words_same name called more further (and_parts (begins_lower name) (list_all is_word_byte name) lower).1 (and_parts (begins_lower called) (list_all is_word_byte called) lower').1 stops halts e' in
    (k ∙ sym k', same.0, same.1)
views_same (bare k lower is) (word k' is') more further stops halts e alike = absurd (omega arith)
views_same (bare k lower is) (number k' plain' is') more further stops halts e alike = absurd (omega arith)
views_same (bare k lower is) (text k' is') more further stops halts e alike = absurd (omega arith)
views_same (word k is) (bare k' lower' is') more further stops halts e alike = absurd (omega arith)
views_same {kind} {other} {name} {called} (word k is) (word k' is') more further stops halts e alike =
    let same = quoted_same 39 (λ no. omega arith) name called more further (rw (is, is') at e) in
    (k ∙ sym k', same.0, same.1)
views_same (word k is) (number k' plain' is') more further stops halts e alike = absurd (omega arith)
views_same (word k is) (text k' is') more further stops halts e alike = absurd (omega arith)
views_same (number k plain is) (bare k' lower' is') more further stops halts e alike = absurd (omega arith)
views_same (number k plain is) (word k' is') more further stops halts e alike = absurd (omega arith)
views_same {kind} {other} {name} {called} (number k plain is) (number k' plain' is') more further stops halts e alike =
    let e' : name ++ more ≡ called ++ further = rw (is, is') at e in
    let same = words_same name called more further (number_words name plain) (number_words called plain') stops halts e' in
    (k ∙ sym k', same.0, same.1)
views_same (number k plain is) (text k' is') more further stops halts e alike = absurd (omega arith)
views_same (text k is) (bare k' lower' is') more further stops halts e alike = absurd (omega arith)
views_same (text k is) (word k' is') more further stops halts e alike = absurd (omega arith)
views_same (text k is) (number k' plain' is') more further stops halts e alike = absurd (omega arith)
views_same {kind} {other} {name} {called} (text k is) (text k' is') more further stops halts e alike =
    let same = quoted_same 34 (λ no. omega arith) name called more further (rw (is, is') at e) in
    (k ∙ sym k', same.0, same.1)

-- a spelled name tells its kind, its bytes and what follows
pub name_same : (kind other : Kind) (name called : List ℕ) (arity count : ℕ) (more further : List ℕ) → suits kind name arity ≡ true → suits other called count ≡ true → Stops more → Stops further
    → spelled_name kind name ++ more ≡ spelled_name other called ++ further → (kind ≡ other) × (name ≡ called) × (more ≡ further)
name_same kind other name called arity count more further suit suit' stops halts e =
    let v = view kind name arity suit in
    let w = view other called count suit' in
    views_same v w more further stops halts e (begin_alike v w more further e)

-- no name begins with `~`
pub no_sign_first : (kind : Kind) (name : List ℕ) (arity : ℕ) (more further : List ℕ) → suits kind name arity ≡ true → spelled_name kind name ++ more ≡ 126 ∷ further → ⊥
unfolding view_tag tag first
no_sign_first kind name arity more further suit e = by (view kind name arity suit)
  where
    wrong : (n : ℕ) → n ≡ 128 → n < 100 → ⊥
    wrong n is low = omega arith

    low : {k : Kind} {a : List ℕ} (v : View k a) → view_tag v < 100
    low (bare k lower is) = omega arith
    low (word k is) = omega arith
    low (number k plain is) = omega arith
    low (text k is) = omega arith

    sign : tag (first (126 ∷ further)) ≡ 128
    sign = refl

    by : View kind name → ⊥
    by v = wrong (view_tag v) (sym (view_first v more) ∙ ap (λ bytes. tag (first bytes)) e ∙ sign) (low v)
