-- The four shapes of a name, told apart by its first byte.
use Rattle.std.proofs.Common.{◌≡◌, ℕ, ◌≤◌, Bool, true, false, true≢false, not, ◌&&◌, ◌||◌, nat_eq, ◌⊎◌, inl, inr, List, [], ◌∷◌, ◌++◌, length, refl, sym, ap, ◌∙◌, subst, append_assoc, arith}
use Rattle.std.specs.List.{list_all, flat_map}
use Rattle.std.specs.Bool.{if◌then◌else◌}
use Rattle.std.proofs.lemmas.Bool.Decides.{nat_tests}
use Rattle.mg_word.specs.Facts.{is_name_byte, is_digit, is_plain_number}
use Rattle.mg_word.specs.Spelling.{is_lower_letter, is_upper_letter, is_word_byte, is_lower_word, begins_lower, escaped, quoted}
use Rattle.mg_word.specs.declared.symbol.Kind.{Kind}
use Rattle.mg_word.specs.declared.symbol.Kind.TheVariants.{Word, Integer, Distinct}
use Rattle.term_text.specs.Names.{IsNameAt, IsOnlyName, IsQuotedAt, IsOnlyQuoted, NoName, ends_name, quoted_kind, begins_digit}
use Rattle.mg_word.proofs.Members.{both_true, and_true}
use Rattle.ascii_text.proofs.Cuts.{stops, IsCut, cut_unique}
use Rattle.term_text.proofs.Texts.{not_true, all_weaker, heads, tails}

pub record IsBare (bytes : List ℕ) (kind : Kind) (name rest : List ℕ) : Type 0 where
  pub kind_is : kind ≡ Word
  pub lower : is_lower_word name ≡ true
  pub text : name ++ rest ≡ bytes

pub record IsPlain (bytes : List ℕ) (kind : Kind) (name rest : List ℕ) : Type 0 where
  pub kind_is : kind ≡ Integer
  pub plain : is_plain_number name ≡ true
  pub text : name ++ rest ≡ bytes

pub record IsBetween (quote : ℕ) (bytes : List ℕ) (kind : Kind) (name rest : List ℕ) : Type 0 where
  pub kind_is : kind ≡ quoted_kind quote
  pub not_bare : quote ≡ 39 → is_lower_word name ≡ false
  pub good : list_all is_name_byte name ≡ true
  pub text : quote ∷ (flat_map (escaped quote) name ++ quote ∷ rest) ≡ bytes

pub shapes : (bytes : List ℕ) (kind : Kind) (name rest : List ℕ) → IsNameAt bytes kind name rest → (IsBare bytes kind name rest ⊎ IsPlain bytes kind name rest) ⊎ (IsBetween 39 bytes kind name rest ⊎ IsBetween 34 bytes kind name rest)
shapes bytes Word name rest is = by (is_lower_word name) refl is.text
  where
    by : (b : Bool) → is_lower_word name ≡ b → (if b then name else quoted 39 name) ++ rest ≡ bytes
        → (IsBare bytes Word name rest ⊎ IsPlain bytes Word name rest) ⊎ (IsBetween 39 bytes Word name rest ⊎ IsBetween 34 bytes Word name rest)
    by true lower text = inl (inl (record { kind_is = refl; lower = lower; text = text }))
    by false other text =
        inr (inl (record { kind_is = refl; not_bare = λ same. other; good = is.good; text = ap (λ l. 39 ∷ l) (sym (append_assoc (flat_map (escaped 39) name) (39 ∷ []) rest)) ∙ text }))
shapes bytes Integer name rest is = inl (inr (record { kind_is = refl; plain = (both_true (is_plain_number name) true is.good).0; text = is.text }))
shapes bytes Distinct name rest is =
    inr (inr (record { kind_is = refl; not_bare = λ same. cc; good = (both_true (list_all is_name_byte name) true is.good).0; text = ap (λ l. 34 ∷ l) (sym (append_assoc (flat_map (escaped 34) name) (34 ∷ []) rest)) ∙ is.text }))

pub bare_first : (bytes : List ℕ) (kind : Kind) (name rest : List ℕ) → IsBare bytes kind name rest → begins_lower bytes ≡ true
bare_first bytes kind [] rest is = absurd (true≢false (sym is.lower))
bare_first bytes kind (first ∷ name) rest is = subst (λ l. begins_lower l ≡ true) is.text (both_true (is_lower_letter first) (list_all is_word_byte (first ∷ name)) is.lower).0

pub plain_digits : (name : List ℕ) → is_plain_number name ≡ true → list_all is_digit name ≡ true
plain_digits [] plain = refl
plain_digits (first ∷ []) plain = and_true (is_digit first) true plain refl
plain_digits (first ∷ second ∷ name) plain = (both_true _ (list_all is_digit (first ∷ second ∷ name)) plain).1

pub plain_first : (bytes : List ℕ) (kind : Kind) (name rest : List ℕ) → IsPlain bytes kind name rest → begins_digit bytes ≡ true
plain_first bytes kind [] rest is = absurd (true≢false (sym is.plain))
plain_first bytes kind (first ∷ name) rest is =
    subst (λ l. begins_digit l ≡ true) is.text (both_true (is_digit first) (list_all is_digit name) (plain_digits (first ∷ name) is.plain)).0

pub no_both : (bytes : List ℕ) → begins_lower bytes ≡ true → begins_digit bytes ≡ true → ⊥
no_both [] lower digit = true≢false (sym lower)
no_both (first ∷ bytes) lower digit = grind (arith, nat_tests)

no_lower_quote : (quote : ℕ) (bytes more : List ℕ) (kind : Kind) (name rest : List ℕ) → (quote ≡ 34) ⊎ (quote ≡ 39) → IsBetween quote bytes kind name rest → begins_lower bytes ≡ true → ⊥
no_lower_quote quote bytes more kind name rest (inl is) so lower =
    true≢false (sym (subst (λ l. begins_lower l ≡ true) (sym so.text) lower) ∙ ap is_lower_letter is)
no_lower_quote quote bytes more kind name rest (inr is) so lower =
    true≢false (sym (subst (λ l. begins_lower l ≡ true) (sym so.text) lower) ∙ ap is_lower_letter is)

no_digit_quote : (quote : ℕ) (bytes : List ℕ) (kind : Kind) (name rest : List ℕ) → (quote ≡ 34) ⊎ (quote ≡ 39) → IsBetween quote bytes kind name rest → begins_digit bytes ≡ true → ⊥
no_digit_quote quote bytes kind name rest (inl is) so digit =
    true≢false (sym (subst (λ l. begins_digit l ≡ true) (sym so.text) digit) ∙ ap is_digit is)
no_digit_quote quote bytes kind name rest (inr is) so digit =
    true≢false (sym (subst (λ l. begins_digit l ≡ true) (sym so.text) digit) ∙ ap is_digit is)

pub ends_stops : (rest : List ℕ) → ends_name rest ≡ true → stops is_word_byte rest ≡ true
ends_stops [] ends = refl
ends_stops (byte ∷ rest) ends = ends

pub stops_ends : (rest : List ℕ) → stops is_word_byte rest ≡ true → ends_name rest ≡ true
stops_ends [] ends = refl
stops_ends (byte ∷ rest) ends = ends

digit_is_word : (byte : ℕ) → is_digit byte ≡ true → is_word_byte byte ≡ true
digit_is_word byte digit = by (is_lower_letter byte) (is_upper_letter byte)
  where
    by : (a b : Bool) → (a || (b || (is_digit byte || nat_eq byte 95))) ≡ true
    by true b = refl
    by false true = refl
    by false false = ap (λ d. d || nat_eq byte 95) digit

lower_is_word : (byte : ℕ) → is_lower_letter byte ≡ true → is_word_byte byte ≡ true
lower_is_word byte lower = ap (λ d. d || (is_upper_letter byte || (is_digit byte || nat_eq byte 95))) lower

word_is_name : (byte : ℕ) → is_word_byte byte ≡ true → is_name_byte byte ≡ true
word_is_name byte word = grind (arith, nat_tests)

no_digits_end : (rest : List ℕ) → ends_name rest ≡ true → stops is_digit rest ≡ true
no_digits_end [] ends = refl
no_digits_end (byte ∷ rest) ends = by (is_digit byte) refl
  where
    by : (b : Bool) → is_digit byte ≡ b → not b ≡ true
    by true digit = absurd (true≢false (sym (digit_is_word byte digit) ∙ not_true (is_word_byte byte) ends))
    by false other = refl

word_front : (bytes front rest : List ℕ) → begins_lower bytes ≡ true → IsCut is_word_byte bytes front rest → is_lower_word front ≡ true
word_front [] [] rest lower cut = absurd (true≢false (sym lower))
word_front (first ∷ bytes) [] rest lower cut =
    absurd (true≢false (sym (lower_is_word first lower) ∙ not_true (is_word_byte first) (subst (λ l. stops is_word_byte l ≡ true) cut.split cut.ends)))
word_front bytes (first ∷ front) rest lower cut =
    and_true (is_lower_letter first) (list_all is_word_byte (first ∷ front)) (subst (λ l. begins_lower l ≡ true) (sym cut.split) lower) cut.all

pub word_taken : (bytes front rest : List ℕ) → begins_lower bytes ≡ true → IsCut is_word_byte bytes front rest → IsOnlyName bytes Word front rest
word_taken bytes front rest lower cut =
    let bare = word_front bytes front rest lower cut in
    record {
      is = record {
        good = all_weaker is_word_byte is_name_byte word_is_name front cut.all;
        text = ap (λ b. (if b then front else quoted 39 front) ++ rest) bare ∙ cut.split;
        ends = stops_ends rest cut.ends;
      };
      only = λ k n r is. by k n r is (shapes bytes k n r is);
    }
  where
    by : (k : Kind) (n r : List ℕ) → IsNameAt bytes k n r → (IsBare bytes k n r ⊎ IsPlain bytes k n r) ⊎ (IsBetween 39 bytes k n r ⊎ IsBetween 34 bytes k n r) → (k ≡ Word) × (n ≡ front) × (r ≡ rest)
    by k n r is (inl (inl so)) =
        let same = cut_unique is_word_byte n r front rest (both_true (begins_lower n) (list_all is_word_byte n) so.lower).1 cut.all (ends_stops r is.ends) cut.ends (so.text ∙ sym cut.split) in
        (so.kind_is, same.0, same.1)
    by k n r is (inl (inr so)) = absurd (no_both bytes lower (plain_first bytes k n r so))
    by k n r is (inr (inl so)) = absurd (no_lower_quote 39 bytes [] k n r (inr refl) so lower)
    by k n r is (inr (inr so)) = absurd (no_lower_quote 34 bytes [] k n r (inl refl) so lower)

integer_only : (bytes front rest : List ℕ) → begins_digit bytes ≡ true → IsCut is_digit bytes front rest → (k : Kind) (n r : List ℕ) → IsNameAt bytes k n r
    → (k ≡ Integer) × (n ≡ front) × (r ≡ rest) × (is_plain_number n ≡ true)
integer_only bytes front rest digit cut k n r is = by (shapes bytes k n r is)
  where
    by : (IsBare bytes k n r ⊎ IsPlain bytes k n r) ⊎ (IsBetween 39 bytes k n r ⊎ IsBetween 34 bytes k n r) → (k ≡ Integer) × (n ≡ front) × (r ≡ rest) × (is_plain_number n ≡ true)
    by (inl (inl so)) = absurd (no_both bytes (bare_first bytes k n r so) digit)
    by (inl (inr so)) =
        let same = cut_unique is_digit n r front rest (plain_digits n so.plain) cut.all (no_digits_end r is.ends) cut.ends (so.text ∙ sym cut.split) in
        (so.kind_is, same.0, same.1, so.plain)
    by (inr (inl so)) = absurd (no_digit_quote 39 bytes k n r (inr refl) so digit)
    by (inr (inr so)) = absurd (no_digit_quote 34 bytes k n r (inl refl) so digit)

pub integer_taken : (bytes front rest : List ℕ) → begins_digit bytes ≡ true → IsCut is_digit bytes front rest → is_plain_number front ≡ true → ends_name rest ≡ true → IsOnlyName bytes Integer front rest
integer_taken bytes front rest digit cut plain ends = record {
  is = record { good = and_true (is_plain_number front) true plain refl; text = cut.split; ends = ends };
  only = λ k n r is. let all = integer_only bytes front rest digit cut k n r is in (all.0, all.1, all.2);
}

pub integer_not_plain : (bytes front rest : List ℕ) → begins_digit bytes ≡ true → IsCut is_digit bytes front rest → is_plain_number front ≡ false → NoName bytes
integer_not_plain bytes front rest digit cut other k n r is =
    let all = integer_only bytes front rest digit cut k n r is in
    true≢false (sym all.3 ∙ (ap is_plain_number all.1 ∙ other))

pub integer_goes_on : (bytes front rest : List ℕ) → begins_digit bytes ≡ true → IsCut is_digit bytes front rest → ends_name rest ≡ false → NoName bytes
integer_goes_on bytes front rest digit cut other k n r is =
    let all = integer_only bytes front rest digit cut k n r is in
    true≢false (sym is.ends ∙ (ap ends_name all.2 ∙ other))

-- a name of a text that begins with a quote
pub record IsInQuotes (quote : ℕ) (bytes : List ℕ) (kind : Kind) (name rest : List ℕ) : Type 0 where
  pub kind_is : kind ≡ quoted_kind quote
  pub quoted_is : IsQuotedAt quote bytes name rest
  pub not_bare : (nat_eq quote 39 && is_lower_word name) ≡ false

between_is : (quote : ℕ) (behind : List ℕ) (k : Kind) (n r : List ℕ) → IsBetween quote (quote ∷ behind) k n r → (nat_eq quote 39 && is_lower_word n) ≡ false → IsInQuotes quote behind k n r
between_is quote behind k n r so other = record {
  kind_is = so.kind_is;
  quoted_is = record { good = so.good; text = tails quote quote (flat_map (escaped quote) n ++ quote ∷ r) behind so.text };
  not_bare = other;
}

between_only : (quote : ℕ) (behind : List ℕ) → (quote ≡ 34) ⊎ (quote ≡ 39) → (k : Kind) (n r : List ℕ) → IsNameAt (quote ∷ behind) k n r → IsInQuotes quote behind k n r
between_only quote behind known k n r is = by known (shapes (quote ∷ behind) k n r is)
  where
    by : (quote ≡ 34) ⊎ (quote ≡ 39) → (IsBare (quote ∷ behind) k n r ⊎ IsPlain (quote ∷ behind) k n r) ⊎ (IsBetween 39 (quote ∷ behind) k n r ⊎ IsBetween 34 (quote ∷ behind) k n r) → IsInQuotes quote behind k n r
    by (inl is34) (inl (inl so)) = absurd (true≢false (sym (bare_first (quote ∷ behind) k n r so) ∙ ap is_lower_letter is34))
    by (inr is39) (inl (inl so)) = absurd (true≢false (sym (bare_first (quote ∷ behind) k n r so) ∙ ap is_lower_letter is39))
    by (inl is34) (inl (inr so)) = absurd (true≢false (sym (plain_first (quote ∷ behind) k n r so) ∙ ap is_digit is34))
    by (inr is39) (inl (inr so)) = absurd (true≢false (sym (plain_first (quote ∷ behind) k n r so) ∙ ap is_digit is39))
    by (inr is39) (inr (inl so)) =
        subst (λ q. IsInQuotes q behind k n r) (sym is39)
        (between_is 39 behind k n r (subst (λ q. IsBetween 39 (q ∷ behind) k n r) is39 so) (so.not_bare refl))
    by (inl is34) (inr (inr so)) =
        subst (λ q. IsInQuotes q behind k n r) (sym is34) (between_is 34 behind k n r (subst (λ q. IsBetween 34 (q ∷ behind) k n r) is34 so) refl)
    by (inl is34) (inr (inl so)) = let first = heads 39 quote _ behind so.text in absurd (omega (arith, first, is34))
    by (inr is39) (inr (inr so)) = let first = heads 34 quote _ behind so.text in absurd (omega (arith, first, is39))

name_of_quoted : (quote : ℕ) (behind name rest : List ℕ) → (quote ≡ 34) ⊎ (quote ≡ 39) → IsQuotedAt quote behind name rest → ends_name rest ≡ true → (nat_eq quote 39 && is_lower_word name) ≡ false → IsNameAt (quote ∷ behind) (quoted_kind quote) name rest
name_of_quoted quote behind name rest (inl is34) so ends other =
    subst (λ q. IsNameAt (q ∷ behind) (quoted_kind q) name rest) (sym is34)
    (record {
      good = and_true (list_all is_name_byte name) true so.good refl;
      text = ap (λ l. 34 ∷ l) (append_assoc (flat_map (escaped 34) name) (34 ∷ []) rest ∙ subst (λ q. flat_map (escaped q) name ++ q ∷ rest ≡ behind) is34 so.text);
      ends = ends;
    })
name_of_quoted quote behind name rest (inr is39) so ends other =
    subst (λ q. IsNameAt (q ∷ behind) (quoted_kind q) name rest) (sym is39)
    (record {
      good = so.good;
      text =
          ap (λ b. (if b then name else quoted 39 name) ++ rest) (subst (λ q. (nat_eq q 39 && is_lower_word name) ≡ false) is39 other)
          ∙ ap (λ l. 39 ∷ l) (append_assoc (flat_map (escaped 39) name) (39 ∷ []) rest ∙ subst (λ q. flat_map (escaped q) name ++ q ∷ rest ≡ behind) is39 so.text);
      ends = ends;
    })

pub between_taken : (quote : ℕ) (behind name rest : List ℕ) → (quote ≡ 34) ⊎ (quote ≡ 39) → IsOnlyQuoted quote behind name rest → ends_name rest ≡ true → (nat_eq quote 39 && is_lower_word name) ≡ false → IsOnlyName (quote ∷ behind) (quoted_kind quote) name rest
between_taken quote behind name rest known so ends other = record {
  is = name_of_quoted quote behind name rest known so.is ends other;
  only = λ k n r is.
      let here = between_only quote behind known k n r is in
      let same = so.only n r here.quoted_is in
      (here.kind_is, same.0, same.1);
}

pub between_none : (quote : ℕ) (behind : List ℕ) → (quote ≡ 34) ⊎ (quote ≡ 39) → ((n r : List ℕ) → IsQuotedAt quote behind n r → ⊥) → NoName (quote ∷ behind)
between_none quote behind known none k n r is = none n r (between_only quote behind known k n r is).quoted_is

pub between_goes_on : (quote : ℕ) (behind name rest : List ℕ) → (quote ≡ 34) ⊎ (quote ≡ 39) → IsOnlyQuoted quote behind name rest → ends_name rest ≡ false → NoName (quote ∷ behind)
between_goes_on quote behind name rest known so other k n r is =
    let same = so.only n r (between_only quote behind known k n r is).quoted_is in
    true≢false (sym is.ends ∙ (ap ends_name same.1 ∙ other))

pub between_bare : (quote : ℕ) (behind name rest : List ℕ) → (quote ≡ 34) ⊎ (quote ≡ 39) → IsOnlyQuoted quote behind name rest → (nat_eq quote 39 && is_lower_word name) ≡ true → NoName (quote ∷ behind)
between_bare quote behind name rest known so bare k n r is =
    let here = between_only quote behind known k n r is in
    let same = so.only n r here.quoted_is in
    true≢false (sym bare ∙ (ap (λ l. nat_eq quote 39 && is_lower_word l) (sym same.0) ∙ here.not_bare))

pub none_other : (first : ℕ) (more : List ℕ) → is_lower_letter first ≡ false → is_digit first ≡ false → (first ≡ 39 → ⊥) → (first ≡ 34 → ⊥) → NoName (first ∷ more)
none_other first more lower digit single double k n r is = by (shapes (first ∷ more) k n r is)
  where
    by : (IsBare (first ∷ more) k n r ⊎ IsPlain (first ∷ more) k n r) ⊎ (IsBetween 39 (first ∷ more) k n r ⊎ IsBetween 34 (first ∷ more) k n r) → ⊥
    by (inl (inl so)) = true≢false (sym (bare_first (first ∷ more) k n r so) ∙ lower)
    by (inl (inr so)) = true≢false (sym (plain_first (first ∷ more) k n r so) ∙ digit)
    by (inr (inl so)) = single (sym (heads 39 first _ more so.text))
    by (inr (inr so)) = double (sym (heads 34 first _ more so.text))

pub none_empty : NoName []
none_empty k n r is = by (shapes [] k n r is)
  where
    by : (IsBare [] k n r ⊎ IsPlain [] k n r) ⊎ (IsBetween 39 [] k n r ⊎ IsBetween 34 [] k n r) → ⊥
    by (inl (inl so)) = true≢false (sym (bare_first [] k n r so))
    by (inl (inr so)) = true≢false (sym (plain_first [] k n r so))
    by (inr (inl so)) = let same = so.text in cc
    by (inr (inr so)) = let same = so.text in cc

-- a name is written as at least one byte
pub no_empty_name : (bytes : List ℕ) (kind : Kind) (name rest : List ℕ) → IsNameAt bytes kind name rest → 1 ≤ length bytes
no_empty_name [] kind name rest is = absurd (none_empty kind name rest is)
no_empty_name (byte ∷ bytes) kind name rest is = omega arith
