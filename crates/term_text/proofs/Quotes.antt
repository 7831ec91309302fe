-- Names between quotes: how their bytes are written, and how they are read byte by byte.
use Rattle.std.proofs.Common.{◌≡◌, ℕ, Bool, true, false, ◌||◌, nat_eq, ◌⊎◌, inl, inr, List, [], ◌∷◌, ◌++◌, refl, sym, ap, ◌∙◌, subst, append_assoc, append-nil, arith}
use Rattle.std.specs.List.{list_all, flat_map}
use Rattle.std.specs.Bool.{if◌then◌else◌}
use Rattle.std.proofs.lemmas.Bool.Decides.{nat_tests}
use Rattle.mg_word.specs.Facts.{is_name_byte}
use Rattle.mg_word.specs.Spelling.{escaped}
use Rattle.term_text.specs.Names.{IsQuotedAt, IsOnlyQuoted, IsByteAt, NoByte, IsUnquoting}
use Rattle.mg_word.proofs.Members.{both_true, and_true}

abbrev IsQuote : ℕ → Type 0
IsQuote quote = (quote ≡ 34) ⊎ (quote ≡ 39)

is_special : ℕ → ℕ → Bool
is_special quote byte = nat_eq byte quote || nat_eq byte 92

-- a quote is no backslash
apart : (quote : ℕ) → IsQuote quote → 92 ≡ quote → ⊥
apart quote (inl is) same = omega (arith, is, same)
apart quote (inr is) same = omega (arith, is, same)

plain_apart : (quote byte : ℕ) → (nat_eq byte quote || nat_eq byte 92) ≡ false → (byte ≡ quote → ⊥) × (byte ≡ 92 → ⊥)
plain_apart quote byte plain = (λ same. grind (arith, nat_tests), λ same. grind (arith, nat_tests))

pub escaped_unique : (quote a b : ℕ) (r s : List ℕ) → escaped quote a ++ r ≡ escaped quote b ++ s → (a ≡ b) × (r ≡ s)
escaped_unique quote a b r s same = by (nat_eq a quote || nat_eq a 92) (nat_eq b quote || nat_eq b 92) refl refl same
  where
    by : (x y : Bool) → (nat_eq a quote || nat_eq a 92) ≡ x → (nat_eq b quote || nat_eq b 92) ≡ y
        → (if x then 92 ∷ a ∷ [] else a ∷ []) ++ r ≡ (if y then 92 ∷ b ∷ [] else b ∷ []) ++ s → (a ≡ b) × (r ≡ s)
    by true true p q same = (cc, cc)
    by false false p q same = (cc, cc)
    by true false p q same = let is : b ≡ 92 = cc in absurd ((plain_apart quote b q).1 is)
    by false true p q same = let is : a ≡ 92 = cc in absurd ((plain_apart quote a p).1 is)

-- no byte of a name is written as the quote
pub escaped_begins : (quote byte : ℕ) (r s : List ℕ) → IsQuote quote → escaped quote byte ++ r ≡ quote ∷ s → ⊥
escaped_begins quote byte r s known same = by (nat_eq byte quote || nat_eq byte 92) refl same
  where
    by : (x : Bool) → (nat_eq byte quote || nat_eq byte 92) ≡ x → (if x then 92 ∷ byte ∷ [] else byte ∷ []) ++ r ≡ quote ∷ s → ⊥
    by true p same = let is : 92 ≡ quote = cc in apart quote known is
    by false p same = let is : byte ≡ quote = cc in (plain_apart quote byte p).0 is

pub unquoting_begins : (quote : ℕ) (bytes have : List ℕ) → have ≡ [] → IsUnquoting quote bytes bytes have
unquoting_begins quote bytes have none =
    subst (λ l. IsUnquoting quote bytes bytes l) (sym none) (record { sound = λ name behind is. is; only = λ name behind is. (name, is, refl) })

quoted_more : (quote byte : ℕ) (rest after n r : List ℕ) → IsByteAt quote rest byte after → IsQuotedAt quote after n r → IsQuotedAt quote rest (byte ∷ n) r
quoted_more quote byte rest after n r here is = record {
  good = and_true (is_name_byte byte) (list_all is_name_byte n) here.good is.good;
  text = append_assoc (escaped quote byte) (flat_map (escaped quote) n) (quote ∷ r) ∙ (ap (λ l. escaped quote byte ++ l) is.text ∙ here.text);
}

quoted_less : (quote byte : ℕ) (rest after n r : List ℕ) → IsQuote quote → IsByteAt quote rest byte after → IsQuotedAt quote rest n r → (more : List ℕ) × IsQuotedAt quote after more r × (n ≡ byte ∷ more)
quoted_less quote byte rest after [] r known here is = absurd (escaped_begins quote byte after r known (here.text ∙ sym is.text))
quoted_less quote byte rest after (m ∷ n) r known here is =
    let same = escaped_unique quote m byte (flat_map (escaped quote) n ++ quote ∷ r) after (sym (append_assoc (escaped quote m) (flat_map (escaped quote) n) (quote ∷ r)) ∙ (is.text ∙ sym here.text)) in
    (n, record { good = (both_true (is_name_byte m) (list_all is_name_byte n) is.good).1; text = same.1 }, ap (λ x. x ∷ n) same.0)

pub unquoting_more : (quote byte : ℕ) (bytes rest after have : List ℕ) → IsQuote quote → IsByteAt quote rest byte after → IsUnquoting quote bytes rest have → IsUnquoting quote bytes after (have ++ byte ∷ [])
unquoting_more quote byte bytes rest after have known here so = record {
  sound = λ n r is. subst (λ l. IsQuotedAt quote bytes l r) (sym (append_assoc have (byte ∷ []) n)) (so.sound (byte ∷ n) r (quoted_more quote byte rest after n r here is));
  only = λ n r is.
      let some = so.only n r is in
      let less = quoted_less quote byte rest after some.0 r known here some.1 in
      (less.0, less.1, some.2 ∙ (ap (λ l. have ++ l) less.2 ∙ sym (append_assoc have (byte ∷ []) less.0)));
}

pub unquoting_ends : (quote : ℕ) (bytes rest after have : List ℕ) → IsQuote quote → rest ≡ quote ∷ after → IsUnquoting quote bytes rest have → IsOnlyQuoted quote bytes have after
unquoting_ends quote bytes rest after have known begins so = record {
  is = subst (λ l. IsQuotedAt quote bytes l after) (append-nil have) (so.sound [] after (record { good = refl; text = sym begins }));
  only = λ n r is. let some = so.only n r is in by some.0 r n some.1 some.2;
}
  where
    by : (more r n : List ℕ) → IsQuotedAt quote rest more r → n ≡ have ++ more → (n ≡ have) × (r ≡ after)
    by [] r n is same = let ends : quote ∷ r ≡ quote ∷ after = is.text ∙ begins in (same ∙ append-nil have, cc)
    by (m ∷ more) r n is same =
        absurd (escaped_begins quote m (flat_map (escaped quote) more ++ quote ∷ r) after known (sym (append_assoc (escaped quote m) (flat_map (escaped quote) more) (quote ∷ r)) ∙ (is.text ∙ begins)))

pub unquoting_stops : (quote first : ℕ) (bytes rest more have : List ℕ) → rest ≡ first ∷ more → (first ≡ quote → ⊥) → NoByte quote rest → IsUnquoting quote bytes rest have → (n r : List ℕ) → IsQuotedAt quote bytes n r → ⊥
unquoting_stops quote first bytes rest more have begins other none so n r is = let some = so.only n r is in by some.0 some.1
  where
    by : (left : List ℕ) → IsQuotedAt quote rest left r → ⊥
    by [] here = let same : first ∷ more ≡ quote ∷ r = sym begins ∙ sym here.text in other cc
    by (m ∷ left) here =
        none m (flat_map (escaped quote) left ++ quote ∷ r)
        (record { good = (both_true (is_name_byte m) (list_all is_name_byte left) here.good).0; text = sym (append_assoc (escaped quote m) (flat_map (escaped quote) left) (quote ∷ r)) ∙ here.text })
