-- Tests that the reading makes, as the definitions say them.
use Rattle.std.proofs.Common.{◌≡◌, ℕ, ◌≤◌, Bool, true, false, true≢false, ◌&&◌, nat_eq, eqb, List, [], ◌∷◌, ◌++◌, length, slice_index_or, refl, sym, ap, ◌∙◌, eqb-true, eq-eqb, arith}
use Rattle.std.specs.List.{list_all, prefix_len, starts_with}
use Rattle.mg_word.specs.Spelling.{is_lower_letter, is_word_byte, is_lower_word}
use Rattle.term_text.specs.Fronts.{begins_with}
use Rattle.term_text.proofs.Texts.{cut_whole, whole_cut}

test_is : (a b : Bool) → (a ≡ true → b ≡ true) → (b ≡ true → a ≡ true) → a ≡ b
test_is true true forth back = refl
test_is false false forth back = refl
test_is true false forth back = absurd (true≢false (sym (forth refl)))
test_is false true forth back = absurd (true≢false (sym (back refl)))

pub lower_word_tested : (name : List ℕ) → 1 ≤ length name → is_lower_letter (slice_index_or name 0 0) ≡ true → eqb (prefix_len is_word_byte name) (length name) ≡ is_lower_word name
lower_word_tested [] some lower = absurd (omega arith)
lower_word_tested (first ∷ name) some lower =
    test_is (eqb (prefix_len is_word_byte (first ∷ name)) (length (first ∷ name))) (list_all is_word_byte (first ∷ name))
    (λ same. cut_whole is_word_byte (first ∷ name) (eqb-true _ _ same))
    (λ all. eq-eqb _ _ (whole_cut is_word_byte (first ∷ name) all))
    ∙ sym (ap (λ b. b && list_all is_word_byte (first ∷ name)) lower)

pub starts_is : (word bytes : List ℕ) → starts_with nat_eq bytes word ≡ begins_with word bytes
starts_is [] bytes = refl
starts_is (byte ∷ word) [] = refl
starts_is (byte ∷ word) (first ∷ bytes) = ap (λ b. nat_eq byte first && b) (starts_is word bytes)

pub begins_split : (word bytes : List ℕ) → begins_with word bytes ≡ true → (rest : List ℕ) × (bytes ≡ word ++ rest)
begins_split [] bytes begins = (bytes, refl)
begins_split (byte ∷ word) [] begins = absurd (true≢false (sym begins))
begins_split (byte ∷ word) (first ∷ bytes) begins = by (nat_eq byte first) refl begins (begins_split word bytes)
  where
    by : (b : Bool) → nat_eq byte first ≡ b → (b && begins_with word bytes) ≡ true → (begins_with word bytes ≡ true → (rest : List ℕ) × (bytes ≡ word ++ rest)) → (rest : List ℕ) × (first ∷ bytes ≡ (byte ∷ word) ++ rest)
    by true same begins go =
        let rest = go begins in
        let heads : byte ≡ first = eqb-true byte first same in
        let tails : bytes ≡ word ++ rest.0 = rest.1 in
        (rest.0, cc)
    by false other begins go = absurd (true≢false (sym begins))

pub begins_itself : (word rest : List ℕ) → begins_with word (word ++ rest) ≡ true
begins_itself [] rest = refl
begins_itself (byte ∷ word) rest = ap (λ b. b && begins_with word (word ++ rest)) (eq-eqb byte byte refl) ∙ begins_itself word rest
