-- Lines that are spelled alike are the same, whatever follows, where the words that they name are spelled apart.
use Rattle.std.proofs.Common.{◌≡◌, ℕ, ◌+◌, ◌*◌, ◌^◌, ◌<◌, Bool, true, false, List, ◌∷◌, ◌++◌, map, drop, get_or, All, refl, sym, ap, ◌∙◌, append_assoc, arith}
use Rattle.std.specs.Fmt.{decimal}
use Rattle.mg_word.specs.OneSpelling.{ends_word}
use Rattle.term_text.specs.Brackets.{listed}
use Rattle.term_text.specs.Terms.{ends_term}
use Rattle.term_text.proofs.Texts.{heads, tails}
use Rattle.term_text.proofs.Apart.{AreApart, numbers_apart, lists_apart}
use Rattle.proof_tree.specs.DocLines.{DocLine, header_line, lemma_line, inside_line, outside_line, root_line, form_line, clash_line, barred_line, by_line, line_text}
use Rattle.term_text.specs.Lits.{lit_text}

-- the first two bytes of a text, as one number
abbrev pub front_of : List ℕ → ℕ
front_of text = get_or text 0 0 * 256 + get_or text 1 0

-- what a line has to meet: its numbers fit 32 bits, and its words are such
abbrev pub HasParts : {W : Type 0} → (W → Type 0) → DocLine W → Type 0
HasParts P (lemma_line number) = number < 2 ^ 32
HasParts P (inside_line lits) = All (λ lit. P lit.atom) lits
HasParts P (outside_line lits) = All (λ lit. P lit.atom) lits
HasParts P (form_line number terms) = (number < 2 ^ 32) × All P terms
HasParts P (clash_line lit) = P lit.atom
HasParts P (barred_line lit) = P lit.atom
HasParts P (by_line number) = number < 2 ^ 32
HasParts P line = Unit {0}

module _ {W : Type 0} (spell : W → List ℕ) (P : W → Type 0) (are : AreApart spell P) (unsigned : (word : W) (more further : List ℕ) → P word → spell word ++ more ≡ 126 ∷ further → ⊥) where
  -- literals over such words are spelled apart
  lit_apart : (sign mark : Bool) (a b : W) (more further : List ℕ) → P a → P b → ends_word more ≡ true → ends_word further ≡ true
      → lit_text spell (record { negative = sign; atom = a }) ++ more ≡ lit_text spell (record { negative = mark; atom = b }) ++ further → (sign ≡ mark) × (a ≡ b) × (more ≡ further)
  lit_apart true true a b more further here there end stop same = let atoms = are.apart a b more further here there end stop (tails 126 126 _ _ same) in (refl, atoms.0, atoms.1)
  lit_apart false false a b more further here there end stop same = let atoms = are.apart a b more further here there end stop same in (refl, atoms.0, atoms.1)
  lit_apart true false a b more further here there end stop same = absurd (unsigned b further (spell a ++ more) there (sym same))
  lit_apart false true a b more further here there end stop same = absurd (unsigned a more (spell b ++ further) here same)

  lit_some : (sign : Bool) (a : W) (more further : List ℕ) → P a → ends_term more ≡ true → lit_text spell (record { negative = sign; atom = a }) ++ more ≡ 93 ∷ further → ⊥
  lit_some true a more further here end same = omega (arith, heads 126 93 _ further same)
  lit_some false a more further here end same = are.some a more further here end same

  lits_are : AreApart (lit_text spell) (λ lit. P lit.atom)
  lits_are = record {
    apart = λ a b more further here there end stop same. let parts = lit_apart a.negative b.negative a.atom b.atom more further here there end stop same in ((λ i. record { negative = parts.0 i; atom = parts.1 i }), parts.2);
    some = λ a more further here end same. lit_some a.negative a.atom more further here end same;
  }

  -- lines over such words are spelled apart
  pub line_apart : (a b : DocLine W) (more further : List ℕ) → HasParts P a → HasParts P b → line_text spell a ++ 10 ∷ more ≡ line_text spell b ++ 10 ∷ further → (a ≡ b) × (more ≡ further)
  line_apart header_line header_line more further here there same = (refl, ap (drop 12) same)
  line_apart root_line root_line more further here there same = (refl, ap (drop 5) same)
  line_apart (lemma_line n) (lemma_line m) more further here there same =
      let numbers = numbers_apart n m (10 ∷ more) (10 ∷ further) here there refl refl (ap (drop 6) same) in
      ((λ i. lemma_line (numbers.0 i)), tails 10 10 more further numbers.1)
  line_apart (by_line n) (by_line m) more further here there same =
      let numbers = numbers_apart n m (10 ∷ more) (10 ∷ further) here there refl refl (ap (drop 3) same) in
      ((λ i. by_line (numbers.0 i)), tails 10 10 more further numbers.1)
  line_apart (inside_line a) (inside_line b) more further here there same =
      let lists = lists_apart (lit_text spell) (λ lit. P lit.atom) lits_are a b (10 ∷ more) (10 ∷ further) here there (ap (drop 7) same) in
      ((λ i. inside_line (lists.0 i)), tails 10 10 more further lists.1)
  line_apart (outside_line a) (outside_line b) more further here there same =
      let lists = lists_apart (lit_text spell) (λ lit. P lit.atom) lits_are a b (10 ∷ more) (10 ∷ further) here there (ap (drop 8) same) in
      ((λ i. outside_line (lists.0 i)), tails 10 10 more further lists.1)
  line_apart (form_line n a) (form_line m b) more further here there same =
      let first = numbers_apart n m ((32 ∷ listed (map spell a)) ++ 10 ∷ more) ((32 ∷ listed (map spell b)) ++ 10 ∷ further) here.0 there.0 refl refl
      (sym (append_assoc (decimal n) (32 ∷ listed (map spell a)) (10 ∷ more)) ∙ (ap (drop 5) same ∙ append_assoc (decimal m) (32 ∷ listed (map spell b)) (10 ∷ further))) in
      let lists = lists_apart spell P are a b (10 ∷ more) (10 ∷ further) here.1 there.1 (tails 32 32 _ _ first.1) in
      ((λ i. form_line (first.0 i) (lists.0 i)), tails 10 10 more further lists.1)
  line_apart (clash_line a) (clash_line b) more further here there same =
      let lits = lits_are.apart a b (10 ∷ more) (10 ∷ further) here there refl refl (ap (drop 6) same) in
      ((λ i. clash_line (lits.0 i)), tails 10 10 more further lits.1)
  line_apart (barred_line a) (barred_line b) more further here there same =
      let lits = lits_are.apart a b (10 ∷ more) (10 ∷ further) here there refl refl (ap (drop 7) same) in
      ((λ i. barred_line (lits.0 i)), tails 10 10 more further lits.1)
  line_apart a b more further here there same = absurd (omega (arith, ap front_of same))
