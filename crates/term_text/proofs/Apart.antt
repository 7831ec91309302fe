-- Numbers, words, literals and lists of them that are spelled alike are the same, whatever follows.
use Rattle.std.proofs.Common.{◌≡◌, ◌≢◌, ℕ, ◌^◌, ◌<◌, Bool, true, false, List, [], ◌∷◌, ◌++◌, map, All, AllPairs, refl, sym, ◌∙◌, append_assoc, arith}
use Rattle.std.specs.List.{list_all}
use Rattle.std.specs.Fmt.{decimal}
use Rattle.std.proofs.lemmas.List.Elements.{All-head, All-tail}
use Rattle.mg_word.specs.Table.{Symbol}
use Rattle.mg_word.specs.Words.{fits}
use Rattle.mg_word.specs.Facts.{is_symbol, is_digit}
use Rattle.mg_word.specs.Spelling.{spelled, spelled_lit, symbols_at}
use Rattle.mg_word.specs.OneSpelling.{ends_word}
use Rattle.mg_word.proofs.SpelledWords.{words_apart, lits_apart}
use Rattle.term_text.specs.Words.{IsWordOf}
use Rattle.term_text.specs.Brackets.{after_items, listed}
use Rattle.term_text.specs.Terms.{ends_term, NoTerm}
use Rattle.ascii_text.proofs.Cuts.{stops, cut_unique}
use Rattle.term_text.proofs.Texts.{heads, tails}
use Rattle.ascii_text.proofs.Digits.{decimal_same, decimal_digits}
use Rattle.term_text.proofs.NameShapes.{none_other}
use Rattle.term_text.proofs.Reaching.{starts_ahead}
use Rattle.term_text.proofs.TermEnds.{stuck_name}
use Rattle.term_text.proofs.SymbolWords.{own_word}

pub numbers_apart : (n m : ℕ) (more further : List ℕ) → n < 2 ^ 32 → m < 2 ^ 32 → stops is_digit more ≡ true → stops is_digit further ≡ true → decimal n ++ more ≡ decimal m ++ further → (n ≡ m) × (more ≡ further)
numbers_apart n m more further small fits end stop same =
    let cut = cut_unique is_digit (decimal n) more (decimal m) further (decimal_digits n small) (decimal_digits m fits) end stop same in
    (decimal_same n m small fits cut.0, cut.1)

-- no term begins with a closing bracket
pub no_term_at_end : (rest : List ℕ) → NoTerm (93 ∷ rest)
no_term_at_end rest = stuck_name (93 ∷ rest) [] [] (93 ∷ rest) (none_other 93 rest refl refl (λ same. omega (arith, same)) (λ same. omega (arith, same))) (starts_ahead (93 ∷ rest))

-- items that are spelled apart, whatever follows, and none of which begins with a closing bracket
pub record AreApart {X : Type 0} (spell : X → List ℕ) (P : X → Type 0) : Type 0 where
  pub apart : (x y : X) (more further : List ℕ) → P x → P y → ends_word more ≡ true → ends_word further ≡ true → spell x ++ more ≡ spell y ++ further → (x ≡ y) × (more ≡ further)
  pub some : (x : X) (more further : List ℕ) → P x → ends_term more ≡ true → spell x ++ more ≡ 93 ∷ further → ⊥

module _ {X : Type 0} (spell : X → List ℕ) (P : X → Type 0) (are : AreApart spell P) where
  after_stops : (xs : List X) (more : List ℕ) → ends_word (after_items (map spell xs) ++ more) ≡ true
  after_stops [] more = refl
  after_stops (x ∷ xs) more = refl

  after_ends : (xs : List X) (more : List ℕ) → ends_term (after_items (map spell xs) ++ more) ≡ true
  after_ends [] more = refl
  after_ends (x ∷ xs) more = refl

  item_apart : (x y : X) (xs ys : List X) (more further : List ℕ) → P x → P y → (spell x ++ after_items (map spell xs)) ++ more ≡ (spell y ++ after_items (map spell ys)) ++ further
      → (x ≡ y) × (after_items (map spell xs) ++ more ≡ after_items (map spell ys) ++ further)
  item_apart x y xs ys more further here there same =
      are.apart x y (after_items (map spell xs) ++ more) (after_items (map spell ys) ++ further) here there (after_stops xs more) (after_stops ys further)
      (sym (append_assoc (spell x) (after_items (map spell xs)) more) ∙ (same ∙ append_assoc (spell y) (after_items (map spell ys)) further))

  after_apart : (xs ys : List X) (more further : List ℕ) → All P xs → All P ys → after_items (map spell xs) ++ more ≡ after_items (map spell ys) ++ further → (xs ≡ ys) × (more ≡ further)
  after_apart [] [] more further all each same = (refl, tails 93 93 more further same)
  after_apart [] (y ∷ ys) more further all each same = absurd (omega (arith, heads 93 44 more _ same))
  after_apart (x ∷ xs) [] more further all each same = absurd (omega (arith, heads 44 93 _ further same))
  after_apart (x ∷ xs) (y ∷ ys) more further all each same =
      let here = item_apart x y xs ys more further (All-head P x xs all) (All-head P y ys each) (tails 44 44 _ _ same) in
      let rest = after_apart xs ys more further (All-tail P x xs all) (All-tail P y ys each) here.1 in
      ((λ i. here.0 i ∷ rest.0 i), rest.1)

  none_some : (y : X) (ys : List X) (more further : List ℕ) → P y → (spell y ++ after_items (map spell ys)) ++ further ≡ 93 ∷ more → ⊥
  none_some y ys more further there same =
      are.some y (after_items (map spell ys) ++ further) more there (after_ends ys further) (sym (append_assoc (spell y) (after_items (map spell ys)) further) ∙ same)

  -- lists of such items are spelled apart
  pub lists_apart : (xs ys : List X) (more further : List ℕ) → All P xs → All P ys → listed (map spell xs) ++ more ≡ listed (map spell ys) ++ further → (xs ≡ ys) × (more ≡ further)
  lists_apart [] [] more further all each same = (refl, tails 93 93 more further (tails 91 91 _ _ same))
  lists_apart [] (y ∷ ys) more further all each same = absurd (none_some y ys more further (All-head P y ys each) (sym (tails 91 91 _ _ same)))
  lists_apart (x ∷ xs) [] more further all each same = absurd (none_some x xs further more (All-head P x xs all) (tails 91 91 _ _ same))
  lists_apart (x ∷ xs) (y ∷ ys) more further all each same =
      let here = item_apart x y xs ys more further (All-head P x xs all) (All-head P y ys each) (tails 91 91 _ _ same) in
      let rest = after_apart xs ys more further (All-tail P x xs all) (All-tail P y ys each) here.1 in
      ((λ i. here.0 i ∷ rest.0 i), rest.1)

module _ (table : List Symbol) (named : list_all is_symbol table ≡ true) where
  no_word_end : (word more further : List ℕ) → fits table word ≡ true → ends_term more ≡ true → spelled table word ++ more ≡ 93 ∷ further → ⊥
  no_word_end word more further fit end same = no_term_at_end further (symbols_at table word) more (record { own = own_word table named 1 word fit; text = same; ends = end })

  module _ (different : AllPairs (λ a b. a ≢ b) table) where
    pub terms_apart : AreApart (spelled table) (IsWordOf table)
    terms_apart = record {
      apart = λ a b more further here there end stop same. words_apart table a b more further different named here.0 there.0 end stop same;
      some = λ a more further here end same. no_word_end a more further here.0 end same;
    }

    lit_some : (negative : Bool) (word more further : List ℕ) → fits table word ≡ true → ends_term more ≡ true → spelled_lit table (record { negative = negative; word = word }) ++ more ≡ 93 ∷ further → ⊥
    lit_some true word more further fit end same = omega (arith, heads 126 93 _ further same)
    lit_some false word more further fit end same = no_word_end word more further fit end same

    pub literals_apart : AreApart (spelled_lit table) (λ lit. IsWordOf table lit.word)
    literals_apart = record {
      apart = λ a b more further here there end stop same. lits_apart table a b more further different named here.0 there.0 end stop same;
      some = λ a more further here end same. lit_some a.negative a.word more further here.0 end same;
    }
