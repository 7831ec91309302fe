-- The first difference of two lists, and what it says of the order of words.
use Rattle.std.proofs.Common.{◌≡◌, ◌≢◌, ℕ, zero, suc, ◌+◌, ◌<◌, ◌≤◌, true, true≢false, List, [], ◌∷◌, ◌++◌, length, take, drop, get_or, Some, slice_get, ◌⊎◌, inl, inr, refl, sym, ap, ap₂, subst, ◌∙◌, drop-cons, length-append, arith}
use Rattle.std.specs.List.{flat_map}
use Rattle.std.specs.declared.cmp.Ordering.{Ordering}
use Rattle.std.specs.declared.cmp.Ordering.TheVariants.{Less, Equal, Greater}
use Rattle.std.specs.Ordering.{nat_cmp, ordering_then}
use Rattle.std.specs.Cmp.Lexicographic.{slice_cmp, lists_total}
use Rattle.std.specs.Cmp.{nat_cmp_total}
use Rattle.std.proofs.lemmas.Cmp.{tied_itself}
use Rattle.std.proofs.lemmas.Grind.{flat_map-append}
use Rattle.std.proofs.lemmas.List.{append-nil, take_all, take-append-drop}
use Rattle.std.proofs.lemmas.Option.{same_Some}
use Rattle.mg_word.specs.Table.{Symbol}
use Rattle.mg_word.specs.Words.{are_terms}
use Rattle.mg_word.specs.OrderLaws.{nat_same}
use Rattle.mg_word.proofs.AppliedWords.{at_symbol}
use Rattle.mg_word.proofs.Different.{number_unique}
use Rattle.term_store.specs.Terms.{Term, term_of, word_at, IsStore, IsOver}
use Rattle.term_store.specs.Terms.IsOver.{over}
use Rattle.term_store.specs.Differing.{DifferAt}
use Rattle.term_store.proofs.TableTerms.{over_fits, same_number}
use Rattle.term_store.proofs.WordsGrow.{word_is, all_at}

pub front_of_first : (these those : List ℕ) (place : ℕ) → length those ≤ place → take place these ≡ take place those → these ≡ those ++ drop place these
front_of_first these those place past same =
    sym (take-append-drop place these) ∙ ap (λ l. l ++ drop place these) (same ∙ take_all place those past)

pub front_of_second : (these those : List ℕ) (place : ℕ) → length these ≤ place → take place these ≡ take place those → those ≡ these ++ drop place those
front_of_second these those place past same = front_of_first those these place past (sym same)

split_here : (xs : List ℕ) (place x : ℕ) → place < length xs → x ≡ get_or xs place x → xs ≡ take place xs ++ x ∷ drop (place + 1) xs
split_here xs place x within is =
    let next : suc place ≡ place + 1 = omega arith in
    sym (take-append-drop place xs) ∙ ap (λ l. take place xs ++ l) (drop-cons xs place x within ∙ ap₂ (λ y n. y ∷ drop n xs) (sym is) next)

pub differ_at : (these those : List ℕ) (place x y : ℕ) → place < length these → place < length those → take place these ≡ take place those → x ≡ get_or these place x → y ≡ get_or those place y → x ≢ y → DifferAt these those x y
differ_at these those place x y inside within same one two differ = record {
  front = take place these;
  back = drop (place + 1) these;
  behind = drop (place + 1) those;
  this = split_here these place x inside one;
  that = split_here those place y within two ∙ ap (λ l. l ++ y ∷ drop (place + 1) those) (sym same);
  differing = differ;
}

middle : (front : List ℕ) (x : ℕ) (back : List ℕ) → slice_get (front ++ x ∷ back) (length front) ≡ Some x
middle [] x back = refl
middle (z ∷ front) x back = middle front x back

-- the arguments that differ stand before their terms
pub differ_first : (terms : List Term) (a symbol x y : ℕ) (these those : List ℕ) → IsStore terms → slice_get terms a ≡ Some (term_of symbol these) → DifferAt these those x y → x < a
differ_first terms a symbol x y these those store is differ =
    all_at (λ n. n < a) these (length differ.front) x (store.closed a (term_of symbol these) is) (ap (λ l. slice_get l (length differ.front)) differ.this ∙ middle differ.front x differ.back)

pub differ_second : (terms : List Term) (b symbol x y : ℕ) (these those : List ℕ) → IsStore terms → slice_get terms b ≡ Some (term_of symbol those) → DifferAt these those x y → y < b
differ_second terms b symbol x y these those store is differ =
    all_at (λ n. n < b) those (length differ.front) y (store.closed b (term_of symbol those) is) (ap (λ l. slice_get l (length differ.front)) differ.that ∙ middle differ.front y differ.behind)

-- a common front does not count
common_front : (front one two : List ℕ) → slice_cmp nat_cmp (front ++ one) (front ++ two) ≡ slice_cmp nat_cmp one two
common_front [] one two = refl
common_front (x ∷ front) one two = ap (λ first. ordering_then first (slice_cmp nat_cmp (front ++ one) (front ++ two))) (tied_itself nat_cmp_total x) ∙ common_front front one two

module _ (table : List Symbol) where
  -- of two words over the table neither is the front of the other, so what follows them does not count
  same_or_first : (one two : List ℕ) (count : ℕ) → are_terms table count one ≡ true → are_terms table count two ≡ true
      → (one ≡ two) ⊎ ((r s : List ℕ) → slice_cmp nat_cmp (one ++ r) (two ++ s) ≡ slice_cmp nat_cmp one two)
  same_or_first [] [] count f g = inl refl
  same_or_first [] (y ∷ two) zero f g = absurd (true≢false (sym g))
  same_or_first [] (y ∷ two) (suc count) f g = absurd (true≢false (sym f))
  same_or_first (x ∷ one) [] zero f g = absurd (true≢false (sym f))
  same_or_first (x ∷ one) [] (suc count) f g = absurd (true≢false (sym g))
  same_or_first (x ∷ one) (y ∷ two) zero f g = absurd (true≢false (sym f))
  same_or_first (x ∷ one) (y ∷ two) (suc count) f g = by (nat_cmp x y) refl (λ n. same_or_first one two n)
    where
      by : (answer : Ordering) → nat_cmp x y ≡ answer
          → ((n : ℕ) → are_terms table n one ≡ true → are_terms table n two ≡ true → (one ≡ two) ⊎ ((r s : List ℕ) → slice_cmp nat_cmp (one ++ r) (two ++ s) ≡ slice_cmp nat_cmp one two))
          → (x ∷ one ≡ y ∷ two) ⊎ ((r s : List ℕ) → slice_cmp nat_cmp ((x ∷ one) ++ r) ((y ∷ two) ++ s) ≡ slice_cmp nat_cmp (x ∷ one) (y ∷ two))
      by Less is go = inr (λ r s. ap (λ a. ordering_then a (slice_cmp nat_cmp (one ++ r) (two ++ s))) is ∙ sym (ap (λ a. ordering_then a (slice_cmp nat_cmp one two)) is))
      by Greater is go = inr (λ r s. ap (λ a. ordering_then a (slice_cmp nat_cmp (one ++ r) (two ++ s))) is ∙ sym (ap (λ a. ordering_then a (slice_cmp nat_cmp one two)) is))
      by Equal is go =
          let same = nat_same x y is in
          at_symbol table x count one f (λ held at rest.
          at_symbol table y count two g (λ other there more.
          let entries : held ≡ other = same_Some held other (sym at ∙ (ap (slice_get table) same ∙ there)) in
          elim (go (held.arity + count) rest (subst (λ (e : Symbol). are_terms table (e.arity + count) two ≡ true) (sym entries) more)) [
            | inl equal ↦ inl (ap₂ (λ a l. a ∷ l) same equal)
            | inr further ↦ inr (λ r s. ap (ordering_then (nat_cmp x y)) (further r s))
          ]))

  module _ (terms : List Term) (store : IsStore terms) where
    term_at : (number : ℕ) (term : Term) → slice_get terms number ≡ Some term → IsOver table terms number → (place argument : ℕ) → slice_get term.arguments place ≡ Some argument → IsOver table terms argument
    term_at number term is (over _ held symbol at known many each) place argument there =
        each place argument (ap (λ (t : Term). slice_get t.arguments place) (same_Some held term (sym at ∙ is)) ∙ there)

    -- terms with one symbol are ordered as the first arguments that differ
    pub differ_below : (a b symbol x y : ℕ) (these those : List ℕ) → slice_get terms a ≡ Some (term_of symbol these) → slice_get terms b ≡ Some (term_of symbol those) → DifferAt these those x y
        → IsOver table terms a → IsOver table terms b → IsOver table terms x × IsOver table terms y × (slice_cmp nat_cmp (word_at terms a) (word_at terms b) ≡ slice_cmp nat_cmp (word_at terms x) (word_at terms y))
    differ_below a b symbol x y these those is at differ over_a over_b =
        let front = differ.front in
        let x_over : IsOver table terms x = term_at a (term_of symbol these) is over_a (length front) x (ap (λ l. slice_get l (length front)) differ.this ∙ middle front x differ.back) in
        let y_over : IsOver table terms y = term_at b (term_of symbol those) at over_b (length front) y (ap (λ l. slice_get l (length front)) differ.that ∙ middle front y differ.behind) in
        let words = flat_map (word_at terms) in
        let left : word_at terms a ≡ (symbol ∷ words front) ++ (word_at terms x ++ words differ.back) =
        word_is terms a (term_of symbol these) store is ∙ ap (λ l. symbol ∷ l) (ap words differ.this ∙ flat_map-append (word_at terms) front (x ∷ differ.back)) in
        let right : word_at terms b ≡ (symbol ∷ words front) ++ (word_at terms y ++ words differ.behind) =
        word_is terms b (term_of symbol those) store at ∙ ap (λ l. symbol ∷ l) (ap words differ.that ∙ flat_map-append (word_at terms) front (y ∷ differ.behind)) in (
          x_over,
          y_over,
          ap₂ (slice_cmp nat_cmp) left right ∙ (common_front (symbol ∷ words front) (word_at terms x ++ words differ.back) (word_at terms y ++ words differ.behind)
              ∙ elim (same_or_first (word_at terms x) (word_at terms y) 1 (over_fits table terms x store x_over) (over_fits table terms y store y_over)) [
                | inl equal ↦ absurd (differ.differing (same_number table terms x y store x_over y_over equal))
                | inr further ↦ further (words differ.back) (words differ.behind)
              ]),
        )

    -- terms with different symbols are ordered as these
    pub symbols_differ : (a b symbol other : ℕ) (these those : List ℕ) → slice_get terms a ≡ Some (term_of symbol these) → slice_get terms b ≡ Some (term_of other those) → symbol ≢ other
        → nat_cmp symbol other ≡ slice_cmp nat_cmp (word_at terms a) (word_at terms b)
    symbols_differ a b symbol other these those is at differ =
        by (nat_cmp symbol other) refl ∙ sym (ap₂ (slice_cmp nat_cmp) (word_is terms a (term_of symbol these) store is) (word_is terms b (term_of other those) store at))
      where
        by : (answer : Ordering) → nat_cmp symbol other ≡ answer → nat_cmp symbol other ≡ ordering_then (nat_cmp symbol other) (slice_cmp nat_cmp (flat_map (word_at terms) these) (flat_map (word_at terms) those))
        by Less e = e ∙ sym (ap (λ a. ordering_then a (slice_cmp nat_cmp (flat_map (word_at terms) these) (flat_map (word_at terms) those))) e)
        by Equal e = absurd (differ (nat_same symbol other e))
        by Greater e = e ∙ sym (ap (λ a. ordering_then a (slice_cmp nat_cmp (flat_map (word_at terms) these) (flat_map (word_at terms) those))) e)

    -- terms with one symbol of whose arguments none differ are the same
    pub fronts_same : (a b symbol : ℕ) (these those more : List ℕ) → slice_get terms a ≡ Some (term_of symbol these) → slice_get terms b ≡ Some (term_of symbol those)
        → (these ≡ those ++ more) ⊎ (those ≡ these ++ more) → IsOver table terms a → IsOver table terms b → a ≡ b
    fronts_same a b symbol these those more is at front (over _ term entry here known many each) (over _ other entry' there known' many' each') =
        let one : term ≡ term_of symbol these = same_Some term (term_of symbol these) (sym here ∙ is) in
        let two : other ≡ term_of symbol those = same_Some other (term_of symbol those) (sym there ∙ at) in
        let known_one : slice_get table symbol ≡ Some entry = ap (λ (t : Term). slice_get table t.symbol) (sym one) ∙ known in
        let known_two : slice_get table symbol ≡ Some entry' = ap (λ (t : Term). slice_get table t.symbol) (sym two) ∙ known' in
        let entries : entry ≡ entry' = same_Some entry entry' (sym known_one ∙ known_two) in
        let sizes : length these ≡ length those =
        ap (λ (t : Term). length t.arguments) (sym one) ∙ (many ∙ (ap (λ (e : Symbol). e.arity) entries ∙ (sym many' ∙ ap (λ (t : Term). length t.arguments) two))) in
        let arguments : these ≡ those = elim front [
          | inl longer ↦ longer ∙ without those more (omega (arith, sizes, ap length longer, length-append those more))
          | inr longer ↦ sym (longer ∙ without these more (omega (arith, sizes, ap length longer, length-append these more)))
        ] in
        number_unique terms store.different a b (term_of symbol those) (is ∙ ap (λ l. Some (term_of symbol l)) arguments) at
      where
        without : (xs more : List ℕ) → length more ≡ 0 → xs ++ more ≡ xs
        without xs [] none = append-nil xs
        without xs (x ∷ more) none = absurd (omega (arith, none))

pub same_symbols : (word : List ℕ) → slice_cmp nat_cmp word word ≡ Equal
same_symbols word = tied_itself (lists_total nat_cmp_total) word
