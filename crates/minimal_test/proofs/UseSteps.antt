-- Rules listed at their places, one by one.
use Rattle.std.proofs.Common.{◌≡◌, ◌≢◌, ℕ, zero, suc, ◌+◌, ◌<◌, true, false, true≢false, nat_eq, List, [], ◌∷◌, ◌++◌, length, set, get_or, take, IsTrue, refl, sym, ap, subst, ◌∙◌, ◌⊎◌, inl, inr, arith, length-set}
use Rattle.std.specs.Global.{Global}
use Rattle.std.specs.declared.vec.Vec.{Vec}
use Rattle.std.proofs.lemmas.Bool.{eqb-true, eq-eqb}
use Rattle.std.proofs.lemmas.List.{take_more, get_or_default}
use Rattle.std.proofs.lemmas.List.Folds.{list_any-append}
use Rattle.mg_word.proofs.Members.{two_cases, or_true, either_true}
use Rattle.minimal_test.specs.declared.rule.Rule.{Rule}
use Rattle.minimal_test.specs.declared.uses.Uses.{Uses}
use Rattle.minimal_test.specs.Uses.{is_among, uses_place, numbers_at, IsListed, IsGrown}

-- the lists with one changed
listed_same : (lists : List (Vec ℕ Global)) (place : ℕ) (one : Vec ℕ Global) → place < length lists → numbers_at (set lists place one) place ≡ one.items
listed_same [] place one within = absurd (omega arith)
listed_same (first ∷ lists) zero one within = refl
listed_same (first ∷ lists) (suc place) one within = listed_same lists place one (omega arith)

listed_other : (lists : List (Vec ℕ Global)) (place other : ℕ) (one : Vec ℕ Global) → other ≢ place → numbers_at (set lists place one) other ≡ numbers_at lists other
listed_other [] place other one apart = refl
listed_other (first ∷ lists) zero zero one apart = absurd (apart refl)
listed_other (first ∷ lists) zero (suc other) one apart = refl
listed_other (first ∷ lists) (suc place) zero one apart = refl
listed_other (first ∷ lists) (suc place) (suc other) one apart = listed_other lists place other one (λ e. apart (ap suc e))

listed_at : (lists : List (Vec ℕ Global)) (place : ℕ) (d : Vec ℕ Global) → place < length lists → numbers_at lists place ≡ (get_or lists place d).items
listed_at [] place d within = absurd (omega arith)
listed_at (first ∷ lists) zero d within = refl
listed_at (first ∷ lists) (suc place) d within = listed_at lists place d (omega arith)

-- one of the numbers, or the one more
among_more : (number one : ℕ) (numbers : List ℕ) → is_among number numbers ≡ true → is_among number (numbers ++ one ∷ []) ≡ true
among_more number one numbers e = list_any-append (nat_eq number) numbers (one ∷ []) ∙ or_true (is_among number numbers) (is_among number (one ∷ [])) (inl e)

among_last : (number : ℕ) (numbers : List ℕ) → is_among number (numbers ++ number ∷ []) ≡ true
among_last number numbers = list_any-append (nat_eq number) numbers (number ∷ []) ∙ or_true (is_among number numbers) (is_among number (number ∷ [])) (inr (or_true (nat_eq number number) false (inl (eq-eqb number number refl))))

among_cases : (number one : ℕ) (numbers : List ℕ) → is_among number (numbers ++ one ∷ []) ≡ true → (is_among number numbers ≡ true) ⊎ (number ≡ one)
among_cases number one numbers e = elim (either_true (is_among number numbers) (is_among number (one ∷ [])) (sym (list_any-append (nat_eq number) numbers (one ∷ [])) ∙ e)) [
  | inl there ↦ inl there
  | inr last ↦ elim (either_true (nat_eq number one) false last) [
    | inl same ↦ inr (eqb-true number one same)
    | inr never ↦ absurd (true≢false (sym never))
  ]
]

pub grown_itself : (lists : List (Vec ℕ Global)) → IsGrown lists lists
grown_itself lists = record { size = refl; kept = λ number place e. e }

pub grown_more : (a b c : List (Vec ℕ Global)) → IsGrown a b → IsGrown b c → IsGrown a c
grown_more a b c one two = record { size = two.size ∙ one.size; kept = λ number place e. two.kept number place (one.kept number place e) }

-- a number more at a place
pub grown_push : (old new : List (Vec ℕ Global)) (place one : ℕ) (list : Vec ℕ Global) (d : Vec ℕ Global) → place < length old → list.items ≡ (get_or old place d).items ++ one ∷ [] → new ≡ set old place list → IsGrown old new
grown_push old new place one list d within pushed changed = record {
  size = ap length changed ∙ length-set old place list;
  kept = λ number other e. subst (λ (lists : List (Vec ℕ Global)). is_among number (numbers_at lists other) ≡ true) (sym changed) (by number other e (two_cases (nat_eq other place)));
}
  where
    by : (number other : ℕ) → is_among number (numbers_at old other) ≡ true → (nat_eq other place ≡ true) ⊎ (nat_eq other place ≡ false) → is_among number (numbers_at (set old place list) other) ≡ true
    by number other e (inl is) =
        let same = eqb-true other place is in
        let now : numbers_at (set old place list) other ≡ numbers_at old other ++ one ∷ [] =
        ap (numbers_at (set old place list)) same ∙ (listed_same old place list within ∙ (pushed ∙ ap (λ (all : List ℕ). all ++ one ∷ []) (sym (ap (numbers_at old) same ∙ listed_at old place d within)))) in
        ap (is_among number) now ∙ among_more number one (numbers_at old other) e
    by number other e (inr is) = ap (is_among number) (listed_other old place other list (λ same. true≢false (sym (eq-eqb other place same) ∙ is))) ∙ e

pub listed_push : (old new : List (Vec ℕ Global)) (place one : ℕ) (list : Vec ℕ Global) (d : Vec ℕ Global) → place < length old → list.items ≡ (get_or old place d).items ++ one ∷ [] → new ≡ set old place list → is_among one (numbers_at new place) ≡ true
listed_push old new place one list d within pushed changed =
    ap (λ (lists : List (Vec ℕ Global)). is_among one (numbers_at lists place)) changed ∙ (ap (is_among one) (listed_same old place list within ∙ pushed) ∙ among_last one (get_or old place d).items)

-- the places so far, and one more
pub listed_more : (places : List ℕ) (k number : ℕ) (old new : List (Vec ℕ Global)) → k < length places → IsGrown old new → IsListed (take k places) number old → (get_or places k 0 < length new → is_among number (numbers_at new (get_or places k 0)) ≡ true) → IsListed (take (k + 1) places) number new
listed_more places k number old new within grown before here = λ place less there.
    elim (among_cases place (get_or places k 0) (take k places) (ap (is_among place) (sym (take_more places k 0 within)) ∙ there)) [
      | inl earlier ↦ grown.kept number place (before place (let size = grown.size in omega (arith, size, less)) earlier)
      | inr same ↦ ap (λ (one : ℕ). is_among number (numbers_at new one)) same ∙ here (let less' : place < length new = less in omega (arith, same, less'))
    ]

-- each of the first rules is listed at each of the places that it uses
abbrev pub AreUsesBefore : List Rule → ℕ → ℕ → Uses → Type 0
AreUsesBefore rules k count uses = (number : ℕ) (d : Rule) (place : ℕ) → number < k → number < length rules → place < count → IsTrue (uses_place (get_or rules number d) place) → IsTrue (is_among number (numbers_at uses.rules_at.items place))

-- with one rule more
pub uses_more : (rules : List Rule) (k count : ℕ) (rule : Rule) (premises conclusions : List ℕ) (old mid new : Uses) → k < length rules → rule ≡ get_or rules k rule → length old.rules_at.items ≡ count → AreUsesBefore rules k count old
    → premises ≡ rule.premises → conclusions ≡ rule.conclusions → IsGrown old.rules_at.items mid.rules_at.items → IsGrown mid.rules_at.items new.rules_at.items
    → IsListed premises k mid.rules_at.items → IsListed conclusions k new.rules_at.items → AreUsesBefore rules (k + 1) count new
uses_more rules k count rule premises conclusions old mid new within at size before first second grown grown' listed listed' = λ number d place less here inside uses. by number d place less here inside uses (two_cases (nat_eq number k))
  where
    by : (number : ℕ) (d : Rule) (place : ℕ) → number < k + 1 → number < length rules → place < count → uses_place (get_or rules number d) place ≡ true → (nat_eq number k ≡ true) ⊎ (nat_eq number k ≡ false) → is_among number (numbers_at new.rules_at.items place) ≡ true
    by number d place less here inside uses (inr apart) =
        let not_same : number ≢ k = λ same. true≢false (sym (eq-eqb number k same) ∙ apart) in
        grown'.kept number place (grown.kept number place (before number d place (omega arith) here inside uses))
    by number d place less here inside uses (inl is) =
        let same = eqb-true number k is in
        let own : get_or rules number d ≡ rule = ap (λ (one : ℕ). get_or rules one d) same ∙ (get_or_default rules k d rule within ∙ sym at) in
        let size' = grown.size in
        let size'' = grown'.size in
        let used : uses_place rule place ≡ true = subst (λ (one : Rule). uses_place one place ≡ true) own uses in
        subst (λ (one : ℕ). is_among one (numbers_at new.rules_at.items place) ≡ true) (sym same)
        (elim (either_true (is_among place rule.premises) (is_among place rule.conclusions) used) [
          | inl there ↦ grown'.kept k place (listed place (omega (arith, size, size', inside)) (ap (is_among place) first ∙ there))
          | inr there ↦ listed' place (omega (arith, size, size', size'', inside)) (ap (is_among place) second ∙ there)
        ])
