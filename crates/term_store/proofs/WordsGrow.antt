-- The words of terms by numbers: a term more leaves the others as they are, and a term's word is made of those of its arguments.
use Rattle.std.proofs.Common.{◌≡◌, ◌≢◌, ℕ, zero, suc, ◌+◌, ◌<◌, List, [], ◌∷◌, ◌++◌, length, map, get_or, Some, slice_get, slice_index, sum_by, All, Contains, refl, sym, ap, ap₂, subst, ◌∙◌, append_assoc, length-append, inl, inr, arith}
use Rattle.std.specs.List.{flat_map}
use Rattle.std.proofs.lemmas.Bool.{cases_order}
use Rattle.std.proofs.lemmas.List.{append-nil, get_or_append_left, get_or-map, length-map}
use Rattle.std.proofs.lemmas.List.Concat.{length-flat_map}
use Rattle.term_store.proofs.Numbers.{sum_by_same}
use Rattle.std.proofs.Math.Seq.{get_or-append_seam}
use Rattle.std.proofs.lemmas.List.Quantifiers.{all_pairs_push}
use Rattle.std.proofs.lemmas.Option.{slice_get_within, get_or_from_slice_get, slice_get-get_or, same_Some}
use Rattle.term_store.specs.Terms.{Term, applied, words_behind, words_of, word_at, weight_together, IsStore}

pub behind_more : (words : List (List ℕ)) (xs ys : List Term) → words_behind words (xs ++ ys) ≡ words_behind (words_behind words xs) ys
behind_more words [] ys = refl
behind_more words (x ∷ xs) ys = behind_more (words ++ applied words x ∷ []) xs ys

-- those words stay in front
behind_front : (words : List (List ℕ)) (terms : List Term) → (more : List (List ℕ)) × (words_behind words terms ≡ words ++ more) × (length more ≡ length terms)
behind_front words [] = ([], sym (append-nil words), refl)
behind_front words (term ∷ terms) =
    let rest = behind_front (words ++ applied words term ∷ []) terms in
    (applied words term ∷ rest.0, rest.1 ∙ append_assoc words (applied words term ∷ []) rest.0, ap suc rest.2)

-- a word for each term
pub many_words : (terms : List Term) → length (words_of terms) ≡ length terms
many_words terms = let all = behind_front [] terms in ap length all.1 ∙ all.2

-- a number keeps its word
pub word_stays : (terms more : List Term) (number : ℕ) → number < length terms → word_at (terms ++ more) number ≡ word_at terms number
word_stays terms more number within =
    let rest = behind_front (words_of terms) more in
    ap (λ words. get_or words number []) (behind_more [] terms more ∙ rest.1)
    ∙ get_or_append_left (words_of terms) rest.0 [] number (omega (arith, many_words terms))

pub words_push : (terms : List Term) (term : Term) → words_of (terms ++ term ∷ []) ≡ words_of terms ++ applied (words_of terms) term ∷ []
words_push terms term = behind_more [] terms (term ∷ [])

pub word_pushed : (terms : List Term) (term : Term) → word_at (terms ++ term ∷ []) (length terms) ≡ applied (words_of terms) term
word_pushed terms term =
    ap (λ words. get_or words (length terms) []) (words_push terms term)
    ∙ (ap (λ n. get_or (words_of terms ++ applied (words_of terms) term ∷ []) n []) (sym (many_words terms)) ∙ get_or-append_seam (words_of terms) (applied (words_of terms) term) [] [])

-- a flat map goes by what its function is at the elements
pub flat_map_same : {X A : Type 0} (f g : X → List A) (xs : List X) → ((place : ℕ) (x : X) → slice_get xs place ≡ Some x → f x ≡ g x) → flat_map f xs ≡ flat_map g xs
flat_map_same f g [] same = refl
flat_map_same f g (x ∷ xs) same = ap₂ (λ one rest. one ++ rest) (same zero x refl) (flat_map_same f g xs (λ place y is. same (suc place) y is))

-- what holds of all elements holds of the one at a place
pub all_at : {X : Type 0} (P : X → Type 0) (xs : List X) (place : ℕ) (x : X) → All P xs → slice_get xs place ≡ Some x → P x
all_at P xs place x all is = subst P (get_or_from_slice_get xs place x x is) (all place x (slice_get_within xs place x is))

-- a list is what stands before an element, the element, and what stands behind it
pub split_at : {X : Type 0} (xs : List X) (place : ℕ) (x : X) → slice_get xs place ≡ Some x → (front : List X) × (back : List X) × (xs ≡ front ++ x ∷ back) × (length front ≡ place)
split_at [] place x is = absurd (let bad : ⊥ = cc in bad)
split_at (y ∷ xs) zero x is = let same : y ≡ x = cc in ([], xs, ap (λ z. z ∷ xs) same, refl)
split_at (y ∷ xs) (suc place) x is = let rest = split_at xs place x is in (y ∷ rest.0, rest.1, ap (λ l. y ∷ l) rest.2, ap suc rest.3)

pub get_front : {X : Type 0} (xs ys : List X) (place : ℕ) → place < length xs → slice_get (xs ++ ys) place ≡ slice_get xs place
get_front [] ys place within = absurd (omega arith)
get_front (x ∷ xs) ys zero within = refl
get_front (x ∷ xs) ys (suc place) within = get_front xs ys place (omega arith)

pub get_last : {X : Type 0} (xs : List X) (x : X) → slice_get (xs ++ x ∷ []) (length xs) ≡ Some x
get_last [] x = refl
get_last (y ∷ xs) x = get_last xs x

-- the word of a term is its symbol with the words of its arguments
pub word_is : (terms : List Term) (number : ℕ) (term : Term) → IsStore terms → slice_get terms number ≡ Some term → word_at terms number ≡ term.symbol ∷ flat_map (word_at terms) term.arguments
word_is terms number term store is =
    let parts = split_at terms number term is in
    let front = parts.0 in
    let back = parts.1 in
    let whole : terms ≡ (front ++ term ∷ []) ++ back = parts.2 ∙ sym (append_assoc front (term ∷ []) back) in
    let many : length (front ++ term ∷ []) ≡ length front + 1 = length-append front (term ∷ []) in
    ap₂ word_at whole (sym parts.3)
    ∙ (word_stays (front ++ term ∷ []) back (length front) (omega arith)
    ∙ (word_pushed front term
    ∙ ap (λ l. term.symbol ∷ l) (flat_map_same (word_at front) (word_at terms) term.arguments (λ place argument there.
    let before : argument < number = all_at (λ a. a < number) term.arguments place argument (store.closed number term is) there in
    sym (ap (λ all. word_at all argument) parts.2 ∙ word_stays front (term ∷ back) argument (omega (arith, parts.3)))))))

-- a new term whose arguments are held may go last
pub store_push : (terms : List Term) (term : Term) → IsStore terms → (Contains terms term → ⊥) → All (λ argument. argument < length terms) term.arguments → IsStore (terms ++ term ∷ [])
store_push terms term store missing held = record {
  different = all_pairs_push (λ a b. a ≢ b) terms term store.different (λ k d within same. missing (k, within, get_or_from_slice_get terms k term term (slice_get-get_or terms k d within ∙ ap Some same)));
  closed = closed;
}
  where
    closed : (number : ℕ) (one : Term) → slice_get (terms ++ term ∷ []) number ≡ Some one → All (λ argument. argument < number) one.arguments
    closed number one is = elim (cases_order number (length terms)) [
      | inl last ↦
          let same : term ≡ one = same_Some term one (sym (get_last terms term) ∙ (ap (slice_get (terms ++ term ∷ [])) (sym last) ∙ is)) in
          subst (λ n. All (λ argument. argument < n) one.arguments) (sym last) (subst (λ t. All (λ argument. argument < length terms) t.arguments) same held)
      | inr apart ↦ elim apart [
        | inl less ↦ store.closed number one (sym (get_front terms (term ∷ []) number less) ∙ is)
        | inr more ↦
            let within = slice_get_within (terms ++ term ∷ []) number one is in
            let many : length (terms ++ term ∷ []) ≡ length terms + 1 = length-append terms (term ∷ []) in
            absurd (omega arith)
      ]
    ]

-- beside each term stands its weight
pub many_weights : (terms : List Term) (weights : List ℕ) → weights ≡ map length (words_of terms) → length weights ≡ length terms
many_weights terms weights are = ap length are ∙ (length-map (words_of terms) length ∙ many_words terms)

pub weight_at : (terms : List Term) (weights : List ℕ) (number weight : ℕ) → weights ≡ map length (words_of terms) → number < length terms → weight ≡ get_or weights number weight → weight ≡ length (word_at terms number)
weight_at terms weights number weight are within is =
    is ∙ (ap (λ all. get_or all number weight) are ∙ get_or-map length (words_of terms) number [] weight (omega (arith, many_words terms)))

-- the weights of arguments together are the symbols of their words
pub weights_together : (terms : List Term) (weights numbers : List ℕ) → weights ≡ map length (words_of terms) → All (λ number. number < length terms) numbers
    → sum_by (λ number. slice_index weights number) numbers ≡ weight_together terms numbers
weights_together terms weights numbers are held =
    sum_by_same (λ number. slice_index weights number) (λ number. length (word_at terms number)) numbers (λ k d within.
    weight_at terms weights (get_or numbers k d) (slice_index weights (get_or numbers k d)) are (held k d within) (same_default weights (get_or numbers k d) (omega (arith, many_weights terms weights are, held k d within))))
    ∙ sym (length-flat_map (word_at terms) numbers)
  where
    same_default : (xs : List ℕ) (at : ℕ) → at < length xs → slice_index xs at ≡ get_or xs at (slice_index xs at)
    same_default [] at within = absurd (omega arith)
    same_default (x ∷ xs) zero within = refl
    same_default (x ∷ xs) (suc at) within = same_default xs at (omega arith)
