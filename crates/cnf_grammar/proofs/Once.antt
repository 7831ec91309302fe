-- Each text once: none is lost, none is added, and each number belongs to one of them.
use Rattle.cnf_grammar.proofs.Common.{◌≡◌, ℕ, zero, suc, ◌<◌, Bool, true, false, true≢false, cond, not, ◌||◌, inl, inr, List, [], ◌∷◌, ◌++◌, length, nat_lt, refl, sym, ◌∙◌, ap, subst, arith, bytes_eq, nat_tests, bytes_eq-Decides, never_true, or_true, each_once, index_of, has_text}
use Rattle.std.specs.Bool.{⊤}
use Rattle.cnf_grammar.proofs.Variables.{others}

-- a text that is among the later ones is among all
later_has : (b m n : Bool) → (m ≡ true → n ≡ true) → cond b true m ≡ true → cond b true n ≡ true
later_has true m n more h = refl
later_has false m n more h = more h

has_joined : (xs ys : List (List ℕ)) (x : List ℕ) → has_text (xs ++ ys) x ≡ (has_text xs x || has_text ys x)
has_joined [] ys x = refl
has_joined (t ∷ xs) ys x = elim (bytes_eq t x) as (λ b. cond b true (has_text (xs ++ ys) x) ≡ (cond b true (has_text xs x) || has_text ys x)) [ true ↦ refl | false ↦ has_joined xs ys x ]

-- each of these texts is among those
abbrev pub Covers : List (List ℕ) → List (List ℕ) → Type 0
Covers variables texts = (x : List ℕ) → has_text texts x ≡ true → has_text variables x ≡ true

-- where two lists of texts are covered together, the first is
pub covers_first : (variables xs ys : List (List ℕ)) → Covers variables (xs ++ ys) → Covers variables xs
covers_first variables xs ys all x h = all x (has_joined xs ys x ∙ or_true (has_text xs x) (has_text ys x) (inl h))

-- and so is the second
pub covers_second : (variables xs ys : List (List ℕ)) → Covers variables (xs ++ ys) → Covers variables ys
covers_second variables xs ys all x h = all x (has_joined xs ys x ∙ or_true (has_text xs x) (has_text ys x) (inr h))

-- leaving one text out
others_by : (t e x : List ℕ) (E : List (List ℕ)) (b : Bool) → bytes_eq t e ≡ b → bytes_eq t x ≡ false → has_text (others t E) x ≡ has_text E x → has_text (cond (not b) (e ∷ others t E) (others t E)) x ≡ cond (bytes_eq e x) true (has_text E x)
others_by t e x E true same apart rest =
    let further : bytes_eq e x ≡ false = subst (λ y. bytes_eq y x ≡ false) ((bytes_eq-Decides t e).0 same) apart in
    rest ∙ sym (ap (λ c. cond c true (has_text E x)) further)
others_by t e x E false same apart rest = ap (cond (bytes_eq e x) true) rest

has_others : (t x : List ℕ) (E : List (List ℕ)) → bytes_eq t x ≡ false → has_text (others t E) x ≡ has_text E x
has_others t x [] apart = refl
has_others t x (e ∷ E) apart = others_by t e x E (bytes_eq t e) refl apart (has_others t x E apart)

among_by : (t e x : List ℕ) (E : List (List ℕ)) → (has_text (others t E) x ≡ true → has_text E x ≡ true) → (b : Bool) → has_text (cond (not b) (e ∷ others t E) (others t E)) x ≡ true → cond (bytes_eq e x) true (has_text E x) ≡ true
among_by t e x E rest true h = elim (bytes_eq e x) as (λ c. cond c true (has_text E x) ≡ true) [ true ↦ refl | false ↦ rest h ]
among_by t e x E rest false h = later_has (bytes_eq e x) (has_text (others t E) x) (has_text E x) rest h

others_among : (t : List ℕ) (E : List (List ℕ)) → Covers E (others t E)
others_among t [] x h = h
others_among t (e ∷ E) x h = among_by t e x E (others_among t E x) (bytes_eq t e) h

left_out : (t : List ℕ) (E : List (List ℕ)) → has_text (others t E) t ≡ false
left_out t [] = refl
left_out t (e ∷ E) = by (bytes_eq t e) refl (left_out t E)
  where
    by : (b : Bool) → bytes_eq t e ≡ b → has_text (others t E) t ≡ false → has_text (cond (not b) (e ∷ others t E) (others t E)) t ≡ false
    by true same rest = rest
    by false apart rest =
        let back : bytes_eq e t ≡ false = never_true (bytes_eq e t) (λ same. true≢false (sym ((bytes_eq-Decides t e).1 (sym ((bytes_eq-Decides e t).0 same))) ∙ apart)) in
        ap (λ c. cond c true (has_text (others t E) t)) back ∙ rest

-- each of the texts is there
pub once_covers : (texts : List (List ℕ)) → Covers (each_once texts) texts
once_covers [] x h = h
once_covers (t ∷ texts) x h = by (bytes_eq t x) refl (once_covers texts x) h
  where
    by : (b : Bool) → bytes_eq t x ≡ b → (has_text texts x ≡ true → has_text (each_once texts) x ≡ true) → cond b true (has_text texts x) ≡ true → cond b true (has_text (others t (each_once texts)) x) ≡ true
    by true same rest k = refl
    by false apart rest k = has_others t x (each_once texts) apart ∙ rest k

-- and no other
pub once_covered : (texts : List (List ℕ)) → Covers texts (each_once texts)
once_covered [] x h = h
once_covered (t ∷ texts) x h =
    later_has (bytes_eq t x) (has_text (others t (each_once texts)) x) (has_text texts x) (λ k. once_covered texts x (others_among t (each_once texts) x k)) h

-- no two texts are the same
abbrev Differ : List (List ℕ) → Type 0
Differ [] = ⊤
Differ (t ∷ texts) = (has_text texts t ≡ false) × Differ texts

others_differ : (t : List ℕ) (E : List (List ℕ)) → Differ E → Differ (others t E)
others_differ t [] h = h
others_differ t (e ∷ E) h = elim (bytes_eq t e) as (λ b. Differ (cond (not b) (e ∷ others t E) (others t E))) [
  | true ↦ others_differ t E h.1
  | false ↦ (never_true (has_text (others t E) e) (λ k. true≢false (sym (others_among t E e k) ∙ h.0)), others_differ t E h.1)
]

once_differ : (texts : List (List ℕ)) → Differ (each_once texts)
once_differ [] = tt
once_differ (t ∷ texts) = (left_out t (each_once texts), others_differ t (each_once texts) (once_differ texts))

-- a text that has this number
abbrev pub HasNumber : List (List ℕ) → List (List ℕ) → ℕ → Type 0
HasNumber variables texts number = (x : List ℕ) × ((has_text texts x ≡ true) × (index_of variables x ≡ number))

number_taken : (variables : List (List ℕ)) → Differ variables → (number : ℕ) → number < length variables → HasNumber variables variables number
number_taken [] d number l = absurd (omega (arith, l))
number_taken (t ∷ texts) d zero l =
    let itself : bytes_eq t t ≡ true = (bytes_eq-Decides t t).1 refl in
    (t, (ap (λ c. cond c true (has_text texts t)) itself, ap (λ c. cond c 0 (suc (index_of texts t))) itself))
number_taken (t ∷ texts) d (suc number) l = next (number_taken texts d.1 number (omega (arith, l)))
  where
    next : HasNumber texts texts number → HasNumber (t ∷ texts) (t ∷ texts) (suc number)
    next found =
        let apart : bytes_eq t found.0 ≡ false = never_true (bytes_eq t found.0) (λ same. true≢false (sym found.1.0 ∙ subst (λ y. has_text texts y ≡ false) ((bytes_eq-Decides t found.0).0 same) d.0)) in
        (found.0, (ap (λ c. cond c true (has_text texts found.0)) apart ∙ found.1.0, ap (λ c. cond c 0 (suc (index_of texts found.0))) apart ∙ ap suc found.1.1))

-- each number below the count of the texts, each taken once, is that of one of the texts
pub once_numbered : (texts : List (List ℕ)) (number : ℕ) → number < length (each_once texts) → HasNumber (each_once texts) texts number
once_numbered texts number l =
    let found = number_taken (each_once texts) (once_differ texts) number l in
    (found.0, (once_covered texts found.0 found.1.0, found.1.1))

-- the number of a text is below the count exactly where it is there
pub number_known : (variables : List (List ℕ)) (x : List ℕ) → nat_lt (index_of variables x) (length variables) ≡ has_text variables x
number_known [] x = refl
number_known (t ∷ texts) x = elim (bytes_eq t x) as (λ b. nat_lt (cond b 0 (suc (index_of texts x))) (suc (length texts)) ≡ cond b true (has_text texts x)) [
  | true ↦ below_some (length texts)
  | false ↦ below_next (index_of texts x) (length texts) ∙ number_known texts x
]
  where
    below_some : (n : ℕ) → nat_lt 0 (suc n) ≡ true
    below_some n = grind (arith, nat_tests)

    below_next : (m n : ℕ) → nat_lt (suc m) (suc n) ≡ nat_lt m n
    below_next m n = grind (arith, nat_tests)
