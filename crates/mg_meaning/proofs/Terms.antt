-- The front of a word that is so many terms, and substitutions that give terms to more variables.
use Rattle.std.proofs.Common.{◌≡◌, ℕ, zero, suc, ◌+◌, true, false, true≢false, ◌||◌, List, [], ◌∷◌, ◌++◌, length, take, drop, Option, Some, None, is_some, slice_get, slice_set, slice_index_or, refl, sym, ap, ap₂, subst, ◌∙◌, arith}
use Rattle.std.specs.Option.{option_map, option_map_or, option_and_then, unwrap_or}
use Rattle.mg_word.specs.Table.{Symbol}
use Rattle.mg_word.specs.Words.{are_terms, fits}
use Rattle.mg_word.specs.Forms.{is_among}
use Rattle.mg_word.proofs.Members.{both_true, and_true}
use Rattle.mg_meaning.specs.Matches.{is_bound, are_terms_bound, terms_of}
use Rattle.mg_meaning.specs.Matching.{terms_length}

-- the front of that length is so many terms
pub terms_length_fits : (table : List Symbol) (word : List ℕ) (wanted size : ℕ) → terms_length table wanted word ≡ Some size → are_terms table wanted (take size word) ≡ true
terms_length_fits table [] zero zero e = refl
terms_length_fits table [] zero (suc size) e = refl
terms_length_fits table [] (suc wanted) size e = absurd (let bad : ⊥ = cc in bad)
terms_length_fits table (symbol ∷ word) zero zero e = refl
terms_length_fits table (symbol ∷ word) zero (suc size) e = absurd (let bad : ⊥ = cc in bad)
terms_length_fits table (symbol ∷ word) (suc wanted) size e = by (slice_get table symbol) refl e (terms_length_fits table word)
  where
    by : (entry : Option Symbol) → slice_get table symbol ≡ entry → option_and_then (λ found. option_map suc (terms_length table (found.arity + wanted) word)) entry ≡ Some size
        → ((more least : ℕ) → terms_length table more word ≡ Some least → are_terms table more (take least word) ≡ true)
        → are_terms table (suc wanted) (take size (symbol ∷ word)) ≡ true
    by None is e go = absurd (let bad : ⊥ = cc in bad)
    by (Some entry) is e go = inner (terms_length table (entry.arity + wanted) word) refl e
      where
        inner : (answer : Option ℕ) → terms_length table (entry.arity + wanted) word ≡ answer → option_map suc answer ≡ Some size → are_terms table (suc wanted) (take size (symbol ∷ word)) ≡ true
        inner None at e = absurd (let bad : ⊥ = cc in bad)
        inner (Some least) at e =
            let whole : suc least ≡ size = cc in
            subst (λ n. are_terms table (suc wanted) (take n (symbol ∷ word)) ≡ true) whole
            (ap (λ found. option_map_or (λ (one : Symbol). are_terms table (one.arity + wanted) (take least word)) found false) is ∙ go (entry.arity + wanted) least at)

-- where a word begins with so many terms, they are found
pub terms_length-append : (table : List Symbol) (front back : List ℕ) (wanted : ℕ) → are_terms table wanted front ≡ true → terms_length table wanted (front ++ back) ≡ Some (length front)
terms_length-append table [] back zero e = refl
terms_length-append table [] back (suc wanted) e = absurd (true≢false (sym e))
terms_length-append table (symbol ∷ front) back zero e = absurd (true≢false (sym e))
terms_length-append table (symbol ∷ front) back (suc wanted) e = by (slice_get table symbol) refl e (terms_length-append table front back)
  where
    by : (entry : Option Symbol) → slice_get table symbol ≡ entry → option_map_or (λ (found : Symbol). are_terms table (found.arity + wanted) front) entry false ≡ true
        → ((more : ℕ) → are_terms table more front ≡ true → terms_length table more (front ++ back) ≡ Some (length front))
        → terms_length table (suc wanted) ((symbol ∷ front) ++ back) ≡ Some (length (symbol ∷ front))
    by None is e go = absurd (true≢false (sym e))
    by (Some entry) is e go = rw is (ap (option_map suc) (go (entry.arity + wanted) e))

-- the second gives each variable the term that it has in the first
abbrev pub Keeps : List (Option (List ℕ)) → List (Option (List ℕ)) → Type 0
Keeps one more = (variable : ℕ) (term : List ℕ) → slice_get one variable ≡ Some (Some term) → slice_get more variable ≡ Some (Some term)

-- each term is one ground term over the table
abbrev pub AreGround : List Symbol → List (Option (List ℕ)) → Type 0
AreGround table terms = (variable : ℕ) (term : List ℕ) → slice_get terms variable ≡ Some (Some term) → fits table term ≡ true

-- it has the same places, keeps all terms, and gives terms to these variables and no others
pub record IsMore (one more : List (Option (List ℕ))) (variables : List ℕ) : Type 0 where
  pub places : length more ≡ length one
  pub keeps : Keeps one more
  pub exact : (variable : ℕ) → is_bound more variable ≡ (is_bound one variable || is_among variables variable)

pub ground_from : (table : List Symbol) (terms : List (Option (List ℕ))) → are_terms_bound table terms ≡ true → AreGround table terms
ground_from table [] all variable term at = absurd (let bad : ⊥ = cc in bad)
ground_from table (first ∷ terms) all zero term at =
    let same : first ≡ Some term = cc in
    ap (λ one. option_map_or (fits table) one true) (sym same) ∙ (both_true (option_map_or (fits table) first true) (are_terms_bound table terms) all).0
ground_from table (first ∷ terms) all (suc variable) term at = ground_from table terms (both_true (option_map_or (fits table) first true) (are_terms_bound table terms) all).1 variable term at

pub ground_test : (table : List Symbol) (terms : List (Option (List ℕ))) → AreGround table terms → are_terms_bound table terms ≡ true
ground_test table [] each = refl
ground_test table (first ∷ terms) each =
    and_true (option_map_or (fits table) first true) (are_terms_bound table terms) (by first (λ term is. each zero term (ap Some is)))
    (ground_test table terms (λ variable term at. each (suc variable) term at))
  where
    by : (one : Option (List ℕ)) → ((term : List ℕ) → one ≡ Some term → fits table term ≡ true) → option_map_or (fits table) one true ≡ true
    by None go = refl
    by (Some term) go = go term refl

-- a variable that has a term
pub bound_term : (terms : List (Option (List ℕ))) (variable : ℕ) → is_bound terms variable ≡ true → (term : List ℕ) × (slice_get terms variable ≡ Some (Some term))
bound_term terms variable bound = by (slice_get terms variable) refl bound
  where
    by : (found : Option (Option (List ℕ))) → slice_get terms variable ≡ found → option_map_or is_some found false ≡ true → (term : List ℕ) × (slice_get terms variable ≡ Some (Some term))
    by None is e = absurd (true≢false (sym e))
    by (Some None) is e = absurd (true≢false (sym e))
    by (Some (Some term)) is e = (term, is)

pub term_at : (terms : List (Option (List ℕ))) (variable : ℕ) (term : List ℕ) → slice_get terms variable ≡ Some (Some term) → slice_index_or (terms_of terms) variable [] ≡ term
term_at [] variable term at = absurd (let bad : ⊥ = cc in bad)
term_at (first ∷ terms) zero term at = let same : first ≡ Some term = cc in ap (λ one. unwrap_or one []) same
term_at (first ∷ terms) (suc variable) term at = term_at terms variable term at

-- two that are kept by a third, with terms for the same variables, are one
pub kept_same : (a b c : List (Option (List ℕ))) → length a ≡ length b → Keeps a c → Keeps b c → ((variable : ℕ) → is_bound a variable ≡ is_bound b variable) → a ≡ b
kept_same [] [] c same p q bound = refl
kept_same [] (y ∷ b) c same p q bound = absurd (omega (arith, same))
kept_same (x ∷ a) [] c same p q bound = absurd (omega (arith, same))
kept_same (x ∷ a) (y ∷ b) c same p q bound =
    ap₂ (λ z zs. z ∷ zs) (by x y (bound zero) (λ term is. p zero term (ap Some is)) (λ term is. q zero term (ap Some is)))
    (kept_same a b (drop 1 c) (omega (arith, same)) (λ variable term at. later c variable (Some term) (p (suc variable) term at)) (λ variable term at. later c variable (Some term) (q (suc variable) term at)) (λ variable. bound (suc variable)))
  where
    later : (xs : List (Option (List ℕ))) (k : ℕ) (one : Option (List ℕ)) → slice_get xs (suc k) ≡ Some one → slice_get (drop 1 xs) k ≡ Some one
    later [] k one e = absurd (let bad : ⊥ = cc in bad)
    later (z ∷ xs) k one e = e

    by : (one two : Option (List ℕ)) → is_some one ≡ is_some two → ((term : List ℕ) → one ≡ Some term → slice_get c zero ≡ Some (Some term)) → ((term : List ℕ) → two ≡ Some term → slice_get c zero ≡ Some (Some term)) → one ≡ two
    by None None e f g = refl
    by None (Some t) e f g = absurd (true≢false (sym e))
    by (Some s) None e f g = absurd (true≢false e)
    by (Some s) (Some t) e f g = let first = f s refl in let second = g t refl in cc

pub set_here : (xs : List (Option (List ℕ))) (k : ℕ) (x y : Option (List ℕ)) → slice_get xs k ≡ Some x → slice_get (slice_set xs k y) k ≡ Some y
set_here [] k x y e = absurd (let bad : ⊥ = cc in bad)
set_here (z ∷ xs) zero x y e = refl
set_here (z ∷ xs) (suc k) x y e = set_here xs k x y e

pub set_elsewhere : (xs : List (Option (List ℕ))) (k j : ℕ) (y : Option (List ℕ)) → (k ≡ j → ⊥) → slice_get (slice_set xs k y) j ≡ slice_get xs j
set_elsewhere [] zero j y apart = refl
set_elsewhere [] (suc k) j y apart = refl
set_elsewhere (z ∷ xs) zero zero y apart = absurd (apart refl)
set_elsewhere (z ∷ xs) zero (suc j) y apart = refl
set_elsewhere (z ∷ xs) (suc k) zero y apart = refl
set_elsewhere (z ∷ xs) (suc k) (suc j) y apart = set_elsewhere xs k j y (λ e. apart (ap suc e))

pub set_length : (xs : List (Option (List ℕ))) (k : ℕ) (y : Option (List ℕ)) → length (slice_set xs k y) ≡ length xs
set_length [] zero y = refl
set_length [] (suc k) y = refl
set_length (z ∷ xs) zero y = refl
set_length (z ∷ xs) (suc k) y = ap suc (set_length xs k y)
