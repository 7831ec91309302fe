-- Numbers of literals: how often they stand in a list, and what the list stands for.
use Rattle.std.proofs.Common.{◌≡◌, ℕ, suc, zero, ◌+◌, ◌-◌, ◌<◌, ◌≤◌, Bool, true, false, true≢false, ◌||◌, ◌==◌, ltb, List, [], ◌∷◌, ◌++◌, map, length, take, get_or, set, Some, None, refl, sym, ap, ◌∙◌, arith, replicate, eqb-true, if◌then◌else◌}
use Rattle.std.specs.List.{AllByRecursion}
use Rattle.std.specs.Option.{is_some}
use Rattle.std.proofs.lemmas.List.{get_or_append_left, get_or-set_same, get_or-set_other, get_or-map, length-map, length-append, map-append, take_all, take_at, take_more}
use Rattle.std.proofs.lemmas.Bool.{lt-ltb}
use Rattle.std.proofs.lemmas.Cmp.{nat_eq_equiv}
use Rattle.mg_word.specs.OrderLaws.{lits_equal}
use Rattle.mg_word.specs.Sets.{same_lit, holds}
use Rattle.mg_word.specs.declared.lit.Lit.{Lit}
use Rattle.tree_checker.specs.Indices.{index_of, lit_at, with_new, AreDifferent}
use Rattle.tree_checker.specs.LitTables.{times}
use Rattle.tree_checker.proofs.FirstIndices.{index_held, index_at}

abbrev pub no_lit : Lit
no_lit = record { negative = false; word = [] }

abbrev pub one_if : Bool → ℕ
one_if b = if b then 1 else 0

is_one : (number : ℕ) → one_if (number == number) ≡ 1
is_one number = ap one_if (nat_eq_equiv.refl number)

one_more : (a b : ℕ) → 1 ≤ b → 1 ≤ a + b
one_more a b some = omega (arith, some)

pub times_pushed : (number : ℕ) (numbers : List ℕ) (last : ℕ) → times number (numbers ++ last ∷ []) ≡ times number numbers + one_if (last == number)
times_pushed number [] last = by (one_if (last == number))
  where
    by : (n : ℕ) → n + 0 ≡ 0 + n
    by n = omega arith
times_pushed number (first ∷ numbers) last =
    by (one_if (first == number)) (times number (numbers ++ last ∷ [])) (times number numbers) (one_if (last == number)) (times_pushed number numbers last)
  where
    by : (a b c d : ℕ) → b ≡ c + d → a + b ≡ (a + c) + d
    by a b c d is = omega (arith, is)

-- no number stands more often than the list is long
pub times_most : (number : ℕ) (numbers : List ℕ) → times number numbers ≤ length numbers
times_most number [] = omega arith
times_most number (first ∷ numbers) = by (first == number) (times number numbers) (length numbers) (times_most number numbers)
  where
    by : (b : Bool) (t n : ℕ) → t ≤ n → one_if b + t ≤ suc n
    by true t n most = omega (arith, most)
    by false t n most = omega (arith, most)

pub times_first : (number : ℕ) (numbers : List ℕ) → 1 ≤ times number (number ∷ numbers)
times_first number numbers = by (one_if (number == number)) (times number numbers) (is_one number)
  where
    by : (a b : ℕ) → a ≡ 1 → 1 ≤ a + b
    by a b is = omega (arith, is)

-- where each number that is there is below a bound, so are all
pub numbers_below : (numbers : List ℕ) (bound : ℕ) → ((number : ℕ) → 1 ≤ times number numbers → number < bound) → AllByRecursion (λ number. number < bound) numbers
numbers_below [] bound below = tt
numbers_below (first ∷ numbers) bound below =
    (below first (times_first first numbers), numbers_below numbers bound (λ number there. below number (one_more (one_if (first == number)) (times number numbers) there)))

pub counted_within : (counts : List ℕ) (number : ℕ) → 1 ≤ get_or counts number 0 → number < length counts
counted_within [] number some = let none : 1 ≤ 0 = some in absurd (omega (arith, none))
counted_within (count ∷ counts) zero some = omega arith
counted_within (count ∷ counts) (suc number) some = let within = counted_within counts number some in omega (arith, within)

-- numbers that are counted are below the length of the counts
pub counted_below : (counts numbers : List ℕ) (bound : ℕ) → ((number : ℕ) → get_or counts number 0 ≡ times number numbers) → length counts ≤ bound → AllByRecursion (λ number. number < bound) numbers
counted_below counts numbers bound counted within =
    numbers_below numbers bound (λ number there. let inside = counted_within counts number (rw (counted number) there) in omega (arith, inside, within))

pub below_at : (numbers : List ℕ) (bound index none : ℕ) → AllByRecursion (λ number. number < bound) numbers → index < length numbers → get_or numbers index none < bound
below_at [] bound index none below within = absurd (omega (arith, within))
below_at (first ∷ numbers) bound zero none below within = below.0
below_at (first ∷ numbers) bound (suc index) none below within = below_at numbers bound index none below.1 (omega (arith, within))

-- a table that grows keeps what its numbers stand for
pub lits_kept : (table more : List Lit) (numbers : List ℕ) → AllByRecursion (λ number. number < length table) numbers → map (lit_at (table ++ more)) numbers ≡ map (lit_at table) numbers
lits_kept table more [] below = refl
lits_kept table more (first ∷ numbers) below = λ i. get_or_append_left table more no_lit first below.0 i ∷ lits_kept table more numbers below.1 i

pub lits_same : (table : List Lit) (lit : Lit) (numbers : List ℕ) → AllByRecursion (λ number. number < length table) numbers → map (lit_at (with_new table lit)) numbers ≡ map (lit_at table) numbers
lits_same table lit numbers below = by (holds table lit)
  where
    by : (there : Bool) → map (lit_at (if there then table else table ++ lit ∷ [])) numbers ≡ map (lit_at table) numbers
    by true = refl
    by false = lits_kept table (lit ∷ []) numbers below

pub long_as : (table : List Lit) (lit : Lit) → length table ≤ length (with_new table lit)
long_as table lit = by (holds table lit)
  where
    by : (there : Bool) → length table ≤ length (if there then table else table ++ lit ∷ [])
    by true = omega arith
    by false = omega (arith, length-append table (lit ∷ []))

neither : (a b : Bool) → (a || b) ≡ false → (a ≡ false) × (b ≡ false)
neither true b e = absurd (true≢false e)
neither false b e = (refl, e)

missing_at : (table : List Lit) (lit : Lit) (number : ℕ) → holds table lit ≡ false → number < length table → same_lit (lit_at table number) lit ≡ false
missing_at [] lit number missing within = absurd (omega (arith, within))
missing_at (first ∷ table) lit zero missing within = (neither (same_lit first lit) (holds table lit) missing).0
missing_at (first ∷ table) lit (suc number) missing within = missing_at table lit number (neither (same_lit first lit) (holds table lit) missing).1 (omega (arith, within))

-- a literal that the table does not have is not among those of the numbers
pub not_held : (table : List Lit) (lit : Lit) (numbers : List ℕ) → index_of table lit ≡ None → AllByRecursion (λ number. number < length table) numbers → holds (map (lit_at table) numbers) lit ≡ false
not_held table lit [] none below = refl
not_held table lit (first ∷ numbers) none below =
    let missing : holds table lit ≡ false = sym (index_held table lit) ∙ ap is_some none in
    λ i. missing_at table lit first missing below.0 i || not_held table lit numbers none below.1 i

-- of different literals only the one at its own number is the same
own_number : (table : List Lit) (lit : Lit) (number own : ℕ) → AreDifferent table → index_of table lit ≡ Some own → number < length table → same_lit (lit_at table number) lit ≡ (number == own)
own_number table lit number own different is within = by (same_lit (lit_at table number) lit) refl (number == own) refl
  where
    by : (same : Bool) → same_lit (lit_at table number) lit ≡ same → (at : Bool) → (number == own) ≡ at → same ≡ at
    by true e true f = refl
    by false e false f = refl
    by true e false f =
        let one = (lits_equal (lit_at table number) lit).0 e in
        let twice : Some number ≡ Some own = sym (different number within) ∙ ap (index_of table) one ∙ is in
        let numbers : number ≡ own = cc in
        sym (nat_eq_equiv.refl own) ∙ ap (λ n. n == own) (sym numbers) ∙ f
    by false e true f =
        let there = index_at table lit no_lit own is in
        sym e ∙ (lits_equal (lit_at table number) lit).1 (ap (lit_at table) (eqb-true number own f) ∙ there.1)

some_first : (at : Bool) (there : Bool) (n : ℕ) → there ≡ ltb 0 n → (at || there) ≡ ltb 0 (one_if at + n)
some_first true there n is = sym (lt-ltb 0 (one_if true + n) (omega arith))
some_first false there n is = let same : n ≡ 0 + n = omega arith in is ∙ ap (ltb 0) same

-- a literal of the table is among those of the numbers where its own is there
pub held_times : (table : List Lit) (lit : Lit) (own : ℕ) (numbers : List ℕ) → AreDifferent table → index_of table lit ≡ Some own → AllByRecursion (λ number. number < length table) numbers
    → holds (map (lit_at table) numbers) lit ≡ ltb 0 (times own numbers)
held_times table lit own [] different is below = refl
held_times table lit own (first ∷ numbers) different is below =
    ap (λ b. b || holds (map (lit_at table) numbers) lit) (own_number table lit first own different is below.0)
    ∙ some_first (first == own) (holds (map (lit_at table) numbers) lit) (times own numbers) (held_times table lit own numbers different is below.1)

zeros : (more number : ℕ) → ◌≡◌ {A = ℕ} (get_or (replicate more 0) number 0) 0
zeros zero number = refl
zeros (suc more) zero = refl
zeros (suc more) (suc number) = zeros more number

-- counts of nothing may be added
pub padded : (counts : List ℕ) (more number : ℕ) → get_or (counts ++ replicate more 0) number 0 ≡ get_or counts number 0
padded [] more number = zeros more number
padded (count ∷ counts) more zero = refl
padded (count ∷ counts) more (suc number) = padded counts more number

differ : (a b : ℕ) → (a == b) ≡ false → b ≡ a → ⊥
differ a b apart same = true≢false (sym (nat_eq_equiv.refl a) ∙ ap (λ n. a == n) (sym same) ∙ apart)

-- one count is raised where its number is added
pub counted_pushed : (counts numbers : List ℕ) (last count : ℕ) → ((number : ℕ) → get_or counts number 0 ≡ times number numbers) → last < length counts → count ≡ times last numbers
    → (number : ℕ) → get_or (set counts last (count + 1)) number 0 ≡ times number (numbers ++ last ∷ [])
counted_pushed counts numbers last count counted within is number = by (last == number) refl
  where
    by : (same : Bool) → (last == number) ≡ same → get_or (set counts last (count + 1)) number 0 ≡ times number (numbers ++ last ∷ [])
    by true e =
        let one = eqb-true last number e in
        ap (λ n. get_or (set counts last (count + 1)) n 0) (sym one) ∙ get_or-set_same counts last (count + 1) 0 within
        ∙ ap (λ n. n + 1) (is ∙ ap (λ n. times n numbers) one) ∙ ap (λ b. times number numbers + one_if b) (sym e) ∙ sym (times_pushed number numbers last)
    by false e =
        get_or-set_other counts last number (count + 1) 0 (differ last number e) ∙ counted number
        ∙ none (times number numbers) ∙ ap (λ b. times number numbers + one_if b) (sym e) ∙ sym (times_pushed number numbers last)
      where
        none : (n : ℕ) → n ≡ n + 0
        none n = omega arith

-- and lowered where it is taken
pub counted_popped : (counts numbers : List ℕ) (last count : ℕ) → ((number : ℕ) → get_or counts number 0 ≡ times number (numbers ++ last ∷ [])) → last < length counts → count ≡ times last (numbers ++ last ∷ [])
    → (number : ℕ) → get_or (set counts last (count - 1)) number 0 ≡ times number numbers
counted_popped counts numbers last count counted within is number = by (last == number) refl
  where
    by : (same : Bool) → (last == number) ≡ same → get_or (set counts last (count - 1)) number 0 ≡ times number numbers
    by true e =
        let one = eqb-true last number e in
        let more : times last (numbers ++ last ∷ []) ≡ times last numbers + 1 = times_pushed last numbers last ∙ ap (λ n. times last numbers + n) (is_one last) in
        ap (λ n. get_or (set counts last (count - 1)) n 0) (sym one) ∙ get_or-set_same counts last (count - 1) 0 within
        ∙ less count (times last numbers) (is ∙ more) ∙ ap (λ n. times n numbers) one
      where
        less : (a b : ℕ) → a ≡ b + 1 → a - 1 ≡ b
        less a b is = omega (arith, is)
    by false e =
        get_or-set_other counts last number (count - 1) 0 (differ last number e) ∙ counted number ∙ times_pushed number numbers last
        ∙ ap (λ b. times number numbers + one_if b) e ∙ none (times number numbers)
      where
        none : (n : ℕ) → n + 0 ≡ n
        none n = omega arith

-- a number that is there is counted
pub times_last : (last : ℕ) (numbers : List ℕ) → 1 ≤ times last (numbers ++ last ∷ [])
times_last last numbers = by (times last (numbers ++ last ∷ [])) (times last numbers) (times_pushed last numbers last ∙ ap (λ n. times last numbers + n) (is_one last))
  where
    by : (a b : ℕ) → a ≡ b + 1 → 1 ≤ a
    by a b is = omega (arith, is)

-- where something stands there, there is a number for it
pub some_numbers : (table : List Lit) (numbers : List ℕ) (seen : List Lit) → map (lit_at table) numbers ≡ seen → (seen ≡ [] → ⊥) → 1 ≤ length numbers
some_numbers table [] seen is some = absurd (some (sym is))
some_numbers table (first ∷ numbers) seen is some = omega arith

-- a list is all but its last, and its last
pub last_split : (table : List Lit) (numbers : List ℕ) (last : ℕ) → 1 ≤ length numbers → get_or numbers (length numbers - 1) 0 ≡ last
    → map (lit_at table) numbers ≡ take (length (map (lit_at table) numbers) - 1) (map (lit_at table) numbers) ++ lit_at table last ∷ []
last_split table numbers last some is =
    let long : length (map (lit_at table) numbers) ≡ length numbers = length-map numbers (lit_at table) in
    let at : get_or (map (lit_at table) numbers) (length (map (lit_at table) numbers) - 1) no_lit ≡ lit_at table last =
    get_or-map (lit_at table) numbers (length (map (lit_at table) numbers) - 1) 0 no_lit (omega (arith, some, long)) ∙ ap (λ n. lit_at table (get_or numbers (n - 1) 0)) long ∙ ap (lit_at table) is in
    sym (take_all (length (map (lit_at table) numbers) - 1 + 1) (map (lit_at table) numbers) (omega (arith, some, long)))
    ∙ take_more (map (lit_at table) numbers) (length (map (lit_at table) numbers) - 1) no_lit (omega (arith, some, long))
    ∙ ap (λ lit. take (length (map (lit_at table) numbers) - 1) (map (lit_at table) numbers) ++ lit ∷ []) at

-- and without its last it is what the numbers before the last stand for
pub last_dropped : (table : List Lit) (numbers : List ℕ) (last : ℕ) → map (lit_at table) numbers ≡ take (length (map (lit_at table) (numbers ++ last ∷ [])) - 1) (map (lit_at table) (numbers ++ last ∷ []))
last_dropped table numbers last =
    let split : map (lit_at table) (numbers ++ last ∷ []) ≡ map (lit_at table) numbers ++ lit_at table last ∷ [] = map-append (lit_at table) numbers (last ∷ []) in
    let long = length-append (map (lit_at table) numbers) (lit_at table last ∷ []) in
    sym (ap (λ seen. take (length seen - 1) seen) split ∙ take_at (map (lit_at table) numbers) (lit_at table last ∷ []) (length (map (lit_at table) numbers ++ lit_at table last ∷ []) - 1) (omega (arith, long)))

-- counts that are filled up to a length are the same counts
pub filled : (counts more numbers : List ℕ) (bound : ℕ) → ((number : ℕ) → get_or counts number 0 ≡ times number numbers) → length counts ≤ bound → more ≡ take bound counts ++ replicate (bound - length counts) 0
    → (number : ℕ) → get_or more number 0 ≡ times number numbers
filled counts more numbers bound counted within is number =
    ap (λ items. get_or items number 0) (is ∙ ap (λ front. front ++ replicate (bound - length counts) 0) (take_all bound counts within))
    ∙ padded counts (bound - length counts) number ∙ counted number
