-- Numbers of an item, over plain lists.
use Rattle.cnf_grammar.proofs.Common.{◌≡◌, ℕ, zero, suc, ◌+◌, ◌-◌, ◌*◌, ◌<◌, ◌≤◌, Bool, true, false, ◌&&◌, nat_lt, List, [], ◌∷◌, length, get_or, drop, None, refl, sym, ◌∙◌, ap, arith, drop-cons, nat_tests, digits_value, digits_value_after, digit_value, has_word_at, may_follow, Number, names_above, number_at, at_item, number_read}

pub word_at : (words : List Bool) (position : ℕ) (d : Bool) → position < length words → has_word_at words position ≡ get_or words position d
word_at [] position d h = absurd (omega arith)
word_at (word ∷ words) zero d h = refl
word_at (word ∷ words) (suc position) d h = word_at words position d (omega (arith, h))

pub no_word_at : (words : List Bool) (position : ℕ) → length words ≤ position → has_word_at words position ≡ false
no_word_at [] position h = refl
no_word_at (word ∷ words) zero h = absurd (omega (arith, h))
no_word_at (word ∷ words) (suc position) h = no_word_at words position (omega (arith, h))

-- the number at i is not above the last one, or names no word
pass_by : (word : Bool) (rest : List Bool) (last i m : ℕ) → last - i ≡ m → (last ≤ i → word ≡ false) → names_above (word ∷ rest) m ≡ names_above rest (last - (i + 1))
pass_by true rest last i zero e h = let none : true ≡ false = h (omega (arith, e)) in cc
pass_by false rest last i zero e h = let same : last - (i + 1) ≡ zero = omega (arith, e) in ap (names_above rest) (sym same)
pass_by word rest last i (suc m) e h = let same : last - (i + 1) ≡ m = omega (arith, e) in ap (names_above rest) (sym same)

pub passed_over : (word : Bool) (rest : List Bool) (last i : ℕ) → (last ≤ i → word ≡ false) → names_above (word ∷ rest) (last - i) ≡ names_above rest (last - (i + 1))
passed_over word rest last i h = pass_by word rest last i (last - i) refl h

find_by : (word : Bool) (rest : List Bool) (m : ℕ) → m ≡ zero → word ≡ true → names_above (word ∷ rest) m ≡ true
find_by true rest zero e h = refl
find_by false rest zero e h = cc
find_by word rest (suc m) e h = absurd (omega (arith, e))

pub found : (word : Bool) (rest : List Bool) (last i : ℕ) → last ≤ i → word ≡ true → names_above (word ∷ rest) (last - i) ≡ true
found word rest last i h e = let none : last - i ≡ zero = omega (arith, h) in find_by word rest (last - i) none e

-- more digits do not make a number smaller
pub digits_grow : (n : ℕ) (text : List ℕ) → n ≤ digits_value_after 10 n text
digits_grow n [] = omega arith
digits_grow n (c ∷ text) = let more = digits_grow (n * 10 + digit_value c) text in omega (arith, more)

-- the loop over the literals
pub step_over : (words : List Bool) (last i : ℕ) (answer : Bool) → i < length words → (last ≤ i → get_or words i false ≡ false) → names_above (drop i words) (last - i) ≡ answer → names_above (drop (i + 1) words) (last - (i + 1)) ≡ answer
step_over words last i answer h none same =
    let split = drop-cons words i false h in
    let next : suc i ≡ i + 1 = omega arith in
    ap (λ k. names_above (drop k words) (last - (i + 1))) (sym next)
    ∙ (sym (passed_over (get_or words i false) (drop (suc i) words) last i none)
    ∙ (ap (λ u. names_above u (last - i)) (sym split) ∙ same))

-- the loop over the digits
pub past : (text : List ℕ) (i n most : ℕ) → i < length text → digits_value_after 10 n (drop i text) ≡ digits_value 10 text → most < n * 10 + digit_value (get_or text i 0) → most < digits_value 10 text
past text i n most h same more =
    let grown = digits_grow (n * 10 + digit_value (get_or text i 0)) (drop (suc i) text) in
    let all : digits_value_after 10 (n * 10 + digit_value (get_or text i 0)) (drop (suc i) text) ≡ digits_value 10 text =
    sym (ap (digits_value_after 10 n) (drop-cons text i 0 h)) ∙ same in
    omega (arith, grown, all, more)

-- a number past the literals names none
none_named : (words : List Bool) (last k : ℕ) → length words < k → may_follow words last k ≡ false
none_named words last zero h = absurd (omega (arith, h))
none_named words last (suc j) h = last_false (nat_lt last (suc j)) (has_word_at words j) (no_word_at words j (omega (arith, h)))
  where
    last_false : (a b : Bool) → b ≡ false → (a && b) ≡ false
    last_false true b k = k
    last_false false b k = refl

pub number_none : (words : List Bool) (last : ℕ) (text : List ℕ) (plain : Bool) → length words < digits_value 10 text → None ≡ number_at words last (Number text plain)
number_none words last text true h = sym (ap (λ b. at_item b (number_read (digits_value 10 text)) None) (none_named words last (digits_value 10 text) h))
number_none words last text false h = refl

pub test_fails : (position n : ℕ) → n ≤ position → nat_lt position n ≡ false
test_fails position n h = grind (arith, nat_tests)
