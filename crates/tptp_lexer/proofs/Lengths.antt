-- No length goes past the end.
use Rattle.std.proofs.Common.{◌≡◌, ℕ, suc, ◌+◌, ◌≤◌, ◌<◌, Option, Some, None, ap, not, Bool, true, false, cond, ◌==◌, ◌&&◌, nat_lt, List, [], ◌∷◌, length, drop, refl, arith, length-drop}
use Rattle.std.specs.List.{prefix_len}
use Rattle.std.proofs.lemmas.List.Sums.{prefix_len-le-length}
use Rattle.std.proofs.lemmas.Bool.{and_parts}
use Rattle.std.specs.Option.{option_map}
use Rattle.tptp_lexer.specs.Comments.{before_close}
use Rattle.tptp_lexer.specs.Quotes.{before_quote, first_flaw, is_escaped, one_later}
use Rattle.tptp_lexer.specs.Pieces.{name_len}
use Rattle.tptp_lexer.specs.declared.piece.Flaw.{Flaw}
use Rattle.tptp_lexer.specs.declared.token.LexKind.TheVariants.{BadByte, BadEscape}
use Rattle.ascii_text.specs.Bytes.{is_digit, is_lower_letter, is_word_byte, is_in_line, is_line_end, is_printable, begins}
use Rattle.tptp_lexer.specs.Numbers.{is_exponent_mark}
use Rattle.tptp_lexer.specs.Numbers.{digits_len, marked_len, signed_len, starts_number, exponent_len, decimal_len, number_tail_len, number_rest_len}

pub digits_len-le : (bytes : List ℕ) → digits_len bytes ≤ length bytes
digits_len-le bytes = prefix_len-le-length is_digit bytes

pub word_len-le : (bytes : List ℕ) → prefix_len is_word_byte bytes ≤ length bytes
word_len-le bytes = prefix_len-le-length is_word_byte bytes

pub line_len-le : (bytes : List ℕ) → prefix_len is_in_line bytes ≤ length bytes
line_len-le bytes = prefix_len-le-length is_in_line bytes

-- one more than a length, or 0
cond-le : (t : Bool) (n m : ℕ) → n ≤ m → cond t (1 + n) 0 ≤ m + 1
cond-le true n m le = omega arith
cond-le false n m le = omega arith

pub marked_len-le : (mark : ℕ) (bytes : List ℕ) → marked_len mark bytes ≤ length bytes
marked_len-le mark [] = omega arith
marked_len-le mark (b ∷ bs) = omega (arith, cond-le (b == mark && begins is_digit bs) (digits_len bs) (length bs) (digits_len-le bs))

pub signed_len-le : (bytes : List ℕ) → signed_len bytes ≤ length bytes
signed_len-le [] = omega arith
signed_len-le (b ∷ bs) = omega (arith, cond-le (starts_number b bs) (digits_len bs) (length bs) (digits_len-le bs))

pub exponent_len-le : (bytes : List ℕ) → exponent_len bytes ≤ length bytes
exponent_len-le [] = omega arith
exponent_len-le (b ∷ bs) = omega (arith, cond-le (is_exponent_mark b && nat_lt 0 (signed_len bs)) (signed_len bs) (length bs) (signed_len-le bs))

pub decimal_len-le : (bytes : List ℕ) → decimal_len bytes ≤ length bytes
decimal_len-le bytes =
    omega (arith, marked_len-le 46 bytes, exponent_len-le (drop (marked_len 46 bytes) bytes), length-drop (marked_len 46 bytes) bytes)

choice-le : (t : Bool) (a b n : ℕ) → a ≤ n → b ≤ n → cond t a b ≤ n
choice-le true a b n left right = left
choice-le false a b n left right = right

pub number_tail_len-le : (bytes : List ℕ) → number_tail_len bytes ≤ length bytes
unfolding number_tail_len
number_tail_len-le bytes = choice-le _ (marked_len 47 bytes) (decimal_len bytes) (length bytes) (marked_len-le 47 bytes) (decimal_len-le bytes)

pub number_rest_len-le : (bytes : List ℕ) → number_rest_len bytes ≤ length bytes
unfolding number_rest_len
number_rest_len-le bytes =
    omega (arith, digits_len-le bytes, number_tail_len-le (drop (digits_len bytes) bytes), length-drop (digits_len bytes) bytes)

pub name_len-le : (bytes : List ℕ) → name_len bytes ≤ length bytes
name_len-le [] = omega arith
name_len-le (b ∷ bs) = omega (arith, cond-le (is_lower_letter b) (prefix_len is_word_byte bs) (length bs) (word_len-le bs))

pub begins_some : (test : ℕ → Bool) (bytes : List ℕ) → begins test bytes ≡ true → 1 ≤ length bytes
begins_some test [] e = cc
begins_some test (b ∷ bs) e = omega arith

-- the bytes before `*/` and these two are in the text
pub before_close-le : (bytes : List ℕ) (n : ℕ) → before_close bytes ≡ Some n → n + 2 ≤ length bytes
unfolding before_close
before_close-le [] n e = cc
before_close-le (b ∷ bs) n e = by (b == 42 && begins (λ c. c == 47) bs) refl (before_close bs) (before_close-le bs) e
  where
    by : (t : Bool) → b == 42 && begins (λ c. c == 47) bs ≡ t → (found : Option ℕ) → ((m : ℕ) → found ≡ Some m → m + 2 ≤ length bs)
        → cond t (Some 0) (option_map suc found) ≡ Some n → n + 2 ≤ suc (length bs)
    by true is found more e = let zero_is : 0 ≡ n = cc in let some : 1 ≤ length bs = begins_some (λ c. c == 47) bs (and_parts (b == 42) (begins (λ c. c == 47) bs) is).1 in omega arith
    by false is None more e = cc
    by false is (Some m) more e = let next : suc m ≡ n = cc in omega (arith, more m refl)

-- the bytes before the closing quote and this one are in the text
pub before_quote-le : (quote : ℕ) (paired : Bool) (bytes : List ℕ) (n : ℕ) → before_quote quote paired bytes ≡ Some n → n + 1 ≤ length bytes
unfolding before_quote
before_quote-le quote paired [] n e = cc
before_quote-le quote paired (b ∷ bs) n e =
    by (is_line_end b) (b == quote && not paired) (before_quote quote (b == 92 && not paired) bs) (before_quote-le quote (b == 92 && not paired) bs) e
  where
    by : (t u : Bool) → (found : Option ℕ) → ((m : ℕ) → found ≡ Some m → m + 1 ≤ length bs)
        → cond t None (cond u (Some 0) (option_map suc found)) ≡ Some n → n + 1 ≤ suc (length bs)
    by true u found more e = cc
    by false true found more e = let zero_is : 0 ≡ n = cc in omega arith
    by false false None more e = cc
    by false false (Some m) more e = let next : suc m ≡ n = cc in omega (arith, more m refl)

-- the first flaw is one of these bytes
pub first_flaw-lt : (quote : ℕ) (paired : Bool) (bytes : List ℕ) (flaw : Flaw) → first_flaw quote paired bytes ≡ Some flaw → flaw.before < length bytes
unfolding first_flaw
first_flaw-lt quote paired [] flaw e = cc
first_flaw-lt quote paired (b ∷ bs) flaw e =
    by (not (is_printable b)) (b == 92 && not paired && not (begins (is_escaped quote) bs)) (first_flaw quote (b == 92 && not paired) bs) (first_flaw-lt quote (b == 92 && not paired) bs) e
  where
    by : (t u : Bool) → (found : Option Flaw) → ((f : Flaw) → found ≡ Some f → f.before < length bs)
        → cond t (Some (record { kind = BadByte; before = 0 })) (cond u (Some (record { kind = BadEscape; before = 0 })) (option_map one_later found)) ≡ Some flaw → flaw.before < suc (length bs)
    by true u found more e = let is : record { kind = BadByte; before = 0 } ≡ flaw = cc in let zero_is : 0 ≡ flaw.before = ap (λ f. f.before) is in omega arith
    by false true found more e = let is : record { kind = BadEscape; before = 0 } ≡ flaw = cc in let zero_is : 0 ≡ flaw.before = ap (λ f. f.before) is in omega arith
    by false false None more e = cc
    by false false (Some f) more e = let is : one_later f ≡ flaw = cc in let next : suc f.before ≡ flaw.before = ap (λ g. g.before) is in omega (arith, more f refl)

pub ruleset lengths = (digits_len-le, word_len-le, line_len-le, marked_len-le, signed_len-le, exponent_len-le, number_tail_len-le, number_rest_len-le, name_len-le, before_close-le, before_quote-le, first_flaw-lt)
