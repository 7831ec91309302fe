-- How far a number goes.
use Rattle.std.specs.Prelude.{ℕ, ◌+◌, Bool, List, [], ◌∷◌, drop, ◌==◌, nat_lt, ◌&&◌, ◌||◌, if◌then◌else◌}
use Rattle.std.specs.List.{prefix_len}
use Rattle.ascii_text.specs.Bytes.{is_digit, begins}

-- `+` or `-`
abbrev pub is_sign : ℕ → Bool
is_sign b = b == 43 || b == 45

-- `e` or `E`
abbrev pub is_exponent_mark : ℕ → Bool
is_exponent_mark b = b == 101 || b == 69

-- how many digits the text begins with
abbrev pub digits_len : List ℕ → ℕ
digits_len bytes = prefix_len is_digit bytes

-- the length of a mark that a digit follows, with all digits behind it; else 0
abbrev pub marked_len : ℕ → List ℕ → ℕ
marked_len mark [] = 0
marked_len mark (b ∷ bs) = if b == mark && begins is_digit bs then 1 + digits_len bs else 0

-- the byte begins a number: a digit, or a sign that a digit follows
abbrev pub starts_number : ℕ → List ℕ → Bool
starts_number b bs = is_digit b || (is_sign b && begins is_digit bs)

-- the length of digits with a sign or without; 0 where no digit stands there
abbrev pub signed_len : List ℕ → ℕ
signed_len [] = 0
signed_len (b ∷ bs) = if starts_number b bs then 1 + digits_len bs else 0

-- the length of `e` or `E` with the signed digits behind it; 0 where these do not stand there
abbrev pub exponent_len : List ℕ → ℕ
exponent_len [] = 0
exponent_len (b ∷ bs) = if is_exponent_mark b && nat_lt 0 (signed_len bs) then 1 + signed_len bs else 0

-- the length of a fraction and an exponent
abbrev pub decimal_len : List ℕ → ℕ
decimal_len bytes = marked_len 46 bytes + exponent_len (drop (marked_len 46 bytes) bytes)

-- the length of what follows the first digits: the rest of a quotient, or a fraction and an exponent
unfoldable pub number_tail_len : List ℕ → ℕ
number_tail_len bytes = if nat_lt 0 (marked_len 47 bytes) then marked_len 47 bytes else decimal_len bytes

-- the length of a number behind its first byte
unfoldable pub number_rest_len : List ℕ → ℕ
number_rest_len bytes = digits_len bytes + number_tail_len (drop (digits_len bytes) bytes)
