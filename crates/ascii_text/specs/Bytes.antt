-- Classes of bytes, and how a text begins.
use Rattle.std.specs.Prelude.{ℕ, Bool, false, not, ◌||◌, List, [], ◌∷◌, nat_eq, nat_le, ◌&&◌}

-- the byte is from the first to the last of these
abbrev pub is_between : ℕ → ℕ → ℕ → Bool
is_between first last byte = nat_le first byte && nat_le byte last

-- white space: tab, line feed, vertical tab, form feed, carriage return or space
abbrev pub is_white : ℕ → Bool
is_white byte = is_between 9 13 byte || nat_eq byte 32

-- a lower-case letter
abbrev pub is_lower_letter : ℕ → Bool
is_lower_letter byte = is_between 97 122 byte

-- an upper-case letter
abbrev pub is_upper_letter : ℕ → Bool
is_upper_letter byte = is_between 65 90 byte

-- a digit
abbrev pub is_digit : ℕ → Bool
is_digit byte = is_between 48 57 byte

-- a letter, a digit or `_`
abbrev pub is_word_byte : ℕ → Bool
is_word_byte byte = is_lower_letter byte || (is_upper_letter byte || (is_digit byte || nat_eq byte 95))

-- a space or a visible byte
abbrev pub is_printable : ℕ → Bool
is_printable byte = is_between 32 126 byte

-- a printable byte other than the space
abbrev pub is_visible : ℕ → Bool
is_visible byte = is_between 33 126 byte

-- a line feed or a carriage return
abbrev pub is_line_end : ℕ → Bool
is_line_end byte = nat_eq byte 10 || nat_eq byte 13

-- any byte but a line feed
abbrev pub is_in_line : ℕ → Bool
is_in_line byte = not (nat_eq byte 10)

-- the text begins with a byte of this class
abbrev pub begins : (ℕ → Bool) → List ℕ → Bool
begins is_of_class [] = false
begins is_of_class (byte ∷ bytes) = is_of_class byte
