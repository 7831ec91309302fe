-- Where a quoted form is closed, and what is wrong inside.
use Rattle.std.specs.Prelude.{ℕ, suc, Bool, List, [], ◌∷◌, Option, Some, None, ◌==◌, ◌&&◌, ◌||◌, not, if◌then◌else◌}
use Rattle.std.specs.Option.{option_map}
use Rattle.ascii_text.specs.Bytes.{is_line_end, is_printable, begins}
use Rattle.tptp_lexer.specs.declared.piece.Flaw.{Flaw}
use Rattle.tptp_lexer.specs.declared.token.LexKind.TheVariants.{BadByte, BadEscape}

-- how many bytes come before the closing quote: the first that is not the second byte of an escape pair, on this line. `paired`: the byte before begins such a pair
unfoldable pub before_quote : ℕ → Bool → List ℕ → Option ℕ
before_quote quote paired [] = None
before_quote quote paired (b ∷ bs) =
    if is_line_end b
    then None
    else (if b == quote && not paired then Some 0 else option_map suc (before_quote quote (b == 92 && not paired) bs))

-- the byte may follow a backslash
abbrev pub is_escaped : ℕ → ℕ → Bool
is_escaped quote b = b == quote || b == 92

-- the same fault, seen from a byte earlier
abbrev pub one_later : Flaw → Flaw
one_later flaw = record { kind = flaw.kind; before = suc flaw.before }

-- the first bad byte or bad escape inside the quotes
unfoldable pub first_flaw : ℕ → Bool → List ℕ → Option Flaw
first_flaw quote paired [] = None
first_flaw quote paired (b ∷ bs) =
    if not (is_printable b)
    then Some (record { kind = BadByte; before = 0 })
    else (if b == 92 && not paired && not (begins (is_escaped quote) bs)
    then Some (record { kind = BadEscape; before = 0 })
    else option_map one_later (first_flaw quote (b == 92 && not paired) bs))
