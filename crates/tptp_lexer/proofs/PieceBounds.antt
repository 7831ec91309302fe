-- No front of a text that has the form of a token is longer than the piece there.
use Rattle.std.proofs.Common.{◌≡◌, ◌⊎◌, inl, inr, ℕ, suc, ◌+◌, ◌≤◌, true, false, true≢false, not, ◌==◌, ◌&&◌, ◌||◌, List, [], ◌∷◌, ◌++◌, length, take, drop, Option, Some, None, refl, ap, sym, subst, ◌∙◌, arith, append_assoc, length-append}
use Rattle.std.specs.List.{prefix_len}
use Rattle.std.proofs.lemmas.Bool.{and_parts, or_cases, or_parts, not-true, cond_both}
use Rattle.std.proofs.lemmas.Bool.Decides.{nat_tests}
use Rattle.std.proofs.lemmas.List.{take_at}
use Rattle.ascii_text.specs.Bytes.{is_white, is_lower_letter, is_upper_letter, is_digit, is_word_byte, is_visible, is_printable, begins}
use Rattle.tptp_lexer.specs.Numbers.{is_sign}
use Rattle.tptp_lexer.specs.Comments.{line_len, before_close}
use Rattle.tptp_lexer.specs.Numbers.{starts_number, number_rest_len}
use Rattle.tptp_lexer.specs.Pieces.{block_piece, slash_piece, quoted_piece, name_len, named_piece, dollar_piece, bang_piece, mark_piece, piece_from, piece_of}
use Rattle.tptp_lexer.specs.Forms.{Item, bytes_of, AreItems, IsWordOf, IsLower, IsQuotedBy, IsDollar, is_mark, HasForm}
use Rattle.tptp_lexer.specs.declared.piece.Piece.{Piece}
use Rattle.tptp_lexer.specs.declared.piece.Piece.TheVariants.{Blank, Lexeme, Fault, End}
use Rattle.tptp_lexer.specs.declared.token.TokenKind.{TokenKind}
use Rattle.tptp_lexer.specs.declared.token.TokenKind.TheVariants.{Lower, Upper, Quoted, Distinct, Dollar, Number, NotEqual, Punct}
use Rattle.tptp_lexer.specs.declared.token.LexKind.{LexKind}
use Rattle.tptp_lexer.specs.declared.token.LexKind.TheVariants.{BadByte, OpenQuote, BadEscape, OpenComment}
use Rattle.tptp_lexer.proofs.Runs.{run-least}
use Rattle.tptp_lexer.proofs.NumberBounds.{number-led}
use Rattle.tptp_lexer.proofs.QuoteForms.{IsQuoteMark, single, double, before_quote-items, first_flaw-items}

-- a fault that may stand where a token's form stands: only a comment goes before a token
abbrev pub MayHide : LexKind → Type 0
MayHide OpenComment = Unit {0}
MayHide BadByte = ⊥
MayHide OpenQuote = ⊥
MayHide BadEscape = ⊥

-- the piece is a token of at least this length, or it is or begins a comment or white space
abbrev pub IsAtLeast : ℕ → Piece → Type 0
IsAtLeast size (Lexeme kind n) = size ≤ n
IsAtLeast size (Blank n) = Unit {0}
IsAtLeast size (Fault kind n) = MayHide kind
IsAtLeast size End = ⊥

lower-apart : (b : ℕ) → is_lower_letter b ≡ true → is_white b ≡ false
lower-apart b e = grind (arith, nat_tests)

upper-apart : (b : ℕ) → is_upper_letter b ≡ true → (is_white b ≡ false) × (is_lower_letter b ≡ false)
upper-apart b e = (grind (arith, nat_tests), grind (arith, nat_tests))

digit-apart : (b : ℕ) → is_digit b ≡ true → (is_white b ≡ false) × (is_lower_letter b ≡ false) × (is_upper_letter b ≡ false)
digit-apart b e = (grind (arith, nat_tests), grind (arith, nat_tests), grind (arith, nat_tests))

sign-apart : (b : ℕ) → is_sign b ≡ true → (is_white b ≡ false) × (is_lower_letter b ≡ false) × (is_upper_letter b ≡ false)
sign-apart b e = (grind (arith, nat_tests), grind (arith, nat_tests), grind (arith, nat_tests))

number-apart : (b : ℕ) (bs : List ℕ) → starts_number b bs ≡ true → (is_white b ≡ false) × (is_lower_letter b ≡ false) × (is_upper_letter b ≡ false)
number-apart b bs e = by (or_cases (is_digit b) (is_sign b && begins is_digit bs) e)
  where
    by : (is_digit b ≡ true) ⊎ (is_sign b && begins is_digit bs ≡ true) → (is_white b ≡ false) × (is_lower_letter b ≡ false) × (is_upper_letter b ≡ false)
    by (inl d) = digit-apart b d
    by (inr s) = sign-apart b (and_parts (is_sign b) (begins is_digit bs) s).0

pub piece-lower : (b : ℕ) (bs : List ℕ) → is_lower_letter b ≡ true → piece_from b bs ≡ Lexeme Lower (1 + prefix_len is_word_byte bs)
unfolding piece_from
piece-lower b bs e = rw (lower-apart b e, e) refl

pub piece-upper : (b : ℕ) (bs : List ℕ) → is_upper_letter b ≡ true → piece_from b bs ≡ Lexeme Upper (1 + prefix_len is_word_byte bs)
unfolding piece_from
piece-upper b bs e = let apart = upper-apart b e in rw (apart.0, apart.1, e) refl

pub piece-number : (b : ℕ) (bs : List ℕ) → starts_number b bs ≡ true → piece_from b bs ≡ Lexeme Number (1 + number_rest_len bs)
unfolding piece_from
piece-number b bs e = let apart = number-apart b bs e in rw (apart.0, apart.1, apart.2, e) refl

pub piece-single : (bs : List ℕ) → piece_from 39 bs ≡ quoted_piece Quoted 39 bs
unfolding piece_from mark_piece
piece-single bs = refl

pub piece-double : (bs : List ℕ) → piece_from 34 bs ≡ quoted_piece Distinct 34 bs
unfolding piece_from mark_piece
piece-double bs = refl

pub piece-dollar : (bs : List ℕ) → piece_from 36 bs ≡ dollar_piece bs
unfolding piece_from mark_piece
piece-dollar bs = refl

pub piece-bang : (bs : List ℕ) → piece_from 33 bs ≡ bang_piece bs
unfolding piece_from mark_piece
piece-bang bs = refl

pub piece-slash : (bs : List ℕ) → piece_from 47 bs ≡ slash_piece bs
unfolding piece_from mark_piece
piece-slash bs = refl

pub piece-percent : (bs : List ℕ) → piece_from 37 bs ≡ Blank (1 + line_len bs)
unfolding piece_from mark_piece
piece-percent bs = refl

lower-bound : (text more : List ℕ) → IsWordOf is_lower_letter text → IsAtLeast (length text) (piece_of (text ++ more))
lower-bound [] more form = absurd form
lower-bound (b ∷ bs) more form =
    subst (IsAtLeast (suc (length bs))) (sym (piece-lower b (bs ++ more) form.0)) (omega (arith, run-least is_word_byte bs more form.1))

upper-bound : (text more : List ℕ) → IsWordOf is_upper_letter text → IsAtLeast (length text) (piece_of (text ++ more))
upper-bound [] more form = absurd form
upper-bound (b ∷ bs) more form =
    subst (IsAtLeast (suc (length bs))) (sym (piece-upper b (bs ++ more) form.0)) (omega (arith, run-least is_word_byte bs more form.1))

number-bound : (text more : List ℕ) → HasForm Number text → IsAtLeast (length text) (piece_of (text ++ more))
number-bound text more form =
    let led = number-led text more form in
    let piece : piece_of (text ++ more) ≡ Lexeme Number (1 + number_rest_len (led.rest ++ more)) =
    ap (λ l. piece_of (l ++ more)) led.is ∙ piece-number led.first (led.rest ++ more) led.starts in
    subst (IsAtLeast (length text)) (sym piece) led.least

-- a form with its closing quote is scanned to that quote
quoted-bound : (kind : TokenKind) (quote : ℕ) (items : List Item) (more : List ℕ) → IsQuoteMark quote → is_printable quote ≡ true → AreItems quote items
    → IsAtLeast (2 + length (bytes_of items)) (quoted_piece kind quote (bytes_of items ++ quote ∷ more))
unfolding quoted_piece
quoted-bound kind quote items more mark prints good =
    let front : take (length (bytes_of items)) (bytes_of items ++ quote ∷ more) ≡ bytes_of items = take_at (bytes_of items) (quote ∷ more) (length (bytes_of items)) refl in
    rw (before_quote-items quote items more mark good, front, first_flaw-items quote items prints good) (omega arith)

form-size : (quote : ℕ) (items : List Item) → length (quote ∷ (bytes_of items ++ quote ∷ [])) ≡ 2 + length (bytes_of items)
form-size quote items = omega (arith, length-append (bytes_of items) (quote ∷ []))

pub printable-quotes : (is_printable 39 ≡ true) × (is_printable 34 ≡ true)
printable-quotes = (refl, refl)

single-bound : (text more : List ℕ) → IsQuotedBy 39 text → IsAtLeast (length text) (piece_of (text ++ more))
single-bound text more (items, good, is) =
    let rest : (bytes_of items ++ 39 ∷ []) ++ more ≡ bytes_of items ++ 39 ∷ more = append_assoc (bytes_of items) (39 ∷ []) more in
    let piece : piece_of (text ++ more) ≡ quoted_piece Quoted 39 (bytes_of items ++ 39 ∷ more) =
    ap (λ l. piece_of (l ++ more)) is ∙ piece-single ((bytes_of items ++ 39 ∷ []) ++ more) ∙ ap (quoted_piece Quoted 39) rest in
    let size : length text ≡ 2 + length (bytes_of items) = ap length is ∙ form-size 39 items in
    rw (piece, size) (quoted-bound Quoted 39 items more single printable-quotes.0 good)

double-bound : (text more : List ℕ) → IsQuotedBy 34 text → IsAtLeast (length text) (piece_of (text ++ more))
double-bound text more (items, good, is) =
    let rest : (bytes_of items ++ 34 ∷ []) ++ more ≡ bytes_of items ++ 34 ∷ more = append_assoc (bytes_of items) (34 ∷ []) more in
    let piece : piece_of (text ++ more) ≡ quoted_piece Distinct 34 (bytes_of items ++ 34 ∷ more) =
    ap (λ l. piece_of (l ++ more)) is ∙ piece-double ((bytes_of items ++ 34 ∷ []) ++ more) ∙ ap (quoted_piece Distinct 34) rest in
    let size : length text ≡ 2 + length (bytes_of items) = ap length is ∙ form-size 34 items in
    rw (piece, size) (quoted-bound Distinct 34 items more double printable-quotes.1 good)

above_one : (n : ℕ) → 1 ≤ n → n == 0 ≡ false
above_one n le = grind (arith, nat_tests)

named-bound : (marks size name : ℕ) → 1 ≤ size → size ≤ name → IsAtLeast (marks + size) (named_piece marks name)
named-bound marks size name some le = rw (above_one name (omega arith)) (omega arith)

name-least : (text more : List ℕ) → IsLower text → (1 ≤ length text) × (length text ≤ name_len (text ++ more))
name-least [] more form = absurd form
name-least (b ∷ bs) more form = (omega arith, rw form.0 (omega (arith, run-least is_word_byte bs more form.1)))

lower-no-dollar : (b : ℕ) → is_lower_letter b ≡ true → b == 36 ≡ false
lower-no-dollar b e = grind (arith, nat_tests)

one-bound : (name more : List ℕ) → IsLower name → IsAtLeast (1 + length name) (dollar_piece (name ++ more))
unfolding dollar_piece
one-bound [] more form = absurd form
one-bound (b ∷ bs) more form =
    let least = name-least (b ∷ bs) more form in
    rw (lower-no-dollar b form.0) (named-bound 1 (suc (length bs)) (name_len (b ∷ (bs ++ more))) least.0 least.1)

two-bound : (name more : List ℕ) → IsLower name → IsAtLeast (2 + length name) (dollar_piece (36 ∷ (name ++ more)))
unfolding dollar_piece
two-bound name more form = let least = name-least name more form in named-bound 2 (length name) (name_len (name ++ more)) least.0 least.1

dollar-bound : (text more : List ℕ) → IsDollar text → IsAtLeast (length text) (piece_of (text ++ more))
dollar-bound text more (name, form, inl is) =
    let piece : piece_of (text ++ more) ≡ dollar_piece (name ++ more) = ap (λ l. piece_of (l ++ more)) is ∙ piece-dollar (name ++ more) in
    let size : length text ≡ 1 + length name = omega (arith, ap length is) in
    rw (piece, size) (one-bound name more form)
dollar-bound text more (name, form, inr is) =
    let piece : piece_of (text ++ more) ≡ dollar_piece (36 ∷ (name ++ more)) = ap (λ l. piece_of (l ++ more)) is ∙ piece-dollar (36 ∷ (name ++ more)) in
    let size : length text ≡ 2 + length name = omega (arith, ap length is) in
    rw (piece, size) (two-bound name more form)

not-equal-bound : (text more : List ℕ) → text ≡ 33 ∷ 61 ∷ [] → IsAtLeast (length text) (piece_of (text ++ more))
unfolding bang_piece
not-equal-bound text more is =
    let piece : piece_of (text ++ more) ≡ bang_piece (61 ∷ more) = ap (λ l. piece_of (l ++ more)) is ∙ piece-bang (61 ∷ more) in
    let size : length text ≡ 2 = ap length is in
    rw (piece, size) (omega arith)

-- a single byte: whatever stands there is a token, or is or begins a comment
block-one : (found : Option ℕ) → IsAtLeast 1 (block_piece found)
block-one None = tt
block-one (Some n) = tt

slash-one : (bs : List ℕ) → IsAtLeast 1 (slash_piece bs)
unfolding slash_piece
slash-one [] = omega arith
slash-one (c ∷ bs) = cond_both (c == 42) (block_piece (before_close bs)) (Lexeme (Punct 47) 1) (IsAtLeast 1) (λ _. block-one (before_close bs)) (λ _. omega arith)

named-one : (marks name : ℕ) → 1 ≤ marks → IsAtLeast 1 (named_piece marks name)
named-one marks name some = cond_both (name == 0) (Lexeme (Punct 36) 1) (Lexeme Dollar (marks + name)) (IsAtLeast 1) (λ _. omega arith) (λ _. omega arith)

dollar-one : (bs : List ℕ) → IsAtLeast 1 (dollar_piece bs)
unfolding dollar_piece
dollar-one bs =
    cond_both (begins (λ b. b == 36) bs) (named_piece 2 (name_len (drop 1 bs))) (named_piece 1 (name_len bs)) (IsAtLeast 1)
    (λ _. named-one 2 (name_len (drop 1 bs)) (omega arith)) (λ _. named-one 1 (name_len bs) (omega arith))

bang-one : (bs : List ℕ) → IsAtLeast 1 (bang_piece bs)
unfolding bang_piece
bang-one bs = cond_both (begins (λ b. b == 61) bs) (Lexeme NotEqual 2) (Lexeme (Punct 33) 1) (IsAtLeast 1) (λ _. omega arith) (λ _. omega arith)

-- what a byte that may stand alone is, and is not
pub record StandsAlone (b : ℕ) : Type 0 where
  pub visible : is_visible b ≡ true
  pub lower : is_lower_letter b ≡ false
  pub upper : is_upper_letter b ≡ false
  pub digit : is_digit b ≡ false
  pub double : b == 34 ≡ false
  pub single : b == 39 ≡ false

-- a mark stands alone
pub mark-parts : (b : ℕ) → is_mark b ≡ true → StandsAlone b
unfolding is_mark
mark-parts b e =
    let halves = and_parts (is_visible b) (not (is_lower_letter b || is_upper_letter b || is_digit b || b == 34 || b == 37 || b == 39)) e in
    let none = not-true (is_lower_letter b || is_upper_letter b || is_digit b || b == 34 || b == 37 || b == 39) halves.1 in
    let last = or_parts (is_lower_letter b || is_upper_letter b || is_digit b || b == 34 || b == 37) (b == 39) none in
    let more = or_parts (is_lower_letter b || is_upper_letter b || is_digit b || b == 34) (b == 37) last.0 in
    let quotes = or_parts (is_lower_letter b || is_upper_letter b || is_digit b) (b == 34) more.0 in
    let digits = or_parts (is_lower_letter b || is_upper_letter b) (is_digit b) quotes.0 in
    let letters = or_parts (is_lower_letter b) (is_upper_letter b) digits.0 in
    record { visible = halves.0; lower = letters.0; upper = letters.1; digit = digits.1; double = quotes.1; single = last.1 }

mark-one : (b : ℕ) (bs : List ℕ) → StandsAlone b → IsAtLeast 1 (mark_piece b bs)
unfolding mark_piece
mark-one b bs alone =
    cond_both (b == 37) _ _ (IsAtLeast 1) (λ _. tt)
    (λ _. cond_both (b == 47) _ _ (IsAtLeast 1) (λ _. slash-one bs)
    (λ _. cond_both (b == 39) _ _ (IsAtLeast 1) (λ e. absurd (true≢false (sym e ∙ alone.single)))
    (λ _. cond_both (b == 34) _ _ (IsAtLeast 1) (λ e. absurd (true≢false (sym e ∙ alone.double)))
    (λ _. cond_both (b == 36) _ _ (IsAtLeast 1) (λ _. dollar-one bs)
    (λ _. cond_both (b == 33) _ _ (IsAtLeast 1) (λ _. bang-one bs)
    (λ _. cond_both (is_visible b) (Lexeme (Punct b) 1) (Fault BadByte 0) (IsAtLeast 1) (λ _. omega arith) (λ e. absurd (true≢false (sym alone.visible ∙ e)))))))))

from-one : (b : ℕ) (bs : List ℕ) → StandsAlone b → IsAtLeast 1 (piece_from b bs)
unfolding piece_from
from-one b bs alone =
    cond_both (is_white b) _ _ (IsAtLeast 1) (λ _. tt)
    (λ _. cond_both (is_lower_letter b) _ _ (IsAtLeast 1) (λ _. omega arith)
    (λ _. cond_both (is_upper_letter b) _ _ (IsAtLeast 1) (λ _. omega arith)
    (λ _. cond_both (starts_number b bs) _ _ (IsAtLeast 1) (λ _. omega arith) (λ _. mark-one b bs alone))))

punct-bound : (b : ℕ) (text more : List ℕ) → HasForm (Punct b) text → IsAtLeast (length text) (piece_of (text ++ more))
punct-bound b text more form =
    let piece : piece_of (text ++ more) ≡ piece_from b more = ap (λ l. piece_of (l ++ more)) form.0 in
    let size : length text ≡ 1 = ap length form.0 in
    rw (piece, size) (from-one b more (mark-parts b form.1))

pub form-bound : (kind : TokenKind) (text more : List ℕ) → HasForm kind text → IsAtLeast (length text) (piece_of (text ++ more))
form-bound Lower text more form = lower-bound text more form
form-bound Upper text more form = upper-bound text more form
form-bound Quoted text more form = single-bound text more form
form-bound Distinct text more form = double-bound text more form
form-bound Dollar text more form = dollar-bound text more form
form-bound Number text more form = number-bound text more form
form-bound NotEqual text more form = not-equal-bound text more form
form-bound (Punct b) text more form = punct-bound b text more form
