-- The tokens of a text have bytes that may stand in names.
use Rattle.std.proofs.Common.{◌≡◌, ◌<◌, ◌==◌, ℕ, suc, Bool, true, false, ◌&&◌, ◌||◌, not, List, [], ◌∷◌, ◌++◌, length, nat_le, refl, sym, ap, ◌∙◌, arith}
use Rattle.std.proofs.lemmas.Bool.Decides.{nat_tests}
use Rattle.std.specs.List.{list_all}
use Rattle.mg_word.specs.Facts.{is_name_byte, is_plain_number}
use Rattle.mg_word.proofs.Members.{both_true}
use Rattle.ascii_text.specs.Bytes.{is_lower_letter, is_word_byte, is_printable}
use Rattle.tptp_lexer.specs.Forms.{Each, IsWordOf, Item, plain, escaped, bytes_of, AreItems, HasForm}
use Rattle.tptp_lexer.specs.Tokens.{plain_of, text_of, IsTokenIn}
use Rattle.tptp_lexer.specs.declared.token.Token.{Token}
use Rattle.tptp_lexer.specs.declared.token.TokenKind.{TokenKind}
use Rattle.tptp_lexer.specs.declared.token.TokenKind.TheVariants.{Lower, Upper, Quoted, Distinct, Dollar, Number, NotEqual, Punct}
use Rattle.cnf_grammar.specs.Shapes.{shape_of}
use Rattle.cnf_grammar.specs.Soundness.{is_clean}
use Rattle.cnf_reader.specs.Reading.{shape_in}

lower_name : (b : ℕ) → is_lower_letter b ≡ true → is_name_byte b ≡ true
lower_name b e = grind (arith, nat_tests)

word_name : (b : ℕ) → is_word_byte b ≡ true → is_name_byte b ≡ true
word_name b e = grind (arith, nat_tests)

printable_name : (b : ℕ) → is_printable b ≡ true → is_name_byte b ≡ true
printable_name b e = grind (arith, nat_tests)

escaped_name : (quote b : ℕ) → is_name_byte quote ≡ true → (b == quote || b == 92) ≡ true → is_name_byte b ≡ true
escaped_name quote b q e = grind (arith, nat_tests)

words_named : (bs : List ℕ) → Each is_word_byte bs → list_all is_name_byte bs ≡ true
words_named [] each = refl
words_named (b ∷ bs) (first, rest) = rw (word_name b first) (words_named bs rest)

lower_named : (text : List ℕ) → IsWordOf is_lower_letter text → list_all is_name_byte text ≡ true
lower_named [] form = absurd form
lower_named (b ∷ bs) (first, rest) = rw (lower_name b first) (words_named bs rest)

items_named : (quote : ℕ) (items : List Item) → is_name_byte quote ≡ true → AreItems quote items → list_all is_name_byte (bytes_of items ++ quote ∷ []) ≡ true
items_named quote [] q form = rw q refl
items_named quote (plain b ∷ items) q (printable, free, more) = rw (printable_name b printable) (items_named quote items q more)
items_named quote (escaped b ∷ items) q (is, more) = rw (escaped_name quote b q is) (items_named quote items q more)

quoted_named : (quote : ℕ) (items : List Item) (text : List ℕ) → is_name_byte quote ≡ true → AreItems quote items → text ≡ quote ∷ (bytes_of items ++ quote ∷ []) → list_all is_name_byte text ≡ true
quoted_named quote items text q form is = ap (list_all is_name_byte) is ∙ rw q (items_named quote items q form)

number_clean : (text : List ℕ) (test : Bool) → test ≡ is_plain_number text → is_clean (shape_of Number text test) ≡ true
number_clean text true is = sym is
number_clean text false is = refl

-- a text of the form of its kind is clean
form_clean : (kind : TokenKind) (text : List ℕ) (test : Bool) → HasForm kind text → test ≡ plain_of kind text → is_clean (shape_of kind text test) ≡ true
form_clean Lower text test form is = lower_named text form
form_clean Upper text test form is = refl
form_clean Quoted text test (items, form, same) is = quoted_named 39 items text refl form same
form_clean Distinct text test (items, form, same) is = quoted_named 34 items text refl form same
form_clean Dollar text test form is = refl
form_clean Number text test form is = number_clean text test is
form_clean NotEqual text test form is = refl
form_clean (Punct byte) text test form is = refl

-- each token of a text is clean
pub token_clean : (bytes : List ℕ) (token : Token) → IsTokenIn bytes token → is_clean (shape_in bytes token) ≡ true
token_clean bytes token here = form_clean token.kind (text_of bytes token) token.plain here.form here.plain
