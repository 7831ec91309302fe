-- No line feed is in what is spelled, so a text begins with one line alone.
use Rattle.std.proofs.Common.{◌≡◌, ℕ, zero, suc, Bool, true, false, true≢false, ◌||◌, if◌then◌else◌, nat_eq, List, [], ◌∷◌, ◌++◌, map, Option, Some, None, refl, sym, arith, slice_get}
use Rattle.std.specs.List.{list_all, flat_map}
use Rattle.std.proofs.lemmas.Bool.Decides.{nat_tests}
use Rattle.mg_word.specs.Table.{Symbol}
use Rattle.mg_word.specs.Facts.{is_symbol, is_digit, is_name_byte}
use Rattle.std.specs.Option.{option_to_list}
use Rattle.mg_word.specs.declared.symbol.Kind.{Kind}
use Rattle.mg_word.specs.declared.symbol.Kind.TheVariants.{Word, Integer, Distinct}
use Rattle.mg_word.specs.Spelling.{is_lower_word, symbols_at, spelled_within, symbol_piece, spelled_name, behind, open_behind, closing, escaped, quoted}
use Rattle.ascii_text.specs.Bytes.{is_in_line}
use Rattle.proof_tree.specs.FirstFaults.{has_no_feed}
use Rattle.mg_word.proofs.Members.{both_true, and_true}
use Rattle.ascii_text.proofs.Cuts.{cut_unique}
use Rattle.term_text.proofs.Texts.{tails, all_weaker}
use Rattle.term_text.proofs.LookUps.{name_bytes}
use Rattle.term_text.proofs.SymbolWords.{passes_at}

pub no_feed_append : (a b : List ℕ) → has_no_feed a ≡ true → has_no_feed b ≡ true → has_no_feed (a ++ b) ≡ true
no_feed_append [] b first second = second
no_feed_append (x ∷ a) b first second =
    let parts = both_true (is_in_line x) (has_no_feed a) first in
    and_true (is_in_line x) (has_no_feed (a ++ b)) parts.0 (no_feed_append a b parts.1 second)

name_no_feed : (byte : ℕ) → is_name_byte byte ≡ true → is_in_line byte ≡ true
name_no_feed byte name = grind (arith, nat_tests)

pub digit_no_feed : (byte : ℕ) → is_digit byte ≡ true → is_in_line byte ≡ true
digit_no_feed byte digit = grind (arith, nat_tests)

-- a text with a line feed has one
pub feed_in : (a b : List ℕ) → has_no_feed (a ++ 10 ∷ b) ≡ true → ⊥
feed_in [] b none = true≢false (sym none)
feed_in (x ∷ a) b none = feed_in a b (both_true (is_in_line x) (has_no_feed (a ++ 10 ∷ b)) none).1

escaped_no_feed : (quote : ℕ) (name : List ℕ) → list_all is_name_byte name ≡ true → has_no_feed (flat_map (escaped quote) name) ≡ true
escaped_no_feed quote [] good = refl
escaped_no_feed quote (byte ∷ name) good =
    let parts = both_true (is_name_byte byte) (list_all is_name_byte name) good in
    no_feed_append (escaped quote byte) (flat_map (escaped quote) name) (one (nat_eq byte quote || nat_eq byte 92) (name_no_feed byte parts.0)) (escaped_no_feed quote name parts.1)
  where
    one : (b : Bool) → is_in_line byte ≡ true → has_no_feed (if b then 92 ∷ byte ∷ [] else byte ∷ []) ≡ true
    one true fine = and_true (is_in_line byte) true fine refl
    one false fine = and_true (is_in_line byte) true fine refl

quoted_no_feed : (quote : ℕ) (name : List ℕ) → is_in_line quote ≡ true → list_all is_name_byte name ≡ true → has_no_feed (quoted quote name) ≡ true
quoted_no_feed quote name fine good =
    and_true (is_in_line quote) (has_no_feed (flat_map (escaped quote) name ++ quote ∷ [])) fine
    (no_feed_append (flat_map (escaped quote) name) (quote ∷ []) (escaped_no_feed quote name good) (and_true (is_in_line quote) true fine refl))

spelled_no_feed : (kind : Kind) (name : List ℕ) → list_all is_name_byte name ≡ true → has_no_feed (spelled_name kind name) ≡ true
spelled_no_feed Word name good = by (is_lower_word name)
  where
    by : (b : Bool) → has_no_feed (if b then name else quoted 39 name) ≡ true
    by true = all_weaker is_name_byte is_in_line name_no_feed name good
    by false = quoted_no_feed 39 name refl good
spelled_no_feed Integer name good = all_weaker is_name_byte is_in_line name_no_feed name good
spelled_no_feed Distinct name good = quoted_no_feed 34 name refl good

closing_no_feed : (brackets : List ℕ) → has_no_feed (closing brackets) ≡ true
closing_no_feed [] = refl
closing_no_feed (zero ∷ brackets) = closing_no_feed brackets
closing_no_feed (suc more ∷ brackets) = refl

behind_no_feed : (arity : ℕ) (brackets : List ℕ) → has_no_feed (behind arity brackets) ≡ true
behind_no_feed zero brackets = closing_no_feed brackets
behind_no_feed (suc more) brackets = refl

pub within_no_feed : (brackets : List ℕ) (symbols : List Symbol) → list_all is_symbol symbols ≡ true → has_no_feed (spelled_within brackets (map symbol_piece symbols)) ≡ true
within_no_feed brackets [] good = refl
within_no_feed brackets (symbol ∷ symbols) good =
    let parts = both_true (is_symbol symbol) (list_all is_symbol symbols) good in
    no_feed_append (spelled_name symbol.kind symbol.name) (behind symbol.arity brackets ++ spelled_within (open_behind symbol.arity brackets) (map symbol_piece symbols)) (spelled_no_feed symbol.kind symbol.name (name_bytes symbol.kind symbol.name symbol.arity parts.0))
    (no_feed_append (behind symbol.arity brackets) (spelled_within (open_behind symbol.arity brackets) (map symbol_piece symbols)) (behind_no_feed symbol.arity brackets) (within_no_feed (open_behind symbol.arity brackets) symbols parts.1))

pub symbols_named : (table : List Symbol) (word : List ℕ) → list_all is_symbol table ≡ true → list_all is_symbol (symbols_at table word) ≡ true
symbols_named table [] named = refl
symbols_named table (number ∷ word) named = by (slice_get table number) refl (symbols_named table word named)
  where
    by : (found : Option Symbol) → slice_get table number ≡ found → list_all is_symbol (symbols_at table word) ≡ true → list_all is_symbol (option_to_list found ++ symbols_at table word) ≡ true
    by None is rest = rest
    by (Some symbol) is rest = and_true (is_symbol symbol) (list_all is_symbol (symbols_at table word)) (passes_at is_symbol table number symbol named is) rest

-- a text begins with one line alone
pub line_unique : (a b r s : List ℕ) → has_no_feed a ≡ true → has_no_feed b ≡ true → a ++ 10 ∷ r ≡ b ++ 10 ∷ s → (a ≡ b) × (r ≡ s)
line_unique a b r s first second same =
    let cut = cut_unique is_in_line a (10 ∷ r) b (10 ∷ s) first second refl refl same in
    (cut.0, tails 10 10 r s cut.1)
