-- What the look-up of a symbol in the table finds.
use Rattle.std.proofs.Common.{◌≡◌, ℕ, zero, suc, ◌^◌, ◌≤◌, ◌<◌, true, nat_eq, List, [], ◌∷◌, length, drop, slice_index_or, slice_get, Contains, Option, Some, None, IsNone, IfSome, MatchOption, ◌↔◌, refl, sym, ap, ◌∙◌, subst, length-drop, arith, Result, Ok, Err, IfOk}
use Rattle.std.specs.List.{list_all}
use Rattle.std.proofs.lemmas.Option.{slice_get_within, get_or_from_slice_get}
use Rattle.mg_word.specs.Table.{Symbol, symbol_of}
use Rattle.mg_word.specs.Facts.{is_name_byte, suits, is_plain_number}
use Rattle.mg_word.specs.declared.symbol.Kind.{Kind}
use Rattle.mg_word.specs.declared.symbol.Kind.TheVariants.{Word, Integer, Distinct}
use Rattle.mg_word.proofs.NameTexts.{number_named}
use Rattle.term_text.specs.OwnTerms.{IsSymbolOf}
use Rattle.term_text.specs.Names.{IsOnlyName}
use Rattle.term_text.specs.Terms.{IsRaw, AreRaws}
use Rattle.mg_word.proofs.Members.{both_true}
use Rattle.term_text.proofs.NameShapes.{no_empty_name}
use Rattle.term_text.specs.declared.terms.Raw.{Raw}

raw_start : (bytes : List ℕ) (raw : Raw) (symbol : Symbol) → IsRaw bytes raw symbol → raw.start ≤ length bytes
raw_start bytes raw symbol is = omega (arith, no_empty_name (drop raw.start bytes) symbol.kind symbol.name is.rest is.name, length-drop raw.start bytes)

-- each raw symbol begins within the text
pub raw_within : (bytes : List ℕ) (raws : List Raw) (symbols : List Symbol) (i : ℕ) (d : Raw) → i < length raws → AreRaws bytes raws symbols → (slice_index_or raws i d).start ≤ length bytes
raw_within bytes [] symbols i d within are = absurd (omega arith)
raw_within bytes (raw ∷ raws) [] i d within are = elim are [ ]
raw_within bytes (raw ∷ raws) (symbol ∷ symbols) zero d within are = raw_start bytes raw symbol are.0
raw_within bytes (raw ∷ raws) (symbol ∷ symbols) (suc i) d within are = raw_within bytes raws symbols i d (omega arith) are.1

-- a name is of bytes 32 to 126
pub name_bytes : (kind : Kind) (name : List ℕ) (arity : ℕ) → suits kind name arity ≡ true → list_all is_name_byte name ≡ true
name_bytes Word name arity good = good
name_bytes Integer name arity good = number_named name (both_true (is_plain_number name) (nat_eq arity 0) good).0
name_bytes Distinct name arity good = (both_true (list_all is_name_byte name) (nat_eq arity 0) good).0

-- the symbol of a raw one is that of its name
pub symbol_is : (bytes : List ℕ) (raw : Raw) (symbol : Symbol) (kind : Kind) (name behind : List ℕ) (arity : ℕ) → IsOnlyName (drop raw.start bytes) kind name behind → raw.arity ≡ arity → arity < 2 ^ 32 → IsRaw bytes raw symbol
    → (symbol ≡ symbol_of name arity kind) × (symbol.arity < 2 ^ 32)
symbol_is bytes raw symbol kind name behind arity here same small is =
    let found = here.only symbol.kind symbol.name is.rest is.name in
    let arities : symbol.arity ≡ arity = omega (arith, is.arity, same, small) in
    let names : symbol.name ≡ name = found.1 in
    let kinds : symbol.kind ≡ kind = found.0 in
    (λ i. record { name = names i; arity = arities i; kind = kinds i }, omega (arith, arities, small))

-- no symbol of a table has so many arguments
pub too_many : (bytes : List ℕ) (raw : Raw) (symbol : Symbol) (table : List Symbol) → 2 ^ 32 ≤ raw.arity → IsRaw bytes raw symbol → IsSymbolOf table symbol → ⊥
too_many bytes raw symbol table large is held = omega (arith, is.arity, large, held.small)

-- what a look-up of the symbol says
pub looked_up : (table : List Symbol) (symbol found : Symbol) (id : Option ℕ) → symbol ≡ found → symbol.arity < 2 ^ 32 → IfSome id (λ number. slice_get table number ≡ Some found) → (IsNone id → Contains table found → ⊥)
    → MatchOption id (IsSymbolOf table symbol → ⊥) (λ number. IsSymbolOf table symbol × (slice_get table number ≡ Some symbol))
looked_up table symbol found None same small there none = λ held. none refl (subst (Contains table) same held.held)
looked_up table symbol found (Some number) same small there none =
    let is : slice_get table number ≡ Some symbol = there ∙ ap Some (sym same) in
    (record { held = (number, slice_get_within table number symbol is, get_or_from_slice_get table number symbol symbol is); small = small }, is)

-- what a look-up says, for each symbol that the raw one is
pub number_found : {E : Type 0} (bytes : List ℕ) (raw : Raw) (table : List Symbol) (found : Symbol) (r : Result (Option ℕ) E) → IfOk r (λ id. IfSome id (λ number. slice_get table number ≡ Some found))
    → IfOk r (λ id. IsNone id ↔ (Contains table found → ⊥)) → ((symbol : Symbol) → IsRaw bytes raw symbol → (symbol ≡ found) × (symbol.arity < 2 ^ 32))
    → IfOk r (λ id. (symbol : Symbol) → IsRaw bytes raw symbol → MatchOption id (IsSymbolOf table symbol → ⊥) (λ number. IsSymbolOf table symbol × (slice_get table number ≡ Some symbol)))
number_found bytes raw table found (Ok id) there none same =
    λ symbol is. looked_up table symbol found id (same symbol is).0 (same symbol is).1 there none.0
number_found bytes raw table found (Err e) there none same = tt
