-- What is found of the terms of a list, term by term.
use Rattle.std.proofs.Common.{◌≡◌, ℕ, zero, suc, ◌+◌, ◌≤◌, ◌<◌, Bool, true, false, true≢false, List, [], ◌∷◌, ◌++◌, length, take, slice_index_or, slice_get, Some, All, Any, MatchBool, refl, sym, ap, ◌∙◌, subst, length-append, arith, if◌then◌else◌}
use Rattle.std.proofs.lemmas.List.{take_more, take_all, get_or_append_left}
use Rattle.std.proofs.lemmas.List.Elements.{All-push, All-more, All-nil}
use Rattle.std.proofs.lemmas.List.Quantifiers.{Any-push}
use Rattle.mg_word.specs.Table.{Symbol, symbol_of}
use Rattle.mg_word.specs.declared.lit.Lit.{Lit}
use Rattle.mg_word.specs.declared.symbol.Kind.TheVariants.{Word}
use Rattle.term_text.specs.Words.{most_symbols}
use Rattle.term_text.specs.OwnTerms.{IsSymbolOf, HasUnknown, AllKnown, IsHeavy, AreNumbers, AreWords, IsLight}
use Rattle.term_text.specs.Terms.{IsRaw, AreRaws}
use Rattle.term_text.specs.Lits.{RawLit, atoms, IsLit, AreLits}
use Rattle.term_text.specs.Lists.{AreFlags, IsVerdict, IsLitVerdict}
use Rattle.term_text.proofs.RawTerms.{raws_length}
use Rattle.term_text.specs.declared.terms.Raw.{Raw}

abbrev no_symbol : Symbol
no_symbol = symbol_of [] 0 Word

pub raw_at : (bytes : List ℕ) (raws : List Raw) (symbols : List Symbol) (i : ℕ) (d : Raw) → i < length raws → AreRaws bytes raws symbols → IsRaw bytes (slice_index_or raws i d) (slice_index_or symbols i no_symbol)
raw_at bytes [] symbols i d within are = absurd (omega arith)
raw_at bytes (raw ∷ raws) [] i d within are = elim are [ ]
raw_at bytes (raw ∷ raws) (symbol ∷ symbols) zero d within are = are.0
raw_at bytes (raw ∷ raws) (symbol ∷ symbols) (suc i) d within are = raw_at bytes raws symbols i d (omega arith) are.1

numbers_push : (table : List Symbol) (numbers : List ℕ) (symbols : List Symbol) (number : ℕ) (symbol : Symbol) → AreNumbers table numbers symbols → slice_get table number ≡ Some symbol → AreNumbers table (numbers ++ number ∷ []) (symbols ++ symbol ∷ [])
numbers_push table [] [] number symbol are is = (is, tt)
numbers_push table [] (other ∷ symbols) number symbol are is = elim are [ ]
numbers_push table (one ∷ numbers) [] number symbol are is = elim are [ ]
numbers_push table (one ∷ numbers) (other ∷ symbols) number symbol are is = (are.0, numbers_push table numbers symbols number symbol are.1 is)

words_push : (table : List Symbol) (words : List (List ℕ)) (terms : List (List Symbol)) (word : List ℕ) (term : List Symbol) → AreWords table words terms → AreNumbers table word term → AreWords table (words ++ word ∷ []) (terms ++ term ∷ [])
words_push table [] [] word term are is = (is, tt)
words_push table [] (other ∷ terms) word term are is = elim are [ ]
words_push table (one ∷ words) [] word term are is = elim are [ ]
words_push table (one ∷ words) (other ∷ terms) word term are is = (are.0, words_push table words terms word term are.1 is)

-- a symbol is missing
pub unknown_at : (bytes : List ℕ) (raws : List Raw) (table term : List Symbol) (i : ℕ) (d : Raw) → i < length raws → AreRaws bytes raws term → ((symbol : Symbol) → IsRaw bytes (slice_index_or raws i d) symbol → IsSymbolOf table symbol → ⊥) → HasUnknown table term
unknown_at bytes raws table term i d within are missing =
    let inside : i < length term = omega (arith, within, raws_length bytes raws term are) in
    (i, slice_index_or term i no_symbol, inside, at_default term i inside, missing (slice_index_or term i no_symbol) (raw_at bytes raws term i d within are))
  where
    at_default : (xs : List Symbol) (k : ℕ) → k < length xs → slice_index_or xs k (slice_index_or xs k no_symbol) ≡ slice_index_or xs k no_symbol
    at_default [] k inside = absurd (omega arith)
    at_default (x ∷ xs) zero inside = refl
    at_default (x ∷ xs) (suc k) inside = at_default xs k (omega arith)

-- one symbol more was found
pub known_more : (bytes : List ℕ) (raws : List Raw) (table term : List Symbol) (i : ℕ) (d : Raw) (numbers : List ℕ) (light : Bool) (number : ℕ) → i < length raws → AreRaws bytes raws term
    → ((symbol : Symbol) → IsRaw bytes (slice_index_or raws i d) symbol → IsSymbolOf table symbol × (slice_get table number ≡ Some symbol))
    → AllKnown table (take i term) × (light ≡ true → AreNumbers table numbers (take i term))
    → AllKnown table (take (i + 1) term) × (light ≡ true → AreNumbers table (if light then numbers ++ number ∷ [] else numbers) (take (i + 1) term))
known_more bytes raws table term i d numbers light number within are found so =
    let inside : i < length term = omega (arith, within, raws_length bytes raws term are) in
    let here = found (slice_index_or term i no_symbol) (raw_at bytes raws term i d within are) in (
      All-more (IsSymbolOf table) term i no_symbol inside so.0 here.0,
      λ is. subst (λ b. AreNumbers table (if b then numbers ++ number ∷ [] else numbers) (take (i + 1) term)) (sym is)
          (subst (λ l. AreNumbers table (numbers ++ number ∷ []) l) (sym (take_more term i no_symbol inside)) (numbers_push table numbers (take i term) number (slice_index_or term i no_symbol) (so.1 is) here.1)),
    )

-- all were found
pub known_all : (bytes : List ℕ) (raws : List Raw) (table term : List Symbol) (i : ℕ) (numbers : List ℕ) (light : Bool) → length raws ≤ i → AreRaws bytes raws term → (length raws ≤ 65536 → light ≡ true)
    → AllKnown table (take i term) × (light ≡ true → AreNumbers table numbers (take i term)) → AllKnown table term × (length term ≤ most_symbols → AreNumbers table numbers term)
known_all bytes raws table term i numbers light whole are lights so =
    let same = raws_length bytes raws term are in
    let all = take_all i term (omega (arith, whole, same)) in
    (subst (AllKnown table) all so.0, λ short. subst (λ l. AreNumbers table numbers l) all (so.1 (lights (omega (arith, short, same)))))

any_left : {X : Type 0} (P : X → Type 0) (xs : List X) (y : X) → Any P xs → Any P (xs ++ y ∷ [])
any_left P xs y some = (some.0, some.1, omega (arith, some.2, length-append xs (y ∷ [])), get_or_append_left xs (y ∷ []) some.1 some.0 some.2 ∙ some.3, some.4)

-- what was found of a term more is found of them all
module _ (table : List Symbol) (have : List (List Symbol)) (term : List Symbol) where
  pub flags_unknown : (unknown heavy : Bool) → HasUnknown table term → AreFlags table have unknown heavy → AreFlags table (have ++ term ∷ []) true heavy
  flags_unknown unknown heavy missing so = record { unknown_is = Any-push (HasUnknown table) have term missing; heavy_is = λ known. absurd (true≢false known) }

  still_known : (unknown : Bool) → AllKnown table term → MatchBool unknown (Any (HasUnknown table) have) (All (AllKnown table) have) → MatchBool unknown (Any (HasUnknown table) (have ++ term ∷ [])) (All (AllKnown table) (have ++ term ∷ []))
  still_known true known so = any_left (HasUnknown table) have term so
  still_known false known so = All-push (AllKnown table) have term so known

  still_light : (heavy : Bool) → IsLight term → MatchBool heavy (Any IsHeavy have) (All IsLight have) → MatchBool heavy (Any IsHeavy (have ++ term ∷ [])) (All IsLight (have ++ term ∷ []))
  still_light true light so = any_left IsHeavy have term so
  still_light false light so = All-push IsLight have term so light

  pub flags_heavy : (unknown heavy : Bool) → AllKnown table term → IsHeavy term → AreFlags table have unknown heavy → AreFlags table (have ++ term ∷ []) unknown true
  flags_heavy unknown heavy known long so = record { unknown_is = still_known unknown known so.unknown_is; heavy_is = λ all. Any-push IsHeavy have term long }

  pub flags_light : (unknown heavy : Bool) → AllKnown table term → IsLight term → AreFlags table have unknown heavy → AreFlags table (have ++ term ∷ []) unknown heavy
  flags_light unknown heavy known light so = record { unknown_is = still_known unknown known so.unknown_is; heavy_is = λ all. still_light heavy light (so.heavy_is all) }

pub no_flags : (table : List Symbol) → AreFlags table [] false false
no_flags table = record { unknown_is = All-nil (AllKnown table); heavy_is = λ known. All-nil IsLight }

pub no_verdict : (table : List Symbol) (words : List (List ℕ)) → words ≡ [] → IsVerdict table [] words false false
no_verdict table words none = record { flags = no_flags table; words_are = λ unknown heavy. subst (λ l. AreWords table l []) (sym none) tt }

-- a term that is refused, and one that is taken
module _ (table : List Symbol) (have : List (List Symbol)) (term : List Symbol) (words : List (List ℕ)) (unknown heavy : Bool) (so : IsVerdict table have words unknown heavy) where
  pub verdict_unknown : HasUnknown table term → IsVerdict table (have ++ term ∷ []) words true heavy
  verdict_unknown missing = record { flags = flags_unknown table have term unknown heavy missing so.flags; words_are = λ first second. absurd (true≢false first) }

  pub verdict_heavy : AllKnown table term → IsHeavy term → IsVerdict table (have ++ term ∷ []) words unknown true
  verdict_heavy known long = record { flags = flags_heavy table have term unknown heavy known long so.flags; words_are = λ first second. absurd (true≢false second) }

  pub verdict_taken : (word : List ℕ) → AllKnown table term → IsLight term → AreNumbers table word term → IsVerdict table (have ++ term ∷ []) (words ++ word ∷ []) unknown heavy
  verdict_taken word known light are = record { flags = flags_light table have term unknown heavy known light so.flags; words_are = λ first second. words_push table words have word term (so.words_are first second) are }

lits_push : (table : List Symbol) (lits : List Lit) (raws : List RawLit) (lit : Lit) (raw : RawLit) → AreLits table lits raws → IsLit table lit raw → AreLits table (lits ++ lit ∷ []) (raws ++ raw ∷ [])
lits_push table [] [] lit raw are is = (is, tt)
lits_push table [] (other ∷ raws) lit raw are is = elim are [ ]
lits_push table (one ∷ lits) [] lit raw are is = elim are [ ]
lits_push table (one ∷ lits) (other ∷ raws) lit raw are is = (are.0, lits_push table lits raws lit raw are.1 is)

atoms_push : (raws : List RawLit) (raw : RawLit) → atoms raws ++ raw.atom ∷ [] ≡ atoms (raws ++ raw ∷ [])
atoms_push [] raw = refl
atoms_push (one ∷ raws) raw = ap (λ l. one.atom ∷ l) (atoms_push raws raw)

pub no_lit_verdict : (table : List Symbol) (lits : List Lit) → lits ≡ [] → IsLitVerdict table [] lits false false
no_lit_verdict table lits none = record { flags = no_flags table; lits_are = λ unknown heavy. subst (λ l. AreLits table l []) (sym none) tt }

-- the same of literals
module _ (table : List Symbol) (have : List RawLit) (raw : RawLit) (lits : List Lit) (unknown heavy : Bool) (so : IsLitVerdict table have lits unknown heavy) where
  pub lit_unknown : HasUnknown table raw.atom → IsLitVerdict table (have ++ raw ∷ []) lits true heavy
  lit_unknown missing = record {
    flags = subst (λ l. AreFlags table l true heavy) (atoms_push have raw) (flags_unknown table (atoms have) raw.atom unknown heavy missing so.flags);
    lits_are = λ first second. absurd (true≢false first);
  }

  pub lit_heavy : AllKnown table raw.atom → IsHeavy raw.atom → IsLitVerdict table (have ++ raw ∷ []) lits unknown true
  lit_heavy known long = record {
    flags = subst (λ l. AreFlags table l unknown true) (atoms_push have raw) (flags_heavy table (atoms have) raw.atom unknown heavy known long so.flags);
    lits_are = λ first second. absurd (true≢false second);
  }

  pub lit_taken : (lit : Lit) → AllKnown table raw.atom → IsLight raw.atom → IsLit table lit raw → IsLitVerdict table (have ++ raw ∷ []) (lits ++ lit ∷ []) unknown heavy
  lit_taken lit known light is = record {
    flags = subst (λ l. AreFlags table l unknown heavy) (atoms_push have raw) (flags_light table (atoms have) raw.atom unknown heavy known light so.flags);
    lits_are = λ first second. lits_push table lits have lit raw (so.lits_are first second) is;
  }
