-- A table of the names of a selection has a name exactly where the names have it.
use Rattle.std.proofs.Common.{◌≡◌, ℕ, IsUtf8, Bool, true, false, true≢false, cond, ◌||◌, List, [], ◌∷◌, ◌++◌, Contains, Option, Some, None, IsNone, ◌↔◌, is_some, refl, sym, ap, ◌∙◌, subst}
use Rattle.std.specs.List.{list_all, list_any}
use Rattle.std.specs.Str.{bytes_eq}
use Rattle.std.proofs.lemmas.Slice.Eq.{bytes_eq-Decides}
use Rattle.mg_word.specs.Facts.{is_name_byte}
use Rattle.mg_word.specs.Table.{Symbol}
use Rattle.mg_word.specs.SymbolLaws.{same_symbol, symbols_equal}
use Rattle.mg_word.specs.declared.symbol.Kind.{Kind}
use Rattle.mg_word.specs.declared.symbol.Kind.TheVariants.{Word, Integer, Distinct}
use Rattle.mg_word.specs.declared.clause.Name.{Name}
use Rattle.mg_word.proofs.Members.{and_true, both_true}
use Rattle.mg_word.proofs.NameTexts.{name_utf8}
use Rattle.cnf_reader.specs.Faults.{same_kind, same_name}
use Rattle.cnf_reader.specs.Keeping.{with_symbol}
use Rattle.cnf_reader.specs.Sound.{AreNames}
use Rattle.cnf_reader.specs.Selecting.{name_symbol, with_names, table_of}
use Rattle.cnf_reader.proofs.Numbering.{has, contained, held_if}

-- two tests that hold in the same cases are one
iff : (a b : Bool) → (a ≡ true → b ≡ true) → (b ≡ true → a ≡ true) → a ≡ b
iff true true f g = refl
iff true false f g = sym (f refl)
iff false true f g = g refl
iff false false f g = refl

or_split : (a b : Bool) (P : Type 0) → (a || b) ≡ true → (a ≡ true → P) → (b ≡ true → P) → P
or_split true b P h f g = f refl
or_split false b P h f g = g h

or_left : (a b : Bool) → a ≡ true → (a || b) ≡ true
or_left true b h = refl
or_left false b h = absurd (true≢false (sym h))

or_right : (a b : Bool) → b ≡ true → (a || b) ≡ true
or_right true b h = refl
or_right false b h = h

has_more : (table : List Symbol) (symbol query : Symbol) → has (table ++ symbol ∷ []) query ≡ (has table query || same_symbol symbol query)
has_more [] symbol query = elim (same_symbol symbol query) as (λ b. (b || false) ≡ b) [ true ↦ refl | false ↦ refl ]
has_more (other ∷ table) symbol query = elim (same_symbol other query) as (λ b. (b || has (table ++ symbol ∷ []) query) ≡ ((b || has table query) || same_symbol symbol query)) [ true ↦ refl | false ↦ has_more table symbol query ]

with_by : (table : List Symbol) (symbol query : Symbol) (b : Bool) → has table symbol ≡ b → has (cond b table (table ++ symbol ∷ [])) query ≡ (has table query || same_symbol symbol query)
with_by table symbol query true held =
    iff (has table query) (has table query || same_symbol symbol query) (or_left (has table query) _)
    (λ either. or_split (has table query) (same_symbol symbol query) (has table query ≡ true) either (λ h. h) (λ same. subst (λ s. has table s ≡ true) ((symbols_equal symbol query).0 same) held))
with_by table symbol query false held = has_more table symbol query

-- a table has what it had, and the symbol that was added
has_with : (table : List Symbol) (symbol query : Symbol) → has (with_symbol table symbol) query ≡ (has table query || same_symbol symbol query)
has_with table symbol query = with_by table symbol query (has table symbol) refl

regroup : (a b c : Bool) → ((a || b) || c) ≡ (a || (b || c))
regroup true b c = refl
regroup false b c = refl

has_names : (table : List Symbol) (names : List Name) (query : Symbol) → has (with_names table names) query ≡ (has table query || list_any (λ other. same_symbol (name_symbol other) query) names)
has_names table [] query = elim (has table query) as (λ b. b ≡ (b || false)) [ true ↦ refl | false ↦ refl ]
has_names table (name ∷ names) query =
    has_names (with_symbol table (name_symbol name)) names query
    ∙ ap (λ b. b || list_any (λ other. same_symbol (name_symbol other) query) names) (has_with table (name_symbol name) query)
    ∙ regroup (has table query) (same_symbol (name_symbol name) query) (list_any (λ other. same_symbol (name_symbol other) query) names)

kinds_same : (a b : Kind) → same_kind a b ≡ true → a ≡ b
kinds_same Word Word h = refl
kinds_same Integer Integer h = refl
kinds_same Distinct Distinct h = refl
kinds_same Word Integer h = absurd (true≢false (sym h))
kinds_same Word Distinct h = absurd (true≢false (sym h))
kinds_same Integer Word h = absurd (true≢false (sym h))
kinds_same Integer Distinct h = absurd (true≢false (sym h))
kinds_same Distinct Word h = absurd (true≢false (sym h))
kinds_same Distinct Integer h = absurd (true≢false (sym h))

kind_itself : (a : Kind) → same_kind a a ≡ true
kind_itself Word = refl
kind_itself Integer = refl
kind_itself Distinct = refl

-- names are the same exactly where their symbols are
names_same : (a b : Name) → same_symbol (name_symbol a) (name_symbol b) ≡ same_name a b
names_same a b =
    iff (same_symbol (name_symbol a) (name_symbol b)) (same_name a b)
    (λ same.
    let e = (symbols_equal (name_symbol a) (name_symbol b)).0 same in
    and_true (same_kind a.kind b.kind) (bytes_eq a.text b.text) (subst (λ k. same_kind a.kind k ≡ true) (ap (λ (s : Symbol). s.kind) e) (kind_itself a.kind)) ((bytes_eq-Decides a.text b.text).1 (ap (λ (s : Symbol). s.name) e)))
    (λ same.
    let parts = both_true (same_kind a.kind b.kind) (bytes_eq a.text b.text) same in
    let kinds = kinds_same a.kind b.kind parts.0 in
    let texts = (bytes_eq-Decides a.text b.text).0 parts.1 in
    (symbols_equal (name_symbol a) (name_symbol b)).1 (λ i. record { name = texts i; arity = 0; kind = kinds i }))

any_same : (names : List Name) (name : Name) → list_any (λ other. same_symbol (name_symbol other) (name_symbol name)) names ≡ list_any (λ other. same_name other name) names
any_same [] name = refl
any_same (other ∷ names) name = ap (λ b. b || list_any (λ other. same_symbol (name_symbol other) (name_symbol name)) names) (names_same other name) ∙ ap (λ b. same_name other name || b) (any_same names name)

table_has : (names : List Name) (name : Name) → has (table_of names) (name_symbol name) ≡ list_any (λ other. same_name other name) names
table_has names name = has_names [] names (name_symbol name) ∙ any_same names name

some_if : (found : Option ℕ) (table : List Symbol) (symbol : Symbol) → IsNone found ↔ (Contains table symbol → ⊥) → is_some found ≡ has table symbol
some_if None table symbol none = iff false (has table symbol) (λ h. absurd (true≢false (sym h))) (λ held. absurd (none.0 refl (contained table symbol held)))
some_if (Some id) table symbol none = by (has table symbol) refl
  where
    by : (b : Bool) → has table symbol ≡ b → true ≡ b
    by true held = refl
    by false held = none.1 (λ inside. true≢false (sym (held_if table symbol inside) ∙ held))

-- what a look-up finds tells whether the names have the name
pub looked_up : (names : List Name) (name : Name) (found : Option ℕ) (table : List Symbol) → table ≡ table_of names → IsNone found ↔ (Contains table (name_symbol name) → ⊥) → is_some found ≡ list_any (λ other. same_name other name) names
looked_up names name found table is none = some_if found table (name_symbol name) none ∙ ap (λ t. has t (name_symbol name)) is ∙ table_has names name

-- a name that is no text is none of names that are
pub no_text_among : (names : List Name) (name : Name) → AreNames names → (IsUtf8 name.text → ⊥) → list_any (λ other. same_name other name) names ≡ false
no_text_among [] name are none = refl
no_text_among (other ∷ names) name are none =
    let each = both_true (list_all is_name_byte other.text) (list_all (λ (one : Name). list_all is_name_byte one.text) names) are in
    rw (apart (same_name other name) refl each.0) (no_text_among names name each.1 none)
  where
    apart : (test : Bool) → same_name other name ≡ test → list_all is_name_byte other.text ≡ true → same_name other name ≡ false
    apart true same text = absurd (none (subst IsUtf8 ((bytes_eq-Decides other.text name.text).0 (both_true (same_kind other.kind name.kind) (bytes_eq other.text name.text) same).1) (name_utf8 other.text text)))
    apart false same text = same
