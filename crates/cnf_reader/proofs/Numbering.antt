-- The numbers of symbols that a table gives are those of the definition.
use Rattle.std.proofs.Common.{◌≡◌, ◌≢◌, ℕ, zero, suc, Bool, true, false, true≢false, cond, ◌||◌, List, [], ◌∷◌, ◌++◌, length, Some, slice_get, Contains, AllPairs, refl, sym, ap, ◌∙◌, arith, subst}
use Rattle.std.specs.List.{list_any}
use Rattle.std.proofs.lemmas.Option.{slice_get_within, get_or_from_slice_get}
use Rattle.mg_word.specs.Table.{Symbol}
use Rattle.mg_word.specs.SymbolLaws.{same_symbol, symbols_equal}
use Rattle.mg_word.proofs.Different.{number_unique}
use Rattle.cnf_reader.specs.Keeping.{number_in, with_symbol}

-- whether the table has the symbol
abbrev pub has : List Symbol → Symbol → Bool
has table symbol = list_any (λ other. same_symbol other symbol) table

found_behind : (other : Symbol) (table : List Symbol) (symbol : Symbol) (b : Bool) → same_symbol other symbol ≡ b → (b || has table symbol) ≡ true → (has table symbol ≡ true → slice_get table (number_in table symbol) ≡ Some symbol)
    → slice_get (other ∷ table) (cond b 0 (suc (number_in table symbol))) ≡ Some symbol
found_behind other table symbol true test held go = ap Some ((symbols_equal other symbol).0 test)
found_behind other table symbol false test held go = go held

-- a symbol that is held has its number
pub found : (table : List Symbol) (symbol : Symbol) → has table symbol ≡ true → slice_get table (number_in table symbol) ≡ Some symbol
found [] symbol held = absurd (true≢false (sym held))
found (other ∷ table) symbol held = found_behind other table symbol (same_symbol other symbol) refl held (found table symbol)

missing_behind : (other : Symbol) (table : List Symbol) (symbol : Symbol) (b : Bool) → (b || has table symbol) ≡ false → (has table symbol ≡ false → number_in table symbol ≡ length table)
    → cond b 0 (suc (number_in table symbol)) ≡ suc (length table)
missing_behind other table symbol true none go = absurd (true≢false none)
missing_behind other table symbol false none go = ap suc (go none)

-- a new one goes last
pub missing : (table : List Symbol) (symbol : Symbol) → has table symbol ≡ false → number_in table symbol ≡ length table
missing [] symbol none = refl
missing (other ∷ table) symbol none = missing_behind other table symbol (same_symbol other symbol) none (missing table symbol)

pub last_is : (table : List Symbol) (symbol : Symbol) → slice_get (table ++ symbol ∷ []) (length table) ≡ Some symbol
last_is [] symbol = refl
last_is (other ∷ table) symbol = last_is table symbol

pub contained : (table : List Symbol) (symbol : Symbol) → has table symbol ≡ true → Contains table symbol
contained table symbol held = (number_in table symbol, slice_get_within table (number_in table symbol) symbol (found table symbol held), get_or_from_slice_get table (number_in table symbol) symbol symbol (found table symbol held))

has_behind : (b : Bool) (other : Symbol) (table : List Symbol) (symbol : Symbol) → has table symbol ≡ true → (b || has table symbol) ≡ true
has_behind true other table symbol held = refl
has_behind false other table symbol held = held

-- what is contained is held
pub held_if : (table : List Symbol) (symbol : Symbol) → Contains table symbol → has table symbol ≡ true
held_if [] symbol (k, within, is) = absurd (omega arith)
held_if (other ∷ table) symbol (zero, within, is) = ap (λ b. b || has table symbol) ((symbols_equal other symbol).1 is)
held_if (other ∷ table) symbol (suc k, within, is) = has_behind (same_symbol other symbol) other table symbol (held_if table symbol (k, omega arith, is))

interned_by : (table new : List Symbol) (symbol : Symbol) (id : ℕ) (b : Bool) → has table symbol ≡ b → AllPairs (λ a b. a ≢ b) new → slice_get new id ≡ Some symbol → (Contains table symbol → new ≡ table)
    → ((Contains table symbol → ⊥) → new ≡ table ++ symbol ∷ []) → (id ≡ number_in table symbol) × (new ≡ cond b table (table ++ symbol ∷ []))
interned_by table new symbol id true test different number held added =
    let same = held (contained table symbol test) in
    (number_unique new different id (number_in table symbol) symbol number (subst (λ list. slice_get list (number_in table symbol) ≡ Some symbol) (sym same) (found table symbol test)), same)
interned_by table new symbol id false test different number held added =
    let more = added (λ inside. true≢false (sym (held_if table symbol inside) ∙ test)) in (
      number_unique new different id (number_in table symbol) symbol number
          (subst (λ list. slice_get list (number_in table symbol) ≡ Some symbol) (sym more) (ap (λ n. slice_get (table ++ symbol ∷ []) n) (missing table symbol test) ∙ last_is table symbol)),
      more,
    )

-- the number that a table gives to a symbol, and the table then
pub interned : (table new : List Symbol) (symbol : Symbol) (id : ℕ) → AllPairs (λ a b. a ≢ b) new → slice_get new id ≡ Some symbol → (Contains table symbol → new ≡ table)
    → ((Contains table symbol → ⊥) → new ≡ table ++ symbol ∷ []) → (id ≡ number_in table symbol) × (new ≡ with_symbol table symbol)
interned table new symbol id different number held added = interned_by table new symbol id (has table symbol) refl different number held added
