-- The symbols of a table in order: that they stay different, and that each has a new number.
use Rattle.std.proofs.Common.{◌≡◌, ◌≢◌, ℕ, ◌+◌, ◌<◌, Bool, true, false, List, [], ◌∷◌, ◌++◌, map, length, get_or, Some, slice_get, All, AllPairs, Contains, IsPermutation, IsSorted, string_bytes, below_more, append_assoc, refl, sym, ap, ◌∙◌, arith}
use Rattle.std.specs.declared.cmp.Ordering.{Ordering}
use Rattle.std.specs.List.{list_any}
use Rattle.std.specs.Ordering.{nat_cmp, ordering_then}
use Rattle.std.specs.Cmp.Lexicographic.{slice_cmp}
use Rattle.std.specs.Option.{option_map}
use Rattle.std.proofs.lemmas.Cmp.{eq_by_cmp_equiv}
use Rattle.std.proofs.lemmas.List.{length-map, map-append, length-append, get_or_append_left, get_or_at, get_or_push}
use Rattle.std.proofs.lemmas.List.Elements.{All-contains_itself, All-weaker}
use Rattle.std.proofs.lemmas.List.Sorted.{Contains-permutation}
use Rattle.std.proofs.lemmas.Map.Keys.{IsDistinct-IsPermutation}
use Rattle.std.proofs.lemmas.Map.Made.{AllPairs-from_IsDistinct, IsDistinct-from_AllPairs}
use Rattle.std.proofs.lemmas.Option.{slice_get-map, slice_get_read, slice_get_within, get_or_from_slice_get}
use Rattle.indexmap.specs.IndexSet.{insert_key}
use Rattle.mg_word.specs.Table.{Symbol}
use Rattle.mg_word.specs.Seen.{entry_seen}
use Rattle.mg_word.specs.SymbolOrder.{kind_rank, symbol_cmp}
use Rattle.mg_word.specs.declared.symbol.Kind.{Kind}
use Rattle.mg_word.specs.declared.symbol.Kind.TheVariants.{Word, Integer, Distinct}
use Rattle.mg_word.specs.contracts.symbol.KindOrd.TheImpl as kinds
use Rattle.mg_word.specs.SymbolLaws.{symbol_total, same_symbol, symbols_equal}
use Rattle.mg_word.specs.declared.symbol.Entry.{Entry}
use Rattle.mg_word.specs.contracts.symbol.EntryOrd.TheImpl.{cmp-value}
use Rattle.mg_word.proofs.Different.{element}
use Rattle.mg_word.proofs.Entries.{any_seen}

-- kinds compare as their places
kind_order : (a b : Kind) → kinds.cmp-value.it a b ≡ nat_cmp (kind_rank a) (kind_rank b)
kind_order Word Word = refl
kind_order Word Integer = refl
kind_order Word Distinct = refl
kind_order Integer Word = refl
kind_order Integer Integer = refl
kind_order Integer Distinct = refl
kind_order Distinct Word = refl
kind_order Distinct Integer = refl
kind_order Distinct Distinct = refl

-- entries compare as their symbols
pub entry_order : (a b : Entry) → cmp-value.it a b ≡ symbol_cmp (entry_seen a) (entry_seen b)
entry_order a b = ap (λ last. ordering_then (slice_cmp nat_cmp (string_bytes a.name) (string_bytes b.name)) (ordering_then (nat_cmp a.arity b.arity) last)) (kind_order a.kind b.kind)

-- a list that is sorted by what its elements are seen as
pub seen_sorted : {K V : Type 0} (seen : K → V) (order : K → K → Ordering) (cmp : V → V → Ordering) → ((a b : K) → order a b ≡ cmp (seen a) (seen b)) → (keys : List K) → IsSorted order keys → IsSorted cmp (map seen keys)
seen_sorted seen order cmp agree keys sorted k d from before =
    let count = length-map keys seen in
    let first = element keys k (omega (arith, count)) in
    let second = element keys (k + 1) (omega (arith, count)) in
    let left = get_or_from_slice_get (map seen keys) k (seen first.0) d (slice_get-map seen keys k ∙ ap (option_map seen) first.1) in
    let right = get_or_from_slice_get (map seen keys) (k + 1) (seen second.0) d (slice_get-map seen keys (k + 1) ∙ ap (option_map seen) second.1) in
    let here = get_or_from_slice_get keys k first.0 first.0 first.1 in
    let there = get_or_from_slice_get keys (k + 1) second.0 first.0 second.1 in
    let is = sorted k first.0 from (omega (arith, count)) in
    rw (left, right, ← agree second.0 first.0) (rw (here, there) at is)

-- different symbols stay so in another order
pub permuted_different : (before after : List Symbol) → IsPermutation before after → AllPairs (λ a b. a ≢ b) before → AllPairs (λ a b. a ≢ b) after
permuted_different before after permuted apart =
    AllPairs-from_IsDistinct symbols_equal after
    (IsDistinct-IsPermutation same_symbol (eq_by_cmp_equiv symbol_total).symm before after permuted (IsDistinct-from_AllPairs symbols_equal before apart))

-- each symbol is there in another order
pub permuted_holds : (before after : List Symbol) → IsPermutation before after → All (Contains after) before
permuted_holds before after permuted = All-weaker (Contains before) (Contains after) (λ symbol there. Contains-permutation before after symbol permuted there) before (All-contains_itself before)

-- where all are different, no key before a place is taken for the one at it
module _ {K V : Type 0} (eq : K → K → Bool) (seen : K → V) (same : (a b : K) → eq a b ≡ true → seen a ≡ seen b) (equal : (a b : K) → seen a ≡ seen b → eq a b ≡ true) where
  pub fresh : (done rest : List K) (key : K) → AllPairs (λ a b. a ≢ b) (map seen (done ++ key ∷ rest)) → list_any (eq key) done ≡ false
  fresh done rest key apart = by (list_any (eq key) done) refl
    where
      by : (b : Bool) → list_any (eq key) done ≡ b → b ≡ false
      by false is = refl
      by true is =
          let found = any_seen eq seen same equal done key is in
          let count = length-map done seen in
          let whole = map-append seen done (key ∷ rest) in
          let left = get_or_append_left (map seen done) (seen key ∷ map seen rest) (seen key) found.0 found.1 in
          let right = get_or_at (map seen done) (seen key) (map seen rest) (seen key) (length done) count in
          let inside = length-append (map seen done) (seen key ∷ map seen rest) in
          absurd ((rw whole at apart) found.0 (length done) (seen key) (omega (arith, count, found.1)) (omega (arith, count, inside)) (left ∙ found.2 ∙ sym right))

  -- an insertion puts it last
  pub inserted_last : (done rest whole after : List K) (key : K) → after ≡ insert_key eq done key → done ++ key ∷ rest ≡ whole → AllPairs (λ a b. a ≢ b) (map seen whole) → after ++ rest ≡ whole
  inserted_last done rest whole after key inserted is apart =
      let apart_here : AllPairs (λ a b. a ≢ b) (map seen (done ++ key ∷ rest)) = rw is apart in
      let missing = fresh done rest key apart_here in
      let last : insert_key eq done key ≡ done ++ key ∷ [] = rw missing refl in
      rw (inserted, last, append_assoc) is

-- the symbol of the entry at an index
pub symbol_at : (keys : List Entry) (i : ℕ) (key : Entry) → i < length keys → key ≡ get_or keys i key → slice_get (map entry_seen keys) i ≡ Some (entry_seen key)
symbol_at keys i key inside is = slice_get-map entry_seen keys i ∙ ap (option_map entry_seen) (slice_get_read keys (length keys) i key refl inside is)

pub symbol_there : (keys : List Entry) (i : ℕ) (key : Entry) → i < length keys → key ≡ get_or keys i key → Contains (map entry_seen keys) (entry_seen key)
symbol_there keys i key inside is =
    let at = symbol_at keys i key inside is in
    (i, slice_get_within (map entry_seen keys) i (entry_seen key) at, get_or_from_slice_get (map entry_seen keys) i (entry_seen key) (entry_seen key) at)

-- one more number
pub renumbered_more : (numbers : List ℕ) (count number : ℕ) (other symbols : List Symbol) → length numbers ≡ count → slice_get other number ≡ slice_get symbols count
    → ((id : ℕ) → id < count → slice_get other (get_or numbers id 0) ≡ slice_get symbols id) → (id : ℕ) → id < count + 1 → slice_get other (get_or (numbers ++ number ∷ []) id 0) ≡ slice_get symbols id
renumbered_more numbers count number other symbols many here earlier =
    below_more (λ id. slice_get other (get_or (numbers ++ number ∷ []) id 0) ≡ slice_get symbols id) count
    (λ id below. ap (slice_get other) (get_or_append_left numbers (number ∷ []) 0 id (omega arith)) ∙ earlier id below)
    (ap (slice_get other) (get_or_push numbers number 0 count many) ∙ here)
