-- The symbols of a sorted table that are all different stand strictly in order, so that their numbers compare as they do.
use Rattle.std.proofs.Common.{◌≡◌, ◌≢◌, ℕ, ◌+◌, ◌<◌, false, List, [], ◌∷◌, get_or, slice_get, Some, AllPairs, IsSorted, inl, inr, refl, sym, ap, ◌∙◌, arith}
use Rattle.std.specs.declared.cmp.Ordering.{Ordering}
use Rattle.std.specs.declared.cmp.Ordering.TheVariants.{Less, Equal, Greater}
use Rattle.std.specs.Ordering.{nat_cmp, is_lt, ordering_reverse}
use Rattle.std.specs.Cmp.{nat_cmp_total, nat_cmp_is}
use Rattle.std.specs.List.Sorted.{IsStrictlySortedBy}
use Rattle.std.proofs.lemmas.Bool.{cases_order}
use Rattle.std.proofs.lemmas.Cmp.{tied_itself}
use Rattle.std.proofs.lemmas.Map.Keys.{sorted_from_all_adjacent, Less-from_sorted}
use Rattle.std.proofs.lemmas.Option.{slice_get_within, get_or_from_slice_get}
use Rattle.mg_word.specs.Table.{Symbol}
use Rattle.mg_word.specs.declared.symbol.Kind.TheVariants.{Word}
use Rattle.mg_word.specs.SymbolOrder.{symbol_cmp}
use Rattle.mg_word.specs.SymbolLaws.{symbol_total, symbol_same}
use Rattle.mg_word.specs.ProblemLaws.{NumbersAreInSymbolOrder}

-- of two different symbols, the one that is not less is greater
before_it : (a b : Symbol) → a ≢ b → is_lt (symbol_cmp b a) ≡ false → symbol_cmp a b ≡ Less
before_it a b apart not_less = by (symbol_cmp a b) refl
  where
    by : (answer : Ordering) → symbol_cmp a b ≡ answer → answer ≡ Less
    by Less is = refl
    by Equal is = absurd (apart (symbol_same a b is))
    by Greater is = let less = ap is_lt (symbol_total.antisymm b a ∙ ap ordering_reverse is) in cc

pub strictly_sorted : (table : List Symbol) → IsSorted symbol_cmp table → AllPairs (λ a b. a ≢ b) table → IsStrictlySortedBy symbol_cmp table
strictly_sorted [] sorted apart = sorted_from_all_adjacent symbol_total [] (record { name = []; arity = 0; kind = Word }) (λ k within. absurd (omega arith))
strictly_sorted (symbol ∷ table) sorted apart =
    sorted_from_all_adjacent symbol_total (symbol ∷ table) symbol
    (λ k within. before_it _ _ (apart k (k + 1) symbol (omega arith) within) (sorted k symbol (omega arith) within))

-- numbers of symbols compare as the symbols
numbers_compare : (table : List Symbol) → IsStrictlySortedBy symbol_cmp table → (i j : ℕ) (a b : Symbol) → slice_get table i ≡ Some a → slice_get table j ≡ Some b → nat_cmp i j ≡ symbol_cmp a b
numbers_compare table sorted i j a b here there =
    elim (cases_order i j) [
      | inl same ↦ let one : a ≡ b = sym (get_or_from_slice_get table i a a here) ∙ ap (λ n. get_or table n a) same ∙ get_or_from_slice_get table j b a there in
          ap (nat_cmp i) (sym same) ∙ tied_itself nat_cmp_total i ∙ sym (ap (symbol_cmp a) (sym one) ∙ tied_itself symbol_total a)
      | inr apart ↦ elim apart [
        | inl less ↦ numbers_less i j less ∙ sym (symbols_less i j a b here there less)
        | inr more ↦ nat_cmp_total.antisymm i j ∙ ap ordering_reverse (numbers_less j i more ∙ sym (symbols_less j i b a there here more)) ∙ sym (symbol_total.antisymm a b)
      ]
    ]
  where
    numbers_less : (m n : ℕ) → m < n → nat_cmp m n ≡ Less
    numbers_less m n less = sym (nat_cmp_is m n Less less)

    symbols_less : (m n : ℕ) (x y : Symbol) → slice_get table m ≡ Some x → slice_get table n ≡ Some y → m < n → symbol_cmp x y ≡ Less
    symbols_less m n x y first second less =
        rw (← get_or_from_slice_get table m x x first, ← get_or_from_slice_get table n y x second) (Less-from_sorted symbol_cmp table m n x sorted less (slice_get_within table n y second))

pub in_symbol_order : NumbersAreInSymbolOrder
in_symbol_order problem real i j a b here there = numbers_compare problem.symbols (strictly_sorted problem.symbols real.ordered real.input.different) i j a b here there
