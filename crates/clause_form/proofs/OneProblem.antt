-- An input has one problem: different symbols have one order, and each has one number in it.
use Rattle.std.proofs.Common.{◌≡◌, ◌≢◌, ℕ, ◌+◌, ◌<◌, List, [], length, get_or, AllPairs, IsPermutation, IsSorted, true≢false, refl, sym, ◌∙◌, ap, subst, false, arith}
use Rattle.std.specs.declared.cmp.Ordering.{Ordering}
use Rattle.std.specs.declared.cmp.Ordering.TheVariants.{Less, Equal, Greater}
use Rattle.std.specs.Ordering.{is_lt, eq_by_cmp, ordering_reverse}
use Rattle.std.specs.List.Sorted.{IsStrictlySortedBy}
use Rattle.std.specs.BTreeSet.{BTreeSet}
use Rattle.std.proofs.lemmas.List.{ext_get_or}
use Rattle.std.proofs.lemmas.List.Sorted.{IsPermutation-sym, IsPermutation-trans, list_any-IsPermutation}
use Rattle.std.proofs.lemmas.Map.Keys.{sorted_from_all_adjacent}
use Rattle.std.proofs.lemmas.Map.Lookups.{btree_set_from_contains}
use Rattle.mg_word.specs.Facts.{InputData, ProblemData}
use Rattle.mg_word.specs.Forms.{forms_of}
use Rattle.mg_word.specs.SymbolLaws.{symbol_total, symbol_same}
use Rattle.mg_word.specs.SymbolOrder.{symbol_cmp, IsRenumbering}
use Rattle.mg_word.specs.Table.{Symbol, symbol_of}
use Rattle.mg_word.specs.declared.clause.Clause.{Clause}
use Rattle.mg_word.specs.declared.symbol.Kind.TheVariants.{Word}
use Rattle.mg_word.proofs.Different.{element, number_unique}
use Rattle.mg_word.proofs.Sorting.{permuted_different}
use Rattle.clause_form.specs.Forming.{IsFormed}
use Rattle.clause_form.specs.Renumbering.{renumbered}

-- of two different symbols, the one that the other is not before is before it
comes_before : (a b : Symbol) (order : Ordering) → symbol_cmp b a ≡ order → a ≢ b → is_lt order ≡ false → symbol_cmp a b ≡ Less
comes_before a b Less is apart up = absurd (true≢false up)
comes_before a b Equal is apart up = absurd (apart (sym (symbol_same b a is)))
comes_before a b Greater is apart up = symbol_total.antisymm a b ∙ ap ordering_reverse is

-- different symbols in order rise
rising : (symbols : List Symbol) → IsSorted symbol_cmp symbols → AllPairs (λ a b. a ≢ b) symbols → IsStrictlySortedBy symbol_cmp symbols
rising symbols sorted apart =
    let d = symbol_of [] 0 Word in
    sorted_from_all_adjacent symbol_total symbols d
    (λ k within. comes_before (get_or symbols k d) (get_or symbols (k + 1) d) (symbol_cmp (get_or symbols (k + 1) d) (get_or symbols k d)) refl (apart k (k + 1) d (omega arith) within) (sorted k d (omega arith) within))

-- different symbols have one order
one_order : (before p q : List Symbol) → IsPermutation before p → IsPermutation before q → IsStrictlySortedBy symbol_cmp p → IsStrictlySortedBy symbol_cmp q → p ≡ q
one_order before p q first second up up' =
    let these : BTreeSet Symbol = record { keys = p } in
    let those : BTreeSet Symbol = record { keys = q } in
    btree_set_from_contains symbol_total these those up up'
    (λ symbol. list_any-IsPermutation (eq_by_cmp symbol_cmp symbol) p q (IsPermutation-trans p before q (IsPermutation-sym before p first) second))
    symbol_same

-- each symbol has one number among different ones
one_numbering : (before after : List Symbol) (m n : List ℕ) → AllPairs (λ a b. a ≢ b) after → IsRenumbering before after m → IsRenumbering before after n → m ≡ n
one_numbering before after m n apart first second =
    ext_get_or 0 m n (first.each_once ∙ sym second.each_once)
    (λ id within.
    let inside : id < length before = omega (arith, first.each_once, within) in
    let symbol = element before id inside in
    number_unique after apart (get_or m id 0) (get_or n id 0) symbol.0 (first.same id inside ∙ symbol.1) (second.same id inside ∙ symbol.1))

-- where the symbols of an input are all different, it has one problem
pub one_problem : (input : InputData) → AllPairs (λ a b. a ≢ b) input.symbols → (p q : ProblemData) → IsFormed input p → IsFormed input q → p ≡ q
one_problem input apart p q first second =
    let apart_in_p = permuted_different input.symbols p.symbols first.symbols.permuted apart in
    let apart_in_q = permuted_different input.symbols q.symbols second.symbols.permuted apart in
    let symbols = one_order input.symbols p.symbols q.symbols first.symbols.permuted second.symbols.permuted (rising p.symbols first.symbols.ordered apart_in_p) (rising q.symbols second.symbols.ordered apart_in_q) in
    let in_p : IsRenumbering input.symbols p.symbols second.numbers = subst (λ (table : List Symbol). IsRenumbering input.symbols table second.numbers) (sym symbols) second.symbols.renumbered in
    let numbers = one_numbering input.symbols p.symbols first.numbers second.numbers apart_in_p first.symbols.renumbered in_p in
    let files = first.files ∙ sym second.files in
    let clauses = first.clauses ∙ ap (λ n. renumbered n input.clauses) numbers ∙ sym second.clauses in
    let forms = first.forms ∙ ap (λ (cs : List Clause). forms_of cs) clauses ∙ sym second.forms in
    λ i. record { symbols = symbols i; files = files i; clauses = clauses i; forms = forms i }
