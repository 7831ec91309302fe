-- The order of symbols is total, and tells apart what is different.
use Rattle.std.specs.Prelude.{◌≡◌, Bool, true}
use Rattle.std.proofs.Common.{refl, sym, ◌∙◌, ap}
use Rattle.std.specs.declared.cmp.Ordering.TheVariants.{Equal}
use Rattle.std.specs.Ordering.{nat_cmp, is_eq, eq_by_cmp, on, then_cmp}
use Rattle.std.specs.Cmp.{IsTotalOrder, then_total, on_total, nat_cmp_total}
use Rattle.std.specs.Cmp.Lexicographic.{slice_cmp, lists_total}
use Rattle.std.proofs.lemmas.Cmp.{tied_itself}
use Rattle.mg_word.specs.OrderLaws.{nat_same, both_equal, slices_same, is_tie}
use Rattle.mg_word.specs.SymbolOrder.{kind_rank, symbol_cmp}
use Rattle.mg_word.specs.Table.{Symbol}
use Rattle.mg_word.specs.declared.symbol.Kind.{Kind}
use Rattle.mg_word.specs.declared.symbol.Kind.TheVariants.{Word, Integer, Distinct}

pub symbol_total : IsTotalOrder symbol_cmp
symbol_total = then_total (on_total (λ symbol. symbol.name) (lists_total nat_cmp_total)) (then_total (on_total (λ symbol. symbol.arity) nat_cmp_total) (on_total (λ symbol. kind_rank symbol.kind) nat_cmp_total))

-- the two are one symbol
abbrev pub same_symbol : Symbol → Symbol → Bool
same_symbol a b = eq_by_cmp symbol_cmp a b

kinds_same : (a b : Kind) → kind_rank a ≡ kind_rank b → a ≡ b
kinds_same Word Word e = refl
kinds_same Word Integer e = cc
kinds_same Word Distinct e = cc
kinds_same Integer Word e = cc
kinds_same Integer Integer e = refl
kinds_same Integer Distinct e = cc
kinds_same Distinct Word e = cc
kinds_same Distinct Integer e = cc
kinds_same Distinct Distinct e = refl

pub symbol_same : (a b : Symbol) → symbol_cmp a b ≡ Equal → a ≡ b
symbol_same a b e =
    let first = both_equal (slice_cmp nat_cmp a.name b.name) (then_cmp (on (λ symbol. symbol.arity) nat_cmp) (on (λ symbol. kind_rank symbol.kind) nat_cmp) a b) e in
    let second = both_equal (nat_cmp a.arity b.arity) (nat_cmp (kind_rank a.kind) (kind_rank b.kind)) first.1 in
    let names = slices_same nat_cmp nat_same a.name b.name first.0 in
    let arities = nat_same a.arity b.arity second.0 in
    let kinds = kinds_same a.kind b.kind (nat_same (kind_rank a.kind) (kind_rank b.kind) second.1) in
    λ i. record { name = names i; arity = arities i; kind = kinds i }

pub symbols_equal : (a b : Symbol) → (same_symbol a b ≡ true → a ≡ b) × (a ≡ b → same_symbol a b ≡ true)
symbols_equal a b = (λ e. symbol_same a b (is_tie (symbol_cmp a b) e), λ e. ap (λ s. is_eq (symbol_cmp a s)) (sym e) ∙ ap is_eq (tied_itself symbol_total a))
