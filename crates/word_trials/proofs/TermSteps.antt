-- One pass over the symbols of a word, which counts the terms that are still wanted.
use Rattle.std.proofs.Common.{◌≡◌, ℕ, suc, ◌+◌, ◌-◌, ◌<◌, ◌≤◌, true, List, ◌∷◌, length, get_or, drop, drop-cons, add-one, nat_eq, IfSome, slice_get, refl, subst, arith}
use Rattle.std.proofs.lemmas.List.{drop_all}
use Rattle.std.proofs.lemmas.Bool.Decides.{nat_tests}
use Rattle.mg_word.specs.Table.{Symbol}
use Rattle.mg_word.specs.Words.{are_terms}
use Rattle.mg_word.proofs.AppliedWords.{behind_symbol}
use Rattle.mg_word.proofs.Different.{element}

-- a symbol takes the place of one wanted term, and its arguments are wanted then
pub term_step : (table : List Symbol) (word : List ℕ) (i wanted arity more : ℕ) → i < length word → get_or word i 0 < length table → IfSome (slice_get table (get_or word i 0)) (λ symbol. arity ≡ symbol.arity)
    → 0 < wanted → more ≡ arity + (wanted - 1) → are_terms table more (drop (i + 1) word) ≡ true → are_terms table wanted (drop i word) ≡ true
term_step table word i wanted arity more inside within told some is fit =
    let symbol = element table (get_or word i 0) within in
    let same : arity ≡ symbol.0.arity = subst (λ found. IfSome found (λ one. arity ≡ one.arity)) symbol.1 told in
    let rest : are_terms table (symbol.0.arity + (wanted - 1)) (drop (suc i) word) ≡ true = subst (λ n. are_terms table n (drop (suc i) word) ≡ true) (omega (arith, is, same)) (rw add-one at fit) in
    let counted : suc (wanted - 1) ≡ wanted = omega (arith, some) in
    rw (drop-cons word i 0 inside) (subst (λ n. are_terms table n (get_or word i 0 ∷ drop (suc i) word) ≡ true) counted (behind_symbol table (get_or word i 0) (wanted - 1) (drop (suc i) word) symbol.0 symbol.1 rest))

-- behind the last symbol no term is wanted
pub term_done : (table : List Symbol) (word : List ℕ) (i wanted : ℕ) → length word ≤ i → nat_eq wanted 0 ≡ true → are_terms table wanted (drop i word) ≡ true
term_done table word i wanted past none =
    let zeroed : wanted ≡ 0 = grind (arith, nat_tests) in
    rw (zeroed, drop_all i word past) refl
