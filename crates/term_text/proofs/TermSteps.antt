-- The steps of a term's reading: what may follow behind a step is what may follow before it.
use Rattle.std.proofs.Common.{◌≡◌, ℕ, zero, suc, ◌+◌, true, true≢false, List, [], ◌∷◌, ◌++◌, map, sym, ap, ◌∙◌, subst, append_assoc, arith}
use Rattle.mg_word.specs.Table.{Symbol, symbol_of}
use Rattle.mg_word.specs.Facts.{suits}
use Rattle.mg_word.specs.Spelling.{symbol_piece, closing, still_open, spelled_within}
use Rattle.mg_word.specs.declared.symbol.Kind.{Kind}
use Rattle.mg_word.specs.declared.symbol.Kind.TheVariants.{Word}
use Rattle.term_text.specs.OwnTerms.{are_own_terms}
use Rattle.term_text.specs.Names.{IsOnlyName}
use Rattle.term_text.specs.Terms.{Level, plugged, raised, total, IsAhead, IsBehind}
use Rattle.mg_word.proofs.Members.{both_true}
use Rattle.term_text.proofs.Texts.{heads, tails}
use Rattle.term_text.proofs.Reaching.{Made, IsStep}
use Rattle.term_text.proofs.AheadNames.{own_more, own_less, none_more, after_name, no_bracket, ahead_name, ahead_of_name, word_has_arguments}

-- behind a name without a bracket
pub constant_step : (levels : List Level) (current : List Symbol) (rest after : List ℕ) (kind : Kind) (name : List ℕ) → IsOnlyName rest kind name after → (kind ≡ Word → (more : List ℕ) → after ≡ 40 ∷ more → ⊥)
    → IsStep (IsAhead levels rest) (IsBehind levels after) levels current levels (current ++ symbol_of name 0 kind ∷ [])
constant_step levels current rest after kind name here closed = record { back = back; forth = forth }
  where
    back : (counts : List ℕ) (symbols : List Symbol) (tail : List ℕ) → IsBehind levels after counts symbols tail → Made (IsAhead levels rest) levels current tail (plugged levels counts ((current ++ symbol_of name 0 kind ∷ []) ++ symbols))
    back counts symbols tail is = (
      counts,
      symbol_of name 0 kind ∷ symbols,
      ahead_of_name levels rest counts name 0 kind symbols tail after here.is is.same here.is.good (subst (λ n. are_own_terms n symbols ≡ true) (none_more (total counts)) is.own) is.ends is.text,
      ap (plugged levels counts) (sym (append_assoc current (symbol_of name 0 kind ∷ []) symbols)),
    )

    by : (counts n : List ℕ) (arity : ℕ) (k : Kind) (symbols : List Symbol) (tail : List ℕ) → IsAhead levels rest counts (symbol_of n arity k ∷ symbols) tail
        → Made (IsBehind levels after) levels (current ++ symbol_of name 0 kind ∷ []) tail (plugged levels counts (current ++ symbol_of n arity k ∷ symbols))
    by counts n zero k symbols tail is =
        let same = here.only k n (after_name 0 counts symbols tail) (ahead_name levels rest counts n 0 k symbols tail is) in
        let parts = both_true (suits k n 0) (are_own_terms (0 + total counts) symbols) is.own in
        let names : n ≡ name = same.1 in
        let kinds : k ≡ kind = same.0 in
        let symbol : symbol_of name 0 kind ≡ symbol_of n 0 k = cc in (
          counts,
          symbols,
          record { same = is.same; own = subst (λ m. are_own_terms m symbols ≡ true) {x = 0 + total counts} (sym (none_more (total counts))) parts.1; ends = is.ends; text = same.2 },
          ap (plugged levels counts) (append_assoc current (symbol_of name 0 kind ∷ []) symbols ∙ ap (λ s. current ++ s ∷ symbols) symbol),
        )
    by counts n (suc arity) k symbols tail is =
        let same = here.only k n (after_name (suc arity) counts symbols tail) (ahead_name levels rest counts n (suc arity) k symbols tail is) in
        let parts = both_true (suits k n (suc arity)) (are_own_terms (suc arity + total counts) symbols) is.own in
        absurd (closed (sym same.0 ∙ word_has_arguments k n arity parts.0) (spelled_within (arity ∷ counts) (map symbol_piece symbols) ++ tail) (sym same.2))

    forth : (counts : List ℕ) (symbols : List Symbol) (tail : List ℕ) → IsAhead levels rest counts symbols tail → Made (IsBehind levels after) levels (current ++ symbol_of name 0 kind ∷ []) tail (plugged levels counts (current ++ symbols))
    forth counts [] tail is = absurd (true≢false (sym is.own))
    forth counts (symbol ∷ symbols) tail is = by counts symbol.name symbol.arity symbol.kind symbols tail is

-- the symbol of an opened bracket, with no argument yet
abbrev pub opened : List Symbol → List ℕ → Level
opened current name = record { left = current; head = symbol_of name 0 Word }

-- behind a name and its opening bracket
pub open_step : (levels : List Level) (current : List Symbol) (rest inside name : List ℕ) → IsOnlyName rest Word name (40 ∷ inside)
    → IsStep (IsAhead levels rest) (IsAhead (opened current name ∷ levels) inside) levels current (opened current name ∷ levels) []
open_step levels current rest inside name here = record { back = back; forth = forth }
  where
    raised_is : (more : ℕ) → raised (suc more) (symbol_of name 0 Word) ≡ symbol_of name (suc more) Word
    raised_is more = let e : 0 + suc more ≡ suc more = omega arith in ap (λ n. symbol_of name n Word) e

    back : (counts : List ℕ) (symbols : List Symbol) (tail : List ℕ) → IsAhead (opened current name ∷ levels) inside counts symbols tail → Made (IsAhead levels rest) levels current tail (plugged (opened current name ∷ levels) counts symbols)
    back [] symbols tail is = absurd (omega (arith, is.same))
    back (more ∷ counts) symbols tail is = (
      counts,
      symbol_of name (suc more) Word ∷ symbols,
      ahead_of_name levels rest counts name (suc more) Word symbols tail (40 ∷ inside) here.is (omega (arith, is.same)) here.is.good (own_more more counts symbols is.own) is.ends (ap (λ l. 40 ∷ l) is.text),
      ap (λ s. plugged levels counts (current ++ s ∷ symbols)) (sym (raised_is more)),
    )

    by : (counts n : List ℕ) (arity : ℕ) (k : Kind) (symbols : List Symbol) (tail : List ℕ) → IsAhead levels rest counts (symbol_of n arity k ∷ symbols) tail
        → Made (IsAhead (opened current name ∷ levels) inside) (opened current name ∷ levels) [] tail (plugged levels counts (current ++ symbol_of n arity k ∷ symbols))
    by counts n zero k symbols tail is =
        let same = here.only k n (after_name 0 counts symbols tail) (ahead_name levels rest counts n 0 k symbols tail is) in
        let parts = both_true (suits k n 0) (are_own_terms (0 + total counts) symbols) is.own in
        absurd (no_bracket counts symbols tail inside parts.1 is.ends same.2)
    by counts n (suc arity) k symbols tail is =
        let same = here.only k n (after_name (suc arity) counts symbols tail) (ahead_name levels rest counts n (suc arity) k symbols tail is) in
        let parts = both_true (suits k n (suc arity)) (are_own_terms (suc arity + total counts) symbols) is.own in
        let names : n ≡ name = same.1 in
        let kinds : k ≡ Word = same.0 in
        let symbol : symbol_of name (suc arity) Word ≡ symbol_of n (suc arity) k = cc in (
          arity ∷ counts,
          symbols,
          record {
            same = omega (arith, is.same);
            own = own_less arity counts symbols parts.1;
            ends = is.ends;
            text = tails 40 40 (spelled_within (arity ∷ counts) (map symbol_piece symbols) ++ tail) inside same.2;
          },
          ap (λ s. plugged levels counts (current ++ s ∷ symbols)) (raised_is arity ∙ symbol),
        )

    forth : (counts : List ℕ) (symbols : List Symbol) (tail : List ℕ) → IsAhead levels rest counts symbols tail → Made (IsAhead (opened current name ∷ levels) inside) (opened current name ∷ levels) [] tail (plugged levels counts (current ++ symbols))
    forth counts [] tail is = absurd (true≢false (sym is.own))
    forth counts (symbol ∷ symbols) tail is = by counts symbol.name symbol.arity symbol.kind symbols tail is

-- an argument more of the symbol is counted
abbrev pub more_of : Level → Level
more_of level = record { left = level.left; head = raised 1 level.head }

raised_twice : (more : ℕ) (symbol : Symbol) → raised (suc (suc more)) symbol ≡ raised (suc more) (raised 1 symbol)
raised_twice more symbol = let e : symbol.arity + suc (suc more) ≡ symbol.arity + 1 + suc more = omega arith in ap (λ n. symbol_of symbol.name n symbol.kind) e

-- behind a comma
pub comma_step : (level : Level) (levels : List Level) (current : List Symbol) (next : List ℕ)
    → IsStep (IsBehind (level ∷ levels) (44 ∷ next)) (IsAhead (more_of level ∷ levels) next) (level ∷ levels) current (more_of level ∷ levels) current
comma_step level levels current next = record { back = back; forth = forth }
  where
    back : (counts : List ℕ) (symbols : List Symbol) (tail : List ℕ) → IsAhead (more_of level ∷ levels) next counts symbols tail → Made (IsBehind (level ∷ levels) (44 ∷ next)) (level ∷ levels) current tail (plugged (more_of level ∷ levels) counts (current ++ symbols))
    back [] symbols tail is = absurd (omega (arith, is.same))
    back (more ∷ counts) symbols tail is = (
      suc more ∷ counts,
      symbols,
      record { same = is.same; own = own_more more counts symbols is.own; ends = is.ends; text = ap (λ l. 44 ∷ l) is.text },
      ap (λ s. plugged levels counts (level.left ++ s ∷ (current ++ symbols))) (raised_twice more level.head),
    )

    forth : (counts : List ℕ) (symbols : List Symbol) (tail : List ℕ) → IsBehind (level ∷ levels) (44 ∷ next) counts symbols tail → Made (IsAhead (more_of level ∷ levels) next) (more_of level ∷ levels) current tail (plugged (level ∷ levels) counts (current ++ symbols))
    forth [] symbols tail is = absurd (omega (arith, is.same))
    forth (zero ∷ counts) symbols tail is = absurd (omega (arith, heads 41 44 _ next is.text))
    forth (suc more ∷ counts) symbols tail is = (
      more ∷ counts,
      symbols,
      record { same = is.same; own = own_less more counts symbols is.own; ends = is.ends; text = tails 44 44 (spelled_within (more ∷ counts) (map symbol_piece symbols) ++ tail) next is.text },
      ap (λ s. plugged levels counts (level.left ++ s ∷ (current ++ symbols))) (sym (raised_twice more level.head)),
    )

-- behind a closing bracket
pub close_step : (level : Level) (levels : List Level) (current : List Symbol) (next : List ℕ)
    → IsStep (IsBehind (level ∷ levels) (41 ∷ next)) (IsBehind levels next) (level ∷ levels) current levels (level.left ++ raised 1 level.head ∷ current)
close_step level levels current next = record { back = back; forth = forth }
  where
    back : (counts : List ℕ) (symbols : List Symbol) (tail : List ℕ) → IsBehind levels next counts symbols tail
        → Made (IsBehind (level ∷ levels) (41 ∷ next)) (level ∷ levels) current tail (plugged levels counts ((level.left ++ raised 1 level.head ∷ current) ++ symbols))
    back counts symbols tail is = (
      zero ∷ counts,
      symbols,
      record { same = ap suc is.same; own = subst (λ n. are_own_terms n symbols ≡ true) (none_more (total counts)) is.own; ends = is.ends; text = ap (λ l. 41 ∷ l) is.text },
      ap (plugged levels counts) (sym (append_assoc level.left (raised 1 level.head ∷ current) symbols)),
    )

    forth : (counts : List ℕ) (symbols : List Symbol) (tail : List ℕ) → IsBehind (level ∷ levels) (41 ∷ next) counts symbols tail
        → Made (IsBehind levels next) levels (level.left ++ raised 1 level.head ∷ current) tail (plugged (level ∷ levels) counts (current ++ symbols))
    forth [] symbols tail is = absurd (omega (arith, is.same))
    forth (suc more ∷ counts) symbols tail is = absurd (omega (arith, heads 44 41 _ next is.text))
    forth (zero ∷ counts) symbols tail is = (
      counts,
      symbols,
      record { same = omega (arith, is.same); own = subst (λ n. are_own_terms n symbols ≡ true) {x = 0 + total counts} (sym (none_more (total counts))) is.own; ends = is.ends; text = tails 41 41 ((closing counts ++ spelled_within (still_open counts) (map symbol_piece symbols)) ++ tail) next is.text },
      ap (plugged levels counts) (append_assoc level.left (raised 1 level.head ∷ current) symbols),
    )
