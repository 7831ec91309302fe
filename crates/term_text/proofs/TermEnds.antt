-- Where the reading of a term ends: with the term, or where there is none.
use Rattle.std.proofs.Common.{◌≡◌, ℕ, zero, suc, true, false, true≢false, List, [], ◌∷◌, ◌++◌, map, refl, sym, ap, ◌∙◌, subst, append-nil, arith}
use Rattle.mg_word.specs.Table.{Symbol}
use Rattle.mg_word.specs.Spelling.{symbol_piece, spelled_within}
use Rattle.term_text.specs.Names.{NoName}
use Rattle.term_text.specs.Terms.{ends_term, IsTermAt, IsOnlyTerm, NoTerm, Level, IsAhead, IsBehind, IsReached}
use Rattle.term_text.proofs.Texts.{heads}
use Rattle.term_text.proofs.Reaching.{stuck}
use Rattle.term_text.proofs.AheadNames.{none_wanted, ahead_name}

-- within brackets nothing else follows an argument
pub stuck_within : (bytes : List ℕ) (level : Level) (levels : List Level) (current : List Symbol) (byte : ℕ) (next : List ℕ) → (byte ≡ 44 → ⊥) → (byte ≡ 41 → ⊥) → IsReached (IsBehind (level ∷ levels) (byte ∷ next)) bytes (level ∷ levels) current → NoTerm bytes
stuck_within bytes level levels current byte next no_comma no_bracket so = stuck bytes (level ∷ levels) current none so
  where
    none : (counts : List ℕ) (symbols : List Symbol) (tail : List ℕ) → IsBehind (level ∷ levels) (byte ∷ next) counts symbols tail → ⊥
    none [] symbols tail is = omega (arith, is.same)
    none (zero ∷ counts) symbols tail is = no_bracket (sym (heads 41 byte _ next is.text))
    none (suc more ∷ counts) symbols tail is = no_comma (sym (heads 44 byte _ next is.text))

-- nor does the text end there
pub stuck_empty : (bytes : List ℕ) (level : Level) (levels : List Level) (current : List Symbol) → IsReached (IsBehind (level ∷ levels) []) bytes (level ∷ levels) current → NoTerm bytes
stuck_empty bytes level levels current so = stuck bytes (level ∷ levels) current none so
  where
    none : (counts : List ℕ) (symbols : List Symbol) (tail : List ℕ) → IsBehind (level ∷ levels) [] counts symbols tail → ⊥
    none [] symbols tail is = omega (arith, is.same)
    none (zero ∷ counts) symbols tail is = let text = is.text in cc
    none (suc more ∷ counts) symbols tail is = let text = is.text in cc

-- where no name stands no argument begins
pub stuck_name : (bytes : List ℕ) (levels : List Level) (current : List Symbol) (rest : List ℕ) → NoName rest → IsReached (IsAhead levels rest) bytes levels current → NoTerm bytes
stuck_name bytes levels current rest missing so = stuck bytes levels current none so
  where
    none : (counts : List ℕ) (symbols : List Symbol) (tail : List ℕ) → IsAhead levels rest counts symbols tail → ⊥
    none counts [] tail is = true≢false (sym is.own)
    none counts (symbol ∷ symbols) tail is = missing symbol.kind symbol.name _ (ahead_name levels rest counts symbol.name symbol.arity symbol.kind symbols tail is)

-- behind a whole term nothing more of it follows
last_follows : (rest counts : List ℕ) (symbols : List Symbol) (tail : List ℕ) → IsBehind [] rest counts symbols tail → (counts ≡ []) × (symbols ≡ []) × (tail ≡ rest)
last_follows rest [] symbols tail is =
    let empty = none_wanted symbols is.own in
    (refl, empty, subst (λ l. spelled_within [] (map symbol_piece l) ++ tail ≡ rest) empty is.text)
last_follows rest (more ∷ counts) symbols tail is = absurd (omega (arith, is.same))

-- where all brackets are closed the term is whole
pub term_ends : (bytes : List ℕ) (current : List Symbol) (rest : List ℕ) → ends_term rest ≡ true → IsReached (IsBehind [] rest) bytes [] current → IsOnlyTerm bytes current rest
term_ends bytes current rest ends so = record {
  is = subst (λ l. IsTermAt bytes l rest) (append-nil current) (so.sound [] [] rest (record { same = refl; own = refl; ends = ends; text = refl }));
  only = λ t r at.
      let some = so.only t r at in
      let last = last_follows rest some.0 some.1 r some.2 in
      (sym some.3 ∙ (ap (λ l. current ++ l) last.1 ∙ append-nil current), last.2);
}

-- a term that is followed by another byte is none
pub term_goes_on : (bytes : List ℕ) (current : List Symbol) (rest : List ℕ) → ends_term rest ≡ false → IsReached (IsBehind [] rest) bytes [] current → NoTerm bytes
term_goes_on bytes current rest other so t r at =
    let some = so.only t r at in
    let last = last_follows rest some.0 some.1 r some.2 in
    true≢false (sym at.ends ∙ (ap ends_term last.2 ∙ other))
