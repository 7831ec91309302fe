-- A quoted form without its quotes and escapes is what its parts stand for.
use Rattle.cnf_grammar.proofs.Common.{◌≡◌, ℕ, ◌-◌, true, false, cond, ◌==◌, List, [], ◌∷◌, ◌++◌, length, take, refl, ap, ◌∙◌, arith, length-append, take-append_seam, both_false, unescaped, unquoted}
use Rattle.tptp_lexer.specs.Forms.{Item, plain, escaped, bytes_of, meant_by, AreItems}

unescaped-items : (quote : ℕ) (items : List Item) → AreItems quote items → unescaped false (bytes_of items) ≡ meant_by items
unescaped-items quote [] good = refl
unescaped-items quote (plain b ∷ items) good =
    let apart : b == 92 ≡ false = (both_false (b == quote) (b == 92) good.1).1 in
    ap (λ t. cond t (unescaped true (bytes_of items)) (b ∷ unescaped false (bytes_of items))) apart ∙ ap (λ l. b ∷ l) (unescaped-items quote items good.2)
unescaped-items quote (escaped b ∷ items) good = ap (λ l. b ∷ l) (unescaped-items quote items good.1)

between-quotes : (quote : ℕ) (inside : List ℕ) → take (length (quote ∷ (inside ++ quote ∷ [])) - 2) (inside ++ quote ∷ []) ≡ inside
between-quotes quote inside =
    let size : length (quote ∷ (inside ++ quote ∷ [])) - 2 ≡ length inside = omega (arith, length-append inside (quote ∷ [])) in
    ap (λ n. take n (inside ++ quote ∷ [])) size ∙ take-append_seam inside (quote ∷ [])

-- the text of a quoted form is what its parts stand for
pub unquoted-items : (quote : ℕ) (items : List Item) → AreItems quote items → unquoted (quote ∷ (bytes_of items ++ quote ∷ [])) ≡ meant_by items
unquoted-items quote items good = ap (unescaped false) (between-quotes quote (bytes_of items)) ∙ unescaped-items quote items good
