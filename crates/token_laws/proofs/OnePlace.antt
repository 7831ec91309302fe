-- One line and one column stand behind these bytes.
use Rattle.std.proofs.Common.{◌≡◌, ◌⊎◌, inl, inr, ℕ, ◌+◌, List, [], ◌∷◌, ◌++◌, length, refl, sym, ap, subst, ◌∙◌}
use Rattle.ascii_text.specs.Bytes.{is_in_line}
use Rattle.tptp_lexer.specs.Forms.{Each}
use Rattle.tptp_lexer.specs.Lines.{AreLines, IsPlaceBehind}
use Rattle.token_laws.proofs.Fronts.{tails, nothing, Longer, fronts, tell}

no-feed : (before : List ℕ) → Each is_in_line (before ++ 10 ∷ []) → ⊥
no-feed [] each = tell is_in_line 10 10 each.0 refl refl
no-feed (b ∷ before) each = no-feed before each.1

each-front : (front rest : List ℕ) → Each is_in_line (front ++ rest) → Each is_in_line front
each-front [] rest each = tt
each-front (b ∷ front) rest each = (each.0, each-front front rest each.1)

-- what ends with a line feed ends with it also behind a front
ends-feed : (front more before : List ℕ) (b : ℕ) → front ++ b ∷ more ≡ before ++ 10 ∷ [] → (end : List ℕ) × (b ∷ more ≡ end ++ 10 ∷ [])
ends-feed [] more before b e = (before, e)
ends-feed (x ∷ front) more [] b e = absurd (past front (tails e))
  where
    past : (front : List ℕ) → front ++ b ∷ more ≡ [] → ⊥
    past [] e = nothing (sym e)
    past (y ∷ front) e = nothing (sym e)
ends-feed (x ∷ front) more (y ∷ before) b e = ends-feed front more before b (tails e)

lines-part : (lines part more : List ℕ) → AreLines (lines ++ more) → Each is_in_line (more ++ part) → more ≡ []
lines-part lines part [] whole each = refl
lines-part lines part (b ∷ more) (inl none) each = absurd (empty lines none)
  where
    empty : (lines : List ℕ) → lines ++ b ∷ more ≡ [] → ⊥
    empty [] e = nothing (sym e)
    empty (x ∷ lines) e = nothing (sym e)
lines-part lines part (b ∷ more) (inr (before, is)) each =
    let end = ends-feed lines more before b is in
    absurd (no-feed end.0 (subst (Each is_in_line) end.1 (each-front (b ∷ more) part each)))

part-longer : (lines part other left : List ℕ) → Longer lines part other left → AreLines other → Each is_in_line part → part ≡ left
part-longer lines part other left (more, is, rest) whole each =
    let none = lines-part lines left more (subst AreLines is whole) (subst (Each is_in_line) rest each) in
    rest ∙ ap (λ l. l ++ left) none

-- the part of the last line is one
part-one : (lines part other left : List ℕ) → lines ++ part ≡ other ++ left → AreLines lines → AreLines other → Each is_in_line part → Each is_in_line left → part ≡ left
part-one lines part other left e whole all each same = by (fronts lines part other left e)
  where
    by : Longer lines part other left ⊎ Longer other left lines part → part ≡ left
    by (inl longer) = part-longer lines part other left longer all each
    by (inr longer) = sym (part-longer other left lines part longer whole same)

pub place-one : (bytes : List ℕ) (line column other left : ℕ) → IsPlaceBehind bytes line column → IsPlaceBehind bytes other left → (line ≡ other) × (column ≡ left)
place-one bytes line column other left place same =
    let part = part-one place.lines place.part same.lines same.part (sym place.cut ∙ same.cut) place.whole same.whole place.in_line same.in_line in
    (place.line_is ∙ sym same.line_is, place.column_is ∙ ap (λ l. 1 + length l) part ∙ sym same.column_is)
