-- White space and comments before what is none are one stretch of the text.
use Rattle.std.proofs.Common.{◌≡◌, ◌⊎◌, inl, inr, ℕ, ◌==◌, List, [], ◌∷◌, ◌++◌, refl, sym, ap, ◌∙◌, append_assoc}
use Rattle.std.specs.List.{concat}
use Rattle.std.proofs.lemmas.List.{append-nil, append_cancel_left}
use Rattle.ascii_text.specs.Bytes.{is_white, is_in_line}
use Rattle.tptp_lexer.specs.Forms.{Each}
use Rattle.tptp_lexer.specs.Cuts.{IsWhite, IsLineComment, EndsLine, HoldsClose, IsBlockComment, IsBlank, AreBlank, IsGap, NoBlank}
use Rattle.token_laws.proofs.Fronts.{heads, tails, nothing, Longer, fronts, tell}

-- a comment to the end of the line goes to the first line feed
line-one : (inside after other left : List ℕ) → Each is_in_line inside → EndsLine after → Each is_in_line other → EndsLine left → inside ++ after ≡ other ++ left → inside ≡ other
line-one [] after [] left each ends same stops e = refl
line-one [] [] (y ∷ other) left each ends same stops e = absurd (nothing e)
line-one [] (x ∷ after) (y ∷ other) left each ends same stops e = absurd (tell is_in_line y 10 same.0 refl (sym (heads e) ∙ ends))
line-one (x ∷ inside) after [] [] each ends same stops e = absurd (nothing (sym e))
line-one (x ∷ inside) after [] (y ∷ left) each ends same stops e = absurd (tell is_in_line x 10 each.0 refl (heads e ∙ stops))
line-one (x ∷ inside) after (y ∷ other) left each ends same stops e =
    let rest = line-one inside after other left each.1 ends same.1 stops (tails e) in
    λ i. heads e i ∷ rest i

-- no comment goes past the first `*/`
close-one : (inside after other left more : List ℕ) → other ≡ inside ++ more → 42 ∷ 47 ∷ after ≡ more ++ 42 ∷ 47 ∷ left → (HoldsClose (other ++ 42 ∷ []) → ⊥) → inside ≡ other
close-one inside after other left [] is e none = sym (is ∙ append-nil inside)
close-one inside after other left (x ∷ []) is e none = absurd (tell (λ b. b == 47) 47 42 refl refl (heads (tails e)))
close-one inside after other left (x ∷ y ∷ more) is e none =
    let star : x ≡ 42 = sym (heads e) in
    let slash : y ≡ 47 = sym (heads (tails e)) in
    let there : other ≡ inside ++ 42 ∷ 47 ∷ more = is ∙ (λ i. inside ++ star i ∷ slash i ∷ more) in
    absurd (none (inside, more ++ 42 ∷ [], ap (λ l. l ++ 42 ∷ []) there ∙ append_assoc inside (42 ∷ 47 ∷ more) (42 ∷ [])))

block-one : (inside after other left : List ℕ) → (HoldsClose (inside ++ 42 ∷ []) → ⊥) → (HoldsClose (other ++ 42 ∷ []) → ⊥)
    → inside ++ 42 ∷ 47 ∷ after ≡ other ++ 42 ∷ 47 ∷ left → inside ≡ other
block-one inside after other left none never e = by (fronts inside (42 ∷ 47 ∷ after) other (42 ∷ 47 ∷ left) e)
  where
    by : Longer inside (42 ∷ 47 ∷ after) other (42 ∷ 47 ∷ left) ⊎ Longer other (42 ∷ 47 ∷ left) inside (42 ∷ 47 ∷ after) → inside ≡ other
    by (inl (more, is, rest)) = close-one inside after other left more is rest never
    by (inr (more, is, rest)) = sym (close-one other left inside after more is rest none)

-- what a text is, before what follows it
pub begun : (text is after : List ℕ) → text ≡ is → is ++ after ≡ text ++ after
begun text is after e = ap (λ t. t ++ after) (sym e)

white-line : (text after other left : List ℕ) → text ++ after ≡ other ++ left → IsWhite text → IsLineComment other → ⊥
white-line text after other left e (b, white, is) (inside, each, same) =
    tell is_white b 37 white refl (heads (begun text (b ∷ []) after is ∙ e ∙ sym (begun other (37 ∷ inside) left same)))

white-block : (text after other left : List ℕ) → text ++ after ≡ other ++ left → IsWhite text → IsBlockComment other → ⊥
white-block text after other left e (b, white, is) (inside, none, same) =
    tell is_white b 47 white refl (heads (begun text (b ∷ []) after is ∙ e ∙ sym (begun other (47 ∷ 42 ∷ (inside ++ 42 ∷ 47 ∷ [])) left same)))

line-block : (text after other left : List ℕ) → text ++ after ≡ other ++ left → IsLineComment text → IsBlockComment other → ⊥
line-block text after other left e (inside, each, is) (within, none, same) =
    tell (λ b. b == 37) 37 47 refl refl (heads (begun text (37 ∷ inside) after is ∙ e ∙ sym (begun other (47 ∷ 42 ∷ (within ++ 42 ∷ 47 ∷ [])) left same)))

-- one byte of white space, or one comment, begins a text
blank-one : (text after other left : List ℕ) → text ++ after ≡ other ++ left → IsBlank text after → IsBlank other left → text ≡ other
blank-one text after other left e (inl (b, white, is)) (inl (c, clear, same)) =
    let byte : b ≡ c = heads (begun text (b ∷ []) after is ∙ e ∙ sym (begun other (c ∷ []) left same)) in
    is ∙ ap (λ b. b ∷ []) byte ∙ sym same
blank-one text after other left e (inl white) (inr (inl (comment, ends))) = absurd (white-line text after other left e white comment)
blank-one text after other left e (inl white) (inr (inr block)) = absurd (white-block text after other left e white block)
blank-one text after other left e (inr (inl (comment, ends))) (inl white) = absurd (white-line other left text after (sym e) white comment)
blank-one text after other left e (inr (inl ((inside, each, is), ends))) (inr (inl ((within, same, are), stops))) =
    let both = tails (begun text (37 ∷ inside) after is ∙ e ∙ sym (begun other (37 ∷ within) left are)) in
    is ∙ ap (λ l. 37 ∷ l) (line-one inside after within left each ends same stops both) ∙ sym are
blank-one text after other left e (inr (inl (comment, ends))) (inr (inr block)) = absurd (line-block text after other left e comment block)
blank-one text after other left e (inr (inr block)) (inl white) = absurd (white-block other left text after (sym e) white block)
blank-one text after other left e (inr (inr block)) (inr (inl (comment, ends))) = absurd (line-block other left text after (sym e) comment block)
blank-one text after other left e (inr (inr (inside, none, is))) (inr (inr (within, never, same))) =
    let both = tails (tails (begun text (47 ∷ 42 ∷ (inside ++ 42 ∷ 47 ∷ [])) after is ∙ e ∙ sym (begun other (47 ∷ 42 ∷ (within ++ 42 ∷ 47 ∷ [])) left same))) in
    let cut = sym (append_assoc inside (42 ∷ 47 ∷ []) after) ∙ both ∙ append_assoc within (42 ∷ 47 ∷ []) left in
    is ∙ ap (λ l. 47 ∷ 42 ∷ (l ++ 42 ∷ 47 ∷ [])) (block-one inside after within left none never cut) ∙ sym same

texts-one : (texts others : List (List ℕ)) (after left : List ℕ) → AreBlank texts after → AreBlank others left → NoBlank after → NoBlank left → concat texts ++ after ≡ concat others ++ left
    → concat texts ≡ concat others
texts-one [] [] after left blank same none never e = refl
texts-one [] (other ∷ others) after left blank same none never e = absurd (none other (concat others ++ left) (e ∙ append_assoc other (concat others) left) same.0)
texts-one (text ∷ texts) [] after left blank same none never e = absurd (never text (concat texts ++ after) (sym e ∙ append_assoc text (concat texts) after) blank.0)
texts-one (text ∷ texts) (other ∷ others) after left blank same none never e =
    let cut = sym (append_assoc text (concat texts) after) ∙ e ∙ append_assoc other (concat others) left in
    let first = blank-one text (concat texts ++ after) other (concat others ++ left) cut blank.0 same.0 in
    let behind = append_cancel_left other (concat texts ++ after) (concat others ++ left) (ap (λ t. t ++ (concat texts ++ after)) (sym first) ∙ cut) in
    let rest = texts-one texts others after left blank.1 same.1 none never behind in
    λ i. first i ++ rest i

-- where neither goes on, two gaps at the front of a text are one
pub gap-one : (gap after other left : List ℕ) → IsGap gap after → IsGap other left → NoBlank after → NoBlank left → gap ++ after ≡ other ++ left → gap ≡ other
gap-one gap after other left (texts, blank, is) (others, same, are) none never e =
    is ∙ texts-one texts others after left blank same none never (begun gap (concat texts) after is ∙ e ∙ sym (begun other (concat others) left are)) ∙ sym are

-- and what is behind them is one
pub rest-one : (gap after other left : List ℕ) → gap ≡ other → gap ++ after ≡ other ++ left → after ≡ left
rest-one gap after other left same e = append_cancel_left other after left (ap (λ g. g ++ after) (sym same) ∙ e)
