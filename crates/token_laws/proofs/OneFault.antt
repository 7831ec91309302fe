-- One kind of fault stands at a place where no token begins, and behind so many bytes.
use Rattle.std.proofs.Common.{◌≡◌, ◌⊎◌, inl, inr, ℕ, ◌+◌, true, false, true≢false, ◌||◌, ◌==◌, List, [], ◌∷◌, ◌++◌, length, refl, sym, ap, subst, ◌∙◌}
use Rattle.ascii_text.specs.Bytes.{is_visible, is_printable, begins}
use Rattle.tptp_lexer.specs.Forms.{Item, plain, escaped, bytes_of, AreItems}
use Rattle.tptp_lexer.specs.Faults.{IsClosed, Opens, IsBad, StandsInside, BeginsBadly, FaultStands}
use Rattle.tptp_lexer.specs.declared.token.LexKind.{LexKind}
use Rattle.tptp_lexer.specs.declared.token.LexKind.TheVariants.{BadByte, OpenQuote, BadEscape, OpenComment}
use Rattle.token_laws.proofs.Fronts.{heads, tails, tell, neither}

-- a byte that is not printable, or a backslash that escapes nothing
abbrev IsFlaw : LexKind → ℕ → List ℕ → Type 0
IsFlaw kind quote bytes =
    ((kind ≡ BadByte) × ((b : ℕ) × (rest : List ℕ) × (is_printable b ≡ false) × (bytes ≡ b ∷ rest)))
    ⊎ ((kind ≡ BadEscape) × ((rest : List ℕ) × (begins (λ b. b == quote || b == 92) rest ≡ false) × (bytes ≡ 92 ∷ rest)))

flaw-of : (kind : LexKind) (quote : ℕ) (bytes : List ℕ) → IsBad kind quote bytes → IsFlaw kind quote bytes
flaw-of BadByte quote bytes bad = inl (refl, bad)
flaw-of OpenQuote quote bytes bad = absurd bad
flaw-of BadEscape quote bytes bad = inr (refl, bad)
flaw-of OpenComment quote bytes bad = absurd bad

plain-good : (kind : LexKind) (quote b : ℕ) (bytes : List ℕ) → is_printable b ≡ true → (b == quote || b == 92) ≡ false → IsFlaw kind quote (b ∷ bytes) → ⊥
plain-good kind quote b bytes shown apart (inl (k, (c, rest, hidden, is))) = tell is_printable b c shown hidden (heads is)
plain-good kind quote b bytes shown apart (inr (k, (rest, none, is))) = tell (λ c. c == 92) 92 b refl (neither (b == quote) (b == 92) apart).1 (sym (heads is))

escape-good : (kind : LexKind) (quote b : ℕ) (bytes : List ℕ) → (b == quote || b == 92) ≡ true → IsFlaw kind quote (92 ∷ b ∷ bytes) → ⊥
escape-good kind quote b bytes right (inl (k, (c, rest, hidden, is))) = tell is_printable 92 c refl hidden (heads is)
escape-good kind quote b bytes right (inr (k, (rest, none, is))) = true≢false (sym right ∙ ap (begins (λ b. b == quote || b == 92)) (tails is) ∙ none)

flaw-one : (kind other : LexKind) (quote : ℕ) (bytes : List ℕ) → IsFlaw kind quote bytes → IsFlaw other quote bytes → kind ≡ other
flaw-one kind other quote bytes (inl (k, found)) (inl (l, same)) = k ∙ sym l
flaw-one kind other quote bytes (inl (k, (b, rest, hidden, is))) (inr (l, (more, none, same))) = absurd (tell is_printable 92 b refl hidden (heads (sym same ∙ is)))
flaw-one kind other quote bytes (inr (k, (more, none, same))) (inl (l, (b, rest, hidden, is))) = absurd (tell is_printable 92 b refl hidden (heads (sym same ∙ is)))
flaw-one kind other quote bytes (inr (k, found)) (inr (l, same)) = k ∙ sym l

-- good parts up to the first flaw are one stretch, and that is one flaw
items-one : (quote : ℕ) (items others : List Item) (rest left : List ℕ) (kind other : LexKind) → AreItems quote items → AreItems quote others → IsFlaw kind quote rest → IsFlaw other quote left
    → bytes_of items ++ rest ≡ bytes_of others ++ left → (kind ≡ other) × (bytes_of items ≡ bytes_of others)
items-one quote [] [] rest left kind other good fine flaw bad e = (flaw-one kind other quote left (subst (IsFlaw kind quote) e flaw) bad, refl)
items-one quote [] (plain b ∷ others) rest left kind other good fine flaw bad e = absurd (plain-good kind quote b (bytes_of others ++ left) fine.0 fine.1 (subst (IsFlaw kind quote) e flaw))
items-one quote [] (escaped b ∷ others) rest left kind other good fine flaw bad e = absurd (escape-good kind quote b (bytes_of others ++ left) fine.0 (subst (IsFlaw kind quote) e flaw))
items-one quote (plain b ∷ items) [] rest left kind other good fine flaw bad e = absurd (plain-good other quote b (bytes_of items ++ rest) good.0 good.1 (subst (IsFlaw other quote) (sym e) bad))
items-one quote (escaped b ∷ items) [] rest left kind other good fine flaw bad e = absurd (escape-good other quote b (bytes_of items ++ rest) good.0 (subst (IsFlaw other quote) (sym e) bad))
items-one quote (plain b ∷ items) (plain c ∷ others) rest left kind other good fine flaw bad e =
    let later = items-one quote items others rest left kind other good.2 fine.2 flaw bad (tails e) in
    (later.0, λ i. heads e i ∷ later.1 i)
items-one quote (plain b ∷ items) (escaped c ∷ others) rest left kind other good fine flaw bad e =
    absurd (tell (λ x. x == 92) 92 b refl (neither (b == quote) (b == 92) good.1).1 (sym (heads e)))
items-one quote (escaped b ∷ items) (plain c ∷ others) rest left kind other good fine flaw bad e =
    absurd (tell (λ x. x == 92) 92 c refl (neither (c == quote) (c == 92) fine.1).1 (heads e))
items-one quote (escaped b ∷ items) (escaped c ∷ others) rest left kind other good fine flaw bad e =
    let later = items-one quote items others rest left kind other good.1 fine.1 flaw bad (tails (tails e)) in
    (later.0, λ i. 92 ∷ heads (tails e) i ∷ later.1 i)

-- the kind, and behind how many bytes
abbrev IsOne : LexKind → ℕ → LexKind → ℕ → Type 0
IsOne kind n other m = (kind ≡ other) × (n ≡ m)

inside-one : (kind other : LexKind) (bytes : List ℕ) (n m : ℕ) → StandsInside kind bytes n → StandsInside other bytes m → IsOne kind n other m
inside-one kind other bytes n m stands same =
    let opened = sym stands.opens.opened ∙ same.opens.opened in
    let flaw = subst (λ q. IsFlaw kind q stands.rest) (heads opened) (flaw-of kind stands.quote stands.rest stands.bad) in
    let good = subst (λ q. AreItems q stands.items) (heads opened) stands.good in
    let cut = sym stands.cut ∙ tails opened ∙ same.cut in
    let both = items-one same.quote stands.items same.items stands.rest same.rest kind other good same.good flaw (flaw-of other same.quote same.rest same.bad) cut in
    (both.0, stands.before ∙ ap (λ l. 1 + length l) both.1 ∙ sym same.before)

-- the four ways in which a fault stands
abbrev Ways : LexKind → List ℕ → ℕ → Type 0
Ways kind bytes n =
    ((kind ≡ BadByte) × (n ≡ 0) × BeginsBadly bytes)
    ⊎ (((kind ≡ OpenQuote) × (n ≡ 0) × ((quote : ℕ) × (inside : List ℕ) × Opens bytes quote inside × (IsClosed quote inside → ⊥)))
    ⊎ (StandsInside kind bytes n
    ⊎ ((kind ≡ OpenComment) × (n ≡ 0) × ((inside : List ℕ) × (bytes ≡ 47 ∷ 42 ∷ inside)))))

ways-of : (kind : LexKind) (bytes : List ℕ) (n : ℕ) → FaultStands kind bytes n → Ways kind bytes n
ways-of BadByte bytes n (inl (none, badly)) = inl (refl, none, badly)
ways-of BadByte bytes n (inr stands) = inr (inr (inl stands))
ways-of OpenQuote bytes n (none, quote, inside, opens, unclosed) = inr (inl (refl, none, (quote, inside, opens, unclosed)))
ways-of BadEscape bytes n stands = inr (inr (inl stands))
ways-of OpenComment bytes n (none, inside, unclosed, is) = inr (inr (inr (refl, none, (inside, is))))

quote-shown : (quote : ℕ) → (quote ≡ 39) ⊎ (quote ≡ 34) → (is_visible quote ≡ true) × (quote == 47 ≡ false)
quote-shown quote (inl is) = (ap is_visible is, ap (λ q. q == 47) is)
quote-shown quote (inr is) = (ap is_visible is, ap (λ q. q == 47) is)

badly-quote : (bytes : List ℕ) (quote : ℕ) (inside : List ℕ) → BeginsBadly bytes → Opens bytes quote inside → ⊥
badly-quote bytes quote inside (b, rest, clear, hidden, is) opens = tell is_visible quote b (quote-shown quote opens.is_quote).0 hidden (heads (sym opens.opened ∙ is))

badly-comment : (bytes inside : List ℕ) → BeginsBadly bytes → bytes ≡ 47 ∷ 42 ∷ inside → ⊥
badly-comment bytes inside (b, rest, clear, hidden, is) opened = tell is_visible 47 b refl hidden (heads (sym opened ∙ is))

quote-comment : (bytes : List ℕ) (quote : ℕ) (inside within : List ℕ) → Opens bytes quote inside → bytes ≡ 47 ∷ 42 ∷ within → ⊥
quote-comment bytes quote inside within opens opened = tell (λ b. b == 47) 47 quote refl (quote-shown quote opens.is_quote).1 (heads (sym opened ∙ opens.opened))

open-closed : (kind : LexKind) (bytes : List ℕ) (quote : ℕ) (inside : List ℕ) (n : ℕ) → Opens bytes quote inside → (IsClosed quote inside → ⊥) → StandsInside kind bytes n → ⊥
open-closed kind bytes quote inside n opens unclosed stands =
    let opened = sym stands.opens.opened ∙ opens.opened in
    unclosed (subst (λ l. IsClosed quote l) (tails opened) (subst (λ q. IsClosed q stands.inside) (heads opened) stands.closed))

ways-one : (kind other : LexKind) (bytes : List ℕ) (n m : ℕ) → Ways kind bytes n → Ways other bytes m → IsOne kind n other m
ways-one kind other bytes n m (inl (k, z, badly)) (inl (l, y, same)) = (k ∙ sym l, z ∙ sym y)
ways-one kind other bytes n m (inl (k, z, badly)) (inr (inl (l, y, (quote, inside, opens, unclosed)))) = absurd (badly-quote bytes quote inside badly opens)
ways-one kind other bytes n m (inl (k, z, badly)) (inr (inr (inl stands))) = absurd (badly-quote bytes stands.quote stands.inside badly stands.opens)
ways-one kind other bytes n m (inl (k, z, badly)) (inr (inr (inr (l, y, (inside, is))))) = absurd (badly-comment bytes inside badly is)
ways-one kind other bytes n m (inr (inl (l, y, (quote, inside, opens, unclosed)))) (inl (k, z, badly)) = absurd (badly-quote bytes quote inside badly opens)
ways-one kind other bytes n m (inr (inl (k, z, found))) (inr (inl (l, y, same))) = (k ∙ sym l, z ∙ sym y)
ways-one kind other bytes n m (inr (inl (k, z, (quote, inside, opens, unclosed)))) (inr (inr (inl stands))) = absurd (open-closed other bytes quote inside m opens unclosed stands)
ways-one kind other bytes n m (inr (inl (k, z, (quote, inside, opens, unclosed)))) (inr (inr (inr (l, y, (within, is))))) = absurd (quote-comment bytes quote inside within opens is)
ways-one kind other bytes n m (inr (inr (inl stands))) (inl (k, z, badly)) = absurd (badly-quote bytes stands.quote stands.inside badly stands.opens)
ways-one kind other bytes n m (inr (inr (inl stands))) (inr (inl (k, z, (quote, inside, opens, unclosed)))) = absurd (open-closed kind bytes quote inside n opens unclosed stands)
ways-one kind other bytes n m (inr (inr (inl stands))) (inr (inr (inl same))) = inside-one kind other bytes n m stands same
ways-one kind other bytes n m (inr (inr (inl stands))) (inr (inr (inr (l, y, (within, is))))) = absurd (quote-comment bytes stands.quote stands.inside within stands.opens is)
ways-one kind other bytes n m (inr (inr (inr (k, z, (within, is))))) (inl (l, y, badly)) = absurd (badly-comment bytes within badly is)
ways-one kind other bytes n m (inr (inr (inr (k, z, (within, is))))) (inr (inl (l, y, (quote, inside, opens, unclosed)))) = absurd (quote-comment bytes quote inside within opens is)
ways-one kind other bytes n m (inr (inr (inr (k, z, (within, is))))) (inr (inr (inl stands))) = absurd (quote-comment bytes stands.quote stands.inside within stands.opens is)
ways-one kind other bytes n m (inr (inr (inr (k, z, found)))) (inr (inr (inr (l, y, same)))) = (k ∙ sym l, z ∙ sym y)

pub stands-one : (kind other : LexKind) (bytes : List ℕ) (n m : ℕ) → FaultStands kind bytes n → FaultStands other bytes m → (kind ≡ other) × (n ≡ m)
stands-one kind other bytes n m stands same = ways-one kind other bytes n m (ways-of kind bytes n stands) (ways-of other bytes m same)
