-- A fault as it is found stands where the table says.
use Rattle.std.proofs.Common.{◌≡◌, ◌⊎◌, inl, inr, ℕ, suc, Bool, true, false, true≢false, cond, not, ◌==◌, ◌&&◌, ◌||◌, List, [], ◌∷◌, ◌++◌, length, take, Option, Some, None, refl, ap, sym, subst, ◌∙◌}
use Rattle.std.specs.Option.{option_map}
use Rattle.std.proofs.lemmas.Bool.{and_parts, or_from, eqb-true, not-true, not-false, and_right, or_cases}
use Rattle.ascii_text.specs.Bytes.{is_line_end, is_printable, begins}
use Rattle.tptp_lexer.specs.Quotes.{before_quote, is_escaped, first_flaw, one_later}
use Rattle.tptp_lexer.specs.Forms.{Item, plain, escaped, bytes_of, AreItems}
use Rattle.tptp_lexer.specs.Faults.{IsClosed, IsBad}
use Rattle.tptp_lexer.specs.declared.piece.Flaw.{Flaw}
use Rattle.tptp_lexer.specs.declared.token.LexKind.TheVariants.{BadByte, BadEscape}
use Rattle.tptp_lexer.proofs.QuoteForms.{NotYet, before_quote-cases, and_true, escaped-prints}

-- a byte before the close is no line end
before_quote-stays : (quote : ℕ) (paired : Bool) (b : ℕ) (bs : List ℕ) (n : ℕ) → before_quote quote paired (b ∷ bs) ≡ Some n → is_line_end b ≡ false
unfolding before_quote
before_quote-stays quote paired b bs n e = by (is_line_end b) refl e
  where
    by : (t : Bool) → is_line_end b ≡ t → cond t None (cond (b == quote && not paired) (Some 0) (option_map suc (before_quote quote (b == 92 && not paired) bs))) ≡ Some n → is_line_end b ≡ false
    by true is e = cc
    by false is e = is

-- where a close is found, there is one
pub before_quote-closed : (quote : ℕ) (bytes : List ℕ) (n : ℕ) → before_quote quote false bytes ≡ Some n → IsClosed quote bytes
unfolding before_quote
before_quote-closed quote [] n e = cc
before_quote-closed quote (b ∷ []) n e = one (before_quote-cases quote false b [] n e)
  where
    one : ((b == quote && not false ≡ true) × (n ≡ 0)) ⊎ ((b == quote && not false ≡ false) × NotYet quote b false [] n) → IsClosed quote (b ∷ [])
    one (inl at) = ([], [], tt, ap (λ c. c ∷ []) (eqb-true b quote (and_parts (b == quote) true at.0).0))
    one (inr later) = let none : None ≡ Some later.1.less = later.1.later in cc
before_quote-closed quote (b ∷ c ∷ bs) n e =
    by (before_quote-cases quote false b (c ∷ bs) n e) (λ m. before_quote-closed quote (c ∷ bs) m) (λ m. before_quote-closed quote bs m)
  where
    by : ((b == quote && not false ≡ true) × (n ≡ 0)) ⊎ ((b == quote && not false ≡ false) × NotYet quote b false (c ∷ bs) n)
        → ((m : ℕ) → before_quote quote false (c ∷ bs) ≡ Some m → IsClosed quote (c ∷ bs))
        → ((m : ℕ) → before_quote quote false bs ≡ Some m → IsClosed quote bs)
        → IsClosed quote (b ∷ c ∷ bs)
    by (inl at) once twice = ([], c ∷ bs, tt, ap (λ x. x ∷ c ∷ bs) (eqb-true b quote (and_parts (b == quote) true at.0).0))
    by (inr later) once twice = pair (b == 92) refl
      where
        yet : NotYet quote b false (c ∷ bs) n
        yet = later.1

        pair : (t : Bool) → b == 92 ≡ t → IsClosed quote (b ∷ c ∷ bs)
        pair false is =
            let found : before_quote quote false (c ∷ bs) ≡ Some yet.less = subst (λ p. before_quote quote (p && not false) (c ∷ bs) ≡ Some yet.less) is yet.later in
            let closed = once yet.less found in (
              plain b ∷ closed.0,
              closed.1,
              (before_quote-stays quote false b (c ∷ bs) n e, or_from (b == quote) (b == 92) (and_true (b == quote) later.0) is, closed.2),
              ap (λ l. b ∷ l) closed.3,
            )
        pair true is =
            let found : before_quote quote true (c ∷ bs) ≡ Some yet.less = subst (λ p. before_quote quote (p && not false) (c ∷ bs) ≡ Some yet.less) is yet.later in
            second found (before_quote-cases quote true c bs yet.less found)
          where
            second : before_quote quote true (c ∷ bs) ≡ Some yet.less
                → ((c == quote && not true ≡ true) × (yet.less ≡ 0)) ⊎ ((c == quote && not true ≡ false) × NotYet quote c true bs yet.less) → IsClosed quote (b ∷ c ∷ bs)
            second found (inl at) = absurd (true≢false (sym (and_parts (c == quote) false at.0).1))
            second found (inr next) =
                let unpaired : c == 92 && not true ≡ false = and_right (c == 92) false refl in
                let closed = twice next.1.less (subst (λ p. before_quote quote p bs ≡ Some next.1.less) unpaired next.1.later) in (
                  escaped c ∷ closed.0,
                  closed.1,
                  (before_quote-stays quote true c bs yet.less found, closed.2),
                  ap (λ x. x ∷ c ∷ bs) (eqb-true b 92 is) ∙ ap (λ l. 92 ∷ c ∷ l) closed.3,
                )

-- the first flaw, with what is good before it
pub record FlawAt (quote : ℕ) (bytes : List ℕ) (flaw : Flaw) : Type 0 where
  pub items : List Item
  pub good : AreItems quote items
  pub before : flaw.before ≡ length (bytes_of items)
  pub rest : List ℕ
  pub cut : bytes ≡ bytes_of items ++ rest
  pub bad : IsBad flaw.kind quote rest

-- no fault at this byte, and the flaw comes later
pub record FlawLater (quote b : ℕ) (paired : Bool) (bs : List ℕ) (flaw : Flaw) : Type 0 where
  pub printable : is_printable b ≡ true
  pub escape : b == 92 && not paired && not (begins (is_escaped quote) bs) ≡ false
  pub found : Flaw
  pub later : first_flaw quote (b == 92 && not paired) bs ≡ Some found
  pub is : flaw ≡ one_later found

-- the flaw is this byte, or this escape, or comes later
first_flaw-cases : (quote : ℕ) (paired : Bool) (b : ℕ) (bs : List ℕ) (flaw : Flaw) → first_flaw quote paired (b ∷ bs) ≡ Some flaw
    → ((is_printable b ≡ false) × (flaw ≡ record { kind = BadByte; before = 0 }))
    ⊎ (((b == 92 && not paired && not (begins (is_escaped quote) bs) ≡ true) × (flaw ≡ record { kind = BadEscape; before = 0 })) ⊎ FlawLater quote b paired bs flaw)
unfolding first_flaw
first_flaw-cases quote paired b bs flaw e =
    by (is_printable b) refl (b == 92 && not paired && not (begins (is_escaped quote) bs)) refl (first_flaw quote (b == 92 && not paired) bs) refl e
  where
    by : (t : Bool) → is_printable b ≡ t → (u : Bool) → b == 92 && not paired && not (begins (is_escaped quote) bs) ≡ u
        → (found : Option Flaw) → first_flaw quote (b == 92 && not paired) bs ≡ found
        → cond (not t) (Some (record { kind = BadByte; before = 0 })) (cond u (Some (record { kind = BadEscape; before = 0 })) (option_map one_later found)) ≡ Some flaw
        → ((t ≡ false) × (flaw ≡ record { kind = BadByte; before = 0 })) ⊎ (((u ≡ true) × (flaw ≡ record { kind = BadEscape; before = 0 })) ⊎ FlawLater quote b paired bs flaw)
    by false p u q found is e = let same : record { kind = BadByte; before = 0 } ≡ flaw = cc in inl (refl, sym same)
    by true p true q found is e = let same : record { kind = BadEscape; before = 0 } ≡ flaw = cc in inr (inl (refl, sym same))
    by true p false q None is e = cc
    by true p false q (Some f) is e = let same : one_later f ≡ flaw = cc in inr (inr (record { printable = p; escape = q; found = f; later = is; is = sym same }))

-- a good byte before the flaw
after-plain : (quote b : ℕ) (bs : List ℕ) (flaw : Flaw) → is_printable b ≡ true → b == quote || b == 92 ≡ false → FlawAt quote bs flaw → FlawAt quote (b ∷ bs) (one_later flaw)
after-plain quote b bs flaw prints apart found = record {
  items = plain b ∷ found.items;
  good = (prints, apart, found.good);
  before = ap suc found.before;
  rest = found.rest;
  cut = ap (λ l. b ∷ l) found.cut;
  bad = found.bad;
}

-- a good escape before the flaw
after-escaped : (quote c : ℕ) (bs : List ℕ) (flaw : Flaw) → c == quote || c == 92 ≡ true → FlawAt quote bs flaw → FlawAt quote (92 ∷ c ∷ bs) (one_later (one_later flaw))
after-escaped quote c bs flaw good found = record {
  items = escaped c ∷ found.items;
  good = (good, found.good);
  before = ap (λ n. suc (suc n)) found.before;
  rest = found.rest;
  cut = ap (λ l. 92 ∷ c ∷ l) found.cut;
  bad = found.bad;
}

-- behind a backslash: the byte is not the close, and the close comes behind it
behind-backslash : (quote c : ℕ) (bs : List ℕ) (n : ℕ) → before_quote quote true (c ∷ bs) ≡ Some n → NotYet quote c true bs n
behind-backslash quote c bs n e = by (before_quote-cases quote true c bs n e)
  where
    by : ((c == quote && not true ≡ true) × (n ≡ 0)) ⊎ ((c == quote && not true ≡ false) × NotYet quote c true bs n) → NotYet quote c true bs n
    by (inl at) = absurd (true≢false (sym (and_parts (c == quote) false at.0).1))
    by (inr later) = later.1

-- a flaw behind a good escape
escape-flaw : (quote c : ℕ) (bs : List ℕ) (n : ℕ) → is_printable quote ≡ true → before_quote quote true (c ∷ bs) ≡ Some n → begins (is_escaped quote) (take n (c ∷ bs)) ≡ true
    → (flaw : Flaw) → first_flaw quote true (take n (c ∷ bs)) ≡ Some flaw
    → ((m : ℕ) (found : Flaw) → before_quote quote false bs ≡ Some m → first_flaw quote false (take m bs) ≡ Some found → FlawAt quote bs found)
    → FlawAt quote (92 ∷ c ∷ bs) (one_later flaw)
escape-flaw quote c bs n prints e g flaw f rest =
    let yet = behind-backslash quote c bs n e in
    let good : c == quote || c == 92 ≡ true = rw yet.one_less at g in
    by yet good (first_flaw-cases quote true c (take yet.less bs) flaw (rw yet.one_less at f))
  where
    by : (yet : NotYet quote c true bs n) → c == quote || c == 92 ≡ true
        → ((is_printable c ≡ false) × (flaw ≡ record { kind = BadByte; before = 0 }))
        ⊎ (((c == 92 && not true && not (begins (is_escaped quote) (take yet.less bs)) ≡ true) × (flaw ≡ record { kind = BadEscape; before = 0 })) ⊎ FlawLater quote c true (take yet.less bs) flaw)
        → FlawAt quote (92 ∷ c ∷ bs) (one_later flaw)
    by yet good (inl none) = absurd (true≢false (sym (escaped-prints quote c prints (or_cases (c == quote) (c == 92) good)) ∙ none.0))
    by yet good (inr (inl none)) =
        absurd (true≢false (sym (and_parts (c == 92) false (and_parts (c == 92 && not true) (not (begins (is_escaped quote) (take yet.less bs))) none.0).0).1))
    by yet good (inr (inr later)) =
        let unpaired : c == 92 && not true ≡ false = and_right (c == 92) false refl in
        let found = rest yet.less later.found (subst (λ p. before_quote quote p bs ≡ Some yet.less) unpaired yet.later)
        (subst (λ p. first_flaw quote p (take yet.less bs) ≡ Some later.found) unpaired later.later) in
        subst (λ x. FlawAt quote (92 ∷ c ∷ bs) (one_later x)) (sym later.is) (after-escaped quote c bs later.found good found)

-- the fault that is found in a closed form is its first
pub flaw-form : (quote : ℕ) → is_printable quote ≡ true → (bytes : List ℕ) (n : ℕ) (flaw : Flaw) → before_quote quote false bytes ≡ Some n → first_flaw quote false (take n bytes) ≡ Some flaw → FlawAt quote bytes flaw
unfolding before_quote first_flaw
flaw-form quote prints [] n flaw e f = cc
flaw-form quote prints (b ∷ []) n flaw e f = one (before_quote-cases quote false b [] n e)
  where
    one : ((b == quote && not false ≡ true) × (n ≡ 0)) ⊎ ((b == quote && not false ≡ false) × NotYet quote b false [] n) → FlawAt quote (b ∷ []) flaw
    one (inl at) = let none : first_flaw quote false [] ≡ Some flaw = rw at.1 at f in cc
    one (inr later) = let none : None ≡ Some later.1.less = later.1.later in cc
flaw-form quote prints (b ∷ c ∷ bs) n flaw e f =
    by (before_quote-cases quote false b (c ∷ bs) n e) (λ m found. flaw-form quote prints (c ∷ bs) m found) (λ m found. flaw-form quote prints bs m found)
  where
    by : ((b == quote && not false ≡ true) × (n ≡ 0)) ⊎ ((b == quote && not false ≡ false) × NotYet quote b false (c ∷ bs) n)
        → ((m : ℕ) (found : Flaw) → before_quote quote false (c ∷ bs) ≡ Some m → first_flaw quote false (take m (c ∷ bs)) ≡ Some found → FlawAt quote (c ∷ bs) found)
        → ((m : ℕ) (found : Flaw) → before_quote quote false bs ≡ Some m → first_flaw quote false (take m bs) ≡ Some found → FlawAt quote bs found)
        → FlawAt quote (b ∷ c ∷ bs) flaw
    by (inl at) once twice = let none : first_flaw quote false [] ≡ Some flaw = rw at.1 at f in cc
    by (inr later) once twice = split (first_flaw-cases quote false b (take yet.less (c ∷ bs)) flaw (rw yet.one_less at f))
      where
        yet : NotYet quote b false (c ∷ bs) n
        yet = later.1

        paired : b == 92 ≡ true → before_quote quote true (c ∷ bs) ≡ Some yet.less
        paired is = subst (λ p. before_quote quote (p && not false) (c ∷ bs) ≡ Some yet.less) is yet.later

        behind : FlawLater quote b false (take yet.less (c ∷ bs)) flaw → (t : Bool) → b == 92 ≡ t → FlawAt quote (b ∷ c ∷ bs) flaw
        behind more false is =
            let found : before_quote quote false (c ∷ bs) ≡ Some yet.less = subst (λ p. before_quote quote (p && not false) (c ∷ bs) ≡ Some yet.less) is yet.later in
            let flawed : first_flaw quote false (take yet.less (c ∷ bs)) ≡ Some more.found =
            subst (λ p. first_flaw quote (p && not false) (take yet.less (c ∷ bs)) ≡ Some more.found) is more.later in
            subst (FlawAt quote (b ∷ c ∷ bs)) (sym more.is)
            (after-plain quote b (c ∷ bs) more.found more.printable (or_from (b == quote) (b == 92) (and_true (b == quote) later.0) is) (once yet.less more.found found flawed))
        behind more true is =
            let flawed : first_flaw quote true (take yet.less (c ∷ bs)) ≡ Some more.found =
            subst (λ p. first_flaw quote (p && not false) (take yet.less (c ∷ bs)) ≡ Some more.found) is more.later in
            let good : not (begins (is_escaped quote) (take yet.less (c ∷ bs))) ≡ false =
            subst (λ p. p && not false && not (begins (is_escaped quote) (take yet.less (c ∷ bs))) ≡ false) is more.escape in
            let found = escape-flaw quote c bs yet.less prints (paired is) (not-false (begins (is_escaped quote) (take yet.less (c ∷ bs))) good) more.found flawed twice in
            subst (λ x. FlawAt quote (x ∷ c ∷ bs) flaw) (sym (eqb-true b 92 is)) (subst (FlawAt quote (92 ∷ c ∷ bs)) (sym more.is) found)

        bad-escape : b == 92 && not false && not (begins (is_escaped quote) (take yet.less (c ∷ bs))) ≡ true → FlawAt quote (b ∷ c ∷ bs) (record { kind = BadEscape; before = 0 })
        bad-escape g =
            let parts = and_parts (b == 92 && not false) (not (begins (is_escaped quote) (take yet.less (c ∷ bs)))) g in
            let is = (and_parts (b == 92) true parts.0).0 in
            let next = behind-backslash quote c bs yet.less (paired is) in
            let none : is_escaped quote c ≡ false = rw next.one_less at (not-true (begins (is_escaped quote) (take yet.less (c ∷ bs))) parts.1) in
            record { items = []; good = tt; before = refl; rest = b ∷ c ∷ bs; cut = refl; bad = (c ∷ bs, none, ap (λ x. x ∷ c ∷ bs) (eqb-true b 92 is)) }

        split : ((is_printable b ≡ false) × (flaw ≡ record { kind = BadByte; before = 0 }))
            ⊎ (((b == 92 && not false && not (begins (is_escaped quote) (take yet.less (c ∷ bs))) ≡ true) × (flaw ≡ record { kind = BadEscape; before = 0 }))
            ⊎ FlawLater quote b false (take yet.less (c ∷ bs)) flaw)
            → FlawAt quote (b ∷ c ∷ bs) flaw
        split (inl none) =
            subst (FlawAt quote (b ∷ c ∷ bs)) (sym none.1) (record { items = []; good = tt; before = refl; rest = b ∷ c ∷ bs; cut = refl; bad = (b, c ∷ bs, none.0, refl) })
        split (inr (inl none)) = subst (FlawAt quote (b ∷ c ∷ bs)) (sym none.1) (bad-escape none.0)
        split (inr (inr more)) = behind more (b == 92) refl
