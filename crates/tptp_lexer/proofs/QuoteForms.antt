-- A quoted form as it is scanned has its form, and a form is scanned to its end.
use Rattle.std.proofs.Common.{◌≡◌, ◌⊎◌, inl, inr, ℕ, suc, Bool, true, false, true≢false, cond, not, ◌==◌, ◌&&◌, ◌||◌, List, [], ◌∷◌, ◌++◌, length, take, Option, Some, None, refl, ap, sym, subst, arith}
use Rattle.std.specs.Option.{option_map}
use Rattle.std.proofs.lemmas.Bool.{and_parts, or_cases, or_from, or_parts, eqb-true, not-false, and_right, and_left, eq-eqb, not_from_true}
use Rattle.std.proofs.lemmas.Bool.Decides.{nat_tests}
use Rattle.ascii_text.specs.Bytes.{is_line_end, is_printable, begins}
use Rattle.tptp_lexer.specs.Quotes.{before_quote, is_escaped, first_flaw, one_later}
use Rattle.tptp_lexer.specs.Forms.{Item, plain, escaped, bytes_of, AreItems}
use Rattle.tptp_lexer.specs.Faults.{ArePairs}
use Rattle.tptp_lexer.specs.declared.piece.Flaw.{Flaw}
use Rattle.tptp_lexer.specs.declared.token.LexKind.{LexKind}
use Rattle.tptp_lexer.specs.declared.token.LexKind.TheVariants.{BadByte, BadEscape}

-- what is inside, and the quote behind it
pub record IsInside (quote : ℕ) (bytes : List ℕ) (n : ℕ) : Type 0 where
  pub items : List Item
  pub good : AreItems quote items
  pub spelled : take n bytes ≡ bytes_of items
  pub closed : take (suc n) bytes ≡ bytes_of items ++ quote ∷ []

-- the close is not at this byte, which is no line end, and so many bytes behind it
pub record NotYet (quote b : ℕ) (paired : Bool) (bs : List ℕ) (n : ℕ) : Type 0 where
  pub less : ℕ
  pub one_less : n ≡ suc less
  pub later : before_quote quote (b == 92 && not paired) bs ≡ Some less

-- the close is at this byte, or later
pub before_quote-cases : (quote : ℕ) (paired : Bool) (b : ℕ) (bs : List ℕ) (n : ℕ) → before_quote quote paired (b ∷ bs) ≡ Some n
    → ((b == quote && not paired ≡ true) × (n ≡ 0)) ⊎ ((b == quote && not paired ≡ false) × NotYet quote b paired bs n)
unfolding before_quote
before_quote-cases quote paired b bs n e = by (is_line_end b) (b == quote && not paired) refl (before_quote quote (b == 92 && not paired) bs) refl e
  where
    by : (t u : Bool) → b == quote && not paired ≡ u → (found : Option ℕ) → before_quote quote (b == 92 && not paired) bs ≡ found
        → cond t None (cond u (Some 0) (option_map suc found)) ≡ Some n → ((u ≡ true) × (n ≡ 0)) ⊎ ((u ≡ false) × NotYet quote b paired bs n)
    by true u at found is e = cc
    by false true at found is e = let zero_is : 0 ≡ n = cc in inl (refl, sym zero_is)
    by false false at None is e = cc
    by false false at (Some m) is e = let next : suc m ≡ n = cc in inr (refl, record { less = m; one_less = sym next; later = is })

-- no fault at this byte, nor later
pub record NoFlaw (quote b : ℕ) (paired : Bool) (bs : List ℕ) : Type 0 where
  pub printable : is_printable b ≡ true
  pub escape : b == 92 && not paired && not (begins (is_escaped quote) bs) ≡ false
  pub later : first_flaw quote (b == 92 && not paired) bs ≡ None

pub first_flaw-none : (quote : ℕ) (paired : Bool) (b : ℕ) (bs : List ℕ) → first_flaw quote paired (b ∷ bs) ≡ None → NoFlaw quote b paired bs
unfolding first_flaw
first_flaw-none quote paired b bs e =
    by (is_printable b) refl (b == 92 && not paired && not (begins (is_escaped quote) bs)) refl (first_flaw quote (b == 92 && not paired) bs) refl e
  where
    by : (t : Bool) → is_printable b ≡ t → (u : Bool) → b == 92 && not paired && not (begins (is_escaped quote) bs) ≡ u
        → (found : Option Flaw) → first_flaw quote (b == 92 && not paired) bs ≡ found
        → cond (not t) (Some (record { kind = BadByte; before = 0 })) (cond u (Some (record { kind = BadEscape; before = 0 })) (option_map one_later found)) ≡ None
        → NoFlaw quote b paired bs
    by false p u q found is e = cc
    by true p true q found is e = cc
    by true p false q None is e = record { printable = p; escape = q; later = is }
    by true p false q (Some flaw) is e = cc

-- a byte before what is inside
add_plain : (quote b : ℕ) (bs : List ℕ) (n : ℕ) → is_printable b ≡ true → b == quote || b == 92 ≡ false → IsInside quote bs n → IsInside quote (b ∷ bs) (suc n)
add_plain quote b bs n p q inside = record {
  items = plain b ∷ inside.items;
  good = (p, q, inside.good);
  spelled = ap (λ l. b ∷ l) inside.spelled;
  closed = ap (λ l. b ∷ l) inside.closed;
}

-- an escape pair before what is inside
add_escaped : (quote c : ℕ) (bs : List ℕ) (n : ℕ) → c == quote || c == 92 ≡ true → IsInside quote bs n → IsInside quote (92 ∷ c ∷ bs) (suc (suc n))
add_escaped quote c bs n q inside = record {
  items = escaped c ∷ inside.items;
  good = (q, inside.good);
  spelled = ap (λ l. 92 ∷ c ∷ l) inside.spelled;
  closed = ap (λ l. 92 ∷ c ∷ l) inside.closed;
}

pub and_true : (x : Bool) → x && true ≡ false → x ≡ false
and_true true e = absurd (true≢false e)
and_true false e = refl

-- behind a backslash: the byte that it escapes, and what is inside behind that
pair-inside : (quote c : ℕ) (bs : List ℕ) (n : ℕ) → before_quote quote true (c ∷ bs) ≡ Some n → first_flaw quote true (take n (c ∷ bs)) ≡ None
    → begins (is_escaped quote) (take n (c ∷ bs)) ≡ true
    → ((m : ℕ) → before_quote quote false bs ≡ Some m → first_flaw quote false (take m bs) ≡ None → IsInside quote bs m)
    → IsInside quote (92 ∷ c ∷ bs) (suc n)
pair-inside quote c bs n e f g rest = by (before_quote-cases quote true c bs n e)
  where
    by : ((c == quote && not true ≡ true) × (n ≡ 0)) ⊎ ((c == quote && not true ≡ false) × NotYet quote c true bs n) → IsInside quote (92 ∷ c ∷ bs) (suc n)
    by (inl at) = absurd (true≢false (sym (and_parts (c == quote) false at.0).1))
    by (inr later) =
        let yet = later.1 in
        let m = yet.less in
        let clean = first_flaw-none quote true c (take m bs) (rw yet.one_less at f) in
        let unpaired : c == 92 && not true ≡ false = and_right (c == 92) false refl in
        let found : before_quote quote false bs ≡ Some m = subst (λ p. before_quote quote p bs ≡ Some m) unpaired yet.later in
        let sound : first_flaw quote false (take m bs) ≡ None = subst (λ p. first_flaw quote p (take m bs) ≡ None) unpaired clean.later in
        let good : c == quote || c == 92 ≡ true = rw yet.one_less at g in
        subst (λ k. IsInside quote (92 ∷ c ∷ bs) (suc k)) (sym yet.one_less) (add_escaped quote c bs m good (rest m found sound))

pub inside-form : (quote : ℕ) (bytes : List ℕ) (n : ℕ) → before_quote quote false bytes ≡ Some n → first_flaw quote false (take n bytes) ≡ None → IsInside quote bytes n
unfolding before_quote
inside-form quote [] n e f = cc
inside-form quote (b ∷ []) n e f = one (before_quote-cases quote false b [] n e)
  where
    one : ((b == quote && not false ≡ true) × (n ≡ 0)) ⊎ ((b == quote && not false ≡ false) × NotYet quote b false [] n) → IsInside quote (b ∷ []) n
    one (inl at) =
        let is : b ≡ quote = eqb-true b quote (and_parts (b == quote) true at.0).0 in
        rw at.1 (record { items = []; good = tt; spelled = refl; closed = ap (λ c. c ∷ []) is })
    one (inr later) = let none : None ≡ Some later.1.less = later.1.later in cc
inside-form quote (b ∷ c ∷ bs) n e f =
    by (before_quote-cases quote false b (c ∷ bs) n e) (λ m. inside-form quote (c ∷ bs) m) (λ m. inside-form quote bs m)
  where
    by : ((b == quote && not false ≡ true) × (n ≡ 0)) ⊎ ((b == quote && not false ≡ false) × NotYet quote b false (c ∷ bs) n)
        → ((m : ℕ) → before_quote quote false (c ∷ bs) ≡ Some m → first_flaw quote false (take m (c ∷ bs)) ≡ None → IsInside quote (c ∷ bs) m)
        → ((m : ℕ) → before_quote quote false bs ≡ Some m → first_flaw quote false (take m bs) ≡ None → IsInside quote bs m)
        → IsInside quote (b ∷ c ∷ bs) n
    by (inl at) once twice =
        let is : b ≡ quote = eqb-true b quote (and_parts (b == quote) true at.0).0 in
        rw at.1 (record { items = []; good = tt; spelled = refl; closed = ap (λ c. c ∷ []) is })
    by (inr later) once twice = pair (b == 92) refl
      where
        yet : NotYet quote b false (c ∷ bs) n
        yet = later.1

        clean : NoFlaw quote b false (take yet.less (c ∷ bs))
        clean = first_flaw-none quote false b (take yet.less (c ∷ bs)) (rw yet.one_less at f)

        pair : (t : Bool) → b == 92 ≡ t → IsInside quote (b ∷ c ∷ bs) n
        pair false is =
            let found : before_quote quote false (c ∷ bs) ≡ Some yet.less = subst (λ p. before_quote quote (p && not false) (c ∷ bs) ≡ Some yet.less) is yet.later in
            let sound : first_flaw quote false (take yet.less (c ∷ bs)) ≡ None = subst (λ p. first_flaw quote (p && not false) (take yet.less (c ∷ bs)) ≡ None) is clean.later in
            let inside = add_plain quote b (c ∷ bs) yet.less clean.printable (or_from (b == quote) (b == 92) (and_true (b == quote) later.0) is) (once yet.less found sound) in
            subst (IsInside quote (b ∷ c ∷ bs)) (sym yet.one_less) inside
        pair true is =
            let found : before_quote quote true (c ∷ bs) ≡ Some yet.less = subst (λ p. before_quote quote (p && not false) (c ∷ bs) ≡ Some yet.less) is yet.later in
            let sound : first_flaw quote true (take yet.less (c ∷ bs)) ≡ None = subst (λ p. first_flaw quote (p && not false) (take yet.less (c ∷ bs)) ≡ None) is clean.later in
            let good : not (begins (is_escaped quote) (take yet.less (c ∷ bs))) ≡ false =
            subst (λ p. p && not false && not (begins (is_escaped quote) (take yet.less (c ∷ bs))) ≡ false) is clean.escape in
            let inside = pair-inside quote c bs yet.less found sound (not-false (begins (is_escaped quote) (take yet.less (c ∷ bs))) good) twice in
            subst (λ x. IsInside quote (x ∷ c ∷ bs) n) (sym (eqb-true b 92 is)) (subst (IsInside quote (92 ∷ c ∷ bs)) (sym yet.one_less) inside)

-- a byte that may close a quoted form: no line end, and no backslash
pub record IsQuoteMark (quote : ℕ) : Type 0 where
  pub line : is_line_end quote ≡ false
  pub other : 92 == quote ≡ false

pub single : IsQuoteMark 39
single = record { line = refl; other = refl }

pub double : IsQuoteMark 34
double = record { line = refl; other = refl }

pub before_quote-next : (quote : ℕ) (paired : Bool) (b : ℕ) (bs : List ℕ) (n : ℕ) (next : Bool) → is_line_end b ≡ false → b == quote && not paired ≡ false → b == 92 && not paired ≡ next
    → before_quote quote next bs ≡ Some n → before_quote quote paired (b ∷ bs) ≡ Some (suc n)
unfolding before_quote
before_quote-next quote paired b bs n next line at pairs later = rw (line, at, pairs, later) refl

printable-stays : (b : ℕ) → is_printable b ≡ true → is_line_end b ≡ false
printable-stays b e = grind (arith, nat_tests)

pub backslash-stays : is_line_end 92 ≡ false
backslash-stays = refl

escaped-stays : (quote b : ℕ) → IsQuoteMark quote → (b == quote ≡ true) ⊎ (b == 92 ≡ true) → is_line_end b ≡ false
escaped-stays quote b mark (inl e) = subst (λ x. is_line_end x ≡ false) (sym (eqb-true b quote e)) mark.line
escaped-stays quote b mark (inr e) = subst (λ x. is_line_end x ≡ false) (sym (eqb-true b 92 e)) refl

-- where there is a close, it is found
pub closed-before_quote : (quote : ℕ) (items : List Item) (rest : List ℕ) → IsQuoteMark quote → ArePairs quote items → before_quote quote false (bytes_of items ++ quote ∷ rest) ≡ Some (length (bytes_of items))
unfolding before_quote
closed-before_quote quote [] rest mark pairs = rw (mark.line, eq-eqb quote quote refl) refl
closed-before_quote quote (plain b ∷ items) rest mark pairs =
    let apart = or_parts (b == quote) (b == 92) pairs.1 in
    before_quote-next quote false b (bytes_of items ++ quote ∷ rest) (length (bytes_of items)) false pairs.0 (and_left (b == quote) true apart.0) (and_left (b == 92) true apart.1)
    (closed-before_quote quote items rest mark pairs.2)
closed-before_quote quote (escaped c ∷ items) rest mark pairs =
    let later = closed-before_quote quote items rest mark pairs.1 in
    let second = before_quote-next quote true c (bytes_of items ++ quote ∷ rest) (length (bytes_of items)) false pairs.0 (and_right (c == quote) false refl) (and_right (c == 92) false refl) later in
    before_quote-next quote false 92 (c ∷ (bytes_of items ++ quote ∷ rest)) (suc (length (bytes_of items))) true backslash-stays (and_left (92 == quote) true mark.other) refl second

-- the parts of a form are such parts
items-pairs : (quote : ℕ) (items : List Item) → IsQuoteMark quote → AreItems quote items → ArePairs quote items
items-pairs quote [] mark good = tt
items-pairs quote (plain b ∷ items) mark good = (printable-stays b good.0, good.1, items-pairs quote items mark good.2)
items-pairs quote (escaped c ∷ items) mark good = (escaped-stays quote c mark (or_cases (c == quote) (c == 92) good.0), items-pairs quote items mark good.1)

-- the close of a form is found where it is
pub before_quote-items : (quote : ℕ) (items : List Item) (more : List ℕ) → IsQuoteMark quote → AreItems quote items
    → before_quote quote false (bytes_of items ++ quote ∷ more) ≡ Some (length (bytes_of items))
before_quote-items quote items more mark good = closed-before_quote quote items more mark (items-pairs quote items mark good)

first_flaw-next : (quote : ℕ) (paired : Bool) (b : ℕ) (bs : List ℕ) (next : Bool) → is_printable b ≡ true → b == 92 && not paired && not (begins (is_escaped quote) bs) ≡ false → b == 92 && not paired ≡ next
    → first_flaw quote next bs ≡ None → first_flaw quote paired (b ∷ bs) ≡ None
unfolding first_flaw
first_flaw-next quote paired b bs next printable escape pairs later = rw (printable, escape, pairs, later) refl

backslash-prints : is_printable 92 ≡ true
backslash-prints = refl

pub escaped-prints : (quote b : ℕ) → is_printable quote ≡ true → (b == quote ≡ true) ⊎ (b == 92 ≡ true) → is_printable b ≡ true
escaped-prints quote b prints (inl e) = subst (λ x. is_printable x ≡ true) (sym (eqb-true b quote e)) prints
escaped-prints quote b prints (inr e) = subst (λ x. is_printable x ≡ true) (sym (eqb-true b 92 e)) backslash-prints

-- what is inside a form has no fault
pub first_flaw-items : (quote : ℕ) (items : List Item) → is_printable quote ≡ true → AreItems quote items → first_flaw quote false (bytes_of items) ≡ None
unfolding first_flaw
first_flaw-items quote [] prints good = refl
first_flaw-items quote (plain b ∷ items) prints good =
    let apart = or_parts (b == quote) (b == 92) good.1 in
    let unpaired = and_left (b == 92) true apart.1 in
    first_flaw-next quote false b (bytes_of items) false good.0 (and_left (b == 92 && not false) (not (begins (is_escaped quote) (bytes_of items))) unpaired) unpaired
    (first_flaw-items quote items prints good.2)
first_flaw-items quote (escaped c ∷ items) prints good =
    let unpaired = and_right (c == 92) false refl in
    let second = first_flaw-next quote true c (bytes_of items) false (escaped-prints quote c prints (or_cases (c == quote) (c == 92) good.0))
    (and_left (c == 92 && not true) (not (begins (is_escaped quote) (bytes_of items))) unpaired) unpaired (first_flaw-items quote items prints good.1) in
    first_flaw-next quote false 92 (c ∷ bytes_of items) true backslash-prints (and_right true (not (c == quote || c == 92)) (not_from_true (c == quote || c == 92) good.0)) refl second

-- a fault inside quotes is one of two kinds
pub first_flaw-kind : (P : LexKind → Type 0) → P BadByte → P BadEscape → (quote : ℕ) (paired : Bool) (bytes : List ℕ) (flaw : Flaw) → first_flaw quote paired bytes ≡ Some flaw → P flaw.kind
unfolding first_flaw
first_flaw-kind P p q quote paired [] flaw e = cc
first_flaw-kind P p q quote paired (b ∷ bs) flaw e =
    by (not (is_printable b)) (b == 92 && not paired && not (begins (is_escaped quote) bs)) (first_flaw quote (b == 92 && not paired) bs) (first_flaw-kind P p q quote (b == 92 && not paired) bs) e
  where
    by : (t u : Bool) → (found : Option Flaw) → ((f : Flaw) → found ≡ Some f → P f.kind)
        → cond t (Some (record { kind = BadByte; before = 0 })) (cond u (Some (record { kind = BadEscape; before = 0 })) (option_map one_later found)) ≡ Some flaw → P flaw.kind
    by true u found more e = let is : record { kind = BadByte; before = 0 } ≡ flaw = cc in subst P (ap (λ f. f.kind) is) p
    by false true found more e = let is : record { kind = BadEscape; before = 0 } ≡ flaw = cc in subst P (ap (λ f. f.kind) is) q
    by false false None more e = cc
    by false false (Some f) more e = let is : one_later f ≡ flaw = cc in subst P (ap (λ g. g.kind) is) (more f refl)
