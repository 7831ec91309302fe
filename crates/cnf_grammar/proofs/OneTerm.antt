-- No two formulas spell the same tokens.
use Rattle.cnf_grammar.proofs.Common.{◌≡◌, ℕ, true, false, List, [], ◌∷◌, ◌++◌, codes, refl, sym, ◌∙◌, ap, ap₂, subst, append_assoc, Shape, Lower, Upper, Quoted, Distinct, Dollar, Number, Punct, left_round, right_round, comma, bar, tilde, is_mark, is_word, Word, bare_word, quoted_word, Term, variable, number, distinct, compound, Arguments, no_arguments, arguments, Terms, no_terms, then_term, Atom, truth, falsity, predicate, Literal, positive, negative, Formula, bracketed, disjunction, word_token, spell_term, spell_arguments, spell_terms, spell_atom, spell_literal, spell_literals, spell_formula}

-- what may stand behind a term or an atom, and what may stand behind a formula
pub data Follows : List Shape → Type 0 where
  follows_comma : {rest : List Shape} → Follows (Punct comma ∷ rest)
  follows_round : {rest : List Shape} → Follows (Punct right_round ∷ rest)
  follows_bar : {rest : List Shape} → Follows (Punct bar ∷ rest)

pub data Ends : List Shape → Type 0 where
  ends_comma : {rest : List Shape} → Ends (Punct comma ∷ rest)
  ends_round : {rest : List Shape} → Ends (Punct right_round ∷ rest)

pub heads : {x y : Shape} {xs ys : List Shape} → x ∷ xs ≡ y ∷ ys → (x ≡ y) × (xs ≡ ys)
heads e = (cc, cc)

-- two marks are told apart by a test
pub apart : (byte : ℕ) (s t : Shape) → s ≡ t → is_mark byte s ≡ true → is_mark byte t ≡ false → ⊥
apart byte s t e h k = let l : is_mark byte s ≡ false = subst (λ x. is_mark byte x ≡ false) (sym e) k in cc

pub no_word : (word : Word) (s : Shape) → word_token word ≡ s → is_word s ≡ false → ⊥
no_word (bare_word text) s e h = let l : is_word (Lower text) ≡ false = subst (λ x. is_word x ≡ false) (sym e) h in cc
no_word (quoted_word text) s e h = let l : is_word (Quoted text) ≡ false = subst (λ x. is_word x ≡ false) (sym e) h in cc

pub one_word : (v w : Word) → word_token v ≡ word_token w → v ≡ w
one_word (bare_word a) (bare_word b) e = let p : a ≡ b = cc in ap bare_word p
one_word (quoted_word a) (quoted_word b) e = let p : a ≡ b = cc in ap quoted_word p
one_word _ _ e = cc

not_open : (rest more : List Shape) → Follows rest → rest ≡ Punct left_round ∷ more → ⊥
not_open _ more follows_comma e = apart comma (Punct comma) (Punct left_round) (heads e).0 refl refl
not_open _ more follows_round e = apart right_round (Punct right_round) (Punct left_round) (heads e).0 refl refl
not_open _ more follows_bar e = apart bar (Punct bar) (Punct left_round) (heads e).0 refl refl

pub terms_follow : (more : Terms) (rest : List Shape) → Follows (spell_terms more ++ Punct right_round ∷ rest)
terms_follow no_terms rest = follows_round
terms_follow (then_term term more) rest = follows_comma

pub regrouped : (a b c rest : List Shape) → (a ++ (b ++ c)) ++ rest ≡ a ++ (b ++ (c ++ rest))
regrouped a b c rest = append_assoc a (b ++ c) rest ∙ ap (λ u. a ++ u) (append_assoc b c rest)

-- equal lists, grouped anew on both sides
pub both : {a b c d : List Shape} → a ≡ b → c ≡ d → a ≡ c → b ≡ d
both p q e = sym p ∙ (e ∙ q)

mutual
  pub one_term : (t u : Term) (r s : List Shape) → Follows r → Follows s → spell_term t ++ r ≡ spell_term u ++ s → (t ≡ u) × (r ≡ s)
  one_term (variable a) (variable b) r s f g e = let p : a ≡ b = cc in (ap variable p, (heads e).1)
  one_term (number a) (number b) r s f g e = let p : a ≡ b = cc in (ap number p, (heads e).1)
  one_term (distinct a) (distinct b) r s f g e = let p : a ≡ b = cc in (ap distinct p, (heads e).1)
  one_term (compound v a) (compound w b) r s f g e =
      let h = one_arguments a b r s f g (heads e).1 in
      (ap₂ compound (one_word v w (heads e).0) h.0, h.1)
  one_term (compound v a) (variable b) r s f g e = absurd (no_word v (Upper b) (heads e).0 refl)
  one_term (compound v a) (number b) r s f g e = absurd (no_word v (Number b true) (heads e).0 refl)
  one_term (compound v a) (distinct b) r s f g e = absurd (no_word v (Distinct b) (heads e).0 refl)
  one_term (variable a) (compound w b) r s f g e = absurd (no_word w (Upper a) (sym (heads e).0) refl)
  one_term (number a) (compound w b) r s f g e = absurd (no_word w (Number a true) (sym (heads e).0) refl)
  one_term (distinct a) (compound w b) r s f g e = absurd (no_word w (Distinct a) (sym (heads e).0) refl)
  one_term _ _ r s f g e = cc

  pub one_arguments : (a b : Arguments) (r s : List Shape) → Follows r → Follows s → spell_arguments a ++ r ≡ spell_arguments b ++ s → (a ≡ b) × (r ≡ s)
  one_arguments no_arguments no_arguments r s f g e = (refl, e)
  one_arguments no_arguments (arguments u n) r s f g e = absurd (not_open r ((spell_term u ++ (spell_terms n ++ Punct right_round ∷ [])) ++ s) f e)
  one_arguments (arguments t m) no_arguments r s f g e = absurd (not_open s ((spell_term t ++ (spell_terms m ++ Punct right_round ∷ [])) ++ r) g (sym e))
  one_arguments (arguments t m) (arguments u n) r s f g e =
      let same = both (regrouped (spell_term t) (spell_terms m) (Punct right_round ∷ []) r) (regrouped (spell_term u) (spell_terms n) (Punct right_round ∷ []) s) (heads e).1 in
      let h = one_term t u (spell_terms m ++ Punct right_round ∷ r) (spell_terms n ++ Punct right_round ∷ s) (terms_follow m r) (terms_follow n s) same in
      let k = one_terms m n r s h.1 in
      (ap₂ arguments h.0 k.0, k.1)

  pub one_terms : (m n : Terms) (r s : List Shape) → spell_terms m ++ Punct right_round ∷ r ≡ spell_terms n ++ Punct right_round ∷ s → (m ≡ n) × (r ≡ s)
  one_terms no_terms no_terms r s e = (refl, (heads e).1)
  one_terms no_terms (then_term u n) r s e = absurd (apart right_round (Punct right_round) (Punct comma) (heads e).0 refl refl)
  one_terms (then_term t m) no_terms r s e = absurd (apart comma (Punct comma) (Punct right_round) (heads e).0 refl refl)
  one_terms (then_term t m) (then_term u n) r s e =
      let same = both (append_assoc (spell_term t) (spell_terms m) (Punct right_round ∷ r)) (append_assoc (spell_term u) (spell_terms n) (Punct right_round ∷ s)) (heads e).1 in
      let h = one_term t u (spell_terms m ++ Punct right_round ∷ r) (spell_terms n ++ Punct right_round ∷ s) (terms_follow m r) (terms_follow n s) same in
      let k = one_terms m n r s h.1 in
      (ap₂ then_term h.0 k.0, k.1)

pub one_atom : (a b : Atom) (r s : List Shape) → Follows r → Follows s → spell_atom a ++ r ≡ spell_atom b ++ s → (a ≡ b) × (r ≡ s)
one_atom truth truth r s f g e = (refl, (heads e).1)
one_atom falsity falsity r s f g e = (refl, (heads e).1)
one_atom (predicate v a) (predicate w b) r s f g e =
    let h = one_arguments a b r s f g (heads e).1 in
    (ap₂ predicate (one_word v w (heads e).0) h.0, h.1)
one_atom (predicate v a) truth r s f g e = absurd (no_word v (Dollar (codes "$true")) (heads e).0 refl)
one_atom (predicate v a) falsity r s f g e = absurd (no_word v (Dollar (codes "$false")) (heads e).0 refl)
one_atom truth (predicate w b) r s f g e = absurd (no_word w (Dollar (codes "$true")) (sym (heads e).0) refl)
one_atom falsity (predicate w b) r s f g e = absurd (no_word w (Dollar (codes "$false")) (sym (heads e).0) refl)
one_atom truth falsity r s f g e = cc
one_atom falsity truth r s f g e = cc

-- no atom begins with a mark
atom_apart : (atom : Atom) (byte : ℕ) (r more : List Shape) → spell_atom atom ++ r ≡ Punct byte ∷ more → ⊥
atom_apart truth byte r more e = cc
atom_apart falsity byte r more e = cc
atom_apart (predicate word args) byte r more e = no_word word (Punct byte) (heads e).0 refl

pub one_literal : (a b : Literal) (r s : List Shape) → Follows r → Follows s → spell_literal a ++ r ≡ spell_literal b ++ s → (a ≡ b) × (r ≡ s)
one_literal (positive a) (positive b) r s f g e = let h = one_atom a b r s f g e in (ap positive h.0, h.1)
one_literal (negative a) (negative b) r s f g e = let h = one_atom a b r s f g (heads e).1 in (ap negative h.0, h.1)
one_literal (positive a) (negative b) r s f g e = absurd (atom_apart a tilde r (spell_atom b ++ s) e)
one_literal (negative a) (positive b) r s f g e = absurd (atom_apart b tilde s (spell_atom a ++ r) (sym e))

pub literals_follow : (more : List Literal) (rest : List Shape) → Ends rest → Follows (spell_literals more ++ rest)
literals_follow [] _ ends_comma = follows_comma
literals_follow [] _ ends_round = follows_round
literals_follow (literal ∷ more) rest f = follows_bar

no_bar : (rest more : List Shape) → Ends rest → rest ≡ Punct bar ∷ more → ⊥
no_bar _ more ends_comma e = apart comma (Punct comma) (Punct bar) (heads e).0 refl refl
no_bar _ more ends_round e = apart right_round (Punct right_round) (Punct bar) (heads e).0 refl refl

pub one_literals : (m n : List Literal) (r s : List Shape) → Ends r → Ends s → spell_literals m ++ r ≡ spell_literals n ++ s → (m ≡ n) × (r ≡ s)
one_literals [] [] r s f g e = (refl, e)
one_literals [] (b ∷ n) r s f g e = absurd (no_bar r ((spell_literal b ++ spell_literals n) ++ s) f e)
one_literals (a ∷ m) [] r s f g e = absurd (no_bar s ((spell_literal a ++ spell_literals m) ++ r) g (sym e))
one_literals (a ∷ m) (b ∷ n) r s f g e =
    let same = both (append_assoc (spell_literal a) (spell_literals m) r) (append_assoc (spell_literal b) (spell_literals n) s) (heads e).1 in
    let h = one_literal a b (spell_literals m ++ r) (spell_literals n ++ s) (literals_follow m r f) (literals_follow n s g) same in
    let k = one_literals m n r s f g h.1 in
    (ap₂ (λ x xs. x ∷ xs) h.0 k.0, k.1)

-- no literal begins with a bracket
literal_apart : (literal : Literal) (r more : List Shape) → spell_literal literal ++ r ≡ Punct left_round ∷ more → ⊥
literal_apart (positive atom) r more e = atom_apart atom left_round r more e
literal_apart (negative atom) r more e = apart tilde (Punct tilde) (Punct left_round) (heads e).0 refl refl

pub one_formula : (a b : Formula) (r s : List Shape) → Ends r → Ends s → spell_formula a ++ r ≡ spell_formula b ++ s → (a ≡ b) × (r ≡ s)
one_formula (bracketed a) (bracketed b) r s f g e =
    let same = both (append_assoc (spell_formula a) (Punct right_round ∷ []) r) (append_assoc (spell_formula b) (Punct right_round ∷ []) s) (heads e).1 in
    let h = one_formula a b (Punct right_round ∷ r) (Punct right_round ∷ s) ends_round ends_round same in
    (ap bracketed h.0, (heads h.1).1)
one_formula (disjunction a m) (disjunction b n) r s f g e =
    let same = both (append_assoc (spell_literal a) (spell_literals m) r) (append_assoc (spell_literal b) (spell_literals n) s) e in
    let h = one_literal a b (spell_literals m ++ r) (spell_literals n ++ s) (literals_follow m r f) (literals_follow n s g) same in
    let k = one_literals m n r s f g h.1 in
    (ap₂ disjunction h.0 k.0, k.1)
one_formula (bracketed a) (disjunction b n) r s f g e =
    absurd (literal_apart b (spell_literals n ++ s) ((spell_formula a ++ Punct right_round ∷ []) ++ r) (sym (append_assoc (spell_literal b) (spell_literals n) s) ∙ sym e))
one_formula (disjunction a m) (bracketed b) r s f g e =
    absurd (literal_apart a (spell_literals m ++ r) ((spell_formula b ++ Punct right_round ∷ []) ++ s) (sym (append_assoc (spell_literal a) (spell_literals m) r) ∙ e))
