-- Reading the tokens of a formula adds what the formula's tree says.
use Rattle.cnf_grammar.proofs.Common.{◌≡◌, ℕ, zero, suc, true, false, List, [], ◌∷◌, ◌++◌, Some, refl, ◌∙◌, ap, append_assoc, Bracket, FormulaStart, LiteralStart, AtomStart, WordRead, TermStart, TermRead, FormulaClosed, Shape, Punct, right_round, bare_word, quoted_word, Term, variable, number, distinct, compound, Arguments, no_arguments, arguments, Terms, no_terms, then_term, Atom, truth, falsity, predicate, Literal, positive, negative, Formula, bracketed, disjunction, spell_term, spell_arguments, spell_terms, spell_atom, spell_literal, spell_literals, spell_formula, unquoted, word_kind, integer_kind, distinct_kind, word_text, Draft, push_symbol, push_variable, first_argument, next_argument, close_arguments, push_constant, finish, Gathered, Option, None, Position, step, run_from, gather, gather_from}
use Rattle.cnf_grammar.proofs.Accepting.{position}
use Rattle.cnf_grammar.proofs.OneTerm.{Follows, follows_comma, follows_round, follows_bar, Ends, ends_comma, ends_round, terms_follow, literals_follow}

-- where tokens lead from a position, and what they leave
abbrev pub walk : Option Position → Gathered → List Shape → Option Position × Gathered
walk None g tokens = (None, g)
walk (Some p) g [] = (Some p, g)
walk (Some p) g (s ∷ tokens) = walk (step p s) (gather p s g) tokens

pub walk-runs : (o : Option Position) (g : Gathered) (tokens : List Shape) → (walk o g tokens).0 ≡ run_from o tokens
walk-runs None g tokens = refl
walk-runs (Some p) g [] = refl
walk-runs (Some p) g (s ∷ tokens) = walk-runs (step p s) (gather p s g) tokens

pub walk-gathers : (o : Option Position) (g : Gathered) (tokens : List Shape) → (walk o g tokens).1 ≡ gather_from o g tokens
walk-gathers None g tokens = refl
walk-gathers (Some p) g [] = refl
walk-gathers (Some p) g (s ∷ tokens) = walk-gathers (step p s) (gather p s g) tokens

abbrev pub with_formula : Gathered → Draft → Gathered
with_formula g d = record g { formula = d }

-- what trees add
abbrev mutual
  pub add_term : Term → Draft → Draft
  add_term (variable text) d = push_variable text d
  add_term (number text) d = push_symbol integer_kind text d
  add_term (distinct text) d = push_symbol distinct_kind (unquoted text) d
  add_term (compound word args) d = add_arguments args (push_symbol word_kind (word_text word) d)

  pub add_arguments : Arguments → Draft → Draft
  add_arguments no_arguments d = d
  add_arguments (arguments term more) d = close_arguments (add_terms more (add_term term (first_argument d)))

  pub add_terms : Terms → Draft → Draft
  add_terms no_terms d = d
  add_terms (then_term term more) d = add_terms more (add_term term (next_argument d))

abbrev pub add_atom : Atom → Draft → Draft
add_atom truth d = push_constant true d
add_atom falsity d = push_constant false d
add_atom (predicate word args) d = add_arguments args (push_symbol word_kind (word_text word) d)

abbrev pub add_literal : Literal → Draft → Draft
add_literal (positive atom) d = add_atom atom d
add_literal (negative atom) d = add_atom atom (record d { is_negative = true })

abbrev pub add_literals : List Literal → Draft → Draft
add_literals [] d = d
add_literals (literal ∷ more) d = add_literals more (add_literal literal (finish d))

abbrev pub add_formula : Formula → Draft → Draft
add_formula (bracketed formula) d = add_formula formula d
add_formula (disjunction first more) d = finish (add_literals more (add_literal first d))

-- behind a word as behind a term
word_as_term : (g : Gathered) → (level depth : ℕ) (brackets : List Bracket) (d : Draft) (rest : List Shape) → Follows rest → walk (Some (position WordRead level depth brackets)) (with_formula g d) rest ≡ walk (Some (position TermRead level depth brackets)) (with_formula g d) rest
word_as_term g level depth brackets d _ follows_comma = refl
word_as_term g level depth brackets d _ follows_round = refl
word_as_term g level depth brackets d _ follows_bar = refl

mutual
  pub collects-term : (g : Gathered) → (term : Term) (level depth : ℕ) (brackets : List Bracket) (d : Draft) (rest : List Shape) → Follows rest → walk (Some (position TermStart level depth brackets)) (with_formula g d) (spell_term term ++ rest) ≡ walk (Some (position TermRead level depth brackets)) (with_formula g (add_term term d)) rest
  collects-term g (variable text) level depth brackets d rest f = refl
  collects-term g (number text) level depth brackets d rest f = refl
  collects-term g (distinct text) level depth brackets d rest f = refl
  collects-term g (compound (bare_word text) args) level depth brackets d rest f = collects-arguments g args level depth brackets (push_symbol word_kind text d) rest f
  collects-term g (compound (quoted_word text) args) level depth brackets d rest f = collects-arguments g args level depth brackets (push_symbol word_kind (unquoted text) d) rest f

  pub collects-arguments : (g : Gathered) → (args : Arguments) (level depth : ℕ) (brackets : List Bracket) (d : Draft) (rest : List Shape) → Follows rest → walk (Some (position WordRead level depth brackets)) (with_formula g d) (spell_arguments args ++ rest) ≡ walk (Some (position TermRead level depth brackets)) (with_formula g (add_arguments args d)) rest
  collects-arguments g no_arguments level depth brackets d rest f = word_as_term g level depth brackets d rest f
  collects-arguments g (arguments term more) level depth brackets d rest f =
      ap (walk (Some (position TermStart level (suc depth) brackets)) (with_formula g (first_argument d)))
      (append_assoc (spell_term term) (spell_terms more ++ Punct right_round ∷ []) rest ∙ ap (λ u. spell_term term ++ u) (append_assoc (spell_terms more) (Punct right_round ∷ []) rest))
      ∙ (collects-term g term level (suc depth) brackets (first_argument d) (spell_terms more ++ Punct right_round ∷ rest) (terms_follow more rest)
      ∙ collects-terms g more level depth brackets (add_term term (first_argument d)) rest)

  pub collects-terms : (g : Gathered) → (more : Terms) (level depth : ℕ) (brackets : List Bracket) (d : Draft) (rest : List Shape) → walk (Some (position TermRead level (suc depth) brackets)) (with_formula g d) (spell_terms more ++ Punct right_round ∷ rest) ≡ walk (Some (position TermRead level depth brackets)) (with_formula g (close_arguments (add_terms more d))) rest
  collects-terms g no_terms level depth brackets d rest = refl
  collects-terms g (then_term term more) level depth brackets d rest =
      ap (walk (Some (position TermStart level (suc depth) brackets)) (with_formula g (next_argument d))) (append_assoc (spell_term term) (spell_terms more) (Punct right_round ∷ rest))
      ∙ (collects-term g term level (suc depth) brackets (next_argument d) (spell_terms more ++ Punct right_round ∷ rest) (terms_follow more rest)
      ∙ collects-terms g more level depth brackets (add_term term (next_argument d)) rest)

pub collects-atom : (g : Gathered) → (atom : Atom) (level depth : ℕ) (brackets : List Bracket) (d : Draft) (rest : List Shape) → Follows rest → walk (Some (position AtomStart level depth brackets)) (with_formula g d) (spell_atom atom ++ rest) ≡ walk (Some (position TermRead level 0 brackets)) (with_formula g (add_atom atom d)) rest
collects-atom g truth level depth brackets d rest f = refl
collects-atom g falsity level depth brackets d rest f = refl
collects-atom g (predicate (bare_word text) args) level depth brackets d rest f = collects-arguments g args level 0 brackets (push_symbol word_kind text d) rest f
collects-atom g (predicate (quoted_word text) args) level depth brackets d rest f = collects-arguments g args level 0 brackets (push_symbol word_kind (unquoted text) d) rest f

pub collects-literal : (g : Gathered) → (literal : Literal) (level depth : ℕ) (brackets : List Bracket) (d : Draft) (rest : List Shape) → Follows rest → walk (Some (position LiteralStart level depth brackets)) (with_formula g d) (spell_literal literal ++ rest) ≡ walk (Some (position TermRead level 0 brackets)) (with_formula g (add_literal literal d)) rest
collects-literal g (negative atom) level depth brackets d rest f = collects-atom g atom level depth brackets (record d { is_negative = true }) rest f
collects-literal g (positive truth) level depth brackets d rest f = refl
collects-literal g (positive falsity) level depth brackets d rest f = refl
collects-literal g (positive (predicate (bare_word text) args)) level depth brackets d rest f = collects-arguments g args level 0 brackets (push_symbol word_kind text d) rest f
collects-literal g (positive (predicate (quoted_word text) args)) level depth brackets d rest f = collects-arguments g args level 0 brackets (push_symbol word_kind (unquoted text) d) rest f

-- a formula begins as a literal
formula_as_literal : (g : Gathered) → (literal : Literal) (level depth : ℕ) (brackets : List Bracket) (d : Draft) (rest : List Shape) → walk (Some (position FormulaStart level depth brackets)) (with_formula g d) (spell_literal literal ++ rest) ≡ walk (Some (position LiteralStart level depth brackets)) (with_formula g d) (spell_literal literal ++ rest)
formula_as_literal g (negative atom) level depth brackets d rest = refl
formula_as_literal g (positive truth) level depth brackets d rest = refl
formula_as_literal g (positive falsity) level depth brackets d rest = refl
formula_as_literal g (positive (predicate (bare_word text) args)) level depth brackets d rest = refl
formula_as_literal g (positive (predicate (quoted_word text) args)) level depth brackets d rest = refl

-- behind the last literal as behind the formula
literal_as_formula : (g : Gathered) → (level : ℕ) (brackets : List Bracket) (d : Draft) (rest : List Shape) → Ends rest → walk (Some (position TermRead level 0 brackets)) (with_formula g d) rest ≡ walk (Some (position FormulaClosed level 0 brackets)) (with_formula g (finish d)) rest
literal_as_formula g zero brackets d _ ends_comma = refl
literal_as_formula g zero brackets d _ ends_round = refl
literal_as_formula g (suc level) brackets d _ ends_comma = refl
literal_as_formula g (suc level) brackets d _ ends_round = refl

pub collects-literals : (g : Gathered) → (more : List Literal) (level : ℕ) (brackets : List Bracket) (d : Draft) (rest : List Shape) → Ends rest → walk (Some (position TermRead level 0 brackets)) (with_formula g d) (spell_literals more ++ rest) ≡ walk (Some (position FormulaClosed level 0 brackets)) (with_formula g (finish (add_literals more d))) rest
collects-literals g [] level brackets d rest f = literal_as_formula g level brackets d rest f
collects-literals g (literal ∷ more) level brackets d rest f =
    ap (walk (Some (position LiteralStart level 0 brackets)) (with_formula g (finish d))) (append_assoc (spell_literal literal) (spell_literals more) rest)
    ∙ (collects-literal g literal level 0 brackets (finish d) (spell_literals more ++ rest) (literals_follow more rest f)
    ∙ collects-literals g more level brackets (add_literal literal (finish d)) rest f)

pub collects-formula : (g : Gathered) → (formula : Formula) (level depth : ℕ) (brackets : List Bracket) (d : Draft) (rest : List Shape) → Ends rest → (closed : ℕ) × (walk (Some (position FormulaStart level depth brackets)) (with_formula g d) (spell_formula formula ++ rest) ≡ walk (Some (position FormulaClosed level closed brackets)) (with_formula g (add_formula formula d)) rest)
collects-formula g (bracketed formula) level depth brackets d rest f =
    let h = collects-formula g formula (suc level) depth brackets d (Punct right_round ∷ rest) ends_round in
    (h.0, ap (walk (Some (position FormulaStart (suc level) depth brackets)) (with_formula g d)) (append_assoc (spell_formula formula) (Punct right_round ∷ []) rest) ∙ h.1)
collects-formula g (disjunction first more) level depth brackets d rest f = (
  0,
  ap (walk (Some (position FormulaStart level depth brackets)) (with_formula g d)) (append_assoc (spell_literal first) (spell_literals more) rest)
      ∙ (formula_as_literal g first level depth brackets d (spell_literals more ++ rest)
      ∙ (collects-literal g first level depth brackets d (spell_literals more ++ rest) (literals_follow more rest f)
      ∙ collects-literals g more level brackets (add_literal first d) rest f)),
)
