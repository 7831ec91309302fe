-- What trees at a position spell: one token more.
use Rattle.cnf_grammar.proofs.Common.{◌≡◌, ℕ, suc, Bool, true, false, List, [], ◌∷◌, ◌++◌, Option, Some, None, refl, sym, ◌∙◌, ap, subst, append_assoc, Bracket, Position, Shape, Punct, left_round, right_round, left_square, right_square, comma, bar, tilde, is_mark, is_bracket, Word, Name, compound, arguments, then_term, predicate, positive, negative, bracketed, disjunction, then_token, then_group, group, annotations, selected, word_token, name_token, opening, closing, spell_term, spell_terms, spell_literal, spell_literals, spell_formula, spell_balanced, spell_part, spell_parts, spell_source, spell_items, spell_optional_info, spell_names, or_else, when}
use Rattle.cnf_grammar.proofs.Rests.{Next, next, One, one, Then, so, Inside, AfterSource, SourceParts, SourceStarts, InfoStarts, InfoItems, InfoParts, AfterFormula, FormulaStarts, AfterLiteral, LiteralStarts, AtomStarts, AfterTerm, AfterWord, TermStarts, AfterSelected, SelectedStarts, ListStarts, AfterFile, RestFrom}

-- what is said of an equal list
pub along : (K : List Shape → Type 0) {xs ys : List Shape} → xs ≡ ys → K xs → K ys
along K e k = subst K e k

-- what is said of a list that begins with an equal token
pub at_token : (K : List Shape → Type 0) (s t : Shape) (tokens : List Shape) → s ≡ t → K (t ∷ tokens) → K (s ∷ tokens)
at_token K s t tokens e k = subst (λ x. K (x ∷ tokens)) (sym e) k

module _ (E : List Shape → Type 0) where
  -- formulas
  pub formula_in_brackets : (level : ℕ) (tokens : List Shape) → FormulaStarts E (suc level) tokens → FormulaStarts E level (Punct left_round ∷ tokens)
  formula_in_brackets level _ (so formula (next {rest} k)) =
      along (FormulaStarts E level) (ap (λ u. Punct left_round ∷ u) (append_assoc (spell_formula formula) (Punct right_round ∷ []) rest)) (so (bracketed formula) k)

  pub formula_of_literals : (level : ℕ) (tokens : List Shape) → LiteralStarts E level tokens → FormulaStarts E level tokens
  formula_of_literals level _ (so literal (so more {rest} k)) =
      along (FormulaStarts E level) (append_assoc (spell_literal literal) (spell_literals more) rest) (so (disjunction literal more) k)

  pub literal_negated : (level : ℕ) (tokens : List Shape) → AtomStarts E level tokens → LiteralStarts E level (Punct tilde ∷ tokens)
  literal_negated level _ (so atom k) = so (negative atom) k

  pub literal_of_atom : (level : ℕ) (tokens : List Shape) → AtomStarts E level tokens → LiteralStarts E level tokens
  literal_of_atom level _ (so atom k) = so (positive atom) k

  pub atom_of_word : (level : ℕ) (word : Word) (tokens : List Shape) → AfterWord E level 0 tokens → AtomStarts E level (word_token word ∷ tokens)
  atom_of_word level word _ (so args k) = so (predicate word args) k

  pub literal_more : (level : ℕ) (tokens : List Shape) → LiteralStarts E level tokens → AfterLiteral E level (Punct bar ∷ tokens)
  literal_more level _ (so literal (so more {rest} k)) =
      along (AfterLiteral E level) (ap (λ u. Punct bar ∷ u) (append_assoc (spell_literal literal) (spell_literals more) rest)) (so (literal ∷ more) k)

  -- terms
  pub term_of_word : (level depth : ℕ) (word : Word) (tokens : List Shape) → AfterWord E level depth tokens → TermStarts E level depth (word_token word ∷ tokens)
  term_of_word level depth word _ (so args k) = so (compound word args) k

  pub term_more : (level depth : ℕ) (tokens : List Shape) → TermStarts E level (suc depth) tokens → AfterTerm E level (suc depth) (Punct comma ∷ tokens)
  term_more level depth _ (so term (so more {rest} k)) =
      along (AfterTerm E level (suc depth)) (ap (λ u. Punct comma ∷ u) (append_assoc (spell_term term) (spell_terms more) rest)) (so (then_term term more) k)

  pub arguments_open : (level depth : ℕ) (tokens : List Shape) → TermStarts E level (suc depth) tokens → AfterWord E level depth (Punct left_round ∷ tokens)
  arguments_open level depth _ (so term (so more (next {rest} k))) =
      along (AfterWord E level depth) (ap (λ u. Punct left_round ∷ u) (append_assoc (spell_term term) (spell_terms more ++ Punct right_round ∷ []) rest ∙ ap (λ u. spell_term term ++ u) (append_assoc (spell_terms more) (Punct right_round ∷ []) rest)))
      (so (arguments term more) k)

  -- annotations
  pub notes_open : (tokens : List Shape) → SourceStarts E tokens → AfterFormula E 0 (Punct comma ∷ tokens)
  notes_open _ (so source (so info {rest} k)) =
      along (AfterFormula E 0) (ap (λ u. Punct comma ∷ u) (append_assoc (spell_source source) (spell_optional_info info) rest)) (so (annotations source info) k)

  pub info_follows : (tokens : List Shape) → InfoStarts E tokens → AfterSource E (Punct comma ∷ tokens)
  info_follows _ (so info k) = so (Some info) k

  pub source_begun : (tokens : List Shape) → Then spell_part (SourceParts E) tokens → SourceStarts E tokens
  source_begun _ (so part (so more {rest} k)) =
      along (SourceStarts E) (append_assoc (spell_part part) (spell_parts more) rest) (so (record { first = part; more = more }) k)

  pub info_open : (tokens : List Shape) → InfoParts E tokens → InfoStarts E (Punct left_square ∷ tokens)
  info_open _ (so parts (so items (next {rest} k))) =
      along (InfoStarts E) (ap (λ u. Punct left_square ∷ u) (append_assoc (spell_parts parts) (spell_items items ++ Punct right_square ∷ []) rest ∙ ap (λ u. spell_parts parts ++ u) (append_assoc (spell_items items) (Punct right_square ∷ []) rest)))
      (so (record { first = parts; more = items }) k)

  pub item_more : (tokens : List Shape) → InfoParts E tokens → InfoParts E (Punct comma ∷ tokens)
  item_more _ (so parts (so items {rest} k)) =
      so [] (along (InfoItems E) (ap (λ u. Punct comma ∷ u) (append_assoc (spell_parts parts) (spell_items items) rest)) (so (parts ∷ items) k))

  -- includes
  pub selection_follows : (tokens : List Shape) → Next left_square (ListStarts E) tokens → AfterFile E (Punct comma ∷ tokens)
  selection_follows _ (next (so names (next {rest} k))) =
      along (AfterFile E) (ap (λ u. Punct comma ∷ (Punct left_square ∷ u)) (append_assoc (spell_names names) (Punct right_square ∷ []) rest)) (so (selected names) k)

  pub name_listed : (name : Name) (tokens : List Shape) → AfterSelected E tokens → ListStarts E (name_token name ∷ tokens)
  name_listed name _ (so more k) = so (name ∷ more) k

  pub name_more : (tokens : List Shape) → SelectedStarts E tokens → AfterSelected E (Punct comma ∷ tokens)
  name_more _ (one name (so more k)) = so (name ∷ more) k

-- parts, and tokens within brackets
pub parts_more : (K : List Shape → Type 0) (tokens : List Shape) → Then spell_part (Then spell_parts K) tokens → Then spell_parts K tokens
parts_more K _ (so part (so more {rest} k)) = along (Then spell_parts K) (append_assoc (spell_part part) (spell_parts more) rest) (so (part ∷ more) k)

pub part_group : (K : List Shape → Type 0) (bracket : Bracket) (tokens : List Shape) → Inside (bracket ∷ []) K tokens → Then spell_part K (opening bracket ∷ tokens)
part_group K bracket _ (so inside (next {rest} k)) =
    along (Then spell_part K) (ap (λ u. opening bracket ∷ u) (append_assoc (spell_balanced inside) (Punct (closing bracket) ∷ []) rest)) (so (group bracket inside) k)

pub inner_group : (K : List Shape → Type 0) (inner bracket : Bracket) (outer : List Bracket) (tokens : List Shape) → Inside (inner ∷ (bracket ∷ outer)) K tokens → Inside (bracket ∷ outer) K (opening inner ∷ tokens)
inner_group K inner bracket outer _ (so inside (next (so more {rest} k))) =
    along (Inside (bracket ∷ outer) K) (ap (λ u. opening inner ∷ u) (append_assoc (spell_balanced inside) (Punct (closing inner) ∷ spell_balanced more) rest)) (so (then_group inner inside more) k)

pub inner_token : (K : List Shape → Type 0) (s : Shape) → is_bracket s ≡ false → (bracket : Bracket) (outer : List Bracket) (tokens : List Shape) → Inside (bracket ∷ outer) K tokens → Inside (bracket ∷ outer) K (s ∷ tokens)
inner_token K s plain bracket outer _ (so inside k) = so (then_token s plain inside) k

-- a bracket that opens
pub group_begun : (K : List Shape → Type 0) (bracket : Bracket) (outer : List Bracket) (tokens : List Shape) → Inside (bracket ∷ outer) (Then spell_parts K) tokens → Inside outer (Then spell_parts K) (opening bracket ∷ tokens)
group_begun K bracket [] tokens k = parts_more K (opening bracket ∷ tokens) (part_group (Then spell_parts K) bracket tokens k)
group_begun K bracket (around ∷ outer) tokens k = inner_group (Then spell_parts K) bracket around outer tokens k
