-- What is left of a file at each position, as trees. E holds of what may stand behind the statement under way.
use Rattle.cnf_grammar.proofs.Common.{ℕ, zero, suc, List, [], ◌∷◌, ◌++◌, Option, Some, None, Bracket, State, Statement, ClauseWord, NameStart, NameRead, RoleStart, RoleRead, FormulaStart, LiteralStart, AtomStart, WordRead, TermStart, TermRead, FormulaClosed, SourceStart, Source, InfoStart, Info, InfoClosed, ClauseClosed, IncludeWord, FileStart, FileRead, SelectionStart, SelectionOpen, SelectedStart, SelectedRead, SelectionClosed, IncludeClosed, Position, Shape, Lower, Punct, left_round, right_round, left_square, right_square, comma, dot, closing, name_token, file_token, spell_term, spell_arguments, spell_terms, spell_atom, spell_literal, spell_literals, spell_formula, spell_balanced, spell_parts, spell_source, spell_items, spell_info, spell_optional_info, spell_annotations, spell_more_names, spell_names, spell_selection}

-- a mark, and then what K says
pub data Next (byte : ℕ) (K : List Shape → Type 0) : List Shape → Type 0 where
  next : {rest : List Shape} → K rest → Next byte K (Punct byte ∷ rest)

-- one token of a kind, and then what K says
pub data One {X : Type 0} (token : X → Shape) (K : List Shape → Type 0) : List Shape → Type 0 where
  one : (x : X) {rest : List Shape} → K rest → One token K (token x ∷ rest)

-- what a tree spells, and then what K says
pub data Then {X : Type 0} (spelled : X → List Shape) (K : List Shape → Type 0) : List Shape → Type 0 where
  so : (x : X) {rest : List Shape} → K rest → Then spelled K (spelled x ++ rest)

-- within brackets of an annotation, the innermost first: balanced tokens up to where each closes
abbrev pub Inside : List Bracket → (List Shape → Type 0) → List Shape → Type 0
Inside [] K = K
Inside (bracket ∷ outer) K = Then spell_balanced (Next (closing bracket) (Inside outer K))

module _ (E : List Shape → Type 0) where
  abbrev pub Closed : List Shape → Type 0
  Closed = Next dot E

  abbrev pub ClauseEnds : List Shape → Type 0
  ClauseEnds = Next right_round Closed

  abbrev pub AfterSource : List Shape → Type 0
  AfterSource = Then spell_optional_info ClauseEnds

  abbrev pub SourceParts : List Shape → Type 0
  SourceParts = Then spell_parts AfterSource

  abbrev pub SourceStarts : List Shape → Type 0
  SourceStarts = Then spell_source AfterSource

  abbrev pub InfoStarts : List Shape → Type 0
  InfoStarts = Then spell_info ClauseEnds

  abbrev pub InfoItems : List Shape → Type 0
  InfoItems = Then spell_items (Next right_square ClauseEnds)

  abbrev pub InfoParts : List Shape → Type 0
  InfoParts = Then spell_parts InfoItems

  abbrev pub AfterFormula : ℕ → List Shape → Type 0
  AfterFormula zero = Then spell_annotations ClauseEnds
  AfterFormula (suc level) = Next right_round (AfterFormula level)

  abbrev pub FormulaStarts : ℕ → List Shape → Type 0
  FormulaStarts level = Then spell_formula (AfterFormula level)

  abbrev pub AfterLiteral : ℕ → List Shape → Type 0
  AfterLiteral level = Then spell_literals (AfterFormula level)

  abbrev pub LiteralStarts : ℕ → List Shape → Type 0
  LiteralStarts level = Then spell_literal (AfterLiteral level)

  abbrev pub AtomStarts : ℕ → List Shape → Type 0
  AtomStarts level = Then spell_atom (AfterLiteral level)

  abbrev pub AfterTerm : ℕ → ℕ → List Shape → Type 0
  AfterTerm level zero = AfterLiteral level
  AfterTerm level (suc depth) = Then spell_terms (Next right_round (AfterTerm level depth))

  abbrev pub AfterWord : ℕ → ℕ → List Shape → Type 0
  AfterWord level depth = Then spell_arguments (AfterTerm level depth)

  abbrev pub TermStarts : ℕ → ℕ → List Shape → Type 0
  TermStarts level depth = Then spell_term (AfterTerm level depth)

  abbrev pub AfterRole : List Shape → Type 0
  AfterRole = Next comma (FormulaStarts 0)

  abbrev pub AfterName : List Shape → Type 0
  AfterName = Next comma (One Lower AfterRole)

  abbrev pub NameStarts : List Shape → Type 0
  NameStarts = One name_token AfterName

  abbrev pub IncludeEnds : List Shape → Type 0
  IncludeEnds = Next right_round Closed

  abbrev pub ListEnds : List Shape → Type 0
  ListEnds = Next right_square IncludeEnds

  abbrev pub AfterSelected : List Shape → Type 0
  AfterSelected = Then spell_more_names ListEnds

  abbrev pub SelectedStarts : List Shape → Type 0
  SelectedStarts = One name_token AfterSelected

  abbrev pub ListStarts : List Shape → Type 0
  ListStarts = Then spell_names ListEnds

  abbrev pub AfterFile : List Shape → Type 0
  AfterFile = Then spell_selection IncludeEnds

  abbrev pub FileStarts : List Shape → Type 0
  FileStarts = One file_token AfterFile

  -- what is left at a position
  abbrev pub rest_at : State → ℕ → ℕ → List Bracket → List Shape → Type 0
  rest_at Statement level depth brackets = E
  rest_at ClauseWord level depth brackets = Next left_round NameStarts
  rest_at NameStart level depth brackets = NameStarts
  rest_at NameRead level depth brackets = AfterName
  rest_at RoleStart level depth brackets = One Lower AfterRole
  rest_at RoleRead level depth brackets = AfterRole
  rest_at FormulaStart level depth brackets = FormulaStarts level
  rest_at LiteralStart level depth brackets = LiteralStarts level
  rest_at AtomStart level depth brackets = AtomStarts level
  rest_at WordRead level depth brackets = AfterWord level depth
  rest_at TermStart level depth brackets = TermStarts level depth
  rest_at TermRead level depth brackets = AfterTerm level depth
  rest_at FormulaClosed level depth brackets = AfterFormula level
  rest_at SourceStart level depth brackets = SourceStarts
  rest_at Source level depth brackets = Inside brackets SourceParts
  rest_at InfoStart level depth brackets = InfoStarts
  rest_at Info level depth brackets = Inside brackets InfoParts
  rest_at InfoClosed level depth brackets = ClauseEnds
  rest_at ClauseClosed level depth brackets = Closed
  rest_at IncludeWord level depth brackets = Next left_round FileStarts
  rest_at FileStart level depth brackets = FileStarts
  rest_at FileRead level depth brackets = AfterFile
  rest_at SelectionStart level depth brackets = Next left_square ListStarts
  rest_at SelectionOpen level depth brackets = ListStarts
  rest_at SelectedStart level depth brackets = SelectedStarts
  rest_at SelectedRead level depth brackets = AfterSelected
  rest_at SelectionClosed level depth brackets = IncludeEnds
  rest_at IncludeClosed level depth brackets = Closed

  abbrev pub RestFrom : Option Position → List Shape → Type 0
  RestFrom None tokens = ⊥
  RestFrom (Some p) tokens = rest_at p.state p.level p.depth p.brackets tokens
