-- The rows of the table, a constructor for each: from a position by a token to the next position.
use Rattle.cnf_grammar.proofs.Common.{◌≡◌, ℕ, zero, suc, Bool, true, false, cond, not, ◌||◌, ◌⊎◌, inl, inr, List, [], ◌∷◌, Option, Some, None, codes, refl, sym, subst, bytes_eq, Bracket, Round, Square, State, Statement, ClauseWord, NameStart, NameRead, RoleStart, RoleRead, FormulaStart, LiteralStart, AtomStart, WordRead, TermStart, TermRead, FormulaClosed, SourceStart, Source, InfoStart, Info, InfoClosed, ClauseClosed, IncludeWord, FileStart, FileRead, SelectionStart, SelectionOpen, SelectedStart, SelectedRead, SelectionClosed, IncludeClosed, Position, Shape, Lower, Upper, Quoted, Distinct, Dollar, Number, Punct, left_round, right_round, left_square, right_square, comma, dot, bar, tilde, is_mark, is_bracket, is_keyword, is_defined, is_lower, is_word, is_name, is_simple_term, is_file_name, opening, closing, or_else, when, step, step_at, start, atom_start, literal_start, after_formula, after_term, any_token, within}
use Rattle.cnf_grammar.proofs.Accepting.{position, mark_is, keyword_is, defined_is, negated}

pub data Edge : Position → Shape → Position → Type 0 where
  clause_begins : (l d : ℕ) (bs : List Bracket) → Edge (position Statement l d bs) (Lower (codes "cnf")) (position ClauseWord l d bs)
  include_begins : (l d : ℕ) (bs : List Bracket) → Edge (position Statement l d bs) (Lower (codes "include")) (position IncludeWord l d bs)
  clause_opens : (l d : ℕ) (bs : List Bracket) → Edge (position ClauseWord l d bs) (Punct left_round) (position NameStart l d bs)
  named_bare : (l d : ℕ) (bs : List Bracket) (text : List ℕ) → Edge (position NameStart l d bs) (Lower text) (position NameRead l d bs)
  named_quoted : (l d : ℕ) (bs : List Bracket) (text : List ℕ) → Edge (position NameStart l d bs) (Quoted text) (position NameRead l d bs)
  named_number : (l d : ℕ) (bs : List Bracket) (text : List ℕ) → Edge (position NameStart l d bs) (Number text true) (position NameRead l d bs)
  role_comes : (l d : ℕ) (bs : List Bracket) → Edge (position NameRead l d bs) (Punct comma) (position RoleStart l d bs)
  role_read : (l d : ℕ) (bs : List Bracket) (text : List ℕ) → Edge (position RoleStart l d bs) (Lower text) (position RoleRead l d bs)
  formula_comes : (l d : ℕ) (bs : List Bracket) → Edge (position RoleRead l d bs) (Punct comma) (position FormulaStart 0 d bs)
  formula_opens : (l d : ℕ) (bs : List Bracket) → Edge (position FormulaStart l d bs) (Punct left_round) (position FormulaStart (suc l) d bs)
  first_negated : (l d : ℕ) (bs : List Bracket) → Edge (position FormulaStart l d bs) (Punct tilde) (position AtomStart l d bs)
  first_bare : (l d : ℕ) (bs : List Bracket) (text : List ℕ) → Edge (position FormulaStart l d bs) (Lower text) (position WordRead l 0 bs)
  first_quoted : (l d : ℕ) (bs : List Bracket) (text : List ℕ) → Edge (position FormulaStart l d bs) (Quoted text) (position WordRead l 0 bs)
  first_truth : (l d : ℕ) (bs : List Bracket) → Edge (position FormulaStart l d bs) (Dollar (codes "$true")) (position TermRead l 0 bs)
  first_falsity : (l d : ℕ) (bs : List Bracket) → Edge (position FormulaStart l d bs) (Dollar (codes "$false")) (position TermRead l 0 bs)
  next_negated : (l d : ℕ) (bs : List Bracket) → Edge (position LiteralStart l d bs) (Punct tilde) (position AtomStart l d bs)
  next_bare : (l d : ℕ) (bs : List Bracket) (text : List ℕ) → Edge (position LiteralStart l d bs) (Lower text) (position WordRead l 0 bs)
  next_quoted : (l d : ℕ) (bs : List Bracket) (text : List ℕ) → Edge (position LiteralStart l d bs) (Quoted text) (position WordRead l 0 bs)
  next_truth : (l d : ℕ) (bs : List Bracket) → Edge (position LiteralStart l d bs) (Dollar (codes "$true")) (position TermRead l 0 bs)
  next_falsity : (l d : ℕ) (bs : List Bracket) → Edge (position LiteralStart l d bs) (Dollar (codes "$false")) (position TermRead l 0 bs)
  atom_bare : (l d : ℕ) (bs : List Bracket) (text : List ℕ) → Edge (position AtomStart l d bs) (Lower text) (position WordRead l 0 bs)
  atom_quoted : (l d : ℕ) (bs : List Bracket) (text : List ℕ) → Edge (position AtomStart l d bs) (Quoted text) (position WordRead l 0 bs)
  atom_truth : (l d : ℕ) (bs : List Bracket) → Edge (position AtomStart l d bs) (Dollar (codes "$true")) (position TermRead l 0 bs)
  atom_falsity : (l d : ℕ) (bs : List Bracket) → Edge (position AtomStart l d bs) (Dollar (codes "$false")) (position TermRead l 0 bs)
  arguments_open : (l d : ℕ) (bs : List Bracket) → Edge (position WordRead l d bs) (Punct left_round) (position TermStart l (suc d) bs)
  word_comma : (l d : ℕ) (bs : List Bracket) → Edge (position WordRead l (suc d) bs) (Punct comma) (position TermStart l (suc d) bs)
  word_closes : (l d : ℕ) (bs : List Bracket) → Edge (position WordRead l (suc d) bs) (Punct right_round) (position TermRead l d bs)
  word_bar : (l : ℕ) (bs : List Bracket) → Edge (position WordRead l 0 bs) (Punct bar) (position LiteralStart l 0 bs)
  word_notes : (bs : List Bracket) → Edge (position WordRead 0 0 bs) (Punct comma) (position SourceStart 0 0 bs)
  word_ends : (bs : List Bracket) → Edge (position WordRead 0 0 bs) (Punct right_round) (position ClauseClosed 0 0 bs)
  word_formula : (l : ℕ) (bs : List Bracket) → Edge (position WordRead (suc l) 0 bs) (Punct right_round) (position FormulaClosed l 0 bs)
  term_variable : (l d : ℕ) (bs : List Bracket) (text : List ℕ) → Edge (position TermStart l d bs) (Upper text) (position TermRead l d bs)
  term_number : (l d : ℕ) (bs : List Bracket) (text : List ℕ) → Edge (position TermStart l d bs) (Number text true) (position TermRead l d bs)
  term_distinct : (l d : ℕ) (bs : List Bracket) (text : List ℕ) → Edge (position TermStart l d bs) (Distinct text) (position TermRead l d bs)
  term_bare : (l d : ℕ) (bs : List Bracket) (text : List ℕ) → Edge (position TermStart l d bs) (Lower text) (position WordRead l d bs)
  term_quoted : (l d : ℕ) (bs : List Bracket) (text : List ℕ) → Edge (position TermStart l d bs) (Quoted text) (position WordRead l d bs)
  term_comma : (l d : ℕ) (bs : List Bracket) → Edge (position TermRead l (suc d) bs) (Punct comma) (position TermStart l (suc d) bs)
  term_closes : (l d : ℕ) (bs : List Bracket) → Edge (position TermRead l (suc d) bs) (Punct right_round) (position TermRead l d bs)
  term_bar : (l : ℕ) (bs : List Bracket) → Edge (position TermRead l 0 bs) (Punct bar) (position LiteralStart l 0 bs)
  term_notes : (bs : List Bracket) → Edge (position TermRead 0 0 bs) (Punct comma) (position SourceStart 0 0 bs)
  term_ends : (bs : List Bracket) → Edge (position TermRead 0 0 bs) (Punct right_round) (position ClauseClosed 0 0 bs)
  term_formula : (l : ℕ) (bs : List Bracket) → Edge (position TermRead (suc l) 0 bs) (Punct right_round) (position FormulaClosed l 0 bs)
  formula_notes : (d : ℕ) (bs : List Bracket) → Edge (position FormulaClosed 0 d bs) (Punct comma) (position SourceStart 0 d bs)
  formula_ends : (d : ℕ) (bs : List Bracket) → Edge (position FormulaClosed 0 d bs) (Punct right_round) (position ClauseClosed 0 d bs)
  formula_closes : (l d : ℕ) (bs : List Bracket) → Edge (position FormulaClosed (suc l) d bs) (Punct right_round) (position FormulaClosed l d bs)
  source_opens : (l d : ℕ) (bs : List Bracket) (b : Bracket) → Edge (position SourceStart l d bs) (opening b) (position Source l d (b ∷ []))
  source_begins : (l d : ℕ) (bs : List Bracket) (s : Shape) → is_bracket s ≡ false → is_mark comma s ≡ false → Edge (position SourceStart l d bs) s (position Source l d [])
  source_inner : (l d : ℕ) (bs : List Bracket) (b : Bracket) → Edge (position Source l d bs) (opening b) (position Source l d (b ∷ bs))
  source_token : (l d : ℕ) (s : Shape) → is_bracket s ≡ false → is_mark comma s ≡ false → Edge (position Source l d []) s (position Source l d [])
  source_within : (l d : ℕ) (b : Bracket) (bs : List Bracket) (s : Shape) → is_bracket s ≡ false → Edge (position Source l d (b ∷ bs)) s (position Source l d (b ∷ bs))
  source_closes : (l d : ℕ) (bs : List Bracket) (b : Bracket) → Edge (position Source l d (b ∷ bs)) (Punct (closing b)) (position Source l d bs)
  source_comma : (l d : ℕ) → Edge (position Source l d []) (Punct comma) (position InfoStart l d [])
  source_ends : (l d : ℕ) → Edge (position Source l d []) (Punct right_round) (position ClauseClosed l d [])
  info_opens : (l d : ℕ) (bs : List Bracket) → Edge (position InfoStart l d bs) (Punct left_square) (position Info l d [])
  info_inner : (l d : ℕ) (bs : List Bracket) (b : Bracket) → Edge (position Info l d bs) (opening b) (position Info l d (b ∷ bs))
  info_token : (l d : ℕ) (bs : List Bracket) (s : Shape) → is_bracket s ≡ false → Edge (position Info l d bs) s (position Info l d bs)
  info_closes : (l d : ℕ) (bs : List Bracket) (b : Bracket) → Edge (position Info l d (b ∷ bs)) (Punct (closing b)) (position Info l d bs)
  info_ends : (l d : ℕ) → Edge (position Info l d []) (Punct right_square) (position InfoClosed l d [])
  notes_end : (l d : ℕ) (bs : List Bracket) → Edge (position InfoClosed l d bs) (Punct right_round) (position ClauseClosed l d bs)
  clause_ends : (l d : ℕ) (bs : List Bracket) → Edge (position ClauseClosed l d bs) (Punct dot) start
  include_opens : (l d : ℕ) (bs : List Bracket) → Edge (position IncludeWord l d bs) (Punct left_round) (position FileStart l d bs)
  file_bare : (l d : ℕ) (bs : List Bracket) (text : List ℕ) → Edge (position FileStart l d bs) (Lower text) (position FileRead l d bs)
  file_quoted : (l d : ℕ) (bs : List Bracket) (text : List ℕ) → bytes_eq text (codes "''") ≡ false → Edge (position FileStart l d bs) (Quoted text) (position FileRead l d bs)
  file_selects : (l d : ℕ) (bs : List Bracket) → Edge (position FileRead l d bs) (Punct comma) (position SelectionStart l d bs)
  file_ends : (l d : ℕ) (bs : List Bracket) → Edge (position FileRead l d bs) (Punct right_round) (position IncludeClosed l d bs)
  selection_opens : (l d : ℕ) (bs : List Bracket) → Edge (position SelectionStart l d bs) (Punct left_square) (position SelectionOpen l d bs)
  first_selected : (l d : ℕ) (bs : List Bracket) (s : Shape) → is_name s ≡ true → Edge (position SelectionOpen l d bs) s (position SelectedRead l d bs)
  none_selected : (l d : ℕ) (bs : List Bracket) → Edge (position SelectionOpen l d bs) (Punct right_square) (position SelectionClosed l d bs)
  next_selected : (l d : ℕ) (bs : List Bracket) (s : Shape) → is_name s ≡ true → Edge (position SelectedStart l d bs) s (position SelectedRead l d bs)
  selected_comma : (l d : ℕ) (bs : List Bracket) → Edge (position SelectedRead l d bs) (Punct comma) (position SelectedStart l d bs)
  selection_ends : (l d : ℕ) (bs : List Bracket) → Edge (position SelectedRead l d bs) (Punct right_square) (position SelectionClosed l d bs)
  selection_behind : (l d : ℕ) (bs : List Bracket) → Edge (position SelectionClosed l d bs) (Punct right_round) (position IncludeClosed l d bs)
  include_ends : (l d : ℕ) (bs : List Bracket) → Edge (position IncludeClosed l d bs) (Punct dot) start

one_of : (a b : Bool) → (a || b) ≡ true → (a ≡ true) ⊎ (b ≡ true)
one_of true b h = inl h
one_of false b h = inr h

-- the edge by a token of this kind
module _ (from next : Position) where
  by_word : ((text : List ℕ) → Edge from (Lower text) next) → ((text : List ℕ) → Edge from (Quoted text) next) → (s : Shape) → is_word s ≡ true → Edge from s next
  by_word bare quoted (Lower text) h = bare text
  by_word bare quoted (Quoted text) h = quoted text
  by_word bare quoted s h = absurd cc

  by_name : ((text : List ℕ) → Edge from (Lower text) next) → ((text : List ℕ) → Edge from (Quoted text) next) → ((text : List ℕ) → Edge from (Number text true) next) → (s : Shape) → is_name s ≡ true → Edge from s next
  by_name bare quoted number (Lower text) h = bare text
  by_name bare quoted number (Quoted text) h = quoted text
  by_name bare quoted number (Number text plain) h = subst (λ p. Edge from (Number text p) next) (sym h) (number text)
  by_name bare quoted number s h = absurd cc

  by_term : ((text : List ℕ) → Edge from (Upper text) next) → ((text : List ℕ) → Edge from (Number text true) next) → ((text : List ℕ) → Edge from (Distinct text) next) → (s : Shape) → is_simple_term s ≡ true → Edge from s next
  by_term variable number distinct (Upper text) h = variable text
  by_term variable number distinct (Distinct text) h = distinct text
  by_term variable number distinct (Number text plain) h = subst (λ p. Edge from (Number text p) next) (sym h) (number text)
  by_term variable number distinct s h = absurd cc

  by_lower : ((text : List ℕ) → Edge from (Lower text) next) → (s : Shape) → is_lower s ≡ true → Edge from s next
  by_lower bare (Lower text) h = bare text
  by_lower bare s h = absurd cc

  by_file : ((text : List ℕ) → Edge from (Lower text) next) → ((text : List ℕ) → bytes_eq text (codes "''") ≡ false → Edge from (Quoted text) next) → (s : Shape) → is_file_name s ≡ true → Edge from s next
  by_file bare quoted (Lower text) h = bare text
  by_file bare quoted (Quoted text) h = quoted text (negated (bytes_eq text (codes "''")) h)
  by_file bare quoted s h = absurd cc

  by_mark : (byte : ℕ) → Edge from (Punct byte) next → (s : Shape) → is_mark byte s ≡ true → Edge from s next
  by_mark byte edge s h = subst (λ t. Edge from t next) (sym (mark_is byte s h)) edge

  by_keyword : (word : List ℕ) → Edge from (Lower word) next → (s : Shape) → is_keyword word s ≡ true → Edge from s next
  by_keyword word edge s h = subst (λ t. Edge from t next) (sym (keyword_is word s h)) edge

  by_constant : Edge from (Dollar (codes "$true")) next → Edge from (Dollar (codes "$false")) next → (s : Shape) → (is_defined (codes "$true") s || is_defined (codes "$false") s) ≡ true → Edge from s next
  by_constant truth falsity s h = elim (one_of (is_defined (codes "$true") s) (is_defined (codes "$false") s) h) [
    | inl e ↦ subst (λ t. Edge from t next) (sym (defined_is (codes "$true") s e)) truth
    | inr e ↦ subst (λ t. Edge from t next) (sym (defined_is (codes "$false") s e)) falsity
  ]

module _ (from : Position) (s : Shape) (q : Position) where
  -- of two tests the first that holds tells the edge
  either : (test : Bool) (p : Position) (o : Option Position) → (test ≡ true → Edge from s p) → (test ≡ false → o ≡ Some q → Edge from s q) → or_else test p o ≡ Some q → Edge from s q
  either true p o here more e = let same : p ≡ q = cc in subst (Edge from s) same (here refl)
  either false p o here more e = more refl e

  only : (test : Bool) (p : Position) → (test ≡ true → Edge from s p) → when test p ≡ Some q → Edge from s q
  only true p here e = let same : p ≡ q = cc in subst (Edge from s) same (here refl)
  only false p here e = absurd cc

  any_edge : (state : State) (l d : ℕ) (bs : List Bracket) → ((b : Bracket) → Edge from (opening b) (position state l d (b ∷ bs))) → (is_bracket s ≡ false → Edge from s (position state l d bs)) → any_token (position state l d bs) s ≡ Some q → Edge from s q
  any_edge state l d bs opens other e =
      either (is_mark left_round s) (position state l d (Round ∷ bs)) _ (by_mark from (position state l d (Round ∷ bs)) left_round (opens Round) s)
      (λ _ f. either (is_mark left_square s) (position state l d (Square ∷ bs)) _ (by_mark from (position state l d (Square ∷ bs)) left_square (opens Square) s)
      (λ _ g. only (not (is_bracket s)) (position state l d bs) (λ h. other (negated (is_bracket s) h)) g) f) e

  within_edge : (state : State) (l d : ℕ) (b : Bracket) (bs : List Bracket) → Edge from (Punct (closing b)) (position state l d bs) → ((c : Bracket) → Edge from (opening c) (position state l d (c ∷ (b ∷ bs)))) → (is_bracket s ≡ false → Edge from s (position state l d (b ∷ bs)))
      → within b bs (position state l d (b ∷ bs)) s ≡ Some q → Edge from s q
  within_edge state l d b bs closes opens other e =
      either (is_mark (closing b) s) (position state l d bs) _ (by_mark from (position state l d bs) (closing b) closes s) (λ _ f. any_edge state l d (b ∷ bs) opens other f) e

  begin_edge : (l : ℕ) (bs : List Bracket) → ((text : List ℕ) → Edge from (Lower text) (position WordRead l 0 bs)) → ((text : List ℕ) → Edge from (Quoted text) (position WordRead l 0 bs)) → Edge from (Dollar (codes "$true")) (position TermRead l 0 bs) → Edge from (Dollar (codes "$false")) (position TermRead l 0 bs)
      → or_else (is_word s) (position WordRead l 0 bs) (when (is_defined (codes "$true") s || is_defined (codes "$false") s) (position TermRead l 0 bs)) ≡ Some q → Edge from s q
  begin_edge l bs bare quoted truth falsity e =
      either (is_word s) (position WordRead l 0 bs) _ (by_word from (position WordRead l 0 bs) bare quoted s)
      (λ _ f. only (is_defined (codes "$true") s || is_defined (codes "$false") s) (position TermRead l 0 bs) (by_constant from (position TermRead l 0 bs) truth falsity s) f) e

  two_marks : (first second : ℕ) (p r : Position) → Edge from (Punct first) p → Edge from (Punct second) r → or_else (is_mark first s) p (when (is_mark second s) r) ≡ Some q → Edge from s q
  two_marks first second p r one two e = either (is_mark first s) p _ (by_mark from p first one s) (λ _ f. only (is_mark second s) r (by_mark from r second two s) f) e

  one_mark : (byte : ℕ) (p : Position) → Edge from (Punct byte) p → when (is_mark byte s) p ≡ Some q → Edge from s q
  one_mark byte p one e = only (is_mark byte s) p (by_mark from p byte one s) e

  source_edge : (test : Bool) → is_mark comma s ≡ test → (l d : ℕ) → ((b : Bracket) → Edge from (opening b) (position Source l d (b ∷ []))) → (is_bracket s ≡ false → is_mark comma s ≡ false → Edge from s (position Source l d [])) → cond test None (any_token (position Source l d []) s) ≡ Some q → Edge from s q
  source_edge true is l d opens other e = absurd cc
  source_edge false is l d opens other e = any_edge Source l d [] opens (λ h. other h is) e

-- where a token leads, it leads by an edge
pub edge_at : (state : State) (l d : ℕ) (bs : List Bracket) (s : Shape) (q : Position) → step_at state (position state l d bs) s ≡ Some q → Edge (position state l d bs) s q
edge_at Statement l d bs s q e =
    let p = position Statement l d bs in
    either p s q (is_keyword (codes "cnf") s) (position ClauseWord l d bs) _ (by_keyword p (position ClauseWord l d bs) (codes "cnf") (clause_begins l d bs) s)
    (λ _ f. only p s q (is_keyword (codes "include") s) (position IncludeWord l d bs) (by_keyword p (position IncludeWord l d bs) (codes "include") (include_begins l d bs) s) f) e
edge_at ClauseWord l d bs s q e = one_mark _ s q left_round (position NameStart l d bs) (clause_opens l d bs) e
edge_at NameStart l d bs s q e = only _ s q (is_name s) (position NameRead l d bs) (by_name (position NameStart l d bs) (position NameRead l d bs) (named_bare l d bs) (named_quoted l d bs) (named_number l d bs) s) e
edge_at NameRead l d bs s q e = one_mark _ s q comma (position RoleStart l d bs) (role_comes l d bs) e
edge_at RoleStart l d bs s q e = only _ s q (is_lower s) (position RoleRead l d bs) (by_lower (position RoleStart l d bs) (position RoleRead l d bs) (role_read l d bs) s) e
edge_at RoleRead l d bs s q e = one_mark _ s q comma (position FormulaStart 0 d bs) (formula_comes l d bs) e
edge_at FormulaStart l d bs s q e =
    let p = position FormulaStart l d bs in
    either p s q (is_mark left_round s) (position FormulaStart (suc l) d bs) _ (by_mark p (position FormulaStart (suc l) d bs) left_round (formula_opens l d bs) s)
    (λ _ f. either p s q (is_mark tilde s) (position AtomStart l d bs) _ (by_mark p (position AtomStart l d bs) tilde (first_negated l d bs) s)
    (λ _ g. begin_edge p s q l bs (first_bare l d bs) (first_quoted l d bs) (first_truth l d bs) (first_falsity l d bs) g) f) e
edge_at LiteralStart l d bs s q e =
    let p = position LiteralStart l d bs in
    either p s q (is_mark tilde s) (position AtomStart l d bs) _ (by_mark p (position AtomStart l d bs) tilde (next_negated l d bs) s)
    (λ _ g. begin_edge p s q l bs (next_bare l d bs) (next_quoted l d bs) (next_truth l d bs) (next_falsity l d bs) g) e
edge_at AtomStart l d bs s q e = begin_edge (position AtomStart l d bs) s q l bs (atom_bare l d bs) (atom_quoted l d bs) (atom_truth l d bs) (atom_falsity l d bs) e
edge_at WordRead l (suc d) bs s q e =
    let p = position WordRead l (suc d) bs in
    either p s q (is_mark left_round s) (position TermStart l (suc (suc d)) bs) _ (by_mark p (position TermStart l (suc (suc d)) bs) left_round (arguments_open l (suc d) bs) s)
    (λ _ f. two_marks p s q comma right_round (position TermStart l (suc d) bs) (position TermRead l d bs) (word_comma l d bs) (word_closes l d bs) f) e
edge_at WordRead zero zero bs s q e =
    let p = position WordRead 0 0 bs in
    either p s q (is_mark left_round s) (position TermStart 0 1 bs) _ (by_mark p (position TermStart 0 1 bs) left_round (arguments_open 0 0 bs) s)
    (λ _ f. either p s q (is_mark bar s) (position LiteralStart 0 0 bs) _ (by_mark p (position LiteralStart 0 0 bs) bar (word_bar 0 bs) s)
    (λ _ g. two_marks p s q comma right_round (position SourceStart 0 0 bs) (position ClauseClosed 0 0 bs) (word_notes bs) (word_ends bs) g) f) e
edge_at WordRead (suc l) zero bs s q e =
    let p = position WordRead (suc l) 0 bs in
    either p s q (is_mark left_round s) (position TermStart (suc l) 1 bs) _ (by_mark p (position TermStart (suc l) 1 bs) left_round (arguments_open (suc l) 0 bs) s)
    (λ _ f. either p s q (is_mark bar s) (position LiteralStart (suc l) 0 bs) _ (by_mark p (position LiteralStart (suc l) 0 bs) bar (word_bar (suc l) bs) s)
    (λ _ g. one_mark p s q right_round (position FormulaClosed l 0 bs) (word_formula l bs) g) f) e
edge_at TermStart l d bs s q e =
    let p = position TermStart l d bs in
    either p s q (is_simple_term s) (position TermRead l d bs) _ (by_term p (position TermRead l d bs) (term_variable l d bs) (term_number l d bs) (term_distinct l d bs) s)
    (λ _ f. only p s q (is_word s) (position WordRead l d bs) (by_word p (position WordRead l d bs) (term_bare l d bs) (term_quoted l d bs) s) f) e
edge_at TermRead l (suc d) bs s q e = two_marks _ s q comma right_round (position TermStart l (suc d) bs) (position TermRead l d bs) (term_comma l d bs) (term_closes l d bs) e
edge_at TermRead zero zero bs s q e =
    let p = position TermRead 0 0 bs in
    either p s q (is_mark bar s) (position LiteralStart 0 0 bs) _ (by_mark p (position LiteralStart 0 0 bs) bar (term_bar 0 bs) s)
    (λ _ g. two_marks p s q comma right_round (position SourceStart 0 0 bs) (position ClauseClosed 0 0 bs) (term_notes bs) (term_ends bs) g) e
edge_at TermRead (suc l) zero bs s q e =
    let p = position TermRead (suc l) 0 bs in
    either p s q (is_mark bar s) (position LiteralStart (suc l) 0 bs) _ (by_mark p (position LiteralStart (suc l) 0 bs) bar (term_bar (suc l) bs) s)
    (λ _ g. one_mark p s q right_round (position FormulaClosed l 0 bs) (term_formula l bs) g) e
edge_at FormulaClosed zero d bs s q e = two_marks _ s q comma right_round (position SourceStart 0 d bs) (position ClauseClosed 0 d bs) (formula_notes d bs) (formula_ends d bs) e
edge_at FormulaClosed (suc l) d bs s q e = one_mark _ s q right_round (position FormulaClosed l d bs) (formula_closes l d bs) e
edge_at SourceStart l d bs s q e = source_edge _ s q (is_mark comma s) refl l d (source_opens l d bs) (source_begins l d bs s) e
edge_at Source l d [] s q e =
    let p = position Source l d [] in
    either p s q (is_mark comma s) (position InfoStart l d []) _ (by_mark p (position InfoStart l d []) comma (source_comma l d) s)
    (λ apart f. either p s q (is_mark right_round s) (position ClauseClosed l d []) _ (by_mark p (position ClauseClosed l d []) right_round (source_ends l d) s)
    (λ _ g. any_edge p s q Source l d [] (source_inner l d []) (λ plain. source_token l d s plain apart) g) f) e
edge_at Source l d (b ∷ bs) s q e = within_edge _ s q Source l d b bs (source_closes l d bs b) (source_inner l d (b ∷ bs)) (source_within l d b bs s) e
edge_at InfoStart l d bs s q e = one_mark _ s q left_square (position Info l d []) (info_opens l d bs) e
edge_at Info l d [] s q e =
    let p = position Info l d [] in
    either p s q (is_mark right_square s) (position InfoClosed l d []) _ (by_mark p (position InfoClosed l d []) right_square (info_ends l d) s)
    (λ _ g. any_edge p s q Info l d [] (info_inner l d []) (info_token l d [] s) g) e
edge_at Info l d (b ∷ bs) s q e = within_edge _ s q Info l d b bs (info_closes l d bs b) (info_inner l d (b ∷ bs)) (info_token l d (b ∷ bs) s) e
edge_at InfoClosed l d bs s q e = one_mark _ s q right_round (position ClauseClosed l d bs) (notes_end l d bs) e
edge_at ClauseClosed l d bs s q e = one_mark _ s q dot start (clause_ends l d bs) e
edge_at IncludeWord l d bs s q e = one_mark _ s q left_round (position FileStart l d bs) (include_opens l d bs) e
edge_at FileStart l d bs s q e = only _ s q (is_file_name s) (position FileRead l d bs) (by_file (position FileStart l d bs) (position FileRead l d bs) (file_bare l d bs) (file_quoted l d bs) s) e
edge_at FileRead l d bs s q e = two_marks _ s q comma right_round (position SelectionStart l d bs) (position IncludeClosed l d bs) (file_selects l d bs) (file_ends l d bs) e
edge_at SelectionStart l d bs s q e = one_mark _ s q left_square (position SelectionOpen l d bs) (selection_opens l d bs) e
edge_at SelectionOpen l d bs s q e =
    let p = position SelectionOpen l d bs in
    either p s q (is_name s) (position SelectedRead l d bs) _ (first_selected l d bs s) (λ _ f. one_mark p s q right_square (position SelectionClosed l d bs) (none_selected l d bs) f) e
edge_at SelectedStart l d bs s q e = only _ s q (is_name s) (position SelectedRead l d bs) (next_selected l d bs s) e
edge_at SelectedRead l d bs s q e = two_marks _ s q comma right_square (position SelectedStart l d bs) (position SelectionClosed l d bs) (selected_comma l d bs) (selection_ends l d bs) e
edge_at SelectionClosed l d bs s q e = one_mark _ s q right_round (position IncludeClosed l d bs) (selection_behind l d bs) e
edge_at IncludeClosed l d bs s q e = one_mark _ s q dot start (include_ends l d bs) e

pub edge : (p : Position) (s : Shape) (q : Position) → step p s ≡ Some q → Edge p s q
edge p s q e = edge_at p.state p.level p.depth p.brackets s q e
