-- What leads along the table from a position to an end, trees at that position spell.
use Rattle.cnf_grammar.proofs.Common.{is_end, is_end_state, run_from, subst, Word, Atom, bare_word, quoted_word, word_name, number_name, variable, number, distinct, positive, bare_file, quoted_file, opening, spell_atom, ◌≡◌, ℕ, zero, suc, Bool, true, false, cond, not, ◌||◌, ◌⊎◌, inl, inr, List, [], ◌∷◌, ◌++◌, Option, Some, None, codes, refl, sym, ◌∙◌, ap, append_assoc, Bracket, Round, Square, State, Statement, ClauseWord, NameStart, NameRead, RoleStart, RoleRead, FormulaStart, LiteralStart, AtomStart, WordRead, TermStart, TermRead, FormulaClosed, SourceStart, Source, InfoStart, Info, InfoClosed, ClauseClosed, IncludeWord, FileStart, FileRead, SelectionStart, SelectionOpen, SelectedStart, SelectedRead, SelectionClosed, IncludeClosed, Position, Shape, Lower, Dollar, Punct, left_round, right_round, left_square, right_square, comma, dot, bar, tilde, is_mark, is_bracket, is_keyword, is_defined, is_lower, is_word, is_name, is_simple_term, is_file_name, no_arguments, no_terms, truth, falsity, no_tokens, single, no_annotations, every_clause, clause, include, word_token, name_token, file_token, closing, spell_formula, spell_part, spell_annotations, spell_selection, spell, IsFile, or_else, when, to, start, step, step_at, between, atom_start, literal_start, formula_start, after_formula, after_literal, after_term, after_word, term_start, any_token, within, in_source, in_info, after_file, selection_open, after_selected}
use Rattle.cnf_grammar.proofs.Accepting.{mark_is, name_is}
use Rattle.cnf_grammar.proofs.Edges as edges
use Rattle.cnf_grammar.proofs.Edges.{Edge, edge}
use Rattle.cnf_grammar.proofs.Rests.{Next, next, one, Then, so, Inside, ClauseEnds, AfterSource, SourceParts, SourceStarts, InfoStarts, InfoItems, InfoParts, AfterFormula, FormulaStarts, AfterLiteral, LiteralStarts, AtomStarts, AfterTerm, AfterWord, TermStarts, NameStarts, SelectedStarts, ListStarts, AfterFile, FileStarts, rest_at, RestFrom}
use Rattle.cnf_grammar.proofs.Spelled.{at_token, formula_in_brackets, formula_of_literals, literal_negated, literal_of_atom, atom_of_word, literal_more, term_of_word, term_more, arguments_open, notes_open, info_follows, source_begun, info_open, item_more, selection_follows, name_listed, name_more, parts_more, part_group, inner_token, group_begun}

file_of_clause : (tokens : List Shape) → Next left_round (NameStarts IsFile) tokens → IsFile (Lower (codes "cnf") ∷ tokens)
file_of_clause _ (next (one name (next (one role (next (so formula (so notes (next (next {rest} (file, same)))))))))) = (
  clause name role formula notes ∷ file,
  ap (λ u. Lower (codes "cnf") ∷ (Punct left_round ∷ (name_token name ∷ (Punct comma ∷ (Lower role ∷ (Punct comma ∷ u))))))
      (append_assoc (spell_formula formula) (spell_annotations notes ++ Punct right_round ∷ (Punct dot ∷ [])) (spell file)
      ∙ ap (λ u. spell_formula formula ++ u) (append_assoc (spell_annotations notes) (Punct right_round ∷ (Punct dot ∷ [])) (spell file)
      ∙ ap (λ u. spell_annotations notes ++ Punct right_round ∷ (Punct dot ∷ u)) same)),
)

file_of_include : (tokens : List Shape) → Next left_round (FileStarts IsFile) tokens → IsFile (Lower (codes "include") ∷ tokens)
file_of_include _ (next (one name (so selection (next (next {rest} (file, same)))))) = (
  include name selection ∷ file,
  ap (λ u. Lower (codes "include") ∷ (Punct left_round ∷ (file_token name ∷ u)))
      (append_assoc (spell_selection selection) (Punct right_round ∷ (Punct dot ∷ [])) (spell file)
      ∙ ap (λ u. spell_selection selection ++ Punct right_round ∷ (Punct dot ∷ u)) same),
)

-- literals and formulas that begin with a word or a constant
atom_with : (level : ℕ) (word : Word) (tokens : List Shape) → AfterWord IsFile level 0 tokens → LiteralStarts IsFile level (word_token word ∷ tokens)
atom_with level word tokens k = literal_of_atom IsFile level (word_token word ∷ tokens) (atom_of_word IsFile level word tokens k)

constant_with : (level : ℕ) (atom : Atom) (tokens : List Shape) → AfterLiteral IsFile level tokens → LiteralStarts IsFile level (spell_atom atom ++ tokens)
constant_with level atom tokens k = so (positive atom) k

-- a token of an info
info_more : (s : Shape) (brackets : List Bracket) (tokens : List Shape) → is_bracket s ≡ false → Inside brackets (InfoParts IsFile) tokens → Inside brackets (InfoParts IsFile) (s ∷ tokens)
info_more s [] tokens plain k = by (is_mark comma s) refl
  where
    by : (is : Bool) → is_mark comma s ≡ is → InfoParts IsFile (s ∷ tokens)
    by true is = at_token (InfoParts IsFile) s (Punct comma) tokens (mark_is comma s is) (item_more IsFile tokens k)
    by false apart = parts_more (InfoItems IsFile) (s ∷ tokens) (so (single s plain apart) k)
info_more s (bracket ∷ outer) tokens plain k = inner_token (InfoParts IsFile) s plain bracket outer tokens k

-- what the trees behind a token spell, with the token trees spell before it
moved : (p : Position) (s : Shape) (q : Position) → Edge p s q → (tokens : List Shape) → RestFrom IsFile (Some q) tokens → RestFrom IsFile (Some p) (s ∷ tokens)
moved _ _ _ (edges.clause_begins l d bs) tokens k = file_of_clause tokens k
moved _ _ _ (edges.include_begins l d bs) tokens k = file_of_include tokens k
moved _ _ _ (edges.named_bare l d bs text) tokens k = one (word_name (bare_word text)) k
moved _ _ _ (edges.named_quoted l d bs text) tokens k = one (word_name (quoted_word text)) k
moved _ _ _ (edges.named_number l d bs text) tokens k = one (number_name text) k
moved _ _ _ (edges.role_read l d bs text) tokens k = one text k
moved _ _ _ (edges.formula_opens l d bs) tokens k = formula_in_brackets IsFile l tokens k
moved _ _ _ (edges.first_negated l d bs) tokens k = formula_of_literals IsFile l _ (literal_negated IsFile l tokens k)
moved _ _ _ (edges.first_bare l d bs text) tokens k = formula_of_literals IsFile l _ (atom_with l (bare_word text) tokens k)
moved _ _ _ (edges.first_quoted l d bs text) tokens k = formula_of_literals IsFile l _ (atom_with l (quoted_word text) tokens k)
moved _ _ _ (edges.first_truth l d bs) tokens k = formula_of_literals IsFile l _ (constant_with l truth tokens k)
moved _ _ _ (edges.first_falsity l d bs) tokens k = formula_of_literals IsFile l _ (constant_with l falsity tokens k)
moved _ _ _ (edges.next_negated l d bs) tokens k = literal_negated IsFile l tokens k
moved _ _ _ (edges.next_bare l d bs text) tokens k = atom_with l (bare_word text) tokens k
moved _ _ _ (edges.next_quoted l d bs text) tokens k = atom_with l (quoted_word text) tokens k
moved _ _ _ (edges.next_truth l d bs) tokens k = constant_with l truth tokens k
moved _ _ _ (edges.next_falsity l d bs) tokens k = constant_with l falsity tokens k
moved _ _ _ (edges.atom_bare l d bs text) tokens k = atom_of_word IsFile l (bare_word text) tokens k
moved _ _ _ (edges.atom_quoted l d bs text) tokens k = atom_of_word IsFile l (quoted_word text) tokens k
moved _ _ _ (edges.atom_truth l d bs) tokens k = so truth k
moved _ _ _ (edges.atom_falsity l d bs) tokens k = so falsity k
moved _ _ _ (edges.arguments_open l d bs) tokens k = arguments_open IsFile l d tokens k
moved _ _ _ (edges.word_comma l d bs) tokens k = so no_arguments (term_more IsFile l d tokens k)
moved _ _ _ (edges.word_closes l d bs) tokens k = so no_arguments (so no_terms (next k))
moved _ _ _ (edges.word_bar l bs) tokens k = so no_arguments (literal_more IsFile l tokens k)
moved _ _ _ (edges.word_notes bs) tokens k = so no_arguments (so [] (notes_open IsFile tokens k))
moved _ _ _ (edges.word_ends bs) tokens k = so no_arguments (so [] (so no_annotations (next k)))
moved _ _ _ (edges.word_formula l bs) tokens k = so no_arguments (so [] (next k))
moved _ _ _ (edges.term_variable l d bs text) tokens k = so (variable text) k
moved _ _ _ (edges.term_number l d bs text) tokens k = so (number text) k
moved _ _ _ (edges.term_distinct l d bs text) tokens k = so (distinct text) k
moved _ _ _ (edges.term_bare l d bs text) tokens k = term_of_word IsFile l d (bare_word text) tokens k
moved _ _ _ (edges.term_quoted l d bs text) tokens k = term_of_word IsFile l d (quoted_word text) tokens k
moved _ _ _ (edges.term_comma l d bs) tokens k = term_more IsFile l d tokens k
moved _ _ _ (edges.term_closes l d bs) tokens k = so no_terms (next k)
moved _ _ _ (edges.term_bar l bs) tokens k = literal_more IsFile l tokens k
moved _ _ _ (edges.term_notes bs) tokens k = so [] (notes_open IsFile tokens k)
moved _ _ _ (edges.term_ends bs) tokens k = so [] (so no_annotations (next k))
moved _ _ _ (edges.term_formula l bs) tokens k = so [] (next k)
moved _ _ _ (edges.formula_notes d bs) tokens k = notes_open IsFile tokens k
moved _ _ _ (edges.formula_ends d bs) tokens k = so no_annotations (next k)
moved _ _ _ (edges.source_opens l d bs b) tokens k = source_begun IsFile (opening b ∷ tokens) (part_group (SourceParts IsFile) b tokens k)
moved _ _ _ (edges.source_begins l d bs s plain apart) tokens k = source_begun IsFile (s ∷ tokens) (so (single s plain apart) k)
moved _ _ _ (edges.source_inner l d bs b) tokens k = group_begun (AfterSource IsFile) b bs tokens k
moved _ _ _ (edges.source_token l d s plain apart) tokens k = parts_more (AfterSource IsFile) (s ∷ tokens) (so (single s plain apart) k)
moved _ _ _ (edges.source_within l d b bs s plain) tokens k = inner_token (SourceParts IsFile) s plain b bs tokens k
moved _ _ _ (edges.source_closes l d bs b) tokens k = so no_tokens (next k)
moved _ _ _ (edges.source_comma l d) tokens k = so [] (info_follows IsFile tokens k)
moved _ _ _ (edges.source_ends l d) tokens k = so [] (so None (next k))
moved _ _ _ (edges.info_opens l d bs) tokens k = info_open IsFile tokens k
moved _ _ _ (edges.info_inner l d bs b) tokens k = group_begun (InfoItems IsFile) b bs tokens k
moved _ _ _ (edges.info_token l d bs s plain) tokens k = info_more s bs tokens plain k
moved _ _ _ (edges.info_closes l d bs b) tokens k = so no_tokens (next k)
moved _ _ _ (edges.info_ends l d) tokens k = so [] (so [] (next k))
moved _ _ _ (edges.file_bare l d bs text) tokens k = one (bare_file text) k
moved _ _ _ (edges.file_quoted l d bs text full) tokens k = one (quoted_file text full) k
moved _ _ _ (edges.file_selects l d bs) tokens k = selection_follows IsFile tokens k
moved _ _ _ (edges.file_ends l d bs) tokens k = so every_clause (next k)
moved _ _ _ (edges.first_selected l d bs s is) tokens k = let name = name_is s is in at_token (ListStarts IsFile) s (name_token name.0) tokens name.1 (name_listed IsFile name.0 tokens k)
moved _ _ _ (edges.none_selected l d bs) tokens k = so [] (next k)
moved _ _ _ (edges.next_selected l d bs s is) tokens k = let name = name_is s is in at_token (SelectedStarts IsFile) s (name_token name.0) tokens name.1 (one name.0 k)
moved _ _ _ (edges.selected_comma l d bs) tokens k = name_more IsFile tokens k
moved _ _ _ (edges.selection_ends l d bs) tokens k = so [] (next k)
moved _ _ _ _ tokens k = next k

-- an end is between statements
ended : (p : Position) → is_end p ≡ true → RestFrom IsFile (Some p) []
ended p end = by p.state end
  where
    by : (state : State) → is_end_state state ≡ true → rest_at IsFile state p.level p.depth p.brackets []
    by Statement is = ([], refl)
    by state is = cc

-- what leads from a position to an end, trees at that position spell
pub rest_spelled : (o : Option Position) (tokens : List Shape) (q : Position) → run_from o tokens ≡ Some q → is_end q ≡ true → RestFrom IsFile o tokens
rest_spelled None tokens q e end = cc
rest_spelled (Some p) [] q e end = let same : p ≡ q = cc in ended p (subst (λ x. is_end x ≡ true) (sym same) end)
rest_spelled (Some p) (s ∷ tokens) q e end = by (step p s) refl (rest_spelled (step p s) tokens q e end)
  where
    by : (o : Option Position) → step p s ≡ o → RestFrom IsFile o tokens → RestFrom IsFile (Some p) (s ∷ tokens)
    by None e k = absurd k
    by (Some q) e k = moved p s q (edge p s q e) tokens k
