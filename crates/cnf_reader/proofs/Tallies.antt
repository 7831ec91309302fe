-- What the tokens of a statement under way tell of it, token by token: its head, its bars, its variables, and its open brackets.
use Rattle.std.proofs.Common.{◌≡◌, ℕ, zero, suc, ◌+◌, Bool, true, false, cond, List, [], ◌∷◌, ◌++◌, length, filter_map, count_by, codes, refl, sym, ap, ◌∙◌, arith, append-nil}
use Rattle.std.proofs.lemmas.List.{length-append}
use Rattle.std.proofs.lemmas.List.Sums.{sum_by-append}
use Rattle.cnf_grammar.specs.declared.state.State.{State}
use Rattle.cnf_grammar.specs.declared.state.State.TheVariants.{Statement, ClauseWord, NameStart, NameRead, RoleStart, RoleRead, FormulaStart, LiteralStart, AtomStart, WordRead, TermStart, TermRead, IncludeWord}
use Rattle.cnf_grammar.specs.declared.position.Position.{Position}
use Rattle.cnf_grammar.specs.Shapes.{Shape, Lower, Quoted, Number, Punct, left_round, right_round, comma, bar, is_mark}
use Rattle.cnf_grammar.specs.Spelling.{name_token}
use Rattle.cnf_grammar.specs.Trees.{Name, word_name, number_name, bare_word, quoted_word}
use Rattle.cnf_grammar.specs.Meaning.{Item, symbol_item, variable_item, ClauseLiteral, each_once}
use Rattle.cnf_grammar.specs.Draft.{Draft, with_variable, add_argument, next_argument_of, close_words, push_constant, finish_atom, collect_at}
use Rattle.cnf_grammar.proofs.Edges as edges
use Rattle.cnf_grammar.proofs.Edges.{Edge}
use Rattle.cnf_grammar.proofs.Variables.{with_variables-append, once_is}
use Rattle.cnf_reader.specs.Limits.{begun}
use Rattle.cnf_reader.specs.Meanings.{ends_statement}
use Rattle.cnf_reader.specs.Rows.{clause_front, count_marks, variable_text, variables_in}

-- one more token
pub count_more : (byte : ℕ) (own : List Shape) (s : Shape) → count_marks byte (own ++ s ∷ []) ≡ count_marks byte own + cond (is_mark byte s) 1 0
count_more byte own s = let e = sum_by-append (λ t. cond (is_mark byte t) 1 0) own (s ∷ []) in omega (arith, e)

-- the tokens up to a clause's role, and the first of an include
abbrev pub Headed : State → List Shape → Type 0
Headed Statement own = own ≡ []
Headed ClauseWord own = own ≡ Lower (codes "cnf") ∷ []
Headed NameStart own = own ≡ clause_front
Headed NameRead own = (name : Name) × (own ≡ clause_front ++ (name_token name ∷ []))
Headed RoleStart own = (name : Name) × (own ≡ clause_front ++ (name_token name ∷ (Punct comma ∷ [])))
Headed _ own = Unit {0}

pub headed_on : (p : Position) (s : Shape) (q : Position) → Edge p s q → ends_statement p.state ≡ false → (own : List Shape) → Headed p.state own → Headed q.state (own ++ s ∷ [])
headed_on _ _ _ (edges.clause_begins l d bs) goes own h = ap (λ u. u ++ Lower (codes "cnf") ∷ []) h
headed_on _ _ _ (edges.clause_opens l d bs) goes own h = ap (λ u. u ++ Punct left_round ∷ []) h
headed_on _ _ _ (edges.named_bare l d bs text) goes own h = (word_name (bare_word text), ap (λ u. u ++ Lower text ∷ []) h)
headed_on _ _ _ (edges.named_quoted l d bs text) goes own h = (word_name (quoted_word text), ap (λ u. u ++ Quoted text ∷ []) h)
headed_on _ _ _ (edges.named_number l d bs text) goes own h = (number_name text, ap (λ u. u ++ Number text true ∷ []) h)
headed_on _ _ _ (edges.role_comes l d bs) goes own h = (h.0, ap (λ u. u ++ Punct comma ∷ []) h.1)
headed_on _ _ _ (edges.clause_ends l d bs) goes own h = absurd cc
headed_on _ _ _ (edges.include_ends l d bs) goes own h = absurd cc
headed_on _ _ _ _ goes own h = tt

-- no literal was read, and no bar
abbrev pub NoLiteral : Draft → ℕ → Type 0
NoLiteral draft bars = (draft.atom ≡ []) × (length draft.literals ≡ 0) × (bars ≡ 0)

-- a literal was read before each bar, and none is under way
abbrev pub LiteralComes : Draft → ℕ → Type 0
LiteralComes draft bars = (draft.atom ≡ []) × (length draft.literals ≡ bars)

-- the same, and one is under way
abbrev pub LiteralGoesOn : Draft → ℕ → Type 0
LiteralGoesOn draft bars = (begun draft.atom ≡ 1) × (length draft.literals ≡ bars)

-- behind a term with so many brackets of arguments open round it, or behind an atom
abbrev pub TermBehind : ℕ → Draft → ℕ → Type 0
TermBehind zero draft bars = length draft.literals + begun draft.atom ≡ suc bars
TermBehind (suc depth) draft bars = LiteralGoesOn draft bars

-- how many bars go with the literals of the draft
abbrev pub Barred : State → ℕ → Draft → ℕ → Type 0
Barred Statement depth draft bars = NoLiteral draft bars
Barred ClauseWord depth draft bars = NoLiteral draft bars
Barred NameStart depth draft bars = NoLiteral draft bars
Barred NameRead depth draft bars = NoLiteral draft bars
Barred RoleStart depth draft bars = NoLiteral draft bars
Barred RoleRead depth draft bars = NoLiteral draft bars
Barred FormulaStart depth draft bars = NoLiteral draft bars
Barred LiteralStart depth draft bars = LiteralComes draft bars
Barred AtomStart depth draft bars = LiteralComes draft bars
Barred WordRead depth draft bars = LiteralGoesOn draft bars
Barred TermStart depth draft bars = LiteralGoesOn draft bars
Barred TermRead depth draft bars = TermBehind depth draft bars
Barred _ depth draft bars = Unit {0}

begun_push : (a : List Item) (x : Item) → begun (a ++ x ∷ []) ≡ 1
begun_push [] x = refl
begun_push (y ∷ a) x = refl

begun_argument : (k : ℕ) (a : List Item) → begun (add_argument k a) ≡ begun a
begun_argument k [] = refl
begun_argument zero (symbol_item symbol ∷ a) = refl
begun_argument zero (variable_item index ∷ a) = refl
begun_argument (suc k) (x ∷ a) = refl

-- a further argument of these words, and the end of the innermost
next_leaves : (words : List ℕ) (d : Draft) → (begun (next_argument_of words d).atom ≡ begun d.atom) × ((next_argument_of words d).literals ≡ d.literals) × ((next_argument_of words d).variables ≡ d.variables)
next_leaves [] d = (refl, refl, refl)
next_leaves (k ∷ outer) d = (begun_argument k d.atom, refl, refl)

close_leaves : (words : List ℕ) (d : Draft) → ((close_words words d).atom ≡ d.atom) × ((close_words words d).literals ≡ d.literals) × ((close_words words d).variables ≡ d.variables)
close_leaves [] d = (refl, refl, refl)
close_leaves (k ∷ outer) d = (refl, refl, refl)

finish_leaves : (atom : List Item) (d : Draft) → d.atom ≡ atom → ((finish_atom atom d).atom ≡ []) × (length (finish_atom atom d).literals ≡ length d.literals + begun atom) × ((finish_atom atom d).variables ≡ d.variables)
finish_leaves [] d is = (is, omega arith, refl)
finish_leaves (x ∷ atom) d is = (refl, omega (arith, length-append {A = ClauseLiteral}), refl)

goes_on : (d : Draft) (bars : ℕ) → LiteralGoesOn d bars → LiteralGoesOn d (bars + 0)
goes_on d bars h = (h.0, omega (arith, h.1))

next_goes : (d : Draft) (bars : ℕ) → LiteralGoesOn d bars → LiteralGoesOn (next_argument_of d.open_words d) (bars + 0)
next_goes d bars h =
    let k = next_leaves d.open_words d in
    let same : length (next_argument_of d.open_words d).literals ≡ length d.literals = ap length k.1 in
    (k.0 ∙ h.0, omega (arith, same, h.1))

behind_term : (depth : ℕ) (d : Draft) (bars : ℕ) → LiteralGoesOn d bars → TermBehind depth d bars
behind_term zero d bars h = omega (arith, h.0, h.1)
behind_term (suc depth) d bars h = h

close_goes : (depth : ℕ) (d : Draft) (bars : ℕ) → LiteralGoesOn d bars → TermBehind depth (close_words d.open_words d) (bars + 0)
close_goes depth d bars h =
    let k = close_leaves d.open_words d in
    let same : length (close_words d.open_words d).literals ≡ length d.literals = ap length k.1 in
    behind_term depth (close_words d.open_words d) (bars + 0) (ap begun k.0 ∙ h.0, omega (arith, same, h.1))

term_goes : (depth : ℕ) (d e : Draft) (x : Item) (bars : ℕ) → e.atom ≡ d.atom ++ x ∷ [] → e.literals ≡ d.literals → LiteralGoesOn d bars → TermBehind depth e (bars + 0)
term_goes depth d e x bars atom literals h =
    let same : length e.literals ≡ length d.literals = ap length literals in
    behind_term depth e (bars + 0) (ap begun atom ∙ begun_push d.atom x, omega (arith, same, h.1))

finish_goes : (d : Draft) (bars : ℕ) → length d.literals + begun d.atom ≡ suc bars → LiteralComes (finish_atom d.atom d) (bars + 1)
finish_goes d bars h = let k = finish_leaves d.atom d refl in (k.0, omega (arith, k.1, h))

constant_goes : (d : Draft) (truth : Bool) (bars : ℕ) → d.atom ≡ [] → length d.literals ≡ bars → TermBehind 0 (push_constant truth d) (bars + 0)
constant_goes d truth bars none count = let empty : begun d.atom ≡ 0 = ap begun none in omega (arith, empty, count, length-append {A = ClauseLiteral})

pub barred_on : (p : Position) (s : Shape) (q : Position) → Edge p s q → ends_statement p.state ≡ false → (d : Draft) (bars : ℕ) → Barred p.state p.depth d bars → Barred q.state q.depth (collect_at p.state p.depth s d) (bars + cond (is_mark bar s) 1 0)
barred_on _ _ _ (edges.clause_begins l e bs) goes d bars h = (h.0, h.1, omega (arith, h.2))
barred_on _ _ _ (edges.clause_opens l e bs) goes d bars h = (h.0, h.1, omega (arith, h.2))
barred_on _ _ _ (edges.named_bare l e bs text) goes d bars h = (h.0, h.1, omega (arith, h.2))
barred_on _ _ _ (edges.named_quoted l e bs text) goes d bars h = (h.0, h.1, omega (arith, h.2))
barred_on _ _ _ (edges.named_number l e bs text) goes d bars h = (h.0, h.1, omega (arith, h.2))
barred_on _ _ _ (edges.role_comes l e bs) goes d bars h = (h.0, h.1, omega (arith, h.2))
barred_on _ _ _ (edges.role_read l e bs text) goes d bars h = (h.0, h.1, omega (arith, h.2))
barred_on _ _ _ (edges.formula_comes l e bs) goes d bars h = (h.0, h.1, omega (arith, h.2))
barred_on _ _ _ (edges.formula_opens l e bs) goes d bars h = (h.0, h.1, omega (arith, h.2))
barred_on _ _ _ (edges.first_negated l e bs) goes d bars h = (h.0, omega (arith, h.1, h.2))
barred_on _ _ _ (edges.first_bare l e bs text) goes d bars h = (begun_push d.atom _, omega (arith, h.1, h.2))
barred_on _ _ _ (edges.first_quoted l e bs text) goes d bars h = (begun_push d.atom _, omega (arith, h.1, h.2))
barred_on _ _ _ (edges.first_truth l e bs) goes d bars h = constant_goes d true bars h.0 (omega (arith, h.1, h.2))
barred_on _ _ _ (edges.first_falsity l e bs) goes d bars h = constant_goes d false bars h.0 (omega (arith, h.1, h.2))
barred_on _ _ _ (edges.next_negated l e bs) goes d bars h = (h.0, omega (arith, h.1))
barred_on _ _ _ (edges.next_bare l e bs text) goes d bars h = (begun_push d.atom _, omega (arith, h.1))
barred_on _ _ _ (edges.next_quoted l e bs text) goes d bars h = (begun_push d.atom _, omega (arith, h.1))
barred_on _ _ _ (edges.next_truth l e bs) goes d bars h = constant_goes d true bars h.0 h.1
barred_on _ _ _ (edges.next_falsity l e bs) goes d bars h = constant_goes d false bars h.0 h.1
barred_on _ _ _ (edges.atom_bare l e bs text) goes d bars h = (begun_push d.atom _, omega (arith, h.1))
barred_on _ _ _ (edges.atom_quoted l e bs text) goes d bars h = (begun_push d.atom _, omega (arith, h.1))
barred_on _ _ _ (edges.atom_truth l e bs) goes d bars h = constant_goes d true bars h.0 h.1
barred_on _ _ _ (edges.atom_falsity l e bs) goes d bars h = constant_goes d false bars h.0 h.1
barred_on _ _ _ (edges.arguments_open l e bs) goes d bars h = (begun_argument _ d.atom ∙ h.0, omega (arith, h.1))
barred_on _ _ _ (edges.word_comma l e bs) goes d bars h = next_goes d bars h
barred_on _ _ _ (edges.word_closes l e bs) goes d bars h = close_goes e d bars h
barred_on _ _ _ (edges.word_bar l bs) goes d bars h = finish_goes d bars (omega (arith, h.0, h.1))
barred_on _ _ _ (edges.term_variable l e bs text) goes d bars h = term_goes e d _ _ bars refl refl h
barred_on _ _ _ (edges.term_number l e bs text) goes d bars h = term_goes e d _ _ bars refl refl h
barred_on _ _ _ (edges.term_distinct l e bs text) goes d bars h = term_goes e d _ _ bars refl refl h
barred_on _ _ _ (edges.term_bare l e bs text) goes d bars h = (begun_push d.atom _, omega (arith, h.1))
barred_on _ _ _ (edges.term_quoted l e bs text) goes d bars h = (begun_push d.atom _, omega (arith, h.1))
barred_on _ _ _ (edges.term_comma l e bs) goes d bars h = next_goes d bars h
barred_on _ _ _ (edges.term_closes l e bs) goes d bars h = close_goes e d bars h
barred_on _ _ _ (edges.term_bar l bs) goes d bars h = finish_goes d bars h
barred_on _ _ _ (edges.clause_ends l e bs) goes d bars h = absurd cc
barred_on _ _ _ (edges.include_ends l e bs) goes d bars h = absurd cc
barred_on _ _ _ _ goes d bars h = tt

-- the variables of the draft are those of the tokens, each once
abbrev pub Varied : State → Draft → List (List ℕ) → Type 0
Varied Statement d texts = d.variables ≡ each_once texts
Varied ClauseWord d texts = d.variables ≡ each_once texts
Varied NameStart d texts = d.variables ≡ each_once texts
Varied NameRead d texts = d.variables ≡ each_once texts
Varied RoleStart d texts = d.variables ≡ each_once texts
Varied RoleRead d texts = d.variables ≡ each_once texts
Varied FormulaStart d texts = d.variables ≡ each_once texts
Varied LiteralStart d texts = d.variables ≡ each_once texts
Varied AtomStart d texts = d.variables ≡ each_once texts
Varied WordRead d texts = d.variables ≡ each_once texts
Varied TermStart d texts = d.variables ≡ each_once texts
Varied TermRead d texts = d.variables ≡ each_once texts
Varied _ d texts = Unit {0}

same : (variables texts : List (List ℕ)) → variables ≡ each_once texts → variables ≡ each_once (texts ++ [])
same variables texts h = h ∙ ap each_once (sym (append-nil texts))

one_more : (variables texts : List (List ℕ)) (text : List ℕ) → variables ≡ each_once texts → with_variable variables text ≡ each_once (texts ++ text ∷ [])
one_more variables texts text h =
    ap (λ v. with_variable v text) (h ∙ sym (once_is texts)) ∙ (sym (with_variables-append [] texts (text ∷ [])) ∙ once_is (texts ++ text ∷ []))

pub varied_on : (p : Position) (s : Shape) (q : Position) → Edge p s q → ends_statement p.state ≡ false → (d : Draft) (texts : List (List ℕ)) → Varied p.state d texts → Varied q.state (collect_at p.state p.depth s d) (texts ++ filter_map variable_text (s ∷ []))
varied_on _ _ _ (edges.clause_begins l e bs) goes d texts h = same d.variables texts h
varied_on _ _ _ (edges.clause_opens l e bs) goes d texts h = same d.variables texts h
varied_on _ _ _ (edges.named_bare l e bs text) goes d texts h = same d.variables texts h
varied_on _ _ _ (edges.named_quoted l e bs text) goes d texts h = same d.variables texts h
varied_on _ _ _ (edges.named_number l e bs text) goes d texts h = same d.variables texts h
varied_on _ _ _ (edges.role_comes l e bs) goes d texts h = same d.variables texts h
varied_on _ _ _ (edges.role_read l e bs text) goes d texts h = same d.variables texts h
varied_on _ _ _ (edges.formula_comes l e bs) goes d texts h = same d.variables texts h
varied_on _ _ _ (edges.formula_opens l e bs) goes d texts h = same d.variables texts h
varied_on _ _ _ (edges.first_negated l e bs) goes d texts h = same d.variables texts h
varied_on _ _ _ (edges.first_bare l e bs text) goes d texts h = same d.variables texts h
varied_on _ _ _ (edges.first_quoted l e bs text) goes d texts h = same d.variables texts h
varied_on _ _ _ (edges.first_truth l e bs) goes d texts h = same d.variables texts h
varied_on _ _ _ (edges.first_falsity l e bs) goes d texts h = same d.variables texts h
varied_on _ _ _ (edges.next_negated l e bs) goes d texts h = same d.variables texts h
varied_on _ _ _ (edges.next_bare l e bs text) goes d texts h = same d.variables texts h
varied_on _ _ _ (edges.next_quoted l e bs text) goes d texts h = same d.variables texts h
varied_on _ _ _ (edges.next_truth l e bs) goes d texts h = same d.variables texts h
varied_on _ _ _ (edges.next_falsity l e bs) goes d texts h = same d.variables texts h
varied_on _ _ _ (edges.atom_bare l e bs text) goes d texts h = same d.variables texts h
varied_on _ _ _ (edges.atom_quoted l e bs text) goes d texts h = same d.variables texts h
varied_on _ _ _ (edges.atom_truth l e bs) goes d texts h = same d.variables texts h
varied_on _ _ _ (edges.atom_falsity l e bs) goes d texts h = same d.variables texts h
varied_on _ _ _ (edges.arguments_open l e bs) goes d texts h = same d.variables texts h
varied_on _ _ _ (edges.word_comma l e bs) goes d texts h = same _ texts ((next_leaves d.open_words d).2 ∙ h)
varied_on _ _ _ (edges.word_closes l e bs) goes d texts h = same _ texts ((close_leaves d.open_words d).2 ∙ h)
varied_on _ _ _ (edges.word_bar l bs) goes d texts h = same _ texts ((finish_leaves d.atom d refl).2 ∙ h)
varied_on _ _ _ (edges.term_variable l e bs text) goes d texts h = one_more d.variables texts text h
varied_on _ _ _ (edges.term_number l e bs text) goes d texts h = same d.variables texts h
varied_on _ _ _ (edges.term_distinct l e bs text) goes d texts h = same d.variables texts h
varied_on _ _ _ (edges.term_bare l e bs text) goes d texts h = same d.variables texts h
varied_on _ _ _ (edges.term_quoted l e bs text) goes d texts h = same d.variables texts h
varied_on _ _ _ (edges.term_comma l e bs) goes d texts h = same _ texts ((next_leaves d.open_words d).2 ∙ h)
varied_on _ _ _ (edges.term_closes l e bs) goes d texts h = same _ texts ((close_leaves d.open_words d).2 ∙ h)
varied_on _ _ _ (edges.term_bar l bs) goes d texts h = same _ texts ((finish_leaves d.atom d refl).2 ∙ h)
varied_on _ _ _ (edges.clause_ends l e bs) goes d texts h = absurd cc
varied_on _ _ _ (edges.include_ends l e bs) goes d texts h = absurd cc
varied_on _ _ _ _ goes d texts h = tt

-- so many brackets of the formula and of arguments are open as the tokens opened and did not close, apart from that of the clause
abbrev pub Opened : State → ℕ → ℕ → ℕ → ℕ → Type 0
Opened Statement level depth left right = (depth ≡ 0) × (left ≡ 0) × (right ≡ 0)
Opened ClauseWord level depth left right = (depth ≡ 0) × (left ≡ 0) × (right ≡ 0)
Opened NameStart level depth left right = (depth ≡ 0) × (left ≡ right + 1)
Opened NameRead level depth left right = (depth ≡ 0) × (left ≡ right + 1)
Opened RoleStart level depth left right = (depth ≡ 0) × (left ≡ right + 1)
Opened RoleRead level depth left right = (depth ≡ 0) × (left ≡ right + 1)
Opened FormulaStart level depth left right = (depth ≡ 0) × (level + right + 1 ≡ left)
Opened LiteralStart level depth left right = (depth ≡ 0) × (level + right + 1 ≡ left)
Opened AtomStart level depth left right = (depth ≡ 0) × (level + right + 1 ≡ left)
Opened WordRead level depth left right = level + depth + right + 1 ≡ left
Opened TermStart level depth left right = level + depth + right + 1 ≡ left
Opened TermRead level depth left right = level + depth + right + 1 ≡ left
Opened IncludeWord level depth left right = left ≡ 0
Opened _ level depth left right = Unit {0}

pub opened_on : (p : Position) (s : Shape) (q : Position) → Edge p s q → ends_statement p.state ≡ false → (left right : ℕ) → Opened p.state p.level p.depth left right
    → Opened q.state q.level q.depth (left + cond (is_mark left_round s) 1 0) (right + cond (is_mark right_round s) 1 0)
opened_on _ _ _ (edges.clause_begins l d bs) goes left right h = (h.0, omega (arith, h.1), omega (arith, h.2))
opened_on _ _ _ (edges.include_begins l d bs) goes left right h = omega (arith, h.1)
opened_on _ _ _ (edges.clause_opens l d bs) goes left right h = (h.0, omega (arith, h.1, h.2))
opened_on _ _ _ (edges.named_bare l d bs text) goes left right h = (h.0, omega (arith, h.1))
opened_on _ _ _ (edges.named_quoted l d bs text) goes left right h = (h.0, omega (arith, h.1))
opened_on _ _ _ (edges.named_number l d bs text) goes left right h = (h.0, omega (arith, h.1))
opened_on _ _ _ (edges.role_comes l d bs) goes left right h = (h.0, omega (arith, h.1))
opened_on _ _ _ (edges.role_read l d bs text) goes left right h = (h.0, omega (arith, h.1))
opened_on _ _ _ (edges.formula_comes l d bs) goes left right h = (h.0, omega (arith, h.1))
opened_on _ _ _ (edges.formula_opens l d bs) goes left right h = (h.0, omega (arith, h.1))
opened_on _ _ _ (edges.first_negated l d bs) goes left right h = (h.0, omega (arith, h.1))
opened_on _ _ _ (edges.first_bare l d bs text) goes left right h = omega (arith, h.1)
opened_on _ _ _ (edges.first_quoted l d bs text) goes left right h = omega (arith, h.1)
opened_on _ _ _ (edges.first_truth l d bs) goes left right h = omega (arith, h.1)
opened_on _ _ _ (edges.first_falsity l d bs) goes left right h = omega (arith, h.1)
opened_on _ _ _ (edges.next_negated l d bs) goes left right h = (h.0, omega (arith, h.1))
opened_on _ _ _ (edges.next_bare l d bs text) goes left right h = omega (arith, h.1)
opened_on _ _ _ (edges.next_quoted l d bs text) goes left right h = omega (arith, h.1)
opened_on _ _ _ (edges.next_truth l d bs) goes left right h = omega (arith, h.1)
opened_on _ _ _ (edges.next_falsity l d bs) goes left right h = omega (arith, h.1)
opened_on _ _ _ (edges.atom_bare l d bs text) goes left right h = omega (arith, h.1)
opened_on _ _ _ (edges.atom_quoted l d bs text) goes left right h = omega (arith, h.1)
opened_on _ _ _ (edges.atom_truth l d bs) goes left right h = omega (arith, h.1)
opened_on _ _ _ (edges.atom_falsity l d bs) goes left right h = omega (arith, h.1)
opened_on _ _ _ (edges.arguments_open l d bs) goes left right h = omega (arith, h)
opened_on _ _ _ (edges.word_comma l d bs) goes left right h = omega (arith, h)
opened_on _ _ _ (edges.word_closes l d bs) goes left right h = omega (arith, h)
opened_on _ _ _ (edges.word_bar l bs) goes left right h = (refl, omega (arith, h))
opened_on _ _ _ (edges.term_variable l d bs text) goes left right h = omega (arith, h)
opened_on _ _ _ (edges.term_number l d bs text) goes left right h = omega (arith, h)
opened_on _ _ _ (edges.term_distinct l d bs text) goes left right h = omega (arith, h)
opened_on _ _ _ (edges.term_bare l d bs text) goes left right h = omega (arith, h)
opened_on _ _ _ (edges.term_quoted l d bs text) goes left right h = omega (arith, h)
opened_on _ _ _ (edges.term_comma l d bs) goes left right h = omega (arith, h)
opened_on _ _ _ (edges.term_closes l d bs) goes left right h = omega (arith, h)
opened_on _ _ _ (edges.term_bar l bs) goes left right h = (refl, omega (arith, h))
opened_on _ _ _ (edges.clause_ends l d bs) goes left right h = absurd cc
opened_on _ _ _ (edges.include_ends l d bs) goes left right h = absurd cc
opened_on _ _ _ _ goes left right h = tt
