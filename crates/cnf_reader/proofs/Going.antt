-- How the reading of a file goes on behind one token.
use Rattle.std.proofs.Common.{◌≡◌, ℕ, true, List, [], ◌∷◌, drop, Option, Some, None, Result, Ok, Err, refl, sym, ap, ◌∙◌, subst}
use Rattle.mg_word.specs.declared.clause.Name.{Name}
use Rattle.tptp_lexer.specs.Tokens.{Lexed, first_of, first_by, rest_of}
use Rattle.tptp_lexer.specs.declared.token.Token.{Token}
use Rattle.tptp_lexer.specs.declared.token.LexFault.{LexFault}
use Rattle.cnf_grammar.specs.declared.state.State.{State}
use Rattle.cnf_grammar.specs.declared.state.State.TheVariants.{ClauseClosed, IncludeClosed}
use Rattle.cnf_grammar.specs.declared.position.Position.{Position}
use Rattle.cnf_reader.specs.declared.fault.ReadKind.{ReadKind}
use Rattle.cnf_reader.specs.declared.fault.ReadKind.TheVariants.{Lex}
use Rattle.cnf_reader.specs.declared.fault.ReadFault.{ReadFault}
use Rattle.cnf_reader.specs.declared.pending.Pending.{Pending}
use Rattle.cnf_reader.specs.declared.kept.Kept.{Kept}
use Rattle.cnf_reader.specs.declared.part.Part.{Part}
use Rattle.cnf_reader.specs.declared.part.Part.TheVariants.{Ended, Clause, Include, Fault}
use Rattle.cnf_reader.specs.Statements.{take as take_token, Takes}
use Rattle.cnf_reader.specs.Keeping.{keep, is_full}
use Rattle.cnf_reader.specs.Reading.{Source, read_tokens, go_on, behind, at_end, fault_at, shape_in}
use Rattle.cnf_reader.proofs.TextKinds.{text_kind}
use Rattle.cnf_reader.specs.Parts.{is_of_text, Lower, reads_on, source_named, PartIs, IsEnd}

-- what a token that is taken, or not, makes of the statement
pub is_taken : (taken : Result Pending ReadKind) (new : Pending) → Takes taken None new → taken ≡ Ok new
is_taken (Ok p) new is = ap Ok (sym is)
is_taken (Err kind) new is = absurd is

pub is_refused : (taken : Result Pending ReadKind) (kind : ReadKind) (new : Pending) → Takes taken (Some kind) new → taken ≡ Err kind
is_refused (Ok p) kind new is = absurd is
is_refused (Err wanted) kind new is = ap Err (sym is)

-- the first token that is left is read
pub one_token : (lower : Lower) (source : Source) (p : Pending) (kept : Kept) (tokens : List Token) (fault : Option LexFault) (token : Token) → first_by tokens fault ≡ Ok (Some token)
    → read_tokens lower source p kept tokens fault
    ≡ go_on lower source kept p.position.state token (take_token (is_full kept) source.selections p (shape_in source.bytes token) token.line token.column) (λ next after. read_tokens lower source next after (drop 1 tokens) fault)
unfolding read_tokens
one_token lower source p kept [] None token first = cc
one_token lower source p kept [] (Some fault) token first = cc
one_token lower source p kept (other ∷ tokens) fault token first =
    let same : other ≡ token = cc in
    subst (λ t. read_tokens lower source p kept (other ∷ tokens) fault ≡ go_on lower source kept p.position.state t (take_token (is_full kept) source.selections p (shape_in source.bytes t) t.line t.column) (λ next after. read_tokens lower source next after tokens fault)) same refl

-- no token is left, and a fault stands there
pub at_fault : (lower : Lower) (source : Source) (p : Pending) (kept : Kept) (tokens : List Token) (fault : Option LexFault) (met : LexFault) → first_by tokens fault ≡ Err met
    → read_tokens lower source p kept tokens fault ≡ fault_at (Lex met.kind) source.name met.line met.column
unfolding read_tokens
at_fault lower source p kept [] None met first = cc
at_fault lower source p kept [] (Some fault) met first = let same : fault ≡ met = cc in subst (λ f. read_tokens lower source p kept [] (Some fault) ≡ fault_at (Lex f.kind) source.name f.line f.column) same refl
at_fault lower source p kept (other ∷ tokens) fault met first = cc

-- no token is left, and no fault
pub at_the_end : (lower : Lower) (source : Source) (p : Pending) (kept : Kept) (tokens : List Token) (fault : Option LexFault) → first_by tokens fault ≡ Ok None → read_tokens lower source p kept tokens fault ≡ at_end source p kept None
unfolding read_tokens
at_the_end lower source p kept [] None first = refl
at_the_end lower source p kept [] (Some fault) first = cc
at_the_end lower source p kept (other ∷ tokens) fault first = cc

-- a token that ends no statement
pub goes_on : (lower : Lower) (source : Source) (kept : Kept) (state : State) (p : Pending) (rest : Pending → Kept → Result Kept ReadFault) → (state ≡ ClauseClosed → ⊥) → (state ≡ IncludeClosed → ⊥) → behind lower source kept state p rest ≡ rest p kept
goes_on lower source kept ClauseClosed p rest clause include = absurd (clause refl)
goes_on lower source kept IncludeClosed p rest clause include = absurd (include refl)
goes_on lower source kept state p rest clause include = refl

-- how reading reached this statement and what is left: for every name of the file and every reading of its includes
abbrev pub Reaches : ℕ → List ℕ → List (Option (List Name)) → Kept → Pending → Lexed → Pending → Lexed → Type 0
Reaches number bytes selections kept from all p left =
    (lower : Lower) (name : List ℕ) → reads_on lower (source_named number bytes selections name) from kept all ≡ reads_on lower (source_named number bytes selections name) p kept left

module _ (number : ℕ) (bytes : List ℕ) (selections : List (Option (List Name))) (kept : Kept) (from : Pending) (all : Lexed) (p : Pending) (left : Lexed) (reached : Reaches number bytes selections kept from all p left) where
  -- a lexical fault
  pub lex_fault : (met : LexFault) (after : Kept) (more : Lexed) → first_of left ≡ Err met → PartIs number bytes selections from kept all (Fault (Lex met.kind) met.line met.column) after more
  lex_fault met after more first = (refl, λ lower name. reached lower name ∙ at_fault lower (source_named number bytes selections name) p kept left.tokens left.fault met first)

  -- the end
  pub the_end : (part : Part) (more : Lexed) → first_of left ≡ Ok None → IsEnd bytes p.position part → PartIs number bytes selections from kept all part kept more
  the_end Ended more first ends = λ lower name. reached lower name ∙ at_the_end lower (source_named number bytes selections name) p kept left.tokens left.fault first ∙ rw ends refl
  the_end Clause more first ends = absurd ends
  the_end (Include asked) more first ends = absurd ends
  the_end (Fault kind line column) more first ends = (subst (λ k. is_of_text k ≡ true) (sym ends.1) refl, λ lower name. reached lower name ∙ at_the_end lower (source_named number bytes selections name) p kept left.tokens left.fault first ∙ rw (ends.0, ends.1, ends.2, ends.3) refl)

  module _ (token : Token) (first : first_of left ≡ Ok (Some token)) (result : Option ReadKind) (new : Pending) where
    taken_here : Lower → List ℕ → Result Pending ReadKind
    taken_here lower name = take_token (is_full kept) selections p (shape_in bytes token) token.line token.column

    -- a fault at the token
    pub token_fault : (kind : ReadKind) (after : Kept) (more : Lexed) → Takes (take_token (is_full kept) selections p (shape_in bytes token) token.line token.column) (Some kind) new → PartIs number bytes selections from kept all (Fault kind token.line token.column) after more
    token_fault kind after more takes = (
      text_kind (is_full kept) selections p (shape_in bytes token) token.line token.column kind new takes,
      λ lower name.
          reached lower name ∙ one_token lower (source_named number bytes selections name) p kept left.tokens left.fault token first
          ∙ ap (λ r. go_on lower (source_named number bytes selections name) kept p.position.state token r (λ next also. read_tokens lower (source_named number bytes selections name) next also (drop 1 left.tokens) left.fault)) (is_refused _ kind new takes),
    )

    -- behind a token that was taken
    pub token_taken : Takes (take_token (is_full kept) selections p (shape_in bytes token) token.line token.column) None new → (lower : Lower) (name : List ℕ)
        → reads_on lower (source_named number bytes selections name) from kept all
        ≡ behind lower (source_named number bytes selections name) kept p.position.state new (λ next also. read_tokens lower (source_named number bytes selections name) next also (drop 1 left.tokens) left.fault)
    token_taken takes = λ lower name.
        reached lower name ∙ one_token lower (source_named number bytes selections name) p kept left.tokens left.fault token first
        ∙ ap (λ r. go_on lower (source_named number bytes selections name) kept p.position.state token r (λ next also. read_tokens lower (source_named number bytes selections name) next also (drop 1 left.tokens) left.fault)) (is_taken _ new takes)

    -- it ends no statement
    pub token_within : Takes (take_token (is_full kept) selections p (shape_in bytes token) token.line token.column) None new → (p.position.state ≡ ClauseClosed → ⊥) → (p.position.state ≡ IncludeClosed → ⊥)
        → Reaches number bytes selections kept from all new (rest_of left)
    token_within takes clause include = λ lower name. token_taken takes lower name ∙ goes_on lower (source_named number bytes selections name) kept p.position.state new _ clause include

    -- it ends a clause
    pub clause_ends : (after : Kept) → Takes (take_token (is_full kept) selections p (shape_in bytes token) token.line token.column) None new → p.position.state ≡ ClauseClosed
        → after ≡ keep selections kept number new → PartIs number bytes selections from kept all Clause after (rest_of left)
    clause_ends after takes state is = λ lower name. token_taken takes lower name ∙ rw (state, is) refl

    -- it ends an include
    pub include_ends : Takes (take_token (is_full kept) selections p (shape_in bytes token) token.line token.column) None new → p.position.state ≡ IncludeClosed
        → PartIs number bytes selections from kept all (Include new.asked) kept (rest_of left)
    include_ends takes state = λ lower name. token_taken takes lower name ∙ rw state refl
