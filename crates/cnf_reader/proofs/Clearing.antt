-- Tokens of a statement at none of which a fault stands.
use Rattle.std.proofs.Common.{◌≡◌, ℕ, Bool, true, false, true≢false, ◌⊎◌, inl, inr, List, [], ◌∷◌, ◌++◌, Option, Some, None, Contains, codes, refl, sym, ap, ◌∙◌, subst}
use Rattle.mg_word.specs.declared.clause.Name.{Name}
use Rattle.cnf_grammar.specs.Meaning.{Named, ReadClause, read_clause, read_include, meaning, clause_of}
use Rattle.cnf_grammar.specs.Shapes.{Shape, Lower, Punct, comma}
use Rattle.cnf_grammar.specs.Spelling.{name_token, spell_formula, spell_annotations, spell_statement}
use Rattle.cnf_grammar.specs.Trees as trees
use Rattle.cnf_reader.specs.declared.fault.ReadKind.{ReadKind}
use Rattle.cnf_reader.specs.declared.fault.ReadKind.TheVariants.{Role}
use Rattle.cnf_reader.specs.Faults.{is_role}
use Rattle.cnf_reader.specs.Rows.{accepted_roles, clause_front, FaultAt, by_row, other_role, NoFaultAt}
use Rattle.cnf_reader.proofs.RowsMet.{role_listed, role_accepted}

no_last : (before more : List Shape) (x : Shape) → [] ≡ before ++ x ∷ more → ⊥
no_last [] more x e = cc
no_last (y ∷ before) more x e = cc

-- no token
pub none_clear : (clauses : ℕ) (selections : List (Option (List Name))) → NoFaultAt clauses selections []
none_clear clauses selections before more s kind is stands = no_last before more s is

-- a token among these and one more is that one, or one of these
split_last : (own before more : List Shape) (s x : Shape) → own ++ s ∷ [] ≡ before ++ x ∷ more → ((before ≡ own) × (x ≡ s)) ⊎ ((rest : List Shape) × (own ≡ before ++ x ∷ rest))
split_last [] [] more s x e = inl (refl, cc)
split_last [] (y ∷ before) more s x e = let none : [] ≡ before ++ x ∷ more = cc in absurd (no_last before more x none)
split_last (a ∷ own) [] more s x e = let same : a ≡ x = cc in inr (own, ap (λ y. y ∷ own) same)
split_last (a ∷ own) (y ∷ before) more s x e =
    let first : a ≡ y = cc in
    let rest : own ++ s ∷ [] ≡ before ++ x ∷ more = cc in
    by first (split_last own before more s x rest)
  where
    by : a ≡ y → ((before ≡ own) × (x ≡ s)) ⊎ ((rest : List Shape) × (own ≡ before ++ x ∷ rest)) → ((y ∷ before ≡ a ∷ own) × (x ≡ s)) ⊎ ((rest : List Shape) × (a ∷ own ≡ y ∷ (before ++ x ∷ rest)))
    by first (inl h) = inl (cc, h.1)
    by first (inr h) = inr (h.0, cc (h.1))

-- one more token at which none stands
pub clear_more : (clauses : ℕ) (selections : List (Option (List Name))) (own : List Shape) (s : Shape) → NoFaultAt clauses selections own → ((kind : ReadKind) → FaultAt clauses selections own s kind → ⊥) → NoFaultAt clauses selections (own ++ s ∷ [])
clear_more clauses selections own s clear none before more x kind is stands = by (split_last own before more s x is)
  where
    by : ((before ≡ own) × (x ≡ s)) ⊎ ((rest : List Shape) × (own ≡ before ++ x ∷ rest)) → ⊥
    by (inl h) = none kind (subst (λ y. FaultAt clauses selections own y kind) h.1 (subst (λ u. FaultAt clauses selections u x kind) h.0 stands))
    by (inr h) = clear before h.0 x kind h.1 stands

pub no_fault_there : (kind : ReadKind) → Some kind ≡ None → ⊥
no_fault_there kind e = cc

clause_same : (a b : ReadClause) → read_clause a ≡ read_clause b → a ≡ b
clause_same a b e = cc

no_clause : (file : List ℕ) (names : Option (List Named)) (c : ReadClause) → read_include file names ≡ read_clause c → ⊥
no_clause file names c e = absurd cc

-- the role of such a clause is accepted
pub clause_role : (clauses : ℕ) (selections : List (Option (List Name))) (t : trees.Statement) (c : ReadClause) → meaning t ≡ read_clause c → NoFaultAt clauses selections (spell_statement t) → Contains accepted_roles c.role
clause_role clauses selections (trees.include file selection) c says clear = absurd (no_clause _ _ c says)
clause_role clauses selections (trees.clause name role formula notes) c says clear =
    subst (λ (d : ReadClause). Contains accepted_roles d.role) (clause_same (clause_of name role formula notes) c says) (by (is_role role) refl)
  where
    by : (b : Bool) → is_role role ≡ b → Contains accepted_roles role
    by true test = role_listed role test
    by false test =
        absurd (clear (clause_front ++ (name_token name ∷ (Punct comma ∷ []))) _ (Lower role) Role refl
        (by_row Role (other_role name role refl (λ listed. true≢false (sym (role_accepted role listed) ∙ test)))))
