-- Truth of ground clauses where a list of atoms is what is true, after Herbrand.
use Rattle.std.specs.Prelude.{ℕ, Bool, true, false, not, List, [], ◌∷◌, slice_get, if◌then◌else◌}
use Rattle.std.specs.List.{list_any}
use Rattle.std.specs.Option.{option_map_or}
use Rattle.mg_word.specs.Sets.{same_word}
use Rattle.mg_word.specs.Words.{lit_instance}
use Rattle.mg_word.specs.declared.lit.Lit.{Lit}
use Rattle.mg_word.specs.declared.clause.ClauseLit.{ClauseLit}
use Rattle.mg_word.specs.declared.clause.ClauseLit.TheVariants.{True, False, Lit as Literal}
use Rattle.mg_word.specs.declared.clause.Clause.{Clause}

-- the word is one of the atoms
abbrev pub is_atom_of : List (List ℕ) → List ℕ → Bool
is_atom_of atoms word = list_any (λ atom. same_word atom word) atoms

-- a positive literal is true where its atom is among them, a negative one where it is not
abbrev pub lit_true : List (List ℕ) → Lit → Bool
lit_true atoms lit = if lit.negative then not (is_atom_of atoms lit.word) else is_atom_of atoms lit.word

-- a literal of a clause, under the terms of its variables
abbrev pub literal_true : List (List ℕ) → List (List ℕ) → ClauseLit → Bool
literal_true atoms terms True = true
literal_true atoms terms False = false
literal_true atoms terms (Literal lit) = lit_true atoms (lit_instance terms lit)

-- some literal of the clause is true
abbrev pub clause_true : List (List ℕ) → List (List ℕ) → List ClauseLit → Bool
clause_true atoms terms literals = list_any (literal_true atoms terms) literals

-- a ground instance of a clause: the clause's index, and the terms of its variables
pub record Ground : Type 0 where
  pub clause : ℕ
  pub terms : List (List ℕ)

-- the atoms make the instance true
abbrev pub makes_true : List Clause → List (List ℕ) → Ground → Bool
makes_true clauses atoms instance = option_map_or (λ clause. clause_true atoms instance.terms clause.literals) (slice_get clauses instance.clause) false

-- the atoms that a set of literals makes true: those of its positive literals
abbrev pub atoms_of : List Lit → List (List ℕ)
atoms_of [] = []
atoms_of (lit ∷ lits) = if lit.negative then atoms_of lits else lit.word ∷ atoms_of lits
