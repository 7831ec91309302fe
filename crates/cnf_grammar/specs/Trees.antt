-- The syntax of a problem file, as trees.
use Rattle.std.specs.Prelude.{◌≡◌, ℕ, false, List, Option, bytes_eq, codes}
use Rattle.cnf_grammar.specs.declared.brackets.Bracket.{Bracket}
use Rattle.cnf_grammar.specs.Shapes.{Shape, comma, is_bracket, is_mark}

-- word = Lower | Quoted
pub data Word : Type 0 where
  bare_word : (text : List ℕ) → Word
  quoted_word : (text : List ℕ) → Word

-- name = Lower | Quoted | plain Number
pub data Name : Type 0 where
  word_name : Word → Name
  number_name : (text : List ℕ) → Name

-- filename = Lower | Quoted, not empty
pub data FileName : Type 0 where
  bare_file : (text : List ℕ) → FileName
  quoted_file : (text : List ℕ) → bytes_eq text (codes "''") ≡ false → FileName

mutual
  -- term = Upper | plain Number | Distinct | word [ "(" term { "," term } ")" ]
  pub data Term : Type 0 where
    variable : (text : List ℕ) → Term
    number : (text : List ℕ) → Term
    distinct : (text : List ℕ) → Term
    compound : Word → Arguments → Term

  -- [ "(" term { "," term } ")" ]
  pub data Arguments : Type 0 where
    no_arguments : Arguments
    arguments : (first : Term) (more : Terms) → Arguments

  -- { "," term }
  pub data Terms : Type 0 where
    no_terms : Terms
    then_term : Term → Terms → Terms

-- atom = "$true" | "$false" | word [ "(" term { "," term } ")" ]
pub data Atom : Type 0 where
  truth : Atom
  falsity : Atom
  predicate : Word → Arguments → Atom

-- literal = [ "~" ] atom
pub data Literal : Type 0 where
  positive : Atom → Literal
  negative : Atom → Literal

-- formula = "(" formula ")" | literal { "|" literal }
pub data Formula : Type 0 where
  bracketed : Formula → Formula
  disjunction : (first : Literal) (more : List Literal) → Formula

-- any tokens, where round and square brackets nest
pub data Balanced : Type 0 where
  no_tokens : Balanced
  then_token : (token : Shape) → is_bracket token ≡ false → Balanced → Balanced
  then_group : Bracket → (inside : Balanced) → Balanced → Balanced

-- a token that is no bracket and no comma, or a pair of brackets with what they enclose
pub data Part : Type 0 where
  single : (token : Shape) → is_bracket token ≡ false → is_mark comma token ≡ false → Part
  group : Bracket → (inside : Balanced) → Part

-- source = one or more tokens, brackets balanced, no comma outside brackets
pub record Source : Type 0 where
  pub first : Part
  pub more : List Part

-- info = "[" tokens, brackets balanced "]", as items: what stands between the commas outside inner brackets
pub record Info : Type 0 where
  pub first : List Part
  pub more : List (List Part)

-- [ "," source [ "," info ] ]
pub data Annotations : Type 0 where
  no_annotations : Annotations
  annotations : Source → Option Info → Annotations

-- [ "," "[" [ name { "," name } ] "]" ]
pub data Selection : Type 0 where
  every_clause : Selection
  selected : List Name → Selection

-- statement = "cnf" "(" name "," role "," formula [ "," source [ "," info ] ] ")" "."
--           | "include" "(" filename [ "," "[" [ name { "," name } ] "]" ] ")" "."
-- role = Lower
pub data Statement : Type 0 where
  clause : Name → (role : List ℕ) → Formula → Annotations → Statement
  include : FileName → Selection → Statement
