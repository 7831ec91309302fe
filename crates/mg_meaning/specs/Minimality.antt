-- Minimal satisfying sets by inclusion, after Bry and Yahya and Niemelä, and the lists of all of them.
use Rattle.std.specs.Prelude.{◌↔◌, Bool, true, ◌&&◌, List, [], ◌∷◌, Contains, IsTrue}
use Rattle.std.specs.Ordering.{is_lt}
use Rattle.mg_word.specs.Orders.{lits_cmp}
use Rattle.mg_word.specs.Sets.{is_proper_part, is_rising}
use Rattle.mg_word.specs.Facts.{ProblemData}
use Rattle.mg_word.specs.declared.lit.Lit.{Lit}
use Rattle.mg_meaning.specs.Satisfaction.{Satisfies}

-- it satisfies the problem, and no proper part of it does
pub record IsMinimal (set : List Lit) (problem : ProblemData) : Type 0 where
  pub satisfying : Satisfies set problem
  pub least : (part : List Lit) → IsTrue (is_proper_part part set) → Satisfies part problem → ⊥

-- the set stands before the first of the list
abbrev pub is_set_below_first : List Lit → List (List Lit) → Bool
is_set_below_first set [] = true
is_set_below_first set (first ∷ sets) = is_lt (lits_cmp set first)

-- each set stands before the next in the order of sets, so that none stands twice
abbrev pub are_sets_rising : List (List Lit) → Bool
are_sets_rising [] = true
are_sets_rising (set ∷ sets) = is_set_below_first set sets && are_sets_rising sets

-- the list has exactly the minimal sets, each as its rising list, each once and in order
pub record ListsMinimal (sets : List (List Lit)) (problem : ProblemData) : Type 0 where
  pub rising : IsTrue (are_sets_rising sets)
  pub exact : (set : List Lit) → Contains sets set ↔ (IsTrue (is_rising set) × IsMinimal set problem)
