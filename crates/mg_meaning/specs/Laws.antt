-- Laws of the definitions, each of which a public function of this crate states as its contract.
use Rattle.std.specs.Prelude.{◌≡◌, ◌↔◌, ℕ, List, [], map, All, IsTrue}
use Rattle.std.specs.Cmp.{IsTotalOrder}
use Rattle.std.specs.List.{list_any, list_all}
use Rattle.mg_word.specs.Words.{fits}
use Rattle.std.specs.declared.cmp.Ordering.TheVariants.{Equal}
use Rattle.mg_word.specs.Orders.{lits_cmp}
use Rattle.mg_word.specs.Sets.{is_part, is_rising, is_clash_free}
use Rattle.mg_word.specs.Facts.{ProblemData, IsProblem}
use Rattle.mg_word.specs.declared.lit.Lit.{Lit}
use Rattle.mg_word.specs.declared.form.Inst.{Inst}
use Rattle.mg_meaning.specs.Truth.{atoms_of}
use Rattle.mg_meaning.specs.Models.{IsModel, IsMinimalModel, HasNoItems, are_positive, positives_of}
use Rattle.mg_meaning.specs.Refuting.{Refutes, ground_of}
use Rattle.mg_meaning.specs.Instances.{are_literals, IsInstance}
use Rattle.mg_meaning.specs.Satisfaction.{Satisfies}
use Rattle.mg_meaning.specs.Minimality.{IsMinimal, ListsMinimal}
use Rattle.mg_meaning.specs.Deciding.{is_satisfying, is_least}
use Rattle.mg_meaning.specs.Violation.{inst_cmp, IsLeast, IsSaturated}
use Rattle.mg_meaning.specs.Excluding.{ExcludesBy, Excludes, Covers}

-- the order of sets is total, and only equal sets tie
pub record OrdersSets : Type 0 where
  pub total : IsTotalOrder lits_cmp
  pub exact : (a b : List Lit) → lits_cmp a b ≡ Equal → a ≡ b

-- the order of instances is total, and only equal instances of a problem tie
pub record OrdersInstances : Type 0 where
  pub total : IsTotalOrder inst_cmp
  pub exact : (problem : ProblemData) (a b : Inst) → IsInstance problem a → IsInstance problem b → inst_cmp a b ≡ Equal → a ≡ b

-- two rising lists with the same literals are equal
abbrev pub RisingIsUnique : Type 0
RisingIsUnique = (a b : List Lit) → IsTrue (is_rising a) → IsTrue (is_rising b) → IsTrue (is_part a b) → IsTrue (is_part b a) → a ≡ b

-- at most one instance is the least violated, and only where the branch is not saturated
pub record LeastIsUnique : Type 0 where
  pub one : (problem : ProblemData) (held : List Lit) (a b : Inst) → IsLeast problem held a → IsLeast problem held b → a ≡ b
  pub apart : (problem : ProblemData) (held : List Lit) (inst : Inst) → IsLeast problem held inst → IsSaturated problem held → ⊥

-- a set satisfies a problem where it is clash free, over the problem's symbols, and saturated
abbrev pub SatisfiesWhereSaturated : Type 0
SatisfiesWhereSaturated = (set : List Lit) (problem : ProblemData)
    → Satisfies set problem ↔ (IsTrue (is_clash_free set) × IsTrue (are_literals problem.symbols set) × IsSaturated problem set)

-- at most one list has exactly the minimal sets
abbrev pub MinimalListIsUnique : Type 0
MinimalListIsUnique = (problem : ProblemData) (one two : List (List Lit)) → ListsMinimal one problem → ListsMinimal two problem → one ≡ two

-- the positive literals of a satisfying set are a Herbrand model of the clauses
abbrev pub IsHerbrandModel : Type 0
IsHerbrandModel = (set : List Lit) (problem : ProblemData) → IsProblem problem → Satisfies set problem → IsModel (atoms_of set) problem

-- without items that choose conclusions: minimal sets hold positive literals alone, and their atoms are exactly the minimal finite Herbrand models
pub record MinimalAreModels : Type 0 where
  pub positive : (problem : ProblemData) → IsProblem problem → HasNoItems problem → (set : List Lit) → IsMinimal set problem → IsTrue (are_positive set)
  pub model : (problem : ProblemData) → IsProblem problem → HasNoItems problem → (set : List Lit) → IsMinimal set problem → IsMinimalModel (atoms_of set) problem
  pub minimal : (problem : ProblemData) → IsProblem problem → HasNoItems problem → (atoms : List (List ℕ)) → IsTrue (list_all (fits problem.symbols) atoms) → IsMinimalModel atoms problem → IsMinimal (positives_of atoms) problem

-- what instances of the problem exclude, the problem excludes
abbrev pub InstancesExclude : Type 0
InstancesExclude = (problem : ProblemData) (insts : List Inst) (inside outside : List Lit) → All (IsInstance problem) insts → ExcludesBy insts inside outside → Excludes problem inside outside

-- where instances of the problem cover, each satisfying set includes one of the sets
abbrev pub InstancesCover : Type 0
InstancesCover = (problem : ProblemData) (insts : List Inst) (sets : List (List Lit)) → All (IsInstance problem) insts → Covers insts sets
    → (set : List Lit) → Satisfies set problem → IsTrue (list_any (λ listed. is_part listed set) sets)

-- satisfaction and minimality are decided by their tests
pub record SatisfyingIsDecided : Type 0 where
  pub satisfying : (problem : ProblemData) → IsProblem problem → (set : List Lit) → IsTrue (is_satisfying problem set) ↔ Satisfies set problem
  pub minimal : (problem : ProblemData) → IsProblem problem → (set : List Lit) → Satisfies set problem → IsTrue (is_least problem set) ↔ IsMinimal set problem

-- each satisfying set includes a minimal one, as a rising list
abbrev pub IncludesMinimal : Type 0
IncludesMinimal = (problem : ProblemData) → IsProblem problem → (set : List Lit) → Satisfies set problem
    → (least : List Lit) × IsTrue (is_rising least) × IsMinimal least problem × IsTrue (is_part least set)

-- where instances of the problem cover nothing, the instances of their clauses refute it
abbrev pub CoveringNoneRefutes : Type 0
CoveringNoneRefutes = (problem : ProblemData) → IsProblem problem → (insts : List Inst) → All (IsInstance problem) insts → Covers insts [] → Refutes (map (ground_of problem) insts) problem
