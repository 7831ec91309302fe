-- Of a document one line is the first that breaks a rule, and one rule is the first that it breaks.
use Rattle.std.proofs.Common.{◌≡◌, ℕ, ◌+◌, ◌<◌, Bool, true, false, nat_lt, List, [], ◌∷◌, ◌++◌, length, take, Some, slice_get, IsTrue, inl, inr, refl, sym, ap, ◌∙◌, subst, arith}
use Rattle.std.proofs.lemmas.Bool.Decides.{nat_tests}
use Rattle.std.proofs.lemmas.Option.{slice_get_within}
use Rattle.mg_word.specs.Sets.{is_part}
use Rattle.mg_word.specs.Facts.{ProblemData}
use Rattle.mg_word.specs.declared.form.Form.{Form}
use Rattle.mg_meaning.specs.Folding.{Pair}
use Rattle.tree_checker.specs.Trees.{preorder, Branch, branches_at}
use Rattle.tree_checker.specs.Closing.{Breaks, FirstBreak}
use Rattle.tree_checker.specs.Docs.{lemmas_of, branch_of, lines_before, block_head_count, BlocksClose, RejectsAt, InBlock, Rejects}
use Rattle.tree_checker.specs.declared.doc.Doc.{Doc}
use Rattle.tree_checker.specs.declared.doc.LemmaBlock.{LemmaBlock}
use Rattle.tree_checker.specs.declared.doc.TreeLine.{TreeLine}
use Rattle.tree_checker.specs.declared.doc.TreeLine.TheVariants.{Form as FormLine, Clash, Barred, By}
use Rattle.tree_checker.specs.declared.doc.Why.{Why}
use Rattle.tree_checker.specs.declared.doc.Why.TheVariants.{Premise, NoClash, NotBarred, LemmaNumber, LemmaInside, LemmaOutside, Substitution}
use Rattle.tree_checker.specs.declared.doc.Reject.TheVariants.{Line}
use Rattle.tree_checker.proofs.Shapes.{preorder_unique}
use Rattle.tree_checker.proofs.Verdicts.{fine_not_broken, broken_not_closed}

module _ (forms : List Form) (lemmas : List Pair) where
  -- a line breaks one rule first
  breaks_once : (branch : Branch) (line : TreeLine) (why other : Why) → Breaks forms lemmas branch line why → Breaks forms lemmas branch line other → why ≡ other
  breaks_once branch (FormLine number terms) Substitution Substitution a b = refl
  breaks_once branch (FormLine number terms) Substitution Premise a b =
      let same : b.0 ≡ a.0 = cc (a.1, b.1) in
      absurd (a.2 (subst (λ form. length terms ≡ form.variables) same b.2))
  breaks_once branch (FormLine number terms) Substitution other a b = absurd b
  breaks_once branch (FormLine number terms) Premise Substitution a b =
      let same : a.0 ≡ b.0 = cc (a.1, b.1) in
      absurd (b.2 (subst (λ form. length terms ≡ form.variables) same a.2))
  breaks_once branch (FormLine number terms) Premise Premise a b = refl
  breaks_once branch (FormLine number terms) Premise other a b = absurd b
  breaks_once branch (FormLine number terms) why other a b = absurd a
  breaks_once branch (Clash lit) NoClash NoClash a b = refl
  breaks_once branch (Clash lit) NoClash other a b = absurd b
  breaks_once branch (Clash lit) why other a b = absurd a
  breaks_once branch (Barred lit) NotBarred NotBarred a b = refl
  breaks_once branch (Barred lit) NotBarred other a b = absurd b
  breaks_once branch (Barred lit) why other a b = absurd a
  breaks_once branch (By number) LemmaNumber LemmaNumber a b = refl
  breaks_once branch (By number) LemmaNumber LemmaInside a b = let bad : ⊥ = cc (a, b.1) in absurd bad
  breaks_once branch (By number) LemmaNumber LemmaOutside a b = let bad : ⊥ = cc (a, b.1) in absurd bad
  breaks_once branch (By number) LemmaNumber other a b = absurd b
  breaks_once branch (By number) LemmaInside LemmaNumber a b = let bad : ⊥ = cc (a.1, b) in absurd bad
  breaks_once branch (By number) LemmaInside LemmaInside a b = refl
  breaks_once branch (By number) LemmaInside LemmaOutside a b =
      let same : b.0 ≡ a.0 = cc (a.1, b.1) in
      absurd (a.2 (subst (λ lemma. IsTrue (is_part lemma.inside branch.held)) same b.2))
  breaks_once branch (By number) LemmaInside other a b = absurd b
  breaks_once branch (By number) LemmaOutside LemmaNumber a b = let bad : ⊥ = cc (a.1, b) in absurd bad
  breaks_once branch (By number) LemmaOutside LemmaInside a b =
      let same : a.0 ≡ b.0 = cc (a.1, b.1) in
      absurd (b.2 (subst (λ lemma. IsTrue (is_part lemma.inside branch.held)) same a.2))
  breaks_once branch (By number) LemmaOutside LemmaOutside a b = refl
  breaks_once branch (By number) LemmaOutside other a b = absurd b
  breaks_once branch (By number) why other a b = absurd a

  module _ (start : Branch) (lines : List TreeLine) where
    -- the branch at a line is that of the other trees
    branch_at : (i j : ℕ) (why other : Why) (a : FirstBreak forms lemmas start lines i why) (b : FirstBreak forms lemmas start lines j other) → slice_get (branches_at forms (start ∷ []) b.trees) i ≡ Some a.branch
    branch_at i j why other a b =
        let ends : preorder a.trees ++ [] ≡ preorder b.trees ++ [] = ap (λ l. l ++ []) (a.same ∙ sym b.same) in
        let one = (preorder_unique forms 1 a.trees b.trees [] [] a.shape b.shape ends).0 in
        subst (λ trees. slice_get (branches_at forms (start ∷ []) trees) i ≡ Some a.branch) one a.branch_is

    not_before : (i j : ℕ) (why other : Why) → FirstBreak forms lemmas start lines i why → FirstBreak forms lemmas start lines j other → i < j → ⊥
    not_before i j why other a b below = fine_not_broken forms lemmas a.branch a.line why (b.earlier i a.branch a.line below (branch_at i j why other a b) a.line_is) a.breaks

    -- one line is the first that breaks a rule
    place_once : (i j : ℕ) (why other : Why) → FirstBreak forms lemmas start lines i why → FirstBreak forms lemmas start lines j other → i ≡ j
    place_once i j why other a b = by (nat_lt i j) refl (nat_lt j i) refl
      where
        by : (p : Bool) → nat_lt i j ≡ p → (q : Bool) → nat_lt j i ≡ q → i ≡ j
        by true is q is' = absurd (not_before i j why other a b (grind (arith, nat_tests)))
        by false is true is' = absurd (not_before j i other why b a (grind (arith, nat_tests)))
        by false is false is' = grind (arith, nat_tests)

    rule_once : (i : ℕ) (why other : Why) → FirstBreak forms lemmas start lines i why → FirstBreak forms lemmas start lines i other → why ≡ other
    rule_once i why other a b =
        let branches = branch_at i i why other a b in
        let branch : b.branch ≡ a.branch = cc (branches, b.branch_is) in
        let line : b.line ≡ a.line = cc (a.line_is, b.line_is) in
        breaks_once a.branch a.line why other a.breaks (subst (λ l. Breaks forms lemmas a.branch l other) line (subst (λ one. Breaks forms lemmas one b.line other) branch b.breaks))

    -- and one rule is the first that it breaks
    pub break_once : (i j : ℕ) (why other : Why) → FirstBreak forms lemmas start lines i why → FirstBreak forms lemmas start lines j other → (i ≡ j) × (why ≡ other)
    break_once i j why other a b =
        let places = place_once i j why other a b in
        (places, rule_once i why other a (subst (λ k. FirstBreak forms lemmas start lines k other) (sym places) b))

module _ (problem : ProblemData) (doc : Doc) where
  -- a block that closes breaks no rule
  closed_block : (n line : ℕ) (why : Why) → BlocksClose problem.forms doc.lemmas n → (a : InBlock problem doc (Line line why)) → a.at < n → ⊥
  closed_block n line why close a below =
      broken_not_closed problem.forms (lemmas_of (take a.at doc.lemmas)) (branch_of a.block) a.block.tree a.rejects.0 why a.rejects.2 (close a.at a.block below a.block_is)

  one_place : (i j : ℕ) → (i < j → ⊥) → (j < i → ⊥) → i ≡ j
  one_place i j not not' = by (nat_lt i j) refl (nat_lt j i) refl
    where
      by : (p : Bool) → nat_lt i j ≡ p → (q : Bool) → nat_lt j i ≡ q → i ≡ j
      by true is q is' = absurd (not (grind (arith, nat_tests)))
      by false is true is' = absurd (not' (grind (arith, nat_tests)))
      by false is false is' = grind (arith, nat_tests)

  -- in one block one line breaks a rule first
  in_block : (at at' line line' : ℕ) (why why' : Why) (block block' : LemmaBlock) → at ≡ at' → slice_get doc.lemmas at ≡ Some block → slice_get doc.lemmas at' ≡ Some block'
      → RejectsAt problem.forms (lemmas_of (take at doc.lemmas)) (branch_of block) block.tree (lines_before (take at doc.lemmas) + block_head_count + 1) (Line line why)
      → RejectsAt problem.forms (lemmas_of (take at' doc.lemmas)) (branch_of block') block'.tree (lines_before (take at' doc.lemmas) + block_head_count + 1) (Line line' why') → (line ≡ line') × (why ≡ why')
  in_block at at' line line' why why' block block' same is is' a b =
      let blocks : block' ≡ block = cc in
      let here = subst (λ k. RejectsAt problem.forms (lemmas_of (take k doc.lemmas)) (branch_of block') block'.tree (lines_before (take k doc.lemmas) + block_head_count + 1) (Line line' why')) (sym same) b in
      let there = subst (λ one. RejectsAt problem.forms (lemmas_of (take at doc.lemmas)) (branch_of one) one.tree (lines_before (take at doc.lemmas) + block_head_count + 1) (Line line' why')) blocks here in
      let once = break_once problem.forms (lemmas_of (take at doc.lemmas)) (branch_of block) block.tree a.0 there.0 why why' a.2 there.2 in
      (a.1 ∙ (ap (λ k. lines_before (take at doc.lemmas) + block_head_count + 1 + k) once.0 ∙ sym there.1), once.1)

  -- a document has one first line that breaks a rule, and one rule that it breaks first
  pub reject_once : (line line' : ℕ) (why why' : Why) → Rejects problem doc (Line line why) → Rejects problem doc (Line line' why') → (line ≡ line') × (why ≡ why')
  reject_once line line' why why' (inl a) (inl b) =
      in_block a.at b.at line line' why why' a.block b.block (one_place a.at b.at (closed_block b.at line why b.before a) (closed_block a.at line' why' a.before b)) a.block_is b.block_is a.rejects b.rejects
  reject_once line line' why why' (inl a) (inr b) = absurd (closed_block (length doc.lemmas) line why b.before a (slice_get_within doc.lemmas a.at a.block a.block_is))
  reject_once line line' why why' (inr a) (inl b) = absurd (closed_block (length doc.lemmas) line' why' a.before b (slice_get_within doc.lemmas b.at b.block b.block_is))
  reject_once line line' why why' (inr a) (inr b) =
      let same = break_once problem.forms _ _ doc.root a.rejects.0 b.rejects.0 why why' a.rejects.2 b.rejects.2 in
      let places = same.0 in
      (omega (arith, places, a.rejects.1, b.rejects.1), same.1)
