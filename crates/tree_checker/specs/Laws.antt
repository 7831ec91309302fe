-- Laws of closing, each of which a public function of this crate states as its contract.
use Rattle.std.specs.Prelude.{◌≡◌, ℕ, List, [], ◌∷◌, ◌++◌, length, map, Some, IsTrue}
use Rattle.mg_word.specs.Words.{numbered}
use Rattle.mg_word.specs.Sets.{is_part}
use Rattle.mg_word.specs.Facts.{ProblemData}
use Rattle.mg_word.specs.declared.lit.Lit.{Lit}
use Rattle.mg_word.specs.declared.form.Form.{Form}
use Rattle.mg_word.specs.declared.form.Inst.{Inst}
use Rattle.mg_meaning.specs.Instances.{IsInstance}
use Rattle.mg_meaning.specs.Folding.{Pair, folded, rejecting, clashing, barring}
use Rattle.tree_checker.specs.Trees.{Trees, done, tree, Branch}
use Rattle.tree_checker.specs.Closing.{Close, Closes}
use Rattle.tree_checker.specs.declared.doc.TreeLine.{TreeLine}
use Rattle.tree_checker.specs.declared.doc.TreeLine.TheVariants.{Form as FormLine, Clash, Barred, By}

-- what closes a branch closes each that holds and bars as much, also with more lemmas
abbrev pub LargerCloses : Type 0
LargerCloses = (forms : List Form) (lemmas more : List Pair) (small large : Branch) (lines : List TreeLine) → IsTrue (is_part small.held large.held) → IsTrue (is_part small.barred large.barred)
    → Closes forms lemmas small lines → Closes forms (lemmas ++ more) large lines

-- the branch of a pair: its inside held and its outside barred
abbrev pub own_branch : Pair → Branch
own_branch pair = record { held = pair.inside; barred = pair.outside }

-- how the branch of each node's pair closes
pub record PairsClose : Type 0 where
  -- of a folded pair by its instance, where the children close the branches of theirs
  pub fold : (problem : ProblemData) (lemmas : List Pair) (inst : Inst) (pairs : List Pair) (children : Trees) → IsInstance problem inst → length pairs ≡ length inst.conclusions
      → Close problem.forms lemmas (map own_branch pairs) children → Close problem.forms lemmas (own_branch (folded inst pairs) ∷ []) (tree (FormLine inst.form inst.subst) children done)
  -- of a rejection by its instance alone
  pub rejection : (problem : ProblemData) (lemmas : List Pair) (inst : Inst) → IsInstance problem inst → inst.conclusions ≡ []
      → Close problem.forms lemmas (own_branch (rejecting inst) ∷ []) (tree (FormLine inst.form inst.subst) done done)
  pub clash : (forms : List Form) (lemmas : List Pair) (lit : Lit) → Close forms lemmas (own_branch (clashing lit) ∷ []) (tree (Clash lit) done done)
  pub bar : (forms : List Form) (lemmas : List Pair) (lit : Lit) → Close forms lemmas (own_branch (barring lit) ∷ []) (tree (Barred lit) done done)
  -- of a lemma by its number
  pub lemma : (forms : List Form) (lemmas : List Pair) (number : ℕ) (pair : Pair) → numbered lemmas number ≡ Some pair → Close forms lemmas (own_branch pair ∷ []) (tree (By number) done done)
