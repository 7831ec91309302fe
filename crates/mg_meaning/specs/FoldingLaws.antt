-- Laws of the pairs of nodes: they exclude, and they apply where they come from.
use Rattle.std.specs.Prelude.{◌≡◌, List, [], length, All, Contains, IsTrue}
use Rattle.mg_word.specs.Words.{complement_of}
use Rattle.mg_word.specs.Sets.{holds, is_part}
use Rattle.mg_word.specs.declared.lit.Lit.{Lit}
use Rattle.mg_word.specs.declared.form.Inst.{Inst}
use Rattle.mg_meaning.specs.Excluding.{ExcludesBy}
use Rattle.mg_meaning.specs.Folding.{Pair, applies, ApplyAtChildren, folded, rejecting, clashing, barring}

-- a folded pair excludes where the instance is among those and each child's pair excludes
abbrev pub FoldExcludes : Type 0
FoldExcludes = (insts : List Inst) (inst : Inst) (pairs : List Pair) → Contains insts inst → length pairs ≡ length inst.conclusions
    → All (λ pair. ExcludesBy insts pair.inside pair.outside) pairs → ExcludesBy insts (folded inst pairs).inside (folded inst pairs).outside

-- what closes a leaf excludes: a rejection where its instance is among those, a clash and a barred literal always
pub record LeavesExclude : Type 0 where
  pub rejection : (insts : List Inst) (inst : Inst) → Contains insts inst → inst.conclusions ≡ [] → ExcludesBy insts (rejecting inst).inside (rejecting inst).outside
  pub clash : (insts : List Inst) (lit : Lit) → ExcludesBy insts (clashing lit).inside (clashing lit).outside
  pub bar : (insts : List Inst) (lit : Lit) → ExcludesBy insts (barring lit).inside (barring lit).outside

-- where the premises are held and each child's pair applies at its child, the folded pair applies
abbrev pub FoldApplies : Type 0
FoldApplies = (inst : Inst) (held barred : List Lit) (pairs : List Pair) → IsTrue (is_part inst.premises held) → ApplyAtChildren held barred inst.conclusions pairs → IsTrue (applies (folded inst pairs) held barred)

-- the pair of a leaf applies there: of a rejection where the premises are held, of a clash where literal and complement are, of a barred literal where it is held and barred
pub record LeavesApply : Type 0 where
  pub rejection : (inst : Inst) (held barred : List Lit) → IsTrue (is_part inst.premises held) → IsTrue (applies (rejecting inst) held barred)
  pub clash : (lit : Lit) (held barred : List Lit) → IsTrue (holds held lit) → IsTrue (holds held (complement_of lit)) → IsTrue (applies (clashing lit) held barred)
  pub bar : (lit : Lit) (held barred : List Lit) → IsTrue (holds held lit) → IsTrue (holds barred lit) → IsTrue (applies (barring lit) held barred)
