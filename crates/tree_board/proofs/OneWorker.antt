-- At an open node at most one event is lawful, so one worker has one journal.
use Rattle.std.proofs.Common.{◌≡◌, ◌≢◌, ℕ, List, [], ◌∷◌, reverse, slice_get, Option, Some, None, refl, sym, ap, ap₂, subst, ◌∙◌, arith}
use Rattle.std.specs.declared.cmp.Ordering.{Ordering}
use Rattle.std.specs.declared.cmp.Ordering.TheVariants.{Less, Equal, Greater}
use Rattle.std.specs.Ordering.{nat_cmp, ordering_reverse}
use Rattle.std.specs.Cmp.{nat_cmp_total}
use Rattle.std.specs.Cmp.Lexicographic.{slice_cmp, lists_total}
use Rattle.std.proofs.lemmas.List.{reverse-reverse}
use Rattle.mg_word.specs.OrderLaws.{nat_same, slices_same}
use Rattle.mg_word.specs.Facts.{IsProblem}
use Rattle.mg_word.specs.declared.form.Inst.{Inst}
use Rattle.mg_meaning.specs.Violation.{heaviest, weight_of}
use Rattle.mg_meaning.proofs.InstOrders.{least_same, least_not_saturated}
use Rattle.tree_board.specs.declared.event.Event.{Event}
use Rattle.tree_board.specs.declared.event.Event.TheVariants.{Extend, Reject, ByLemma, Saturated, Covered as CoveredBy, Heavy as TooHeavy}
use Rattle.tree_board.specs.Boards.{Board, opening}
use Rattle.tree_board.specs.Effects.{effect}
use Rattle.tree_board.specs.Events.{node_of}
use Rattle.tree_board.specs.Facts.{IsBoard}
use Rattle.tree_board.specs.Lawful.{lemma_for, cover_for, IsDue, IsLawful}
use Rattle.tree_board.specs.Nodes.{Node}
use Rattle.tree_board.specs.Settings.{Setting}
use Rattle.tree_board.specs.TreeOrder.{tree_cmp, IsFirstOpen}
use Rattle.tree_board.specs.WorkerLaws.{IsOneWorker}
use Rattle.tree_board.proofs.Places.{same_some}
use Rattle.tree_board.proofs.Replays.{effect_board, opening_board}

none_is_some : (o : Option ℕ) (n : ℕ) → o ≡ None → o ≡ Some n → ⊥
none_is_some o n e f = cc

insts_conclude : (a b : Inst) → a ≡ b → b.conclusions ≡ [] → a.conclusions ≡ []
insts_conclude a b e f = ap (λ (one : Inst). one.conclusions) e ∙ f

insts_weigh : (a b : Inst) → a ≡ b → weight_of a ≡ weight_of b
insts_weigh a b e = ap weight_of e

-- what no lemma and no found set settles, by what else is due
module _ (setting : Setting) (board : Board) (node : Node) (lemma cover : Option ℕ) where
  same_due : (this that : Event) → node_of this ≡ node_of that → IsDue setting board node lemma cover this → IsDue setting board node lemma cover that → this ≡ that
  same_due (ByLemma a which) (ByLemma b other) same one two = ap₂ ByLemma same (same_some which other (sym one ∙ two))
  same_due (ByLemma a which) (CoveredBy b cover') same one two = absurd (none_is_some lemma which two.0 one)
  same_due (ByLemma a which) (Extend b inst) same one two = absurd (none_is_some lemma which two.0 one)
  same_due (ByLemma a which) (Reject b inst) same one two = absurd (none_is_some lemma which two.0 one)
  same_due (ByLemma a which) (Saturated b) same one two = absurd (none_is_some lemma which two.0 one)
  same_due (ByLemma a which) (TooHeavy b inst) same one two = absurd (none_is_some lemma which two.0 one)
  same_due (CoveredBy a by) (ByLemma b which) same one two = absurd (none_is_some lemma which one.0 two)
  same_due (CoveredBy a by) (CoveredBy b other) same one two = ap₂ CoveredBy same (same_some by other (sym one.1 ∙ two.1))
  same_due (CoveredBy a by) (Extend b inst) same one two = absurd (none_is_some cover by two.1 one.1)
  same_due (CoveredBy a by) (Reject b inst) same one two = absurd (none_is_some cover by two.1 one.1)
  same_due (CoveredBy a by) (Saturated b) same one two = absurd (none_is_some cover by two.1 one.1)
  same_due (CoveredBy a by) (TooHeavy b inst) same one two = absurd (none_is_some cover by two.1 one.1)
  same_due (Extend a inst) (ByLemma b which) same one two = absurd (none_is_some lemma which one.0 two)
  same_due (Extend a inst) (CoveredBy b by) same one two = absurd (none_is_some cover by one.1 two.1)
  same_due (Extend a inst) (Extend b other) same one two = ap₂ Extend same (least_same setting.problem node.lits inst other one.2 two.2)
  same_due (Extend a inst) (Reject b other) same one two = absurd (one.3 (insts_conclude inst other (least_same setting.problem node.lits inst other one.2 two.2) two.3))
  same_due (Extend a inst) (Saturated b) same one two = absurd (least_not_saturated setting.problem node.lits inst one.2 two.2)
  same_due (Extend a inst) (TooHeavy b other) same one two = let weights = insts_weigh inst other (least_same setting.problem node.lits inst other one.2 two.2) in absurd (omega (arith, weights, one.4, two.3))
  same_due (Reject a inst) (ByLemma b which) same one two = absurd (none_is_some lemma which one.0 two)
  same_due (Reject a inst) (CoveredBy b by) same one two = absurd (none_is_some cover by one.1 two.1)
  same_due (Reject a inst) (Extend b other) same one two = absurd (two.3 (insts_conclude other inst (least_same setting.problem node.lits other inst two.2 one.2) one.3))
  same_due (Reject a inst) (Reject b other) same one two = ap₂ Reject same (least_same setting.problem node.lits inst other one.2 two.2)
  same_due (Reject a inst) (Saturated b) same one two = absurd (least_not_saturated setting.problem node.lits inst one.2 two.2)
  same_due (Reject a inst) (TooHeavy b other) same one two =
      let empty : other.conclusions ≡ [] = insts_conclude other inst (least_same setting.problem node.lits other inst two.2 one.2) one.3 in
      let none : weight_of other ≡ 0 = ap heaviest empty in
      absurd (omega (arith, none, two.3))
  same_due (Saturated a) (ByLemma b which) same one two = absurd (none_is_some lemma which one.0 two)
  same_due (Saturated a) (CoveredBy b by) same one two = absurd (none_is_some cover by one.1 two.1)
  same_due (Saturated a) (Extend b inst) same one two = absurd (least_not_saturated setting.problem node.lits inst two.2 one.2)
  same_due (Saturated a) (Reject b inst) same one two = absurd (least_not_saturated setting.problem node.lits inst two.2 one.2)
  same_due (Saturated a) (Saturated b) same one two = ap Saturated same
  same_due (Saturated a) (TooHeavy b inst) same one two = absurd (least_not_saturated setting.problem node.lits inst two.2 one.2)
  same_due (TooHeavy a inst) (ByLemma b which) same one two = absurd (none_is_some lemma which one.0 two)
  same_due (TooHeavy a inst) (CoveredBy b by) same one two = absurd (none_is_some cover by one.1 two.1)
  same_due (TooHeavy a inst) (Extend b other) same one two = let weights = insts_weigh inst other (least_same setting.problem node.lits inst other one.2 two.2) in absurd (omega (arith, weights, one.3, two.4))
  same_due (TooHeavy a inst) (Reject b other) same one two =
      let empty : inst.conclusions ≡ [] = insts_conclude inst other (least_same setting.problem node.lits inst other one.2 two.2) two.3 in
      let none : weight_of inst ≡ 0 = ap heaviest empty in
      absurd (omega (arith, none, one.3))
  same_due (TooHeavy a inst) (Saturated b) same one two = absurd (least_not_saturated setting.problem node.lits inst one.2 two.2)
  same_due (TooHeavy a inst) (TooHeavy b other) same one two = ap₂ TooHeavy same (least_same setting.problem node.lits inst other one.2 two.2)

pub one_is_lawful : (setting : Setting) (board : Board) (this that : Event) → IsLawful setting board this → IsLawful setting board that → node_of this ≡ node_of that → this ≡ that
one_is_lawful setting board this that one two same =
    let nodes : one.node ≡ two.node = same_some one.node two.node (sym one.is ∙ ap (slice_get board.nodes) same ∙ two.is) in
    same_due setting board two.node (lemma_for board two.node) (cover_for setting.mode board two.node) this that same
    (subst (λ (node : Node). IsDue setting board node (lemma_for board node) (cover_for setting.mode board node) this) nodes one.due) two.due

-- two nodes neither of which is before the other are one
pub same_place : (setting : Setting) (board : Board) → IsBoard setting board → (a b : ℕ) (one two : Node) → slice_get board.nodes a ≡ Some one → slice_get board.nodes b ≡ Some two → tree_cmp one two ≢ Less → tree_cmp two one ≢ Less → a ≡ b
same_place setting board facts a b one two is_a is_b not_before not_behind =
    let total = lists_total nat_cmp_total in
    let tie : slice_cmp nat_cmp (reverse one.path) (reverse two.path) ≡ Equal = by (tree_cmp one two) (tree_cmp two one) (total.antisymm (reverse one.path) (reverse two.path)) not_before not_behind in
    let turned : reverse one.path ≡ reverse two.path = slices_same nat_cmp nat_same (reverse one.path) (reverse two.path) tie in
    let paths : one.path ≡ two.path = sym (reverse-reverse one.path) ∙ ap reverse turned ∙ reverse-reverse two.path in
    let heads : a ∷ (facts.each a one is_a).above ≡ b ∷ (facts.each b two is_b).above = sym (facts.each a one is_a).path ∙ paths ∙ (facts.each b two is_b).path in
    cc
  where
    by : (r s : Ordering) → r ≡ ordering_reverse s → r ≢ Less → s ≢ Less → r ≡ Equal
    by Less s e p q = absurd (p refl)
    by Equal s e p q = refl
    by Greater Less e p q = absurd (q refl)
    by Greater Equal e p q = cc
    by Greater Greater e p q = cc

-- at most one node is the first open one
pub first_open_same : (setting : Setting) (board : Board) → IsBoard setting board → (a b : ℕ) → IsFirstOpen board a → IsFirstOpen board b → a ≡ b
first_open_same setting board facts a b one two =
    same_place setting board facts a b one.node two.node one.is two.is (two.first a one.node one.is one.opened) (one.first b two.node two.is two.opened)

journals_same : (setting : Setting) → IsProblem setting.problem → (these those : List Event) (board : Board) → IsBoard setting board → IsOneWorker setting board these → IsOneWorker setting board those → these ≡ those
journals_same setting real [] [] board facts one two = refl
journals_same setting real [] (that ∷ those) board facts one two = absurd (two.0 one)
journals_same setting real (this ∷ these) [] board facts one two = absurd (one.0 two)
journals_same setting real (this ∷ these) (that ∷ those) board facts one two =
    let same : this ≡ that = one_is_lawful setting board this that one.1 two.1 (first_open_same setting board facts (node_of this) (node_of that) one.2 two.2) in
    ap₂ (λ event events. event ∷ events) same
    (journals_same setting real these those (effect setting board this) (effect_board setting board real facts this one.1) one.3 (subst (λ event. IsOneWorker setting (effect setting board event) those) (sym same) two.3))

pub one_worker_is_unique : (setting : Setting) → IsProblem setting.problem → (these those : List Event) → IsOneWorker setting opening these → IsOneWorker setting opening those → these ≡ those
one_worker_is_unique setting real these those one two = journals_same setting real these those opening (opening_board setting) one two
