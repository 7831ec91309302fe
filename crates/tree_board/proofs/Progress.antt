-- At an open node an event is lawful, or the node waits for an extension and the budget is spent.
use Rattle.std.proofs.Common.{◌≡◌, ◌≢◌, ℕ, ◌≤◌, List, [], ◌∷◌, slice_get, Contains, Option, Some, None, refl, sym, subst, ◌⊎◌, inl, inr}
use Rattle.std.proofs.lemmas.Bool.{cases_lt}
use Rattle.mg_word.specs.Facts.{ProblemData, IsProblem}
use Rattle.mg_word.specs.declared.lit.Lit.{Lit}
use Rattle.mg_word.specs.declared.form.Inst.{Inst}
use Rattle.mg_meaning.specs.Violation.{weight_of, IsLeast, IsSaturated}
use Rattle.mg_meaning.specs.Listing.{violated_in}
use Rattle.mg_meaning.proofs.Lists.{Contains-first}
use Rattle.mg_meaning.proofs.Listings.{violated_exact}
use Rattle.mg_meaning.proofs.LeastSteps.{none_listed}
use Rattle.mg_meaning.proofs.LightInsts.{least_exists}
use Rattle.tree_board.specs.declared.event.Event.TheVariants.{Extend, Reject, ByLemma, Saturated, Covered as CoveredBy, Heavy as TooHeavy}
use Rattle.tree_board.specs.Boards.{Board, count}
use Rattle.tree_board.specs.Lawful.{lemma_for, cover_for}
use Rattle.tree_board.specs.Laws.{HasEvent}
use Rattle.tree_board.specs.NodeStates.{Open}
use Rattle.tree_board.specs.Nodes.{Node}
use Rattle.tree_board.specs.Settings.{Setting}
use Rattle.tree_board.specs.Stuck.{IsBlockedAt}

-- a branch is saturated, or it has a least violated instance
pub look : (problem : ProblemData) → IsProblem problem → (held : List Lit) → IsSaturated problem held ⊎ ((inst : Inst) × IsLeast problem held inst)
look problem real held = by (violated_in problem held) refl
  where
    by : (insts : List Inst) → violated_in problem held ≡ insts → IsSaturated problem held ⊎ ((inst : Inst) × IsLeast problem held inst)
    by [] is = inl (none_listed problem held (violated_in problem held) (violated_exact problem real held) is)
    by (first ∷ insts) is =
        let own = (violated_exact problem real held first).0 (subst (λ list. Contains list first) (sym is) (Contains-first first insts)) in
        let (least, least_is, no_heavier) = least_exists problem real held first own.0 own.1 in
        inr (least, least_is)

some_first : (lit : Lit) (lits more : List Lit) → lits ≡ lit ∷ more → lits ≢ []
some_first lit lits more e f = cc

pub open_is_due : (setting : Setting) (board : Board) → IsProblem setting.problem → (number : ℕ) (node : Node) → slice_get board.nodes number ≡ Some node → node.state ≡ Open → HasEvent setting board number ⊎ (IsBlockedAt setting board node × (setting.limits.budget ≤ count board))
open_is_due setting board real number node at opened = by_lemma (lemma_for board node) refl
  where
    by_least : lemma_for board node ≡ None → cover_for setting.mode board node ≡ None → (inst : Inst) → IsLeast setting.problem node.lits inst → (conclusions : List Lit) → inst.conclusions ≡ conclusions → HasEvent setting board number ⊎ (IsBlockedAt setting board node × (setting.limits.budget ≤ count board))
    by_least no_lemma no_cover inst least [] empty = inl (record { event = Reject number inst; here = refl; lawful = record { node = node; is = at; opened = opened; due = (no_lemma, no_cover, least, empty) } })
    by_least no_lemma no_cover inst least (lit ∷ more) some = elim (cases_lt setting.limits.weight (weight_of inst)) [
      | inl heavy ↦ inl (record { event = TooHeavy number inst; here = refl; lawful = record { node = node; is = at; opened = opened; due = (no_lemma, no_cover, least, heavy) } })
      | inr light ↦ elim (cases_lt (count board) setting.limits.budget) [
        | inl left ↦ inl (record { event = Extend number inst; here = refl; lawful = record { node = node; is = at; opened = opened; due = (no_lemma, no_cover, least, some_first lit inst.conclusions more some, light, left) } })
        | inr spent ↦ inr (record { lemma = no_lemma; cover = no_cover; inst = inst; least = least; some = some_first lit inst.conclusions more some; light = light }, spent)
      ]
    ]

    by_look : lemma_for board node ≡ None → cover_for setting.mode board node ≡ None → IsSaturated setting.problem node.lits ⊎ ((inst : Inst) × IsLeast setting.problem node.lits inst) → HasEvent setting board number ⊎ (IsBlockedAt setting board node × (setting.limits.budget ≤ count board))
    by_look no_lemma no_cover (inl saturated) = inl (record { event = Saturated number; here = refl; lawful = record { node = node; is = at; opened = opened; due = (no_lemma, no_cover, saturated) } })
    by_look no_lemma no_cover (inr (inst, least)) = by_least no_lemma no_cover inst least inst.conclusions refl

    by_cover : lemma_for board node ≡ None → (cover : Option ℕ) → cover_for setting.mode board node ≡ cover → HasEvent setting board number ⊎ (IsBlockedAt setting board node × (setting.limits.budget ≤ count board))
    by_cover no_lemma None no_cover = by_look no_lemma no_cover (look setting.problem real node.lits)
    by_cover no_lemma (Some cover) is = inl (record { event = CoveredBy number cover; here = refl; lawful = record { node = node; is = at; opened = opened; due = (no_lemma, is) } })

    by_lemma : (lemma : Option ℕ) → lemma_for board node ≡ lemma → HasEvent setting board number ⊎ (IsBlockedAt setting board node × (setting.limits.budget ≤ count board))
    by_lemma None no_lemma = by_cover no_lemma (cover_for setting.mode board node) refl
    by_lemma (Some which) is = inl (record { event = ByLemma number which; here = refl; lawful = record { node = node; is = at; opened = opened; due = is } })
