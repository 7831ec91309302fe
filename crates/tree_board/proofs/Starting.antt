-- The root's cell stands for the opening.
use Rattle.std.proofs.Common.{◌≡◌, ◌≤◌, arith, ℕ, List, [], ◌∷◌, false, None, refl, sym, subst}
use Rattle.mg_word.specs.Facts.{ProblemData, IsProblem}
use Rattle.tree_board.specs.declared.board.TheConstants.{MOST_BUDGET, MOST_WEIGHT}
use Rattle.tree_board.specs.declared.mode.Mode.{Mode}
use Rattle.tree_board.specs.declared.mode.Limits.{Limits}
use Rattle.mg_meaning.specs.Folding.{Pair}
use Rattle.case_split.specs.declared.child.Closure.{Closure}
use Rattle.tree_board.specs.declared.cell.Cell.{Cell}
use Rattle.tree_board.specs.declared.event.Event.{Event}
use Rattle.tree_board.specs.declared.cell.Settled.TheVariants.{Open as OpenCell}
use Rattle.tree_board.specs.Effects.{replay_from}
use Rattle.tree_board.specs.declared.tally.Tally.{Tally}
use Rattle.tree_board.specs.Keeping.{IsKeeping}
use Rattle.tree_board.proofs.Tallying.{opening_tally}

-- the root alone is open
abbrev pub first_tally : Tally
first_tally = record { extensions = 0; opens = 1; has_heavy = false; least_found = None }

pub opening_keeps : (problem : ProblemData) (mode : Mode) (limits : Limits) → IsProblem problem → limits.budget ≤ MOST_BUDGET → limits.weight ≤ MOST_WEIGHT
    → IsKeeping (record { problem = problem; mode = mode; limits = limits; journal = [] }) (record { parent = 0; settled = OpenCell; is_closed = false; lemma = None; own_lemma = None } ∷ []) [] [] [] first_tally
unfolding replay_from
opening_keeps problem mode limits facts within light = record {
  problem = facts;
  budget = within;
  weight = light;
  lawful = tt;
  stand = record { nodes = (record { parent = refl; settled = refl; closed = refl; lemma = refl; own = refl }, tt); pairs = refl; owners = refl };
  count = refl;
  tallied = opening_tally;
  few = omega arith;
}

-- fields that are so keep the opening
pub starts : (problem : ProblemData) (mode : Mode) (limits : Limits) (journal : List Event) (cells : List Cell) (closures : List Closure) (lemmas : List Pair) (lemma_nodes : List ℕ) → IsProblem problem → limits.budget ≤ MOST_BUDGET → limits.weight ≤ MOST_WEIGHT
    → journal ≡ [] → cells ≡ record { parent = 0; settled = OpenCell; is_closed = false; lemma = None; own_lemma = None } ∷ [] → closures ≡ [] → lemmas ≡ [] → lemma_nodes ≡ []
    → IsKeeping (record { problem = problem; mode = mode; limits = limits; journal = journal }) cells closures lemmas lemma_nodes first_tally
starts problem mode limits journal cells closures lemmas lemma_nodes facts within light none root no_closure no_lemma no_owner =
    subst (λ events. IsKeeping (record { problem = problem; mode = mode; limits = limits; journal = events }) cells closures lemmas lemma_nodes first_tally) (sym none)
    (subst (λ one. IsKeeping (record { problem = problem; mode = mode; limits = limits; journal = [] }) one closures lemmas lemma_nodes first_tally) (sym root)
    (subst (λ one. IsKeeping (record { problem = problem; mode = mode; limits = limits; journal = [] }) (record { parent = 0; settled = OpenCell; is_closed = false; lemma = None; own_lemma = None } ∷ []) one lemmas lemma_nodes first_tally) (sym no_closure)
    (subst (λ one. IsKeeping (record { problem = problem; mode = mode; limits = limits; journal = [] }) (record { parent = 0; settled = OpenCell; is_closed = false; lemma = None; own_lemma = None } ∷ []) [] one lemma_nodes first_tally) (sym no_lemma)
    (subst (λ one. IsKeeping (record { problem = problem; mode = mode; limits = limits; journal = [] }) (record { parent = 0; settled = OpenCell; is_closed = false; lemma = None; own_lemma = None } ∷ []) [] [] one first_tally) (sym no_owner)
    (opening_keeps problem mode limits facts within light)))))
