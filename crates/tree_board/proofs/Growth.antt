-- What stays of a board as it grows.
use Rattle.std.proofs.Common.{◌≡◌, ℕ, suc, true, false, not, List, [], ◌∷◌, slice_get, Option, Some, None, option_map, refl, sym, ap, ap₂, subst, ◌∙◌, ◌⊎◌, inl, inr}
use Rattle.mg_word.specs.Words.{numbered}
use Rattle.mg_word.specs.Sets.{is_proper_part, with_lit}
use Rattle.mg_word.specs.declared.lit.Lit.{Lit}
use Rattle.mg_word.specs.declared.form.Inst.{Inst}
use Rattle.mg_word.proofs.Members.{both_true, and_true, not_true, not_false}
use Rattle.mg_meaning.specs.Violation.{is_violated}
use Rattle.mg_meaning.specs.Excluding.{obeys, ExcludesBy}
use Rattle.mg_meaning.specs.Folding.{Pair}
use Rattle.tree_board.specs.Boards.{Kept, Board, own_of, pair_at}
use Rattle.tree_board.specs.Closings.{cons_pair, pairs_at}
use Rattle.tree_board.specs.Events.{insts_in}
use Rattle.tree_board.specs.Facts.{IsAmong, IsChildOf, IsPath, HasChildren, IsSplit, IsCovered, StateHolds, IsLemmaOf, IsSound}
use Rattle.tree_board.specs.NodeStates.{NodeState, Open, Split, Rejected, Settled, Shut, Found, Covered, Heavy}
use Rattle.tree_board.specs.Nodes.{Node}
use Rattle.tree_board.specs.Settings.{Setting}

-- the node with something settled or closed
pub record IsLater (node after : Node) : Type 0 where
  pub path : after.path ≡ node.path
  pub lits : after.lits ≡ node.lits
  pub barred : after.barred ≡ node.barred
  pub state : (node.state ≡ Open) ⊎ (after.state ≡ node.state)
  pub own : (node.own ≡ None) ⊎ (after.own ≡ node.own)

pub record StaysAt (nodes : List Node) (number : ℕ) (node : Node) : Type 0 where
  pub after : Node
  pub is : slice_get nodes number ≡ Some after
  pub later : IsLater node after

-- the second board has all of the first
pub record Grows (old new : Board) : Type 0 where
  pub nodes : (number : ℕ) (node : Node) → slice_get old.nodes number ≡ Some node → StaysAt new.nodes number node
  pub insts : (inst : Inst) → IsAmong (insts_in old.journal) inst → IsAmong (insts_in new.journal) inst
  pub kept : (number : ℕ) (kept : Kept) → numbered old.kept number ≡ Some kept → numbered new.kept number ≡ Some kept

pub not_split : (inst : Inst) (first : ℕ) (state : NodeState) → state ≡ Split inst first → state ≡ Open → ⊥
not_split inst first state e f = cc

pub child_of_stays : (old new : Board) → Grows old new → (number parent : ℕ) → IsChildOf old.nodes number parent → IsChildOf new.nodes number parent
child_of_stays old new grows number parent one =
    let stays = grows.nodes parent one.node one.is in
    let same : stays.after.state ≡ Split one.inst one.first = elim stays.later.state [
      | inl opened ↦ absurd (not_split one.inst one.first one.node.state one.state opened)
      | inr same ↦ same ∙ one.state
    ] in
    record { node = stays.after; is = stays.is; inst = one.inst; first = one.first; state = same; from = one.from; below = one.below }

pub path_stays : (old new : Board) → Grows old new → (path : List ℕ) → IsPath old.nodes path → IsPath new.nodes path
path_stays old new grows [] is = is
path_stays old new grows (number ∷ []) is = is
path_stays old new grows (number ∷ parent ∷ above) is = (child_of_stays old new grows number parent is.0, path_stays old new grows (parent ∷ above) is.1)

pub children_stay : (old new : Board) → Grows old new → (first : ℕ) (path : List ℕ) (lits barred conclusions : List Lit) → HasChildren old.nodes first path lits barred conclusions → HasChildren new.nodes first path lits barred conclusions
children_stay old new grows first path lits barred [] are = tt
children_stay old new grows first path lits barred (lit ∷ more) (one, rest) =
    let stays = grows.nodes first one.node one.is in (
      record { node = stays.after; is = stays.is; path = stays.later.path ∙ one.path; lits = stays.later.lits ∙ one.lits; barred = stays.later.barred ∙ one.barred },
      children_stay old new grows (suc first) path lits (with_lit barred lit) more rest,
    )

pub own_stays : (old new : Board) → Grows old new → (number : ℕ) (pair : Pair) → own_of (slice_get old.nodes number) ≡ Some pair → own_of (slice_get new.nodes number) ≡ Some pair
own_stays old new grows number pair e = by (slice_get old.nodes number) refl e
  where
    by : (node : Option Node) → slice_get old.nodes number ≡ node → own_of node ≡ Some pair → own_of (slice_get new.nodes number) ≡ Some pair
    by None is e = cc
    by (Some node) is e =
        let stays = grows.nodes number node is in
        ap own_of stays.is ∙ elim stays.later.own [
          | inl none ↦ absurd (let bad : ⊥ = cc in bad)
          | inr same ↦ same ∙ e
        ]

-- a list of lemmas, one for each child, has each of them
pub cons_pair_parts : (one : Option Pair) (rest : Option (List Pair)) (pairs : List Pair) → cons_pair one rest ≡ Some pairs → (pair : Pair) × (more : List Pair) × (one ≡ Some pair) × (rest ≡ Some more) × (pairs ≡ pair ∷ more)
cons_pair_parts None rest pairs e = cc
cons_pair_parts (Some pair) None pairs e = cc
cons_pair_parts (Some pair) (Some more) pairs e = (pair, more, refl, refl, cc)

pub pairs_stay : (old new : Board) → Grows old new → (first : ℕ) (conclusions : List Lit) (pairs : List Pair) → pairs_at old.nodes first conclusions ≡ Some pairs → pairs_at new.nodes first conclusions ≡ Some pairs
pairs_stay old new grows first [] pairs e = e
pairs_stay old new grows first (lit ∷ more) pairs e =
    let parts = cons_pair_parts (own_of (slice_get old.nodes first)) (pairs_at old.nodes (suc first) more) pairs e in
    let one = own_stays old new grows first parts.0 parts.2 in
    let rest = pairs_stay old new grows (suc first) more parts.1 parts.3 in
    ap₂ cons_pair one rest ∙ ap Some (sym parts.4)

pub split_stays : (setting : Setting) (old new : Board) → Grows old new → (number : ℕ) (node : Node) (inst : Inst) (first : ℕ) → IsSplit setting old number node inst first → IsSplit setting new number node inst first
split_stays setting old new grows number node inst first one = record {
  least = one.least;
  used = grows.insts inst one.used;
  later = one.later;
  children = children_stay old new grows first node.path node.lits node.barred inst.conclusions one.children;
  folded = λ pair is. let folds = one.folded pair is in (folds.0, pairs_stay old new grows first inst.conclusions folds.0 folds.1, folds.2);
}

pub pair_stays : (old new : Board) → Grows old new → (lemma : ℕ) (pair : Pair) → pair_at old.kept lemma ≡ Some pair → pair_at new.kept lemma ≡ Some pair
pair_stays old new grows lemma pair e = by (numbered old.kept lemma) refl e
  where
    by : (one : Option Kept) → numbered old.kept lemma ≡ one → option_map (λ (kept : Kept). kept.pair) one ≡ Some pair → pair_at new.kept lemma ≡ Some pair
    by None is e = cc
    by (Some kept) is e = ap (option_map (λ (kept : Kept). kept.pair)) (grows.kept lemma kept is) ∙ e

pub covered_stays : (old new : Board) → Grows old new → (node : Node) (by : ℕ) → IsCovered old node by → IsCovered new node by
covered_stays old new grows node by one =
    let stays = grows.nodes by one.other one.is in
    record {
      other = stays.after;
      is = stays.is;
      found = elim stays.later.state [
        | inl opened ↦ absurd (let bad : Found ≡ Open = sym one.found ∙ opened in let no_way : ⊥ = cc in no_way)
        | inr same ↦ same ∙ one.found
      ];
      proper = subst (λ lits. is_proper_part lits node.lits ≡ true) (sym stays.later.lits) one.proper;
    }

pub state_stays : (setting : Setting) (old new : Board) → Grows old new → (number : ℕ) (node : Node) (state : NodeState) → StateHolds setting old number node state → StateHolds setting new number node state
state_stays setting old new grows number node Open holds = holds
state_stays setting old new grows number node (Split inst first) holds = split_stays setting old new grows number node inst first holds
state_stays setting old new grows number node (Rejected inst) holds = (holds.0, holds.1, grows.insts inst holds.2, holds.3)
state_stays setting old new grows number node (Settled lemma) holds = (holds.0, pair_stays old new grows lemma holds.0 holds.1, holds.2)
state_stays setting old new grows number node (Shut closure) holds = holds
state_stays setting old new grows number node Found holds = holds
state_stays setting old new grows number node (Covered by) holds = (covered_stays old new grows node by holds.0, holds.1)
state_stays setting old new grows number node (Heavy inst) holds = holds

-- what obeys more instances obeys fewer
pub obeys_fewer : (fewer more : List Inst) → ((inst : Inst) → IsAmong fewer inst → IsAmong more inst) → (set : List Lit) → obeys more set ≡ true → obeys fewer set ≡ true
obeys_fewer [] more all set obeying = refl
obeys_fewer (first ∷ fewer) more all set obeying =
    and_true (not (is_violated set first)) (obeys fewer set) (not_false (is_violated set first) (fine more (all first (inl refl)) obeying)) (obeys_fewer fewer more (λ inst there. all inst (inr there)) set obeying)
  where
    fine : (insts : List Inst) → IsAmong insts first → obeys insts set ≡ true → is_violated set first ≡ false
    fine [] there e = absurd there
    fine (inst ∷ insts) (inl same) e = ap (is_violated set) (sym same) ∙ not_true (is_violated set inst) (both_true (not (is_violated set inst)) (obeys insts set) e).0
    fine (inst ∷ insts) (inr later) e = fine insts later (both_true (not (is_violated set inst)) (obeys insts set) e).1

pub excludes_more : (fewer more : List Inst) → ((inst : Inst) → IsAmong fewer inst → IsAmong more inst) → (inside outside : List Lit) → ExcludesBy fewer inside outside → ExcludesBy more inside outside
excludes_more fewer more all inside outside by set free obeying = by set free (obeys_fewer fewer more all set obeying)

pub lemma_stays : (old new : Board) → Grows old new → (node : Node) (pair : Pair) → IsLemmaOf old node pair → IsLemmaOf new node pair
lemma_stays old new grows node pair one = record {
  excludes = excludes_more (insts_in old.journal) (insts_in new.journal) grows.insts pair.inside pair.outside one.excludes;
  inside = one.inside;
  outside = one.outside;
}

-- what holds of a node still holds of it where it is the same
pub sound_stays : (setting : Setting) (old new : Board) → Grows old new → (number : ℕ) (node : Node) → IsSound setting old number node → IsSound setting new number node
sound_stays setting old new grows number node one = record {
  above = one.above;
  path = one.path;
  rooted = path_stays old new grows node.path one.rooted;
  fitting = one.fitting;
  clean = one.clean;
  state = state_stays setting old new grows number node node.state one.state;
  lemma = λ pair is. lemma_stays old new grows node pair (one.lemma pair is);
}
