-- A lawful event keeps what holds of each node, before any closing upwards.
use Rattle.std.proofs.Common.{◌≡◌, ℕ, zero, suc, ◌+◌, ◌<◌, ◌≤◌, Bool, true, false, true≢false, List, [], ◌∷◌, ◌++◌, length, slice_get, slice_set, get_or, position, Option, Some, None, option_map, refl, sym, ap, subst, ◌∙◌, inl, inr, arith}
use Rattle.std.proofs.lemmas.Bool.{cases_eq}
use Rattle.std.proofs.lemmas.Option.{slice_get-get_or}
use Rattle.std.proofs.lemmas.List.Quantifiers.{position-Some}
use Rattle.mg_word.specs.Words.{complement_of, numbered}
use Rattle.mg_word.specs.Sets.{holds, is_part, is_proper_part, meets, with_lit}
use Rattle.mg_word.specs.Facts.{IsProblem}
use Rattle.mg_word.specs.declared.lit.Lit.{Lit}
use Rattle.mg_word.specs.declared.form.Inst.{Inst}
use Rattle.mg_word.proofs.Members.{both_true, and_true, not_met, holds_left}
use Rattle.mg_meaning.specs.Instances.{are_literals}
use Rattle.mg_meaning.specs.Folding.{Pair, rejecting, clashing, barring}
use Rattle.mg_meaning.proofs.Lists.{contains_from}
use Rattle.mg_meaning.proofs.Excluded.{violated_parts, rejecting_excludes, clashing_excludes, barring_excludes}
use Rattle.tree_board.specs.declared.event.Event.{Event}
use Rattle.tree_board.specs.declared.event.Event.TheVariants.{Extend, Reject, ByLemma, Saturated, Covered as CoveredBy, Heavy as TooHeavy}
use Rattle.tree_board.specs.declared.mode.Mode.{Mode}
use Rattle.tree_board.specs.declared.mode.Mode.TheVariants.{Refute, List as ListAll}
use Rattle.branch_lemmas.specs.Leaves.{lemma_of}
use Rattle.case_split.specs.Splitting.{closure_by}
use Rattle.case_split.specs.declared.child.Closure.TheVariants.{Clash, Barred}
use Rattle.tree_board.specs.Boards.{Kept, Board}
use Rattle.tree_board.specs.Children.{state_at_birth, children_of}
use Rattle.tree_board.proofs.Births.{child}
use Rattle.tree_board.specs.Effects.{settled, born, moved}
use Rattle.tree_board.specs.Events.{node_of, insts_in}
use Rattle.tree_board.specs.Facts.{IsAmong, IsClean, IsPath, HasChildren, IsCovered, IsLemmaOf, IsSound, IsBoard}
use Rattle.tree_board.specs.Lawful.{applies_at, lemma_for, covers, cover_for, IsDue}
use Rattle.tree_board.specs.NodeStates.{NodeState, Open, Split, Rejected, Settled, Shut, Found, Covered, Heavy, is_found}
use Rattle.tree_board.specs.Nodes.{Node}
use Rattle.tree_board.specs.Settings.{Setting}
use Rattle.tree_board.proofs.Places.{get_right, same_some, still, there_now, among_left, among_right, within, length-slice_set}
use Rattle.tree_board.proofs.Growth.{Grows, path_stays, covered_stays, excludes_more}
use Rattle.tree_board.proofs.Cleaning.{clean_more, clean_barred, held_fits, fits_more, part_of_set, new_is_held}

pub insts-append : (xs ys : List Event) → insts_in (xs ++ ys) ≡ insts_in xs ++ insts_in ys
insts-append [] ys = refl
insts-append (Extend node inst ∷ xs) ys = ap (λ rest. inst ∷ rest) (insts-append xs ys)
insts-append (Reject node inst ∷ xs) ys = ap (λ rest. inst ∷ rest) (insts-append xs ys)
insts-append (ByLemma node lemma ∷ xs) ys = insts-append xs ys
insts-append (Saturated node ∷ xs) ys = insts-append xs ys
insts-append (CoveredBy node by ∷ xs) ys = insts-append xs ys
insts-append (TooHeavy node inst ∷ xs) ys = insts-append xs ys

pub insts_more : (journal : List Event) (event : Event) (inst : Inst) → IsAmong (insts_in journal) inst → IsAmong (insts_in (journal ++ event ∷ [])) inst
insts_more journal event inst there = subst (λ insts. IsAmong insts inst) (sym (insts-append journal (event ∷ []))) (among_left (insts_in journal) (insts_in (event ∷ [])) inst there)

pub inst_new : (journal : List Event) (event : Event) (inst : Inst) → IsAmong (insts_in (event ∷ [])) inst → IsAmong (insts_in (journal ++ event ∷ [])) inst
inst_new journal event inst there = subst (λ insts. IsAmong insts inst) (sym (insts-append journal (event ∷ []))) (among_right (insts_in journal) (insts_in (event ∷ [])) inst there)

-- a settled node keeps its path, literals and barred set
pub record Keeps (node after : Node) : Type 0 where
  pub path : after.path ≡ node.path
  pub lits : after.lits ≡ node.lits
  pub barred : after.barred ≡ node.barred

pub settled_keeps : (board : Board) (node : Node) (event : Event) → Keeps node (settled board node event)
settled_keeps board node (Extend number inst) = record { path = refl; lits = refl; barred = refl }
settled_keeps board node (Reject number inst) = record { path = refl; lits = refl; barred = refl }
settled_keeps board node (ByLemma number lemma) = record { path = refl; lits = refl; barred = refl }
settled_keeps board node (Saturated number) = record { path = refl; lits = refl; barred = refl }
settled_keeps board node (CoveredBy number by) = record { path = refl; lits = refl; barred = refl }
settled_keeps board node (TooHeavy number inst) = record { path = refl; lits = refl; barred = refl }

pub moved_grows : (board : Board) (node : Node) (event : Event) → slice_get board.nodes (node_of event) ≡ Some node → node.state ≡ Open → node.own ≡ None → Grows board (moved board node event)
moved_grows board node event at opened unclosed = record {
  nodes = λ number one is. elim (cases_eq number (node_of event)) [
    | inl same ↦
        let own : one ≡ node = same_some one node (sym is ∙ ap (slice_get board.nodes) same ∙ at) in
        let keeps = settled_keeps board node event in
        record {
          after = settled board node event;
          is = ap (slice_get (moved board node event).nodes) same ∙ there_now board.nodes (born board node event) (node_of event) node (settled board node event) at;
          later = record {
            path = keeps.path ∙ ap (λ (one : Node). one.path) (sym own);
            lits = keeps.lits ∙ ap (λ (one : Node). one.lits) (sym own);
            barred = keeps.barred ∙ ap (λ (one : Node). one.barred) (sym own);
            state = inl (ap (λ (one : Node). one.state) own ∙ opened);
            own = inl (ap (λ (one : Node). one.own) own ∙ unclosed);
          };
        }
    | inr apart ↦ record {
      after = one;
      is = still board.nodes (born board node event) (node_of event) number (settled board node event) one apart is;
      later = record { path = refl; lits = refl; barred = refl; state = inr refl; own = inr refl };
    }
  ];
  insts = λ inst there. insts_more board.journal event inst there;
  kept = λ number kept is. is;
}

-- ---- the children

-- each child stands at its place
born_there : (nodes : List Node) (path : List ℕ) (lits barred conclusions : List Lit) (first : ℕ) → ((j : ℕ) (x : Node) → slice_get (children_of first path lits barred conclusions) j ≡ Some x → slice_get nodes (first + j) ≡ Some x)
    → HasChildren nodes first path lits barred conclusions
born_there nodes path lits barred [] first there = tt
born_there nodes path lits barred (lit ∷ more) first there = (
  record {
    node = child first path lits barred lit;
    is = ap (slice_get nodes) (let e : first ≡ first + 0 = omega arith in e) ∙ there 0 (child first path lits barred lit) refl;
    path = refl;
    lits = refl;
    barred = refl;
  },
  born_there nodes path lits (with_lit barred lit) more (suc first) (λ j x is. ap (slice_get nodes) (let e : suc first + j ≡ first + suc j = omega arith in e) ∙ there (suc j) x is),
)

pub none_some : (pair : Pair) → None ≡ Some pair → ⊥
none_some pair e = cc

-- a child, by how it is closed at once
child_sound : (setting : Setting) (board : Board) (number : ℕ) (above : List ℕ) (lits barred : List Lit) (lit : Lit) → IsPath board.nodes (number ∷ above) → are_literals setting.problem.symbols (lits ++ lit ∷ []) ≡ true → IsClean lits barred → holds lits lit ≡ false
    → (held bars : Bool) → holds lits (complement_of lit) ≡ held → holds barred lit ≡ bars
    → IsSound setting board number (record { path = number ∷ above; lits = lits ++ lit ∷ []; barred = barred; state = state_at_birth (closure_by held bars lit); own = option_map lemma_of (closure_by held bars lit) })
child_sound setting board number above lits barred lit rooted fitting clean out true bars held_is bars_is = record {
  above = above;
  path = refl;
  rooted = rooted;
  fitting = fitting;
  clean = λ e. absurd (true≢false e);
  state = ((new_is_held lits lit, holds_left lits (lit ∷ []) (complement_of lit) held_is), refl);
  lemma = λ pair is.
      let same : clashing lit ≡ pair = same_some (clashing lit) pair is in
      subst (IsLemmaOf board (record { path = number ∷ above; lits = lits ++ lit ∷ []; barred = barred; state = Shut (Clash lit); own = Some (clashing lit) })) same (record {
        excludes = clashing_excludes (insts_in board.journal) lit;
        inside = part_of_set (lit ∷ complement_of lit ∷ []) (lits ++ lit ∷ []) (and_true (holds (lits ++ lit ∷ []) lit) (is_part (complement_of lit ∷ []) (lits ++ lit ∷ [])) (new_is_held lits lit)
            (and_true (holds (lits ++ lit ∷ []) (complement_of lit)) true (holds_left lits (lit ∷ []) (complement_of lit) held_is) refl));
        outside = refl;
      });
}
child_sound setting board number above lits barred lit rooted fitting clean out false true held_is bars_is = record {
  above = above;
  path = refl;
  rooted = rooted;
  fitting = fitting;
  clean = λ e. absurd (true≢false e);
  state = ((new_is_held lits lit, bars_is), refl);
  lemma = λ pair is.
      let same : barring lit ≡ pair = same_some (barring lit) pair is in
      subst (IsLemmaOf board (record { path = number ∷ above; lits = lits ++ lit ∷ []; barred = barred; state = Shut (Barred lit); own = Some (barring lit) })) same (record {
        excludes = barring_excludes (insts_in board.journal) lit;
        inside = and_true (holds (lits ++ lit ∷ []) lit) true (new_is_held lits lit) refl;
        outside = and_true (holds barred lit) true bars_is refl;
      });
}
child_sound setting board number above lits barred lit rooted fitting clean out false false held_is bars_is = record {
  above = above;
  path = refl;
  rooted = rooted;
  fitting = fitting;
  clean = λ e. clean_more lits barred lit clean out held_is bars_is;
  state = refl;
  lemma = λ pair is. absurd (none_some pair is);
}

-- all of them
pub born_sound : (setting : Setting) (board : Board) (above : List ℕ) (lits conclusions : List Lit) → are_literals setting.problem.symbols lits ≡ true → are_literals setting.problem.symbols conclusions ≡ true → meets conclusions lits ≡ false
    → (first most : ℕ) → ((number : ℕ) → first ≤ number → number < most → IsPath board.nodes (number ∷ above))
    → (barred more : List Lit) → is_part more conclusions ≡ true → (number : ℕ) → first ≤ number → number + length more ≤ most → IsClean lits barred
    → (j : ℕ) (x : Node) → slice_get (children_of number above lits barred more) j ≡ Some x → IsSound setting board (number + j) x
born_sound setting board above lits conclusions fitting own out first most rooted barred [] part number from to clean j x is = cc
born_sound setting board above lits conclusions fitting own out first most rooted barred (lit ∷ more) part number from to clean zero x is =
    let parts = both_true (holds conclusions lit) (is_part more conclusions) part in
    let new = not_met conclusions lits lit out parts.0 in
    let one = child_sound setting board number above lits barred lit (rooted number from (omega arith)) (fits_more setting.problem.symbols lits lit fitting (held_fits setting.problem.symbols conclusions lit own parts.0)) clean new
    (holds lits (complement_of lit)) (holds barred lit) refl refl in
    let same : child number above lits barred lit ≡ x = same_some (child number above lits barred lit) x is in
    subst (λ place. IsSound setting board place x) (let e : number ≡ number + 0 = omega arith in e) (subst (IsSound setting board number) same one)
born_sound setting board above lits conclusions fitting own out first most rooted barred (lit ∷ more) part number from to clean (suc j) x is =
    let parts = both_true (holds conclusions lit) (is_part more conclusions) part in
    let new = not_met conclusions lits lit out parts.0 in
    subst (λ place. IsSound setting board place x) (let e : suc number + j ≡ number + suc j = omega arith in e)
    (born_sound setting board above lits conclusions fitting own out first most rooted (with_lit barred lit) more parts.1 (suc number) (omega arith) (omega arith) (clean_barred lits barred lit clean new) j x is)

-- ---- the node that is settled

pub found_state : (state : NodeState) → is_found state ≡ true → state ≡ Found
found_state Found e = refl
found_state Open e = absurd (true≢false (sym e))
found_state (Split inst first) e = absurd (true≢false (sym e))
found_state (Rejected inst) e = absurd (true≢false (sym e))
found_state (Settled lemma) e = absurd (true≢false (sym e))
found_state (Shut closure) e = absurd (true≢false (sym e))
found_state (Covered by) e = absurd (true≢false (sym e))
found_state (Heavy inst) e = absurd (true≢false (sym e))

-- the lemma that applies first does apply
pub lemma_found : (board : Board) (node : Node) (which : ℕ) → lemma_for board node ≡ Some which → (kept : Kept) × (numbered board.kept which ≡ Some kept) × (applies_at node kept ≡ true)
lemma_found board node which e = by (position (applies_at node) board.kept) refl e
  where
    by : (at : Option ℕ) → position (applies_at node) board.kept ≡ at → option_map suc at ≡ Some which → (kept : Kept) × (numbered board.kept which ≡ Some kept) × (applies_at node kept ≡ true)
    by None is e = absurd (let bad : ⊥ = cc in bad)
    by (Some i) is e =
        let at = position-Some (applies_at node) board.kept i (record { node = 0; pair = record { inside = []; outside = [] } }) is in
        let one = get_or board.kept i (record { node = 0; pair = record { inside = []; outside = [] } }) in
        let same : suc i ≡ which = same_some (suc i) which e in
        (one, ap (numbered board.kept) (sym same) ∙ slice_get-get_or board.kept i (record { node = 0; pair = record { inside = []; outside = [] } }) at.0, at.1)

-- and the node that covers is found, with a proper part
pub cover_found : (mode : Mode) (board : Board) (node : Node) (by : ℕ) → cover_for mode board node ≡ Some by → IsCovered board node by
cover_found Refute board node by e = cc
cover_found ListAll board node by e =
    let spare : Node = record { path = []; lits = []; barred = []; state = Open; own = None } in
    let at = position-Some (covers node) board.nodes by spare e in
    let other = get_or board.nodes by spare in
    let parts = both_true (is_found other.state) (is_proper_part other.lits node.lits) at.1 in
    record { other = other; is = slice_get-get_or board.nodes by spare at.0; found = found_state other.state parts.0; proper = parts.1 }

pub some_pair : (kept : Kept) (o : Option Kept) → o ≡ Some kept → option_map (λ (one : Kept). one.pair) o ≡ Some kept.pair
some_pair kept o e = ap (option_map (λ (one : Kept). one.pair)) e

pub settled_sound : (setting : Setting) (board : Board) → IsProblem setting.problem → IsBoard setting board → (node : Node) (event : Event) → slice_get board.nodes (node_of event) ≡ Some node → node.state ≡ Open → node.own ≡ None → IsClean node.lits node.barred
    → IsDue setting board node (lemma_for board node) (cover_for setting.mode board node) event → IsSound setting (moved board node event) (node_of event) (settled board node event)
settled_sound setting board real facts node (Extend number inst) at opened unclosed clean due =
    let one = facts.each number node at in
    let grows = moved_grows board node (Extend number inst) at opened unclosed in
    record {
      above = one.above;
      path = one.path;
      rooted = path_stays board (moved board node (Extend number inst)) grows node.path one.rooted;
      fitting = one.fitting;
      clean = λ e. clean;
      state = record {
        least = due.2;
        used = inst_new board.journal (Extend number inst) inst (inl refl);
        later = within board.nodes number node at;
        children = born_there (moved board node (Extend number inst)).nodes node.path node.lits node.barred inst.conclusions (length board.nodes)
            (λ j x is. get_right (slice_set board.nodes number (settled board node (Extend number inst))) (born board node (Extend number inst)) (length board.nodes + j) j
            (ap (λ size. size + j) (sym (length-slice_set board.nodes number (settled board node (Extend number inst))))) ∙ is);
        folded = λ pair is. absurd (none_some pair (sym unclosed ∙ is));
      };
      lemma = λ pair is. absurd (none_some pair (sym unclosed ∙ is));
    }
settled_sound setting board real facts node (Reject number inst) at opened unclosed clean due =
    let one = facts.each number node at in
    let grows = moved_grows board node (Reject number inst) at opened unclosed in
    let used = inst_new board.journal (Reject number inst) inst (inl refl) in
    record {
      above = one.above;
      path = one.path;
      rooted = path_stays board (moved board node (Reject number inst)) grows node.path one.rooted;
      fitting = one.fitting;
      clean = λ e. clean;
      state = (due.2, due.3, used, refl);
      lemma = λ pair is. subst (IsLemmaOf (moved board node (Reject number inst)) (settled board node (Reject number inst))) (same_some (rejecting inst) pair is) (record {
        excludes = rejecting_excludes (insts_in (moved board node (Reject number inst)).journal) inst (contains_from (insts_in (moved board node (Reject number inst)).journal) inst used) due.3;
        inside = part_of_set inst.premises node.lits (violated_parts node.lits inst due.2.violated).0;
        outside = refl;
      });
    }
settled_sound setting board real facts node (ByLemma number which) at opened unclosed clean due =
    let one = facts.each number node at in
    let grows = moved_grows board node (ByLemma number which) at opened unclosed in
    let (kept, is_kept, fine) = lemma_found board node which due in
    let own = facts.kept which kept is_kept in
    let source = (facts.each kept.node own.node own.is).lemma kept.pair own.own in
    let parts = both_true (is_part kept.pair.inside node.lits) (is_part kept.pair.outside node.barred) fine in
    record {
      above = one.above;
      path = one.path;
      rooted = path_stays board (moved board node (ByLemma number which)) grows node.path one.rooted;
      fitting = one.fitting;
      clean = λ e. clean;
      state = (kept.pair, some_pair kept (numbered board.kept which) is_kept, some_pair kept (numbered board.kept which) is_kept);
      lemma = λ pair is. subst (IsLemmaOf (moved board node (ByLemma number which)) (settled board node (ByLemma number which))) (same_some kept.pair pair (sym (some_pair kept (numbered board.kept which) is_kept) ∙ is)) (record {
        excludes = excludes_more (insts_in board.journal) (insts_in (moved board node (ByLemma number which)).journal) grows.insts kept.pair.inside kept.pair.outside source.excludes;
        inside = parts.0;
        outside = parts.1;
      });
    }
settled_sound setting board real facts node (Saturated number) at opened unclosed clean due =
    let one = facts.each number node at in
    let grows = moved_grows board node (Saturated number) at opened unclosed in
    record {
      above = one.above;
      path = one.path;
      rooted = path_stays board (moved board node (Saturated number)) grows node.path one.rooted;
      fitting = one.fitting;
      clean = λ e. clean;
      state = (due.2, unclosed);
      lemma = λ pair is. absurd (none_some pair (sym unclosed ∙ is));
    }
settled_sound setting board real facts node (CoveredBy number by) at opened unclosed clean due =
    let one = facts.each number node at in
    let grows = moved_grows board node (CoveredBy number by) at opened unclosed in
    record {
      above = one.above;
      path = one.path;
      rooted = path_stays board (moved board node (CoveredBy number by)) grows node.path one.rooted;
      fitting = one.fitting;
      clean = λ e. clean;
      state = (
        let covered = covered_stays board (moved board node (CoveredBy number by)) grows node by (cover_found setting.mode board node by due.1) in
            record { other = covered.other; is = covered.is; found = covered.found; proper = covered.proper },
        unclosed,
      );
      lemma = λ pair is. absurd (none_some pair (sym unclosed ∙ is));
    }
settled_sound setting board real facts node (TooHeavy number inst) at opened unclosed clean due =
    let one = facts.each number node at in
    let grows = moved_grows board node (TooHeavy number inst) at opened unclosed in
    record {
      above = one.above;
      path = one.path;
      rooted = path_stays board (moved board node (TooHeavy number inst)) grows node.path one.rooted;
      fitting = one.fitting;
      clean = λ e. clean;
      state = (due.2, due.3, unclosed);
      lemma = λ pair is. absurd (none_some pair (sym unclosed ∙ is));
    }
