-- The minimal ones among the found sets of a board.
use Rattle.std.proofs.Common.{◌≡◌, ◌++◌, ◌∷◌, ◌∙◌, All, Bool, Err, Global, List, Ok, Result, Vec, [], ap, append-nil, cond, false, filter, refl, subst, sym, true, true≢false}
use Rattle.std.specs.Prelude.{IfOk}
use Rattle.std.specs.Ordering.{is_lt}
use Rattle.std.specs.declared.cmp.Ordering.{Ordering}
use Rattle.std.specs.declared.cmp.Ordering.TheVariants.{Equal, Greater, Less}
use Rattle.std.proofs.lemmas.Bool.{and_from}
use Rattle.std.proofs.lemmas.List.Elements.{filter-append}
use Rattle.mg_word.specs.Facts.{IsProblem, ProblemData}
use Rattle.mg_word.specs.OrderLaws.{lits_total}
use Rattle.mg_word.specs.Orders.{lits_cmp}
use Rattle.mg_word.specs.Sets.{set_of}
use Rattle.mg_word.specs.declared.lit.Lit.{Lit}
use Rattle.mg_word.specs.declared.memory.NoMemory.{NoMemory}
use Rattle.mg_word.proofs.Members.{both_true, never_true, part_of_itself}
use Rattle.mg_meaning.specs.Deciding.{is_least}
use Rattle.mg_meaning.specs.Minimality.{are_sets_rising, is_set_below_first}
use Rattle.mg_meaning.specs.Satisfaction.{Satisfies}
use Rattle.mg_meaning.proofs.Decided.{least_decided}
use Rattle.mg_meaning.proofs.Lists.{all_among, among_from, contains_from}
use Rattle.mg_meaning.proofs.Listings.{among-filter, among_filtered}
use Rattle.mg_meaning.proofs.PartsTried.{satisfies_same}
use Rattle.minimal_test.specs.Verdicts.{IsRight}
use Rattle.minimal_test.specs.declared.verdict.Verdict.TheVariants.{Minimal, Smaller}
use Rattle.tree_board.specs.Boards.{Board}
use Rattle.tree_board.specs.Lawful.{IsReplay}
use Rattle.tree_board.specs.Leaves.{IsFoundSet, ListsFound, ListsMinimalFound}
use Rattle.tree_board.specs.Settings.{Setting}
use Rattle.tree_board.proofs.Cleaning.{part_of_set, part-set_of}
use Rattle.tree_board.proofs.Living.{found_satisfies}
use Rattle.tree_board.proofs.Replays.{replay_board}

-- ---- a rising list from which some sets are left out

is_less : (answer : Ordering) → is_lt answer ≡ true → answer ≡ Less
is_less Less e = refl
is_less Equal e = absurd (true≢false (sym e))
is_less Greater e = absurd (true≢false (sym e))

module _ (test : List Lit → Bool) where
  -- what stands before the first set stands before the first that is left
  below_left : (low : List Lit) (sets : List (List Lit)) → is_set_below_first low sets ≡ true → are_sets_rising sets ≡ true → is_set_below_first low (filter test sets) ≡ true
  below_left low [] below rising = refl
  below_left low (first ∷ sets) below rising = by (test first) (below_left low sets next (both_true (is_set_below_first first sets) (are_sets_rising sets) rising).1)
    where
      after : (rest : List (List Lit)) → is_set_below_first first rest ≡ true → is_set_below_first low rest ≡ true
      after [] above = refl
      after (second ∷ rest) above = ap is_lt (lits_total.trans low first second (is_less (lits_cmp low first) below) (is_less (lits_cmp first second) above))

      next : is_set_below_first low sets ≡ true
      next = after sets (both_true (is_set_below_first first sets) (are_sets_rising sets) rising).0

      by : (passed : Bool) → is_set_below_first low (filter test sets) ≡ true → is_set_below_first low (cond passed (first ∷ filter test sets) (filter test sets)) ≡ true
      by true go = below
      by false go = go

  pub left_rises : (sets : List (List Lit)) → are_sets_rising sets ≡ true → are_sets_rising (filter test sets) ≡ true
  left_rises [] rising = refl
  left_rises (first ∷ sets) rising = by (test first) (left_rises sets each.1)
    where
      each : (is_set_below_first first sets ≡ true) × (are_sets_rising sets ≡ true)
      each = both_true (is_set_below_first first sets) (are_sets_rising sets) rising

      by : (passed : Bool) → are_sets_rising (filter test sets) ≡ true → are_sets_rising (cond passed (first ∷ filter test sets) (filter test sets)) ≡ true
      by true rest = and_from (is_set_below_first first (filter test sets)) (are_sets_rising (filter test sets)) (below_left first sets each.0 each.1) rest
      by false rest = rest

-- a set that does not pass the test is left out
pub passed_over : (test : List Lit → Bool) (sets : List (List Lit)) (set : List Lit) (kept : List (List Lit)) → kept ≡ filter test sets → test set ≡ false → kept ≡ filter test (sets ++ set ∷ [])
passed_over test sets set kept is out = is ∙ sym (filter-append test sets (set ∷ []) ∙ (ap (λ passed. filter test sets ++ cond passed (set ∷ []) []) out ∙ append-nil (filter test sets)))

-- ---- what the test of a set tells

-- the verdicts that are right of a set that satisfies the problem
pub minimal_is_least : (problem : ProblemData) → IsProblem problem → (set : List Lit) → Satisfies set problem → IsRight problem set Minimal → true ≡ is_least problem set
minimal_is_least problem real set satisfied right =
    sym ((least_decided problem real set satisfied).1 (record { satisfying = satisfied; least = λ part proper satisfying. right part (record { proper = proper; satisfying = satisfying }) }))

pub smaller_is_not : (problem : ProblemData) → IsProblem problem → (set part : List Lit) → Satisfies set problem → IsRight problem set (Smaller part) → false ≡ is_least problem set
smaller_is_not problem real set part satisfied right =
    sym (never_true (is_least problem set) (λ least. ((least_decided problem real set satisfied).0 least).least part right.proper right.satisfying))

-- ---- the sets of a board

module _ (setting : Setting) (board : Board) (real : IsProblem setting.problem) (replay : IsReplay setting board) where
  set_satisfies : (set : List Lit) → IsFoundSet board set → Satisfies set setting.problem
  set_satisfies set found =
      let lits = found.node.lits in
      subst (λ one. Satisfies one setting.problem) found.same
      (satisfies_same setting.problem (set_of lits) lits (part_of_set lits lits (part_of_itself lits)) (part-set_of lits (set_of lits) (part_of_itself (set_of lits)))
      (found_satisfies setting board (replay_board setting board real replay) found.number found.node found.is found.found))

  -- each found set satisfies the problem
  pub found_satisfy : (sets : List (List Lit)) → ListsFound board sets → All (λ set. Satisfies set setting.problem) sets
  found_satisfy sets lists = all_among (λ set. Satisfies set setting.problem) sets (λ set there. set_satisfies set ((lists.exact set).0 (contains_from sets set there)))

  -- those that pass the test are the minimal ones
  pub minimal_left : (sets kept : List (List Lit)) → ListsFound board sets → kept ≡ filter (is_least setting.problem) sets → ListsMinimalFound setting board kept
  minimal_left sets kept lists is = subst (ListsMinimalFound setting board) (sym is) (record {
    rising = left_rises (is_least setting.problem) sets lists.rising;
    exact = λ set. (
      (λ there.
          let (among, least) = among-filter (is_least setting.problem) sets set (among_from (filter (is_least setting.problem) sets) set there) in
          let found = (lists.exact set).0 (contains_from sets set among) in
          (found, (least_decided setting.problem real set (set_satisfies set found)).0 least)),
      (λ (found, minimal).
          contains_from (filter (is_least setting.problem) sets) set
          (among_filtered (is_least setting.problem) sets set (among_from sets set ((lists.exact set).1 found)) ((least_decided setting.problem real set minimal.satisfying).1 minimal))),
    );
  })

  -- so it is with what a call answers
  pub minimal_answer : (sets : List (List Lit)) → ListsFound board sets → (problem : ProblemData) → problem ≡ setting.problem → (result : Result (Vec (List Lit) Global) NoMemory) → IfOk result (λ kept. kept.items ≡ filter (is_least problem) sets)
      → IfOk result (λ kept. ListsMinimalFound setting board kept.items)
  minimal_answer sets lists problem same (Ok kept) is = minimal_left sets kept.items lists (is ∙ ap (λ one. filter (is_least one) sets) same)
  minimal_answer sets lists problem same (Err none) is = tt
