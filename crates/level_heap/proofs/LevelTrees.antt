-- Levels that are added and taken off.
use Rattle.std.proofs.Common.{◌≡◌, ℕ, zero, suc, ◌-◌, ◌≤◌, List, [], ◌∷◌, ◌++◌, length, take, get_or, refl, sym, ap, subst, ◌∙◌, arith}
use Rattle.std.specs.Prelude.{All}
use Rattle.std.proofs.lemmas.List.{take-map, length-take-le, map-append, length-map, get_or_default}
use Rattle.std.proofs.lemmas.List.Sorted.{IsNonDecreasingBy-push, IsNonDecreasingBy-take}
use Rattle.std.proofs.lemmas.List.Elements.{All-take, All-push, All-weaker, All-get_or, All-head, All-tail}
use Rattle.level_heap.specs.declared.node.HeapNode.{HeapNode}
use Rattle.level_heap.specs.declared.level.Level.{Level}
use Rattle.level_heap.specs.Trees.{Empty, last_of}
use Rattle.level_heap.specs.Arenas.{tree_at, IsBelow, IsArena, Grows}
use Rattle.level_heap.specs.Levels.{no_level, trees_of, IsLevel, AreLevels}
use Rattle.level_heap.proofs.ArenaTrees.{tree_at-none, tree_at-grown, below-weaker, grows-longer, grows-take, arena-take}

-- the last of these, or the empty level below all
abbrev pub last_level_of : List Level → Level
last_level_of levels = get_or levels (length levels - 1) no_level

get_or-trees : (nodes : List HeapNode) (levels : List Level) (at : ℕ) → get_or (trees_of nodes levels) at Empty ≡ tree_at nodes (get_or levels at no_level).root
get_or-trees nodes [] at = sym (tree_at-none nodes)
get_or-trees nodes (level ∷ levels) zero = refl
get_or-trees nodes (level ∷ levels) (suc at) = get_or-trees nodes levels at

pub last_of-trees : (nodes : List HeapNode) (levels : List Level) → last_of (trees_of nodes levels) ≡ tree_at nodes (last_level_of levels).root
last_of-trees nodes levels = ap (λ count. get_or (trees_of nodes levels) (count - 1) Empty) (length-map levels (λ level. tree_at nodes level.root)) ∙ get_or-trees nodes levels (length levels - 1)

-- the last level is the one that a call answered
pub last_tree : (nodes : List HeapNode) (levels slice : List Level) (last : Level) → slice ≡ levels → last ≡ last_level_of slice → last_of (trees_of nodes levels) ≡ tree_at nodes last.root
last_tree nodes levels slice last same is = last_of-trees nodes levels ∙ ap (λ (all : List Level). tree_at nodes (last_level_of all).root) (sym same) ∙ ap (λ (level : Level). tree_at nodes level.root) (sym is)

last_there : (nodes : List HeapNode) (levels : List Level) → AreLevels nodes levels → IsBelow (last_level_of levels).root (length nodes)
last_there nodes [] are = tt
last_there nodes (level ∷ levels) are =
    let all = level ∷ levels in
    let last = All-get_or (IsLevel (length nodes)) all (length all - 1) no_level (omega arith) are.each in
    below-weaker (last_level_of all).root (last_level_of all).end (length nodes) last.end last.root

pub last_below : (nodes : List HeapNode) (levels slice : List Level) (last : Level) → AreLevels nodes levels → slice ≡ levels → last ≡ last_level_of slice → IsBelow last.root (length nodes)
last_below nodes levels slice last are same is = subst (λ (level : Level). IsBelow level.root (length nodes)) (ap last_level_of (sym same) ∙ sym is) (last_there nodes levels are)

level-weaker : (few many : ℕ) → few ≤ many → (level : Level) → IsLevel few level → IsLevel many level
level-weaker few many le level is = record { root = is.root; end = let short = is.end in omega arith }

-- levels stand in a longer arena as before
trees-grown : (old new : List HeapNode) (levels : List Level) → Grows old new → All (IsLevel (length old)) levels → trees_of new levels ≡ trees_of old levels
trees-grown old new [] grows each = refl
trees-grown old new (level ∷ levels) grows each =
    let first = All-head (IsLevel (length old)) level levels each in
    let here = tree_at-grown old new level.root grows (below-weaker level.root level.end (length old) first.end first.root) in
    let rest = trees-grown old new levels grows (All-tail (IsLevel (length old)) level levels each) in
    λ i. here i ∷ rest i

pub levels_grown : (old new : List HeapNode) (levels : List Level) → AreLevels old levels → IsArena new → Grows old new → AreLevels new levels × (trees_of new levels ≡ trees_of old levels)
levels_grown old new levels are arena grows = (
  record { arena = arena; rising = are.rising; each = All-weaker (IsLevel (length old)) (IsLevel (length new)) (level-weaker (length old) (length new) (grows-longer old new grows)) levels are.each },
  trees-grown old new levels grows are.each,
)

-- a level on all nodes
levels_more : (old new : List HeapNode) (levels : List Level) (level : Level) → AreLevels old levels → IsArena new → Grows old new → IsBelow level.root (length new) → level.end ≡ length new → AreLevels new (levels ++ level ∷ [])
levels_more old new levels level are arena grows below end =
    let longer = grows-longer old new grows in record {
      arena = arena;
      rising = IsNonDecreasingBy-push (λ level. level.end) levels level are.rising (λ d some. let short = (All-get_or (IsLevel (length old)) levels (length levels - 1) d (omega arith) are.each).end in omega arith);
      each = All-push (IsLevel (length new)) levels level (levels_grown old new levels are arena grows).0.each (record { root = rw end below; end = omega (arith, end) });
    }

pub levels_pushed : (old new : List HeapNode) (levels after : List Level) (level : Level) → after ≡ levels ++ level ∷ [] → AreLevels old levels → IsArena new → Grows old new → IsBelow level.root (length new) → level.end ≡ length new
    → AreLevels new after × (trees_of new after ≡ trees_of old levels ++ tree_at new level.root ∷ [])
levels_pushed old new levels after level is are arena grows below end = (
  subst (AreLevels new) (sym is) (levels_more old new levels level are arena grows below end),
  ap (trees_of new) is ∙ map-append (λ level. tree_at new level.root) levels (level ∷ []) ∙ ap (λ trees. trees ++ tree_at new level.root ∷ []) (trees-grown old new levels grows are.each),
)

-- each level ends where the last one does, or before
ends_at : (nodes : List HeapNode) (levels : List Level) → AreLevels nodes levels → ((last_level_of levels).end ≤ length nodes) × All (IsLevel (last_level_of levels).end) levels
ends_at nodes [] are = (omega arith, λ k d within. absurd (omega arith))
ends_at nodes (level ∷ levels) are =
    let all = level ∷ levels in
    let last = All-get_or (IsLevel (length nodes)) all (length all - 1) no_level (omega arith) are.each in (
      last.end,
      λ k d within.
          let upto = are.rising k (length all - 1) d (omega arith) (omega arith) in
          let same = ap (λ (level : Level). level.end) (get_or_default all (length all - 1) d no_level (omega arith)) in
          record { root = (are.each k d within).root; end = omega (arith, upto, same) },
    )

-- the nodes behind the last level are cut
levels_cut : (nodes : List HeapNode) (levels : List Level) (end : ℕ) → AreLevels nodes levels → end ≡ (last_level_of levels).end → AreLevels (take end nodes) levels × (trees_of (take end nodes) levels ≡ trees_of nodes levels)
levels_cut nodes levels end are is =
    let ends = ends_at nodes levels are in
    let short : end ≤ length nodes = subst (λ k. k ≤ length nodes) (sym is) ends.0 in
    let long : length (take end nodes) ≡ (last_level_of levels).end = length-take-le end nodes short ∙ is in
    let each : All (IsLevel (length (take end nodes))) levels = subst (λ k. All (IsLevel k) levels) (sym long) ends.1 in (
      record { arena = arena-take end nodes are.arena; rising = are.rising; each = each },
      sym (trees-grown (take end nodes) nodes levels (grows-take end nodes) each),
    )

pub levels_popped : (nodes left : List HeapNode) (levels few slice : List Level) (last : Level) (depth : ℕ) → AreLevels nodes levels → few ≡ take depth levels → slice ≡ few → last ≡ last_level_of slice → left ≡ take last.end nodes
    → AreLevels left few × (trees_of left few ≡ take depth (trees_of nodes levels))
levels_popped nodes left levels few slice last depth are taken same is cut =
    let taken_are : AreLevels nodes (take depth levels) = record {
      arena = are.arena;
      rising = IsNonDecreasingBy-take (λ level. level.end) depth levels are.rising;
      each = All-take (IsLevel (length nodes)) depth levels are.each;
    } in
    let both = levels_cut nodes few last.end (subst (AreLevels nodes) (sym taken) taken_are) (ap (λ (level : Level). level.end) (is ∙ ap last_level_of same)) in (
      subst (λ ns. AreLevels ns few) (sym cut) both.0,
      ap (λ ns. trees_of ns few) cut ∙ both.1 ∙ ap (trees_of nodes) taken ∙ sym (take-map (λ level. tree_at nodes level.root) depth levels),
    )
