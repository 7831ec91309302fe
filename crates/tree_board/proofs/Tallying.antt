-- The tally of a board, and what an event makes of it.
use Rattle.std.proofs.Common.{◌≡◌, ℕ, zero, suc, ◌+◌, ◌-◌, ◌<◌, ◌≤◌, Bool, true, false, cond, nat_lt, ◌||◌, List, [], ◌∷◌, ◌++◌, length, slice_get, slice_set, Option, Some, None, refl, sym, ap, ap₂, subst, ◌∙◌, inl, inr, arith}
use Rattle.std.specs.List.{list_any, position, position_from}
use Rattle.std.proofs.lemmas.Bool.{cases_lt, le-ltb, lt-ltb}
use Rattle.std.proofs.lemmas.Iterator.Adapters.{position_from-zero}
use Rattle.std.proofs.lemmas.List.Folds.{list_any-append}
use Rattle.mg_word.specs.Sets.{with_lit}
use Rattle.mg_word.specs.declared.lit.Lit.{Lit}
use Rattle.mg_meaning.specs.Folding.{Pair}
use Rattle.case_split.specs.Splitting.{closure_of}
use Rattle.case_split.specs.declared.child.Child.{Child}
use Rattle.case_split.specs.declared.child.Closure.{Closure}
use Rattle.tree_board.specs.declared.event.Event.{Event}
use Rattle.tree_board.specs.declared.event.Event.TheVariants.{Extend, Reject, ByLemma, Saturated, Covered as CoveredBy, Heavy as TooHeavy}
use Rattle.tree_board.specs.declared.tally.Tally.{Tally}
use Rattle.tree_board.specs.Boards.{Board, opening}
use Rattle.tree_board.specs.CellMoves.{closures_of}
use Rattle.tree_board.specs.Children.{children_of, nodes_of_cases, state_at_birth}
use Rattle.tree_board.specs.Closings.{due, closed_by, closed_node, closed_at}
use Rattle.tree_board.specs.Effects.{settled, born, moved, effect}
use Rattle.tree_board.specs.Events.{node_of}
use Rattle.tree_board.specs.Lawful.{IsLawful}
use Rattle.tree_board.specs.NodeStates.{NodeState, Open, Shut, is_found, is_heavy, is_open}
use Rattle.tree_board.specs.Nodes.{Node}
use Rattle.tree_board.specs.Settings.{Setting}
use Rattle.tree_board.specs.Splits.{one_if}
use Rattle.tree_board.specs.Tallies.{IsTally, found_after, least_with, makes_heavy, opens_in, tally_after}
use Rattle.tree_board.proofs.Places.{same_some}
use Rattle.tree_board.proofs.Replays.{climb_keeps, effect_is}

-- ---- the number of open nodes

opens-append : (xs ys : List Node) → opens_in (xs ++ ys) ≡ opens_in xs + opens_in ys
opens-append [] ys = omega arith
opens-append (x ∷ xs) ys = let rest = opens-append xs ys in omega (arith, rest)

opens_set : (nodes : List Node) (number : ℕ) (node after : Node) → slice_get nodes number ≡ Some node → opens_in (slice_set nodes number after) + one_if (is_open node.state) ≡ opens_in nodes + one_if (is_open after.state)
opens_set [] number node after at = absurd (let bad : ⊥ = cc in bad)
opens_set (first ∷ nodes) zero node after at = let same : one_if (is_open first.state) ≡ one_if (is_open node.state) = ap (λ (n : Node). one_if (is_open n.state)) (same_some first node at) in omega (arith, same)
opens_set (first ∷ nodes) (suc number) node after at = let rest = opens_set nodes number node after at in omega (arith, rest)

one_at_most : (b : Bool) → one_if b ≤ 1
one_at_most true = omega arith
one_at_most false = omega arith

pub opens_few : (nodes : List Node) → opens_in nodes ≤ length nodes
opens_few [] = omega arith
opens_few (node ∷ nodes) = let rest = opens_few nodes in let one = one_at_most (is_open node.state) in omega (arith, rest, one)

pub opens_some : (nodes : List Node) (number : ℕ) (node : Node) → slice_get nodes number ≡ Some node → node.state ≡ Open → 0 < opens_in nodes
opens_some [] number node at opened = absurd (let bad : ⊥ = cc in bad)
opens_some (first ∷ nodes) zero node at opened = let one : one_if (is_open first.state) ≡ 1 = ap (λ (n : Node). one_if (is_open n.state)) (same_some first node at) ∙ ap (λ state. one_if (is_open state)) opened in omega (arith, one)
opens_some (first ∷ nodes) (suc number) node at opened = let rest = opens_some nodes number node at opened in omega (arith, rest)

pub some_open_counted : (nodes : List Node) → nat_lt 0 (opens_in nodes) ≡ list_any (λ (node : Node). is_open node.state) nodes
some_open_counted [] = refl
some_open_counted (node ∷ nodes) = by (is_open node.state) (some_open_counted nodes)
  where
    by : (b : Bool) → nat_lt 0 (opens_in nodes) ≡ list_any (λ (one : Node). is_open one.state) nodes → nat_lt 0 (one_if b + opens_in nodes) ≡ (b || list_any (λ (one : Node). is_open one.state) nodes)
    by true rest = lt-ltb 0 (one_if true + opens_in nodes) (omega arith)
    by false rest = ap (nat_lt 0) (let same : one_if false + opens_in nodes ≡ opens_in nodes = omega arith in same) ∙ rest

-- a case that is closed at once has a reason, and the others are open
pub opens_cases : (number : ℕ) (path : List ℕ) (lits : List Lit) (cases : List Child) → opens_in (nodes_of_cases number path lits cases) + length (closures_of cases) ≡ length cases
opens_cases number path lits [] = refl
opens_cases number path lits (one ∷ more) = let rest = opens_cases (suc number) path lits more in by one.at_once refl rest
  where
    by : (reason : Option Closure) → one.at_once ≡ reason → opens_in (nodes_of_cases (suc number) path lits more) + length (closures_of more) ≡ length more
        → opens_in (nodes_of_cases number path lits (one ∷ more)) + length (closures_of (one ∷ more)) ≡ length (one ∷ more)
    by None is rest = rw is (omega (arith, rest))
    by (Some closure) is rest = rw is (omega (arith, rest))

-- ---- tests of lists with one element set

or_turned : (a b : Bool) → (a || b) ≡ (b || a)
or_turned true true = refl
or_turned true false = refl
or_turned false true = refl
or_turned false false = refl

or_again : (a b c : Bool) → (a || (b || c)) ≡ ((a || b) || c)
or_again true b c = refl
or_again false b c = refl

or_false : (a b : Bool) → b ≡ false → (a || b) ≡ a
or_false a b e = ap (λ one. a || one) e ∙ or_turned a false

module _ {X : Type 0} (p : X → Bool) where
  any_set : (xs : List X) (n : ℕ) (x y : X) → slice_get xs n ≡ Some x → p x ≡ false → list_any p (slice_set xs n y) ≡ (list_any p xs || p y)
  any_set [] n x y at fails = absurd (let bad : ⊥ = cc in bad)
  any_set (z ∷ xs) zero x y at fails =
      or_turned (p y) (list_any p xs) ∙ ap (λ one. (one || list_any p xs) || p y) (sym (ap p (same_some z x at) ∙ fails))
  any_set (z ∷ xs) (suc n) x y at fails = ap (λ rest. p z || rest) (any_set xs n x y at fails) ∙ or_again (p z) (list_any p xs) (p y)

  any_same : (xs : List X) (n : ℕ) (x y : X) → slice_get xs n ≡ Some x → p y ≡ p x → list_any p (slice_set xs n y) ≡ list_any p xs
  any_same [] n x y at same = refl
  any_same (z ∷ xs) zero x y at same = ap (λ one. one || list_any p xs) (same ∙ ap p (sym (same_some z x at)))
  any_same (z ∷ xs) (suc n) x y at same = ap (λ rest. p z || rest) (any_same xs n x y at same)

  first_same : (xs : List X) (first n : ℕ) (x y : X) → slice_get xs n ≡ Some x → p y ≡ p x → position_from p first (slice_set xs n y) ≡ position_from p first xs
  first_same [] first n x y at same = refl
  first_same (z ∷ xs) first zero x y at same = ap (λ one. cond one (Some first) (position_from p (first + 1) xs)) (same ∙ ap p (sym (same_some z x at)))
  first_same (z ∷ xs) first (suc n) x y at same = ap (λ rest. cond (p z) (Some first) rest) (first_same xs (first + 1) n x y at same)

  first_from : (xs : List X) (first m : ℕ) → position_from p first xs ≡ Some m → first ≤ m
  first_from [] first m e = absurd (let bad : ⊥ = cc in bad)
  first_from (z ∷ xs) first m e = by (p z) (first_from xs (first + 1) m) e
    where
      by : (b : Bool) → (position_from p (first + 1) xs ≡ Some m → first + 1 ≤ m) → cond b (Some first) (position_from p (first + 1) xs) ≡ Some m → first ≤ m
      by true go e = let same = same_some first m e in omega (arith, same)
      by false go e = let rest = go e in omega (arith, rest)

  least_front : (first : ℕ) (found : Option ℕ) → ((m : ℕ) → found ≡ Some m → first < m) → least_with first found ≡ first
  least_front first None later = refl
  least_front first (Some m) later = ap (λ b. cond b m first) (le-ltb m first (let less = later m refl in omega (arith, less)))

  first_set : (xs : List X) (first n m : ℕ) (x y : X) → m ≡ first + n → slice_get xs n ≡ Some x → p x ≡ false → p y ≡ true → position_from p first (slice_set xs n y) ≡ Some (least_with m (position_from p first xs))
  first_set [] first n m x y place at fails passes = absurd (let bad : ⊥ = cc in bad)
  first_set (z ∷ xs) first zero m x y place at fails passes =
      let same : m ≡ first = omega (arith, place) in
      let skip : position_from p first (z ∷ xs) ≡ position_from p (first + 1) xs = ap (λ b. cond b (Some first) (position_from p (first + 1) xs)) (ap p (same_some z x at) ∙ fails) in
      ap (λ b. cond b (Some first) (position_from p (first + 1) xs)) passes
      ∙ ap Some (sym (ap₂ least_with same skip ∙ least_front first (position_from p (first + 1) xs) (λ k e. let low = first_from xs (first + 1) k e in omega (arith, low))))
  first_set (z ∷ xs) first (suc n) m x y place at fails passes = by (p z) (first_set xs (first + 1) n m x y (omega (arith, place)) at fails passes)
    where
      by : (b : Bool) → position_from p (first + 1) (slice_set xs n y) ≡ Some (least_with m (position_from p (first + 1) xs))
          → cond b (Some first) (position_from p (first + 1) (slice_set xs n y)) ≡ Some (least_with m (cond b (Some first) (position_from p (first + 1) xs)))
      by true rest = ap Some (sym (ap (λ b. cond b first m) (lt-ltb first m (omega (arith, place)))))
      by false rest = rest

  first_append : (xs ys : List X) (first : ℕ) → list_any p ys ≡ false → position_from p first (xs ++ ys) ≡ position_from p first xs
  first_append [] [] first none = refl
  first_append [] (y ∷ ys) first none = by (p y) (first_append [] ys (first + 1)) none
    where
      by : (b : Bool) → (list_any p ys ≡ false → position_from p (first + 1) ys ≡ None) → (b || list_any p ys) ≡ false → cond b (Some first) (position_from p (first + 1) ys) ≡ None
      by true go e = absurd (let bad : ⊥ = cc in bad)
      by false go e = go e
  first_append (x ∷ xs) ys first none = ap (λ rest. cond (p x) (Some first) rest) (first_append xs ys (first + 1) none)

  position_is : (xs : List X) → position p xs ≡ position_from p 0 xs
  position_is xs = position_from-zero p xs

-- ---- an event

abbrev found_one : Node → Bool
found_one node = is_found node.state

abbrev heavy_one : Node → Bool
heavy_one node = is_heavy node.state

-- children are open or closed at once
none_born : (p : NodeState → Bool) → p Open ≡ false → ((closure : Closure) → p (Shut closure) ≡ false) → (first : ℕ) (path : List ℕ) (lits barred conclusions : List Lit) → list_any (λ (node : Node). p node.state) (children_of first path lits barred conclusions) ≡ false
none_born p opened shut first path lits barred [] = refl
none_born p opened shut first path lits barred (lit ∷ more) =
    ap (λ one. one || list_any (λ (node : Node). p node.state) (children_of (suc first) path lits (with_lit barred lit) more)) (by (closure_of lits barred lit)) ∙ none_born p opened shut (suc first) path lits (with_lit barred lit) more
  where
    by : (closure : Option Closure) → p (state_at_birth closure) ≡ false
    by None = opened
    by (Some closure) = shut closure

born_none : (p : NodeState → Bool) → p Open ≡ false → ((closure : Closure) → p (Shut closure) ≡ false) → (board : Board) (node : Node) (event : Event) → list_any (λ (one : Node). p one.state) (born board node event) ≡ false
born_none p opened shut board node (Extend number inst) = none_born p opened shut (length board.nodes) node.path node.lits node.barred inst.conclusions
born_none p opened shut board node (Reject number inst) = refl
born_none p opened shut board node (ByLemma number which) = refl
born_none p opened shut board node (Saturated number) = refl
born_none p opened shut board node (CoveredBy number cover) = refl
born_none p opened shut board node (TooHeavy number inst) = refl

module _ (board : Board) (node : Node) where
  no_more_open : (event : Event) → one_if (is_open (settled board node event).state) ≡ 0
  no_more_open (Extend number inst) = refl
  no_more_open (Reject number inst) = refl
  no_more_open (ByLemma number which) = refl
  no_more_open (Saturated number) = refl
  no_more_open (CoveredBy number cover) = refl
  no_more_open (TooHeavy number inst) = refl

  is_heavy_then : (event : Event) → makes_heavy event ≡ heavy_one (settled board node event)
  is_heavy_then (Extend number inst) = refl
  is_heavy_then (Reject number inst) = refl
  is_heavy_then (ByLemma number which) = refl
  is_heavy_then (Saturated number) = refl
  is_heavy_then (CoveredBy number cover) = refl
  is_heavy_then (TooHeavy number inst) = refl

  found_then : (event : Event) → slice_get board.nodes (node_of event) ≡ Some node → node.state ≡ Open → (found : Option ℕ) → found ≡ position_from found_one 0 board.nodes
      → found_after found event ≡ position_from found_one 0 (slice_set board.nodes (node_of event) (settled board node event))
  found_then (Saturated number) at opened found is = ap (λ one. Some (least_with number one)) is ∙ sym (first_set found_one board.nodes 0 number number node (settled board node (Saturated number)) (omega arith) at (ap is_found opened) refl)
  found_then (Extend number inst) at opened found is = is ∙ sym (first_same found_one board.nodes 0 number node (settled board node (Extend number inst)) at (sym (ap is_found opened)))
  found_then (Reject number inst) at opened found is = is ∙ sym (first_same found_one board.nodes 0 number node (settled board node (Reject number inst)) at (sym (ap is_found opened)))
  found_then (ByLemma number which) at opened found is = is ∙ sym (first_same found_one board.nodes 0 number node (settled board node (ByLemma number which)) at (sym (ap is_found opened)))
  found_then (CoveredBy number cover) at opened found is = is ∙ sym (first_same found_one board.nodes 0 number node (settled board node (CoveredBy number cover)) at (sym (ap is_found opened)))
  found_then (TooHeavy number inst) at opened found is = is ∙ sym (first_same found_one board.nodes 0 number node (settled board node (TooHeavy number inst)) at (sym (ap is_found opened)))

-- the old nodes with that one settled
abbrev settled_nodes : Board → Node → Event → List Node
settled_nodes board node event = slice_set board.nodes (node_of event) (settled board node event)

moved_tally : (board : Board) (node : Node) (event : Event) → slice_get board.nodes (node_of event) ≡ Some node → node.state ≡ Open → (tally : Tally) → IsTally board tally → (children : ℕ) → children ≡ opens_in (born board node event) → IsTally (moved board node event) (tally_after tally event children)
moved_tally board node event at opened tally is children are =
    record {
      opens =
          let joined = opens-append (settled_nodes board node event) (born board node event) in
          let set = opens_set board.nodes (node_of event) node (settled board node event) at in
          let was : one_if (is_open node.state) ≡ 1 = ap (λ state. one_if (is_open state)) opened in
          let now = no_more_open board node event in
          let before = is.opens in
          omega (arith, joined, set, was, now, before, are);
      heavy =
          ap₂ (λ a b. a || b) is.heavy (is_heavy_then board node event)
          ∙ (sym (any_set heavy_one board.nodes (node_of event) node (settled board node event) at (ap is_heavy opened))
          ∙ (sym (or_false (list_any heavy_one (settled_nodes board node event)) (list_any heavy_one (born board node event)) (born_none is_heavy refl (λ closure. refl) board node event))
          ∙ sym (list_any-append heavy_one (settled_nodes board node event) (born board node event))));
      found =
          found_then board node event at opened tally.least_found (is.found ∙ position_is found_one board.nodes)
          ∙ (sym (first_append found_one (settled_nodes board node event) (born board node event) 0 (born_none is_found refl (λ closure. refl) board node event))
          ∙ sym (position_is found_one ((settled_nodes board node event) ++ born board node event)));
    }

-- closing changes no state
closed_at_tally : (setting : Setting) (board : Board) (number : ℕ) (tally : Tally) → IsTally board tally → IsTally (closed_at setting board number) tally
unfolding closed_at
closed_at_tally setting board number tally is = by (slice_get board.nodes number) refl
  where
    close : (node : Node) → slice_get board.nodes number ≡ Some node → (pair : Option Pair) → IsTally (closed_by setting board number node pair) tally
    close node at None = is
    close node at (Some pair) =
        let closed : Node = record node { own = Some pair } in
        record {
          opens = let set = opens_set board.nodes number node closed at in let before = is.opens in omega (arith, set, before);
          heavy = is.heavy ∙ sym (any_same heavy_one board.nodes number node closed at refl);
          found = is.found ∙ (position_is found_one board.nodes ∙ (sym (first_same found_one board.nodes 0 number node closed at refl) ∙ sym (position_is found_one (slice_set board.nodes number closed))));
        }

    by : (node : Option Node) → slice_get board.nodes number ≡ node → IsTally (closed_node setting board number node) tally
    by None at = is
    by (Some node) at = close node at (due board.nodes node)

pub effect_tally : (setting : Setting) (board : Board) (event : Event) → (lawful : IsLawful setting board event) → (tally : Tally) → IsTally board tally → (children : ℕ) → children ≡ opens_in (born board lawful.node event) → IsTally (effect setting board event) (tally_after tally event children)
effect_tally setting board event lawful tally is children are =
    subst (λ one. IsTally one (tally_after tally event children)) (sym (effect_is setting board event lawful.node lawful.is))
    (climb_keeps setting (λ one. IsTally one (tally_after tally event children)) (λ number one holds. closed_at_tally setting one number (tally_after tally event children) holds) lawful.node.path (moved board lawful.node event)
    (moved_tally board lawful.node event lawful.is lawful.opened tally is children are))

pub opening_tally : IsTally opening (record { extensions = 0; opens = 1; has_heavy = false; least_found = None })
opening_tally = record { opens = refl; heavy = refl; found = refl }
