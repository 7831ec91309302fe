-- What an event makes of the nodes, but for their lemmas.
use Rattle.std.proofs.Common.{◌≡◌, ◌≢◌, ℕ, zero, suc, ◌+◌, List, [], ◌∷◌, length, map, drop, slice_get, slice_set, Option, Some, None, option_map, refl, sym, ap, ◌∙◌, ◌⊎◌, inl, inr}
use Rattle.std.proofs.lemmas.List.{drop-map, drop_at, length-append}
use Rattle.std.proofs.lemmas.Option.{slice_get-map}
use Rattle.mg_meaning.specs.Folding.{Pair}
use Rattle.tree_board.specs.declared.event.Event.{Event}
use Rattle.tree_board.specs.Boards.{Board, count}
use Rattle.tree_board.specs.Closings.{due, closed_by, closed_node, closed_at}
use Rattle.tree_board.specs.Effects.{settled, born, moved, effect}
use Rattle.tree_board.specs.Events.{node_of, extends_in}
use Rattle.tree_board.specs.Lawful.{IsLawful}
use Rattle.tree_board.specs.Nodes.{Node}
use Rattle.tree_board.specs.OpenLists.{open_by, open_numbers}
use Rattle.tree_board.specs.Settings.{Setting}
use Rattle.tree_board.proofs.Places.{whence, still, there_now, length-slice_set, same_some}
use Rattle.tree_board.proofs.Counting.{extends-append}
use Rattle.tree_board.proofs.Journals.{effect_journal}
use Rattle.tree_board.proofs.Replays.{climb_keeps, effect_is}

-- a node without its lemma
abbrev pub bare : Node → Node
bare node = record node { own = None }

map_set : (nodes : List Node) (number : ℕ) (node after : Node) → slice_get nodes number ≡ Some node → bare after ≡ bare node → map bare (slice_set nodes number after) ≡ map bare nodes
map_set [] number node after at same = refl
map_set (first ∷ nodes) zero node after at same = ap (λ one. one ∷ map bare nodes) (same ∙ ap bare (sym (same_some first node at)))
map_set (first ∷ nodes) (suc number) node after at same = ap (λ rest. bare first ∷ rest) (map_set nodes number node after at same)

closed_bare : (setting : Setting) (list : List Node) (number : ℕ) (board : Board) → map bare board.nodes ≡ list → map bare (closed_at setting board number).nodes ≡ list
unfolding closed_at
closed_bare setting list number board same = by (slice_get board.nodes number) refl
  where
    close : (node : Node) → slice_get board.nodes number ≡ Some node → (pair : Option Pair) → map bare (closed_by setting board number node pair).nodes ≡ list
    close node at None = same
    close node at (Some pair) = map_set board.nodes number node (record node { own = Some pair }) at refl ∙ same

    by : (node : Option Node) → slice_get board.nodes number ≡ node → map bare (closed_node setting board number node).nodes ≡ list
    by None at = same
    by (Some node) at = close node at (due board.nodes node)

pub effect_bare : (setting : Setting) (board : Board) (event : Event) → (lawful : IsLawful setting board event) → map bare (effect setting board event).nodes ≡ map bare (moved board lawful.node event).nodes
effect_bare setting board event lawful =
    ap (λ (one : Board). map bare one.nodes) (effect_is setting board event lawful.node lawful.is)
    ∙ climb_keeps setting (λ one. map bare one.nodes ≡ map bare (moved board lawful.node event).nodes) (λ number one same. closed_bare setting (map bare (moved board lawful.node event).nodes) number one same) lawful.node.path (moved board lawful.node event) refl

map_length : {X Y : Type 0} (f : X → Y) (xs : List X) → length (map f xs) ≡ length xs
map_length f [] = refl
map_length f (x ∷ xs) = ap suc (map_length f xs)

-- the other list has the node with this number, but for its lemma
pub record HasBare (nodes : List Node) (number : ℕ) (node : Node) : Type 0 where
  pub other : Node
  pub is : slice_get nodes number ≡ Some other
  pub same : bare other ≡ bare node

same_at : (xs ys : List Node) → map bare xs ≡ map bare ys → (number : ℕ) (node : Node) → slice_get xs number ≡ Some node → HasBare ys number node
same_at xs ys same number node at =
    by (slice_get ys number) refl (sym (slice_get-map bare ys number) ∙ (sym (ap (λ list. slice_get list number) same) ∙ (slice_get-map bare xs number ∙ ap (option_map bare) at)))
  where
    by : (found : Option Node) → slice_get ys number ≡ found → option_map bare found ≡ Some (bare node) → HasBare ys number node
    by None is e = absurd (let bad : ⊥ = cc in bad)
    by (Some other) is e = record { other = other; is = is; same = same_some (bare other) (bare node) e }

module _ (setting : Setting) (board : Board) (event : Event) (lawful : IsLawful setting board event) where
  abbrev after : Board
  after = effect setting board event

  -- another node stays
  pub stays : (k : ℕ) (node : Node) → k ≢ node_of event → slice_get board.nodes k ≡ Some node → HasBare after.nodes k node
  stays k node apart at =
      same_at (moved board lawful.node event).nodes after.nodes (sym (effect_bare setting board event lawful)) k node (still board.nodes (born board lawful.node event) (node_of event) k (settled board lawful.node event) node apart at)

  -- the event's node is settled
  pub settles : HasBare after.nodes (node_of event) (settled board lawful.node event)
  settles =
      same_at (moved board lawful.node event).nodes after.nodes (sym (effect_bare setting board event lawful)) (node_of event) (settled board lawful.node event) (there_now board.nodes (born board lawful.node event) (node_of event) lawful.node (settled board lawful.node event) lawful.is)

  -- where a node comes from: it is the event's, another that was there, or born
  pub comes : (k : ℕ) (node : Node) → slice_get after.nodes k ≡ Some node
      → (bare node ≡ bare (settled board lawful.node event)) ⊎ (HasBare board.nodes k node ⊎ ((j : ℕ) × HasBare (born board lawful.node event) j node))
  comes k node at =
      let own = same_at after.nodes (moved board lawful.node event).nodes (effect_bare setting board event lawful) k node at in
      elim (whence board.nodes (born board lawful.node event) (node_of event) lawful.node (settled board lawful.node event) k own.other lawful.is own.is) [
        | inl (same, new) ↦ inl (sym own.same ∙ ap bare new)
        | inr (inl (apart, old)) ↦ inr (inl (record { other = own.other; is = old; same = own.same }))
        | inr (inr (j, place, there)) ↦ inr (inr (j, record { other = own.other; is = there; same = own.same }))
      ]

  -- the same of a node that is not the event's
  pub comes_apart : (k : ℕ) (node : Node) → k ≢ node_of event → slice_get after.nodes k ≡ Some node → HasBare board.nodes k node ⊎ ((j : ℕ) × HasBare (born board lawful.node event) j node)
  comes_apart k node apart at =
      let own = same_at after.nodes (moved board lawful.node event).nodes (effect_bare setting board event lawful) k node at in
      elim (whence board.nodes (born board lawful.node event) (node_of event) lawful.node (settled board lawful.node event) k own.other lawful.is own.is) [
        | inl (same, new) ↦ absurd (apart same)
        | inr (inl (out, old)) ↦ inl (record { other = own.other; is = old; same = own.same })
        | inr (inr (j, place, there)) ↦ inr (j, record { other = own.other; is = there; same = own.same })
      ]

  pub nodes_length : length after.nodes ≡ length board.nodes + length (born board lawful.node event)
  nodes_length =
      sym (map_length bare after.nodes)
      ∙ (ap length (effect_bare setting board event lawful)
      ∙ (map_length bare (moved board lawful.node event).nodes
      ∙ (length-append (slice_set board.nodes (node_of event) (settled board lawful.node event)) (born board lawful.node event)
      ∙ ap (λ size. size + length (born board lawful.node event)) (length-slice_set board.nodes (node_of event) (settled board lawful.node event)))))

  pub count_after : count after ≡ count board + extends_in (event ∷ [])
  count_after = ap extends_in (effect_journal setting board event lawful) ∙ extends-append board.journal (event ∷ [])

  -- the new nodes are those that are born, but for their lemmas
  new_nodes : map bare (drop (length board.nodes) after.nodes) ≡ map bare (born board lawful.node event)
  new_nodes =
      sym (drop-map bare (length board.nodes) after.nodes)
      ∙ (ap (drop (length board.nodes)) (effect_bare setting board event lawful)
      ∙ (drop-map bare (length board.nodes) (moved board lawful.node event).nodes
      ∙ ap (map bare) (drop_at (slice_set board.nodes (node_of event) (settled board lawful.node event)) (born board lawful.node event) (length board.nodes) (length-slice_set board.nodes (node_of event) (settled board lawful.node event)))))

  same_numbers : (first : ℕ) (xs ys : List Node) → map bare xs ≡ map bare ys → open_numbers first xs ≡ open_numbers first ys
  same_numbers first [] [] same = refl
  same_numbers first [] (y ∷ ys) same = absurd (let bad : ⊥ = cc in bad)
  same_numbers first (x ∷ xs) [] same = absurd (let bad : ⊥ = cc in bad)
  same_numbers first (x ∷ xs) (y ∷ ys) same =
      let heads : bare x ≡ bare y = cc in
      let tails : map bare xs ≡ map bare ys = cc in
      ap (λ (node : Node). open_by node.state first (open_numbers (suc first) xs)) heads ∙ ap (open_by y.state first) (same_numbers (suc first) xs ys tails)

  -- the open ones among the new nodes
  pub kids_are : open_numbers (length board.nodes) (born board lawful.node event) ≡ open_numbers (length board.nodes) (drop (length board.nodes) after.nodes)
  kids_are = sym (same_numbers (length board.nodes) (drop (length board.nodes) after.nodes) (born board lawful.node event) new_nodes)
