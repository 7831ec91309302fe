-- A lawful event keeps the facts of the board, before any closing upwards.
use Rattle.std.proofs.Common.{◌≡◌, ◌≢◌, ℕ, ◌+◌, ◌<◌, ◌≤◌, true, false, List, [], ◌∷◌, length, slice_get, Some, None, IsTrue, refl, sym, ap, subst, ◌∙◌, ◌⊎◌, inl, inr, arith}
use Rattle.std.proofs.lemmas.Bool.{cases_eq, cases_lt}
use Rattle.mg_word.specs.Words.{numbered}
use Rattle.mg_word.specs.Sets.{is_part, meets}
use Rattle.mg_word.specs.Facts.{IsProblem}
use Rattle.mg_word.specs.declared.form.Inst.{Inst}
use Rattle.mg_word.proofs.Members.{meets_more, part_of_itself}
use Rattle.mg_meaning.specs.Instances.{IsInstance}
use Rattle.mg_meaning.proofs.Excluded.{violated_parts}
use Rattle.tree_board.specs.declared.event.Event.{Event}
use Rattle.tree_board.specs.declared.event.Event.TheVariants.{Extend, Reject, ByLemma, Saturated, Covered as CoveredBy, Heavy as TooHeavy}
use Rattle.tree_board.specs.Boards.{Kept, Board, own_of}
use Rattle.tree_board.specs.Effects.{settled, born, moved}
use Rattle.tree_board.specs.Events.{node_of, insts_in}
use Rattle.tree_board.specs.Facts.{IsAmong, IsClean, IsChildOf, IsPath, StateHolds, IsSound, AreApart, IsKept, IsBoard}
use Rattle.tree_board.specs.Lawful.{lemma_for, cover_for, IsDue}
use Rattle.tree_board.specs.NodeStates.{Open, is_shut}
use Rattle.tree_board.specs.Nodes.{Node}
use Rattle.tree_board.specs.Settings.{Setting}
use Rattle.tree_board.proofs.Places.{whence, there_now, among-append, within}
use Rattle.tree_board.proofs.Growth.{Grows, path_stays, sound_stays, not_split}
use Rattle.model_extend.proofs.Fitting.{conclusions_fit}
use Rattle.tree_board.proofs.Cleaning.{part_one_more}
use Rattle.tree_board.proofs.Settling.{insts-append, settled_keeps, moved_grows, born_sound, settled_sound, none_some}
use Rattle.tree_board.proofs.Below.{node_closed, open_above_none, IsBorn, born_parts, siblings, state_by_not_settled}

-- the path of a child of the node that is split
rooted_below : (setting : Setting) (board : Board) → IsBoard setting board → (node : Node) (number : ℕ) (inst : Inst) → slice_get board.nodes number ≡ Some node → node.state ≡ Open → node.own ≡ None → (k : ℕ) → length board.nodes ≤ k → k < length board.nodes + length inst.conclusions
    → IsPath (moved board node (Extend number inst)).nodes (k ∷ node.path)
rooted_below setting board facts node number inst at opened unclosed k from below =
    let one = facts.each number node at in
    let grows = moved_grows board node (Extend number inst) at opened unclosed in
    let up : IsPath (moved board node (Extend number inst)).nodes (number ∷ one.above) = subst (IsPath (moved board node (Extend number inst)).nodes) one.path (path_stays board (moved board node (Extend number inst)) grows node.path one.rooted) in
    let own : IsChildOf (moved board node (Extend number inst)).nodes k number = record {
      node = settled board node (Extend number inst);
      is = there_now board.nodes (born board node (Extend number inst)) number node (settled board node (Extend number inst)) at;
      inst = inst;
      first = length board.nodes;
      state = refl;
      from = from;
      below = below;
    } in
    subst (λ path. IsPath (moved board node (Extend number inst)).nodes (k ∷ path)) (sym one.path) (own, up)

born_each : (setting : Setting) (board : Board) → IsProblem setting.problem → IsBoard setting board → (node : Node) (event : Event) → slice_get board.nodes (node_of event) ≡ Some node → node.state ≡ Open → node.own ≡ None → IsClean node.lits node.barred
    → IsDue setting board node (lemma_for board node) (cover_for setting.mode board node) event → (j : ℕ) (x : Node) → slice_get (born board node event) j ≡ Some x → IsSound setting (moved board node event) (length board.nodes + j) x
born_each setting board real facts node (Extend number inst) at opened unclosed clean due j x is =
    let one = facts.each number node at in
    born_sound setting (moved board node (Extend number inst)) node.path node.lits inst.conclusions one.fitting (conclusions_fit setting.problem real inst due.2.instance) (violated_parts node.lits inst due.2.violated).1
    (length board.nodes) (length board.nodes + length inst.conclusions) (λ k from below. rooted_below setting board facts node number inst at opened unclosed k from below)
    node.barred inst.conclusions (part_of_itself inst.conclusions) (length board.nodes) (omega arith) (omega arith) clean j x is
born_each setting board real facts node (Reject number inst) at opened unclosed clean due j x is = absurd (let bad : ⊥ = cc in bad)
born_each setting board real facts node (ByLemma number which) at opened unclosed clean due j x is = absurd (let bad : ⊥ = cc in bad)
born_each setting board real facts node (Saturated number) at opened unclosed clean due j x is = absurd (let bad : ⊥ = cc in bad)
born_each setting board real facts node (CoveredBy number by) at opened unclosed clean due j x is = absurd (let bad : ⊥ = cc in bad)
born_each setting board real facts node (TooHeavy number inst) at opened unclosed clean due j x is = absurd (let bad : ⊥ = cc in bad)

-- what is born is known, whatever the event
pub born_known : (board : Board) (node : Node) (event : Event) (j : ℕ) (x : Node) → slice_get (born board node event) j ≡ Some x → IsBorn (length board.nodes) node.path node.lits node.barred j x
born_known board node (Extend number inst) j x is = born_parts (length board.nodes) node.path node.lits node.barred inst.conclusions j x is
born_known board node (Reject number inst) j x is = absurd (let bad : ⊥ = cc in bad)
born_known board node (ByLemma number which) j x is = absurd (let bad : ⊥ = cc in bad)
born_known board node (Saturated number) j x is = absurd (let bad : ⊥ = cc in bad)
born_known board node (CoveredBy number by) j x is = absurd (let bad : ⊥ = cc in bad)
born_known board node (TooHeavy number inst) j x is = absurd (let bad : ⊥ = cc in bad)

born_siblings : (board : Board) (node : Node) (event : Event) (i j : ℕ) (x y : Node) → i < j → slice_get (born board node event) i ≡ Some x → slice_get (born board node event) j ≡ Some y → meets x.lits y.barred ≡ true
born_siblings board node (Extend number inst) i j x y less one two = siblings (length board.nodes) node.path node.lits node.barred inst.conclusions i j x y less one two
born_siblings board node (Reject number inst) i j x y less one two = absurd (let bad : ⊥ = cc in bad)
born_siblings board node (ByLemma number which) i j x y less one two = absurd (let bad : ⊥ = cc in bad)
born_siblings board node (Saturated number) i j x y less one two = absurd (let bad : ⊥ = cc in bad)
born_siblings board node (CoveredBy number by) i j x y less one two = absurd (let bad : ⊥ = cc in bad)
born_siblings board node (TooHeavy number inst) i j x y less one two = absurd (let bad : ⊥ = cc in bad)

-- the event's own instance
new_inst : (setting : Setting) (board : Board) (node : Node) (event : Event) → IsDue setting board node (lemma_for board node) (cover_for setting.mode board node) event → (inst : Inst) → IsAmong (insts_in (event ∷ [])) inst → IsInstance setting.problem inst
new_inst setting board node (Extend number inst) due other (inl same) = subst (IsInstance setting.problem) same due.2.instance
new_inst setting board node (Extend number inst) due other (inr bad) = absurd bad
new_inst setting board node (Reject number inst) due other (inl same) = subst (IsInstance setting.problem) same due.2.instance
new_inst setting board node (Reject number inst) due other (inr bad) = absurd bad
new_inst setting board node (ByLemma number which) due other bad = absurd bad
new_inst setting board node (Saturated number) due other bad = absurd bad
new_inst setting board node (CoveredBy number by) due other bad = absurd bad
new_inst setting board node (TooHeavy number inst) due other bad = absurd bad

-- an old node with the same path, literals and barred set
pub record IsLike (nodes : List Node) (number : ℕ) (x : Node) : Type 0 where
  pub node : Node
  pub is : slice_get nodes number ≡ Some node
  pub path : node.path ≡ x.path
  pub lits : node.lits ≡ x.lits
  pub barred : node.barred ≡ x.barred
  pub unshut : is_shut node.state ≡ false

pub like_apart : (nodes : List Node) → AreApart nodes → (a b : ℕ) (x y : Node) → IsLike nodes a x → IsLike nodes b y → (IsAmong y.path a → ⊥) → (IsAmong x.path b → ⊥) → IsTrue (meets x.lits y.barred) ⊎ IsTrue (meets y.lits x.barred)
like_apart nodes apart a b x y one two not_a not_b =
    let old = apart a b one.node two.node one.is two.is one.unshut two.unshut (λ there. not_a (subst (λ path. IsAmong path a) two.path there)) (λ there. not_b (subst (λ path. IsAmong path b) one.path there)) in
    elim old [
      | inl left ↦ inl (subst (λ lits. meets lits y.barred ≡ true) one.lits (subst (λ barred. meets one.node.lits barred ≡ true) two.barred left))
      | inr right ↦ inr (subst (λ lits. meets lits x.barred ≡ true) two.lits (subst (λ barred. meets two.node.lits barred ≡ true) one.barred right))
    ]

module _ (setting : Setting) (board : Board) (real : IsProblem setting.problem) (facts : IsBoard setting board) (node : Node) (event : Event) (at : slice_get board.nodes (node_of event) ≡ Some node) (opened : node.state ≡ Open)
    (due : IsDue setting board node (lemma_for board node) (cover_for setting.mode board node) event) where
  unclosed : node.own ≡ None
  unclosed = subst (StateHolds setting board (node_of event) node) opened (facts.each (node_of event) node at).state

  open_unshut : is_shut node.state ≡ false
  open_unshut = ap is_shut opened

  clean : IsClean node.lits node.barred
  clean = (facts.each (node_of event) node at).clean open_unshut

  grows : Grows board (moved board node event)
  grows = moved_grows board node event at opened unclosed

  from_where : (m : ℕ) (x : Node) → slice_get (moved board node event).nodes m ≡ Some x
      → ((m ≡ node_of event) × (x ≡ settled board node event)) ⊎ (((m ≢ node_of event) × (slice_get board.nodes m ≡ Some x)) ⊎ ((j : ℕ) × (m ≡ length board.nodes + j) × (slice_get (born board node event) j ≡ Some x)))
  from_where m x is = whence board.nodes (born board node event) (node_of event) node (settled board node event) m x at is

  moved_each : (m : ℕ) (x : Node) → slice_get (moved board node event).nodes m ≡ Some x → IsSound setting (moved board node event) m x
  moved_each m x is = elim (from_where m x is) [
    | inl (same, new) ↦ subst (λ place. IsSound setting (moved board node event) place x) (sym same) (subst (IsSound setting (moved board node event) (node_of event)) (sym new) (settled_sound setting board real facts node event at opened unclosed clean due))
    | inr (inl (apart, old)) ↦ sound_stays setting board (moved board node event) grows m x (facts.each m x old)
    | inr (inr (j, place, there)) ↦ subst (λ k. IsSound setting (moved board node event) k x) (sym place) (born_each setting board real facts node event at opened unclosed clean due j x there)
  ]

  -- the node as it was is like the node as it is
  like_settled : IsLike board.nodes (node_of event) (settled board node event)
  like_settled =
      let keeps = settled_keeps board node event in
      record { node = node; is = at; path = sym keeps.path; lits = sym keeps.lits; barred = sym keeps.barred; unshut = open_unshut }

  like_itself : (m : ℕ) (x : Node) → slice_get board.nodes m ≡ Some x → is_shut x.state ≡ false → IsLike board.nodes m x
  like_itself m x is unshut = record { node = x; is = is; path = refl; lits = refl; barred = refl; unshut = unshut }

  path_head : IsAmong node.path (node_of event)
  path_head = subst (λ path. IsAmong path (node_of event)) (sym (facts.each (node_of event) node at).path) (inl refl)

  -- a child against a node that was there
  child_apart : (j : ℕ) (x : Node) → slice_get (born board node event) j ≡ Some x → (b : ℕ) (y : Node) → IsLike board.nodes b y → (IsAmong x.path b → ⊥) → (meets x.lits y.barred ≡ true) ⊎ (meets y.lits x.barred ≡ true)
  child_apart j x there b y like not_b =
      let known = born_known board node event j x there in
      let not_above : IsAmong node.path b → ⊥ = λ up. not_b (subst (λ path. IsAmong path b) (sym known.path) (inr up)) in
      let apart : b ≢ node_of event = λ same. not_above (subst (IsAmong node.path) (sym same) path_head) in
      let not_below : IsAmong y.path (node_of event) → ⊥ = λ up. open_above_none setting board facts.each b like.node like.is (node_of event) node at opened apart (subst (λ path. IsAmong path (node_of event)) (sym like.path) up) in
      let old = like_apart board.nodes facts.apart (node_of event) b node y (like_itself (node_of event) node at open_unshut) like not_below not_above in
      elim old [
        | inl left ↦ inl (meets_more node.lits x.lits y.barred y.barred (subst (λ lits. is_part node.lits lits ≡ true) (sym known.lits) (part_one_more node.lits known.lit)) (part_of_itself y.barred) left)
        | inr right ↦ inr (meets_more y.lits y.lits node.barred x.barred (part_of_itself y.lits) known.wider right)
      ]

  moved_apart : AreApart (moved board node event).nodes
  moved_apart a b x y is_a is_b shut_a shut_b not_a not_b = by (from_where a x is_a) (from_where b y is_b)
    where
      swap_sides : (meets y.lits x.barred ≡ true) ⊎ (meets x.lits y.barred ≡ true) → IsTrue (meets x.lits y.barred) ⊎ IsTrue (meets y.lits x.barred)
      swap_sides (inl e) = inr e
      swap_sides (inr e) = inl e

      like_new : (m : ℕ) (z : Node) → m ≡ node_of event → z ≡ settled board node event → IsLike board.nodes m z
      like_new m z same new = subst (λ place. IsLike board.nodes place z) (sym same) (subst (IsLike board.nodes (node_of event)) (sym new) like_settled)

      by : ((a ≡ node_of event) × (x ≡ settled board node event)) ⊎ (((a ≢ node_of event) × (slice_get board.nodes a ≡ Some x)) ⊎ ((j : ℕ) × (a ≡ length board.nodes + j) × (slice_get (born board node event) j ≡ Some x)))
          → ((b ≡ node_of event) × (y ≡ settled board node event)) ⊎ (((b ≢ node_of event) × (slice_get board.nodes b ≡ Some y)) ⊎ ((j : ℕ) × (b ≡ length board.nodes + j) × (slice_get (born board node event) j ≡ Some y)))
          → IsTrue (meets x.lits y.barred) ⊎ IsTrue (meets y.lits x.barred)
      by (inl (same, new)) (inl (same', new')) = like_apart board.nodes facts.apart a b x y (like_new a x same new) (like_new b y same' new') not_a not_b
      by (inl (same, new)) (inr (inl (out, old))) = like_apart board.nodes facts.apart a b x y (like_new a x same new) (like_itself b y old shut_b) not_a not_b
      by (inl (same, new)) (inr (inr (j, place, there))) = swap_sides (child_apart j y there a x (like_new a x same new) not_a)
      by (inr (inl (out, old))) (inl (same, new)) = like_apart board.nodes facts.apart a b x y (like_itself a x old shut_a) (like_new b y same new) not_a not_b
      by (inr (inl (out, old))) (inr (inl (out', old'))) = like_apart board.nodes facts.apart a b x y (like_itself a x old shut_a) (like_itself b y old' shut_b) not_a not_b
      by (inr (inl (out, old))) (inr (inr (j, place, there))) = swap_sides (child_apart j y there a x (like_itself a x old shut_a) not_a)
      by (inr (inr (j, place, there))) (inl (same, new)) = child_apart j x there b y (like_new b y same new) not_b
      by (inr (inr (j, place, there))) (inr (inl (out, old))) = child_apart j x there b y (like_itself b y old shut_b) not_b
      by (inr (inr (i, place, there))) (inr (inr (j, place', there'))) = elim (cases_lt i j) [
        | inl less ↦ inl (born_siblings board node event i j x y less there there')
        | inr more ↦ elim (cases_eq i j) [
          | inl same ↦
              let known = born_known board node event j y there' in
              absurd (not_a (subst (λ path. IsAmong path a) (sym known.path) (inl (let e : length board.nodes + j ≡ a = omega (arith, place, same) in e))))
          | inr apart ↦ inr (born_siblings board node event j i y x (omega (arith, more, apart)) there' there)
        ]
      ]

  -- no kept lemma is of the node or of one above it
  none_kept_above : (lemma : ℕ) (kept : Kept) → numbered board.kept lemma ≡ Some kept → IsAmong node.path kept.node → ⊥
  none_kept_above lemma kept is above =
      let own = facts.kept lemma kept is in
      let closed = node_closed setting board facts.each (node_of event) node at kept.node above kept.pair (ap own_of own.is ∙ own.own) in
      none_some closed.0 (sym unclosed ∙ closed.1)

  moved_kept : (lemma : ℕ) (kept : Kept) → numbered board.kept lemma ≡ Some kept → IsKept (moved board node event) lemma kept
  moved_kept lemma kept is =
      let own = facts.kept lemma kept is in
      let stays = grows.nodes kept.node own.node own.is in
      record {
        node = stays.after;
        is = stays.is;
        inst = own.inst;
        first = own.first;
        split = elim stays.later.state [
          | inl bad ↦ absurd (not_split own.inst own.first own.node.state own.split bad)
          | inr same ↦ same ∙ own.split
        ];
        own = elim stays.later.own [
          | inl bad ↦ absurd (none_some kept.pair (sym bad ∙ own.own))
          | inr same ↦ same ∙ own.own
        ];
        once = own.once;
        settled = λ k below other there above state. elim (from_where k below there) [
          | inl (same, new) ↦ absurd (none_kept_above lemma kept is (subst (λ path. IsAmong path kept.node) (ap (λ (n : Node). n.path) new ∙ (settled_keeps board node event).path) above))
          | inr (inl (out, old)) ↦ own.settled k below other old above state
          | inr (inr (j, place, new)) ↦ let known = born_known board node event j below new in absurd (state_by_not_settled known.state.0 other (sym known.state.1 ∙ state))
        ];
        kept = λ k below other more there above apart number same. elim (from_where k below there) [
          | inl (place, new) ↦ absurd (none_kept_above lemma kept is (subst (λ path. IsAmong path kept.node) (ap (λ (n : Node). n.path) new ∙ (settled_keeps board node event).path) above))
          | inr (inl (out, old)) ↦ own.kept k below other more old above apart number same
          | inr (inr (j, place, new)) ↦
              let source = facts.kept other more number in
              let small = within board.nodes more.node source.node source.is in
              absurd (omega (arith, small, same, place))
        ];
      }

  pub moved_board : IsBoard setting (moved board node event)
  moved_board = record {
    root =
        let stays = grows.nodes 0 facts.root.0 facts.root.1 in
        (stays.after, stays.is, stays.later.path ∙ facts.root.2, stays.later.lits ∙ facts.root.3, stays.later.barred ∙ facts.root.4);
    used = λ inst there. elim (among-append (insts_in board.journal) (insts_in (event ∷ [])) inst (subst (λ insts. IsAmong insts inst) (insts-append board.journal (event ∷ [])) there)) [
      | inl old ↦ facts.used inst old
      | inr new ↦ new_inst setting board node event due inst new
    ];
    each = moved_each;
    apart = moved_apart;
    kept = moved_kept;
  }
