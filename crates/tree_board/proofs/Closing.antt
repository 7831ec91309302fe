-- Closing a split node whose children are closed keeps the facts of the board.
use Rattle.std.proofs.Common.{◌≡◌, ◌≢◌, ℕ, zero, suc, ◌≤◌, Bool, true, false, true≢false, not, cond, List, [], ◌∷◌, ◌++◌, length, slice_get, All, Option, Some, None, option_map, refl, sym, ap, subst, ◌∙◌, ◌⊎◌, inl, inr, arith}
use Rattle.std.proofs.lemmas.Bool.{cases_eq}
use Rattle.mg_word.specs.Words.{numbered}
use Rattle.mg_word.specs.Sets.{holds, is_part, with_lit}
use Rattle.mg_word.specs.declared.lit.Lit.{Lit}
use Rattle.mg_word.specs.declared.form.Inst.{Inst}
use Rattle.mg_word.proofs.Members.{part_holds, part_from, part-append, holds_cases, holds_first, holds_later, holds_left, holds-append, or_true}
use Rattle.mg_meaning.specs.Excluding.{ExcludesBy}
use Rattle.mg_meaning.specs.Folding.{Pair, without, insides, outsides, folded}
use Rattle.mg_meaning.proofs.Lists.{contains_from}
use Rattle.mg_meaning.proofs.Excluded.{violated_parts, folded_excludes}
use Rattle.tree_board.specs.Boards.{Kept, Board, own_of}
use Rattle.tree_board.specs.Closings.{pairs_at, due_state, due_own, due, kept_with, closed_with, closed_by, closed_node, closed_at}
use Rattle.tree_board.specs.Events.{insts_in}
use Rattle.tree_board.specs.Facts.{IsAmong, HasChildren, IsSplit, StateHolds, IsLemmaOf, IsSound, AreApart, IsKept, IsBoard}
use Rattle.tree_board.specs.NodeStates.{NodeState, Open, Split, Rejected, Settled, Shut, Found, Covered, Heavy, is_shut}
use Rattle.tree_board.specs.Nodes.{Node}
use Rattle.tree_board.specs.Settings.{Setting}
use Rattle.tree_board.proofs.Places.{get_set_same, get_set_other, same_some, numbered_left, numbered_last, numbered_most, within}
use Rattle.tree_board.proofs.Growth.{Grows, path_stays, split_stays, pairs_stay, lemma_stays, sound_stays, not_split, cons_pair_parts}
use Rattle.tree_board.proofs.Cleaning.{holds_one_more, part_of_set, barred_cases}
use Rattle.tree_board.proofs.Settling.{none_some}
use Rattle.tree_board.proofs.Below.{split_at, node_closed}
use Rattle.tree_board.proofs.Moving.{IsLike, like_apart}

-- what is left of a list was in it, and was not taken out
without_parts : (taken lits : List Lit) (lit : Lit) → holds (without taken lits) lit ≡ true → (holds lits lit ≡ true) × (holds taken lit ≡ false)
without_parts taken [] lit there = absurd (true≢false (sym there))
without_parts taken (first ∷ lits) lit there = by (holds taken first) refl there (without_parts taken lits lit)
  where
    by : (out : Bool) → holds taken first ≡ out → holds (cond (not out) (first ∷ without taken lits) (without taken lits)) lit ≡ true → (holds (without taken lits) lit ≡ true → (holds lits lit ≡ true) × (holds taken lit ≡ false))
        → (holds (first ∷ lits) lit ≡ true) × (holds taken lit ≡ false)
    by true is there go = let parts = go there in (holds_later first lits lit parts.0, parts.1)
    by false is there go = elim (holds_cases first (without taken lits) lit there) [
      | inl same ↦ (subst (λ one. holds (first ∷ lits) one ≡ true) same (holds_first first lits), ap (holds taken) (sym same) ∙ is)
      | inr later ↦ let parts = go later in (holds_later first lits lit parts.0, parts.1)
    ]

-- what the lemmas of children say together
pub record AreLemmas (insts : List Inst) (lits barred before : List Lit) (conclusions : List Lit) (pairs : List Pair) : Type 0 where
  pub size : length pairs ≡ length conclusions
  pub exclude : All (λ pair. ExcludesBy insts pair.inside pair.outside) pairs
  pub inside : is_part (insides conclusions pairs) lits ≡ true
  pub outside : is_part (outsides before conclusions pairs) barred ≡ true

all_none : (P : Pair → Type 0) → All P []
all_none P k d within = absurd (omega arith)

all_cons : (P : Pair → Type 0) (pair : Pair) (pairs : List Pair) → P pair → All P pairs → All P (pair ∷ pairs)
all_cons P pair pairs one rest zero d within = one
all_cons P pair pairs one rest (suc k) d within = rest k d (omega arith)

-- the lemmas of the children of a split node, together
are_lemmas : (setting : Setting) (board : Board) → ((number : ℕ) (node : Node) → slice_get board.nodes number ≡ Some node → IsSound setting board number node)
    → (above : List ℕ) (lits barred before bars conclusions : List Lit) → ((lit : Lit) → holds bars lit ≡ true → (holds before lit ≡ true) ⊎ (holds barred lit ≡ true))
    → (first : ℕ) → HasChildren board.nodes first above lits bars conclusions → (pairs : List Pair) → pairs_at board.nodes first conclusions ≡ Some pairs → AreLemmas (insts_in board.journal) lits barred before conclusions pairs
are_lemmas setting board each above lits barred before bars [] only first children pairs e =
    let none : [] ≡ pairs = same_some [] pairs e in
    subst (AreLemmas (insts_in board.journal) lits barred before []) none (record { size = refl; exclude = all_none (λ pair. ExcludesBy (insts_in board.journal) pair.inside pair.outside); inside = refl; outside = refl })
are_lemmas setting board each above lits barred before bars (lit ∷ more) only first (child, children) pairs e =
    let parts = cons_pair_parts (own_of (slice_get board.nodes first)) (pairs_at board.nodes (suc first) more) pairs e in
    let pair = parts.0 in
    let own : child.node.own ≡ Some pair = ap own_of (sym child.is) ∙ parts.2 in
    let lemma = (each first child.node child.is).lemma pair own in
    let later : (one : Lit) → holds (with_lit bars lit) one ≡ true → (holds (before ++ lit ∷ []) one ≡ true) ⊎ (holds barred one ≡ true) = λ one there. elim (barred_cases bars lit one there) [
      | inl same ↦ inl (holds-append before (lit ∷ []) one ∙ or_true (holds before one) (holds (lit ∷ []) one) (inr (subst (λ other. holds (lit ∷ []) other ≡ true) same (holds_first lit []))))
      | inr old ↦ elim (only one old) [
        | inl front ↦ inl (holds_left before (lit ∷ []) one front)
        | inr out ↦ inr out
      ]
    ] in
    let rest = are_lemmas setting board each above lits barred (before ++ lit ∷ []) (with_lit bars lit) more later (suc first) children parts.1 parts.3 in
    let inside : is_part (without (lit ∷ []) pair.inside) lits ≡ true = part_from (without (lit ∷ []) pair.inside) lits (λ one there.
    let left = without_parts (lit ∷ []) pair.inside one there in
    let held : holds (lits ++ lit ∷ []) one ≡ true = subst (λ all. holds all one ≡ true) child.lits (part_holds pair.inside child.node.lits one lemma.inside left.0) in
    elim (holds_one_more lits lit one held) [
      | inl old ↦ old
      | inr same ↦ absurd (true≢false (sym (subst (λ other. holds (lit ∷ []) other ≡ true) same (holds_first lit [])) ∙ left.1))
    ]) in
    let outside : is_part (without before pair.outside) barred ≡ true = part_from (without before pair.outside) barred (λ one there.
    let left = without_parts before pair.outside one there in
    elim (only one (subst (λ all. holds all one ≡ true) child.barred (part_holds pair.outside child.node.barred one lemma.outside left.0))) [
      | inl front ↦ absurd (true≢false (sym front ∙ left.1))
      | inr out ↦ out
    ]) in
    subst (AreLemmas (insts_in board.journal) lits barred before (lit ∷ more)) (sym parts.4) (record {
      size = ap suc rest.size;
      exclude = all_cons (λ one. ExcludesBy (insts_in board.journal) one.inside one.outside) pair parts.1 lemma.excludes rest.exclude;
      inside = part-append (without (lit ∷ []) pair.inside) (insides more parts.1) lits inside rest.inside;
      outside = part-append (without before pair.outside) (outsides (before ++ lit ∷ []) more parts.1) barred outside rest.outside;
    })

-- where a node can be closed, it is split and not closed, and its children are
pub due_parts : (nodes : List Node) (node : Node) (pair : Pair) → due nodes node ≡ Some pair
    → (node.own ≡ None) × ((inst : Inst) × (first : ℕ) × (node.state ≡ Split inst first) × ((pairs : List Pair) × (pairs_at nodes first inst.conclusions ≡ Some pairs) × (pair ≡ folded inst pairs)))
due_parts nodes node pair e = by node.own refl e
  where
    fold : (inst : Inst) (first : ℕ) (all : Option (List Pair)) → pairs_at nodes first inst.conclusions ≡ all → option_map (folded inst) all ≡ Some pair → (pairs : List Pair) × (pairs_at nodes first inst.conclusions ≡ Some pairs) × (pair ≡ folded inst pairs)
    fold inst first None is e = absurd (none_some pair e)
    fold inst first (Some pairs) is e = (pairs, is, sym (same_some (folded inst pairs) pair e))

    state : (one : NodeState) → due_state nodes one ≡ Some pair → (inst : Inst) × (first : ℕ) × (one ≡ Split inst first) × ((pairs : List Pair) × (pairs_at nodes first inst.conclusions ≡ Some pairs) × (pair ≡ folded inst pairs))
    state (Split inst first) e = (inst, first, refl, fold inst first (pairs_at nodes first inst.conclusions) refl e)
    state Open e = absurd (none_some pair e)
    state (Rejected inst) e = absurd (none_some pair e)
    state (Settled lemma) e = absurd (none_some pair e)
    state (Shut closure) e = absurd (none_some pair e)
    state Found e = absurd (none_some pair e)
    state (Covered by) e = absurd (none_some pair e)
    state (Heavy inst) e = absurd (none_some pair e)

    by : (own : Option Pair) → node.own ≡ own → due_own nodes node.state own ≡ Some pair
        → (node.own ≡ None) × ((inst : Inst) × (first : ℕ) × (node.state ≡ Split inst first) × ((pairs : List Pair) × (pairs_at nodes first inst.conclusions ≡ Some pairs) × (pair ≡ folded inst pairs)))
    by None is e = (is, state node.state e)
    by (Some own) is e = absurd (none_some pair e)

module _ (setting : Setting) (board : Board) (facts : IsBoard setting board) (number : ℕ) (node : Node) (at : slice_get board.nodes number ≡ Some node) (pair : Pair) (unclosed : node.own ≡ None)
    (inst : Inst) (first : ℕ) (state : node.state ≡ Split inst first) (pairs : List Pair) (closed : pairs_at board.nodes first inst.conclusions ≡ Some pairs) (folds : pair ≡ folded inst pairs) where
  abbrev after : Node
  after = record node { own = Some pair }

  abbrev next : Board
  next = closed_with setting board number node pair

  from_where : (m : ℕ) (x : Node) → slice_get next.nodes m ≡ Some x → ((m ≡ number) × (x ≡ after)) ⊎ ((m ≢ number) × (slice_get board.nodes m ≡ Some x))
  from_where m x is = elim (cases_eq m number) [
    | inl same ↦ inl (same, same_some x after (sym is ∙ ap (slice_get next.nodes) same ∙ get_set_same board.nodes number node after at))
    | inr apart ↦ inr (apart, sym (get_set_other board.nodes number m after apart) ∙ is)
  ]

  grows : Grows board next
  grows = record {
    nodes = λ m x is. elim (cases_eq m number) [
      | inl same ↦
          let own : node ≡ x = same_some node x (sym at ∙ ap (slice_get board.nodes) (sym same) ∙ is) in
          record {
            after = after;
            is = ap (slice_get next.nodes) same ∙ get_set_same board.nodes number node after at;
            later = record {
              path = ap (λ (n : Node). n.path) own;
              lits = ap (λ (n : Node). n.lits) own;
              barred = ap (λ (n : Node). n.barred) own;
              state = inr (ap (λ (n : Node). n.state) own);
              own = inl (ap (λ (n : Node). n.own) (sym own) ∙ unclosed);
            };
          }
      | inr apart ↦ record { after = x; is = get_set_other board.nodes number m after apart ∙ is; later = record { path = refl; lits = refl; barred = refl; state = inr refl; own = inr refl } }
    ];
    insts = λ other there. there;
    kept = λ lemma kept is. by (setting.keeps (length board.kept) number pair) lemma kept is;
  }
    where
      by : (keep : Bool) (lemma : ℕ) (kept : Kept) → numbered board.kept lemma ≡ Some kept → numbered (kept_with keep board.kept number pair) lemma ≡ Some kept
      by true lemma kept is = numbered_left board.kept (record { node = number; pair = pair } ∷ []) lemma kept is
      by false lemma kept is = is

  own_split : IsSplit setting board number node inst first
  own_split = split_at setting board facts.each number node inst first at state

  own_lemma : IsLemmaOf board node pair
  own_lemma =
      let are = are_lemmas setting board facts.each node.path node.lits node.barred [] node.barred inst.conclusions (λ lit there. inr there) first own_split.children pairs closed in
      subst (IsLemmaOf board node) (sym folds) (record {
        excludes = folded_excludes (insts_in board.journal) inst pairs (contains_from (insts_in board.journal) inst own_split.used) are.size are.exclude;
        inside = part_of_set (inst.premises ++ insides inst.conclusions pairs) node.lits (part-append inst.premises (insides inst.conclusions pairs) node.lits (violated_parts node.lits inst own_split.least.violated).0 are.inside);
        outside = part_of_set (outsides [] inst.conclusions pairs) node.barred are.outside;
      })

  after_sound : IsSound setting next number after
  after_sound =
      let one = facts.each number node at in
      let own : IsSplit setting next number after inst first = record {
        least = own_split.least;
        used = own_split.used;
        later = own_split.later;
        children = (split_stays setting board next grows number node inst first own_split).children;
        folded = λ other is. (pairs, pairs_stay board next grows first inst.conclusions pairs closed, sym (same_some pair other is) ∙ folds);
      } in
      record {
        above = one.above;
        path = one.path;
        rooted = path_stays board next grows node.path one.rooted;
        fitting = one.fitting;
        clean = one.clean;
        state = subst (StateHolds setting next number after) (sym state) own;
        lemma = λ other is.
            let own = lemma_stays board next grows node pair own_lemma in
            subst (IsLemmaOf next after) (same_some pair other is) (record { excludes = own.excludes; inside = own.inside; outside = own.outside });
      }

  next_each : (m : ℕ) (x : Node) → slice_get next.nodes m ≡ Some x → IsSound setting next m x
  next_each m x is = elim (from_where m x is) [
    | inl (same, new) ↦ subst (λ place. IsSound setting next place x) (sym same) (subst (IsSound setting next number) (sym new) after_sound)
    | inr (apart, old) ↦ sound_stays setting board next grows m x (facts.each m x old)
  ]

  like_old : (m : ℕ) (x : Node) → slice_get next.nodes m ≡ Some x → is_shut x.state ≡ false → IsLike board.nodes m x
  like_old m x is unshut = elim (from_where m x is) [
    | inl (same, new) ↦ subst (λ place. IsLike board.nodes place x) (sym same) (subst (IsLike board.nodes number) (sym new) (record { node = node; is = at; path = refl; lits = refl; barred = refl; unshut = ap is_shut state }))
    | inr (apart, old) ↦ record { node = x; is = old; path = refl; lits = refl; barred = refl; unshut = unshut }
  ]

  next_apart : AreApart next.nodes
  next_apart a b x y is_a is_b shut_a shut_b not_a not_b = like_apart board.nodes facts.apart a b x y (like_old a x is_a shut_a) (like_old b y is_b shut_b) not_a not_b

  -- no kept lemma is of the node or of one above it
  none_kept_above : (lemma : ℕ) (kept : Kept) → numbered board.kept lemma ≡ Some kept → IsAmong node.path kept.node → ⊥
  none_kept_above lemma kept is above =
      let own = facts.kept lemma kept is in
      let found = node_closed setting board facts.each number node at kept.node above kept.pair (ap own_of own.is ∙ own.own) in
      none_some found.0 (sym unclosed ∙ found.1)

  path_head : IsAmong node.path number
  path_head = subst (λ path. IsAmong path number) (sym (facts.each number node at).path) (inl refl)

  -- an old kept lemma, over the new nodes and the old list
  old_kept : (lemma : ℕ) (kept : Kept) → numbered board.kept lemma ≡ Some kept → IsKept (record { nodes = next.nodes; kept = board.kept; journal = board.journal }) lemma kept
  old_kept lemma kept is =
      let own = facts.kept lemma kept is in
      let stays = grows.nodes kept.node own.node own.is in
      record {
        node = stays.after;
        is = stays.is;
        inst = own.inst;
        first = own.first;
        split = elim stays.later.state [
          | inl bad ↦ absurd (not_split own.inst own.first own.node.state own.split bad)
          | inr same ↦ same ∙ own.split
        ];
        own = elim stays.later.own [
          | inl bad ↦ absurd (none_some kept.pair (sym bad ∙ own.own))
          | inr same ↦ same ∙ own.own
        ];
        once = own.once;
        settled = λ k below other there above is_settled. elim (from_where k below there) [
          | inl (same, new) ↦ absurd (none_kept_above lemma kept is (subst (λ path. IsAmong path kept.node) (ap (λ (n : Node). n.path) new) above))
          | inr (apart, old) ↦ own.settled k below other old above is_settled
        ];
        kept = λ k below other more there above apart number_is same. elim (from_where k below there) [
          | inl (place, new) ↦ absurd (none_kept_above lemma kept is (subst (λ path. IsAmong path kept.node) (ap (λ (n : Node). n.path) new) above))
          | inr (out, old) ↦ own.kept k below other more old above apart number_is same
        ];
      }

  -- the facts on kept lemmas, where the new one is kept or not
  next_kept : (keep : Bool) (lemma : ℕ) (kept : Kept) → numbered (kept_with keep board.kept number pair) lemma ≡ Some kept → IsKept (record { nodes = next.nodes; kept = kept_with keep board.kept number pair; journal = board.journal }) lemma kept
  next_kept false lemma kept is = let old = old_kept lemma kept is in record {
    node = old.node;
    is = old.is;
    inst = old.inst;
    first = old.first;
    split = old.split;
    own = old.own;
    once = old.once;
    settled = old.settled;
    kept = old.kept;
  }
  next_kept true lemma kept is = elim (numbered_last board.kept (record { node = number; pair = pair }) lemma kept is) [
    | inl before ↦
        let old = old_kept lemma kept before in
        record {
          node = old.node;
          is = old.is;
          inst = old.inst;
          first = old.first;
          split = old.split;
          own = old.own;
          once = λ other more at_other same. elim (numbered_last board.kept (record { node = number; pair = pair }) other more at_other) [
            | inl there ↦ old.once other more there same
            | inr (place, new) ↦ absurd (none_kept_above lemma kept before (subst (IsAmong node.path) (ap (λ (k : Kept). k.node) new ∙ same) path_head))
          ];
          settled = old.settled;
          kept = λ k below other more there above apart at_other same. elim (numbered_last board.kept (record { node = number; pair = pair }) other more at_other) [
            | inl earlier ↦ old.kept k below other more there above apart earlier same
            | inr (place, new) ↦
                let own : number ≡ k = ap (λ (one : Kept). one.node) new ∙ same in
                absurd (none_kept_above lemma kept before (elim (from_where k below there) [
                  | inl (here, is_after) ↦ subst (λ path. IsAmong path kept.node) (ap (λ (n : Node). n.path) is_after) above
                  | inr (out, was) ↦ absurd (out (sym own))
                ]))
          ];
        }
    | inr (place, new) ↦
        let nodes_same : number ≡ kept.node = ap (λ (one : Kept). one.node) new in
        let pairs_same : pair ≡ kept.pair = ap (λ (one : Kept). one.pair) new in
        record {
          node = after;
          is = ap (slice_get next.nodes) (sym nodes_same) ∙ get_set_same board.nodes number node after at;
          inst = inst;
          first = first;
          split = state;
          own = ap Some pairs_same;
          once = λ other more at_other same. elim (numbered_last board.kept (record { node = number; pair = pair }) other more at_other) [
            | inl there ↦ absurd (none_kept_above other more there (subst (IsAmong node.path) (nodes_same ∙ sym same) path_head))
            | inr (there, is_new) ↦ there ∙ sym place
          ];
          settled = λ k below other there above is_settled. elim (from_where k below there) [
            | inl (here, is_after) ↦ absurd (split_not_settled inst first other (sym state ∙ (ap (λ (n : Node). n.state) (sym is_after) ∙ is_settled)))
            | inr (out, was) ↦
                let source = subst (StateHolds setting board k below) is_settled (facts.each k below was).state in
                omega (arith, settled_most other source.0 source.1, place)
          ];
          kept = λ k below other more there above apart at_other same. elim (numbered_last board.kept (record { node = number; pair = pair }) other more at_other) [
            | inl earlier ↦ omega (arith, numbered_most board.kept other more earlier, place)
            | inr (there', is_new) ↦ absurd (apart (sym same ∙ (ap (λ (one : Kept). one.node) (sym is_new) ∙ nodes_same)))
          ];
        }
  ]
    where
      split_not_settled : (one : Inst) (start other : ℕ) → Split one start ≡ Settled other → ⊥
      split_not_settled one start other e = cc

      settled_most : (other : ℕ) (own : Pair) → option_map (λ (kept : Kept). kept.pair) (numbered board.kept other) ≡ Some own → other ≤ length board.kept
      settled_most other own e = by (numbered board.kept other) refl e
        where
          by : (one : Option Kept) → numbered board.kept other ≡ one → option_map (λ (kept : Kept). kept.pair) one ≡ Some own → other ≤ length board.kept
          by None is e = absurd (none_some own e)
          by (Some kept) is e = numbered_most board.kept other kept is

  pub closed_board : IsBoard setting next
  closed_board = record {
    root =
        let stays = grows.nodes 0 facts.root.0 facts.root.1 in
        (stays.after, stays.is, stays.later.path ∙ facts.root.2, stays.later.lits ∙ facts.root.3, stays.later.barred ∙ facts.root.4);
    used = facts.used;
    each = next_each;
    apart = next_apart;
    kept = λ lemma kept is. next_kept (setting.keeps (length board.kept) number pair) lemma kept is;
  }

  pub closed_grows : Grows board next
  closed_grows = grows

-- whether the node can be closed or not
pub closed_at_board : (setting : Setting) (board : Board) (number : ℕ) → IsBoard setting board → IsBoard setting (closed_at setting board number)
unfolding closed_at
closed_at_board setting board number facts = by (slice_get board.nodes number) refl
  where
    close : (node : Node) → slice_get board.nodes number ≡ Some node → (pair : Option Pair) → due board.nodes node ≡ pair → IsBoard setting (closed_by setting board number node pair)
    close node at None is = facts
    close node at (Some pair) is =
        let parts = due_parts board.nodes node pair is in
        let (inst, first, state, (pairs, closed, folds)) = parts.1 in
        closed_board setting board facts number node at pair parts.0 inst first state pairs closed folds

    by : (node : Option Node) → slice_get board.nodes number ≡ node → IsBoard setting (closed_node setting board number node)
    by None at = facts
    by (Some node) at = close node at (due board.nodes node) refl
