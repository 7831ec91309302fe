-- What happens to the branches of stacked frames where one is pushed, popped or goes on to its next child.
use Rattle.std.proofs.Common.{◌≡◌, ℕ, ◌+◌, ◌-◌, ◌<◌, ◌≤◌, suc, List, [], ◌∷◌, ◌++◌, length, take, drop, reverse, refl, sym, ap, ◌∙◌, arith, append_assoc}
use Rattle.std.proofs.lemmas.List.{append-nil, take-take, take_at, drop_at, take_all, length-append, length-take-le, reverse-append}
use Rattle.mg_word.specs.declared.lit.Lit.{Lit}
use Rattle.tree_checker.specs.Trees.{Branch, split_by}
use Rattle.tree_checker.specs.Inside.{goals_of, pending, AreNested}
use Rattle.tree_checker.specs.declared.frame.Frame.{Frame}

-- the last frame's branches come first
pub pending-push : (held barred : List Lit) (frames : List Frame) (frame : Frame)
    → pending held barred (frames ++ frame ∷ []) ≡ goals_of held barred frame ++ pending held barred frames
pending-push held barred [] frame = sym (append-nil (goals_of held barred frame))
pending-push held barred (first ∷ frames) frame =
    ap (λ branches. branches ++ goals_of held barred first) (pending-push held barred frames frame)
    ∙ append_assoc (goals_of held barred frame) (pending held barred frames) (goals_of held barred first)

pub AreNested-bound : (l m : ℕ) (frames : List Frame) (h e : ℕ) → AreNested l m frames h e → (l ≤ h) × (m ≤ e)
AreNested-bound l m [] h e nested = nested
AreNested-bound l m (frame ∷ frames) h e nested =
    let above = AreNested-bound frame.held frame.barred frames h e nested.2 in (omega arith, omega arith)

-- counts that are nested below the last frame's are nested below greater ones, with it
pub AreNested-push : (l m : ℕ) (frames : List Frame) (frame : Frame) (h e : ℕ) → AreNested l m frames (frame.held - 1) frame.barred → 0 < frame.held → frame.held ≤ h → frame.barred ≤ e
    → AreNested l m (frames ++ frame ∷ []) h e
AreNested-push l m [] frame h e nested counted held barred = (omega (arith, nested.0), nested.1, (held, barred))
AreNested-push l m (first ∷ frames) frame h e nested counted held barred =
    (nested.0, nested.1, AreNested-push first.held first.barred frames frame h e nested.2 counted held barred)

pub record Popped (l m : ℕ) (frames : List Frame) (frame : Frame) (h e : ℕ) : Type 0 where
  pub below : AreNested l m frames (frame.held - 1) frame.barred
  pub counted : 0 < frame.held
  pub held : frame.held ≤ h
  pub barred : frame.barred ≤ e

pub AreNested-pop : (l m : ℕ) (frames : List Frame) (frame : Frame) (h e : ℕ) → AreNested l m (frames ++ frame ∷ []) h e → Popped l m frames frame h e
AreNested-pop l m [] frame h e nested =
    record { below = (omega (arith, nested.0), nested.1); counted = omega (arith, nested.0); held = nested.2.0; barred = nested.2.1 }
AreNested-pop l m (first ∷ frames) frame h e nested =
    let above = AreNested-pop first.held first.barred frames frame h e nested.2 in
    record { below = (nested.0, nested.1, above.below); counted = above.counted; held = above.held; barred = above.barred }

pub AreNested-more : (l m : ℕ) (frames : List Frame) (h e h' e' : ℕ) → AreNested l m frames h e → h ≤ h' → e ≤ e' → AreNested l m frames h' e'
AreNested-more l m [] h e h' e' nested held barred = (omega arith, omega arith)
AreNested-more l m (frame ∷ frames) h e h' e' nested held barred =
    (nested.0, nested.1, AreNested-more frame.held frame.barred frames h e h' e' nested.2 held barred)

-- what is held past a count does not matter to frames below it
pub pending-same : (held barred held' barred' : List Lit) (l m : ℕ) (frames : List Frame) (h e : ℕ) → AreNested l m frames h e
    → take h held ≡ take h held' → take e barred ≡ take e barred' → pending held barred frames ≡ pending held' barred' frames
pending-same held barred held' barred' l m [] h e nested same_held same_barred = refl
pending-same held barred held' barred' l m (frame ∷ frames) h e nested same_held same_barred =
    let bound = AreNested-bound frame.held frame.barred frames h e nested.2 in
    let front : take frame.held held ≡ take frame.held held' =
    sym (take-take frame.held h held bound.0) ∙ ap (take frame.held) same_held ∙ take-take frame.held h held' bound.0 in
    let front_barred : take frame.barred barred ≡ take frame.barred barred' =
    sym (take-take frame.barred e barred bound.1) ∙ ap (take frame.barred) same_barred ∙ take-take frame.barred e barred' bound.1 in
    let rest = pending-same held barred held' barred' frame.held frame.barred frames h e nested.2 same_held same_barred in
    let goals : goals_of held barred frame ≡ goals_of held' barred' frame = rw (front, front_barred) refl in
    rw (rest, goals) refl

pub length-split_by : (branch : Branch) (lits : List Lit) → length (split_by branch lits) ≡ length lits
length-split_by branch [] = refl
length-split_by branch (lit ∷ lits) = ap suc (length-split_by (record { held = branch.held; barred = branch.barred ++ lit ∷ [] }) lits)

-- all but the last of the first so many
pub take-front : (lits front : List Lit) (last : Lit) (n : ℕ) → 0 < n → n ≤ length lits → take n lits ≡ front ++ last ∷ [] → take (n - 1) lits ≡ front
take-front lits front last n counted within is =
    let size : length front ≡ n - 1 = omega (arith, length-take-le n lits within, ap length is, length-append front (last ∷ [])) in
    sym (take-take (n - 1) n lits (omega arith)) ∙ ap (take (n - 1)) is ∙ take_at front (last ∷ []) (n - 1) size

-- a frame without a further child has no branches
pub goals_of-none : (held barred : List Lit) (frame : Frame) → frame.later.items ≡ [] → goals_of held barred frame ≡ []
goals_of-none held barred frame none = rw none refl

-- the frame goes on to its next child: its literal stands in for the last one, which is barred from then on
module _ (held barred front held' barred' : List Lit) (frames : List Frame) (frame next : Frame) (closed lit : Lit)
    (nested : AreNested 0 0 (frames ++ frame ∷ []) (length held) (length barred))
    (own : take frame.held held ≡ front ++ closed ∷ [])
    (held_is : held' ≡ front ++ lit ∷ [])
    (barred_is : barred' ≡ take frame.barred barred ++ closed ∷ [])
    (later_is : frame.later.items ≡ next.later.items ++ lit ∷ [])
    (next_held : next.held ≡ frame.held)
    (next_barred : next.barred ≡ length barred') where
  pub front_length : length front ≡ frame.held - 1
  front_length =
      let popped = AreNested-pop 0 0 frames frame (length held) (length barred) nested in
      let whole = length-take-le frame.held held popped.held in
      omega (arith, whole, ap length own, length-append front (closed ∷ []), popped.counted)

  pub held_length : length held' ≡ frame.held
  held_length =
      let popped = AreNested-pop 0 0 frames frame (length held) (length barred) nested in
      omega (arith, ap length held_is, length-append front (lit ∷ []), front_length, popped.counted)

  pub barred_length : frame.barred ≤ length barred'
  barred_length =
      let popped = AreNested-pop 0 0 frames frame (length held) (length barred) nested in
      omega (arith, ap length barred_is, length-append (take frame.barred barred) (closed ∷ []), length-take-le frame.barred barred popped.barred)

  pub next-nested : AreNested 0 0 (frames ++ next ∷ []) (length held') (length barred')
  next-nested =
      let popped = AreNested-pop 0 0 frames frame (length held) (length barred) nested in
      let below = AreNested-more 0 0 frames (frame.held - 1) frame.barred (next.held - 1) next.barred popped.below
      (omega (arith, next_held)) (omega (arith, next_barred, barred_length)) in
      AreNested-push 0 0 frames next (length held') (length barred') below
      (omega (arith, next_held, popped.counted)) (omega (arith, next_held, held_length)) (omega (arith, next_barred))

  pub front_is : take (frame.held - 1) held ≡ front
  front_is =
      sym (take-take (frame.held - 1) frame.held held (omega arith))
      ∙ ap (take (frame.held - 1)) own ∙ take_at front (closed ∷ []) (frame.held - 1) front_length

  pub front_kept : take (frame.held - 1) held' ≡ front
  front_kept = ap (take (frame.held - 1)) held_is ∙ take_at front (lit ∷ []) (frame.held - 1) front_length

  pub barred_kept : take frame.barred barred' ≡ take frame.barred barred
  barred_kept =
      let popped = AreNested-pop 0 0 frames frame (length held) (length barred) nested in
      ap (take frame.barred) barred_is ∙ take_at (take frame.barred barred) (closed ∷ []) frame.barred (length-take-le frame.barred barred popped.barred)

  pub goals_before : goals_of held barred frame
      ≡ record { held = held'; barred = barred' } ∷ split_by (record { held = front; barred = barred' ++ lit ∷ [] }) (reverse next.later.items)
  goals_before =
      let one : take (frame.held - 1) (take frame.held held) ≡ front = ap (take (frame.held - 1)) own ∙ take_at front (closed ∷ []) (frame.held - 1) front_length in
      let last : drop (frame.held - 1) (take frame.held held) ≡ closed ∷ [] = ap (drop (frame.held - 1)) own ∙ drop_at front (closed ∷ []) (frame.held - 1) front_length in
      let order : reverse frame.later.items ≡ lit ∷ reverse next.later.items = ap reverse later_is ∙ reverse-append next.later.items (lit ∷ []) in
      rw (one, last, order, ← barred_is, ← held_is) refl

  pub goals_after : goals_of held' barred' next ≡ split_by (record { held = front; barred = barred' ++ lit ∷ [] }) (reverse next.later.items)
  goals_after =
      let all : take next.held held' ≡ held' = take_all next.held held' (omega (arith, next_held, held_length)) in
      let every : take next.barred barred' ≡ barred' = take_all next.barred barred' (omega (arith, next_barred)) in
      let one : take (next.held - 1) held' ≡ front = ap (λ n. take (n - 1) held') next_held ∙ front_kept in
      let last : drop (next.held - 1) held' ≡ lit ∷ [] =
      ap (λ n. drop (n - 1) held') next_held ∙ ap (drop (frame.held - 1)) held_is ∙ drop_at front (lit ∷ []) (frame.held - 1) front_length in
      rw (all, every, one, last) refl

  pub next-pending : pending held barred (frames ++ frame ∷ []) ≡ record { held = held'; barred = barred' } ∷ pending held' barred' (frames ++ next ∷ [])
  next-pending =
      let popped = AreNested-pop 0 0 frames frame (length held) (length barred) nested in
      let rest = pending-same held barred held' barred' 0 0 frames (frame.held - 1) frame.barred popped.below (front_is ∙ sym front_kept) (sym barred_kept) in
      pending-push held barred frames frame
      ∙ rw (goals_before, rest, ← goals_after, pending-push held' barred' frames next) refl

-- a new frame's branches, once its first child has begun, are those of its other children
pub first-pending : (held barred held' : List Lit) (frames : List Frame) (frame : Frame) (lit : Lit) (later : List Lit)
    → AreNested 0 0 frames (length held) (length barred) → held' ≡ held ++ lit ∷ [] → frame.held ≡ length held' → frame.barred ≡ length barred → later ≡ frame.later.items ++ lit ∷ []
    → split_by (record { held = held; barred = barred }) (reverse later) ++ pending held barred frames
    ≡ record { held = held'; barred = barred } ∷ pending held' barred (frames ++ frame ∷ [])
first-pending held barred held' frames frame lit later nested held_is all_held all_barred later_is =
    let order : reverse later ≡ lit ∷ reverse frame.later.items = ap reverse later_is ∙ reverse-append frame.later.items (lit ∷ []) in
    let long : length held' ≡ length held + 1 = ap length held_is ∙ length-append held (lit ∷ []) in
    let below : length held ≡ frame.held - 1 = omega arith in
    let all : take frame.held held' ≡ held' = take_all frame.held held' (omega arith) in
    let every : take frame.barred barred ≡ barred = take_all frame.barred barred (omega arith) in
    let one : take (frame.held - 1) held' ≡ held = ap (take (frame.held - 1)) held_is ∙ take_at held (lit ∷ []) (frame.held - 1) below in
    let last : drop (frame.held - 1) held' ≡ lit ∷ [] = ap (drop (frame.held - 1)) held_is ∙ drop_at held (lit ∷ []) (frame.held - 1) below in
    let goals : goals_of held' barred frame ≡ split_by (record { held = held; barred = barred ++ lit ∷ [] }) (reverse frame.later.items) = rw (all, every, one, last) refl in
    let rest : pending held barred frames ≡ pending held' barred frames =
    pending-same held barred held' barred 0 0 frames (length held) (length barred) nested
    (take_all (length held) held (omega arith) ∙ sym (ap (take (length held)) held_is ∙ take_at held (lit ∷ []) (length held) refl)) refl in
    rw (order, pending-push held' barred frames frame, goals, rest, held_is) refl

-- an only child is the next branch, and needs no frame
pub only-pending : (held barred held' : List Lit) (frames : List Frame) (lit : Lit) (later : List Lit)
    → AreNested 0 0 frames (length held) (length barred) → held' ≡ held ++ lit ∷ [] → later ≡ [] ++ lit ∷ []
    → split_by (record { held = held; barred = barred }) (reverse later) ++ pending held barred frames ≡ record { held = held'; barred = barred } ∷ pending held' barred frames
only-pending held barred held' frames lit later nested held_is later_is =
    let order : reverse later ≡ lit ∷ [] = ap reverse later_is ∙ reverse-append [] (lit ∷ []) in
    let rest : pending held barred frames ≡ pending held' barred frames =
    pending-same held barred held' barred 0 0 frames (length held) (length barred) nested
    (take_all (length held) held (omega arith) ∙ sym (ap (take (length held)) held_is ∙ take_at held (lit ∷ []) (length held) refl)) refl in
    rw (order, rest, held_is) refl
