-- What a walk that is not done stands for.
use Rattle.std.proofs.Common.{◌≡◌, Bool, true, false, not, MatchBool, List, [], ◌∷◌, refl, sym, ◌∙◌, if◌then◌else◌}
use Rattle.tree_checker.specs.Trees.{Branch}
use Rattle.tree_checker.specs.Inside.{pending, walk_seen}
use Rattle.tree_checker.specs.declared.walk.Walk.TheInside.{Inside}

pub walk_is_open : (walk : Inside) (branches : List Branch) → walk_seen walk ≡ branches → (branches ≡ [] → ⊥) → walk.is_done ≡ false
walk_is_open walk branches seen some = by walk.is_done refl
  where
    by : (b : Bool) → walk.is_done ≡ b → walk.is_done ≡ false
    by false e = e
    by true e = absurd (some (sym seen ∙ rw e refl))

pub walk_seen-open : (walk : Inside) (branches : List Branch) → walk_seen walk ≡ branches → (branches ≡ [] → ⊥)
    → branches ≡ record { held = walk.held; barred = walk.barred } ∷ pending walk.held walk.barred walk.frames.items
walk_seen-open walk branches seen some = sym seen ∙ rw (walk_is_open walk branches seen some) refl

pub seen_after : (more : Bool) (old : List Branch) (first : Branch) (rest : List Branch) → MatchBool more (old ≡ first ∷ rest) (old ≡ [])
    → (if not more then [] else first ∷ rest) ≡ old
seen_after true old first rest is = sym is
seen_after false old first rest is = sym is
