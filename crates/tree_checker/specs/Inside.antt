-- What the fields of a walk stand for.
use Rattle.std.specs.Prelude.{◌≡◌, ℕ, ◌-◌, ◌<◌, ◌≤◌, List, [], ◌∷◌, ◌++◌, length, take, drop, reverse, if◌then◌else◌, false}
use Rattle.mg_word.specs.declared.lit.Lit.{Lit}
use Rattle.tree_checker.specs.Trees.{Branch, split_by}
use Rattle.tree_checker.specs.declared.frame.Frame.{Frame}
use Rattle.tree_checker.specs.declared.walk.Walk.TheInside.{Inside}

-- the branches of a frame's children after the one under way, whose literal is the last that the frame counts
abbrev pub later_of : List Lit → List Lit → Frame → List Branch
later_of held barred frame =
    split_by (record { held = take (frame.held - 1) held; barred = barred ++ drop (frame.held - 1) held }) (reverse frame.later.items)

-- the same, of all that is held and barred
abbrev pub goals_of : List Lit → List Lit → Frame → List Branch
goals_of held barred frame = later_of (take frame.held held) (take frame.barred barred) frame

-- the frames are stacked: the last one's branches come first
abbrev pub pending : List Lit → List Lit → List Frame → List Branch
pending held barred [] = []
pending held barred (frame ∷ frames) = pending held barred frames ++ goals_of held barred frame

-- the counts of the frames rise, from these to these
abbrev pub AreNested : ℕ → ℕ → List Frame → ℕ → ℕ → Type 0
AreNested low_held low_barred [] held barred = (low_held ≤ held) × (low_barred ≤ barred)
AreNested low_held low_barred (frame ∷ frames) held barred =
    (low_held < frame.held) × (low_barred ≤ frame.barred) × AreNested frame.held frame.barred frames held barred

-- the branch that is held, and those whose trees have not begun
abbrev pub walk_seen : Inside → List Branch
walk_seen walk = if walk.is_done then [] else record { held = walk.held; barred = walk.barred } ∷ pending walk.held walk.barred walk.frames.items

-- while a branch is held, the counts of the frames rise to what it holds and bars
abbrev pub IsWalk : Inside → Type 0
IsWalk walk = walk.is_done ≡ false → AreNested 0 0 walk.frames.items (length walk.held) (length walk.barred)
