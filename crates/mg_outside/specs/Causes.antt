-- Counts of what went wrong outside, which never fall.
use Rattle.std.specs.Prelude.{ℕ, ◌+◌, ◌-◌, ◌^◌, ◌≤◌, min, max}

-- the count with one more, which stands still from the last value of a u64 on
abbrev pub one_more : ℕ → ℕ
one_more count = max count (min (count + 1) (2 ^ 64 - 1))

-- the count rose, or stands at the last value of its u64
abbrev pub Rose : ℕ → ℕ → Type 0
Rose before now = one_more before ≤ now
