-- Counts of 64 bits, which stand still at their last value.
use Rattle.std.specs.Prelude.{ℕ, ◌+◌, ◌-◌, ◌^◌, ◌≤◌, min}

-- the count after n more
abbrev pub after_more : ℕ → ℕ → ℕ
after_more n count = min (count + n) (2 ^ 64 - 1)

-- the count after one more
abbrev pub one_more : ℕ → ℕ
one_more count = after_more 1 count

-- the count rose by n or more, or stands at its last value
abbrev pub RoseBy : ℕ → ℕ → ℕ → Type 0
RoseBy n before now = after_more n before ≤ now

-- the count rose, or stands at its last value
abbrev pub Rose : ℕ → ℕ → Type 0
Rose before now = RoseBy 1 before now
