-- How far a load is, as it is shown.
use Rattle.std.specs.Prelude.{ℕ, ◌+◌, ◌-◌, ◌*◌, ◌/◌, ◌<◌, ◌≤◌}
use Rattle.avsim.specs.declared.meter.TheConstants.{LEAST_LINES}

-- how many hundredths of all lines are made, where so many are left
abbrev pub hundredths : ℕ → ℕ → ℕ
hundredths all left = (all - left) * 100 / all

-- the load has many lines, and the line that left so many made its hundredths more
abbrev pub IsShown : ℕ → ℕ → Type 0
IsShown all left = (LEAST_LINES ≤ all) × (hundredths all (left + 1) < hundredths all left)
