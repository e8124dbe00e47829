-- Processes come and go.
use Rattle.std.specs.Prelude.{ℕ, List, [], ◌≡◌}
use Rattle.av_trace.specs.declared.reply.Answer.{Answer}
use Rattle.av_trace.specs.declared.reply.Answer.TheVariants.{Done}
use Rattle.av_trace.specs.declared.row.Row.{Row}
use Rattle.av_plain.specs.Event.{Event}
use Rattle.av_plain.specs.Ledger.{Ledger}
use Rattle.av_plain.specs.Zap.{zaps_of, keys_of_process}

-- a spawned process has no entries
abbrev pub Spawns : List Event → Answer → List Row → Type 0
Spawns events answer rows = (answer ≡ Done) × (events ≡ []) × (rows ≡ [])

-- the entries of a process that exits go, by rising page
abbrev pub Exits : Ledger → ℕ → List Event → Answer → List Row → Type 0
Exits l p events answer rows =
    (answer ≡ Done) × (events ≡ zaps_of l (keys_of_process l p)) × (rows ≡ [])
