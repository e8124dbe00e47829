-- A swap area is turned on, as page 0 of its device says.
use Rattle.std.specs.Prelude.{◌≡◌, ◌⊎◌, ℕ, ℤ, pos, negsuc, ◌<◌, Bool, true, false, List, [], ◌∷◌}
use Rattle.std.specs.Prelude.{length, Option, Some, None}
use Rattle.av_trace.specs.declared.command.Command.{Command}
use Rattle.av_trace.specs.declared.command.Command.TheVariants.{Swapon as AsksOn}
use Rattle.av_trace.specs.declared.reply.Answer.{Answer}
use Rattle.av_trace.specs.declared.reply.Answer.TheVariants.{On, Refused}
use Rattle.av_trace.specs.declared.reply.Errno.TheVariants.{Einval, Eio}
use Rattle.av_trace.specs.declared.row.Row.{Row}
use Rattle.av_swapdev.specs.Header.{Layout}
use Rattle.av_plain.specs.Event.{Event, TurnedOn}
use Rattle.av_plain.specs.Ledger.{Setting}

-- the numbers of a header; a page 0 with a fault has none
abbrev pub header_answer : Option Layout → Answer
header_answer None = Refused Einval
header_answer (Some h) = On h.slots (length h.bad)

-- the answer is that of the area's header; where headers aren't told it is an error, or some
-- numbers with a slot
abbrev pub IsByHeader : Option (ℕ → Option Layout) → ℕ → Answer → Type 0
IsByHeader (Some headers) k answer = answer ≡ header_answer (headers k)
IsByHeader None k answer = (answer ≡ Refused Einval)
    ⊎ ((slots : ℕ) × (bad : ℕ) × (0 < slots) × (answer ≡ On slots bad))

-- the priority that is asked for, or -1 where none is
abbrev pub priority_of : Option ℕ → ℤ
priority_of None = negsuc 0
priority_of (Some n) = pos n

-- the area is on where its numbers are answered
abbrev pub turn_on_events : ℕ → Option ℕ → Answer → List Event
turn_on_events k priority (On slots bad) =
    TurnedOn k (record { slots = slots; bad = bad; priority = priority_of priority }) ∷ []
turn_on_events k priority answer = []

-- swapon: page 0 can't be read, or its header is answered
abbrev pub TurnsOn : Setting → ℕ → Option ℕ → List Event → Answer → List Row → Type 0
TurnsOn m k priority events answer rows =
    ((answer ≡ Refused Eio) ⊎ IsByHeader m.headers k answer)
    × (events ≡ turn_on_events k priority answer) × (rows ≡ [])

-- the command that turns an area on
abbrev pub is_swapon : Command → Bool
is_swapon (AsksOn k priority) = true
is_swapon command = false
