-- Advice: a process says of a range what a fork makes of it, whether its pages may be merged, or
-- that it needs nothing that is in it.
use Rattle.std.specs.Prelude.{◌≡◌, ℕ, Bool, true, false, nat_lt, if◌then◌else◌, List, [], ◌∷◌}
use Rattle.std.specs.Prelude.{Option, Some, None}
use Rattle.av_base.specs.declared.flags.Flag.{Flag}
use Rattle.av_base.specs.declared.flags.Flag.TheVariants as flags
use Rattle.av_trace.specs.declared.advice.Advice.{Advice}
use Rattle.av_trace.specs.declared.advice.Advice.TheVariants.{DontNeed, DontFork, DoFork}
use Rattle.av_trace.specs.declared.advice.Advice.TheVariants.{WipeOnFork, KeepOnFork, Mergeable}
use Rattle.av_trace.specs.declared.advice.Advice.TheVariants.{Unmergeable}
use Rattle.av_trace.specs.declared.reply.Answer.{Answer}
use Rattle.av_trace.specs.declared.reply.Answer.TheVariants.{Refused}
use Rattle.av_trace.specs.declared.reply.Errno.TheVariants.{Einval}
use Rattle.av_trace.specs.declared.row.Row.{Row}
use Rattle.av_plain.specs.Event.{Event, FlagSet}
use Rattle.av_plain.specs.Ledger.{Ledger}
use Rattle.av_plain.specs.Map.{hole_answer}
use Rattle.av_plain.specs.World.{Page, Process, World, pages, pages_to_locked, set_process, wiped}
use Rattle.av_plain.specs.World.{with_change_on, with_page_flag}
use Rattle.av_plain.specs.Zap.{keys_in, zaps_of}

-- the flag that an advice is about, and whether it sets it; `dontneed` is about none
abbrev pub flag_of_advice : Advice → Option (Flag × Bool)
flag_of_advice DontNeed = None
flag_of_advice DontFork = Some (flags.DontFork, true)
flag_of_advice DoFork = Some (flags.DontFork, false)
flag_of_advice WipeOnFork = Some (flags.WipeOnFork, true)
flag_of_advice KeepOnFork = Some (flags.WipeOnFork, false)
flag_of_advice Mergeable = Some (flags.Mergeable, true)
flag_of_advice Unmergeable = Some (flags.Mergeable, false)

-- ---- what a command does

-- how many of n pages an advice goes over: `dontneed` ends before a locked one
abbrev pub pages_advised : Process → ℕ → ℕ → Option (Flag × Bool) → ℕ
pages_advised q from n None = pages_to_locked q from n
pages_advised q from n (Some change) = n

-- what happens on n pages: a flag of them is set or cleared, or their entries go
abbrev pub advice_events : Ledger → ℕ → ℕ → ℕ → Option (Flag × Bool) → List Event
advice_events l p from n None = zaps_of l (keys_in l p from n)
advice_events l p from n (Some change) = FlagSet p from n change.0 change.1 ∷ []

-- the answer: a locked page ended it, or not all n pages are mapped
abbrev pub advice_answer : Process → ℕ → ℕ → Option (Flag × Bool) → Answer
advice_answer q from n change =
    if nat_lt (pages_advised q from n change) n then Refused Einval else hole_answer q from n

-- madvise: the mapped pages are advised, with holes between them, too
abbrev pub Advises : Process → Ledger → ℕ → ℕ → ℕ → Option (Flag × Bool)
    → List Event → Answer → List Row → Type 0
Advises q l p from n change events answer rows =
    (answer ≡ advice_answer q from n change)
    × (events ≡ advice_events l p from (pages_advised q from n change) change) × (rows ≡ [])

-- ---- the memories after it

-- a page that is advised
abbrev pub advised : Option (Flag × Bool) → Page → Page
advised None p = wiped p
advised (Some change) p = with_page_flag change.0 change.1 p

-- so the pages are over which the advice goes
abbrev pub with_advice : World → ℕ → ℕ → ℕ → Option (Flag × Bool) → World
with_advice w p from n change = set_process w p
    (with_change_on (pages w p) from (pages_advised (pages w p) from n change) (advised change))
