-- Locks: mlock brings a range in, and its frames stay until munlock.
use Rattle.std.specs.Prelude.{◌≡◌, ℕ, zero, suc, ◌+◌, Bool, true, false, ◌==◌, if◌then◌else◌}
use Rattle.std.specs.Prelude.{List, [], ◌∷◌, ◌++◌, Option, Some, None, MatchBool}
use Rattle.av_base.specs.Page.{address_of}
use Rattle.av_base.specs.declared.flags.Flag.TheVariants.{Locked}
use Rattle.av_trace.specs.declared.reply.Answer.{Answer}
use Rattle.av_trace.specs.declared.reply.Answer.TheVariants.{Refused}
use Rattle.av_trace.specs.declared.reply.Errno.TheVariants.{Enomem}
use Rattle.av_trace.specs.declared.row.Row.{Row}
use Rattle.av_plain.specs.Access.{Accesses, End, write_answer}
use Rattle.av_plain.specs.Event.{Event, FlagSet}
use Rattle.av_plain.specs.Ledger.{Ledger, Setting}
use Rattle.av_plain.specs.Map.{hole_answer}
use Rattle.av_plain.specs.World.{Page, Process, World, allows, pages, pages_to_hole, set_process}
use Rattle.av_plain.specs.World.{with_change_on, with_page_flag}

-- ---- flags

-- the pages before the first of n that isn't mapped are locked, or not
abbrev pub with_lock : Bool → World → ℕ → ℕ → ℕ → World
with_lock set w p from n = set_process w p (with_change_on (pages w p) from
    (pages_to_hole (pages w p) from n) (with_page_flag Locked set))

-- the event of that
abbrev pub lock_event : Bool → Process → ℕ → ℕ → ℕ → Event
lock_event set q p from n = FlagSet p from (pages_to_hole q from n) Locked set

-- ---- what a command does

-- how a page comes in that is locked: it is written, else read, as it may be, else not accessed
abbrev pub access_of : ℕ → Option Page → List (Bool × ℕ)
access_of page None = []
access_of page (Some p) =
    if allows true p.prot then (true, page) ∷ []
    else (if allows false p.prot then (false, page) ∷ [] else [])

-- and n pages
abbrev pub accesses_of : Process → ℕ → ℕ → List (Bool × ℕ)
accesses_of q from zero = []
accesses_of q from (suc n) = access_of from (q from) ++ accesses_of q (from + 1) n

-- the pages come in once all are locked, each served or not as in an access
abbrev pub BringsIn : Setting → World → Ledger → ℕ → ℕ → ℕ → List Event → Answer → Type 0
BringsIn m w l p from n events answer =
    (end : End)
    × Accesses m (with_lock true w p from n) l p (accesses_of (pages w p) from n) events end
    × (answer ≡ write_answer (address_of from) end)

-- mlock: all n pages have to be mapped, else those before the first that isn't are locked, and none
-- comes in
abbrev pub Locks : Setting → World → Ledger → ℕ → ℕ → ℕ → List Event → Answer → List Row → Type 0
Locks m w l p from n events answer rows =
    (coming : List Event) × (events ≡ lock_event true (pages w p) p from n ∷ coming) × (rows ≡ [])
    × MatchBool (pages_to_hole (pages w p) from n == n)
    (BringsIn m w l p from n coming answer)
    ((coming ≡ []) × (answer ≡ Refused Enomem))

-- munlock: all n pages have to be mapped, else those before the first that isn't are unlocked
abbrev pub Unlocks : World → ℕ → ℕ → ℕ → List Event → Answer → List Row → Type 0
Unlocks w p from n events answer rows =
    (answer ≡ hole_answer (pages w p) from n)
    × (events ≡ lock_event false (pages w p) p from n ∷ []) × (rows ≡ [])
