-- How a read or write goes through its pages, where it stops, and what it answers.
use Rattle.std.specs.Prelude.{◌≡◌, ◌⊎◌, ℕ, ◌-◌, ◌^◌, ◌<◌, Bool, true, false}
use Rattle.std.specs.Prelude.{List, [], ◌∷◌, ◌++◌, length, map, take, Option, Some}
use Rattle.std.specs.Prelude.{None}
use Rattle.std.specs.List.{AllByRecursion, range_with_len}
use Rattle.av_base.specs.Keys.{Key}
use Rattle.av_base.specs.Page.{page_of, address_of, pages_met}
use Rattle.av_trace.specs.declared.reply.Answer.{Answer}
use Rattle.av_trace.specs.declared.reply.Answer.TheVariants.{Done, Data, Segv, Bus, Oom}
use Rattle.av_trace.specs.declared.note.Note.{Note}
use Rattle.av_trace.specs.declared.row.Row.{Row}
use Rattle.av_plain.specs.World.{Process, World, pages, with_bytes, Shows, set_process}
use Rattle.av_plain.specs.Ledger.{Setting, Ledger}
use Rattle.av_plain.specs.Event.{Event, Used, note_events, after_all}
use Rattle.av_plain.specs.Fault.{Stop, Denied, Starved, Lost, Touches}
use Rattle.av_plain.specs.Load.{with_loads}

-- ---- the pages in turn

-- an access is served whole, or stops at the page with this number
pub data End : Type 0 where
  Whole : End
  Stopped : (page : ℕ) (stop : Stop) → End

-- what happens at a page: its notes, and then, where it is served, its use
abbrev pub page_events : Bool → Key → List Note → Option Stop → List Event
page_events write k notes None = note_events notes ++ Used write k ∷ []
page_events write k notes (Some stop) = note_events notes

-- The pages in turn, each read or written. The first is served, and then the rest follows; or the
-- access stops there.
abbrev pub Accesses : Setting → World → Ledger → ℕ → List (Bool × ℕ) → List Event → End → Type 0
Accesses m w l p [] events end = (events ≡ []) × (end ≡ Whole)
Accesses m w l p (page ∷ rest) events end =
    ((notes : List Note) × (later : List Event) × Touches m w l page.0 (p, page.1) notes None
    × (events ≡ page_events page.0 (p, page.1) notes None ++ later)
    × Accesses m w (after_all l (page_events page.0 (p, page.1) notes None)) p rest later end)
    ⊎ ((notes : List Note) × (stop : Stop) × Touches m w l page.0 (p, page.1) notes (Some stop)
    × (events ≡ page_events page.0 (p, page.1) notes (Some stop)) × (end ≡ Stopped page.1 stop))

-- the pages of n bytes from an address on, each read or each written
abbrev pub pages_of_access : Bool → ℕ → ℕ → List (Bool × ℕ)
pages_of_access write a n =
    map (λ page. (write, page)) (range_with_len (page_of a) (pages_met a n))

-- the bytes before the page
abbrev pub bytes_before : ℕ → ℕ → ℕ
bytes_before a page = address_of page - a

-- how many of n bytes from an address on were served
abbrev pub bytes_served : ℕ → ℕ → End → ℕ
bytes_served a n Whole = n
bytes_served a n (Stopped page stop) = bytes_before a page

-- ---- what it answers

-- the answer of an access that stopped behind k bytes, of which a read shows these
abbrev pub stop_answer : Stop → ℕ → List ℕ → Answer
stop_answer Denied k shown = Segv k shown
stop_answer (Starved out) k shown = Oom k out shown
stop_answer Lost k shown = Bus k shown

-- the answer of a read from an address on
abbrev pub read_answer : ℕ → End → List ℕ → Answer
read_answer a Whole shown = Data shown
read_answer a (Stopped page stop) shown = stop_answer stop (bytes_before a page) shown

-- and that of a write
abbrev pub write_answer : ℕ → End → Answer
write_answer a Whole = Done
write_answer a (Stopped page stop) = stop_answer stop (bytes_before a page) []

-- a read shows the k bytes that were served
abbrev pub Reads : Process → ℕ → ℕ → List ℕ → Type 0
Reads q a k shown = (length shown ≡ k) × Shows q a shown × AllByRecursion (λ b. b < 2 ^ 8) shown

-- a read of n bytes: those that were served it shows as they are after the loads
abbrev pub ReadsPages : Setting → World → Ledger → ℕ → ℕ → ℕ
    → List Event → Answer → List Row → Type 0
ReadsPages m w l p a n events answer rows =
    (end : End) × (shown : List ℕ) × Accesses m w l p (pages_of_access false a n) events end
    × Reads (pages (with_loads m w l events) p) a (bytes_served a n end) shown
    × (answer ≡ read_answer a end shown) × (rows ≡ [])

-- a write of n bytes
abbrev pub WritesPages : Setting → World → Ledger → ℕ → ℕ → ℕ
    → List Event → Answer → List Row → Type 0
WritesPages m w l p a n events answer rows =
    (end : End) × Accesses m w l p (pages_of_access true a n) events end
    × (answer ≡ write_answer a end) × (rows ≡ [])

-- ---- what a write stores

-- the bytes that a write has stored, by its answer
abbrev pub first_bytes : Answer → List ℕ → List ℕ
first_bytes Done bytes = bytes
first_bytes (Segv k shown) bytes = take k bytes
first_bytes (Bus k shown) bytes = take k bytes
first_bytes (Oom k out shown) bytes = take k bytes
first_bytes answer bytes = []

-- a write that stores no byte changes nothing
abbrev pub after_write : World → ℕ → ℕ → List ℕ → World
after_write w p a [] = w
after_write w p a (b ∷ bytes) = set_process w p (with_bytes (pages w p) a (b ∷ bytes))
