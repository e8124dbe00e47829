-- Ranges are mapped, unmapped and protected.
use Rattle.std.specs.Prelude.{ℕ, ◌==◌, if◌then◌else◌, List, [], Option, ◌≡◌, ◌<◌}
use Rattle.av_base.specs.Page.{page_of}
use Rattle.av_base.specs.declared.prot.Prot.{Prot}
use Rattle.av_trace.specs.declared.place.Place.{Place}
use Rattle.av_trace.specs.declared.place.Place.TheVariants.{Auto, At, Fixed, NoReplace}
use Rattle.av_trace.specs.declared.reply.Answer.{Answer}
use Rattle.av_trace.specs.declared.reply.Answer.TheVariants.{Done, Refused}
use Rattle.av_trace.specs.declared.reply.Errno.{Errno}
use Rattle.av_trace.specs.declared.reply.Errno.TheVariants.{Enomem}
use Rattle.av_trace.specs.declared.row.Row.{Row}
use Rattle.av_plain.specs.Event.{Event}
use Rattle.av_plain.specs.Ledger.{Ledger}
use Rattle.av_plain.specs.Place.{IsMapAt, Goes}
use Rattle.av_plain.specs.World.{ChangesOnly, Page, Process, World, pages, pages_to_hole}
use Rattle.av_plain.specs.World.{set_process, with_prot_on}
use Rattle.av_plain.specs.Zap.{keys_in, zaps_of}

-- ---- what a command does

-- the entries that a mapping of n pages takes away: a fixed place takes away what stands there
abbrev pub zaps_for_place : Ledger → ℕ → ℕ → Place → List Event
zaps_for_place l p n Auto = []
zaps_for_place l p n (At a) = []
zaps_for_place l p n (Fixed a) = zaps_of l (keys_in l p (page_of a) n)
zaps_for_place l p n (NoReplace a) = []

-- mmap: the address, or that there is no place
abbrev pub MapsAt : World → Ledger → ℕ → ℕ → Place → List Event → Answer → List Row → Type 0
MapsAt w l p n place events answer rows =
    (to : Option ℕ) × Goes (pages w p) n place to × IsMapAt answer to
    × (events ≡ zaps_for_place l p n place) × (rows ≡ [])

-- munmap: the entries of n pages go
abbrev pub Unmaps : Ledger → ℕ → ℕ → ℕ → List Event → Answer → List Row → Type 0
Unmaps l p from n events answer rows =
    (answer ≡ Done) × (events ≡ zaps_of l (keys_in l p from n)) × (rows ≡ [])

-- the answer of a command for which all n pages have to be mapped
abbrev pub hole_answer : Process → ℕ → ℕ → Answer
hole_answer q from n = if pages_to_hole q from n == n then Done else Refused Enomem

-- mprotect: all n pages have to be mapped
abbrev pub Protects : World → ℕ → ℕ → ℕ → List Event → Answer → List Row → Type 0
Protects w p from n events answer rows =
    (answer ≡ hole_answer (pages w p) from n) × (events ≡ []) × (rows ≡ [])

-- ---- the memories after it

-- the pages before the first that isn't mapped get the protection
abbrev pub with_prot_to_hole : World → ℕ → ℕ → ℕ → Prot → World
with_prot_to_hole w p from n prot =
    set_process w p (with_prot_on (pages w p) from (pages_to_hole (pages w p) from n) prot)

-- ---- a refusal that changes something

-- a command that goes over n pages from one on met one that isn't mapped: the pages before it are
-- changed so, and no other page
pub record StopsAtHole (w : World) (p from n : ℕ) (change : Page → Page) (error : Errno)
    (now : World) : Type 0 where
  pub error_is : error ≡ Enomem
  pub hole : pages_to_hole (pages w p) from n < n
  pub changes : ChangesOnly w p from (pages_to_hole (pages w p) from n) change now
