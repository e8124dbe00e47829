-- What a whole read or write does.
use Rattle.std.specs.Prelude.{◌≡◌, ℕ, ◌+◌, ◌-◌, ◌<◌, ◌++◌, Bool, true, false, List, [], min, Option}
use Rattle.std.specs.Prelude.{Some, None}
use Rattle.av_trace.specs.declared.note.Note.{Note}
use Rattle.av_trace.specs.declared.reply.Answer.{Answer}
use Rattle.av_trace.specs.declared.reply.Answer.TheVariants as answers
use Rattle.av_io.specs.Count.{RoseBy}
use Rattle.av_plain.specs.Device.{Device, IsSameDevice, Wrote}
use Rattle.av_plain.specs.Step.{causes}
use Rattle.av_plain.specs.Load.{with_loads}
use Rattle.av_plain.specs.World.{World, pages}
use Rattle.av_base.specs.Page.{address_of, page_size}
use Rattle.av_plain.specs.Event.{Event, after_all, notes_of}
use Rattle.av_plain.specs.Access.{Accesses, End, Whole, Stopped, pages_of_access, bytes_before}
use Rattle.av_plain.specs.Access.{after_write, Reads, write_answer}
use Rattle.av_plain.specs.Lock.{accesses_of}
use Rattle.av_plain.specs.Choice.{ChoosesAll}
use Rattle.av_plain.specs.Areas.{rmap_after_all}
use Rattle.av_plain.specs.Transcript.{State, rmap_of}
use Rattle.av_access.specs.declared.access.Piece.{Piece}
use Rattle.av_mem.specs.declared.mem.Mem.{Mem}
use Rattle.av_fault.specs.declared.fault.Stop.{Stop}
use Rattle.av_fault.specs.declared.fault.Stop.TheVariants.{Denied, Lost, Starved}
use Rattle.av_mem.specs.Mem.{setting_by, Keeps}
use Rattle.av_fault.specs.Fault.{stop_of}
use Rattle.av_plain.specs.Pass.{pages_written}

-- ---- what it answers

-- the answer of an access that stopped
abbrev pub answer_of : Stop → ℕ → List ℕ → Answer
answer_of Denied k shown = answers.Segv k shown
answer_of Lost k shown = answers.Bus k shown
answer_of (Starved out) k shown = answers.Oom k out shown

-- the answer of an access by how it ended: this one where it was whole
abbrev pub answer_at : Option Stop → Answer → ℕ → List ℕ → Answer
answer_at None whole k shown = whole
answer_at (Some stop) whole k shown = answer_of stop k shown

-- by how much the device's count of failures has risen at the least, where an access has these
-- notes and ends so
abbrev pub causes_of_access : List Note → Option Stop → ℕ
causes_of_access notes stop =
    causes (record { answer = answer_at stop answers.Done 0 []; notes = notes; rows = [] })

-- ---- what it does

-- where the pages of an access ended: all were served, or it stopped at this one
abbrev pub end_at : Option Stop → ℕ → End
end_at None page = Whole
end_at (Some stop) page = Stopped page (stop_of stop)

-- pages were read or written in turn, up to the one that stopped, if one did: the events, the
-- notes, and what the kernel stands for then, with the device as it is then. The memories are those
-- after the loads, changed so
pub record HasServed (d d' : Device) (s : State) (new : Mem) (p : ℕ) (turns : List (Bool × ℕ))
    (change : World → World) (before now : List Note) (stop : Option Stop) (page : ℕ)
    : Type 0 where
  pub events : List Event
  pub notes : now ≡ before ++ notes_of events
  pub accesses : Accesses (setting_by d new) s.world s.ledger p turns events (end_at stop page)
  pub next : State
  pub world : next.world ≡ change (with_loads (setting_by d new) s.world s.ledger events)
  pub ledger : next.ledger ≡ after_all s.ledger events
  pub free : ChoosesAll (setting_by d new) None s.ledger events s.free next.free
  pub rmap : rmap_of next ≡ rmap_after_all s.ledger events (rmap_of s)
  pub keeps : Keeps d' new next
  pub same : IsSameDevice d d'
  pub wrote : Wrote (pages_written (notes_of events)) d.history d'.history
  pub failures : RoseBy (causes_of_access (notes_of events) stop) d.failures d'.failures

-- it begins behind the first `done` of n bytes, and goes on to the end of its page or of the bytes
abbrev pub IsPiece : ℕ → ℕ → ℕ → Piece → Type 0
IsPiece a n done piece =
    (address_of piece.page + piece.at ≡ a + done) × (piece.at < page_size)
    × (piece.len ≡ min (n - done) (page_size - piece.at))

-- the memories after a write of these bytes, and after a read, where these are after the loads
abbrev pub world_served : Bool → ℕ → ℕ → List ℕ → World → World
world_served true p a bytes w = after_write w p a bytes
world_served false p a bytes w = w

-- an access was whole, or stopped at a page; k of the n bytes were served
abbrev pub IsEnd : ℕ → ℕ → Option Stop → ℕ → ℕ → Type 0
IsEnd a n None page k = k ≡ n
IsEnd a n (Some stop) page k = (k ≡ bytes_before a page) × (k < n)

-- an access of n bytes, k of them served, and those of a write stored
pub record IsAccess (d d' : Device) (s : State) (new : Mem) (write : Bool) (p a n : ℕ)
    (bytes : List ℕ) (before now : List Note) (stop : Option Stop) (k : ℕ) : Type 0 where
  pub page : ℕ
  pub served : HasServed d d' s new p (pages_of_access write a n) (world_served write p a bytes)
      before now stop page
  pub is_end : IsEnd a n stop page k

-- a read of n bytes, which shows the k that were served as they are after all its loads
pub record IsRead (d d' : Device) (s : State) (new : Mem) (p a n : ℕ) (before now : List Note)
    (stop : Option Stop) (k : ℕ) (shown : List ℕ) : Type 0 where
  pub access : IsAccess d d' s new false p a n [] before now stop k
  pub reads : Reads (pages access.served.next.world p) a k shown

-- n pages from one on came in, each as its protection allows, and no byte was read or stored; the
-- answer counts from the first byte of the first page
pub record IsBroughtIn (d d' : Device) (s : State) (new : Mem) (p from n : ℕ)
    (before now : List Note) (answer : Answer) : Type 0 where
  pub stop : Option Stop
  pub page : ℕ
  pub served : HasServed d d' s new p (accesses_of (pages s.world p) from n) (λ w. w) before now
      stop page
  pub answers : answer ≡ write_answer (address_of from) (end_at stop page)
