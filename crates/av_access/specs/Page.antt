-- What a read or write does at one page.
use Rattle.std.specs.Prelude.{◌≡◌, ℕ, ◌+◌, ◌^◌, ◌<◌, ◌++◌, Bool, true, false, List, [], length}
use Rattle.std.specs.Prelude.{Option, Some, None, option_map}
use Rattle.std.specs.List.{AllByRecursion}
use Rattle.av_base.specs.Page.{address_of}
use Rattle.av_trace.specs.declared.note.Note.{Note}
use Rattle.av_io.specs.Count.{RoseBy}
use Rattle.av_plain.specs.Device.{Device, IsSameDevice, Wrote}
use Rattle.av_plain.specs.World.{World, pages, Shows}
use Rattle.av_plain.specs.Event.{after_all, notes_of}
use Rattle.av_plain.specs.Fault.{Touches}
use Rattle.av_plain.specs.Access.{page_events, after_write}
use Rattle.av_plain.specs.Choice.{ChoosesAll}
use Rattle.av_plain.specs.Load.{with_loads}
use Rattle.av_plain.specs.Areas.{rmap_after_all}
use Rattle.av_plain.specs.Transcript.{State, rmap_of}
use Rattle.av_mem.specs.declared.mem.Mem.{Mem}
use Rattle.av_mem.specs.Mem.{setting_by, Keeps}
use Rattle.av_fault.specs.declared.fault.Stop.{Stop}
use Rattle.av_fault.specs.Fault.{stop_of}
use Rattle.av_access.specs.Access.{causes_of_access}
use Rattle.av_plain.specs.Pass.{pages_written}

-- the memories after a write that was served, and after all else, where these are after the loads
abbrev pub world_after : Bool → ℕ → ℕ → ℕ → List ℕ → Option Stop → World → World
world_after true p page at piece None w = after_write w p (address_of page + at) piece
world_after write p page at piece end w = w

-- one page of an access: its notes, where it ended, and what the kernel stands for then, with the
-- device as it is then
pub record IsPageStep (d d' : Device) (s : State) (new : Mem) (write : Bool) (p page at : ℕ)
    (piece : List ℕ) (before now : List Note) (end : Option Stop) : Type 0 where
  pub added : List Note
  pub notes : now ≡ before ++ added
  pub touches : Touches (setting_by d new) s.world s.ledger write (p, page) added
      (option_map stop_of end)
  pub next : State
  pub world : next.world ≡ world_after write p page at piece end
      (with_loads (setting_by d new) s.world s.ledger
      (page_events write (p, page) added (option_map stop_of end)))
  pub ledger : next.ledger
      ≡ after_all s.ledger (page_events write (p, page) added (option_map stop_of end))
  pub free : ChoosesAll (setting_by d new) None s.ledger
      (page_events write (p, page) added (option_map stop_of end)) s.free next.free
  pub rmap : rmap_of next
      ≡ rmap_after_all s.ledger (page_events write (p, page) added (option_map stop_of end))
      (rmap_of s)
  pub keeps : Keeps d' new next
  pub same : IsSameDevice d d'
  pub wrote : Wrote (pages_written
      (notes_of (page_events write (p, page) added (option_map stop_of end)))) d.history d'.history
  pub failures : RoseBy (causes_of_access added end) d.failures d'.failures

-- what a read of n bytes shows of a page that was served
abbrev pub ShowsPiece : World → ℕ → ℕ → ℕ → ℕ → List ℕ → List ℕ → Option Stop → Type 0
ShowsPiece w p page at n before now None =
    (piece : List ℕ) × (now ≡ before ++ piece) × (length piece ≡ n)
    × Shows (pages w p) (address_of page + at) piece × AllByRecursion (λ b. b < 2 ^ 8) piece
ShowsPiece w p page at n before now (Some stop) = now ≡ before

-- one page of a read of n bytes, which shows them as they are after its loads
pub record IsPageRead (d d' : Device) (s : State) (new : Mem) (p page at n : ℕ)
    (before now : List Note) (shown shown' : List ℕ) (end : Option Stop) : Type 0 where
  pub step : IsPageStep d d' s new false p page at [] before now end
  pub shows : ShowsPiece step.next.world p page at n shown shown' end
