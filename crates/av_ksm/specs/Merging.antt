-- What a page's turn in a merge does, and what has to stand before it.
use Rattle.std.specs.Prelude.{◌≡◌, ◌⊎◌, ℕ, ◌==◌, if◌then◌else◌, Bool, true, false, List, [], ◌∷◌}
use Rattle.std.specs.Prelude.{◌++◌, Option}
use Rattle.av_base.specs.Keys.{Key}
use Rattle.av_trace.specs.declared.note.Note.{Note}
use Rattle.av_trace.specs.declared.note.Note.TheVariants.{Shared}
use Rattle.av_plain.specs.Areas.{Rmap}
use Rattle.av_plain.specs.Device.{Device}
use Rattle.av_plain.specs.Event.{after_notes, note_events}
use Rattle.av_plain.specs.Ledger.{Ledger, is_merged}
use Rattle.av_plain.specs.Merge.{candidate, merge_notes, with_candidate}
use Rattle.av_plain.specs.World.{World}
use Rattle.av_mem.specs.declared.mem.Mem.{Mem}
use Rattle.av_mem.specs.Between.{HasDone, KeepsBetween}
use Rattle.av_mem.specs.Mem.{frame_count, setting_by, view}
use Rattle.av_ksm.specs.Contents.{AreKept}
use Rattle.av_ksm.specs.Join.{HasOwn}
use Rattle.av_ksm.specs.Known.{Known, Knows, WaitsAt}
use Rattle.av_ksm.specs.declared.contents.Contents.{Contents}

-- over some device the memory system stands for a ledger of which this is so
pub record StandsSo (k : Mem) (IsSo : Device → Ledger → Type 0) : Type 0 where
  pub device : Device
  pub world : World
  pub rmap : Rmap
  pub ledger : Ledger
  pub between : KeepsBetween device k world rmap ledger
  pub is : IsSo device ledger

-- these notes are added, and what they tell is done
pub record HasNoted (d : Device) (old new : Mem) (w : World) (r : Rmap) (l : Ledger)
    (added before now : List Note) : Type 0 where
  pub notes : now ≡ before ++ added
  pub done : HasDone d d old new w r l (note_events added)

-- ---- a page joins what is known

-- the frame is merged, or waits to be
abbrev pub IsReady : Ledger → ℕ → Option Key → Type 0
IsReady l f page = (is_merged l f ≡ true) ⊎ WaitsAt l (f, page)

-- then it is merged
abbrev pub share_notes : Ledger → ℕ → List Note
share_notes l f = if is_merged l f then [] else Shared f ∷ []

-- the page has a frame of its own, which is another one
pub record HasOther (l : Ledger) (k : Key) (own f : ℕ) : Type 0 where
  pub seen : Bool
  pub own_is : HasOwn l k own seen
  pub other : (f == own) ≡ false

-- ---- a page in its turn

-- the contents are those that have to be known, behind candidates with these frames
pub record IsAware (d : Device) (k : Mem) (l : Ledger) (earlier : List ℕ) (c : Contents)
    : Type 0 where
  pub known : List Known
  pub kept : AreKept (frame_count k) (view k).bytes known c
  pub knows : Knows (setting_by d k) (view k).bytes l earlier known

-- behind some candidates
abbrev pub MayTurn : Mem → Contents → Type 0
MayTurn k c = StandsSo k (λ d l. (earlier : List ℕ) × IsAware d k l earlier c)

-- the notes of a page, as the definitions have them for what the frames hold
abbrev pub page_notes : Device → Mem → World → Ledger → List ℕ → Key → List Note
page_notes d k w l earlier key =
    merge_notes (setting_by d k) (view k).bytes l earlier key (candidate w l key)

-- it has had its turn, and what has to be known for the next page is
pub record HasTurned (d : Device) (old new : Mem) (w : World) (r : Rmap) (l : Ledger)
    (earlier : List ℕ) (key : Key) (c : Contents) (before now : List Note) : Type 0 where
  pub noted : HasNoted d old new w r l (page_notes d old w l earlier key) before now
  pub aware : IsAware d new (after_notes l (page_notes d old w l earlier key))
      (with_candidate earlier (candidate w l key)) c
