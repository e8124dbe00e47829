-- How a page whose entry is a slot may come in.
use Rattle.std.proofs.Common.{inl, inr}
use Rattle.std.specs.Prelude.{◌≡◌, ◌⊎◌, ℕ, Bool, true, false, List, [], ◌∷◌, ◌++◌, Option}
use Rattle.std.specs.Prelude.{Some, None}
use Rattle.av_base.specs.declared.slot.Slot.{Slot}
use Rattle.av_base.specs.Page.{address_of}
use Rattle.av_trace.specs.declared.note.Note.{Note}
use Rattle.av_trace.specs.declared.note.Note.TheVariants.{Loaded, Mapped}
use Rattle.av_plain.specs.Event.{after_notes}
use Rattle.av_base.specs.Keys.{Key}
use Rattle.av_plain.specs.Ledger.{Ledger, Setting, frame_at}
use Rattle.av_plain.specs.Pass.{Spared, TakesFor}
use Rattle.av_audit_judge.specs.Fetch.{IsUnfetched}
use Rattle.av_audit_judge.specs.declared.come.Come.{Come}
use Rattle.av_audit_judge.specs.declared.come.Come.TheVariants.{In, Starved, Lost}

-- it came, or stops where a frame is free (true) or none is (false)
abbrev pub came_of : Option Come → Option (Unit {0} ⊎ Bool)
came_of None = None
came_of (Some In) = Some (inl tt)
came_of (Some Starved) = Some (inr false)
came_of (Some Lost) = Some (inr true)

-- the page of the slot is loaded into a frame, and the entry becomes that: this is `ComesIn` of the
-- access, where a pass spares what it spares there
abbrev pub ComesFrom : Setting → Spared → Ledger → Key → Slot → Unit {0} → List Note → Type 0
ComesFrom m spared l k s u notes =
    (loaded : List Note) × (f : ℕ) × TakesFor m spared l loaded (Loaded s)
    × (frame_at (after_notes l loaded) s ≡ Some f)
    × (notes ≡ loaded ++ Mapped k.0 (address_of k.1) f ∷ [])

-- it isn't fetched
abbrev pub IsKeptOut : Setting → Spared → Ledger → Bool → List Note → Type 0
IsKeptOut m spared l free notes = IsUnfetched m spared l free notes
