-- How the page of a slot may be fetched.
use Rattle.std.proofs.Common.{inl, inr}
use Rattle.std.specs.Prelude.{◌≡◌, ◌⊎◌, ℕ, Bool, true, false, List, [], ◌++◌}
use Rattle.std.specs.Prelude.{Option}
use Rattle.std.specs.Prelude.{Some, None}
use Rattle.av_base.specs.declared.slot.Slot.{Slot}
use Rattle.av_trace.specs.declared.note.Note.{Note}
use Rattle.av_plain.specs.Event.{after_notes}
use Rattle.av_plain.specs.Ledger.{Ledger, Setting, has_free}
use Rattle.av_plain.specs.Pass.{Seeks, Spared}
use Rattle.av_audit_judge.specs.Pass.{IsTakenFree}
use Rattle.av_audit_judge.specs.declared.fetch.Fetch.{Fetch}
use Rattle.av_audit_judge.specs.declared.fetch.Fetch.TheVariants.{Loaded, Starved, Lost}
use Rattle.av_audit_judge.specs.declared.notes.Taking.TheVariants.{Loaded as TakesLoaded}

-- a fetch goes on with a frame, or stops where one is free (true) or none is (false)
abbrev pub fetched_of : Option Fetch → Option (ℕ ⊎ Bool)
fetched_of None = None
fetched_of (Some (Loaded f)) = Some (inl f)
fetched_of (Some Starved) = Some (inr false)
fetched_of (Some Lost) = Some (inr true)

-- the note that loads it into a free frame
abbrev pub IsLoaded : Setting → Ledger → Slot → ℕ → List Note → Type 0
IsLoaded m l s f notes = IsTakenFree m l (TakesLoaded s) f notes

-- no note, where a frame is free or not
abbrev pub IsUnloaded : Setting → Ledger → Bool → List Note → Type 0
IsUnloaded m l free notes = (has_free m l ≡ free) × (notes ≡ [])

-- both behind what comes before a frame is taken
abbrev pub AreFetched : Setting → Spared → Ledger → Slot → ℕ → List Note → Type 0
AreFetched m spared l s f notes = (sought : List Note) × (loaded : List Note)
    × Seeks m spared l sought × IsLoaded m (after_notes l sought) s f loaded
    × (notes ≡ sought ++ loaded)

abbrev pub IsUnfetched : Setting → Spared → Ledger → Bool → List Note → Type 0
IsUnfetched m spared l free notes =
    Seeks m spared l notes × (has_free m (after_notes l notes) ≡ free)
