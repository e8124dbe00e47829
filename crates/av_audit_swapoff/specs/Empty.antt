-- How a slot may be emptied, or not.
use Rattle.std.proofs.Common.{inl, inr}
use Rattle.std.specs.Prelude.{◌≡◌, ◌⊎◌, Bool, true, false, List, Option, Some, None}
use Rattle.av_base.specs.declared.slot.Slot.{Slot}
use Rattle.av_trace.specs.declared.note.Note.{Note}
use Rattle.av_plain.specs.Ledger.{Ledger, Setting, frame_at}
use Rattle.av_plain.specs.Pass.{Spared}
use Rattle.av_plain.specs.Swapoff.{IsEmptied}
use Rattle.av_audit_judge.specs.Fetch.{IsUnfetched}
use Rattle.av_audit_swapoff.specs.declared.emptying.Emptying.{Emptying}
use Rattle.av_audit_swapoff.specs.declared.emptying.Emptying.TheVariants.{Emptied, Starved, Lost}

-- a slot is emptied, or not where a frame is free (true) or none is (false)
abbrev pub emptied_of : Option Emptying → Option (Unit {0} ⊎ Bool)
emptied_of None = None
emptied_of (Some Emptied) = Some (inl tt)
emptied_of (Some Starved) = Some (inr false)
emptied_of (Some Lost) = Some (inr true)

-- the slot is emptied
abbrev pub Empties : Setting → Spared → Ledger → Slot → Unit {0} → List Note → Type 0
Empties m spared l s u notes = IsEmptied m spared l s notes

-- its page is on the device alone, and isn't fetched
abbrev pub IsStuck : Setting → Spared → Ledger → Slot → Bool → List Note → Type 0
IsStuck m spared l s free notes = (frame_at l s ≡ None) × IsUnfetched m spared l free notes
