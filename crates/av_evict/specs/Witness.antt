-- That a step can be met: a system that stands for one ledger alone, before and after it.
use Rattle.std.specs.Prelude.{◌≡◌, ℕ, Bool, true, false, if◌then◌else◌, List, [], ◌∷◌, Option, None}
use Rattle.std.specs.Prelude.{MatchBool, MatchOption, ◌<◌}
use Rattle.std.specs.List.{AllByRecursion}
use Rattle.av_trace.specs.declared.note.Note.{Note}
use Rattle.av_trace.specs.declared.note.Note.TheVariants.{Aged, Dropped, Failed, Kept, Put, Started}
use Rattle.av_trace.specs.declared.note.Note.TheVariants.{Unmapped, Written}
use Rattle.av_plain.specs.Areas.{Rmap}
use Rattle.av_plain.specs.Choice.{AreaSlots, Free, IsGiven, TakesOut, frame_in_note, is_move}
use Rattle.av_plain.specs.Choice.{slot_in_note}
use Rattle.av_plain.specs.Device.{Calls}
use Rattle.av_plain.specs.Event.{after_note}
use Rattle.av_plain.specs.Fault.{is_locked}
use Rattle.av_plain.specs.Ledger.{Ledger, Setting}
use Rattle.av_plain.specs.Pass.{pages_written}
use Rattle.av_plain.specs.World.{World}
use Rattle.av_evict.specs.System.{HasHappened, Leaves, SystemView}

-- the setting, or one just like it that doesn't tell headers
abbrev pub setting_told : Bool → Setting → Setting
setting_told true m = m
setting_told false m = record m { headers = None }

-- the view of a system that stands for this ledger alone, with these memories, areas, anon_vmas and
-- homes
abbrev pub only_view : Setting → Option ℕ → Option (ℕ → List ℕ) → Free → Calls → World → Rmap
    → Ledger → SystemView
only_view m closing first free calls w r l = record {
  setting = m;
  closing = closing;
  free = free;
  first = first;
  failures = calls.0;
  history = calls.1;
  names = [];
  locked = is_locked w l;
  stands = λ x. x ≡ l;
  claims = λ v q x. (v ≡ w) × (q ≡ r) × (x ≡ l);
}

-- what the note takes, if anything, is what comes next, and no header is written
pub record TakesNext (m : Setting) (closing : Option ℕ) (l : Ledger) (free : Free) (note : Note)
    : Type 0 where
  pub frames : List ℕ
  pub slots : AreaSlots
  pub first : MatchOption (frame_in_note note) (free.frames ≡ frames)
      (λ f. MatchBool (is_move note) (TakesOut f free.frames frames) (free.frames ≡ f ∷ frames))
  pub slot : MatchOption (slot_in_note note) (slots ≡ free.slots)
      (λ s. IsGiven m closing l s free.slots slots)
  pub behind_header : AllByRecursion (λ page. 0 < page.page) (pages_written (note ∷ []))

-- it is a note of a step, and no locked frame is unmapped
abbrev pub IsStep : World → Ledger → Note → Type 0
IsStep w l (Put f s) = Unit {0}
IsStep w l (Unmapped f) = is_locked w l f ≡ false
IsStep w l (Started s) = Unit {0}
IsStep w l (Written s) = Unit {0}
IsStep w l (Failed s) = Unit {0}
IsStep w l (Dropped s) = Unit {0}
IsStep w l (Kept f cause) = Unit {0}
IsStep w l (Aged f) = Unit {0}
IsStep w l note = ⊥

-- then there is a system after it, whether its device tells its pages or not, and what is free in
-- it is the same in both; after a step the same frames are locked
abbrev pub CanBeMet : Setting → Option ℕ → Option (ℕ → List ℕ) → Free → Calls → World → Rmap
    → Ledger → Note → Type 0
CanBeMet m closing first free calls w r l note =
    (free' : Free) × (calls' : Calls) × (w' : Bool → World) × (r' : Rmap) × ((told : Bool) →
    let now = setting_told told m in let page = if told then first else None in
    let old = only_view now closing page free calls w r l in
    let new = only_view now closing page free' calls' (w' told) r' (after_note note l) in
    HasHappened old new l (note ∷ []) × (IsStep w l note → Leaves old new))
