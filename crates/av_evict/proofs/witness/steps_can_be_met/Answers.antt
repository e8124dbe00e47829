use Rattle.std.proofs.Common.{ℕ, Bool, true, false, ◌+◌, ◌-◌, ◌^◌, ◌≤◌, ◌∷◌, ◌++◌, [], List, min, None, Option, ap, if◌then◌else◌, refl, arith, cond, is_some, ◌∙◌, ◌≡◌}
use Rattle.av_trace.specs.declared.note.Note.{Note}
use Rattle.av_trace.specs.declared.note.Note.TheVariants.{Aged, Copied, Dropped, Failed, Joined, Kept, Loaded, Mapped, Moved, New, Put, Shared, Started, Unmapped, Written, Zeroed}
use Rattle.av_plain.specs.Areas.{Rmap, rmap_after_all}
use Rattle.av_plain.specs.Choice.{Free, new_free, with_given_back}
use Rattle.av_plain.specs.Event.{after_note, note_events}
use Rattle.av_plain.specs.Ledger.{Ledger, Setting}
use Rattle.av_plain.specs.Fault.{is_locked}
use Rattle.av_plain.specs.Load.{after_loads, with_loads}
use Rattle.av_plain.specs.Device.{Calls, WroteSome}
use Rattle.av_plain.specs.Pass.{fails, pages_written}
use Rattle.av_plain.specs.World.{World}
use Rattle.av_evict.specs.System.{HasHappened}
use Rattle.av_evict.specs.Witness.{IsStep, TakesNext, only_view, setting_told}
use Rattle.av_lock_laws.specs.Locks.{is_locked_at}
use Rattle.av_lock_laws.proofs.NoteLaws.{has_page-age, has_page-drop, has_page-end, has_page-keep, has_page-put, has_page-start, has_page-unmap}
use Rattle.av_evict.proofs.witness.steps_can_be_met.Goals as goal

most : (n a top : ℕ) → min (a + n) top ≤ a + n
most n a top = omega arith

no-less : (n a : ℕ) → a ≤ a + n
no-less n a = omega arith

-- what is free after the note
abbrev free_after : (m : Setting) (closing : Option ℕ) (free : Free) (l : Ledger) (note : Note) → TakesNext m closing l free note → Free
free_after m closing free l note next = record {
  frames = new_free m l (after_note note l) ++ next.frames;
  slots = with_given_back m l (after_note note l) next.slots;
}

-- what its device tells then of its calls
abbrev calls_after : Calls → Note → Calls
calls_after calls note = (calls.0 + fails (note ∷ []), record calls.1 { written = calls.1.written ++ pages_written (note ∷ []) })

-- in one reading
met : (m : Setting) (closing : Option ℕ) (first : Option (ℕ → List ℕ)) (free : Free) (calls : Calls) (w : World) (r : Rmap) (l : Ledger)
    (note : Note) →
    (next : TakesNext m closing l free note) →
    HasHappened (only_view m closing first free calls w r l)
    (only_view m closing first (free_after m closing free l note next) (calls_after calls note) (with_loads m w l (note_events (note ∷ [])))
    (rmap_after_all l (note_events (note ∷ [])) r) (after_note note l)) l (note ∷ [])
met m closing first free calls w r l note next = record {
  stands = refl;
  stays = record { setting = refl; closing = refl; names = refl; first = refl; never_falls = no-less (fails (note ∷ [])) calls.0; history = written };
  chooses = (
    free_after m closing free l note next,
    record { frames = (next.frames, next.first, refl); slots = (free.slots, next.slots, refl, next.slot, refl) },
    refl,
  );
  claims = λ v q is. (ap (λ x. with_loads m x l (note_events (note ∷ []))) is.0, ap (rmap_after_all l (note_events (note ∷ []))) is.1, refl);
  failures = most (fails (note ∷ [])) calls.0 (2 ^ 64 - 1);
  wrote = written.wrote;
}
  where
    written : WroteSome calls.1 (calls_after calls note).1
    written = record { pages = pages_written (note ∷ []); wrote = record { attached = refl; written = refl }; behind_header = next.behind_header }

-- in both
met_told : (m : Setting) (closing : Option ℕ) (first : Option (ℕ → List ℕ)) (free : Free) (calls : Calls) (w : World) (r : Rmap) (l : Ledger)
    (note : Note) →
    (next : TakesNext m closing l free note) → (told : Bool) →
    HasHappened (only_view (setting_told told m) closing (if told then first else None) free calls w r l)
    (only_view (setting_told told m) closing (if told then first else None) (free_after m closing free l note next) (calls_after calls note)
    (with_loads (setting_told told m) w l (note_events (note ∷ []))) (rmap_after_all l (note_events (note ∷ [])) r) (after_note note l))
    l (note ∷ [])
met_told m closing first free calls w r l note next true = met m closing first free calls w r l note next
met_told m closing first free calls w r l note next false = met (setting_told false m) closing None free calls w r l note
    (record { frames = next.frames; slots = next.slots; first = next.first; slot = next.slot; behind_header = next.behind_header })

-- a step loads nothing
step-world : (m : Setting) (w : World) (l : Ledger) (note : Note) → IsStep w l note → with_loads m w l (note_events (note ∷ [])) ≡ w
step-world m w l note step = by note step (is_some m.headers)
  where
    same : (b : Bool) → cond b w w ≡ w
    same true = refl
    same false = refl

    by : (note : Note) → IsStep w l note → (b : Bool) → cond b w (after_loads w l (note_events (note ∷ []))) ≡ w
    by (Put f s) step b = same b
    by (Unmapped f) step b = same b
    by (Started s) step b = same b
    by (Written s) step b = same b
    by (Failed s) step b = same b
    by (Dropped s) step b = same b
    by (Kept f cause) step b = same b
    by (Aged f) step b = same b
    by (Zeroed _ _) step b = absurd step
    by (New _ _ _) step b = absurd step
    by (Copied _ _ _) step b = absurd step
    by (Loaded _ _) step b = absurd step
    by (Mapped _ _ _) step b = absurd step
    by (Shared _) step b = absurd step
    by (Joined _ _ _) step b = absurd step
    by (Moved _ _) step b = absurd step

-- so the same frames are locked
step-locked : (w : World) (l : Ledger) (note : Note) → IsStep w l note → is_locked w (after_note note l) ≡ is_locked w l
step-locked w l (Put f s) step = has_page-put (is_locked_at w) l f s
step-locked w l (Unmapped f) step = has_page-unmap (is_locked_at w) l f step
step-locked w l (Started s) step = has_page-start (is_locked_at w) l s
step-locked w l (Written s) step = has_page-end (is_locked_at w) l false s
step-locked w l (Failed s) step = has_page-end (is_locked_at w) l true s
step-locked w l (Dropped s) step = has_page-drop (is_locked_at w) l s
step-locked w l (Kept f cause) step = has_page-keep (is_locked_at w) l f cause
step-locked w l (Aged f) step = has_page-age (is_locked_at w) l f
step-locked w l (Zeroed _ _) step = absurd step
step-locked w l (New _ _ _) step = absurd step
step-locked w l (Copied _ _ _) step = absurd step
step-locked w l (Loaded _ _) step = absurd step
step-locked w l (Mapped _ _ _) step = absurd step
step-locked w l (Shared _) step = absurd step
step-locked w l (Joined _ _ _) step = absurd step
step-locked w l (Moved _ _) step = absurd step

pub returns : goal.returns
returns c = λ m closing first free calls w r l note next. (
  free_after m closing free l note next,
  calls_after calls note,
  λ told. with_loads (setting_told told m) w l (note_events (note ∷ [])),
  rmap_after_all l (note_events (note ∷ [])) r,
  λ told. let happened = met_told m closing first free calls w r l note next told in (
    happened,
    λ step. record {
      stays = happened.stays;
      locked = ap (λ x. is_locked x (after_note note l)) (step-world (setting_told told m) w l note step) ∙ step-locked w l note step;
    },
  ),
)
