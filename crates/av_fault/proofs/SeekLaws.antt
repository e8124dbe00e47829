-- A frame is sought: whether one is free, and what the search of the crate below has found.
use Rattle.std.proofs.Common.{◌≡◌, ℕ, zero, suc, ◌+◌, ◌<◌, ◌==◌, Bool, true, false, ◌||◌, List, [], Option, refl, sym, ap, ◌∙◌, arith}
use Rattle.std.proofs.lemmas.Bool.{false≢true}
use Rattle.std.specs.List.{list_any, range_with_len}
use Rattle.av_trace.specs.declared.note.Note.{Note}
use Rattle.av_trace.specs.declared.reply.OutOf.{OutOf}
use Rattle.av_evict.specs.Pass.{IsEnd}
use Rattle.av_evict.specs.declared.pass.SeekEnd.{SeekEnd}
use Rattle.av_evict.specs.declared.pass.SeekEnd.TheVariants as ends
use Rattle.av_plain.specs.Areas.{Rmap}
use Rattle.av_plain.specs.Device.{Device}
use Rattle.av_plain.specs.Event.{after_notes}
use Rattle.av_plain.specs.Fault.{sparing}
use Rattle.av_plain.specs.Ledger.{Ledger, Setting, has_free, is_free}
use Rattle.av_plain.specs.Pass.{Seeks}
use Rattle.av_plain.specs.World.{World}
use Rattle.av_plain.proofs.Ledger.NoSwap.{has_free-some}
use Rattle.av_mem.specs.declared.mem.Mem.{Mem}
use Rattle.av_mem.specs.Mem.{setting_by, view}
use Rattle.av_mem.specs.Between.{KeepsBetween}
use Rattle.av_reclaim.specs.Commands.{HasAdded}
use Rattle.av_fault.specs.Seek.{HasSought}
use Rattle.av_fault.specs.declared.seek.Got.TheVariants.{Frame, Out}

-- ---- whether a frame is free

none-passes : (test : ℕ → Bool) (a n : ℕ) → ((f : ℕ) → f < a + n → test f ≡ false) → list_any test (range_with_len a n) ≡ false
none-passes test a zero h = refl
none-passes test a (suc n) h = ap (λ b. b || list_any test (range_with_len (a + 1) n)) (h a (omega arith)) ∙ none-passes test (a + 1) n
    (λ f under. h f (omega (arith, under)))

module _ (d : Device) (k : Mem) (w : World) (r : Rmap) (l : Ledger) (h : KeepsBetween d k w r l) where
  abbrev m : Setting
  m = setting_by d k

  pub free-none : (view k).free ≡ [] → has_free m l ≡ false
  free-none is = none-passes (is_free l) 0 m.frames (λ g under. sym (h.serves.held.ledger.frames.free g (omega (arith, under)))
      ∙ ap (λ fs. list_any (λ x. g == x) fs) is)

  pub free-some : has_free m l ≡ true → (view k).free ≡ [] → ⊥
  free-some some none = false≢true (sym (free-none none) ∙ some)

-- ---- a frame is sought

module _ (d d' : Device) (old new : Mem) (w : World) (r : Rmap) (l : Ledger) (pinned : Option ℕ) (before now : List Note) where
  -- what the search ends with
  abbrev pub HasEnded : SeekEnd → Type 0
  HasEnded end = HasAdded (λ m w l added. Seeks m (sparing w l pinned) l added × IsEnd m (sparing w l pinned) end l added) d d' old new w r l before now

  pub sought-frame : (f : ℕ) → HasEnded (ends.Frame f) → HasSought d d' old new w r l pinned before now Frame
  sought-frame f h = record {
    added = h.added;
    noted = record { notes = h.notes; failures = let rose = h.failures in omega (arith, rose); failed = omega arith };
    seeks = h.asked.0;
    done = h.done;
    finds = has_free-some (setting_by d old) (after_notes l h.added) f h.asked.1.0 h.asked.1.1;
  }

  pub sought-out : (out : OutOf) → HasEnded (ends.Out out) → HasSought d d' old new w r l pinned before now (Out out)
  sought-out out h = record {
    added = h.added;
    noted = record { notes = h.notes; failures = let rose = h.failures in omega (arith, rose); failed = h.asked.1.failed };
    seeks = h.asked.0;
    done = h.done;
    finds = (h.asked.1.none, h.asked.1.numbers);
  }
