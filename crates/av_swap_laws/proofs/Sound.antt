-- A ledger is sound after each note of swap, but for a slot that may have to be dropped.
use Rattle.std.proofs.Common.{◌≡◌, ℕ, ◌<◌, true, cond, Some, None, sym, ap, subst, ◌∙◌, arith, ◌==◌}
use Rattle.std.proofs.lemmas.Bool.Decides.{nat_tests}
use Rattle.av_base.specs.declared.slot.Slot.{Slot}
use Rattle.av_trace.specs.declared.note.Cause.{Cause}
use Rattle.av_trace.specs.declared.note.Cause.TheVariants.{Ksm, Locked, NoSlot, Referenced, WriteStarted, Writeback}
use Rattle.av_trace.specs.declared.note.Note.TheVariants.{Aged, Dropped, Kept, Loaded, Mapped, Put, Started, Unmapped}
use Rattle.av_base.specs.Page.{page_of}
use Rattle.av_plain.specs.Event.{after_note, change_entries, if_some, without_seen}
use Rattle.av_plain.specs.Ledger.{InSlot, Ledger, Setting, entry, frame_at, same_slot, slot_entries, slot_of}
use Rattle.av_plain.specs.Sound.{IsSoundBut, flights, uses}
use Rattle.av_plain.proofs.Event.{map_count-unseen}
use Rattle.av_plain.proofs.Sound.Cache.{active-kept, head-kept, put-kept, unmapped-kept}
use Rattle.av_plain.proofs.Sound.Changes.{dropped-kept, free-is, loaded-kept}
use Rattle.av_plain.proofs.Sound.Counts.{frame_at-some, slot_of-none, slot_of-some}
use Rattle.av_plain.proofs.Sound.Entries.{mapped-kept}
use Rattle.av_plain.proofs.Sound.Flight.{started-kept}
use Rattle.av_plain.proofs.Sound.Reclaim.{unseen-kept}
use Rattle.av_swap_laws.specs.May.{MayComeIn, MayGoOut}
use Rattle.av_swap_laws.proofs.Cache.{cached-slots}

-- ---- the notes

module _ (m : Setting) (x : Slot → ℕ) (l : Ledger) (s : IsSoundBut m x l) where
  pub put-sound : (f : ℕ) (t : Slot) → MayGoOut l f t → slot_of l f ≡ None → IsSoundBut m x (after_note (Put f t) l)
  put-sound f t may none = put-kept m x l t f s may.absent may.unnamed (slot_of-none f l.cache none) may.unmerged may.used

  pub unmap-sound : (f : ℕ) (t : Slot) → slot_of l f ≡ Some t → IsSoundBut m x (after_note (Unmapped f) l)
  unmap-sound f t is = subst (IsSoundBut m x) (sym (ap (λ o. if_some o (λ s. change_entries f (λ _. InSlot s)) l) is))
      (unmapped-kept m x l t f s (slot_of-some f t l.cache is))

  pub start-sound : (f : ℕ) (t : Slot) → frame_at l t ≡ Some f → flights l t ≡ 0 → IsSoundBut m x (after_note (Started t) l)
  start-sound f t is landed = started-kept m x l t s (cached-slots t f l is) landed

  pub drop-sound : (t : Slot) → flights l t ≡ 0 → IsSoundBut m (λ r. cond (same_slot r t) 0 (x r)) (after_note (Dropped t) l)
  drop-sound t landed = dropped-kept m x l t s landed

  pub load-sound : (f : ℕ) (t : Slot) → MayComeIn l f t → 0 < slot_entries l t → f < m.frames → IsSoundBut m x (after_note (Loaded t f) l)
  load-sound f t may named below = loaded-kept m x l t f s may.absent named below (zero (uses l f) (sym (free-is l f) ∙ may.free))
    where
      zero : (n : ℕ) → (n == 0) ≡ true → n ≡ 0
      zero n e = grind (arith, nat_tests, e)

  pub map-sound : (p a f : ℕ) (t : Slot) → entry l (p, page_of a) ≡ Some (InSlot t) → frame_at l t ≡ Some f
      → IsSoundBut m x (after_note (Mapped p a f) l)
  map-sound p a f t at is = mapped-kept m x l (p, page_of a) f t s at (frame_at-some f t l.cache is)

  pub keep-sound : (f : ℕ) (cause : Cause) → 0 < uses l f → IsSoundBut m x (after_note (Kept f cause) l)
  keep-sound f Writeback used = head-kept m x l f s used
  keep-sound f WriteStarted used = head-kept m x l f s used
  keep-sound f Referenced used = active-kept m x (change_entries f without_seen l) f (unseen-kept m x l f s)
      (let a = map_count-unseen f l f in omega (arith, a, used))
  keep-sound f NoSlot used = active-kept m x l f s used
  keep-sound f Locked used = active-kept m x l f s used
  keep-sound f Ksm used = active-kept m x l f s used

  pub age-sound : (f : ℕ) → 0 < uses l f → IsSoundBut m x (after_note (Aged f) l)
  age-sound f used = head-kept m x (change_entries f without_seen l) f (unseen-kept m x l f s)
      (let a = map_count-unseen f l f in omega (arith, a, used))
