-- Whether a page may join another: what the kernel answers is what memories and ledger say.
use Rattle.std.proofs.Common.{◌≡◌, ◌<◌, ℕ, Bool, true, false, not, ◌&&◌, Option, Some, None, is_none, is_some, nat_lt, refl, sym, ap, ◌∙◌, arith}
use Rattle.av_base.specs.Keys.{Key}
use Rattle.av_base.specs.declared.slot.Slot.{Slot}
use Rattle.av_pagetable.specs.Entries.{entry_at}
use Rattle.av_pagetable.specs.declared.pte.Pte.TheVariants.{Here}
use Rattle.av_rmap.specs.Items.{is_merged as has_items}
use Rattle.av_plain.specs.Areas.{Rmap}
use Rattle.av_plain.specs.Device.{Device}
use Rattle.av_plain.specs.Fault.{is_locked}
use Rattle.av_plain.specs.Ledger.{InFrame, Ledger, entry, is_merged, names_frame, slot_of}
use Rattle.av_plain.specs.Stands.{entry_of}
use Rattle.av_plain.specs.World.{World}
use Rattle.av_plain.proofs.Ledger.{how_many-found}
use Rattle.av_plain.proofs.Sound.Counts.{same-itself}
use Rattle.std.proofs.lemmas.Bool.Decides.{nat_tests}
use Rattle.av_swap_laws.specs.Locks.{AreLocks}
use Rattle.av_mem.specs.declared.mem.Mem.{Mem}
use Rattle.av_mem.specs.Between.{KeepsBetween}
use Rattle.av_mem.specs.Mem.{frame_count, locks_of, plain, view}
use Rattle.av_mem.proofs.LockedLaws.{locked-told}
use Rattle.av_mem.proofs.MergedLaws.{merged-is}
use Rattle.av_mem.proofs.ReachLaws.{reaches-served}

-- a frame that isn't locked has no count
pub unlocked-count : (locks : ℕ → ℕ) (w : World) (l : Ledger) (f : ℕ) → AreLocks locks w l → is_locked w l f ≡ false → locks f ≡ 0
unlocked-count locks w l f are is = none (locks f) (locked-told locks w l f are ∙ is)
  where
    none : (n : ℕ) → nat_lt 0 n ≡ false → n ≡ 0
    none n e = grind (arith, nat_tests, e)

module _ (d : Device) (k : Mem) (w : World) (r : Rmap) (l : Ledger) (h : KeepsBetween d k w r l) where
  pub merged-told : (f : ℕ) → has_items ((view k).items f) ≡ is_merged l f
  merged-told f = merged-is k r l (reaches-served d None k w r l h.serves) h.sound.in_order f (h.sound.merged f)

  -- an entry of a frame, in the ledger's words
  pub entry-here : (key : Key) (f : ℕ) (write seen : Bool) → entry_at k.tables key.0 key.1 ≡ Here f write seen → entry l key ≡ Some (InFrame f seen)
  entry-here key f write seen is = sym (h.serves.held.ledger.tables.entries key.0 key.1) ∙ ap (λ e. entry_of (plain e)) is

  pub frame-below : (key : Key) (f : ℕ) (write seen : Bool) → entry_at k.tables key.0 key.1 ≡ Here f write seen → f < frame_count k
  frame-below key f write seen is =
      let some = how_many-found (names_frame f) key l.entries (InFrame f seen) (entry-here key f write seen is) (same-itself f) in
      h.sound.in_range f (omega (arith, some))

  -- where it is neither merged nor cached: by whether it is one of a locked page
  pub join-unlocked : (f : ℕ) → has_items ((view k).items f) ≡ false → is_some ((view k).slot f) ≡ false → (b : Bool) → b ≡ nat_lt 0 (locks_of k f)
      → not b ≡ (not (is_merged l f) && is_none (slot_of l f) && not (is_locked w l f))
  join-unlocked f is none b told = λ n. not ((sym is ∙ merged-told f) n)
      && uncached (slot_of l f) (ap is_some (sym (h.serves.held.ledger.frames.slots f)) ∙ none) n
      && not ((told ∙ locked-told (locks_of k) w l f h.serves.locks) n)
    where
      uncached : (o : Option Slot) → is_some o ≡ false → true ≡ is_none o
      uncached None e = refl
      uncached (Some s) e = cc
