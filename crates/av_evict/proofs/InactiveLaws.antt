-- What becomes of a frame that reclaim looks at.
use Rattle.std.proofs.Common.{Bool, List, None, Option, Some, [], ap, arith, cond, false, if◌then◌else◌, refl, subst, sym, true, ℕ, ◌++◌, ◌<◌, ◌∙◌, ◌∷◌, ◌≡◌}
use Rattle.std.specs.Prelude.{IsTrue, MatchOption}
use Rattle.av_base.specs.Words.{how_many}
use Rattle.av_base.specs.declared.slot.Slot.{Slot}
use Rattle.av_trace.specs.declared.note.Cause.{Cause}
use Rattle.av_trace.specs.declared.note.Cause.TheVariants.{Ksm, Locked, NoSlot, Referenced, WriteStarted, Writeback}
use Rattle.av_trace.specs.declared.note.Note.{Note}
use Rattle.av_trace.specs.declared.note.Note.TheVariants.{Dropped, Kept, Started}
use Rattle.av_plain.specs.Event.{after_note, after_notes}
use Rattle.av_plain.specs.Ledger.{Ledger, Setting, in_flight, is_merged, is_stale, may_give, same_slot, slot_of}
use Rattle.av_plain.specs.Sound.{IsSound, flights, pairs}
use Rattle.av_plain.specs.Pass.{IsSlotFor, Spared, is_dirty, is_stuck, unmap_notes}
use Rattle.av_plain.proofs.Sound.Counts.{pair-frame, slot_of-some}
use Rattle.av_plain.proofs.Sound.Pass.{alike-uses}
use Rattle.av_plain.proofs.Sound.Steps.{UnmapKept, alike-started, given-nowhere, unmap_notes-kept}
use Rattle.av_evict.specs.System.{Gives, Stays, SystemView, Tells}
use Rattle.av_evict.proofs.SystemLaws.{gives-as, gives-then, loose}
use Rattle.av_evict.specs.Inactive.{GoesOut, IsSentIdle}
use Rattle.av_evict.specs.Steps.{IsSent, IsUsed, KeepsReferenced, MayDrop, MaySend, MayStart, closes}
use Rattle.av_plain.specs.Reclaim.{Outcome, cause_of, is_in_writeback, is_referenced, leave_notes}
use Rattle.av_evict.proofs.StepLaws.{clean-may_drop, landed-flights, pair-slot_of, still-landed, unmerged-count}
use Rattle.av_evict.proofs.TurnLaws.{sent-stale}

-- ---- a frame that was sent to its slot goes on

pub idle-pair : (l : Ledger) (f : ℕ) (s : Slot) → IsSentIdle f s l → 0 < pairs l s f
idle-pair l f s at = slot_of-some f s l.cache at.cached

pub idle-used : (l : Ledger) (f : ℕ) (s : Slot) → IsSentIdle f s l → IsUsed f l
idle-used l f s at = let p = idle-pair l f s at in let q = pair-frame s f l.cache in omega (arith, p, q)

pub idle-may_start : (l : Ledger) (f : ℕ) (s : Slot) → IsSentIdle f s l → MayStart f s l
idle-may_start l f s at = record { cached = at.cached; landed = still-landed l s at.landed }

pub idle-started : (l : Ledger) (f : ℕ) (s : Slot) (ns : List Note) → IsSentIdle f s l → ns ≡ Started s ∷ [] → IsUsed f (after_notes l ns)
idle-started l f s ns at is = subst (λ x. IsUsed f (after_notes l x)) (sym is)
    (let e = alike-uses l (after_note (Started s) l) (alike-started l s) f in let u = idle-used l f s at in omega (arith, e, u))

pub idle-may_drop : (l : Ledger) (f : ℕ) (s : Slot) → IsSentIdle f s l → false ≡ is_stale l s → MayDrop f s l
idle-may_drop l f s at clean = clean-may_drop l f s at.cached at.unmapped at.landed (sym clean)

pub begun-stale : (l : Ledger) (f : ℕ) (s : Slot) (ns ms : List Note) → true ≡ is_stale l s → ns ≡ Started s ∷ [] → ms ≡ Kept f WriteStarted ∷ [] →
    GoesOut f s l (ns ++ ms)
begun-stale l f s ns ms is a b = (λ i. a i ++ b i) ∙ ap ((λ (b : Bool). if b then Started s ∷ Kept f WriteStarted ∷ [] else Dropped s ∷ [])) is

pub begun-clean : (l : Ledger) (f : ℕ) (s : Slot) (ns : List Note) → false ≡ is_stale l s → ns ≡ Dropped s ∷ [] → GoesOut f s l ns
begun-clean l f s ns is a = a ∙ ap ((λ (b : Bool). if b then Started s ∷ Kept f WriteStarted ∷ [] else Dropped s ∷ [])) is

-- ---- what becomes of a frame

-- by four of the tests
abbrev cause : Bool → Bool → Bool → Bool → Option Cause
cause k a b c = cond k (Some Ksm) (cond a (Some Writeback) (cond b (Some Referenced) (cond c (Some NoSlot) None)))

-- it is kept, for this cause
keeps-for : (m : Setting) (sp : Spared) (l : Ledger) (f : ℕ) (why : Cause) (ns : List Note) → cause_of m sp l f ≡ Some why → ns ≡ Kept f why ∷ [] →
    Outcome m sp l f ns
keeps-for m sp l f why ns is h = subst (λ o. MatchOption o ((s : Slot) × IsSlotFor m sp l f s × (ns ≡ leave_notes l f s))
    (λ why. ns ≡ Kept f why ∷ [])) (sym is) h

-- neither kept for its write nor for its use, the frame went to its slot, if there is one
pub record GoesOn (m : Setting) (closing : Option ℕ) (f : ℕ) (slot : Option Slot) (l : Ledger) (ns : List Note) : Type 0 where
  pub unmerged : is_merged l f ≡ false
  pub idle : is_in_writeback l (slot_of l f) ≡ false
  pub unseen : is_referenced l f ≡ false
  pub sent : IsSent m closing f slot l ns

-- as the test of its write, that of its use and the step tell
pub goes-on : (a b c : SystemView) (n0 n1 n2 : List Note) (f : ℕ) (slot : Option Slot) (writeback : Bool) →
    Tells a (λ l. writeback ≡ is_in_writeback l (slot_of l f)) → writeback ≡ false → Stays a b →
    Gives a b n0 n1 (IsUsed f) (KeepsReferenced f false) → Gives b c n1 n2 (MaySend f) (IsSent b.setting b.closing f slot) →
    Gives a c n0 n2 (MaySend f) (GoesOn a.setting a.closing f slot)
goes-on a b c n0 n1 n2 f slot writeback tells idle stays first second =
    gives-then a b c n0 n1 n2 (MaySend f) (MaySend f) Idle (IsSent b.setting b.closing f slot) (GoesOn a.setting a.closing f slot)
    (gives-as a b n0 n1 (IsUsed f) (MaySend f) (KeepsReferenced f false) Idle first (λ l sound stands used. used.used)
    (λ l ns sound stands used keeps. (sym (tells l (loose a.setting _ l sound) stands) ∙ idle, keeps)))
    second
    (λ l ns sound used is after. subst (λ x. MaySend f (after_notes l x)) (sym is.1.1) used)
    (λ l ns ms sound used is sent. subst (λ x. GoesOn a.setting a.closing f slot l (x ++ ms)) (sym is.1.1) (record {
      unmerged = used.unmerged;
      idle = is.0;
      unseen = sym is.1.0;
      sent = subst (λ m. IsSent m a.closing f slot l ms) stays.setting (subst (λ k. IsSent b.setting k f slot l ms) stays.closing
          (subst (λ x. IsSent b.setting b.closing f slot (after_notes l x) ms) is.1.1 sent));
    }))
  where
    Idle : Ledger → List Note → Type 0
    Idle l ns = (is_in_writeback l (slot_of l f) ≡ false) × KeepsReferenced f false l ns

pub outcome-stuck : (m : Setting) (closing : Option ℕ) (l : Ledger) (f : ℕ) (ns ms : List Note) → GoesOn m closing f None l ns →
    ms ≡ Kept f NoSlot ∷ [] →
    Outcome m (closes closing) l f (ns ++ ms)
outcome-stuck m closing l f ns ms on h = keeps-for m (closes closing) l f NoSlot (ns ++ ms) (λ i. cause (on.unmerged i) (on.idle i) (on.unseen i) (on.sent.0 i))
    (ap (λ x. x ++ ms) on.sent.1 ∙ h)

pub outcome-sent : (m : Setting) (closing : Option ℕ) (l : Ledger) (f : ℕ) (s : Slot) (ns ms : List Note) → GoesOn m closing f (Some s) l ns →
    GoesOut f s (after_notes l ns) ms → Outcome m (closes closing) l f (ns ++ ms)
outcome-sent m closing l f s ns ms on out =
    subst (λ o. MatchOption o ((t : Slot) × IsSlotFor m (closes closing) l f t × (ns ++ ms ≡ leave_notes l f t))
    (λ why. ns ++ ms ≡ Kept f why ∷ []))
    (sym (λ i. cause (on.unmerged i) (on.idle i) (on.unseen i) (on.sent.0 i)))
    (s, on.sent.1, (λ i. on.sent.2 i ++ (out ∙ ap (λ (b : Bool). if b then Started s ∷ Kept f WriteStarted ∷ [] else Dropped s ∷ []) dirty) i))
  where
    dirty : is_stale (after_notes l ns) s ≡ is_dirty l f s
    dirty = ap (λ x. is_stale (after_notes l x) s) on.sent.2 ∙ sent-stale m closing l f s on.sent.1

-- its slot was not in flight, so it isn't after the frame was sent to it
pub sent-idle : (m : Setting) (closing : Option ℕ) (l : Ledger) (f : ℕ) (s : Slot) (ns : List Note) → IsSound m l → IsUsed f l →
    GoesOn m closing f (Some s) l ns → IsSentIdle f s (after_notes l ns)
sent-idle m closing l f s ns sound used on = subst (λ x. IsSentIdle f s (after_notes l x)) (sym on.sent.2) (record {
  cached = pair-slot_of m (after_notes l (unmap_notes l f s)) s f u.sound u.pair;
  unmapped = u.none;
  landed = ap (how_many (same_slot s)) u.flight_same ∙ by (slot_of l f) refl on.sent.1 on.idle;
})
  where
    u : UnmapKept m l f s (after_notes l (unmap_notes l f s))
    u = unmap_notes-kept m (closes closing) l f s sound on.sent.1 (unmerged-count l f on.unmerged) used

    by : (o : Option Slot) → slot_of l f ≡ o → MatchOption o (IsTrue (may_give m closing l s)) (λ t. s ≡ t) → is_in_writeback l o ≡ false →
        flights l s ≡ 0
    by None is may idle = let n = (given-nowhere m closing l s may).uncached in let h = sound.flying s in omega (arith, n, h)
    by (Some t) is same idle = landed-flights l s (ap (in_flight l) same ∙ idle)

pub stuck-used : (m : Setting) (closing : Option ℕ) (l : Ledger) (f : ℕ) (ns : List Note) → IsUsed f l → GoesOn m closing f None l ns →
    IsUsed f (after_notes l ns)
stuck-used m closing l f ns used on = subst (λ x. IsUsed f (after_notes l x)) (sym on.sent.1) used

-- ---- a frame that is left alone

-- the first test holds
pub outcome-locked : (m : Setting) (sp : Spared) (l : Ledger) (f : ℕ) (ns : List Note) → true ≡ sp.locked f → ns ≡ Kept f Locked ∷ [] →
    Outcome m sp l f ns
outcome-locked m sp l f ns is h = keeps-for m sp l f Locked ns (ap (λ b. cond b (Some Locked) (cause_of m (closes sp.closing) l f)) (sym is)) h

-- or the second
pub outcome-merged : (m : Setting) (sp : Spared) (l : Ledger) (f : ℕ) (ns : List Note) → sp.locked f ≡ false → true ≡ is_merged l f →
    ns ≡ Kept f Ksm ∷ [] → Outcome m sp l f ns
outcome-merged m sp l f ns unlocked is h = keeps-for m sp l f Ksm ns (λ i. cond (unlocked i) (Some Locked)
    (cause (sym is i) (is_in_writeback l (slot_of l f)) (is_referenced l f) (is_stuck m sp l f))) h

-- or neither
pub outcome-unlocked : (m : Setting) (sp : Spared) (l : Ledger) (f : ℕ) (ns : List Note) → sp.locked f ≡ false →
    Outcome m (closes sp.closing) l f ns → Outcome m sp l f ns
outcome-unlocked m sp l f ns unlocked out = subst (λ b. MatchOption (cond b (Some Locked) (cause_of m (closes sp.closing) l f))
    ((s : Slot) × IsSlotFor m sp l f s × (ns ≡ leave_notes l f s)) (λ why. ns ≡ Kept f why ∷ [])) (sym unlocked) out
