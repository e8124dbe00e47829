-- From what the loops promise of the system that they drive to what is promised of what was lent to it.
use Rattle.std.proofs.Common.{◌≡◌, ℕ, List, Option, None, false, sym, ap, subst, ◌∙◌}
use Rattle.av_trace.specs.declared.note.Note.{Note}
use Rattle.av_plain.specs.Areas.{Rmap, rmap_after_all}
use Rattle.av_plain.specs.Choice.{ChoosesAll}
use Rattle.av_plain.specs.Device.{Device, IsSameDevice, as_told, Wrote}
use Rattle.av_plain.specs.Event.{after_notes, note_events}
use Rattle.av_plain.specs.Ledger.{Ledger, Setting}
use Rattle.av_plain.specs.Fault.{sparing}
use Rattle.av_plain.specs.Load.{with_loads}
use Rattle.av_plain.specs.Pass.{Spared, pages_written}
use Rattle.av_plain.specs.Sound.{IsSound}
use Rattle.av_plain.specs.Stands.{free_of}
use Rattle.av_plain.specs.World.{World}
use Rattle.av_plain.proofs.Access.{note_events-all, notes_of-note_events}
use Rattle.av_evict.specs.declared.pass.SeekEnd.{SeekEnd}
use Rattle.av_evict.specs.Pass.{IsNext}
use Rattle.av_evict.specs.System.{Always, Gives, Goes, IsAt, Stays, spares}
use Rattle.av_mem.specs.Between.{HasDone, IsBetween, KeepsBetween}
use Rattle.av_mem.specs.Mem.{Serves, frame_count, locks_of, setting_by, view}
use Rattle.av_mem.specs.declared.mem.Mem.{Mem}
use Rattle.av_mem.proofs.KeepsLaws.{serves-whenever}
use Rattle.av_mem.proofs.LockedLaws.{locked-told}
use Rattle.av_reclaim.specs.Commands.{HasAdded}
use Rattle.av_reclaim.specs.Driver.{closing_of, view_of}

-- ---- what the loops ask

-- the area that is closing, if any is, is the system's
pub closing-so : (d : Device) (closing : Option ℕ) (k : Mem) (w : World) (r : Rmap) (l : Ledger) → Serves d closing k w r l
    → Serves d (closing_of k) k w r l
closing-so d closing k w r l h = subst (λ c. Serves d c k w r l) (sym h.swap.closed) h

pub is-at : (names : List ℕ) (d : Device) (k : Mem) → IsBetween d.sizes k → IsAt (view_of names (as_told false d) k) Always
is-at names d k h = (
  h.3,
  h.4.sound,
  (
    h.1,
    h.2,
    closing-so (as_told false d) None k h.1 h.2 h.3 (serves-whenever d.sizes None h.0 (d.failures, d.history) None k h.1 h.2 h.3 h.4.serves),
  ),
  tt,
)

-- ---- what they do

-- the reference was kept, so what was lent is what the system made of it
abbrev pub IsLent : List ℕ → List ℕ → Device → Device → Mem → Mem → Type 0
IsLent names names' d₁ d' k₁ new = names' ≡ names → (d' ≡ d₁) × (new ≡ k₁)

pub one-device : (names names' : List ℕ) (d d' : Device) (old new : Mem) → Stays (view_of names d old) (view_of names' d' new) → IsSameDevice d d'
one-device names names' d d' old new stays =
    record {
      sizes = ap (λ (m : Setting). m.sizes) stays.setting;
      first = stays.first;
      failures = stays.never_falls;
      history = stays.history;
    }

-- by what stays, this is so of what was lent too
module _ (names names' : List ℕ) (d d₁ : Device) (old k₁ : Mem) (stays : Stays (view_of names d old) (view_of names' d₁ k₁)) where
  pub same-lent : (d' : Device) → (names' ≡ names → d' ≡ d₁) → IsSameDevice d d'
  same-lent d' lent = subst (IsSameDevice d) (sym (lent stays.names)) (one-device names names' d d₁ old k₁ stays)

  pub count-lent : (n : ℕ) → (names' ≡ names → n ≡ frame_count k₁) → n ≡ frame_count old
  count-lent n lent = lent stays.names ∙ ap (λ (m : Setting). m.frames) stays.setting

  pub next-lent : (end : SeekEnd) (free : List ℕ) → (names' ≡ names → free ≡ (view k₁).free) → IsNext end (view k₁).free → IsNext end free
  next-lent end free lent next = subst (IsNext end) (sym (lent stays.names)) next

-- what the system did
done : (names names' : List ℕ) (d d' : Device) (old new : Mem) (w : World) (r : Rmap) (l : Ledger) (notes : List Note) → Serves d None old w r l
    → Goes (view_of names d old) (view_of names' d' new) l notes → HasDone d d' old new w r l (note_events notes)
done names names' d d' old new w r l notes serves goes =
    let happened = goes.happened in
    let stays = happened.stays in
    let open' : closing_of new ≡ None = stays.closing ∙ serves.swap.closed in
    let w' = with_loads (setting_by d old) w l (note_events notes) in
    let r' = rmap_after_all l (note_events notes) r in
    record {
      between = subst (KeepsBetween d' new w' r') (sym (note_events-all l notes)) (record {
        sound = subst (λ m. IsSound m (after_notes l notes)) (sym stays.setting) goes.sound;
        serves = subst (λ c. Serves d' c new w' r' (after_notes l notes)) open' (happened.claims w r (closing-so d None old w r l serves));
      });
      free = subst (λ c. ChoosesAll (setting_by d old) c l (note_events notes) (free_of (view old)) (free_of (view new)))
          serves.swap.closed happened.chooses;
      same = one-device names names' d d' old new stays;
      wrote = subst (λ ns. Wrote (pages_written ns) d.history d'.history) (sym (notes_of-note_events notes)) happened.wrote;
      count = ap (λ (m : Setting). m.frames) stays.setting;
    }

-- what a pass leaves alone is what the definitions say, where no swap area is closing
spares-so : (names : List ℕ) (d : Device) (k : Mem) (w : World) (r : Rmap) (l : Ledger) → Serves d None k w r l → (pinned : Option ℕ)
    → spares (view_of names d k) pinned ≡ sparing w l pinned
spares-so names d k w r l serves pinned = λ i. record {
  pinned = pinned;
  locked = λ f. locked-told (locks_of k) w l f serves.locks i;
  closing = serves.swap.closed i;
}

pub added : (names names' : List ℕ) (d d₁ d' : Device) (old k₁ new : Mem) (before now : List Note) (pinned : Option ℕ)
    (Q : Spared → Ledger → List Note → Type 0) (Asked : Setting → World → Ledger → List Note → Type 0)
    → ((w : World) (l : Ledger) (notes : List Note) → Q (sparing w l pinned) l notes → Asked (setting_by d old) w l notes)
    → Gives (view_of names d old) (view_of names' d₁ k₁) before now Always (Q (spares (view_of names d old) pinned)) → IsLent names names' d₁ d' k₁ new
    → (w : World) (r : Rmap) (l : Ledger) → KeepsBetween d old w r l → HasAdded Asked d d' old new w r l before now
added names names' d d₁ d' old k₁ new before now pinned Q Asked asks gives lent w r l between =
    let serves = between.serves in
    let out = gives l between.sound (w, r, closing-so d None old w r l serves) tt in
    let is = lent out.3.happened.stays.names in
    subst (λ k. HasAdded Asked d d' old k w r l before now) (sym is.1) (subst (λ x. HasAdded Asked d x old k₁ w r l before now) (sym is.0) (record {
      added = out.0;
      notes = out.1;
      asked = asks w l out.0 (subst (λ (spared : Spared). Q spared l out.0) (spares-so names d old w r l serves pinned) out.2);
      done = done names names' d d₁ old k₁ w r l out.0 serves out.3;
      failures = out.3.happened.failures;
    }))
