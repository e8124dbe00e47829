-- From what is promised of the system that empties an area to what is promised of what was lent to it.
use Rattle.std.proofs.Common.{◌≡◌, ℕ, List, Some, sym, ap, subst, ◌∙◌}
use Rattle.av_trace.specs.declared.note.Note.{Note}
use Rattle.av_plain.specs.Areas.{Rmap, rmap_after_all}
use Rattle.av_plain.specs.Choice.{ChoosesAll}
use Rattle.av_plain.specs.Device.{Device}
use Rattle.av_plain.specs.Event.{after_notes, note_events}
use Rattle.av_plain.specs.Ledger.{Ledger, Setting}
use Rattle.av_plain.specs.Load.{with_loads}
use Rattle.av_plain.specs.Sound.{IsSound}
use Rattle.av_plain.specs.Stands.{free_of}
use Rattle.av_plain.specs.World.{World}
use Rattle.av_evict.specs.System.{Always, Gives, IsAt}
use Rattle.av_mem.specs.Mem.{Serves, setting_by, view}
use Rattle.av_mem.specs.declared.mem.Mem.{Mem}
use Rattle.av_reclaim.specs.Driver.{closing_of, view_of}
use Rattle.av_reclaim.proofs.CommandLaws.{IsLent, closing-so, one-device}
use Rattle.av_swapoff.specs.Command.{HasEmptied, IsClosingOver, KeepsClosing}
use Rattle.av_swapoff.specs.Empty.{EmptiesAllBy}
use Rattle.av_swapoff.specs.declared.empty.EmptyEnd.{EmptyEnd}

pub is-at : (names : List ℕ) (d : Device) (area : ℕ) (k : Mem) → IsClosingOver d area k → IsAt (view_of names d k) Always
is-at names d area k h = (h.2, h.3.sound, (h.0, h.1, closing-so d (Some area) k h.0 h.1 h.2 h.3.serves), tt)

pub has-emptied : (names names' : List ℕ) (d d₁ d' : Device) (old k₁ new : Mem) (area : ℕ) (before now : List Note) (end : EmptyEnd)
    → Gives (view_of names d old) (view_of names' d₁ k₁) before now Always (EmptiesAllBy (view_of names d old) (view_of names' d₁ k₁) area end)
    → IsLent names names' d₁ d' k₁ new → (w : World) (r : Rmap) (l : Ledger) → KeepsClosing d area old w r l
    → HasEmptied d d' old new w r l area before now end
has-emptied names names' d d₁ d' old k₁ new area before now end gives lent w r l keeps =
    let serves = keeps.serves in
    let out = gives l keeps.sound (w, r, closing-so d (Some area) old w r l serves) tt in
    let happened = out.3.happened in
    let stays = happened.stays in
    let is = lent stays.names in
    let closing' : closing_of k₁ ≡ Some area = stays.closing ∙ serves.swap.closed in
    let w' = with_loads (setting_by d old) w l (note_events out.0) in
    let r' = rmap_after_all l (note_events out.0) r in
    subst (λ k. HasEmptied d d' old k w r l area before now end) (sym is.1)
    (subst (λ x. HasEmptied d x old k₁ w r l area before now end) (sym is.0) (record {
      added = out.0;
      noted = record { notes = out.1; failures = out.2.1.rose; failed = out.2.1.failed };
      empties = out.2.0 w r (closing-so d (Some area) old w r l serves);
      closing = record {
        sound = subst (λ m. IsSound m (after_notes l out.0)) (sym stays.setting) out.3.sound;
        serves = subst (λ c. Serves d₁ c k₁ w' r' (after_notes l out.0)) closing' (happened.claims w r (closing-so d (Some area) old w r l serves));
      };
      free = subst (λ c. ChoosesAll (setting_by d old) c l (note_events out.0) (free_of (view old)) (free_of (view k₁)))
          serves.swap.closed happened.chooses;
      same = one-device names names' d d₁ old k₁ stays;
      count = ap (λ (m : Setting). m.frames) stays.setting;
      wrote = happened.wrote;
    }))
