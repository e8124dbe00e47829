-- A step with one note, by the law of the note.
use Rattle.std.proofs.Common.{◌≡◌, ℕ, List, [], ◌∷◌, refl, sym, subst}
use Rattle.av_io.specs.Count.{RoseBy}
use Rattle.av_trace.specs.declared.note.Note.{Note}
use Rattle.av_plain.specs.Areas.{Rmap, rmap_after_note}
use Rattle.av_plain.specs.Device.{Device, IsSameDevice, Wrote}
use Rattle.av_plain.specs.Event.{Noted, after_note, note_events}
use Rattle.av_plain.specs.Ledger.{Ledger}
use Rattle.av_plain.specs.Load.{with_loads}
use Rattle.av_plain.specs.Pass.{fails, pages_written}
use Rattle.av_plain.specs.Sound.{IsSoundBut}
use Rattle.av_plain.specs.World.{World}
use Rattle.av_plain.proofs.FreeLists.{IsLawfulEvent}
use Rattle.av_plain.proofs.Sound.Pages.{Brings}
use Rattle.av_swap_laws.specs.Held.{Steps}
use Rattle.av_swap_laws.specs.Locks.{AreLocks}
use Rattle.av_evict.specs.System.{HasHappened, Stays, any_slot}
use Rattle.av_mem.specs.Mem.{Serves, held_by, setting_by}
use Rattle.av_mem.specs.Steps.{KeepsBut}
use Rattle.av_mem.specs.declared.mem.Mem.{Mem}
use Rattle.av_mem.proofs.ServesLaws.{PreparesNone, is_mapped, serves-note, setting-stays}
use Rattle.av_reclaim.specs.Driver.{closing_of, view_of}

-- the ledger is sound but for what is amid a step, and the memory system stands for it
pub record StandsBy (d : Device) (k : Mem) (l : Ledger) : Type 0 where
  pub sound : IsSoundBut (setting_by d k) any_slot l
  pub world : World
  pub rmap : Rmap
  pub serves : Serves d (closing_of k) k world rmap l

-- what a step owes beside the law: it leaves areas and device, takes and brings what it may, and counts the entries of locked pages
pub record Owes (counts : ℕ → ℕ) (d d' : Device) (old new : Mem) (l : Ledger) (note : Note) : Type 0 where
  pub parts : KeepsBut counts old new
  pub same : IsSameDevice d d'
  pub lawful : IsLawfulEvent (setting_by d old) (closing_of old) l (Noted note)
  pub brings : (w : World) (r : Rmap) → Serves d (closing_of old) old w r l → Brings (is_mapped w) note
  pub still : PreparesNone note
  pub locks : (w : World) (r : Rmap) → Serves d (closing_of old) old w r l → AreLocks counts w (after_note note l)
  pub failures : RoseBy (fails (note ∷ [])) d.failures d'.failures
  pub wrote : Wrote (pages_written (note ∷ [])) d.history d'.history

-- the memories with the note
abbrev pub world_with : Device → Mem → World → Ledger → Note → World
world_with d k w l note = with_loads (setting_by d k) w l (note_events (note ∷ []))

-- the step of the law
abbrev pub StepsBy : Device → Device → Mem → Mem → Ledger → Note → Type 0
StepsBy d d' old new l note = (w : World) (r : Rmap) → Serves d (closing_of old) old w r l
    → Steps (setting_by d old) (closing_of old) (Noted note) (held_by d old w r l)
    (held_by d' new (world_with d old w l note) (rmap_after_note l note r) (after_note note l))

-- one that leaves the memories as they are
abbrev pub StepsStill : Device → Device → Mem → Mem → Ledger → Note → Type 0
StepsStill d d' old new l note = (w : World) (r : Rmap) → Serves d (closing_of old) old w r l
    → Steps (setting_by d old) (closing_of old) (Noted note) (held_by d old w r l) (held_by d' new w (rmap_after_note l note r) (after_note note l))

-- what no step changes
pub step-stays : {counts : ℕ → ℕ} (names : List ℕ) (d d' : Device) (old new : Mem) → KeepsBut counts old new → IsSameDevice d d'
    → Stays (view_of names d old) (view_of names d' new)
step-stays names d d' old new parts same = record {
  setting = setting-stays old new parts d d' same;
  closing = parts.swap.closing;
  names = refl;
  first = same.first;
  never_falls = same.failures;
  history = same.history;
}

pub one-happened : {counts : ℕ → ℕ} (names : List ℕ) (d d' : Device) (old new : Mem) (l : Ledger) (note : Note) → StandsBy d old l
    → Owes counts d d' old new l note
    → StepsBy d d' old new l note → HasHappened (view_of names d old) (view_of names d' new) l (note ∷ [])
one-happened names d d' old new l note stood owes law = record {
  stands = (world_with d old stood.world l note, rmap_after_note l note stood.rmap, next stood.world stood.rmap stood.serves);
  stays = step-stays names d d' old new owes.parts owes.same;
  chooses = (_, (law stood.world stood.rmap stood.serves).chosen, refl);
  failures = owes.failures;
  wrote = owes.wrote;
  claims = next;
}
  where
    next : (w : World) (r : Rmap) → Serves d (closing_of old) old w r l
        → Serves d' (closing_of new) new (world_with d old w l note) (rmap_after_note l note r) (after_note note l)
    next w r c = subst (λ k. Serves d' k new (world_with d old w l note) (rmap_after_note l note r) (after_note note l)) (sym owes.parts.swap.closing)
        (serves-note old new d d' (closing_of old) w (world_with d old w l note) r l note owes.parts owes.same stood.sound.in_order owes.lawful
        (owes.brings w r c) owes.still refl (owes.locks w r c) c (law w r c))

-- where the note brings nothing that a page claims
pub one-still : {counts : ℕ → ℕ} (names : List ℕ) (d d' : Device) (old new : Mem) (l : Ledger) (note : Note) → StandsBy d old l
    → Owes counts d d' old new l note
    → ((w : World) → world_with d old w l note ≡ w) → StepsStill d d' old new l note
    → HasHappened (view_of names d old) (view_of names d' new) l (note ∷ [])
one-still names d d' old new l note stood owes still law = one-happened names d d' old new l note stood owes
    (λ w r c. subst (λ w'. Steps (setting_by d old) (closing_of old) (Noted note) (held_by d old w r l)
    (held_by d' new w' (rmap_after_note l note r) (after_note note l))) (sym (still w)) (law w r c))
