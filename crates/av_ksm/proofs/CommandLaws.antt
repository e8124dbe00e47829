-- The command's step: its notes are those of the definitions, and the memory system stands for what they leave.
use Rattle.std.proofs.Common.{◌≡◌, true, List, [], map, Option, Some, None, refl, sym, subst}
use Rattle.std.specs.Prelude.{IsSomeAnd}
use Rattle.av_base.specs.Keys.{Key}
use Rattle.av_trace.specs.declared.command.Command.TheVariants.{Merge}
use Rattle.av_trace.specs.declared.note.Note.{Note}
use Rattle.av_trace.specs.declared.reply.Answer.TheVariants.{Done}
use Rattle.av_plain.specs.Areas.{Rmap, rmap_after_all}
use Rattle.av_plain.specs.Choice.{ChoosesAll, Free}
use Rattle.av_plain.specs.Device.{Device}
use Rattle.av_plain.specs.Event.{Event, after_all, note_events}
use Rattle.av_plain.specs.Ledger.{Entry, InFrame, InSlot, Ledger, Setting, Zero, entry, names_frame}
use Rattle.av_plain.specs.Load.{with_loads}
use Rattle.av_plain.specs.Merge.{HoldClaims, merges}
use Rattle.av_plain.specs.Stands.{BytesStand, IsKept, View}
use Rattle.av_plain.specs.Transcript.{State, rmap_of}
use Rattle.av_plain.specs.World.{Holds, World, pages}
use Rattle.av_plain.proofs.Access.{notes_of-note_events}
use Rattle.av_plain.proofs.Sound.Counts.{same-is}
use Rattle.av_plain.proofs.Transcript.{next-plain}
use Rattle.av_mem.specs.declared.mem.Mem.{Mem}
use Rattle.av_mem.specs.Between.{HasBetween}
use Rattle.av_mem.specs.Mem.{IsSteady, Keeps, setting_by, view}
use Rattle.av_mem.proofs.Between.{between-of}
use Rattle.av_mem.proofs.KeepsLaws.{serves-keeps, state_by}
use Rattle.av_step.specs.Step.{StepsBeside}
use Rattle.av_step.proofs.StepLaws.{left_alone, noted}
use Rattle.av_ksm.specs.Merging.{HasNoted}

pub steady-between : (k : Mem) → IsSteady k → HasBetween k
steady-between k steady = let s = steady.1 in (steady.0, s.world, rmap_of s, s.ledger, between-of steady.0 k s steady.2)

-- the frames hold what the pages claim that have them
claims-held : (v : View) (d : Device) (w : World) (l : Ledger) → BytesStand v d w l → HoldClaims w l v.bytes
claims-held v d w l h k f names = by (entry l k) names (h.kept k.0 k.1)
  where
    by : (o : Option Entry) → IsSomeAnd o (λ e. names_frame f e ≡ true) → IsKept v d l o (pages w k.0 k.1) → Holds (pages w k.0 k.1) (v.bytes f)
    by None is kept = absurd is
    by (Some Zero) is kept = cc
    by (Some (InSlot s)) is kept = cc
    by (Some (InFrame g seen)) is kept = subst (λ n. Holds (pages w k.0 k.1) (v.bytes n)) (sym (same-is f g is)) kept

-- the notes of a merge, by what frames hold
abbrev pub notes_for : Device → Mem → State → List Note
notes_for d k s = merges (setting_by d k) (view k).bytes s.world s.ledger [] (map (λ (e : Key × Entry). e.0) s.ledger.entries)

pub merge-steps : (d : Device) (old new : Mem) (s : State) (before now : List Note) → Keeps d old s
    → HasNoted d old new s.world (rmap_of s) s.ledger (notes_for d old s) before now → StepsBeside d old new s Merge (noted Done (notes_for d old s))
merge-steps d old new s before now keeps h =
    let events : List Event = note_events (notes_for d old s) in
    let m : Setting = setting_by d old in
    let r : Rmap = rmap_after_all s.ledger events (rmap_of s) in
    let l : Ledger = after_all s.ledger events in
    let w : World = with_loads m s.world s.ledger events in
    let after : State = state_by new w r l in
    let kept : Keeps d new after = serves-keeps d new w r l h.done.between.sound h.done.between.serves in
    record {
      next = after;
      step = record {
        events = events;
        legal = record {
          answer = ((view old).bytes, claims-held (view old) d s.world s.ledger keeps.stands.parts.bytes, refl, refl, refl);
          notes = sym (notes_of-note_events (notes_for d old s));
        };
        world = refl;
        ledger = refl;
        free = subst (λ (free : Free). ChoosesAll m None s.ledger events free after.free) keeps.stands.free h.done.free;
        rmap = next-plain r s.world Merge Done r refl (record { areas = refl; anons = left_alone new after kept; homes = refl; items = refl });
        shows = tt;
      };
      keeps = kept;
    }
