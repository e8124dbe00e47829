-- The command's step: its notes are what was added, and the memory system stands for what its events leave.
use Rattle.std.proofs.Common.{◌≡◌, ℕ, List, [], ◌∷◌, ◌++◌, None, refl, sym, ap, subst, ◌∙◌}
use Rattle.std.specs.Prelude.{OnOk, Result, Ok, Err}
use Rattle.av_trace.specs.declared.command.Command.TheVariants.{Compact}
use Rattle.av_trace.specs.declared.note.Note.{Note}
use Rattle.av_trace.specs.declared.reply.Answer.TheVariants.{Done}
use Rattle.av_plain.specs.Areas.{Rmap, rmap_after_all}
use Rattle.av_plain.specs.Choice.{ChoosesAll, Free}
use Rattle.av_plain.specs.Device.{Device}
use Rattle.av_plain.specs.Event.{Event, FreeSorted, after_all, note_events, notes_of}
use Rattle.av_plain.specs.Ledger.{Ledger, Setting}
use Rattle.av_plain.specs.Load.{with_loads}
use Rattle.av_plain.specs.Transcript.{State, rmap_of}
use Rattle.av_plain.specs.World.{World}
use Rattle.av_plain.proofs.Access.{notes_of-append, notes_of-note_events}
use Rattle.av_plain.proofs.Transcript.{next-plain}
use Rattle.av_mem.specs.declared.mem.Mem.{Mem}
use Rattle.av_mem.specs.Between.{HasBetween, KeepsBetween}
use Rattle.av_mem.specs.Mem.{IsSteady, Keeps, setting_by}
use Rattle.av_mem.proofs.KeepsLaws.{keeps-serves, serves-keeps, state_by}
use Rattle.av_step.specs.Step.{StepsBeside}
use Rattle.av_step.proofs.StepLaws.{left_alone, noted}
use Rattle.av_migrate.specs.Compact.{AddsMoves, HasCompacted}
use Rattle.av_migrate.specs.Compact as specs

pub stands-between : (d : Device) (k : Mem) (s : State) → Keeps d k s → KeepsBetween d k s.world (rmap_of s) s.ledger
stands-between d k s keeps = record { sound = keeps.stands.sound.ledger; serves = keeps-serves d k s keeps }

pub steady-between : (k : Mem) → IsSteady k → HasBetween k
steady-between k steady = let s = steady.1 in (steady.0, s.world, rmap_of s, s.ledger, stands-between steady.0 k s steady.2)

-- what was done with its steps was done
pub moves-added : {E : Type 0} (r : Result (Unit {0}) E) (old new : Mem) (before now : List Note) (taken taken' : ℕ)
    → OnOk r (specs.CompactsInSteps old new before now taken taken') → OnOk r (AddsMoves old new before now)
moves-added (Ok done) old new before now taken taken' h = h.adds
moves-added (Err e) old new before now taken taken' h = tt

none-behind : (notes : List Note) → notes ++ [] ≡ notes
none-behind [] = refl
none-behind (note ∷ notes) = ap (λ ns. note ∷ ns) (none-behind notes)

notes-told : (added : List Note) → added ≡ notes_of (note_events added ++ FreeSorted ∷ [])
notes-told added = sym (notes_of-append (note_events added) (FreeSorted ∷ []) ∙ none-behind (notes_of (note_events added)) ∙ notes_of-note_events added)

pub compact-steps : (d : Device) (old new : Mem) (s : State) (added : List Note) → Keeps d old s
    → HasCompacted d old new s.world (rmap_of s) s.ledger added → StepsBeside d old new s Compact (noted Done added)
compact-steps d old new s added keeps h =
    let events : List Event = note_events added ++ FreeSorted ∷ [] in
    let m : Setting = setting_by d old in
    let r : Rmap = rmap_after_all s.ledger events (rmap_of s) in
    let l : Ledger = after_all s.ledger events in
    let w : World = with_loads m s.world s.ledger events in
    let after : State = state_by new w r l in
    let kept : Keeps d new after = serves-keeps d new w r l h.done.between.sound h.done.between.serves in
    record {
      next = after;
      step = record {
        events = events;
        legal = record { answer = (added, h.moves, refl, refl, refl); notes = notes-told added };
        world = refl;
        ledger = refl;
        free = subst (λ (free : Free). ChoosesAll m None s.ledger events free after.free) keeps.stands.free h.done.free;
        rmap = next-plain r s.world Compact Done r refl (record { areas = refl; anons = left_alone new after kept; homes = refl; items = refl });
        shows = tt;
      };
      keeps = kept;
    }
