use Rattle.std.specs.Prelude.{◌≡◌, ℕ, List, [], ◌∷◌, Some, None, is_some, length, map, refl}
use Rattle.std.proofs.Common.{arith, ap, subst, sym, true, false, ◌∙◌}
use Rattle.std.proofs.lemmas.Bool.{false≢true}
use Rattle.av_trace.specs.declared.command.Command.TheVariants.{Spawn}
use Rattle.av_trace.specs.declared.reply.Answer.TheVariants.{Refused}
use Rattle.av_trace.specs.declared.reply.Errno.TheVariants.{Eexist}
use Rattle.av_vma.specs.Pages.{pages_in}
use Rattle.av_vma.specs.declared.area.Area.{Area}
use Rattle.av_plain.specs.Areas.{AreNext, Areas, Homes, Items, no_anons, rmap_after_all}
use Rattle.av_plain.specs.Choice.{ChoosesAll, Free}
use Rattle.av_plain.specs.Event.{after_all}
use Rattle.av_plain.specs.Ledger.{Ledger}
use Rattle.av_plain.specs.Report.{area_row}
use Rattle.av_plain.specs.Transcript.{State, rmap_of}
use Rattle.av_plain.proofs.NoDevice.{never}
use Rattle.av_laws.specs.Areas.{area}
use Rattle.av_laws.specs.Examples.{machine, read_write}
use Rattle.av_examples.specs.Steps.{IsAnswered, one_lives}
use Rattle.av_examples.proofs.steps.steps_leave_one_state.Goals as goal

-- it has no event
none : (new : State) (h : IsAnswered (Refused Eexist) new) → h.events ≡ []
none new h = h.legal.answer.1

-- so what reverse mapping goes by is as it was
as_before : (new : State) → IsAnswered (Refused Eexist) new
    → AreNext (rmap_of one_lives) one_lives.world (Spawn 1) (Refused Eexist) (rmap_of new)
as_before new h = subst (λ es. AreNext (rmap_after_all one_lives.ledger es (rmap_of one_lives)) one_lives.world (Spawn 1) (Refused Eexist) (rmap_of new))
    (none new h) h.rmap

pub returns-clause-refused : goal.returns-clause-refused
returns-clause-refused c = record {
  events = [];
  legal = record { answer = (refl, refl, refl); notes = refl };
  world = refl;
  ledger = refl;
  free = refl;
  rmap = record {
    areas = refl;
    anons = record { next = refl; there = λ v is. absurd (false≢true is); linked = λ v is. refl };
    homes = refl;
    items = refl;
  };
  shows = tt;
}

pub returns-clause-other_error : goal.returns-clause-other_error
returns-clause-other_error c h = cc (h.legal.answer.0)

pub returns-clause-second_process : goal.returns-clause-second_process
returns-clause-second_process c h = let e : ◌≡◌ {A = ℕ} 2 1 = ap length h.world in omega (arith, e)

pub returns-clause-frame_listed : goal.returns-clause-frame_listed
returns-clause-frame_listed c h =
    let e : ◌≡◌ {A = ℕ} 1 0 = ap (λ (l : Ledger). length l.inactive) (h.ledger ∙ ap (after_all one_lives.ledger) (none _ h)) in
    omega (arith, e)

pub returns-clause-frame_taken : goal.returns-clause-frame_taken
returns-clause-frame_taken c h =
    let e : ◌≡◌ {A = ℕ} 0 1 = ap (λ (free : Free). length free.frames)
    (subst (λ es. ChoosesAll (machine 1) None one_lives.ledger es one_lives.free _) (none _ h) h.free) in omega (arith, e)

pub returns-clause-area_there : goal.returns-clause-area_there
returns-clause-area_there c h = never (sym (ap (λ (on : Areas). is_some (on 1 0x10)) (as_before _ h).areas))

pub returns-clause-number_gone : goal.returns-clause-number_gone
returns-clause-number_gone c h = let e : ◌≡◌ {A = ℕ} 1 0 = (as_before _ h).anons.next in omega (arith, e)

pub returns-clause-home_there : goal.returns-clause-home_there
returns-clause-home_there c h = never (sym (ap (λ (homes : Homes). is_some (homes 0)) (as_before _ h).homes))

pub returns-clause-item_there : goal.returns-clause-item_there
returns-clause-item_there c h =
    let e : ◌≡◌ {A = ℕ} 1 0 = ap (λ (items : Items). length (items 0)) (as_before _ h).items in omega (arith, e)

-- no area has no row
pub returns-clause-area_not_shown : goal.returns-clause-area_not_shown
returns-clause-area_not_shown c h = by h.shows.0 (ap length h.shows.1) (h.shows.3 0x10)
  where
    by : (areas : List Area) → ◌≡◌ {A = ℕ} 0 (length (map (area_row no_anons) areas))
        → pages_in (Some areas) 0x10 ≡ Some (area 0x10 0x11 read_write) → ⊥
    by [] e found = false≢true (ap is_some found)
    by (one ∷ others) e found = omega (arith, e)
