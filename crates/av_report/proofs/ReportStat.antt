-- The numbers of `stat`.
use Rattle.std.proofs.Common.{◌≡◌, ℕ, ◌<◌, ◌≤◌, ◌==◌, true, [], length, refl, sym, subst, ◌∙◌}
use Rattle.av_base.specs.Words.{how_many, is_in}
use Rattle.av_trace.specs.declared.command.Command.TheVariants.{Stat}
use Rattle.av_trace.specs.declared.reply.Answer.TheVariants.{Counted, Done}
use Rattle.av_trace.specs.declared.reply.Totals.{Totals}
use Rattle.av_trace.specs.Reply.{answer_only}
use Rattle.av_swapcache.specs.Swap.{all_free, all_slots, shown as shown_swap}
use Rattle.av_plain.specs.Choice.{Free, ListsAll}
use Rattle.av_plain.specs.Device.{Device}
use Rattle.av_plain.specs.Transcript.{State}
use Rattle.av_plain.specs.Report.{totals}
use Rattle.av_plain.proofs.Report.Totals.{free-length, free-once}
use Rattle.av_mem.specs.declared.mem.Mem.{Mem}
use Rattle.av_mem.specs.Mem.{setting_by, view, frame_count, Keeps}
use Rattle.av_mem.proofs.SwapSums.{all-free, all-slots}
use Rattle.av_step.specs.Step.{StepsBeside}
use Rattle.av_step.proofs.StepLaws.{areas_kept}
use Rattle.av_step.proofs.Loads.{world_as}

-- what the kernel counts
abbrev pub counts : Mem → ℕ → Totals
counts k processes = record {
  frames = frame_count k;
  free = length (view k).free;
  active = length (view k).active;
  inactive = length (view k).inactive;
  flight = length (view k).flight;
  slots = all_slots (shown_swap k.swap);
  free_slots = all_free (shown_swap k.swap);
  processes = processes;
}

-- it is what the ledger has
pub counts-are : {d : Device} (k : Mem) (s : State) (processes : ℕ) → Keeps d k s → ((f : ℕ) → how_many (λ g. f == g) (view k).free ≤ 1) →
    ((f : ℕ) → is_in f (view k).free ≡ true → f < frame_count k) → processes ≡ length k.spaces.processes
    → counts k processes ≡ totals (setting_by d k) s.world s.ledger
counts-are {d} k s processes keeps once below number =
    let st = keeps.stands in
    let swap = st.parts.ledger.swap in
    let m = setting_by d k in
    λ i. record {
      frames = frame_count k;
      free = free-length m s.ledger (view k).free (free-once m s.ledger (view k).free once below st.parts.ledger.frames.free) i;
      active = length (st.parts.ledger.lists.active i);
      inactive = length (st.parts.ledger.lists.inactive i);
      flight = length (swap.flight i);
      slots = all-slots k s.ledger swap i;
      free_slots = all-free m k s.ledger swap st.sound.areas_fit (subst (λ (free : Free). ListsAll m s.ledger free) (sym st.free) st.lists) i;
      processes = (number ∙ st.parts.areas.number) i;
    }

pub stat-steps : {d : Device} (k : Mem) (s : State) → Keeps d k s
    → StepsBeside d k k s Stat (answer_only (Counted (totals (setting_by d k) s.world s.ledger)))
stat-steps {d} k s keeps = record {
  next = s;
  step = record {
    events = [];
    legal = record { answer = (refl, refl, refl); notes = refl };
    world = world_as (setting_by d k) s.world s.ledger [] Stat Done refl;
    ledger = refl;
    free = refl;
    rmap = areas_kept k s Stat _ keeps refl;
    shows = tt;
  };
  keeps = keeps;
}
