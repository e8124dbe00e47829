-- The reply of `maps`.
use Rattle.std.proofs.Common.{◌≡◌, ℕ, true, cond, not, List, [], length, Some, None, is_some, option_map, refl, sym, ap, subst, ◌∙◌}
use Rattle.std.specs.Prelude.{MatchOption, map}
use Rattle.av_vma.specs.declared.area.Area.{Area}
use Rattle.av_trace.specs.declared.command.Command.TheVariants.{Maps}
use Rattle.av_trace.specs.declared.reply.Answer.TheVariants.{Runs}
use Rattle.av_trace.specs.declared.reply.Errno.TheVariants.{Esrch}
use Rattle.av_trace.specs.declared.row.Row.{Row}
use Rattle.av_spaces.specs.Spaces.{areas_of}
use Rattle.av_plain.specs.Device.{Device}
use Rattle.av_plain.specs.Refusal.{tests, refusal, Refuses}
use Rattle.av_plain.specs.Step.{Follows}
use Rattle.av_plain.specs.Stands.{prot_of}
use Rattle.av_plain.specs.Transcript.{State}
use Rattle.av_mem.specs.declared.mem.Mem.{Mem}
use Rattle.av_plain.specs.Report.{range_of}
use Rattle.av_mem.specs.Mem.{setting_by, Keeps}
use Rattle.av_mem.proofs.MemLaws.{lives_is}
use Rattle.av_report.specs.Report.{AreRuns}
use Rattle.av_step.specs.Step.{StepsBeside}
use Rattle.av_step.proofs.StepLaws.{areas_kept}
use Rattle.av_step.proofs.Loads.{world_as}

module _ {d : Device} (k : Mem) (s : State) (p : ℕ) (areas : List Area) (rows : List Row) (keeps : Keeps d k s)
    (alive : is_some (areas_of k.spaces.processes p) ≡ true)
    (are : areas_of k.spaces.processes p ≡ Some areas) (runs : AreRuns (map range_of areas) rows) where
  allowed : refusal (tests (setting_by d k) s.world s.ledger (Maps p)) ≡ None
  allowed = ap (λ b. cond (not b) (Some Esrch) None) (sym (lives_is d k s keeps p) ∙ alive)

  pub maps-steps : StepsBeside d k k s (Maps p) (record { answer = Runs (length rows); notes = []; rows = rows })
  maps-steps = record {
    next = s;
    step = record {
      events = [];
      legal = record {
        answer = subst (λ o. MatchOption o (Follows (setting_by d k) s.world s.ledger (Maps p) [] (Runs (length rows)) rows)
            (λ e. Refuses e [] (Runs (length rows)) rows)) (sym allowed) (
              refl,
              (
                runs.runs,
                runs.of_runs,
                runs.longest,
                λ page. runs.cover page ∙ sym (ap (λ o. prot_of (option_map (map range_of) o) page) are) ∙ keeps.stands.parts.areas.covers p page,
              ),
              refl,
            );
        notes = refl;
      };
      world = world_as (setting_by d k) s.world s.ledger [] (Maps p) (Runs (length rows)) refl;
      ledger = refl;
      free = refl;
      rmap = areas_kept k s _ _ keeps refl;
      shows = tt;
    };
    keeps = keeps;
  }
