-- What refuses an mremap.
use Rattle.std.proofs.Common.{◌≡◌, ℕ, true, false, cond, not, [], Some, None, Err, is_some, refl, sym, ap, subst, ◌∙◌}
use Rattle.std.specs.Prelude.{MatchOption}
use Rattle.av_base.specs.Page.{page_of, pages_of}
use Rattle.av_trace.specs.Reply.{answer_only}
use Rattle.av_trace.specs.declared.command.Command.{Command}
use Rattle.av_trace.specs.declared.command.Command.TheVariants.{Mremap}
use Rattle.av_trace.specs.declared.mode.Mode.{Mode}
use Rattle.av_trace.specs.declared.reply.Answer.TheVariants.{Refused}
use Rattle.av_trace.specs.declared.reply.Errno.{Errno}
use Rattle.av_trace.specs.declared.reply.Errno.TheVariants.{Enomem, Esrch}
use Rattle.av_spaces.specs.Spaces.{areas_of, pages_of as areas_on}
use Rattle.av_plain.specs.Device.{Device}
use Rattle.av_plain.specs.Mremap.{MovesTo}
use Rattle.av_plain.specs.Refusal.{Refuses, mremap_tests, refusal, tests}
use Rattle.av_plain.specs.Step.{Follows}
use Rattle.av_plain.specs.Transcript.{State}
use Rattle.av_plain.specs.World.{Process, pages}
use Rattle.av_mem.specs.declared.mem.Mem.{Mem}
use Rattle.av_mem.specs.Mem.{Keeps, setting_by}
use Rattle.av_mem.proofs.MemLaws.{lives_is, prots_are}
use Rattle.av_step.specs.declared.refusal.Refusal.TheVariants as refusals
use Rattle.av_place.specs.Mremap.{HaveProtsOf, IsTarget}
use Rattle.av_step.specs.Step.{DoesBeside, StepsBeside}
use Rattle.av_step.proofs.StepLaws.{areas_kept, dead_first, refuses}
use Rattle.av_step.proofs.Loads.{world_as}

-- the pages of a process have the protections of its areas

pub have_prots_of : {d : Device} (old : Mem) (s : State) → Keeps d old s → (p : ℕ) → HaveProtsOf (areas_on old.spaces.processes p) (pages s.world p)
have_prots_of {d} old s keeps p page = sym (prots_are old.spaces.processes p page) ∙ keeps.stands.parts.areas.covers p page

module _ (old : Mem) (p a olen nlen : ℕ) (mode : Mode) where
  abbrev command : Command
  command = Mremap p a olen nlen mode

  -- what is refused where no process lives
  pub dead_does : is_some (areas_of old.spaces.processes p) ≡ false → DoesBeside old old command (Err (refusals.Refused Esrch))
  dead_does dead = refuses old command Esrch (λ d s keeps. dead_first old s p (refusal (mremap_tests (pages s.world p) a olen nlen mode)) keeps dead)

  module _ (alive : is_some (areas_of old.spaces.processes p) ≡ true) where
    -- the process lives, so the other tests decide
    pub tests_are : {d : Device} (s : State) → Keeps d old s
        → refusal (tests (setting_by d old) s.world s.ledger command) ≡ refusal (mremap_tests (pages s.world p) a olen nlen mode)
    tests_are {d} s keeps = ap (λ b. cond (not b) (Some Esrch) (refusal (mremap_tests (pages s.world p) a olen nlen mode)))
        (sym (lives_is d old s keeps p) ∙ alive)

    -- one of them refuses it
    pub refused_does : (error : Errno)
        → ((q : Process) → HaveProtsOf (areas_on old.spaces.processes p) q → refusal (mremap_tests q a olen nlen mode) ≡ Some error)
        → DoesBeside old old command (Err (refusals.Refused error))
    refused_does error is = refuses old command error (λ d s keeps. tests_are s keeps ∙ is (pages s.world p) (have_prots_of old s keeps p))

    -- none does, but there is no room
    no_room : {d : Device} (s : State) → Keeps d old s → refusal (mremap_tests (pages s.world p) a olen nlen mode) ≡ None
        → MovesTo (pages s.world p) (page_of a) (pages_of olen) (pages_of nlen) mode None
        → StepsBeside d old old s command (answer_only (Refused Enomem))
    no_room {d} s keeps passed goes = record {
      next = s;
      step = record {
        events = [];
        legal = record {
          answer = subst (λ o. MatchOption o (Follows (setting_by d old) s.world s.ledger command [] (Refused Enomem) [])
              (λ e. Refuses e [] (Refused Enomem) [])) (sym (tests_are s keeps ∙ passed)) (None, goes, refl, refl, refl);
          notes = refl;
        };
        world = world_as (setting_by d old) s.world s.ledger [] command (Refused Enomem) refl;
        ledger = refl;
        free = refl;
        rmap = areas_kept old s command (Refused Enomem) keeps refl;
        shows = tt;
      };
      keeps = keeps;
    }

    pub no_room_does : (error : Errno)
        → ((q : Process) → HaveProtsOf (areas_on old.spaces.processes p) q → refusal (mremap_tests q a olen nlen mode) ≡ None)
        → ((q : Process) → HaveProtsOf (areas_on old.spaces.processes p) q → IsTarget q (page_of a) (pages_of olen) (pages_of nlen) mode (Err error))
        → DoesBeside old old command (Err (refusals.Refused error))
    no_room_does error passed none = record {
      step = λ d s keeps.
          let same = have_prots_of old s keeps p in
          let room = none (pages s.world p) same in
          subst (λ e. StepsBeside d old old s command (answer_only (Refused e))) (sym room.1)
          (no_room s keeps (passed (pages s.world p) same) room.0);
      count = refl;
    }
