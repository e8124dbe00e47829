-- The reply of `rmap`.
use Rattle.std.proofs.Common.{◌≡◌, ◌⊎◌, inl, inr, ℕ, true, [], Option, is_some, refl, sym, ap, subst, ◌∙◌}
use Rattle.std.specs.Prelude.{MatchOption}
use Rattle.av_base.specs.Page.{page_of}
use Rattle.av_base.specs.declared.slot.Slot.{Slot}
use Rattle.av_pagetable.specs.Entries.{entry_at}
use Rattle.av_pagetable.specs.declared.pte.Pte.{Pte}
use Rattle.av_pagetable.specs.declared.pte.Pte.TheVariants.{Away, Empty, Zero}
use Rattle.av_trace.specs.declared.command.Command.TheVariants.{Rmap as AsksRmap}
use Rattle.av_trace.specs.declared.reply.Answer.TheVariants.{NoWalk}
use Rattle.av_trace.specs.declared.reply.Reply.{Reply}
use Rattle.av_trace.specs.Reply.{answer_only}
use Rattle.av_spaces.specs.Spaces.{areas_of, pages_of}
use Rattle.av_plain.specs.Device.{Device}
use Rattle.av_plain.specs.Ledger.{Entry, Ledger, entry}
use Rattle.av_plain.specs.Refusal.{Refuses}
use Rattle.av_plain.specs.Report.{walk_answer, walk_rows}
use Rattle.av_plain.specs.Stands.{entry_of}
use Rattle.av_plain.specs.Step.{Follows}
use Rattle.av_plain.specs.Transcript.{State}
use Rattle.av_mem.specs.declared.mem.Mem.{Mem}
use Rattle.av_mem.specs.Mem.{Keeps, plain, setting_by}
use Rattle.av_step.specs.Step.{StepsBeside}
use Rattle.av_report.proofs.ReportEntry.{tests_are}
use Rattle.av_step.proofs.StepLaws.{rmap_kept}
use Rattle.av_step.proofs.Loads.{world_as}

-- what is shown of an entry

abbrev pub shown : Ledger → Option Entry → Reply
shown l e = record { answer = walk_answer l e; notes = []; rows = walk_rows l e }

module _ {d : Device} (k : Mem) (s : State) (p a : ℕ) (keeps : Keeps d k s) (alive : is_some (areas_of k.spaces.processes p) ≡ true)
    (mapped : is_some (pages_of k.spaces.processes p (page_of a)) ≡ true) where
  shown-steps : StepsBeside d k k s (AsksRmap p a) (shown s.ledger (entry s.ledger (p, page_of a)))
  shown-steps =
      let reply = shown s.ledger (entry s.ledger (p, page_of a)) in record {
        next = s;
        step = record {
          events = [];
          legal = record {
            answer = subst (λ o. MatchOption o (Follows (setting_by d k) s.world s.ledger (AsksRmap p a) [] reply.answer reply.rows)
                (λ e. Refuses e [] reply.answer reply.rows)) (sym (tests_are k s p a keeps alive true mapped)) (refl, refl, refl);
            notes = refl;
          };
          world = world_as (setting_by d k) s.world s.ledger [] (AsksRmap p a) reply.answer refl;
          ledger = refl;
          free = refl;
          rmap = rmap_kept k s (AsksRmap p a) reply.answer refl keeps refl;
          shows = tt;
        };
        keeps = keeps;
      }

  -- by what the table has
  pub walk-steps : (t : Pte) (reply : Reply) → entry_at k.tables p (page_of a) ≡ t → reply ≡ shown s.ledger (entry_of (plain t)) →
      StepsBeside d k k s (AsksRmap p a) reply
  walk-steps t reply at is =
      subst (StepsBeside d k k s (AsksRmap p a)) (sym (is ∙ ap (λ t. shown s.ledger (entry_of (plain t))) (sym at)
      ∙ ap (shown s.ledger) (keeps.stands.parts.ledger.tables.entries p (page_of a)))) shown-steps

-- where the table has no frame there is no walk
pub none-shown : (l : Ledger) (t : Pte) → (t ≡ Empty) ⊎ ((t ≡ Zero) ⊎ ((slot : Slot) × (t ≡ Away slot)))
    → answer_only NoWalk ≡ shown l (entry_of (plain t))
none-shown l t (inl e) = ap (λ t. shown l (entry_of (plain t))) (sym e)
none-shown l t (inr (inl e)) = ap (λ t. shown l (entry_of (plain t))) (sym e)
none-shown l t (inr (inr e)) = ap (λ t. shown l (entry_of (plain t))) (sym e.1)
