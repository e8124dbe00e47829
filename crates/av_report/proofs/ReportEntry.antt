-- The reply of `entry`.
use Rattle.std.proofs.Common.{◌≡◌, ℕ, ◌<◌, Bool, true, false, cond, not, [], Option, Some, None, is_some, refl, sym, ap, subst, ◌∙◌, arith}
use Rattle.std.specs.Prelude.{MatchOption}
use Rattle.av_base.specs.Page.{page_of}
use Rattle.av_trace.specs.declared.command.Command.TheVariants.{Entry as AsksEntry}
use Rattle.av_trace.specs.declared.reply.Answer.{Answer}
use Rattle.av_trace.specs.declared.reply.Answer.TheVariants.{EntryFrame}
use Rattle.av_trace.specs.declared.reply.Errno.{Errno}
use Rattle.av_trace.specs.declared.reply.Errno.TheVariants.{Efault, Esrch}
use Rattle.av_trace.specs.Reply.{answer_only}
use Rattle.av_spaces.specs.Spaces.{areas_of, pages_of}
use Rattle.av_plain.specs.Device.{Device}
use Rattle.av_pagetable.specs.Entries.{entry_at}
use Rattle.av_pagetable.specs.declared.pte.Pte.TheVariants.{Here}
use Rattle.av_plain.specs.Ledger.{InFrame, entry, is_merged, names_frame}
use Rattle.av_plain.specs.Stands.{entry_of}
use Rattle.av_plain.specs.Refusal.{Refuses, refusal, tests}
use Rattle.av_plain.specs.Report.{entry_answer}
use Rattle.av_plain.specs.Step.{Follows}
use Rattle.av_plain.specs.Transcript.{State, rmap_of}
use Rattle.av_plain.specs.World.{is_mapped, lives, pages}
use Rattle.av_mem.specs.declared.mem.Mem.{Mem}
use Rattle.av_plain.proofs.Ledger.{how_many-found}
use Rattle.av_plain.proofs.Sound.Counts.{same-itself}
use Rattle.av_mem.specs.Mem.{IsSteady, Keeps, frame_count, plain, setting_by, view}
use Rattle.av_mem.proofs.MergedLaws.{merged-is}
use Rattle.av_mem.proofs.ReachLaws.{reaches-kept}
use Rattle.av_rmap.specs.Items.{is_merged as has_items}
use Rattle.av_mem.proofs.MemLaws.{lives_is, mapped_is, taken_has}
use Rattle.av_step.specs.Step.{StepsBeside}
use Rattle.av_step.proofs.StepLaws.{rmap_kept}
use Rattle.av_step.proofs.Loads.{world_as}

-- ---- which frames there are

-- a frame that an entry names is one of the machine's
pub frame_below : (k : Mem) (p page f : ℕ) (write seen : Bool) → IsSteady k → entry_at k.tables p page ≡ Here f write seen → f < frame_count k
frame_below k p page f write seen steady is =
    let l = steady.1.ledger in
    let named : entry l (p, page) ≡ Some (InFrame f seen) = sym (steady.2.stands.parts.ledger.tables.entries p page)
    ∙ ap (λ t. entry_of (plain t)) is in
    let some = how_many-found (names_frame f) (p, page) l.entries (InFrame f seen) named (same-itself f) in
    steady.2.stands.sound.ledger.in_range f (omega (arith, some))

-- a frame has items exactly where it is merged
pub merged_is : {d : Device} (k : Mem) (s : State) → Keeps d k s → (f : ℕ) → has_items ((view k).items f) ≡ is_merged s.ledger f
merged_is {d} k s keeps f = merged-is k (rmap_of s) s.ledger (reaches-kept d k s keeps) keeps.stands.sound.ledger.in_order f
    (keeps.stands.sound.ledger.merged f)

-- what the tables, the frames and the items say of an entry that names a frame
pub entry_in_frame : {d : Device} (k : Mem) (s : State) → Keeps d k s → (p page f : ℕ) (write seen : Bool)
    → entry_at k.tables p page ≡ Here f write seen → EntryFrame f seen ((view k).slot f) (has_items ((view k).items f)) ≡ entry_answer s.ledger (entry s.ledger (p, page))
entry_in_frame k s keeps p page f write seen at =
    (λ i. EntryFrame f seen (keeps.stands.parts.ledger.frames.slots f i) (merged_is k s keeps f i))
    ∙ ap (entry_answer s.ledger) (sym (ap (λ t. entry_of (plain t)) at) ∙ keeps.stands.parts.ledger.tables.entries p page)

-- ---- which pages are mapped
-- a page is of an area exactly where it is mapped

pub area_there : {d : Device} (k : Mem) (s : State) → Keeps d k s → (p page : ℕ)
    → is_some (pages_of k.spaces.processes p page) ≡ is_mapped (pages s.world p) page
area_there {d} k s keeps p page = taken_has k.spaces.processes p page ∙ ap is_some (keeps.stands.parts.areas.covers p page)
    ∙ mapped_is (pages s.world p page)

-- the two tests of a page
abbrev pub by_tests : Bool → Bool → Option Errno
by_tests alive mapped = cond (not alive) (Some Esrch) (cond (not mapped) (Some Efault) None)

module _ {d : Device} (k : Mem) (s : State) (p a : ℕ) (keeps : Keeps d k s) (alive : is_some (areas_of k.spaces.processes p) ≡ true) where
  pub tests_are : (b : Bool) → is_some (pages_of k.spaces.processes p (page_of a)) ≡ b →
      by_tests (lives s.world p) (is_mapped (pages s.world p) (page_of a)) ≡ by_tests true b
  tests_are b is = (λ i. by_tests ((sym (lives_is d k s keeps p) ∙ alive) i) ((sym (area_there k s keeps p (page_of a)) ∙ is) i))

  -- one that isn't is refused
  pub unmapped_next : is_some (pages_of k.spaces.processes p (page_of a)) ≡ false →
      refusal (tests (setting_by d k) s.world s.ledger (AsksEntry p a)) ≡ Some Efault
  unmapped_next none = tests_are false none

  pub entry-steps : is_some (pages_of k.spaces.processes p (page_of a)) ≡ true → (answer : Answer) →
      answer ≡ entry_answer s.ledger (entry s.ledger (p, page_of a))
      → StepsBeside d k k s (AsksEntry p a) (answer_only answer)
  entry-steps mapped answer is = record {
    next = s;
    step = record {
      events = [];
      legal = record {
        answer = subst (λ o. MatchOption o (Follows (setting_by d k) s.world s.ledger (AsksEntry p a) [] answer []) (λ e. Refuses e [] answer []))
            (sym (tests_are true mapped)) (is, refl, refl);
        notes = refl;
      };
      world = world_as (setting_by d k) s.world s.ledger [] (AsksEntry p a) answer refl;
      ledger = refl;
      free = refl;
      rmap = rmap_kept k s (AsksEntry p a) answer refl keeps refl;
      shows = tt;
    };
    keeps = keeps;
  }
