-- What a replay of a load says of it.
use Rattle.std.proofs.Common.{◌≡◌, ◌≢◌, ◌⊎◌, ℕ, ◌+◌, ◌<◌, ◌≤◌, List, [], ◌++◌, Option, Some, None, length, false, true, refl, sym, ap, subst, ◌∙◌, arith, inl}
use Rattle.std.proofs.Common.{inr}
use Rattle.std.specs.Prelude.{IfSome, unwrap_or}
use Rattle.std.proofs.lemmas.Bool.{false≢true}
use Rattle.av_io.specs.Count.{one_more}
use Rattle.av_io.specs.Source.{HasEnded, SourceView, Took}
use Rattle.av_io.specs.Sink.{SinkView}
use Rattle.av_plain.specs.Device.{Device, setting_of}
use Rattle.av_plain.specs.Report.{totals}
use Rattle.av_plain.specs.Transcript.{State}
use Rattle.av_kernel.specs.Kernel.{Stands}
use Rattle.av_kernel.specs.Machine.{Machine}
use Rattle.av_replay.specs.declared.status.Status.{Status}
use Rattle.av_replay.specs.declared.status.Status.TheVariants as statuses
use Rattle.av_replay.specs.Over.{RunsOverAreas, ReplaysOver, WorksOver}
use Rattle.av_ports.specs.Line.{IsLine}
use Rattle.av_ports.specs.Ports.{IsAtEnd, PortsView}
use Rattle.av_replay.specs.Replay.{Ends, Headline, IsHandedBack, Run, all_lines, can_go_on, kernel_at}
use Rattle.av_replay.specs.Summary.{EndsText, EndsWork, HandsDeviceFirst, SumsUp, Works, summary_of, summary_text}
use Rattle.av_replay.specs.Turn.{HandsDevice, HandsDeviceNext}
use Rattle.av_replay.specs.Trace.{IsDoneOrMemory}
use Rattle.av_words.specs.Words.{most_load, most_names}
use Rattle.av_replay.specs.Work.{load_lines}
use Rattle.av_replay.proofs.Endings.{hands_if, only_told}
use Rattle.av_replay.proofs.LoadFront.{Front, front}
use Rattle.av_replay.proofs.LoadLines.{is-trace, load-count, load-lines}
use Rattle.av_replay.proofs.Traces.{IsFirst, complete}
use Rattle.av_base.specs.declared.slot.Slot.{Slot}

-- some lines of a load were done, all of them unless memory was wanting, and the kernel stands for what they leave
pub record Loaded (n : ℕ) (lines : List (List ℕ)) (status : Status) (device device' : Device) (kernel : Option Machine) : Type 0 where
  pub run : Run
  pub others : List (List ℕ)
  pub works : Works n lines device device' run others
  pub told : (works.untold ≡ []) ⊎ ((status ≡ statuses.Memory) × HandsDeviceFirst others)
  pub ends : IsDoneOrMemory status
  pub all : status ≡ statuses.Done → others ≡ []
  pub handed_back : IfSome kernel (λ k. IsHandedBack k device' n run)

ended-last : (last : Option (List ℕ)) (rest : List ℕ) (source : SourceView) →
    IfSome last (λ line. IsLine line × (0 < length line) × (rest ≡ []) × IsAtEnd source) →
    IfSome last (λ line. IsLine line × (0 < length line) × (rest ≡ []) × HasEnded source.left)
ended-last None rest source is = tt
ended-last (Some line) rest source is = (is.0, is.1, is.2, is.3.ended)

-- a count that stands at nothing did not rise
unrisen : (a b : ℕ) → a ≡ 0 → b ≡ 0 → b ≡ one_more a → ⊥
unrisen a b none still rose = omega (arith, none, still, rose)

hands_first : (line : List ℕ) (lines : List (List ℕ)) → IsFirst line lines → HandsDevice line → HandsDeviceFirst lines
hands_first line lines first hands = subst HandsDeviceFirst (sym first.are) hands

-- the line that stands next is the first that wasn't done
told_so : {load done : List (List ℕ)} {ps : List Slot} (status : Status) (rest : List ℕ) (source : SourceView) (left' : Option (List ℕ))
    (f : Front load done rest left') → source.left ≡ left' → (ps ≡ []) ⊎ ((status ≡ statuses.Memory) × HandsDeviceNext rest source)
    → (ps ≡ []) ⊎ ((status ≡ statuses.Memory) × HandsDeviceFirst f.others)
told_so status rest source left' f left (inl told) = inl told
told_so status rest source left' f left (inr (memory, (line, is, hands, stands))) =
    inr (memory, hands_first line f.others (f.next line source left is stands) hands)

pub loaded : (n areas seed lines : ℕ) (status : Status) (old new : PortsView) (kernel : Option Machine) → areas ≤ most_names → lines ≤ most_load →
    old.source.left ≡ Some (all_lines (load_lines areas seed lines)) → old.source.failures ≡ 0 → new.source.failures ≡ 0 → old.sink.failures ≡ 0 →
    new.sink.failures ≡ 0 → Headline n status old new kernel → Loaded n (load_lines areas seed lines) status old.device new.device kernel
loaded n areas seed lines status old new kernel few short left source source' sink sink' h =
    let ls = load_lines areas seed lines in
    let r = h.replays in
    let took = subst (λ (l : Option (List ℕ)). Took l new.source.left (all_lines h.run.lines ++ (unwrap_or h.run.last [] ++ h.rest))) left r.read in
    let f = front ls h.run.lines h.run.last h.rest new.source.left (load-lines areas seed lines few) r.lines took
    (ended-last h.run.last h.rest new.source r.last) in
    record {
      run = h.run;
      others = f.others;
      works = record {
        done = f.are;
        commands = r.commands;
        legal = r.legal;
        failures = r.failures;
        untold = r.untold;
        asked = r.asked;
        device = r.device;
      };
      told = told_so status h.rest new.source new.source.left f refl h.told;
      ends = complete n status old new kernel h (all_lines ls) left (is-trace areas seed lines few short)
          (λ rose. unrisen old.source.failures new.source.failures source source' rose)
          (λ failed. unrisen old.sink.failures new.sink.failures sink sink' failed.failures);
      all = λ done.
          let ends = subst (λ (s : Status). Ends s old new h.run h.rest h.written) done h.ends in
          f.all ends.0.0 ends.0.1.ended;
      handed_back = h.handed_back;
    }

done-is-no-memory : (status : Status) → status ≡ statuses.Done → status ≡ statuses.Memory → ⊥
done-is-no-memory status done memory =
    let e : statuses.Done ≡ statuses.Memory = sym done ∙ memory in absurd cc

-- the same over the areas that the words name
pub loaded-over : (n seed lines : ℕ) (names : List (List ℕ)) (status : Status) (old new : PortsView) (kernel : Option Machine) → length names ≤ most_names
    → lines ≤ most_load →
    old.source.left ≡ Some (all_lines (load_lines (length names) seed lines)) → old.source.failures ≡ 0 → new.source.failures ≡ 0 → old.sink.failures ≡ 0 →
    new.sink.failures ≡ 0 → ReplaysOver n names status old new kernel →
    RunsOverAreas names status old.device (λ attached. Loaded n (load_lines (length names) seed lines) status attached new.device kernel)
    (λ attached. (new.device ≡ attached) × (kernel ≡ None))
loaded-over n seed lines names status old new kernel few short left source source' sink sink' over = record {
  pages = over.pages;
  few = over.few;
  attached = over.attached;
  attaches = over.attaches;
  failed = over.failed;
  tries = over.tries;
  all = elim over.all [
    | inl all ↦ inl all
    | inr memory ↦ inr (memory.0, (ap (λ (p : PortsView). p.device) memory.1.0, memory.1.1))
  ];
  does = loaded n (length names) seed lines status (record old { device = over.attached }) new kernel few short left source source' sink sink'
      over.does.headline;
}

-- where there is a kernel to go on with every line was done
pub goes-on-done : (status : Status) → true ≡ can_go_on status → IsDoneOrMemory status → status ≡ statuses.Done
goes-on-done status goes (inl done) = done
goes-on-done status goes (inr memory) = absurd (false≢true (sym (goes ∙ ap can_go_on memory)))

-- and every area was attached
pub goes-on-attached : (status : Status) → true ≡ can_go_on status → status ≢ statuses.AttachFault
goes-on-attached status goes fault = absurd (false≢true (sym (goes ∙ ap can_go_on fault)))

-- without one not every line was
pub stopped : (status : Status) → false ≡ can_go_on status → status ≢ statuses.Done
stopped status stops done = absurd (false≢true (stops ∙ ap can_go_on done))

-- memory was wanting before every line was done, and nothing is written
pub wanting : (n seed lines : ℕ) (names : List (List ℕ)) (status : Status) (sink : SinkView) (device device' : Device) (kernel : Option Machine)
    → status ≢ statuses.Done →
    RunsOverAreas names status device (λ attached. Loaded n (load_lines (length names) seed lines) status attached device' kernel)
    (λ attached. (device' ≡ attached) × (kernel ≡ None)) →
    WorksOver seed lines n names status sink sink device device' kernel
wanting n seed lines names status sink device device' kernel not over = record {
  pages = over.pages;
  few = over.few;
  attached = over.attached;
  attaches = over.attaches;
  failed = over.failed;
  tries = over.tries;
  all = elim over.all [ inl all ↦ inl all | inr memory ↦ inr (memory.0, (refl, memory.1.0, memory.1.1)) ];
  does = record {
    run = over.does.run;
    others = over.does.others;
    works = over.does.works;
    told = over.does.told;
    ends = elim over.does.ends [ inl done ↦ absurd (not done) | inr memory ↦ inl (memory, refl) ];
    handed_back = over.does.handed_back;
  };
}

-- every line was done, and this summary of them written
ends-work : (last : Status) (old new : SinkView) (others : List (List ℕ)) (text : List ℕ) → others ≡ [] → SumsUp last old new text →
    EndsWork last old new others text
ends-work last old new others text none (inl memory) = inl memory
ends-work last old new others text none (inr ends) = inr (none, ends)

-- a summary ends in no failure to attach
pub never-attaches : (status : Status) (old new : SinkView) (text : List ℕ) → SumsUp status old new text → status ≢ statuses.AttachFault
never-attaches status old new text (inl memory) fault =
    let e : statuses.Memory ≡ statuses.AttachFault = sym memory.0 ∙ fault in absurd cc
never-attaches status old new text (inr ends) fault = absurd (subst (λ (s : Status). EndsText s old new text) fault ends)

-- nor in a usage error
pub never-misused : (status : Status) (old new : SinkView) (text : List ℕ) → SumsUp status old new text → status ≢ statuses.Usage
never-misused status old new text (inl memory) usage =
    let e : statuses.Memory ≡ statuses.Usage = sym memory.0 ∙ usage in absurd cc
never-misused status old new text (inr ends) usage = absurd (subst (λ (s : Status). EndsText s old new text) usage ends)

-- every line was done, and then this summary was written
pub summed : (n seed lines total : ℕ) (names : List (List ℕ)) (status last : Status) (old new : SinkView) (device device' device'' : Device) (kernel : Machine) →
    status ≡ statuses.Done → total ≡ length names + 2 + lines → device'' ≡ device' →
    RunsOverAreas names status device (λ attached. Loaded n (load_lines (length names) seed lines) status attached device' (Some kernel))
    (λ attached. (device' ≡ attached) × (Some kernel ≡ None)) →
    ((s : State) → Stands kernel device' s →
    SumsUp last old new (summary_text total kernel.tally (totals (setting_of kernel.frames device') s.world s.ledger))) →
    WorksOver seed lines n names last old new device device'' (kernel_at last kernel)
summed n seed lines total names status last old new device device' device'' kernel done many same over sums =
    let ls = load_lines (length names) seed lines in
    let run = over.does.run in
    let left = over.does.handed_back in
    let all : total ≡ length ls = many ∙ sym (load-count (length names) seed lines) in
    let is : summary_text total kernel.tally (totals (setting_of kernel.frames device') run.state.world run.state.ledger) ≡ summary_of n
    device' ls run =
    λ i. summary_text (all i) (left.tally i) (totals (setting_of (left.frames i) device') run.state.world run.state.ledger) in
    subst (λ (d : Device). WorksOver seed lines n names last old new device d (kernel_at last kernel)) (sym same) (record {
      pages = over.pages;
      few = over.few;
      attached = over.attached;
      attaches = over.attaches;
      failed = over.failed;
      tries = over.tries;
      all = elim over.all [ inl all ↦ inl all | inr stays ↦ absurd (done-is-no-memory status done stays.0) ];
      does = record {
        run = run;
        others = over.does.others;
        works = over.does.works;
        told = inl (only_told over.does.told (done-is-no-memory status done));
        ends = ends-work last old new over.does.others _ (over.does.all done)
            (subst (λ (text : List ℕ). SumsUp last old new text) is (sums run.state left.stands));
        handed_back = hands_if (can_go_on last) (λ k. IsHandedBack k device' n run) kernel left;
      };
    })
