-- How a turn ends a run.
use Rattle.std.proofs.Common.{◌≡◌, ◌≢◌, ℕ, ◌+◌, ◌<◌, ◌≤◌, List, [], ◌∷◌, ◌++◌, ◌⊎◌, length, take, Option, Some, None, Bool, true, false, refl, sym, ap, subst}
use Rattle.std.proofs.Common.{◌∙◌, append_assoc, append-nil, length-append, arith, inl, inr}
use Rattle.std.specs.Prelude.{IfSome, if◌then◌else◌}
use Rattle.std.specs.Option.{option_to_list}
use Rattle.std.proofs.lemmas.List.Elements.{All-nil}
use Rattle.av_trace.specs.Print.{text_of}
use Rattle.av_plain.specs.Transcript.{Exchange, State, at_first, causes_of, text_of_run}
use Rattle.av_kernel.specs.Machine.{Machine}
use Rattle.av_plain.specs.Device.{Device, IsSameDevice, setting_of, Wrote, first_pages}
use Rattle.av_io.specs.Source.{Took}
use Rattle.av_io.specs.Sink.{SinkView, Gained, HandsOn, HasFailed, KeepsBack}
use Rattle.av_replay.specs.declared.status.Status.{Status}
use Rattle.av_replay.specs.declared.status.Status.TheVariants as statuses
use Rattle.av_ports.specs.declared.run_err.RunErr.{RunErr}
use Rattle.av_ports.specs.declared.run_err.RunErr.TheVariants as errors
use Rattle.av_ports.specs.Ports.{PortsView, OnlySink, undone, AreFlushed, AreUnfailed, ReadsOn, IsAtEnd, IsReadFault}
use Rattle.av_ports.specs.Line.{IsLine}
use Rattle.av_replay.specs.Turn.{Begins, Commands, HandsDeviceNext, IsEnding, TakesLine, Waits, CutsShort, IsUnflushed, Halts, DoesNext, FindsEnd, Finishes}
use Rattle.av_replay.specs.Turn.{pages_of_run}
use Rattle.av_replay.specs.Replay.{most_lines, all_lines, Transcribes, Run, done_lines, Replays, IsHandedBack, StopsAt, MayGoOn, IsCutOff, Ends, status_at}
use Rattle.av_replay.specs.Replay.{Headline, can_go_on, kernel_at, FailsOnlyAt, FailsUntold, IsFlushed, DoesTrace, FlushesLast}
use Rattle.av_ports.proofs.Bytes.{Took-none, Took-ahead, Gained-none}
use Rattle.av_ports.proofs.Times.{failed_since, read_fault_since, flushed_none, only_sink}
use Rattle.av_replay.proofs.Calls.{handed_on}
use Rattle.av_replay.proofs.Runs.{rose_none, rose_on, Past, whole, SoFar, longer, next_answers, read_more, wrote_more, device_more, failures_more, legal_more}
use Rattle.av_replay.proofs.Runs.{kernel_more, text_more, all_push, Transcribes-push, joined-push, asked_more}
use Rattle.av_plain.proofs.Wrote.{device-itself, device-on, wrote-none, wrote-same, wrote-then}
use Rattle.av_base.specs.declared.slot.Slot.{Slot}
use Rattle.av_swapdev.specs.Device.{History}

-- where memory wasn't wanting all was told
pub only_told : {status : Status} {P : Type 0} {ps : List Slot} → (ps ≡ []) ⊎ ((status ≡ statuses.Memory) × P) → status ≢ statuses.Memory
    → ps ≡ []
only_told (inl told) not = told
only_told (inr wanting) not = absurd (not wanting.0)

-- ---- what the end of a turn leaves

-- a run, the bytes that were written, and the kernel
pub record Leaves (n : ℕ) (rest : List ℕ) (old new : PortsView) (kernel : Machine) (run : Run) (written : List ℕ) : Type 0 where
  pub replays : Replays n old new run rest written
  pub told : replays.untold ≡ []
  pub left : IsHandedBack kernel new.device n run

pub hands_if : (b : Bool) (P : Machine → Type 0) (kernel : Machine) → P kernel → IfSome (if b then Some kernel else None) P
hands_if true P kernel left = left
hands_if false P kernel left = tt

pub headline : (n : ℕ) (status : Status) (rest : List ℕ) (old new : PortsView) (kernel : Machine) (run : Run) (written : List ℕ) →
    Leaves n rest old new kernel run written → Ends status old new run rest written → Headline n status old new (kernel_at status kernel)
headline n status rest old new kernel run written leaves ends = record {
  run = run;
  rest = rest;
  written = written;
  replays = leaves.replays;
  ends = ends;
  told = inl leaves.told;
  handed_back = hands_if (can_go_on status) (λ k. IsHandedBack k new.device n run) kernel leaves.left;
}

few_whole : (lines : List (List ℕ)) → length lines ≤ most_lines → length (lines ++ []) ≤ most_lines
few_whole lines few = omega (arith, few, ap length (append-nil lines))

-- a device that is as it was
still : (a b : Device) → b ≡ a → IsSameDevice a b
still a b is = record {
  sizes = ap (λ (d : Device). d.sizes) is;
  first = ap first_pages is;
  failures = omega (arith, ap (λ (d : Device). d.failures) is);
  history = record { pages = []; wrote = wrote-same a.history b.history (ap (λ (d : Device). d.history) is); behind_header = tt };
}

-- where something was read, a line may have been begun
begun_of : (ahead rest : List ℕ) (now new : PortsView) → ReadsOn ahead rest now new → Begins ahead rest now new
begun_of ahead rest now new reads = record {
  same = reads.same;
  held = reads.held;
  device = still now.device new.device reads.device;
  used = inl reads.device;
  near = reads.near;
}

-- no line was done in the turn
pub waited : (n : ℕ) (past : Past) (ahead rest : List ℕ) (old now new : PortsView) (k : Machine) → SoFar n past ahead old now k
    → length past.lines ≤ most_lines →
    Begins ahead rest now new → Replays n old new (whole past) rest (text_of_run past.transcript)
waited n past ahead rest old now new k so_far few reads = record {
  read = Took-ahead old.source.left new.source.left (all_lines past.lines) rest
      (subst (λ (l : Option (List ℕ)). Took old.source.left l (all_lines past.lines)) (sym reads.same) so_far.read);
  near = reads.near;
  lines = so_far.lines;
  few = few_whole past.lines few;
  last = tt;
  commands = subst (λ (lines : List (List ℕ)). Transcribes lines past.transcript) (sym (append-nil past.lines)) so_far.commands;
  legal = so_far.legal;
  failures = rose_on (causes_of past.transcript) old.device.failures now.device.failures new.device.failures so_far.failures reads.device.failures;
  untold = reads.device.history.pages;
  asked = wrote-then old.device.history now.device.history new.device.history (pages_of_run past.transcript) reads.device.history.pages
      so_far.asked reads.device.history.wrote;
  wrote = subst (λ (h : Option (List ℕ)). Gained old.sink.held h (text_of_run past.transcript)) (sym reads.held) so_far.wrote;
  device = device-on old.device now.device new.device so_far.device reads.device;
}

pub stops : (n : ℕ) (past : Past) (ahead rest : List ℕ) (old now new : PortsView) (k k' : Machine) → SoFar n past ahead old now k →
    length past.lines ≤ most_lines → Waits ahead rest now new k k' → Leaves n rest old new k' (whole past) (text_of_run past.transcript)
unfolding waited begun_of still
stops n past ahead rest old now new k k' so_far few waits = record {
  replays = waited n past ahead rest old now new k so_far few (begun_of ahead rest now new waits.reads);
  told = refl;
  left = subst (λ (d : Device). IsHandedBack k' d n (whole past)) (sym waits.reads.device)
      (subst (λ (m : Machine). IsHandedBack m now.device n (whole past)) (sym waits.kernel) so_far.kernel_left);
}

-- ---- a line was done in the turn

-- nothing but this was asked
all_told : {ps : List Slot} {a b : History} → Wrote ps a b → Wrote (ps ++ []) a b
all_told {ps} {a} {b} h = subst (λ (ps : List Slot). Wrote ps a b) (sym (append-nil ps)) h

-- the last line, which had no newline
abbrev pub with_last : Past → List ℕ → Option Exchange → State → Run
with_last past line did next = record { lines = past.lines; last = Some line; transcript = past.transcript ++ option_to_list did; state = next }

module _ (n : ℕ) (past : Past) (ahead : List ℕ) (old now new : PortsView) (k k' : Machine) (line rest text written : List ℕ)
    (so_far : SoFar n past ahead old now k) (few : length past.lines < most_lines) where
  pub ends_line : (takes : TakesLine ahead now new k k' line (10 ∷ []) rest text written) →
      Leaves n rest old new k' (whole (longer past line (next_answers n past ahead old now new k k' line (10 ∷ []) rest text written so_far takes).did
      (next_answers n past ahead old now new k k' line (10 ∷ []) rest text written so_far takes).next)) (text_of_run past.transcript ++ written)
  ends_line takes =
      let a = next_answers n past ahead old now new k k' line (10 ∷ []) rest text written so_far takes in
      let lines = past.lines ++ line ∷ [] in
      record {
        replays = record {
          read = Took-ahead old.source.left new.source.left (all_lines lines) rest
              (subst (Took old.source.left (undone rest new)) (sym (joined-push past.lines line))
              (read_more n past ahead old now new k k' line (10 ∷ []) rest text written so_far takes));
          near = takes.near;
          lines = all_push IsLine past.lines line so_far.lines takes.is_line;
          few = few_whole lines (omega (arith, length-append past.lines (line ∷ [])));
          last = tt;
          commands = subst (λ (ls : List (List ℕ)). Transcribes ls (past.transcript ++ option_to_list a.did)) (sym (append-nil lines))
              (Transcribes-push past.lines past.transcript line a.did so_far.commands a.commands);
          legal = legal_more n past ahead old now new k k' line (10 ∷ []) rest text written so_far takes;
          failures = failures_more n past ahead old now new k k' line (10 ∷ []) rest text written so_far takes;
          untold = [];
          asked = all_told (asked_more n past ahead old now new k k' line (10 ∷ []) rest text written so_far takes);
          wrote = wrote_more n past ahead old now new k k' line (10 ∷ []) rest text written so_far takes;
          device = device_more n past ahead old now new k k' line (10 ∷ []) rest text written so_far takes;
        };
        told = refl;
        left = kernel_more n past ahead old now new k k' line (10 ∷ []) rest text written so_far takes lines None;
      }

  pub ends_last : (takes : TakesLine ahead now new k k' line [] rest text written) → rest ≡ [] → 0 < length line → IsAtEnd new.source →
      Leaves n rest old new k' (with_last past line (next_answers n past ahead old now new k k' line [] rest text written so_far takes).did
      (next_answers n past ahead old now new k k' line [] rest text written so_far takes).next) (text_of_run past.transcript ++ written)
  ends_last takes none some end =
      let a = next_answers n past ahead old now new k k' line [] rest text written so_far takes in
      let parts : (all_lines past.lines ++ (line ++ [])) ++ rest ≡ all_lines past.lines ++ (line ++ rest) =
      ap (λ (l : List ℕ). (all_lines past.lines ++ l) ++ rest) (append-nil line) ∙ append_assoc (all_lines past.lines) line rest in
      record {
        replays = record {
          read = subst (Took old.source.left new.source.left) parts (Took-ahead old.source.left new.source.left _ rest
              (read_more n past ahead old now new k k' line [] rest text written so_far takes));
          near = takes.near;
          lines = so_far.lines;
          few = omega (arith, length-append past.lines (line ∷ []));
          last = (takes.is_line, some, none, end);
          commands = Transcribes-push past.lines past.transcript line a.did so_far.commands a.commands;
          legal = legal_more n past ahead old now new k k' line [] rest text written so_far takes;
          failures = failures_more n past ahead old now new k k' line [] rest text written so_far takes;
          untold = [];
          asked = all_told (asked_more n past ahead old now new k k' line [] rest text written so_far takes);
          wrote = wrote_more n past ahead old now new k k' line [] rest text written so_far takes;
          device = device_more n past ahead old now new k k' line [] rest text written so_far takes;
        };
        told = refl;
        left = kernel_more n past ahead old now new k k' line [] rest text written so_far takes past.lines (Some line);
      }

-- a line that ended with the input, told apart from one that ended at its newline
at_last : (line rest : List ℕ) (new : PortsView) → IsEnding line [] rest new.source → (rest ≡ []) × (0 < length line) × IsAtEnd new.source
at_last line rest new (inl newline) = absurd cc
at_last line rest new (inr last) = (last.1, last.2, last.3)

pub last_done : (n : ℕ) (past : Past) (ahead rest : List ℕ) (old now new : PortsView) (k k' : Machine) → SoFar n past ahead old now k →
    length past.lines < most_lines → DoesNext ahead rest now new k k' [] → Headline n statuses.Done old new (Some k')
last_done n past ahead rest old now new k k' so_far few does =
    let last = at_last does.line rest new does.takes.ends in
    let leaves = ends_last n past ahead old now new k k' does.line rest does.text does.text so_far few does.takes last.0 last.1 last.2 in
    headline n statuses.Done rest old new k' _ _ leaves (
      (last.0, last.2),
      text_more n past ahead old now new k k' does.line [] rest
          does.text does.text so_far does.takes,
    )

pub all_done : (n : ℕ) (past : Past) (ahead rest : List ℕ) (old now new : PortsView) (k k' : Machine) → SoFar n past ahead old now k →
    length past.lines ≤ most_lines → FindsEnd ahead rest now new k k' → Headline n statuses.Done old new (Some k')
all_done n past ahead rest old now new k k' so_far few finds =
    headline n statuses.Done rest old new k' _ _ (stops n past ahead rest old now new k k' so_far few finds.waits) ((finds.none, finds.end), refl)

pub done : (n : ℕ) (past : Past) (ahead rest : List ℕ) (old now new : PortsView) (k k' : Machine) → SoFar n past ahead old now k →
    length past.lines < most_lines → FindsEnd ahead rest now new k k' ⊎ DoesNext ahead rest now new k k' []
    → Headline n statuses.Done old new (Some k')
done n past ahead rest old now new k k' so_far few (inl finds) = all_done n past ahead rest old now new k k' so_far (omega arith) finds
done n past ahead rest old now new k k' so_far few (inr does) = last_done n past ahead rest old now new k k' so_far few does

-- ---- the text of the last reply was cut

-- a run that ends so
pub record Cuts (n : ℕ) (old new : PortsView) (kernel : Machine) : Type 0 where
  pub run : Run
  pub rest : List ℕ
  pub written : List ℕ
  pub leaves : Leaves n rest old new kernel run written
  pub cut : IsCutOff run written

-- a text that is cut is that of some reply
cut_at : (run : Run) (before : List (List ℕ)) (line : List ℕ) (es : List Exchange) (did : Option Exchange) (text : List ℕ) (n : ℕ) →
    done_lines run ≡ before ++ line ∷ [] → run.transcript ≡ es ++ option_to_list did → Commands line did → text ≡ text_of_run (option_to_list did)
    → n < length text →
    IsCutOff run (text_of_run es ++ take n text)
cut_at run before line es None text n lines transcript commands said short = absurd (omega (arith, ap length said))
cut_at run before line es (Some e) text n lines transcript commands said short =
    let same : text ≡ text_of e.reply = said ∙ append-nil (text_of e.reply) in
    record {
      before = before;
      line = line;
      lines = lines;
      others = es;
      last = e;
      transcript = transcript;
      commands = commands;
      size = n;
      short = omega (arith, ap length same);
      is = ap (λ (t : List ℕ). text_of_run es ++ take n t) same;
    }

cuts_at : (n : ℕ) (past : Past) (ahead : List ℕ) (old now new : PortsView) (k k' : Machine) (line ending rest text : List ℕ) (size : ℕ) →
    SoFar n past ahead old now k → length past.lines < most_lines → size < length text
    → TakesLine ahead now new k k' line ending rest text (take size text) →
    IsEnding line ending rest new.source → Cuts n old new k'
cuts_at n past ahead old now new k k' line ending rest text size so_far few short takes (inl newline) =
    let takes' : TakesLine ahead now new k k' line (10 ∷ []) rest text (take size text) =
    subst (λ (e : List ℕ). TakesLine ahead now new k k' line e rest text (take size text)) newline takes in
    let a = next_answers n past ahead old now new k k' line (10 ∷ []) rest text (take size text) so_far takes' in
    let run = whole (longer past line a.did a.next) in
    record {
      run = run;
      rest = rest;
      written = text_of_run past.transcript ++ take size text;
      leaves = ends_line n past ahead old now new k k' line rest text (take size text) so_far few takes';
      cut = cut_at run past.lines line past.transcript a.did text size (append-nil (past.lines ++ line ∷ [])) refl a.commands a.said short;
    }
cuts_at n past ahead old now new k k' line ending rest text size so_far few short takes (inr last) =
    let takes' : TakesLine ahead now new k k' line [] rest text (take size text) =
    subst (λ (e : List ℕ). TakesLine ahead now new k k' line e rest text (take size text)) last.0 takes in
    let a = next_answers n past ahead old now new k k' line [] rest text (take size text) so_far takes' in
    let run = with_last past line a.did a.next in
    record {
      run = run;
      rest = rest;
      written = text_of_run past.transcript ++ take size text;
      leaves = ends_last n past ahead old now new k k' line rest text (take size text) so_far few takes' last.1 last.2 last.3;
      cut = cut_at run past.lines line past.transcript a.did text size refl refl a.commands a.said short;
    }

pub cuts : (n : ℕ) (past : Past) (ahead : List ℕ) (old now new : PortsView) (k k' : Machine) → SoFar n past ahead old now k
    → length past.lines < most_lines →
    CutsShort ahead now new k k' → Cuts n old new k'
cuts n past ahead old now new k k' so_far few cut = cuts_at n past ahead old now new k k' cut.line cut.ending cut.rest cut.text cut.size so_far few
    cut.short cut.takes cut.takes.ends

-- ---- why a turn halts a run

may_go_on : (past : Past) (rest : List ℕ) → length past.lines < most_lines → MayGoOn (whole past) rest
may_go_on past rest few some = few

-- the sink could not hand on what it kept back, before a read
kept_back : (n : ℕ) (past : Past) (ahead rest : List ℕ) (old now new : PortsView) (k k' : Machine) → SoFar n past ahead old now k →
    length past.lines ≤ most_lines → MayGoOn (whole past) rest → IsUnflushed ahead rest now new k k' →
    HasFailed now.sink new.sink → Headline n statuses.WriteFault old new (Some k')
kept_back n past ahead rest old now new k k' so_far few may unflushed failed =
    headline n statuses.WriteFault rest old new k' _ _ (stops n past ahead rest old now new k k' so_far few unflushed.waits) (
      inr (record { untold = unflushed.untold; whole = refl; status = statuses.ReadFault; stops = (refl, may, unflushed.part) }),
      failed_since old.sink now.sink new.sink so_far.unfailed.sink failed,
    )

read_fault : (n : ℕ) (past : Past) (ahead rest : List ℕ) (old now new : PortsView) (k k' : Machine) → SoFar n past ahead old now k →
    length past.lines ≤ most_lines → MayGoOn (whole past) rest → Waits ahead rest now new k k' → IsLine rest →
    IsReadFault now.source new.source → Headline n statuses.ReadFault old new (Some k')
read_fault n past ahead rest old now new k k' so_far few may waits part failed =
    headline n statuses.ReadFault rest old new k' _ _ (stops n past ahead rest old now new k k' so_far few waits) (
      (refl, may, part),
      refl,
      read_fault_since old.source now.source new.source so_far.unfailed.source so_far.stays_open failed,
    )

-- where the device is as it was
begun_still : (ahead rest : List ℕ) (now new : PortsView) → Begins ahead rest now new → new.device ≡ now.device → Begins ahead rest now new
begun_still ahead rest now new begun same = record {
  same = begun.same;
  held = begun.held;
  device = still now.device new.device same;
  used = begun.used;
  near = begun.near;
}

-- memory was wanting for a line that was begun
memory_begun : (n : ℕ) (past : Past) (ahead rest : List ℕ) (old now new : PortsView) (k : Machine) → SoFar n past ahead old now k
    → length past.lines < most_lines → Begins ahead rest now new → (new.device ≡ now.device) ⊎ HandsDeviceNext rest new.source
    → Headline n statuses.Memory old new None
unfolding waited begun_still still
memory_begun n past ahead rest old now new k so_far few begun (inl same) = record {
  run = whole past;
  rest = rest;
  written = text_of_run past.transcript;
  replays = waited n past ahead rest old now new k so_far (omega arith) (begun_still ahead rest now new begun same);
  ends = inl refl;
  told = inl refl;
  handed_back = tt;
}
memory_begun n past ahead rest old now new k so_far few begun (inr hands) = record {
  run = whole past;
  rest = rest;
  written = text_of_run past.transcript;
  replays = waited n past ahead rest old now new k so_far (omega arith) begun;
  ends = inl refl;
  told = inr (refl, hands);
  handed_back = tt;
}

memory : (n : ℕ) (past : Past) (ahead rest : List ℕ) (old now new : PortsView) (k k' : Machine) → SoFar n past ahead old now k
    → length past.lines < most_lines →
    Begins ahead rest now new ⊎ CutsShort ahead now new k k' → Headline n statuses.Memory old new None
memory n past ahead rest old now new k k' so_far few (inl begun) = memory_begun n past ahead rest old now new k so_far few begun begun.used
memory n past ahead rest old now new k k' so_far few (inr cut) =
    let c = cuts n past ahead old now new k k' so_far few cut in
    headline n statuses.Memory c.rest old new k' c.run c.written c.leaves (inr c.cut)

write_fault : (n : ℕ) (past : Past) (ahead rest : List ℕ) (old now new : PortsView) (k k' : Machine) → SoFar n past ahead old now k →
    length past.lines < most_lines → CutsShort ahead now new k k' ⊎ IsUnflushed ahead rest now new k k' →
    HasFailed now.sink new.sink → Headline n statuses.WriteFault old new (Some k')
write_fault n past ahead rest old now new k k' so_far few (inl cut) failed =
    let c = cuts n past ahead old now new k k' so_far few cut in
    headline n statuses.WriteFault c.rest old new k' c.run c.written c.leaves
    (inl c.cut, failed_since old.sink now.sink new.sink so_far.unfailed.sink failed)
write_fault n past ahead rest old now new k k' so_far few (inr unflushed) failed =
    kept_back n past ahead rest old now new k k' so_far (omega arith) (may_go_on past rest few) unflushed failed

pub halts : (n : ℕ) (past : Past) (ahead rest : List ℕ) (old now new : PortsView) (k k' : Machine) (error : RunErr) (number : ℕ)
    → SoFar n past ahead old now k →
    number ≡ length past.lines + 1 → number ≤ most_lines → Halts error ahead rest now new k k' →
    Headline n (status_at error number) old new (kernel_at (status_at error number) k')
halts n past ahead rest old now new k k' errors.BadLine number so_far count few h =
    headline n (statuses.BadLine number) rest old new k' _ _ (stops n past ahead rest old now new k k' so_far (omega arith) h.0)
    ((refl, count, few, h.1), refl)
halts n past ahead rest old now new k k' errors.Read number so_far count few h =
    read_fault n past ahead rest old now new k k' so_far (omega arith) (may_go_on past rest (omega arith)) h.0 h.1 h.2
halts n past ahead rest old now new k k' errors.Write number so_far count few h =
    write_fault n past ahead rest old now new k k' so_far (omega arith) h.0 h.1
halts n past ahead rest old now new k k' errors.Memory number so_far count few h = memory n past ahead rest old now new k k' so_far (omega arith) h

-- ---- after the last line that may be done

nil_is_line : (rest : List ℕ) → rest ≡ [] → IsLine rest
nil_is_line rest none = subst IsLine (sym none) (record { one = All-nil _; short = omega arith })

none_may : (past : Past) (rest : List ℕ) → rest ≡ [] → MayGoOn (whole past) rest
none_may past rest none some = absurd (omega (arith, ap length none))

module _ (n : ℕ) (past : Past) (ahead rest : List ℕ) (old now new : PortsView) (k : Machine) (so_far : SoFar n past ahead old now k)
    (count : length past.lines ≡ most_lines) (reads : ReadsOn ahead rest now new) where
  waits : Waits ahead rest now new k k
  waits = record { reads = reads; kernel = refl }

  pub finishes : (status : Status) → Finishes status rest now new → Headline n status old new (kernel_at status k)
  finishes statuses.TooMany some =
      headline n statuses.TooMany rest old new k _ _ (stops n past ahead rest old now new k k so_far (omega arith) waits) ((refl, count, some), refl)
  finishes statuses.Done f =
      all_done n past ahead rest old now new k k so_far (omega arith) (record { waits = waits; none = f.0; end = f.1 })
  finishes statuses.ReadFault f =
      read_fault n past ahead rest old now new k k so_far (omega arith) (none_may past rest f.0) waits (nil_is_line rest f.0) f.1
  finishes statuses.WriteFault f =
      kept_back n past ahead rest old now new k k so_far (omega arith) (none_may past rest f.0)
      (record { waits = waits; part = nil_is_line rest f.0; untold = f.1 }) f.2
  finishes statuses.Usage f = absurd f
  finishes statuses.AttachFault f = absurd f
  finishes (statuses.Illegal number) f = absurd f
  finishes statuses.TooLong f = absurd f
  finishes (statuses.BadLine number) f = absurd f
  finishes statuses.Memory f = absurd f

-- ---- the whole run

-- memory ran out before anything was read
pub nothing_done : (n : ℕ) (ports : PortsView) → DoesTrace n statuses.Memory ports ports None
nothing_done n ports = record {
  headline = record {
    run = record { lines = []; last = None; transcript = []; state = at_first (setting_of n ports.device) };
    rest = [];
    written = [];
    replays = record {
      read = Took-none ports.source.left;
      near = omega arith;
      lines = tt;
      few = omega arith;
      commands = refl;
      last = tt;
      legal = refl;
      failures = rose_none ports.device.failures;
      untold = [];
      asked = wrote-none ports.device.history;
      wrote = Gained-none ports.sink.held;
      device = device-itself ports.device;
    };
    ends = inl refl;
    told = inl refl;
    handed_back = tt;
  };
  unfailed = (refl, inl refl);
  flushed = inl (refl, flushed_none ports ports refl refl);
}

pub same_frames : (m n : ℕ) (status : Status) (old new : PortsView) (kernel : Option Machine) → m ≡ n → DoesTrace m status old new kernel →
    DoesTrace n status old new kernel
same_frames m n status old new kernel e r = subst (λ (k : ℕ). DoesTrace k status old new kernel) e r

-- a trace that was begun is no usage error, nor was an area not attached
pub no_attach_fault : (n : ℕ) (status : Status) (old new : PortsView) (kernel : Option Machine) → Headline n status old new kernel →
    status ≢ statuses.AttachFault
no_attach_fault n status old new kernel h e =
    let ends = subst (λ (s : Status). Ends s old new h.run h.rest h.written) e h.ends in ends.0

pub no_usage : (n : ℕ) (status : Status) (old new : PortsView) (kernel : Option Machine) → Headline n status old new kernel → status ≢ statuses.Usage
no_usage n status old new kernel h e =
    let ends = subst (λ (s : Status). Ends s old new h.run h.rest h.written) e h.ends in ends.0

-- ---- the last flush

module _ (n : ℕ) (old now : PortsView) (kernel : Machine) (sink : SinkView) where
  abbrev new : PortsView
  new = record now { sink = sink }

  replays_flush : (run : Run) (rest written : List ℕ) → sink.held ≡ now.sink.held → Replays n old now run rest written
      → Replays n old new run rest written
  replays_flush run rest written held r = record {
    read = r.read;
    near = r.near;
    lines = r.lines;
    few = r.few;
    last = r.last;
    commands = r.commands;
    legal = r.legal;
    failures = r.failures;
    untold = r.untold;
    asked = r.asked;
    wrote = subst (λ (h : Option (List ℕ)). Gained old.sink.held h written) (sym held) r.wrote;
    device = r.device;
  }

  -- the same ending
  ends_so : (status : Status) (h : Headline n status old now (kernel_at status kernel)) → sink.held ≡ now.sink.held →
      Ends status old new h.run h.rest h.written → Headline n status old new (kernel_at status kernel)
  unfolding replays_flush
  ends_so status h held ends = record {
    run = h.run;
    rest = h.rest;
    written = h.written;
    replays = replays_flush h.run h.rest h.written held h.replays;
    ends = ends;
    told = h.told;
    handed_back = h.handed_back;
  }

  module _ (was : AreUnfailed old now) (flushed : AreFlushed 0 old now) where
    unfailed : HandsOn now.sink sink → AreUnfailed old new
    unfailed hands_on = record { source = was.source; sink = hands_on.unfailed ∙ was.sink }

    fails_untold : KeepsBack now.sink sink → FailsUntold old.sink sink
    fails_untold keeps = (keeps.held ∙ keeps.untold, failed_since old.sink now.sink sink was.sink keeps.failed)

    kept : AreFlushed 0 old now → sink.flushes ≡ now.sink.flushes → AreFlushed 0 old new
    kept so same = record { n = so.n; reads = so.reads; flushes = same ∙ so.flushes }

    -- it failed
    unflushed : (status : Status) (run : Run) (rest written : List ℕ) (replays : Replays n old now run rest written) → replays.untold ≡ [] →
        IsHandedBack kernel now.device n run →
        StopsAt status new run rest → written ≡ text_of_run run.transcript → KeepsBack now.sink sink
        → DoesTrace n statuses.WriteFault old new (Some kernel)
    unfolding replays_flush
    unflushed status run rest written replays told left stops whole keeps =
        let untold = fails_untold keeps in
        record {
          headline = record {
            run = run;
            rest = rest;
            written = written;
            replays = replays_flush run rest written keeps.held replays;
            ends = (inr (record { untold = untold.0; whole = whole; status = status; stops = stops }), untold.1);
            told = inl told;
            handed_back = left;
          };
          unfailed = was.source;
          flushed = kept flushed keeps.flushes;
        }

    -- it was served, after which a run ends as it did before
    served : (status : Status) → HandsOn now.sink sink → (h : Headline n status old now (kernel_at status kernel)) →
        Ends status old new h.run h.rest h.written → FailsOnlyAt status old new → IsFlushed status old new →
        DoesTrace n status old new (kernel_at status kernel)
    served status hands_on h ends fails so = record { headline = ends_so status h hands_on.held ends; unfailed = fails; flushed = so }

    at_memory : (h : Headline n statuses.Memory old now None) → HandsOn now.sink sink ⊎ KeepsBack now.sink sink →
        DoesTrace n statuses.Memory old new None
    at_memory h (inl hands_on) =
        served statuses.Memory hands_on h h.ends (was.source, inl (hands_on.unfailed ∙ was.sink))
        (inr (inl (handed_on old now sink flushed hands_on)))
    at_memory h (inr keeps) = record {
      headline = ends_so statuses.Memory h keeps.held h.ends;
      unfailed = (was.source, inr (fails_untold keeps));
      flushed = inr (inr (fails_untold keeps, kept flushed keeps.flushes));
    }

  -- no flush came
  same_sink : (status : Status) → sink ≡ now.sink → DoesTrace n status old now (kernel_at status kernel)
      → DoesTrace n status old new (kernel_at status kernel)
  same_sink status e r = subst (λ (s : SinkView). DoesTrace n status old (record now { sink = s }) (kernel_at status kernel)) (sym e) r

  named : (status last : Status) → last ≡ status → DoesTrace n status old new (kernel_at status kernel)
      → DoesTrace n last old new (kernel_at last kernel)
  named status last e r = subst (λ (s : Status). DoesTrace n s old new (kernel_at s kernel)) (sym e) r

  replayed : (status last : Status) → FlushesLast status last now.sink sink → Headline n status old now (kernel_at status kernel) →
      FailsOnlyAt status old now → (status ≡ statuses.Memory → AreUnfailed old now) → AreFlushed 0 old now →
      (status ≡ statuses.ReadFault → now.sink.kept_back ≡ []) → DoesTrace n last old new (kernel_at last kernel)
  replayed statuses.Done last (inl f) h was memory so none =
      named statuses.Done last f.0 (served was so statuses.Done f.1 h h.ends (unfailed was so f.1) (handed_on old now sink so f.1))
  replayed statuses.Done last (inr f) h was memory so none =
      named statuses.WriteFault last f.0 (unflushed was so statuses.Done h.run h.rest h.written h.replays
      (only_told h.told (λ e. cc)) h.handed_back h.ends.0 h.ends.1 f.1)
  replayed (statuses.BadLine number) last (inl f) h was memory so none = named (statuses.BadLine number) last f.0
      (served was so (statuses.BadLine number) f.1 h h.ends (unfailed was so f.1) (handed_on old now sink so f.1))
  replayed (statuses.BadLine number) last (inr f) h was memory so none =
      named statuses.WriteFault last f.0
      (unflushed was so (statuses.BadLine number) h.run h.rest h.written h.replays (only_told h.told (λ e. cc)) h.handed_back h.ends.0 h.ends.1 f.1)
  replayed statuses.TooMany last (inl f) h was memory so none =
      named statuses.TooMany last f.0 (served was so statuses.TooMany f.1 h h.ends (unfailed was so f.1) (handed_on old now sink so f.1))
  replayed statuses.TooMany last (inr f) h was memory so none =
      named statuses.WriteFault last f.0 (unflushed was so statuses.TooMany h.run h.rest h.written h.replays
      (only_told h.told (λ e. cc)) h.handed_back h.ends.0 h.ends.1 f.1)
  replayed statuses.Usage last f h was memory so none = absurd h.ends.0
  replayed statuses.AttachFault last f h was memory so none = absurd h.ends.0
  replayed (statuses.Illegal number) last f h was memory so none = absurd h.ends.0
  replayed statuses.TooLong last f h was memory so none = absurd h.ends.0
  replayed statuses.ReadFault last f h was memory so none =
      named statuses.ReadFault last f.0 (same_sink statuses.ReadFault f.1
      (record { headline = h; unfailed = was; flushed = record { none_kept = none refl; flushed = so } }))
  replayed statuses.WriteFault last f h was memory so none =
      named statuses.WriteFault last f.0 (same_sink statuses.WriteFault f.1 (record { headline = h; unfailed = was; flushed = so }))
  replayed statuses.Memory last f h was memory so none = named statuses.Memory last f.0 (at_memory (memory refl) so h f.1)

-- the same, where the flush changed nothing but the sink
pub replays_last : (n : ℕ) (old now new : PortsView) (kernel : Machine) (status last : Status) → OnlySink now new →
    FlushesLast status last now.sink new.sink → Headline n status old now (kernel_at status kernel) → FailsOnlyAt status old now →
    (status ≡ statuses.Memory → AreUnfailed old now) → AreFlushed 0 old now → (status ≡ statuses.ReadFault → now.sink.kept_back ≡ []) →
    DoesTrace n last old new (kernel_at last kernel)
replays_last n old now new kernel status last only f h was memory so none =
    subst (λ (p : PortsView). DoesTrace n last old p (kernel_at last kernel)) (sym (only_sink now new only))
    (replayed n old now kernel new.sink status last f h was memory so none)
