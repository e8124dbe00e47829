-- A run that goes on by a turn.
use Rattle.std.proofs.Common.{◌≡◌, ℕ, ◌+◌, ◌≤◌, List, [], ◌∷◌, ◌++◌, Option, None, length, length-append, refl, sym, ap, subst, ◌∙◌, append_assoc, append-nil}
use Rattle.std.proofs.Common.{arith}
use Rattle.av_kernel.specs.Tally.{none_counted}
use Rattle.av_kernel.specs.declared.tally.Tally.{Tally}
use Rattle.std.specs.List.{AllByRecursion}
use Rattle.std.specs.Option.{option_to_list}
use Rattle.std.proofs.lemmas.List.Concat.{flat_map-append}
use Rattle.av_trace.specs.Print.{text_of}
use Rattle.av_plain.specs.Ledger.{Setting}
use Rattle.av_plain.specs.Transcript.{Exchange, State, IsRun, at_first, causes_of, text_of_run}
use Rattle.av_kernel.specs.Machine.{Machine}
use Rattle.av_step.specs.Step.{sizes_of}
use Rattle.av_plain.specs.Device.{IsSameDevice, setting_of, Wrote}
use Rattle.av_plain.specs.Step.{causes}
use Rattle.av_io.specs.Count.{RoseBy}
use Rattle.std.proofs.lemmas.List.Sums.{sum_by-append}
use Rattle.av_io.specs.Source.{in_front, Took}
use Rattle.av_io.specs.Sink.{Gained}
use Rattle.av_ports.specs.Ports.{PortsView, undone, room, AreUnfailed, StaysOpen}
use Rattle.av_ports.specs.Line.{IsLine}
use Rattle.av_replay.specs.Turn.{tally_of, Commands, Answers, TakesLine, pages_of_run}
use Rattle.av_replay.specs.Replay.{all_lines, Transcribes, Run, IsHandedBack, IsAtStart}
use Rattle.av_ports.proofs.Bytes.{Took-then, Took-none, Gained-then, Gained-none}
use Rattle.av_plain.proofs.Device.{setting_same}
use Rattle.av_ports.proofs.Times.{unfailed_then}
use Rattle.av_plain.proofs.Wrote.{device-itself, device-on, wrote-none, wrote-then}
use Rattle.av_plain.specs.Pass.{pages_written}
use Rattle.av_base.specs.declared.slot.Slot.{Slot}

-- ---- lists that grow at the end

pub all_push : (P : List ℕ → Type 0) (lines : List (List ℕ)) (line : List ℕ) → AllByRecursion P lines → P line → AllByRecursion P (lines ++ line ∷ [])
all_push P [] line all p = (p, tt)
all_push P (x ∷ lines) line all p = (all.0, all_push P lines line all.1 p)

pub Transcribes-push : (lines : List (List ℕ)) (es : List Exchange) (line : List ℕ) (did : Option Exchange) → Transcribes lines es
    → Commands line did →
    Transcribes (lines ++ line ∷ []) (es ++ option_to_list did)
Transcribes-push [] es line did e commands =
    (did, [], ap (λ (t : List Exchange). t ++ option_to_list did) e ∙ sym (append-nil (option_to_list did)), commands, refl)
Transcribes-push (x ∷ lines) es line did t commands = (
  t.0,
  t.1 ++ option_to_list did,
  ap (λ (l : List Exchange). l ++ option_to_list did) t.2 ∙ append_assoc (option_to_list t.0) t.1 (option_to_list did),
  t.3,
  Transcribes-push lines t.1 line did t.4 commands,
)

pub joined-push : (lines : List (List ℕ)) (line : List ℕ) → all_lines (lines ++ line ∷ []) ≡ all_lines lines ++ (line ++ 10 ∷ [])
joined-push lines line = flat_map-append (λ (l : List ℕ). l ++ 10 ∷ []) lines (line ∷ []) ∙ ap (λ (t : List ℕ). all_lines lines ++ t) (append-nil _)

pub IsRun-append : (m : Setting) (a b c : State) (es more : List Exchange) → IsRun m a es b → IsRun m b more c → IsRun m a (es ++ more) c
IsRun-append m a b c [] more run then = subst (λ (s : State). IsRun m s more c) run then
IsRun-append m a b c (e ∷ es) more run then = (run.0, run.1, IsRun-append m run.0 b c es more run.2 then)

pub tally_of-append : (es more : List Exchange) (tally : Tally) → tally_of (es ++ more) tally ≡ tally_of more (tally_of es tally)
tally_of-append [] more tally = refl
tally_of-append (e ∷ es) more tally = tally_of-append es more _

-- ---- counts that rise

-- nothing is less than a count rose by
pub rose_none : (a : ℕ) → RoseBy 0 a a
rose_none a = omega arith

-- rises add up
pub rose_then : (m n a b c : ℕ) → RoseBy m a b → RoseBy n b c → RoseBy (m + n) a c
rose_then m n a b c first second = omega arith

-- and a count that goes on to rise has risen by as much
pub rose_on : (m a b c : ℕ) → RoseBy m a b → b ≤ c → RoseBy m a c
rose_on m a b c first more = omega arith

-- ---- the run so far

-- the lines that were done, each with its newline, their transcript, and the state that it leaves
pub record Past : Type 0 where
  pub lines : List (List ℕ)
  pub transcript : List Exchange
  pub state : State

-- as a run without a last line
abbrev pub whole : Past → Run
whole past = record { lines = past.lines; last = None; transcript = past.transcript; state = past.state }

-- the lines so far were done, and their texts written; these bytes were read beyond them
pub record SoFar (n : ℕ) (past : Past) (ahead : List ℕ) (old now : PortsView) (kernel : Machine) : Type 0 where
  pub read : Took old.source.left (undone ahead now) (all_lines past.lines)
  pub near : length ahead ≤ room
  pub lines : AllByRecursion IsLine past.lines
  pub commands : Transcribes past.lines past.transcript
  pub legal : IsRun (setting_of n old.device) (at_first (setting_of n old.device)) past.transcript past.state
  pub failures : RoseBy (causes_of past.transcript) old.device.failures now.device.failures
  pub asked : Wrote (pages_of_run past.transcript) old.device.history now.device.history
  pub wrote : Gained old.sink.held now.sink.held (text_of_run past.transcript)
  pub kernel_left : IsHandedBack kernel now.device n (whole past)
  pub device : IsSameDevice old.device now.device
  pub unfailed : AreUnfailed old now
  pub stays_open : StaysOpen old.source now.source

abbrev pub no_past : Setting → Past
no_past m = record { lines = []; transcript = []; state = at_first m }

pub starts : (ahead : List ℕ) (now : PortsView) (kernel : Machine) → ahead ≡ [] → IsAtStart kernel now.device →
    SoFar kernel.frames (no_past (setting_of kernel.frames now.device)) ahead now now kernel
starts ahead now kernel none start = record {
  read = Took-none now.source.left
      ∙ ap (in_front []) (Took-none now.source.left ∙ ap (λ (bytes : List ℕ). in_front bytes now.source.left) (sym none));
  near = omega (arith, ap length none);
  lines = tt;
  commands = refl;
  legal = refl;
  failures = rose_none now.device.failures;
  asked = wrote-none now.device.history;
  wrote = Gained-none now.sink.held;
  kernel_left = record {
    stands = start.stands;
    frames = refl;
    steps = start.steps;
    tally = start.tally;
    unspent = start.unspent;
    attached = start.attached;
  };
  device = device-itself now.device;
  unfailed = record { source = refl; sink = refl };
  stays_open = λ untold. untold;
}

-- ---- one line more

abbrev pub longer : Past → List ℕ → Option Exchange → State → Past
longer past line did next = record { lines = past.lines ++ line ∷ []; transcript = past.transcript ++ option_to_list did; state = next }

module _ (n : ℕ) (past : Past) (ahead : List ℕ) (old now new : PortsView) (k k' : Machine) (line ending rest text written : List ℕ)
    (so_far : SoFar n past ahead old now k) (takes : TakesLine ahead now new k k' line ending rest text written) where
  -- the answers to the next line
  abbrev pub next_answers : Answers line now.device new.device past.state k k' text
  next_answers = takes.does.answers past.state so_far.kernel_left.stands

  -- what was read, with the line
  pub read_more : Took old.source.left (undone rest new) (all_lines past.lines ++ (line ++ ending))
  read_more = Took-then _ _ _ _ _ so_far.read takes.took

  pub wrote_more : Gained old.sink.held new.sink.held (text_of_run past.transcript ++ written)
  wrote_more = Gained-then _ _ _ _ _ so_far.wrote takes.gained

  pub device_more : IsSameDevice old.device new.device
  device_more = device-on old.device now.device new.device so_far.device takes.device

  pub legal_more : IsRun (setting_of n old.device) (at_first (setting_of n old.device)) (past.transcript ++ option_to_list next_answers.did)
      next_answers.next
  legal_more = IsRun-append (setting_of n old.device) (at_first (setting_of n old.device)) past.state next_answers.next past.transcript
      (option_to_list next_answers.did) so_far.legal
      (subst (λ (m : Setting). IsRun m past.state (option_to_list next_answers.did) next_answers.next)
      (ap (λ k. setting_of k now.device) so_far.kernel_left.frames ∙ setting_same n old.device now.device so_far.device) next_answers.run)

  -- what only failures explain, with those of the line
  pub failures_more : RoseBy (causes_of (past.transcript ++ option_to_list next_answers.did)) old.device.failures new.device.failures
  failures_more = subst (λ c. RoseBy c old.device.failures new.device.failures)
      (sym (sum_by-append (λ (e : Exchange). causes e.reply) past.transcript (option_to_list next_answers.did)))
      (rose_then (causes_of past.transcript) (causes_of (option_to_list next_answers.did)) old.device.failures now.device.failures new.device.failures
      so_far.failures next_answers.failures)

  -- what the device was asked to write, with what it was for the line
  pub asked_more : Wrote (pages_of_run (past.transcript ++ option_to_list next_answers.did)) old.device.history new.device.history
  asked_more = subst (λ (ps : List Slot). Wrote ps old.device.history new.device.history)
      (sym (flat_map-append (λ (e : Exchange). pages_written e.reply.notes) past.transcript (option_to_list next_answers.did)))
      (wrote-then old.device.history now.device.history new.device.history (pages_of_run past.transcript)
      (pages_of_run (option_to_list next_answers.did)) so_far.asked next_answers.asked)

  -- the kernel after the line
  pub kernel_more : (lines : List (List ℕ)) (last : Option (List ℕ)) →
      IsHandedBack k' new.device n
      (record { lines = lines; last = last; transcript = past.transcript ++ option_to_list next_answers.did; state = next_answers.next })
  kernel_more lines last =
      let a = next_answers in
      let kept = so_far.kernel_left in
      record {
        stands = a.stands;
        frames = a.counts.frames ∙ kept.frames;
        steps = omega (arith, a.counts.steps, kept.steps, length-append past.transcript (option_to_list a.did));
        tally = a.counts.tally ∙ ap (tally_of (option_to_list a.did)) kept.tally
            ∙ sym (tally_of-append past.transcript (option_to_list a.did) none_counted);
        unspent = a.counts.spent kept.unspent;
        attached = takes.device.sizes ∙ kept.attached ∙ ap sizes_of (sym a.counts.sizes);
      }

  -- the text with the next one
  pub text_more : text_of_run past.transcript ++ text ≡ text_of_run (past.transcript ++ option_to_list next_answers.did)
  text_more = ap (λ (t : List ℕ). text_of_run past.transcript ++ t) next_answers.said
      ∙ sym (flat_map-append (λ (e : Exchange). text_of e.reply) past.transcript (option_to_list next_answers.did))

pub goes_on : (n : ℕ) (past : Past) (ahead rest : List ℕ) (old now new : PortsView) (k k' : Machine) (line text : List ℕ)
    (so_far : SoFar n past ahead old now k)
    (takes : TakesLine ahead now new k k' line (10 ∷ []) rest text text) (unfailed : AreUnfailed now new)
    (stays_open : StaysOpen now.source new.source) →
    SoFar n (longer past line (next_answers n past ahead old now new k k' line (10 ∷ []) rest text text so_far takes).did
    (next_answers n past ahead old now new k k' line (10 ∷ []) rest text text so_far takes).next) rest old new k'
goes_on n past ahead rest old now new k k' line text so_far takes unfailed stays_open =
    let a = next_answers n past ahead old now new k k' line (10 ∷ []) rest text text so_far takes in
    record {
      read = subst (Took old.source.left (undone rest new)) (sym (joined-push past.lines line))
          (read_more n past ahead old now new k k' line (10 ∷ []) rest text text so_far takes);
      near = takes.near;
      lines = all_push IsLine past.lines line so_far.lines takes.is_line;
      commands = Transcribes-push past.lines past.transcript line a.did so_far.commands a.commands;
      legal = legal_more n past ahead old now new k k' line (10 ∷ []) rest text text so_far takes;
      failures = failures_more n past ahead old now new k k' line (10 ∷ []) rest text text so_far takes;
      asked = asked_more n past ahead old now new k k' line (10 ∷ []) rest text text so_far takes;
      wrote = subst (Gained old.sink.held new.sink.held) (text_more n past ahead old now new k k' line (10 ∷ []) rest text text so_far takes)
          (wrote_more n past ahead old now new k k' line (10 ∷ []) rest text text so_far takes);
      kernel_left = kernel_more n past ahead old now new k k' line (10 ∷ []) rest text text so_far takes (past.lines ++ line ∷ []) None;
      device = device_more n past ahead old now new k k' line (10 ∷ []) rest text text so_far takes;
      unfailed = unfailed_then old now new so_far.unfailed unfailed;
      stays_open = λ untold. stays_open (so_far.stays_open untold);
    }
