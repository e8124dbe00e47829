-- A line that a turn takes, and why a turn halts.
use Rattle.std.proofs.Common.{◌≡◌, ℕ, ◌+◌, ◌<◌, List, [], ◌∷◌, ◌++◌, ◌⊎◌, length, take, drop, Option, Some, Bool, true, false, refl, sym, ap, subst, ◌∙◌}
use Rattle.std.proofs.Common.{append_assoc, append-nil, arith, inl, inr, length-drop}
use Rattle.std.specs.Prelude.{option_map}
use Rattle.std.proofs.lemmas.List.{take_all, drop_all}
use Rattle.av_kernel.specs.Machine.{Machine}
use Rattle.av_plain.specs.Device.{Device, IsSameDevice}
use Rattle.av_io.specs.Source.{SourceView, in_front}
use Rattle.av_io.specs.Sink.{SinkView}
use Rattle.av_ports.specs.declared.line.Line.{Line}
use Rattle.av_ports.specs.declared.run_err.RunErr.{RunErr}
use Rattle.av_ports.specs.declared.run_err.RunErr.TheVariants as errors
use Rattle.av_ports.specs.Ports.{PortsView, AreUnfailed, IsAtEnd, ReadsOn, Writes}
use Rattle.std.proofs.lemmas.Bool.{cases_Bool}
use Rattle.av_trace.specs.Line.{Says}
use Rattle.av_trace.specs.declared.command.Command.{Command}
use Rattle.av_kernel.specs.Step.{has_device}
use Rattle.av_replay.specs.KernelPorts.{OnlyDevice}
use Rattle.av_replay.specs.Turn.{Begins, HandsDeviceNext, LeavesDevice, LeavesSource}
use Rattle.av_ports.specs.Line.{IsLine, HasLine, IsNext, StopsReading}
use Rattle.av_replay.specs.Turn.{DoesLine, IsCut, IsNotAnswered, IsNotDone, StandsNext, IsEnding, TakesLine, CutsShort, Halts}
use Rattle.av_ports.proofs.Bytes.{in_front-then}
use Rattle.av_ports.proofs.Times.{failed_since}

-- a line that isn't done leaves the device, unless it hands it to its command
pub handed_or_left : (line : List ℕ) (command : Command) (old new : PortsView) → Says line (Some command)
    → (has_device command ≡ false → new.device ≡ old.device) → LeavesDevice line old new
handed_or_left line command old new says left =
    elim (cases_Bool (has_device command)) [ inl handed ↦ inr (command, says, handed) | inr not ↦ inl (left not) ]

-- a line that wasn't done has no text
pub not_answered : (error : RunErr) (line : List ℕ) (old new : PortsView) (k k' : Machine) → OnlyDevice old new → IsNotDone error line old new k k'
    → IsNotAnswered error line old new k k'
not_answered errors.BadLine line old new k k' only not = not
not_answered errors.Memory line old new k k' only not = inl (only.sink, not)
not_answered errors.Read line old new k k' only not = absurd not
not_answered errors.Write line old new k k' only not = absurd not

-- how the line in front ends
pub record EndsBy (line : Line) (ahead ending : List ℕ) (source : SourceView) : Type 0 where
  pub is_line : IsLine (take line.size ahead)
  pub parts : ahead ≡ (take line.size ahead ++ ending) ++ drop line.whole ahead
  pub ends : IsEnding (take line.size ahead) ending (drop line.whole ahead) source
  pub next : StandsNext (take line.size ahead) ahead source

ends_line : (line : Line) (ahead : List ℕ) (source : SourceView) → HasLine line.size ahead → line.whole ≡ line.size + 1 →
    EndsBy line ahead (10 ∷ []) source
ends_line line ahead source has whole =
    let front = take line.size ahead in
    record {
      is_line = has.line;
      parts = has.newline ∙ sym (append_assoc front (10 ∷ []) (drop (line.size + 1) ahead))
          ∙ ap (λ (k : ℕ). (front ++ 10 ∷ []) ++ drop k ahead) (sym whole);
      ends = inl refl;
      next = inl (drop (line.size + 1) ahead, has.newline);
    }

ends_last : (line : Line) (ahead : List ℕ) (source : SourceView) → IsLine ahead → line.size ≡ length ahead → 0 < line.size → line.whole ≡ line.size →
    IsAtEnd source → EndsBy line ahead [] source
ends_last line ahead source is_line size some whole end =
    let front = take line.size ahead in
    let all : front ≡ ahead = take_all line.size ahead (omega arith) in
    let none : drop line.whole ahead ≡ [] = drop_all line.whole ahead (omega arith) in
    let long : 0 < length front = subst (λ (l : List ℕ). 0 < length l) (sym all) (omega arith) in
    record {
      is_line = subst IsLine (sym all) is_line;
      parts = sym (ap (λ (l : List ℕ). (front ++ []) ++ l) none ∙ append-nil (front ++ []) ∙ append-nil front ∙ all);
      ends = inr (refl, none, long, end);
      next = inr (sym all, long, end);
    }

module _ (ahead mid : List ℕ) (old now new : PortsView) (k k' : Machine) (line : Line) (reads : ReadsOn ahead mid old now)
    (leaves : LeavesSource now new) where
  -- the line is done, and this was written
  takes : (ending text written : List ℕ) → EndsBy line mid ending new.source → DoesLine (take line.size mid) now.device new.device k k' text →
      Writes now.sink new.sink written → TakesLine ahead old new k k' (take line.size mid) ending (drop line.whole mid) text written
  takes ending text written by does writes = record {
    is_line = by.is_line;
    took = sym reads.same ∙ ap (λ (s : SourceView). in_front mid s.left) (sym leaves.source)
        ∙ ap (λ (l : List ℕ). in_front l new.source.left) by.parts
        ∙ in_front-then (take line.size mid ++ ending) (drop line.whole mid) new.source.left;
    ends = by.ends;
    near = omega (arith, length-drop line.whole mid, reads.near);
    does = subst (λ d. DoesLine (take line.size mid) d new.device k k' text) reads.device does;
    gained = writes.gained ∙ ap (λ (h : Option (List ℕ)). option_map (λ (t : List ℕ). t ++ written) h) reads.held;
    device = subst (λ (d : Device). IsSameDevice d new.device) reads.device leaves.device;
  }

  cuts : (ending : List ℕ) → EndsBy line mid ending new.source → IsCut (take line.size mid) now new k k' → CutsShort ahead old new k k'
  cuts ending by cut = record {
    line = take line.size mid;
    ending = ending;
    rest = drop line.whole mid;
    text = cut.text;
    size = cut.size;
    short = cut.short;
    takes = takes ending cut.text (take cut.size cut.text) by cut.does cut.writes;
  }

  -- the device is as it was, unless the line hands it to its command
  used_by : (ending : List ℕ) → EndsBy line mid ending new.source → LeavesDevice (take line.size mid) now new
      → (new.device ≡ old.device) ⊎ HandsDeviceNext mid new.source
  used_by ending by (inl same) = inl (same ∙ reads.device)
  used_by ending by (inr hands) = inr (take line.size mid, by.is_line, hands, by.next)

  begins : new.sink ≡ now.sink → (new.device ≡ old.device) ⊎ HandsDeviceNext mid new.source → Begins ahead mid old new
  begins e used = record {
    same = ap (λ (s : SourceView). in_front mid s.left) leaves.source ∙ reads.same;
    held = ap (λ (s : SinkView). s.held) e ∙ reads.held;
    device = subst (λ (d : Device). IsSameDevice d new.device) reads.device leaves.device;
    used = used;
    near = reads.near;
  }

  halts_by : (ending : List ℕ) (error : RunErr) → AreUnfailed old now → EndsBy line mid ending new.source →
      IsNotAnswered error (take line.size mid) now new k k' → Halts error ahead mid old new k k'
  halts_by ending errors.BadLine was by not =
      (record { reads = subst (ReadsOn ahead mid old) (sym not.2) reads; kernel = not.1 }, inr (take line.size mid, by.is_line, not.0, by.next))
  halts_by ending errors.Memory was by (inl same) = inl (begins same.0 (used_by ending by same.1))
  halts_by ending errors.Memory was by (inr cut) = inr (cuts ending by cut)
  halts_by ending errors.Write was by not = (inl (cuts ending by not.0), failed_since old.sink now.sink new.sink was.sink not.1)
  halts_by ending errors.Read was by not = absurd not

  at_end : IsAtEnd now.source → IsAtEnd new.source
  at_end = subst IsAtEnd (sym leaves.source)

  -- a line stood in front, and was not done, or its text not written
  pub halts : (error : RunErr) → AreUnfailed old now → IsNext line mid old.source now.source →
      IsNotAnswered error (take line.size mid) now new k k' → Halts error ahead mid old new k k'
  halts error was (inl next) not = halts_by (10 ∷ []) error was (ends_line line mid new.source next.0 next.1) not
  halts error was (inr next) not = halts_by [] error was (ends_last line mid new.source next.0 next.1 next.2 next.3 (at_end next.4)) not

-- no line could be read
pub unread : (error : RunErr) (ahead mid : List ℕ) (old now : PortsView) (k : Machine) → ReadsOn ahead mid old now → StopsReading error mid old now →
    Halts error ahead mid old now k k
unread errors.BadLine ahead mid old now k reads stops = (record { reads = reads; kernel = refl }, inl stops)
unread errors.Read ahead mid old now k reads stops = (record { reads = reads; kernel = refl }, stops.0, stops.1)
unread errors.Write ahead mid old now k reads stops = (
  inr (record { waits = record { reads = reads; kernel = refl }; part = stops.0; untold = stops.1.0 }),
  stops.1.1,
)
unread errors.Memory ahead mid old now k reads stops = absurd stops.1
