-- An audit of a good trace, the mark and a transcript stops neither at a line nor behind the most
-- lines.
use Rattle.std.proofs.Common.{◌≡◌, ◌∙◌, ℕ, ◌<◌, ◌≤◌, ◌^◌, Bool, true, false, sym, ap, subst, arith}
use Rattle.std.proofs.Common.{List, [], ◌∷◌, ◌++◌, length, take, drop, Option, Some, append_assoc, inl, inr, length-append, length-take-le}
use Rattle.std.specs.List.{AllByRecursion}
use Rattle.std.proofs.lemmas.List.{take-append-drop}
use Rattle.std.proofs.lemmas.List.Elements.{All-cons, All-nil}
use Rattle.av_io.specs.Source.{Took, in_front}
use Rattle.av_trace.specs.declared.command.Command.{Command}
use Rattle.av_trace.specs.Line.{Says}
use Rattle.av_plain.specs.Ledger.{Setting}
use Rattle.av_ports.specs.Line.{IsLine, IsNoNewline, IsTooLong}
use Rattle.av_ports.specs.Ports.{PortsView, undone}
use Rattle.av_audit_input.specs.Input.{IsEnded}
use Rattle.av_audit_input.specs.Trace.{AreSaid, EndsTrace, IsBad, IsNoMark, IsTrace, IsTraceLine, StopsWithin, TakesTrace, all_lines, mark}
use Rattle.av_audit_input.specs.Unit.{bytes_of, most_bytes}
use Rattle.av_audit_input.specs.declared.input_err.InputErr.{InputErr}
use Rattle.av_audit_input.specs.declared.input_err.InputErr.TheVariants as input
use Rattle.av_audit_run.specs.Transcript.{AuditStops, BreaksOff, IsFront}
use Rattle.av_audit_run.specs.declared.transcript.Finding.TheVariants as findings
use Rattle.av_audit_run.proofs.Front.{begin, found, front-one, good-behind, marked}
use Rattle.av_ports.proofs.Times.{failed_since}
use Rattle.av_replay.specs.Audit.{EndsAudit, IsJudged}
use Rattle.av_replay.specs.Trace.{lines_of}
use Rattle.av_replay.specs.declared.status.Status.{Status}
use Rattle.av_replay.specs.declared.status.Status.TheVariants as statuses
use Rattle.av_replay.proofs.Traces.{Told, ended_is_nil, line_next, lines_of-joined, starts_long, told}

-- why an audit of a good trace may stop
abbrev MayStop : InputErr → List ℕ → Type 0
MayStop (input.BadLine n) transcript = ⊥
MayStop input.TooMany transcript = ⊥
MayStop input.TooLong transcript = most_bytes < length transcript
MayStop input.Read transcript = Unit {0}
MayStop input.Write transcript = Unit {0}
MayStop input.Memory transcript = Unit {0}

-- ---- the line that stands next

same-first : (u v : List ℕ) (us vs : List (List ℕ)) → u ∷ us ≡ v ∷ vs → u ≡ v
same-first u v us vs e = cc

too-long : (ahead left line : List ℕ) (others : List (List ℕ)) → length line ≤ 8448 → lines_of (ahead ++ left) ≡ line ∷ others
    → IsTooLong ahead → ⊥
too-long ahead left line others short are long =
    let front = take 8449 ahead in
    let len : length front ≡ 8449 = length-take-le 8449 ahead (omega (arith, long.long)) in
    let parts : ahead ++ left ≡ front ++ (drop 8449 ahead ++ left) = ap (λ (r : List ℕ). r ++ left) (sym (take-append-drop 8449 ahead))
    ∙ append_assoc front (drop 8449 ahead) left in
    let f = starts_long front (drop 8449 ahead ++ left) long.one (omega (arith, len)) in
    let same : f.line ≡ line = same-first f.line line f.others others (sym f.are ∙ sym (ap lines_of parts) ∙ are) in
    omega (arith, f.long, len, short, ap length same)

module _ (ahead left : List ℕ) (others : List (List ℕ)) (now : PortsView) (left_is : now.source.left ≡ Some left) where
  -- it is a line of a trace
  not-bad : (line : List ℕ) (command : Option Command) → lines_of (ahead ++ left) ≡ line ∷ others → IsLine line → Says line command
      → IsBad ahead now → ⊥
  not-bad line command are is says (inl long) = too-long ahead left line others is.short are long
  not-bad line command are is says (inr (first, good, nothing, stands)) =
      let next = line_next first ahead left now.source left_is good.is_line stands in
      let same : line ≡ first = same-first line first others next.others (sym are ∙ next.are) in
      nothing command (subst (λ (l : List ℕ). Says l command) same says)

  -- it is the mark
  is-mark : lines_of (ahead ++ left) ≡ mark ∷ others → IsNoMark ahead now → ⊥
  is-mark are (inl long) = too-long ahead left mark others (omega arith) are long
  is-mark are (inr (first, good, stands)) =
      let next = line_next first ahead left now.source left_is good.is_line stands in
      good.unmarked (same-first first mark next.others others (sym next.are ∙ are))

no-mark-where-bad : (ahead : List ℕ) (now : PortsView) → IsBad ahead now → IsNoMark ahead now
no-mark-where-bad ahead now (inl long) = inl long
no-mark-where-bad ahead now (inr (line, is, nothing, stands)) = inr (line, is, stands)

mark-line : IsLine mark
mark-line = record {
  one = All-cons IsNoNewline 37 (37 ∷ []) (λ e. omega (arith, e)) (All-cons IsNoNewline 37 [] (λ e. omega (arith, e)) (All-nil IsNoNewline));
  short = omega arith;
}

with-mark : (lines : List (List ℕ)) → AllByRecursion IsTraceLine lines → AllByRecursion IsLine (lines ++ mark ∷ [])
with-mark [] all = (mark-line, tt)
with-mark (line ∷ lines) all = (all.0.is_line, with-mark lines all.1)

-- ---- what is taken of an input that is told

-- these bytes were taken, and this is left
taken : (ahead ahead' bytes content : List ℕ) (old now : PortsView) → undone ahead old ≡ Some content
    → Took (undone ahead old) (undone ahead' now) bytes → Told content bytes (undone ahead' now)
taken ahead ahead' bytes content old now is took =
    told content bytes (undone ahead' now) (subst (λ o. Took o (undone ahead' now) bytes) is took)

-- of which this was read, and this not
left-of : (ahead more : List ℕ) (now : PortsView) → undone ahead now ≡ Some more → Told more ahead now.source.left
left-of ahead more now is = told more ahead now.source.left (sym is)

ended : (ahead more : List ℕ) (now : PortsView) → undone ahead now ≡ Some more → IsEnded ahead now → more ≡ []
ended ahead more now is end =
    let t = left-of ahead more now is in
    t.parts ∙ ap (λ (bytes : List ℕ). bytes ++ t.more) end.0 ∙ ended_is_nil now.source.left t.more t.left_is end.1.ended

front-is : (end : Bool) (lines : List (List ℕ)) (bytes ahead transcript : List ℕ) (old now : PortsView)
    → EndsTrace end lines bytes ahead old now → undone ahead now ≡ Some transcript → IsFront lines bytes transcript
front-is false lines bytes ahead transcript old now ends is = inl ends.0
front-is true lines bytes ahead transcript old now ends is = inr (ends.0, ended ahead transcript now is ends.1)

-- ---- the lines of a trace

-- each line says something
says-some : (front : List (List ℕ)) (line : List ℕ) (others : List (List ℕ)) (commands : List Command) → AreSaid (front ++ line ∷ others) commands
    → (command : Option Command) × Says line command
says-some [] line others commands h = (h.0, h.3)
says-some (x ∷ front) line others commands h = says-some front line others h.1 h.4

-- the first lines were taken, and the others stand next, before the mark
record Stand (lines front : List (List ℕ)) (transcript ahead : List ℕ) (now : PortsView) : Type 0 where
  others : List (List ℕ)
  are : lines ≡ front ++ others
  left : List ℕ
  left_is : now.source.left ≡ Some left
  next : lines_of (ahead ++ left) ≡ (others ++ mark ∷ []) ++ lines_of transcript

module _ (lines : List (List ℕ)) (commands : List Command) (transcript : List ℕ) (trace : IsTrace lines commands) where
  stand : (front : List (List ℕ)) (ahead : List ℕ) (old now : PortsView) → AllByRecursion IsTraceLine front
      → undone [] old ≡ Some (marked lines ++ transcript) → Took (undone [] old) (undone ahead now) (all_lines front)
      → Stand lines front transcript ahead now
  stand front ahead old now good is took =
      let t = taken [] ahead (all_lines front) (marked lines ++ transcript) old now is took in
      let b = begin lines front transcript t.more trace.good good t.parts in
      let l = left-of ahead t.more now t.left_is in
      record {
        others = b.others;
        are = b.are;
        left = l.more;
        left_is = l.left_is;
        next = ap lines_of (sym l.parts ∙ b.rest_is)
            ∙ lines_of-joined (b.others ++ mark ∷ []) transcript
            (with-mark b.others (good-behind front b.others (subst (AllByRecursion IsTraceLine) b.are trace.good)));
      }

  none-bad : (front : List (List ℕ)) (ahead : List ℕ) (now : PortsView) → Stand lines front transcript ahead now → IsBad ahead now → ⊥
  none-bad front ahead now s bad = by s.others s.are s.next
    where
      by : (others : List (List ℕ)) → lines ≡ front ++ others → lines_of (ahead ++ s.left) ≡ (others ++ mark ∷ []) ++ lines_of transcript → ⊥
      by [] are next = is-mark ahead s.left (lines_of transcript) now s.left_is next (no-mark-where-bad ahead now bad)
      by (line ∷ others) are next =
          let command = says-some front line others commands (subst (λ (ls : List (List ℕ)). AreSaid ls commands) are trace.says) in
          let good = good-behind front (line ∷ others) (subst (AllByRecursion IsTraceLine) are trace.good) in
          not-bad ahead s.left ((others ++ mark ∷ []) ++ lines_of transcript) now s.left_is line command.0 next good.0.is_line command.1 bad

  none-more : (front : List (List ℕ)) (ahead : List ℕ) (now : PortsView) → Stand lines front transcript ahead now → length front ≡ 2 ^ 24
      → IsNoMark ahead now → ⊥
  none-more front ahead now s most no_mark = by s.others s.are s.next
    where
      by : (others : List (List ℕ)) → lines ≡ front ++ others → lines_of (ahead ++ s.left) ≡ (others ++ mark ∷ []) ++ lines_of transcript → ⊥
      by [] are next = is-mark ahead s.left (lines_of transcript) now s.left_is next no_mark
      by (line ∷ others) are next = omega (arith, trace.few, most, ap length are, length-append front (line ∷ others))

  within : (error : InputErr) (ahead : List ℕ) (old now : PortsView) → undone [] old ≡ Some (marked lines ++ transcript)
      → StopsWithin error [] ahead old now → MayStop error transcript
  within (input.BadLine n) ahead old now is h =
      none-bad h.lines ahead now (stand h.lines ahead old now h.trace.good is h.took) h.stops.1.1
  within input.TooMany ahead old now is h =
      none-more h.lines ahead now (stand h.lines ahead old now h.trace.good is h.took) h.stops.0 h.stops.1
  within input.TooLong ahead old now is h = absurd h.stops
  within input.Read ahead old now is h = tt
  within input.Write ahead old now is h = tt
  within input.Memory ahead old now is h = tt

  -- the trace was taken to its mark
  behind-trace : (end : Bool) (cs : List Command) (ahead : List ℕ) (old now : PortsView)
      → undone [] old ≡ Some (marked lines ++ transcript) → TakesTrace end cs [] ahead old now → undone ahead now ≡ Some transcript
  behind-trace end cs ahead old now is h =
      let t = taken [] ahead h.bytes (marked lines ++ transcript) old now is h.took in
      let same = front-one lines h.lines trace.good h.trace.good transcript h.bytes t.more t.parts
      (front-is end h.lines h.bytes ahead t.more old now h.ends t.left_is) in
      t.left_is ∙ ap Some same.1

  breaks-off : (error : InputErr) (m : Setting) (cs : List Command) (before : Option (List ℕ)) (rest : List ℕ) (new : PortsView)
      → before ≡ Some transcript → BreaksOff error m cs before rest new → MayStop error transcript
  breaks-off (input.BadLine n) m cs before rest new is h = h.stops.stops
  breaks-off input.TooMany m cs before rest new is h = h.stops.stops
  breaks-off input.TooLong m cs before rest new is h =
      let units = bytes_of h.units in
      let a = told transcript units h.between (subst (λ o. Took o h.between units) is h.cuts.took) in
      let b = told a.more h.unit (undone rest new) (subst (λ o. Took o (undone rest new) h.unit) a.left_is h.stops.took) in
      let c = left-of rest b.more new b.left_is in
      let over = h.stops.stops in
      omega (
        arith,
        h.counts,
        over.4,
        ap length a.parts,
        length-append units a.more,
        ap length b.parts,
        length-append h.unit b.more,
        ap length c.parts,
        length-append rest c.more,
        ap length over.2,
        length-append over.0 over.1,
        length-append h.unit over.0,
      )
  breaks-off input.Read m cs before rest new is h = tt
  breaks-off input.Write m cs before rest new is h = tt
  breaks-off input.Memory m cs before rest new is h = tt

  module _ (m : Setting) (old new : PortsView) (left : old.source.left ≡ Some (marked lines ++ transcript)) where
    audit-stops : (error : InputErr) → AuditStops error m old new → MayStop error transcript
    audit-stops error (inl memory) = subst (λ e. MayStop e transcript) (sym memory.0) tt
    audit-stops error (inr (inl (rest, h))) = within error rest old new (ap (in_front []) left) h
    audit-stops error (inr (inr (cs, ahead, rest, between, end, takes, h))) =
        breaks-off error m cs (undone ahead between) rest new (behind-trace end cs ahead old between (ap (in_front []) left) takes) h

    pub judged : (status : Status) → EndsAudit status m old new → IsJudged status m commands transcript old new
    judged statuses.Done ends = found lines commands transcript findings.Legal m old ends.0 trace left ends.1.0
    judged (statuses.Illegal n) ends = found lines commands transcript (findings.Illegal n) m old new trace left ends.0
    judged (statuses.BadLine n) ends = audit-stops (input.BadLine n) ends.0
    judged statuses.TooMany ends = audit-stops input.TooMany ends.0
    judged statuses.TooLong ends = audit-stops input.TooLong ends.0
    judged statuses.ReadFault ends = ends.2.read
    judged statuses.WriteFault (inl stops) = stops.2.sink
    judged statuses.WriteFault (inr writes) = failed_since old.sink writes.0.sink new.sink writes.1.2.sink writes.3.2
    judged statuses.Memory ends = tt
    judged statuses.Usage ends = ends
    judged statuses.AttachFault ends = ends
