-- A run, and an audit of what it wrote, from the words on.
use Rattle.std.proofs.Common.{◌≡◌, ◌∙◌, ℕ, zero, suc, ◌<◌, ◌≤◌, ◌^◌, true, false, sym}
use Rattle.std.proofs.Common.{ap, subst, arith, List, [], ◌∷◌, ◌++◌, length, Option, Some, None, inl, inr}
use Rattle.std.specs.Prelude.{IfSome, is_some, option_map, slice_get}
use Rattle.std.specs.List.{AllByRecursion}
use Rattle.std.specs.Option.{option_to_list}
use Rattle.std.proofs.lemmas.List.{append_cancel_left}
use Rattle.std.proofs.lemmas.Option.{same_Some}
use Rattle.av_text.specs.Number.{IsWide}
use Rattle.av_plain.specs.Device.{Device, setting_of}
use Rattle.av_plain.specs.Ledger.{Setting}
use Rattle.av_trace.specs.declared.command.Command.{Command}
use Rattle.av_kernel.specs.Machine.{Machine}
use Rattle.av_audit_machine.specs.Heads.{IsSettingOf}
use Rattle.av_mem.proofs.ServesLaws.{same-setting}
use Rattle.av_io.specs.Sink.{Gained}
use Rattle.av_ports.specs.Line.{IsLine}
use Rattle.av_ports.specs.Ports.{IsAtEnd, PortsView}
use Rattle.av_laws.proofs.ReadBack.Device.{small-device}
use Rattle.av_audit_input.specs.Trace.{IsTrace}
use Rattle.av_audit_input.specs.Unit.{units_of}
use Rattle.av_audit_run.specs.Transcript.{AreLegal}
use Rattle.av_audit_run.proofs.Findings.{legal-or-stopped}
use Rattle.av_words.specs.declared.words.Asked.{Asked}
use Rattle.av_replay.specs.Audit.{EndsAudit, IsJudged, legal_text}
use Rattle.av_replay.specs.Over.{AuditsOver, DoesOver, ReplaysOver}
use Rattle.av_replay.specs.Replay.{Transcribes}
use Rattle.av_replay.specs.TopCall.{DoesAsked}
use Rattle.av_replay.specs.Trace.{lines_of}
use Rattle.av_replay.specs.declared.status.Status.{Status}
use Rattle.av_replay.specs.declared.status.Status.TheVariants as statuses
use Rattle.av_replay.proofs.AuditTraces.{judged}
use Rattle.av_replay.proofs.Traces.{all_done}
use Rattle.av_round_laws.specs.Round.{AuditEnds, FindsLegal, RunWrites, SayAlike, input_of}
use Rattle.av_round_laws.proofs.Legal.{units-legal}
use Rattle.av_round_laws.proofs.Commands.{commands_of, in-range, no-more, says-all, unmarked}
use Rattle.av_round_laws.proofs.Asks.{asks-audit, asks-run}

-- ---- a run

-- its lines say these commands, and what it wrote is legal for them over this device
pub record IsRunOf (frames : ℕ) (trace transcript : List ℕ) (device : Device) : Type 0 where
  pub commands : List Command
  pub is_trace : IsTrace (lines_of trace) commands
  pub legal : AreLegal (setting_of frames device) commands (units_of transcript)

are-lines : (lines : List (List ℕ)) (last : Option (List ℕ)) (rest : List ℕ) (new : PortsView) → AllByRecursion IsLine lines
    → IfSome last (λ line. IsLine line × (0 < length line) × (rest ≡ []) × IsAtEnd new.source)
    → AllByRecursion IsLine (lines ++ option_to_list last)
are-lines [] None rest new all last = tt
are-lines [] (Some line) rest new all last = (last.0, tt)
are-lines (line ∷ lines) last rest new all is = (all.0, are-lines lines last rest new all.1 is)

-- the sizes of areas are of 64 bits
wide-sizes : (pages : List ℕ) (k : ℕ) → AllByRecursion (λ n. n ≤ 1048576) pages → IfSome (slice_get pages k) IsWide
wide-sizes [] k small = tt
wide-sizes (n ∷ pages) zero small = omega (arith, small.0)
wide-sizes (n ∷ pages) (suc k) small = wide-sizes pages k small.1

-- what a sink gained is one text
same-text : (before transcript written : List ℕ) (old new : Option (List ℕ)) → old ≡ Some before → new ≡ Some (before ++ transcript)
    → new ≡ option_map (λ (text : List ℕ). text ++ written) old → transcript ≡ written
same-text before transcript written old new held wrote gained =
    append_cancel_left before transcript written (same_Some (before ++ transcript) (before ++ written)
    (sym wrote ∙ gained ∙ ap (option_map (λ (text : List ℕ). text ++ written)) held))

run-over : (frames : ℕ) (names : List (List ℕ)) (trace transcript before : List ℕ) (old new : PortsView) (kernel : Option Machine)
    → IsWide frames → ReplaysOver frames names statuses.Done old new kernel → old.source.left ≡ Some trace → old.sink.held ≡ Some before
    → new.sink.held ≡ Some (before ++ transcript) → IsRunOf frames trace transcript new.device
run-over frames names trace transcript before old new kernel wide over read held wrote =
    let from : PortsView = record old { device = over.attached } in
    let h = over.does.headline in
    let r = h.replays in
    let run = h.run in
    let ends = h.ends in
    let are = all_done frames from new run h.rest h.written trace r ends.0.0 ends.0.1 read in
    let did = subst (λ (ls : List (List ℕ)). Transcribes ls run.transcript) (sym are) r.commands in
    let is = subst (AllByRecursion IsLine) (sym are) (are-lines run.lines run.last h.rest new r.lines r.last) in
    let few = subst (λ (ls : List (List ℕ)). length ls ≤ 2 ^ 24) (sym are) r.few in
    let text = same-text before transcript h.written old.sink.held new.sink.held held wrote r.wrote ∙ ends.1 in
    let sizes = subst (λ (sizes : ℕ → Option ℕ). (k : ℕ) → IfSome (sizes k) IsWide) (sym over.attaches.sizes)
    (λ k. wide-sizes over.pages k over.attaches.small) in
    let legal = units-legal (setting_of frames over.attached) run.transcript run.state (small-device frames over.attached wide sizes)
    (omega (arith, few, no-more (lines_of trace) run.transcript did)) (in-range (lines_of trace) run.transcript did) r.legal in
    record {
      commands = commands_of run.transcript;
      is_trace = record {
        good = unmarked (lines_of trace) run.transcript is did;
        few = few;
        says = says-all (lines_of trace) run.transcript did;
      };
      legal = subst (λ (m : Setting). AreLegal m (commands_of run.transcript) (units_of transcript))
          (sym (same-setting frames over.attached new.device r.device))
          (subst (λ (bytes : List ℕ). AreLegal (setting_of frames over.attached) (commands_of run.transcript) (units_of bytes)) (sym text) legal);
    }

run-of : (frames : ℕ) (trace transcript : List ℕ) (device : Device) → RunWrites frames trace transcript device
    → IsRunOf frames trace transcript device
run-of frames trace transcript device h = subst (IsRunOf frames trace transcript) h.device_is (by h.does)
  where
    wide : IsWide frames
    wide = omega (arith, h.form.within.most)

    by : DoesAsked h.words statuses.Done h.old h.new h.kernel → IsRunOf frames trace transcript h.new.device
    by (inl wants) = absurd (never wants.0)
      where
        never : statuses.Done ≡ statuses.Memory → ⊥
        never e = cc
    by (inr (demand, names, form, does)) =
        run-over frames names trace transcript h.before h.old h.new h.kernel wide
        (subst (λ (d : Asked). DoesOver d names statuses.Done h.old h.new h.kernel) (asks-run h.words h.names names frames demand h.form form) does)
        h.read h.held h.wrote

-- ---- an audit

-- where a device tells its pages, a machine over it has its setting
one-setting : (frames : ℕ) (d : Device) (m : Setting) → is_some d.pages ≡ true → IsSettingOf frames d m → m ≡ setting_of frames d
one-setting frames d m told is =
    is.2 ∙ ap (λ (pages : Option (ℕ → ℕ → List ℕ)). setting_of frames (record d { pages = pages })) (by d.pages told is.1)
  where
    by : (pages : Option (ℕ → ℕ → List ℕ)) → is_some pages ≡ true → IfSome pages (λ pages. pages ≡ is.0) → Some is.0 ≡ pages
    by None told h = absurd (never told)
      where
        never : false ≡ true → ⊥
        never e = cc
    by (Some pages) told h = ap Some (sym h)

alike-setting : (frames : ℕ) (device other : Device) → SayAlike device other → setting_of frames other ≡ setting_of frames device
alike-setting frames device other alike = λ i. record { frames = frames; sizes = alike.sizes i; headers = alike.headers i }

module _ (frames : ℕ) (trace transcript : List ℕ) (device : Device) (run : IsRunOf frames trace transcript device) where
  -- an audit that began with these areas attached
  audit-ends : (status : Status) (m : Setting) (old new : PortsView) (attached : Device) → (new.device ≡ attached → m ≡ setting_of frames device)
      → old.source.left ≡ Some (input_of trace transcript) → EndsAudit status m (record old { device = attached }) new
      → FindsLegal status transcript old new
  audit-ends status m old new attached same read ends =
      by status ends (judged (lines_of trace) run.commands transcript run.is_trace m (record old { device = attached }) new read status ends)
    where
      by : (status : Status) → EndsAudit status m (record old { device = attached }) new
          → IsJudged status m run.commands transcript (record old { device = attached }) new → FindsLegal status transcript old new
      by (statuses.Illegal n) ends is =
          legal-or-stopped m run.commands (units_of transcript) n
          (subst (λ (m : Setting). AreLegal m run.commands (units_of transcript)) (sym (same ends.1.device)) run.legal) is
      by (statuses.BadLine n) ends is = is
      by statuses.TooMany ends is = is
      by statuses.TooLong ends is = is
      by statuses.Done ends is = subst (λ (held : Option (List ℕ)). Gained held new.sink.held legal_text) ends.1.1.held ends.3.0
      by statuses.ReadFault ends is = is
      by statuses.WriteFault ends is = is
      by statuses.Memory ends is = tt
      by statuses.Usage ends is = is
      by statuses.AttachFault ends is = is

  audit-over : (names : List (List ℕ)) (status : Status) (old new : PortsView) (other : Device) → new.device ≡ other → SayAlike device other
      → AuditsOver frames names status old new → old.source.left ≡ Some (input_of trace transcript) → FindsLegal status transcript old new
  audit-over names status old new other is alike over read =
      let does = over.does in
      audit-ends status does.0 old new over.attached
      (λ (same : new.device ≡ over.attached). let d = sym same ∙ is in
      one-setting frames over.attached does.0 (ap (λ (d : Device). is_some d.pages) d ∙ alike.told) does.1
      ∙ ap (setting_of frames) d ∙ alike-setting frames device other alike)
      read does.2

pub found-legal : (frames : ℕ) (trace transcript : List ℕ) (status : Status) (device other : Device) → RunWrites frames trace transcript device
    → (audit : AuditEnds frames (input_of trace transcript) status other) → SayAlike device other
    → FindsLegal status transcript audit.old audit.new
found-legal frames trace transcript status device other run h alike = by h.does
  where
    by : DoesAsked h.words status h.old h.new h.kernel → FindsLegal status transcript h.old h.new
    by (inl wants) = subst (λ (s : Status). FindsLegal s transcript h.old h.new) (sym wants.0) tt
    by (inr (demand, names, form, does)) =
        let over = subst (λ (d : Asked). DoesOver d names status h.old h.new h.kernel) (asks-audit h.words h.names names frames demand h.form form)
        does in
        audit-over frames trace transcript device (run-of frames trace transcript device run) names status h.old h.new other h.device_is alike
        over.1 h.read
