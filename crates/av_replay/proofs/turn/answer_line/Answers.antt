use Rattle.std.proofs.Common.{◌≡◌, inr, ℕ, ◌<◌, List, length, sym, subst, ◌∙◌}
use Rattle.std.specs.Prelude.{take}
use Rattle.av_kernel.specs.Machine.{Machine}
use Rattle.av_io.specs.Sink.{HasFailed, SinkView}
use Rattle.av_plain.specs.Device.{IsSameDevice}
use Rattle.av_ports.specs.Ports.{OnlySink, PortsView, Writes}
use Rattle.av_replay.specs.KernelPorts.{OnlyDevice}
use Rattle.av_replay.specs.Turn.{LeavesSource}
use Rattle.av_replay.specs.Turn.{DoesLine, IsCut}
use Rattle.std.proofs.lemmas.Result.{err_from_is_err_and}
use Rattle.av_replay.proofs.Turns.{not_answered}
use Rattle.av_replay.proofs.turn.answer_line.Goals as goal

-- the line was done over the device, and then its text was written, which leaves the device
module _ (line : List ℕ) (old mid new : PortsView) (k k' : Machine) (text : List ℕ) (only : OnlySink mid new) (before : OnlyDevice old mid)
    (does : DoesLine line old.device mid.device k k' text) where
  done-over : DoesLine line old.device new.device k k' text
  done-over = subst (λ d. DoesLine line old.device d k k' text) (sym only.device) does

  writes-over : (shown : List ℕ) → Writes mid.sink new.sink shown → Writes old.sink new.sink shown
  writes-over shown = subst (λ (s : SinkView). Writes s new.sink shown) before.sink

  cut-over : (shown : List ℕ) → shown ≡ text → (n : ℕ) × (n < length shown) × Writes mid.sink new.sink (take n shown) → IsCut line old new k k'
  cut-over shown same cut = record {
    text = text;
    size = cut.0;
    short = subst (λ t. cut.0 < length t) same cut.1;
    does = done-over;
    writes = subst (λ t. Writes old.sink new.sink (take cut.0 t)) same (writes-over (take cut.0 shown) cut.2);
  }

leaves : (old mid new : PortsView) → OnlySink mid new → OnlyDevice old mid → LeavesSource old new
leaves old mid new only before = record {
  source = only.source ∙ before.source;
  device = subst (IsSameDevice old.device) (sym only.device) before.device;
}

pub returns-in-Ok-clause-does : goal.returns-in-Ok-clause-does
returns-in-Ok-clause-does g c =
    done-over c.args.line.now (g.P.Ports.view c.args.ports.now) (g.P.Ports.view c.do_line.new.ports) (g.P.Ports.view c.write_all.new.ports)
    c.args.kernel.now c.do_line.new.kernel
    c.do_line.new.scratch.text c.write_all.ensures.only c.do_line.ensures.only c.in_ok-do_line.ensures.ok

pub returns-in-Err-Failed-clause-err : goal.returns-in-Err-Failed-clause-err
returns-in-Err-Failed-clause-err g c = (
  cut-over c.args.line.now (g.P.Ports.view c.args.ports.now) (g.P.Ports.view c.do_line.new.ports) (g.P.Ports.view c.write_all.new.ports)
      c.args.kernel.now c.do_line.new.kernel
      c.do_line.new.scratch.text c.write_all.ensures.only c.do_line.ensures.only c.in_ok-do_line.ensures.ok c.as_slice.result.now c.as_slice.ensures
      c.in-Err-Failed.ensures.err,
  subst (λ (s : SinkView). HasFailed s (g.P.Ports.view c.write_all.new.ports).sink) c.do_line.ensures.only.sink
      (c.in-Err-Failed.ensures.cause c.in-Err-Failed.field-0-is),
)

pub returns-in-Err-Memory-clause-err : goal.returns-in-Err-Memory-clause-err
returns-in-Err-Memory-clause-err g c = inr
    (cut-over c.args.line.now (g.P.Ports.view c.args.ports.now) (g.P.Ports.view c.do_line.new.ports) (g.P.Ports.view c.write_all.new.ports)
    c.args.kernel.now c.do_line.new.kernel
    c.do_line.new.scratch.text c.write_all.ensures.only c.do_line.ensures.only c.in_ok-do_line.ensures.ok c.as_slice.result.now c.as_slice.ensures
    c.in-Err-Memory.ensures.err)

pub returns-in_err-do_line-clause-err : goal.returns-in_err-do_line-clause-err
returns-in_err-do_line-clause-err g c =
    let p = err_from_is_err_and c.from_residual.result c.from_residual.ensures.1 in
    rw (p.1, p.2) (not_answered c.in_err-do_line.field-0.0 c.args.line.now (g.P.Ports.view c.args.ports.now) (g.P.Ports.view c.do_line.new.ports)
    c.args.kernel.now c.do_line.new.kernel c.do_line.ensures.only c.in_err-do_line.ensures.err)
