-- Sources and sinks from one time to the next.
use Rattle.std.proofs.Common.{zero, suc, ◌≡◌, ℕ, ◌+◌, ap, ◌∙◌, arith}
use Rattle.av_io.specs.Count.{one_more}
use Rattle.av_io.specs.Source.{SourceView}
use Rattle.av_io.specs.Sink.{SinkView, HasFailed}
use Rattle.av_plain.specs.Device.{Device}
use Rattle.av_ports.specs.Ports.{PortsView, OnlySink, after_calls, AreFlushed, AreUnfailed, IsReadFault, StaysOpen}

-- ---- where only the sink changed

pub only_sink : (old new : PortsView) → OnlySink old new → new ≡ record old { sink = new.sink }
only_sink old new only =
    ap (λ (s : SourceView). record new { source = s }) only.source
    ∙ ap (λ (d : Device). record { source = old.source; sink = new.sink; device = d }) only.device

pub only_sink_then : (a b c : PortsView) → OnlySink a b → OnlySink b c → OnlySink a c
only_sink_then a b c p q = record { source = q.source ∙ p.source; device = q.device ∙ p.device }

-- ---- what failed, where nothing had before

pub unfailed_then : (a b c : PortsView) → AreUnfailed a b → AreUnfailed b c → AreUnfailed a c
unfailed_then a b c p q = record { source = q.source ∙ p.source; sink = q.sink ∙ p.sink }

pub failed_since : (a b c : SinkView) → b.failures ≡ a.failures → HasFailed b c → HasFailed a c
failed_since a b c same failed = record { failures = failed.failures ∙ ap one_more same; told = failed.told }

pub read_fault_since : (a b c : SourceView) → b.failures ≡ a.failures → StaysOpen a b → IsReadFault b c → IsReadFault a c
read_fault_since a b c same open_then failed = record {
  failures = failed.failures ∙ ap one_more same;
  stays_open = λ untold. failed.stays_open (open_then untold);
}

-- ---- reads, and flushes

pub after_calls-then : (m n count : ℕ) → after_calls m (after_calls n count) ≡ after_calls (n + m) count
after_calls-then zero n count = let e : n ≡ n + 0 = omega arith in ap (λ (k : ℕ). after_calls k count) e
after_calls-then (suc m) n count =
    let e : suc (n + m) ≡ n + suc m = omega arith in
    ap one_more (after_calls-then m n count) ∙ ap (λ (k : ℕ). after_calls k count) e

pub flushed_then : (more : ℕ) (a b c : PortsView) → AreFlushed 0 a b → AreFlushed more b c → AreFlushed more a c
flushed_then more a b c p q =
    let e : (p.n + 0) + (q.n + more) ≡ (p.n + q.n) + more = omega arith in
    record {
      n = p.n + q.n;
      reads = q.reads ∙ ap (after_calls q.n) p.reads ∙ after_calls-then q.n p.n a.source.reads;
      flushes = q.flushes ∙ ap (after_calls (q.n + more)) p.flushes ∙ after_calls-then (q.n + more) (p.n + 0) a.sink.flushes
          ∙ ap (λ (k : ℕ). after_calls k a.sink.flushes) e;
    }

-- no read, and no flush
pub flushed_none : (a b : PortsView) → b.source.reads ≡ a.source.reads → b.sink.flushes ≡ a.sink.flushes → AreFlushed 0 a b
flushed_none a b reads flushes = record { n = 0; reads = reads; flushes = flushes }
