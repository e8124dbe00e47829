-- Reading on, from one time to the next.
use Rattle.std.proofs.Common.{◌≡◌, ℕ, List, [], Bool, true, false, refl, sym, ◌∙◌, inl, inr}
use Rattle.std.proofs.lemmas.Bool.{true≢false}
use Rattle.av_ports.specs.declared.run_err.RunErr.{RunErr}
use Rattle.av_ports.specs.declared.run_err.RunErr.TheVariants as errors
use Rattle.av_ports.specs.Ports.{AreFlushed, AreUnfailed, PortsView, ReadsOn, StaysOpen}
use Rattle.av_ports.specs.Line.{FailsBy as PortsBy, IsUnread, StopsReading}
use Rattle.av_ports.proofs.Times.{failed_since, flushed_none, flushed_then, read_fault_since, unfailed_then}
use Rattle.av_audit_input.specs.declared.input_err.InputErr.{InputErr}
use Rattle.av_audit_input.specs.declared.input_err.InputErr.TheVariants as input
use Rattle.av_audit_input.specs.Input.{error_at, FailsBy, IsEnded, IsNoPortErr, IsOpen, OnlyReads}
use Rattle.av_audit_input.specs.Trace.{last_error, StopsMark}

pub only-none : (now : PortsView) → OnlyReads now now
only-none now = record { held = refl; device = refl; flushed = flushed_none now now refl refl }

pub only-then : (a b c : PortsView) → OnlyReads a b → OnlyReads b c → OnlyReads a c
only-then a b c p q = record {
  held = q.held ∙ p.held;
  device = q.device ∙ p.device;
  flushed = flushed_then 0 a b c p.flushed q.flushed;
}

pub only-read : (ahead ahead' : List ℕ) (old new : PortsView) → ReadsOn ahead ahead' old new → AreFlushed 0 old new → OnlyReads old new
only-read ahead ahead' old new reads flushed = record { held = reads.held; device = reads.device; flushed = flushed }

pub unfailed-none : (now : PortsView) → AreUnfailed now now
unfailed-none now = record { source = refl; sink = refl }

pub stays-then : (a b c : PortsView) → StaysOpen a.source b.source → StaysOpen b.source c.source → StaysOpen a.source c.source
stays-then a b c p q = λ untold. q (p untold)

-- an error since then
pub fails-since : (a b c : PortsView) (error : InputErr) → AreUnfailed a b → StaysOpen a.source b.source → FailsBy error b c → FailsBy error a c
fails-since a b c input.Read was stays h = record {
  read = read_fault_since a.source b.source c.source was.source stays h.read;
  sink = h.sink ∙ was.sink;
  none_kept = h.none_kept;
}
fails-since a b c input.Write was stays h = record {
  source = h.source ∙ was.source;
  sink = failed_since a.sink b.sink c.sink was.sink h.sink;
  untold = h.untold;
}
fails-since a b c (input.BadLine n) was stays h = unfailed_then a b c was h
fails-since a b c input.TooMany was stays h = unfailed_then a b c was h
fails-since a b c input.TooLong was stays h = unfailed_then a b c was h
fails-since a b c input.Memory was stays h = unfailed_then a b c was h

-- whether the input has ended, from one time to the next
pub is-open-then : (was mid is : Bool) (ahead ahead' : List ℕ) (a b c : PortsView) → IsOpen was mid ahead a b → IsOpen mid is ahead' b c
    → IsOpen was is ahead' a c
is-open-then was true is ahead ahead' a b c p q = record {
  stays = λ e. q.stays refl;
  ended = q.ended;
  untold = λ e. absurd (true≢false (sym (q.stays refl) ∙ e));
}
is-open-then was false is ahead ahead' a b c p q = record {
  stays = λ e. absurd (true≢false (sym (p.stays e)));
  ended = q.ended;
  untold = λ e. stays-then a b c (p.untold refl) (q.untold e);
}

pub is-open-none : (is : Bool) (ahead : List ℕ) (now : PortsView) → (is ≡ true → IsEnded ahead now) → IsOpen is is ahead now now
is-open-none is ahead now ended = record { stays = λ e. e; ended = ended; untold = λ e untold. untold }

-- an error since then, which is none of source or sink where the input has ended
pub fails-open : (was ended : Bool) (ahead : List ℕ) (a b c : PortsView) (error : InputErr) → IsOpen was ended ahead a b → AreUnfailed a b
    → (ended ≡ true → IsNoPortErr error) → FailsBy error b c → FailsBy error a c
fails-open was false ahead a b c error is was' none h = fails-since a b c error was' (is.untold refl) h
fails-open was true ahead a b c input.Read is was' none h = absurd (none refl (inl refl))
fails-open was true ahead a b c input.Write is was' none h = absurd (none refl (inr refl))
fails-open was true ahead a b c (input.BadLine n) is was' none h = unfailed_then a b c was' h
fails-open was true ahead a b c input.TooMany is was' none h = unfailed_then a b c was' h
fails-open was true ahead a b c input.TooLong is was' none h = unfailed_then a b c was' h
fails-open was true ahead a b c input.Memory is was' none h = unfailed_then a b c was' h

-- an error that tells of no failure
pub unfailed-by : (a b : PortsView) (error : InputErr) → (error ≡ input.Read → ⊥) → (error ≡ input.Write → ⊥) → AreUnfailed a b → FailsBy error a b
unfailed-by a b input.Read not_read not_write h = absurd (not_read refl)
unfailed-by a b input.Write not_read not_write h = absurd (not_write refl)
unfailed-by a b (input.BadLine n) not_read not_write h = h
unfailed-by a b input.TooMany not_read not_write h = h
unfailed-by a b input.TooLong not_read not_write h = h
unfailed-by a b input.Memory not_read not_write h = h

-- a read, or the flush before it, failed
port-fails : (a b : PortsView) (error : RunErr) (number : ℕ) → IsUnread error a b
    → PortsBy error a b → (error ≡ errors.Read → b.sink.kept_back ≡ []) → FailsBy (error_at error number) a b
port-fails a b errors.Read number unread fails none = record { read = unread; sink = fails; none_kept = none refl }
port-fails a b errors.Write number unread fails none = record { source = fails; sink = unread.1; untold = unread.0 }
port-fails a b errors.BadLine number unread fails none = absurd unread
port-fails a b errors.Memory number unread fails none = absurd unread

-- no line could be had
pub line-fails : (a b : PortsView) (mid : List ℕ) (error : RunErr) (number : ℕ) → StopsReading error mid a b
    → PortsBy error a b → (error ≡ errors.Read → b.sink.kept_back ≡ []) → FailsBy (error_at error number) a b
line-fails a b mid errors.Read number stops fails none = port-fails a b errors.Read number stops.1 fails none
line-fails a b mid errors.Write number stops fails none = port-fails a b errors.Write number stops.1 fails none
line-fails a b mid errors.BadLine number stops fails none = fails
line-fails a b mid errors.Memory number stops fails none = absurd stops.1

pub mark-fails : (a b : PortsView) (mid : List ℕ) (error : RunErr) → StopsReading error mid a b
    → PortsBy error a b → (error ≡ errors.Read → b.sink.kept_back ≡ []) → FailsBy (last_error error) a b
mark-fails a b mid errors.Read stops fails none = port-fails a b errors.Read 0 stops.1 fails none
mark-fails a b mid errors.Write stops fails none = port-fails a b errors.Write 0 stops.1 fails none
mark-fails a b mid errors.BadLine stops fails none = fails
mark-fails a b mid errors.Memory stops fails none = absurd stops.1

pub mark-stops : (a b : PortsView) (mid : List ℕ) (error : RunErr) → StopsReading error mid a b → StopsMark (last_error error) mid b
mark-stops a b mid errors.Read stops = stops.0
mark-stops a b mid errors.Write stops = stops.0
mark-stops a b mid errors.BadLine stops = inl stops
mark-stops a b mid errors.Memory stops = absurd stops.1
