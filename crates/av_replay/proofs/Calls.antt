-- Calls of the source and the sink, by the status.
use Rattle.std.proofs.Common.{suc, ◌≡◌, ℕ, ◌+◌, List, [], Some, None, true, false, refl, ap, ◌∙◌, subst, inl, inr, arith}
use Rattle.std.specs.Prelude.{is_some, if◌then◌else◌}
use Rattle.av_kernel.specs.Machine.{Machine}
use Rattle.av_replay.specs.declared.status.Status.{Status}
use Rattle.av_replay.specs.declared.status.Status.TheVariants as statuses
use Rattle.av_ports.specs.declared.run_err.RunErr.{RunErr}
use Rattle.av_ports.specs.declared.run_err.RunErr.TheVariants as errors
use Rattle.av_io.specs.Count.{one_more}
use Rattle.av_io.specs.Sink.{SinkView, HandsOn}
use Rattle.av_ports.specs.Ports.{PortsView, AreFlushed, AreUnfailed, after_calls}
use Rattle.av_ports.specs.Line.{FailsBy, IsUnread}
use Rattle.av_replay.specs.Turn.{Finishes}
use Rattle.av_replay.specs.Replay.{FailsOnlyAt, IsHandedOn, status_at, can_go_on, kernel_at}
use Rattle.av_ports.proofs.Times.{unfailed_then, failed_since}

-- ---- by an error, which gives the status

module _ (old new : PortsView) where
  pub fails_at : (error : RunErr) (number : ℕ) → FailsBy error old new → FailsOnlyAt (status_at error number) old new
  fails_at errors.BadLine number fails = fails
  fails_at errors.Read number fails = fails
  fails_at errors.Write number fails = fails
  fails_at errors.Memory number fails = (fails.source, inl fails.sink)

  -- where memory was wanting nothing failed
  pub memory_at : (error : RunErr) (number : ℕ) → FailsBy error old new → status_at error number ≡ statuses.Memory → AreUnfailed old new
  memory_at errors.BadLine number fails e = fails
  memory_at errors.Read number fails e = absurd cc
  memory_at errors.Write number fails e = absurd cc
  memory_at errors.Memory number fails e = fails

  -- it could not be found out whether more lines come
  pub unread_at : (error : RunErr) (number : ℕ) (ahead : List ℕ) → ahead ≡ [] → IsUnread error old new
      → Finishes (status_at error number) ahead old new
  unread_at errors.Read number ahead none unread = (none, unread)
  unread_at errors.Write number ahead none unread = (none, unread.0, unread.1)
  unread_at errors.BadLine number ahead none unread = absurd unread
  unread_at errors.Memory number ahead none unread = absurd unread

  pub finished_memory : (status : Status) (ahead : List ℕ) → Finishes status ahead old new → status ≡ statuses.Memory → AreUnfailed old new
  finished_memory status ahead finished e = absurd (subst (λ (s : Status). Finishes s ahead old new) e finished)

pub read_at : (error : RunErr) (number : ℕ) → status_at error number ≡ statuses.ReadFault → error ≡ errors.Read
read_at errors.BadLine number e = absurd cc
read_at errors.Read number e = refl
read_at errors.Write number e = absurd cc
read_at errors.Memory number e = absurd cc

pub goes_on_at : (status : Status) (kernel : Machine) → is_some (kernel_at status kernel) ≡ can_go_on status
goes_on_at status kernel = elim (can_go_on status) as (λ b. is_some (if b then Some kernel else None) ≡ b) [ true ↦ refl | false ↦ refl ]

-- ---- where nothing had failed before

module _ (old now new : PortsView) (was : AreUnfailed old now) where
  pub fails_then : (error : RunErr) → FailsBy error now new → FailsBy error old new
  fails_then errors.BadLine fails = unfailed_then old now new was fails
  fails_then errors.Read fails = fails ∙ was.sink
  fails_then errors.Write fails = fails ∙ was.source
  fails_then errors.Memory fails = unfailed_then old now new was fails

  pub fails_since : (status : Status) → FailsOnlyAt status now new → FailsOnlyAt status old new
  fails_since statuses.Done fails = unfailed_then old now new was fails
  fails_since statuses.Usage fails = unfailed_then old now new was fails
  fails_since (statuses.BadLine n) fails = unfailed_then old now new was fails
  fails_since statuses.TooMany fails = unfailed_then old now new was fails
  fails_since statuses.AttachFault fails = unfailed_then old now new was fails
  fails_since (statuses.Illegal number) fails = unfailed_then old now new was fails
  fails_since statuses.TooLong fails = unfailed_then old now new was fails
  fails_since statuses.ReadFault fails = fails ∙ was.sink
  fails_since statuses.WriteFault fails = fails ∙ was.source
  fails_since statuses.Memory fails = (
    fails.0 ∙ was.source,
    elim fails.1 [
      | inl same ↦ inl (same ∙ was.sink)
      | inr failed ↦ inr (failed.0, failed_since old.sink now.sink new.sink was.sink failed.1)
    ],
  )

-- ---- the last flush

pub handed_on : (old now : PortsView) (sink : SinkView) → AreFlushed 0 old now → HandsOn now.sink sink → IsHandedOn 1 old (record now { sink = sink })
handed_on old now sink was hands_on =
    let e : suc (was.n + 0) ≡ was.n + 1 = omega arith in
    record {
      none_kept = hands_on.all;
      flushed = record {
        n = was.n;
        reads = was.reads;
        flushes = hands_on.flushes ∙ ap one_more was.flushes ∙ ap (λ (k : ℕ). after_calls k old.sink.flushes) e;
      };
    }
