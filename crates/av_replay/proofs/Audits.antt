-- How an audit ends, and over which machine.
use Rattle.std.proofs.Common.{◌≡◌, ◌≢◌, ℕ, List, [], Option, Some, None, refl, sym, subst, inl, inr}
use Rattle.std.specs.Prelude.{IfSome}
use Rattle.av_io.specs.Count.{Rose}
use Rattle.av_plain.specs.Device.{Device, setting_of}
use Rattle.av_plain.specs.Ledger.{Setting}
use Rattle.av_ports.specs.Ports.{OnlySink, PortsView}
use Rattle.av_audit_input.proofs.InputLaws.{only-none, unfailed-none}
use Rattle.av_audit_input.specs.declared.input_err.InputErr.{InputErr}
use Rattle.av_audit_input.specs.declared.input_err.InputErr.TheVariants as input
use Rattle.av_audit_run.specs.declared.transcript.Finding.{Finding}
use Rattle.av_audit_run.specs.declared.transcript.Finding.TheVariants as findings
use Rattle.av_audit_machine.specs.Heads.{IsSettingOf, OnlyFails}
use Rattle.av_replay.specs.declared.status.Status.{Status}
use Rattle.av_replay.specs.declared.status.Status.TheVariants as statuses
use Rattle.av_replay.specs.Audit.{CannotGoOn, DoesAudit, EndsAudit, Finds, legal_text, status_by}
use Rattle.av_replay.specs.Summary.{EndsText}

module _ (m : Setting) (old new : PortsView) where
  -- it is legal, and that was written, or not
  pub legal-ends : (status : Status) (mid : PortsView) → Finds findings.Legal m old mid → OnlySink mid new
      → EndsText status mid.sink new.sink legal_text → EndsAudit status m old new
  legal-ends statuses.Done mid finds only ends = (mid, finds, only, ends)
  legal-ends statuses.WriteFault mid finds only ends = inr (mid, finds, only, ends)
  legal-ends statuses.Memory mid finds only ends = inr (mid, finds, only, ends)
  legal-ends statuses.Usage mid finds only ends = absurd ends
  legal-ends statuses.AttachFault mid finds only ends = absurd ends
  legal-ends (statuses.BadLine number) mid finds only ends = absurd ends
  legal-ends statuses.TooMany mid finds only ends = absurd ends
  legal-ends statuses.ReadFault mid finds only ends = absurd ends
  legal-ends (statuses.Illegal number) mid finds only ends = absurd ends
  legal-ends statuses.TooLong mid finds only ends = absurd ends

  -- it could not go on
  pub breaks-ends : (error : InputErr) → CannotGoOn error m old new → EndsAudit (status_by error) m old new
  breaks-ends (input.BadLine number) breaks = breaks
  breaks-ends input.TooMany breaks = breaks
  breaks-ends input.TooLong breaks = breaks
  breaks-ends input.Read breaks = breaks
  breaks-ends input.Write breaks = inl breaks
  breaks-ends input.Memory breaks = inl breaks

  -- an audit that was begun doesn't end so
  pub never-misused : (status : Status) → EndsAudit status m old new → status ≢ statuses.Usage
  never-misused status ends usage = absurd (subst (λ (s : Status). EndsAudit s m old new) usage ends)

  pub never-attaches : (status : Status) → EndsAudit status m old new → status ≢ statuses.AttachFault
  never-attaches status ends fault = absurd (subst (λ (s : Status). EndsAudit s m old new) fault ends)

-- where nothing failed the device is as it was
pub device-same : (old new : Device) → OnlyFails old new → new.failures ≡ old.failures → new ≡ old
device-same old new only unfailed = λ i. record {
  sizes = only.sizes i;
  pages = only.pages i;
  failures = unfailed i;
  history = only.history i;
}

-- pages that a device may have
abbrev told-by : Option (ℕ → ℕ → List ℕ) → ℕ → ℕ → List ℕ
told-by None = λ area page. []
told-by (Some pages) = pages

is-told : (pages : Option (ℕ → ℕ → List ℕ)) → IfSome pages (λ told. told ≡ told-by pages)
is-told None = tt
is-told (Some pages) = refl

-- memory was wanting before anything was read
pub wanting : (frames : ℕ) (old : PortsView) → DoesAudit frames statuses.Memory old old
wanting frames old =
    let told = told-by old.device.pages in (
      setting_of frames (record old.device { pages = Some told }),
      (told, is-told old.device.pages, refl),
      inl (inl (refl, refl), only-none old, unfailed-none old),
    )

-- nothing failed of the device before it
pub does-after : (frames : ℕ) (status : Status) (old mid new : PortsView) (m : Setting) → old ≡ mid → IsSettingOf frames old.device m
    → EndsAudit status m mid new → DoesAudit frames status old new
does-after frames status old mid new m same is ends = (m, is, subst (λ (p : PortsView). EndsAudit status m p new) (sym same) ends)
