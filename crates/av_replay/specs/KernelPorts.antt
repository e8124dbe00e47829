-- A source, a sink and a device, over which a kernel answers.
use Rattle.std.specs.Prelude.{◌≡◌, ℕ, List, Option}
use Rattle.av_io.specs.Source.{SourceView}
use Rattle.av_io.specs.Sink.{SinkView}
use Rattle.av_kernel.specs.Machine.{Machine}
use Rattle.av_step.specs.Step.{sizes_of}
use Rattle.av_swapdev.specs.Device.{History}
use Rattle.av_plain.specs.Device.{Device, IsSameDevice, seen_by}
use Rattle.av_ports.specs.Ports.{PortsView}

-- a source, a sink and a device, by what is told of each
abbrev pub ports_by : {S K D : Type 0} → (S → SourceView) → (K → SinkView) → (D → ℕ → Option ℕ)
    → (D → Option (ℕ → ℕ → List ℕ)) → (D → ℕ) → (D → History) → S → K → D → PortsView
ports_by source sink sizes pages failures history s k d = record {
  source = source s;
  sink = sink k;
  device = seen_by sizes pages failures history d;
}

-- nothing changed but the device, which is the same one
pub record OnlyDevice (old new : PortsView) : Type 0 where
  pub source : new.source ≡ old.source
  pub sink : new.sink ≡ old.sink
  pub device : IsSameDevice old.device new.device

-- the device has the swap areas with which the kernel was made
abbrev pub IsAttached : Device → Machine → Type 0
IsAttached device kernel = device.sizes ≡ sizes_of kernel.sizes
