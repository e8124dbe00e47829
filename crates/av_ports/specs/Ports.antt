-- The outside of a run: a source, a sink and a device, side by side.
use Rattle.std.specs.Prelude.{◌≡◌, ℕ, zero, suc, ◌+◌, ◌≤◌, List, length, Option, false, true}
use Rattle.av_io.specs.Count.{one_more}
use Rattle.av_io.specs.Source.{SourceView, in_front, HasEnded}
use Rattle.av_io.specs.Sink.{SinkView, Gained}
use Rattle.av_plain.specs.Device.{Device}

-- what is told of a source, a sink and a device at one time
pub record PortsView : Type 0 where
  pub source : SourceView
  pub sink : SinkView
  pub device : Device

-- nothing changed but the source
pub record OnlySource (old new : PortsView) : Type 0 where
  pub sink : new.sink ≡ old.sink
  pub device : new.device ≡ old.device

-- nothing changed but the sink
pub record OnlySink (old new : PortsView) : Type 0 where
  pub source : new.source ≡ old.source
  pub device : new.device ≡ old.device

-- so many bytes are read at once, at most, and no more are ever kept of what was read
abbrev pub room : ℕ
room = 65536

-- all that is not done: what was read ahead, and what the source has left
abbrev pub undone : List ℕ → PortsView → Option (List ℕ)
undone ahead io = in_front ahead io.source.left

-- a count after so many calls more
abbrev pub after_calls : ℕ → ℕ → ℕ
after_calls zero count = count
after_calls (suc n) count = one_more (after_calls n count)

-- the source was read n times, and the sink flushed as often, and so many times more
pub record AreFlushed (more : ℕ) (old new : PortsView) : Type 0 where
  pub n : ℕ
  pub reads : new.source.reads ≡ after_calls n old.source.reads
  pub flushes : new.sink.flushes ≡ after_calls (n + more) old.sink.flushes

-- the source has not told its end, unless it had before
abbrev pub StaysOpen : SourceView → SourceView → Type 0
StaysOpen old new = old.has_told_end ≡ false → new.has_told_end ≡ false

-- the source failed, and had not told its end, unless it had before
pub record IsReadFault (old new : SourceView) : Type 0 where
  pub failures : new.failures ≡ one_more old.failures
  pub stays_open : StaysOpen old new

-- nothing was done of what was read, though more may have been read
pub record ReadsOn (ahead ahead' : List ℕ) (old new : PortsView) : Type 0 where
  pub same : undone ahead' new ≡ undone ahead old
  pub held : new.sink.held ≡ old.sink.held
  pub device : new.device ≡ old.device
  pub near : length ahead' ≤ room

-- from one time to a later one neither the source nor the sink failed
pub record AreUnfailed (old new : PortsView) : Type 0 where
  pub source : new.source.failures ≡ old.source.failures
  pub sink : new.sink.failures ≡ old.sink.failures

-- the input has ended, and the source told so
pub record IsAtEnd (source : SourceView) : Type 0 where
  pub ended : HasEnded source.left
  pub told : source.has_told_end ≡ true

-- a text was written, and nothing flushed
pub record Writes (old new : SinkView) (text : List ℕ) : Type 0 where
  pub gained : Gained old.held new.held text
  pub flushes : new.flushes ≡ old.flushes
