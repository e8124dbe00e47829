-- How a text is written in the end.
use Rattle.std.proofs.Common.{◌≡◌, ℕ, ◌<◌, List, [], ◌++◌, Option, Some, None, length, take, sym, subst, ◌∙◌, ap, inl, inr}
use Rattle.av_io.specs.Count.{one_more}
use Rattle.av_io.specs.Sink.{Gained, HandsOn, HasFailed, SinkView}
use Rattle.av_replay.specs.declared.status.Status.{Status}
use Rattle.av_replay.specs.declared.status.Status.TheVariants as statuses
use Rattle.av_ports.specs.Ports.{Writes}
use Rattle.av_replay.specs.Replay.{FlushesLast}
use Rattle.av_replay.specs.Summary.{EndsText, HandsOnAll, WritesFront}
use Rattle.av_ports.proofs.Times.{failed_since}

-- a sink that doesn't tell what it holds never did
untold : (before now : Option (List ℕ)) (bytes : List ℕ) → Gained before now bytes → now ≡ None → Gained before now []
untold None now bytes gained none = gained
untold (Some text) now bytes gained none = let e : Some (text ++ bytes) ≡ None = sym gained ∙ none in absurd cc

module _ (old mid new : SinkView) (text : List ℕ) (last : Status) where
  named : (status : Status) → last ≡ status → EndsText status old new text → EndsText last old new text
  named status is ends = subst (λ (s : Status). EndsText s old new text) (sym is) ends

  held-on : (bytes : List ℕ) → new.held ≡ mid.held → Gained old.held mid.held bytes → Gained old.held new.held bytes
  held-on bytes same gained = same ∙ gained

  -- all of it was written
  module _ (writes : Writes old mid text) (was : mid.failures ≡ old.failures) where
    hands-on-all : HandsOn mid new → HandsOnAll old new
    hands-on-all on = record { none_kept = on.all; flushes = on.flushes ∙ ap one_more writes.flushes; unfailed = on.unfailed ∙ was }

    pub written : 0 < length text → FlushesLast statuses.Done last mid new → EndsText last old new text
    written some (inl f) = named statuses.Done f.0 (held-on text f.1.held writes.gained, hands-on-all f.1)
    written some (inr f) = named statuses.WriteFault f.0 (
      (0, some, f.1.held ∙ untold old.held mid.held text writes.gained f.1.untold),
      f.1.flushes ∙ writes.flushes,
      failed_since old mid new was f.1.failed,
    )

  -- a front of it was written
  module _ (front : (n : ℕ) × (n < length text) × Writes old mid (take n text)) where
    kept-front : new.held ≡ mid.held → WritesFront old new text
    kept-front same = (front.0, front.1, held-on (take front.0 text) same front.2.gained)

    -- the sink failed
    pub failed : HasFailed old mid → FlushesLast statuses.WriteFault last mid new → EndsText last old new text
    failed fails f = named statuses.WriteFault f.0 (
      kept-front (ap (λ (s : SinkView). s.held) f.1),
      ap (λ (s : SinkView). s.flushes) f.1 ∙ front.2.flushes,
      subst (λ (s : SinkView). HasFailed old s) (sym f.1) fails,
    )

    -- memory was wanting
    pub wanting : mid.failures ≡ old.failures → FlushesLast statuses.Memory last mid new → EndsText last old new text
    wanting was (is, inl on) = named statuses.Memory is (
      kept-front on.held,
      inl (record { none_kept = on.all; flushes = on.flushes ∙ ap one_more front.2.flushes; unfailed = on.unfailed ∙ was }),
    )
    wanting was (is, inr keeps) = named statuses.Memory is (
      kept-front keeps.held,
      inr ((keeps.held ∙ keeps.untold, failed_since old mid new was keeps.failed), keeps.flushes ∙ front.2.flushes),
    )
