use Rattle.std.proofs.Common.{◌≡◌, ℕ, ◌<◌, false, [], ◌∷◌, length, Option, None, Some, MatchOption, refl, sym, ap, subst, ◌∙◌}
use Rattle.av_base.specs.Words.{is_in}
use Rattle.av_frames.specs.Free.{FreeFrames}
use Rattle.av_frames.specs.Store.{Store, shown}
use Rattle.av_frames.specs.contracts.frames.Frames.{the_view}
use Rattle.av_frames.proofs.frames.Frames.take.Goals as goal

taken : (s : Store) (old new : FreeFrames) (o : Option ℕ) → s.free ≡ old.items → old.count ≡ length s.bytes
    → MatchOption o ((old.items ≡ []) × (new ≡ old))
    (λ f. (old.items ≡ f ∷ new.items) × (f < old.count) × (is_in f new.items ≡ false) × (new.count ≡ old.count))
    → MatchOption o ((s.free ≡ []) × (shown (record s { free = new.items }) ≡ shown s))
    (λ f. (s.free ≡ f ∷ new.items) × (f < length s.bytes) × (is_in f new.items ≡ false)
    × (shown (record s { free = new.items }) ≡ record (shown s) { free = new.items }))
taken s old new None same count h =
    (same ∙ h.0, ap (λ (q : FreeFrames). shown (record s { free = q.items })) h.1 ∙ ap (λ xs. shown (record s { free = xs })) (sym same))
taken s old new (Some f) same count h = (same ∙ h.0, subst (λ n. f < n) count h.1, h.2, refl)

pub returns : goal.returns
returns c = rw (← c.self.view_is) (taken (the_view c.self.inside) c.self.inside.free c.take.new.self c.take.result refl c.self.invariant.free c.take.ensures)
