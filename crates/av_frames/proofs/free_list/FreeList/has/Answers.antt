use Rattle.std.proofs.Common.{◌≡◌, ◌<◌, false, refl, sym, subst, ap, ◌∙◌}
use Rattle.av_base.specs.Words.{is_in}
use Rattle.av_frames.specs.declared.free_list.Place.{Place}
use Rattle.av_frames.specs.declared.free_list.Place.TheVariants.{Free, Used, Left}
use Rattle.av_frames.specs.Free.{FreeFrames, is_free}
use Rattle.av_frames.proofs.Free.{tells}
use Rattle.av_frames.proofs.free_list.FreeList.has.Goals as goal

other : (p : Place) → (p ≡ Free → ⊥) → false ≡ is_free p
other Free h = absurd (h refl)
other Used h = refl
other Left h = refl

pub returns-in-Free : goal.returns-in-Free
returns-in-Free c =
    sym (ap is_free c.in-Free.is) ∙ tells _ _ _ _ c.self.invariant c.args.frame _ c.index.ensures
    (subst (λ (v : FreeFrames). c.args.frame < v.count) (sym c.self.view_is) c.requires)
    ∙ ap (λ (v : FreeFrames). is_in c.args.frame v.items) c.self.view_is

pub returns-in_default : goal.returns-in_default
returns-in_default c =
    other c.index.result.now c.in_default.not-Free ∙ tells _ _ _ _ c.self.invariant c.args.frame _ c.index.ensures
    (subst (λ (v : FreeFrames). c.args.frame < v.count) (sym c.self.view_is) c.requires)
    ∙ ap (λ (v : FreeFrames). is_in c.args.frame v.items) c.self.view_is
