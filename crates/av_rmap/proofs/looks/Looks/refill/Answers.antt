use Rattle.std.proofs.Common.{◌-◌, length, refl, sym, ap, ◌∙◌}
use Rattle.std.specs.Prelude.{slice_get}
use Rattle.av_rmap.proofs.NextAreas.{ahead-of, behind-all}
use Rattle.av_rmap.proofs.looks.Looks.refill.Goals as goal

pub returns-clause-same : goal.returns-clause-same
returns-clause-same g c =
    let view = g.K.Look.view c.args.look.now in
    let old = c.args.self.now in
    let last = c.copied-self.ensures ∙ c.last.ensures.value ∙ ap (λ places. slice_get places (length places - 1)) c.as_slice.ensures.value in
    ahead-of _ view old.last refl last c.is_full-self.ensures.value c.next.ensures.ordered c.next.ensures.found
    ∙ sym (behind-all old view c.requires.given c.requires.more)
