use Rattle.std.proofs.Common.{subst, sym}
use Rattle.av_vma.specs.Gap.{IsGap}
use Rattle.av_plain.specs.World.{is_mapped, no_pages, pages}
use Rattle.av_audit_world.proofs.WorldLaws.{found, no-pages, spaces-find}
use Rattle.av_audit_world.proofs.memories.Memories.gap.Goals as goal

pub returns-in-None-clause-gap : goal.returns-in-None-clause-gap
returns-in-None-clause-gap c = λ w h. subst (λ q. IsGap (is_mapped q) c.args.n c.gap.result)
    (sym (no-pages _ w c.args.number (spaces-find c.args.self.now.spaces.entries w c.args.number h.spaces) (sym c.in-None.ensures.value)))
    (c.gap.ensures.gap no_pages c.new.ensures)

pub returns-in-Some-clause-gap : goal.returns-in-Some-clause-gap
returns-in-Some-clause-gap c = λ w h. c.gap-in-Some.ensures.gap (pages w c.args.number)
    (found _ w c.args.number c.in-Some.space.now (spaces-find c.args.self.now.spaces.entries w c.args.number h.spaces) (sym c.in-Some.ensures.value)).1
