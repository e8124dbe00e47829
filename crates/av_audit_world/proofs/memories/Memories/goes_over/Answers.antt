use Rattle.std.proofs.Common.{ap, sym, ◌∙◌}
use Rattle.av_plain.specs.Fork.{goes_over}
use Rattle.av_plain.specs.World.{pages}
use Rattle.av_audit_world.proofs.ChildLaws.{goes-same}
use Rattle.av_audit_world.proofs.WorldLaws.{found, no-pages, spaces-find}
use Rattle.av_audit_world.proofs.memories.Memories.goes_over.Goals as goal

pub returns-in-None : goal.returns-in-None
returns-in-None c = λ w h. sym (ap (λ q. goes_over (q c.args.page))
    (no-pages _ w c.args.number (spaces-find c.args.self.now.spaces.entries w c.args.number h.spaces) (sym c.in-None.ensures.value)))

pub returns-in-Some : goal.returns-in-Some
returns-in-Some c = λ w h. c.gives.ensures ∙ goes-same _ _ (pages w c.args.number c.args.page)
    ((found _ w c.args.number c.in-Some.space.now (spaces-find c.args.self.now.spaces.entries w c.args.number h.spaces) (sym c.in-Some.ensures.value)).1.pages
    c.args.page)
