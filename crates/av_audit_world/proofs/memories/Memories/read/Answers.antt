use Rattle.std.proofs.Common.{subst, sym}
use Rattle.std.proofs.lemmas.Result.{IfOk-weaker}
use Rattle.av_plain.specs.Access.{Reads}
use Rattle.av_plain.specs.World.{no_pages, pages}
use Rattle.av_audit_world.proofs.WorldLaws.{found, no-pages, spaces-find}
use Rattle.av_audit_world.proofs.memories.Memories.read.Goals as goal

pub returns-in-None : goal.returns-in-None
returns-in-None c = IfOk-weaker c.read.result _ _ (λ shown reads w h.
    subst (λ q. Reads q c.args.address c.args.n shown.items)
    (sym (no-pages _ w c.args.number (spaces-find c.args.self.now.spaces.entries w c.args.number h.spaces) (sym c.in-None.ensures.value)))
    (reads no_pages c.new.ensures)) c.read.ensures

pub returns-in-Some : goal.returns-in-Some
returns-in-Some c = IfOk-weaker c.read-in-Some.result _ _ (λ shown reads w h. reads (pages w c.args.number)
    (found _ w c.args.number c.in-Some.space.now (spaces-find c.args.self.now.spaces.entries w c.args.number h.spaces)
    (sym c.in-Some.ensures.value)).1) c.read-in-Some.ensures
