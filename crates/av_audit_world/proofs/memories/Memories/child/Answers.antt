use Rattle.std.proofs.Common.{subst, sym}
use Rattle.std.proofs.lemmas.Result.{IfOk-weaker}
use Rattle.av_plain.specs.World.{child_of, pages}
use Rattle.av_audit_world.specs.Space.{IsSpace}
use Rattle.av_audit_world.proofs.WorldLaws.{found, no-pages, spaces-find}
use Rattle.av_audit_world.proofs.memories.Memories.child.Goals as goal

pub returns-in-None : goal.returns-in-None
returns-in-None c = λ w h. subst (λ q. IsSpace c.new.result (child_of q))
    (sym (no-pages _ w c.args.number (spaces-find c.args.self.now.spaces.entries w c.args.number h.spaces) (sym c.in-None.ensures.value)))
    c.new.ensures

pub returns-in-Some : goal.returns-in-Some
returns-in-Some c = IfOk-weaker c.child.result _ _ (λ made is w h. is (pages w c.args.number)
    (found _ w c.args.number c.in-Some.space.now (spaces-find c.args.self.now.spaces.entries w c.args.number h.spaces) (sym c.in-Some.ensures.value)).1)
    c.child.ensures
