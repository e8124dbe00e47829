use Rattle.av_audit_ranges.specs.declared.marks.Change.TheVariants.{Protect}
use Rattle.av_audit_world.proofs.SpaceLaws.{on-ok, pages-changed}
use Rattle.av_audit_world.proofs.space.Space.protect.Goals as goal

pub returns-clause-ok : goal.returns-clause-ok
returns-clause-ok c = on-ok c.change.result c.change.ensures.ok (λ is q h.
    pages-changed c.args.self.now c.change.new.self q c.args.from c.args.n (Protect c.args.prot) h is)
