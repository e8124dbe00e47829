use Rattle.std.proofs.Common.{ap, sym, nat_eq, ◌∙◌}
use Rattle.av_audit_world.proofs.KindLaws.{one-prot-none, one-prot-some}
use Rattle.av_audit_world.proofs.space.Space.have_one_prot.Goals as goal

pub returns-in-None : goal.returns-in-None
returns-in-None c = λ q h. one-prot-none c.args.self.now q c.args.from c.args.n h (sym c.marks.ensures ∙ c.in-None.is)

pub returns-in-Some : goal.returns-in-Some
returns-in-Some c = λ q h. ap (λ k. nat_eq k c.args.n) c.before-in-Some.ensures.pages
    ∙ one-prot-some c.args.self.now q c.args.from c.args.n h c.in-Some.marks (sym c.marks.ensures ∙ c.in-Some.is)
