use Rattle.std.proofs.Common.{false, sym, ap, subst, arith}
use Rattle.av_rmap.specs.Items.{AreOnce, is_merged}
use Rattle.av_rmap.proofs.ItemLemmas.{is-kept, was-some}
use Rattle.av_rmap.proofs.items.Items.clear.Goals as goal

pub recount-self-inside-requires-clause-some : goal.recount-self-inside-requires-clause-some
recount-self-inside-requires-clause-some c =
    was-some c.self.inside.lists.items c.args.self.now c.args.frame c.self.inside.merged c.is_merged.result c.self.view_is c.requires c.is_merged.ensures
    c.self.invariant

pub invariant_of-self : goal.invariant_of-self
invariant_of-self c =
    is-kept c.self.inside.lists.items c.args.self.now c.args.frame c.self.inside.merged c.is_merged.result c.self.view_is c.requires c.is_merged.ensures
    c.self.invariant c.clear.new.self (subst AreOnce (sym c.clear.ensures) (λ x. omega arith)) false (ap is_merged (sym c.clear.ensures))
    c.recount-self-inside.result c.recount-self-inside.ensures
