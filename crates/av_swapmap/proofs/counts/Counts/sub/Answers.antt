use Rattle.std.proofs.Common.{ℕ, ◌≡◌, ◌-◌, ◌<◌, ◌≤◌, false, subst, sym, ap, arith}
use Rattle.av_swapmap.specs.Counts.{Store, shown}
use Rattle.av_swapmap.specs.contracts.counts.Counts.{the_view}
use Rattle.av_swapmap.proofs.Written.{whole_after, count_after, named_good}
use Rattle.av_swapmap.proofs.counts.Counts.sub.Goals as goal

less : (m n k : ℕ) → m < k → m - n < k
less m n k h = omega (arith, h)

pub invariant_of-self : goal.invariant_of-self
invariant_of-self c =
    whole_after (the_view c.self.inside) c.args.self.now c.self.view_is c.self.invariant c.args.page (c.get.result - c.args.n) _ c.cached.result _
    c.requires.in_range (less c.get.result c.args.n _ c.get.type_inv) c.byte_of-byte.ensures c.shrink.ensures

pub returns : goal.returns
returns c =
    let good = named_good (the_view c.self.inside) c.args.page c.args.n c.self.invariant
    (subst (λ (v : Store). c.args.n ≤ (shown v).count c.args.page) (sym c.self.view_is) c.requires.some) c.if-n-eq0.false in
    count_after (the_view c.self.inside) c.args.self.now c.self.view_is c.self.invariant c.args.page (c.get.result - c.args.n) _ c.cached.result _
    c.requires.in_range (less c.get.result c.args.n _ c.get.type_inv) c.byte_of-byte.ensures c.shrink.ensures
    (subst (λ (v : Store). (shown v).bad c.args.page ≡ false) c.self.view_is good) c.cached.ensures _ (ap (λ x. x - c.args.n) c.get.ensures)
